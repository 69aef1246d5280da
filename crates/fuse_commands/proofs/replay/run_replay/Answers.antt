use Rattle.std.proofs.Common.{arith}
use Rattle.fuse_commands.proofs.Printed.{printed, fault_printed}
use Rattle.fuse_commands.proofs.replay.run_replay.Goals as goal

pub returns-in-Ok-clause-replayed : goal.returns-in-Ok-clause-replayed
returns-in-Ok-clause-replayed g c = λ of_stream input known.
    let session = c.serve_stream-session in
    printed c.len_stands_first.ensures c.said_fits.ensures (g.K.Keeper.told c.args.keeper.now)
    (g.K.Keeper.told session.new.keeper) c.args.moment input session.result.sent.items session.result.counts session.result.ending
    c.args.shows_seen (g.W.Write.contents c.args.writer.now) (g.W.Write.contents c.print_session.new.writer) (c.in-Ok.ensures.ok of_stream)
    (session.ensures.replayed of_stream input known)

pub returns-in-Ok-clause-faulted : goal.returns-in-Ok-clause-faulted
returns-in-Ok-clause-faulted g c = λ of_store input known.
    let session = c.serve_stream-session in
    fault_printed c.len_stands_first.ensures c.said_fits.ensures (g.K.Keeper.told c.args.keeper.now)
    (g.K.Keeper.told session.new.keeper) c.args.moment input session.result.sent.items session.result.ending
    (g.W.Write.contents c.args.writer.now) (g.W.Write.contents c.print_session.new.writer)
    (c.in-Ok.ensures.fault (λ of_stream. omega (arith, of_stream, of_store))) (session.ensures.faulted of_store input known)

pub returns-in-Ok-clause-kept : goal.returns-in-Ok-clause-kept
returns-in-Ok-clause-kept g c = c.serve_stream-session.ensures.kept
