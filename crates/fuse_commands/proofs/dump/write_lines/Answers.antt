use Rattle.std.proofs.lemmas.Result.{err_from_is_err_and}
use Rattle.std.specs.Io.KnownBytes.{Appends}
use Rattle.fuse_commands.specs.inner.Messages.{left_in, place_in}
use Rattle.fuse_commands.specs.Dumping.{dump_lines}
use Rattle.fuse_commands.proofs.Dumps.{none_dumped, some_dumped}
use Rattle.fuse_commands.proofs.Tallies.{none_yet, went_err, went_whole}
use Rattle.fuse_commands.proofs.dump.write_lines.Goals as goal

pub loop-placed-init : goal.loop-placed-init
loop-placed-init g c =
    none_yet _ _ (λ ms. Appends (g.W.Write.contents c.args.writer.now) (g.W.Write.contents c.args.writer.now) (dump_lines 0 ms)) c.requires
    (none_dumped (g.W.Write.contents c.args.writer.now))

pub loop-placed-preserved : goal.loop-placed-preserved
loop-placed-preserved g c =
    some_dumped _ _ _ _ _ _ _ _ c.in-Some.placed c.loop-placed.invariant (rw c.in-Some.is at c.in_ok-placed.ensures.next) c.in_ok-write_line.ensures.ok

pub loop-placed-preserved-in_ok-write_line : goal.loop-placed-preserved-in_ok-write_line
loop-placed-preserved-in_ok-write_line g c =
    some_dumped _ _ _ _ _ _ _ _ c.in-Some.placed c.loop-placed.invariant (rw c.in-Some.is at c.in_ok-placed.ensures.next) c.in_ok-write_line.ensures.ok

pub returns-in_err-placed : goal.returns-in_err-placed
returns-in_err-placed g c =
    let p = err_from_is_err_and c.from_residual.result c.from_residual.ensures.1 in
    rw (p.1, p.2) (went_err (left_in g.R.Read.remaining c.args.messages.now) _ (left_in g.R.Read.remaining c.next.new.self) _ (place_in c.next.new.self)
    (λ ms. Appends (g.W.Write.contents c.args.writer.now) (g.W.Write.contents c.loop-placed.writer) (dump_lines 0 ms)) _ c.one_cut.ensures c.cut_steps.ensures
    c.loop-placed.invariant c.in_err-placed.ensures.next)

pub returns : goal.returns
returns g c = went_whole _ _ _ _ c.one_cut.ensures c.cut_steps.ensures c.loop-placed.invariant (rw c.in_default.is at c.in_ok-placed.ensures.next)
