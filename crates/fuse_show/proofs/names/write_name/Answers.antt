use Rattle.std.proofs.Common.{get_or, refl}
use Rattle.fuse_show.specs.Names.{byte_text}
use Rattle.fuse_show.proofs.Sinking.{takes_none, each_then, each_stop, each_ends}
use Rattle.fuse_show.proofs.names.write_name.Goals as goal

pub loop-byte-init : goal.loop-byte-init
loop-byte-init g c = takes_none g.W.Sink.was_written _

pub loop-byte-preserved : goal.loop-byte-preserved
loop-byte-preserved g c =
    let i = c.loop-byte.byte-index in
    each_then g.W.Sink.was_written _ _ _ _ byte_text c.args.name.now i (get_or c.args.name.now i 0) 0 _ c.loop-byte-test.true refl refl c.loop-byte.invariant
    c.in-Ok.ensures.put

pub returns-in-Err-clause-put : goal.returns-in-Err-clause-put
returns-in-Err-clause-put g c =
    let i = c.loop-byte.byte-index in
    each_stop g.W.Sink.was_written _ _ _ c.in-Err.fault byte_text c.args.name.now i (get_or c.args.name.now i 0) 0 _ c.loop-byte-test.true refl refl
    c.loop-byte.invariant c.in-Err.ensures.put

pub returns-clause-put : goal.returns-clause-put
returns-clause-put g c = each_ends g.W.Sink.was_written _ _ _ byte_text c.args.name.now c.loop-byte.byte-index c.loop-byte-test.false c.loop-byte.invariant
