use Rattle.std.proofs.Common.{Some}
use Rattle.fuse_store.specs.TableKeeper.{parts_state}
use Rattle.sqlite.specs.Held.{state}
use Rattle.fuse_files.specs.inner.Verifying.{IsCountedOver, IsUnsaidOver, IsCountedInside, IsUnsaidInside}
use Rattle.fuse_files.proofs.Looks.{good_memory}
use Rattle.fuse_files.proofs.Verified.{verdict_more}
use Rattle.fuse_files.proofs.verifying.verify_inside.Goals as goal

pub returns-clause-verified : goal.returns-clause-verified
returns-clause-verified g c = λ clean sure.
    let s = parts_state g.S.Store g.D.Disk (record { conn = c.args.conn; disk = Some c.args.memory }) in
    let t = state g.S.Store c.args.conn in
    verdict_more g.W.Sink.was_written g.W.Sink.was_flushed {Unsaid = IsUnsaidOver s} {Counted = IsCountedOver s}
    {Unsaid' = IsUnsaidInside t} {Counted' = IsCountedInside t} _ _ _
    (λ e so. (so.0, λ z was. so.1 z (was.0, was.1, was.2 _))) (λ n so. λ z was. so z (was.0, was.1, was.2 _))
    (c.verify_of-ending.ensures.verified clean (good_memory g.D.Disk sure c.verify_of-ending.result.disk))

pub returns-clause-says : goal.returns-clause-says
returns-clause-says g c = λ clean sure. c.verify_of-ending.ensures.says clean (good_memory g.D.Disk sure c.verify_of-ending.result.disk)
