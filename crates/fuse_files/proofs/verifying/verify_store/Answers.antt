use Rattle.std.proofs.Common.{inl, inr, refl}
use Rattle.sqlite.specs.Files.{file_state, over_files}
use Rattle.fuse_store.specs.TableKeeper.{parts_state}
use Rattle.fuse_files.specs.StoreShown.{image_in, store_read}
use Rattle.fuse_files.specs.StoreVerified.{IsCounted, IsUnsaid}
use Rattle.fuse_files.specs.inner.Verifying.{IsCountedOver, IsUnsaidOver, IsCountedInside, IsUnsaidInside}
use Rattle.fuse_files.proofs.Opened.{clean_conn, was_for, was_inside, inside_of, says_nothing, says_true}
use Rattle.fuse_files.proofs.Verified.{verdict_none, verdict_more, unopened_of_store}
use Rattle.fuse_files.proofs.verifying.verify_store.Goals as goal

pub returns-in-Err-clause-verified : goal.returns-in-Err-clause-verified
returns-in-Err-clause-verified g c = λ good.
    let it = store_read g.D.Disk c.args.read c.args.disk in
    let fault = c.in-Err.ensures.fault in
    let unsaid : IsUnsaid it c.in-Err.ending = (unopened_of_store it.tables _ fault, λ z held. says_nothing it z held _ fault) in
    verdict_none g.W.Sink.was_written g.W.Sink.was_flushed {Unsaid = IsUnsaid it} _ _ unsaid

pub returns-in-Err-clause-says : goal.returns-in-Err-clause-says
returns-in-Err-clause-says g c = λ good. inl c.in-Err.ensures.fault

pub returns-then-lies_beside-clause-verified : goal.returns-then-lies_beside-clause-verified
returns-then-lies_beside-clause-verified g c = λ good.
    let it = store_read g.D.Disk c.args.read c.args.disk in
    let s = parts_state over_files g.D.Disk (record { conn = c.in-Ok.conn; disk = c.args.disk }) in
    verdict_more g.W.Sink.was_written g.W.Sink.was_flushed {Unsaid = IsUnsaidOver s} {Counted = IsCountedOver s}
    {Unsaid' = IsUnsaid it} {Counted' = IsCounted it} _ _ _
    (λ e so. (so.0, λ z held. so.1 z (was_for it z held c.plain_over_any.ensures s c.in-Ok.ensures.opened.0 c.in-Ok.ensures.found refl)))
    (λ t so. λ z held. so z (was_for it z held c.plain_over_any.ensures s c.in-Ok.ensures.opened.0 c.in-Ok.ensures.found refl))
    (c.verify_of.ensures.verified (clean_conn (λ m. refl)) good)

pub returns-then-lies_beside-clause-says : goal.returns-then-lies_beside-clause-says
returns-then-lies_beside-clause-says g c = λ good.
    inr (says_true (image_in c.args.read) (file_state c.in-Ok.conn) _ c.in-Ok.ensures.opened.0 c.in-Ok.ensures.opened.1 c.in-Ok.ensures.found
    (c.verify_of.ensures.says (clean_conn (λ m. refl)) good))

pub returns-clause-verified : goal.returns-clause-verified
returns-clause-verified g c = λ good.
    let it = store_read g.D.Disk c.args.read c.args.disk in
    let s = file_state c.in-Ok.conn in
    let inside = inside_of s.now c.lies_beside.result c.lies_beside.ensures c.if-lies_beside.false in
    verdict_more g.W.Sink.was_written g.W.Sink.was_flushed {Unsaid = IsUnsaidInside s} {Counted = IsCountedInside s}
    {Unsaid' = IsUnsaid it} {Counted' = IsCounted it} _ _ _
    (λ e so. (so.0, λ z held. so.1 z (was_inside it z held c.plain_over_any.ensures s c.in-Ok.ensures.opened.0 c.in-Ok.ensures.opened.1 c.in-Ok.ensures.found inside)))
    (λ t so. λ z held. so z (was_inside it z held c.plain_over_any.ensures s c.in-Ok.ensures.opened.0 c.in-Ok.ensures.opened.1 c.in-Ok.ensures.found inside))
    (c.verify_inside-ending.ensures.verified (clean_conn (λ m. refl)) (λ m. refl))

pub returns-clause-says : goal.returns-clause-says
returns-clause-says g c = λ good.
    inr (says_true (image_in c.args.read) (file_state c.in-Ok.conn) _ c.in-Ok.ensures.opened.0 c.in-Ok.ensures.opened.1 c.in-Ok.ensures.found
    (c.verify_inside-ending.ensures.says (clean_conn (λ m. refl)) (λ m. refl)))
