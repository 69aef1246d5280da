use Rattle.std.proofs.Common.{Ok, Err}
use Rattle.sqlite.specs.Held.{state}
use Rattle.fuse_store_tables.specs.Content.{Holds}
use Rattle.fuse_store_tables.specs.Migrating.{counting_written}
use Rattle.fuse_store_tables.specs.Opening.{IsSecond, IsToCount}
use Rattle.fuse_store_tables.specs.inner.Copies.{IsCopyOf, IsRead}
use Rattle.fuse_store_tables.proofs.CountedFit.{KnownRead, reads_known, writes_known, reads_fail, reads_sure, used_sure}
use Rattle.fuse_store_tables.proofs.Joining.{then_as, fails_next}
use Rattle.fuse_store_tables.proofs.Renewed.{plain_back}
use Rattle.fuse_store_tables.proofs.Within.{takes_within, within_then, within_fails, within_failed, within_told}
use Rattle.fuse_store_tables.proofs.everyday.to_third.Goals as goal

pub returns-in_err-copies-clause-made : goal.returns-in_err-copies-clause-made
returns-in_err-copies-clause-made g c =
    reads_fail (λ k s. IsCopyOf s k) (λ k. IsSecond (counting_written c.args.number k)) (state g.S.Store c.args.conn.now) (state g.S.Store c.read_store.new.conn)
    (Err _) c.from_residual.result c.in_err-copies.ensures c.from_residual.ensures.0

pub returns-in_err-used-clause-made : goal.returns-in_err-used-clause-made
returns-in_err-used-clause-made g c =
    reads_fail (λ k s. IsCopyOf s k) (λ k. IsSecond (counting_written c.args.number k)) (state g.S.Store c.args.conn.now) (state g.S.Store c.read_store.new.conn)
    (Ok _) c.from_residual-in_err-used.result c.in_ok-copies.ensures c.from_residual-in_err-used.ensures.0

pub returns-in_err-write_store-clause-made : goal.returns-in_err-write_store-clause-made
returns-in_err-write_store-clause-made g c =
    let s = c.in_ok-copies.copies in
    let u = c.in_ok-used.used in
    let b = state g.S.Store c.read_store.new.conn in
    let d = state g.S.Store c.write_store.new.conn in
    fails_next IsToCount (KnownRead s u) (λ k. IsSecond (counting_written c.args.number k)) (λ k. IsSecond (counting_written c.args.number k))
    (state g.S.Store c.args.conn.now) b d _ _ c.from_residual-in_err-write_store.result
    (reads_known s u (state g.S.Store c.args.conn.now) b c.in_ok-copies.ensures c.in_ok-used.ensures.value)
    (writes_known s u c.args.number c.requires b d (Err _) c.in_err-write_store.ensures) c.from_residual-in_err-write_store.ensures.0

pub returns-clause-made : goal.returns-clause-made
returns-clause-made g c =
    let s = c.in_ok-copies.copies in
    let u = c.in_ok-used.used in
    let b = state g.S.Store c.read_store.new.conn in
    let d = state g.S.Store c.write_store.new.conn in
    let all =
    then_as IsToCount (KnownRead s u) (λ k. IsSecond (counting_written c.args.number k)) (state g.S.Store c.args.conn.now) b d _ (Ok _)
    (reads_known s u (state g.S.Store c.args.conn.now) b c.in_ok-copies.ensures c.in_ok-used.ensures.value)
    (writes_known s u c.args.number c.requires b d (Ok _) c.in_ok-write_store.ensures) in
    record { stays = all.stays; within = all.within; turns = all.turns }

pub returns-in_err-copies-clause-fault : goal.returns-in_err-copies-clause-fault
returns-in_err-copies-clause-fault g c =
    reads_sure (λ k s. IsCopyOf s k) (state g.S.Store c.args.conn.now) (state g.S.Store c.read_store.new.conn) _ c.from_residual.result c.from_residual.ensures.1
    c.in_err-copies.ensures

pub returns-in_err-used-clause-fault : goal.returns-in_err-used-clause-fault
returns-in_err-used-clause-fault g c =
    used_sure c.in_ok-copies.copies (state g.S.Store c.args.conn.now) (state g.S.Store c.read_store.new.conn) _ c.from_residual-in_err-used.result
    c.from_residual-in_err-used.ensures.1 c.in_ok-copies.ensures c.in_err-used.ensures.fault

pub returns-in_err-copies-clause-plain : goal.returns-in_err-copies-clause-plain
returns-in_err-copies-clause-plain g c = plain_back _ c.from_residual.result c.from_residual.ensures.1 c.in_err-copies.ensures.plain

pub returns-in_err-copies-clause-within : goal.returns-in_err-copies-clause-within
returns-in_err-copies-clause-within g c = within_failed _ _ _ _ c.in_err-copies.ensures.within c.from_residual.ensures.0

pub returns-in_err-used-clause-within : goal.returns-in_err-used-clause-within
returns-in_err-used-clause-within g c = within_told _ _ _ _ c.in_ok-copies.ensures.within

pub returns-in_err-write_store-clause-within : goal.returns-in_err-write_store-clause-within
returns-in_err-write_store-clause-within g c =
    within_fails _ _ _ _ _ _ c.in_ok-copies.ensures.within
    (takes_within (IsRead c.in_ok-copies.copies c.in_ok-used.used) (λ k. Holds (counting_written c.args.number k)) _ _ (Err _) c.in_err-write_store.ensures)
    c.from_residual-in_err-write_store.ensures.0

pub returns-clause-within : goal.returns-clause-within
returns-clause-within g c =
    within_told _ _ _ _ (within_then _ _ _ _ (Ok _) c.in_ok-copies.ensures.within
    (takes_within (IsRead c.in_ok-copies.copies c.in_ok-used.used) (λ k. Holds (counting_written c.args.number k)) _ _ (Ok _) c.in_ok-write_store.ensures))
