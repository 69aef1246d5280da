use Rattle.std.proofs.Common.{Ok, Err}
use Rattle.sqlite.specs.Held.{state}
use Rattle.sqlite.proofs.StateLemmas.{survives_then}
use Rattle.fuse_store_tables.specs.Opening.{IsStored, IsSound, IsOpened}
use Rattle.fuse_store_tables.specs.Clearing.{IsBegun}
use Rattle.fuse_store_tables.specs.inner.Following.{earlier}
use Rattle.fuse_store_tables.proofs.Either.{sub_from}
use Rattle.fuse_store_tables.proofs.Joining.{then_as, fails_as, fails_next, sure_next}
use Rattle.fuse_store_tables.proofs.Alone.{reads_never}
use Rattle.fuse_store_tables.proofs.Tabled.{migrated_tabled}
use Rattle.fuse_store_tables.proofs.Within.{within_then, within_fails, within_told}
use Rattle.fuse_store_tables.proofs.Renewed.{cleared_says, same_sure}
use Rattle.fuse_store_tables.proofs.fresh.renew_tables.Goals as goal

pub returns-in_err-clear_and_check-in-Ok-clause-begun : goal.returns-in_err-clear_and_check-in-Ok-clause-begun
returns-in_err-clear_and_check-in-Ok-clause-begun g c =
    fails_next IsStored (IsOpened c.args.number) (IsBegun c.args.number) (IsBegun c.args.number) (state g.S.Store c.args.conn.now) (state g.S.Store c.work.new.conn) (state g.S.Store c.clear_and_check.new.conn) _ _
    c.from_residual.result c.in-Ok.ensures.opened
    (c.in_err-clear_and_check-in-Ok.ensures.begun c.args.number)
    c.from_residual.ensures.0

pub returns-in_ok-clear_and_check-in-Ok-clause-begun : goal.returns-in_ok-clear_and_check-in-Ok-clause-begun
returns-in_ok-clear_and_check-in-Ok-clause-begun g c =
    let all =
    then_as IsStored (IsOpened c.args.number) (IsBegun c.args.number) (state g.S.Store c.args.conn.now) (state g.S.Store c.work.new.conn) (state g.S.Store c.clear_and_check.new.conn) _ (Ok _)
    c.in-Ok.ensures.opened (c.in_ok-clear_and_check-in-Ok.ensures.begun c.args.number) in
    record { stays = all.stays; within = all.within; turns = all.turns }

pub returns-in-Err-clause-begun : goal.returns-in-Err-clause-begun
returns-in-Err-clause-begun g c =
    fails_as IsStored (IsOpened c.args.number) (IsBegun c.args.number) (state g.S.Store c.args.conn.now) (state g.S.Store c.work.new.conn) _ c.in-Err.fault c.in-Err.ensures.opened

pub returns-in_err-clear_and_check-in-Ok-clause-fault : goal.returns-in_err-clear_and_check-in-Ok-clause-fault
returns-in_err-clear_and_check-in-Ok-clause-fault g c =
    same_sure IsSound (state g.S.Store c.args.conn.now) (state g.S.Store c.clear_and_check.new.conn) _ c.from_residual.result c.from_residual.ensures.1
    (sure_next {Y = Unit {0}} IsSound (IsOpened c.args.number) (state g.S.Store c.args.conn.now) (state g.S.Store c.work.new.conn) (state g.S.Store c.clear_and_check.new.conn) _ (Err _)
    (sub_from IsSound IsStored (IsOpened c.args.number) (λ k d h. h.stored) _ _ _ c.in-Ok.ensures.opened)
    (c.in_err-clear_and_check-in-Ok.ensures.begun c.args.number).stays.survives (c.in_err-clear_and_check-in-Ok.ensures.fault c.args.number))

pub returns-in_err-clear_and_check-in-Ok-clause-says : goal.returns-in_err-clear_and_check-in-Ok-clause-says
returns-in_err-clear_and_check-in-Ok-clause-says g c = λ clean.
    cleared_says _ _ c.from_residual.result c.from_residual.ensures.1 (c.in-Ok.ensures.tabled
    (earlier (state g.S.Store c.work.new.conn) (state g.S.Store c.clear_and_check.new.conn) _ (c.in_err-clear_and_check-in-Ok.ensures.begun c.args.number).stays.survives clean))
    c.in_err-clear_and_check-in-Ok.ensures.plain

pub returns-in_ok-clear_and_check-in-Ok-clause-whole : goal.returns-in_ok-clear_and_check-in-Ok-clause-whole
returns-in_ok-clear_and_check-in-Ok-clause-whole g c = λ clean.
    c.in-Ok.ensures.whole (earlier (state g.S.Store c.work.new.conn) (state g.S.Store c.clear_and_check.new.conn) _ (c.in_ok-clear_and_check-in-Ok.ensures.begun c.args.number).stays.survives clean)

pub returns-in_ok-clear_and_check-in-Ok-clause-profile : goal.returns-in_ok-clear_and_check-in-Ok-clause-profile
returns-in_ok-clear_and_check-in-Ok-clause-profile g c = λ clean.
    c.in-Ok.ensures.profile (earlier (state g.S.Store c.work.new.conn) (state g.S.Store c.clear_and_check.new.conn) _ (c.in_ok-clear_and_check-in-Ok.ensures.begun c.args.number).stays.survives clean)

pub returns-in_ok-clear_and_check-in-Ok-clause-tabled : goal.returns-in_ok-clear_and_check-in-Ok-clause-tabled
returns-in_ok-clear_and_check-in-Ok-clause-tabled g c = λ clean.
    c.in-Ok.ensures.tabled (earlier (state g.S.Store c.work.new.conn) (state g.S.Store c.clear_and_check.new.conn) _ (c.in_ok-clear_and_check-in-Ok.ensures.begun c.args.number).stays.survives clean)

pub returns-in_err-clear_and_check-in-Ok-clause-alone : goal.returns-in_err-clear_and_check-in-Ok-clause-alone
returns-in_err-clear_and_check-in-Ok-clause-alone g c = λ other.
    let a = state g.S.Store c.args.conn.now in
    let b = state g.S.Store c.work.new.conn in
    let d = state g.S.Store c.clear_and_check.new.conn in
    reads_never a d c.from_residual.result
    (λ clean. other clean (c.in-Ok.ensures.tabled (earlier b d _ (c.in_err-clear_and_check-in-Ok.ensures.begun c.args.number).stays.survives clean)))
    (survives_then a b d _ _ (λ _. Unit {0}) (λ _ _ _. tt) (λ _ _ _. tt) c.in-Ok.ensures.opened.stays.survives (c.in_err-clear_and_check-in-Ok.ensures.begun c.args.number).stays.survives)

pub returns-in_ok-clear_and_check-in-Ok-clause-alone : goal.returns-in_ok-clear_and_check-in-Ok-clause-alone
returns-in_ok-clear_and_check-in-Ok-clause-alone g c = λ other.
    let a = state g.S.Store c.args.conn.now in
    let b = state g.S.Store c.work.new.conn in
    let d = state g.S.Store c.clear_and_check.new.conn in
    reads_never a d (Ok _)
    (λ clean. other clean (c.in-Ok.ensures.tabled (earlier b d _ (c.in_ok-clear_and_check-in-Ok.ensures.begun c.args.number).stays.survives clean)))
    (survives_then a b d _ _ (λ _. Unit {0}) (λ _ _ _. tt) (λ _ _ _. tt) c.in-Ok.ensures.opened.stays.survives (c.in_ok-clear_and_check-in-Ok.ensures.begun c.args.number).stays.survives)

pub returns-in-Err-clause-alone : goal.returns-in-Err-clause-alone
returns-in-Err-clause-alone g c = λ other. c.in-Err.ensures.alone (λ clean changed. other clean (migrated_tabled _ changed))

pub returns-in_err-clear_and_check-in-Ok-clause-within : goal.returns-in_err-clear_and_check-in-Ok-clause-within
returns-in_err-clear_and_check-in-Ok-clause-within g c =
    within_fails _ _ _ _ _ _ c.in-Ok.ensures.within c.in_err-clear_and_check-in-Ok.ensures.within c.from_residual.ensures.0

pub returns-in_ok-clear_and_check-in-Ok-clause-within : goal.returns-in_ok-clear_and_check-in-Ok-clause-within
returns-in_ok-clear_and_check-in-Ok-clause-within g c = within_told _ _ _ _ (within_then _ _ _ _ (Ok _) c.in-Ok.ensures.within c.in_ok-clear_and_check-in-Ok.ensures.within)

pub returns-in_ok-clear_and_check-in-Ok-clause-left : goal.returns-in_ok-clear_and_check-in-Ok-clause-left
returns-in_ok-clear_and_check-in-Ok-clause-left g c = λ clean inside.
    let mid = earlier (state g.S.Store c.work.new.conn) (state g.S.Store c.clear_and_check.new.conn) _ (c.in_ok-clear_and_check-in-Ok.ensures.begun c.args.number).stays.survives clean in
    c.in_ok-clear_and_check-in-Ok.ensures.left clean (c.in-Ok.ensures.within.within mid inside)

pub returns-in_ok-clear_and_check-in-Ok-clause-numbered : goal.returns-in_ok-clear_and_check-in-Ok-clause-numbered
returns-in_ok-clear_and_check-in-Ok-clause-numbered g c = λ clean none everyday. c.in-Ok.ensures.numbered none everyday
