use Rattle.std.proofs.Common.{Ok, Err}
use Rattle.sqlite.specs.Held.{state}
use Rattle.fuse_store_tables.specs.inner.Following.{earlier, then_as}
use Rattle.guest_tables.proofs.any_schema.Joining.{fails_next, fails_alone}
use Rattle.guest_tables.proofs.any_schema.Within.{within_then, within_fails, within_failed, within_told}
use Rattle.guest_tables.specs.Clearing.{cleared}
use Rattle.guest_tables.specs.Opening.{IsStored}
use Rattle.guest_tables.proofs.Fitting.{fit_cleared, stored_takes}
use Rattle.guest_tables.proofs.OpenLemmas.{says_back, same_sure, sure_outside, says_outside}
use Rattle.guest_tables.proofs.fresh.renew.Goals as goal

pub returns-in_err-work-clause-begun : goal.returns-in_err-work-clause-begun
returns-in_err-work-clause-begun g c =
    fails_alone IsStored IsStored (λ k. IsStored (cleared k)) _ _ _ c.from_residual.result c.in_err-work.ensures.kept c.from_residual.ensures.0

pub returns-in_err-clear-clause-begun : goal.returns-in_err-clear-clause-begun
returns-in_err-clear-clause-begun g c =
    fails_next IsStored IsStored (λ k. IsStored (cleared k)) (λ k. IsStored (cleared k)) _ _ _ _ _ c.from_residual-in_err-clear.result c.in_ok-work.ensures.kept
    (stored_takes cleared fit_cleared (state g.S.Store c.work.new.conn) (state g.S.Store c.clear.new.conn) (Err _) c.in_err-clear.ensures.made)
    c.from_residual-in_err-clear.ensures.0

pub returns-clause-begun : goal.returns-clause-begun
returns-clause-begun g c =
    let all =
    then_as IsStored IsStored (λ k. IsStored (cleared k)) (state g.S.Store c.args.conn.now) (state g.S.Store c.work.new.conn) (state g.S.Store c.clear.new.conn) _ (Ok _) c.in_ok-work.ensures.kept
    (stored_takes cleared fit_cleared (state g.S.Store c.work.new.conn) (state g.S.Store c.clear.new.conn) (Ok _) c.in_ok-clear.ensures.made) in
    record { stays = all.stays; within = all.within; turns = all.turns }

pub returns-in_err-work-clause-fault : goal.returns-in_err-work-clause-fault
returns-in_err-work-clause-fault g c = same_sure IsStored (state g.S.Store c.args.conn.now) (state g.S.Store c.work.new.conn) _ c.from_residual.result c.from_residual.ensures.1 c.in_err-work.ensures.fault

pub returns-in_err-clear-clause-fault : goal.returns-in_err-clear-clause-fault
returns-in_err-clear-clause-fault g c =
    sure_outside IsStored (state g.S.Store c.args.conn.now) (state g.S.Store c.clear.new.conn) _ c.from_residual-in_err-clear.result
    c.from_residual-in_err-clear.ensures.1

pub returns-in_err-work-clause-says : goal.returns-in_err-work-clause-says
returns-in_err-work-clause-says g c = λ clean. says_back _ _ c.from_residual.result c.from_residual.ensures.1 (c.in_err-work.ensures.says clean)

pub returns-in_err-clear-clause-says : goal.returns-in_err-clear-clause-says
returns-in_err-clear-clause-says g c = λ clean. says_outside _ _ c.from_residual-in_err-clear.result c.from_residual-in_err-clear.ensures.1

pub returns-clause-whole : goal.returns-clause-whole
returns-clause-whole g c = λ clean.
    c.in_ok-work.ensures.whole (earlier (state g.S.Store c.work.new.conn) (state g.S.Store c.clear.new.conn) _ c.in_ok-clear.ensures.made.stays.survives clean)

pub returns-clause-tabled : goal.returns-clause-tabled
returns-clause-tabled g c = λ clean.
    c.in_ok-work.ensures.tabled (earlier (state g.S.Store c.work.new.conn) (state g.S.Store c.clear.new.conn) _ c.in_ok-clear.ensures.made.stays.survives clean)

pub returns-in_err-work-clause-within : goal.returns-in_err-work-clause-within
returns-in_err-work-clause-within g c = within_failed _ _ _ _ c.in_err-work.ensures.within c.from_residual.ensures.0

pub returns-in_err-clear-clause-within : goal.returns-in_err-clear-clause-within
returns-in_err-clear-clause-within g c =
    within_fails _ _ _ _ _ _ c.in_ok-work.ensures.within c.in_err-clear.ensures.within c.from_residual-in_err-clear.ensures.0

pub returns-clause-within : goal.returns-clause-within
returns-clause-within g c = within_told _ _ _ _ (within_then _ _ _ _ (Ok _) c.in_ok-work.ensures.within c.in_ok-clear.ensures.within)
