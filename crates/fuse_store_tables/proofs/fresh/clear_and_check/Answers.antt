use Rattle.std.proofs.Common.{Ok, Err, subst}
use Rattle.sqlite.specs.Held.{state}
use Rattle.fuse_store_tables.specs.Opening.{IsOpened, IsLaid}
use Rattle.fuse_store_tables.specs.Clearing.{IsBegun}
use Rattle.fuse_store_tables.specs.inner.Following.{earlier}
use Rattle.fuse_store_tables.proofs.Joining.{then_as, fails_alone, fails_next, sure_next}
use Rattle.fuse_store_tables.proofs.Within.{within_then, within_failed, within_fails, within_told}
use Rattle.fuse_store_tables.proofs.Renewed.{clears_opened, sure_cleared, same_sure, begun_keeps, begun_sure, plain_back}
use Rattle.fuse_store_tables.proofs.fresh.clear_and_check.Goals as goal

pub returns-in_err-clear-clause-begun : goal.returns-in_err-clear-clause-begun
returns-in_err-clear-clause-begun g c number =
    fails_alone (IsOpened number) (IsBegun number) (IsBegun number) _ _ _ c.from_residual.result (clears_opened number _ _ _ c.in_err-clear.ensures.made) c.from_residual.ensures.0

pub returns-in_err-check_second-clause-begun : goal.returns-in_err-check_second-clause-begun
returns-in_err-check_second-clause-begun g c number =
    fails_next (IsOpened number) (IsBegun number) (IsBegun number) (IsBegun number) _ _ _ _ _ c.from_residual-in_err-check_second.result (clears_opened number _ _ _ c.in_ok-clear.ensures.made)
    (begun_keeps number _ _ _ c.in_err-check_second.ensures.checks) c.from_residual-in_err-check_second.ensures.0

pub returns-clause-begun : goal.returns-clause-begun
returns-clause-begun g c number =
    let all =
    then_as (IsOpened number) (IsBegun number) (IsBegun number) (state g.S.Store c.args.conn.now) (state g.S.Store c.clear.new.conn) (state g.S.Store c.check_second.new.conn) _ (Ok _)
    (clears_opened number _ _ _ c.in_ok-clear.ensures.made) (begun_keeps number _ _ _ c.in_ok-check_second.ensures.checks) in
    record { stays = all.stays; within = all.within; turns = all.turns }

pub returns-in_err-clear-clause-fault : goal.returns-in_err-clear-clause-fault
returns-in_err-clear-clause-fault g c number =
    same_sure (IsOpened number) (state g.S.Store c.args.conn.now) (state g.S.Store c.clear.new.conn) _ c.from_residual.result c.from_residual.ensures.1
    (sure_cleared {X = Unit {0}} number (state g.S.Store c.args.conn.now) (state g.S.Store c.clear.new.conn) (Err _) c.in_err-clear.ensures.fault)

pub returns-in_err-check_second-clause-fault : goal.returns-in_err-check_second-clause-fault
returns-in_err-check_second-clause-fault g c number =
    let a = state g.S.Store c.args.conn.now in
    let b = state g.S.Store c.clear.new.conn in
    let d = state g.S.Store c.check_second.new.conn in
    same_sure (IsOpened number) a d _ c.from_residual-in_err-check_second.result c.from_residual-in_err-check_second.ensures.1
    (sure_next {Y = Unit {0}} (IsOpened number) (IsBegun number) a b d _ (Err _) (clears_opened number _ _ _ c.in_ok-clear.ensures.made)
    c.in_err-check_second.ensures.checks.reads.commits.survives (begun_sure number b d _ c.in_err-check_second.ensures.checks))

pub returns-in_err-check_second-clause-plain : goal.returns-in_err-check_second-clause-plain
returns-in_err-check_second-clause-plain g c =
    plain_back _ c.from_residual-in_err-check_second.result c.from_residual-in_err-check_second.ensures.1 c.in_err-check_second.ensures.checks.plain

pub returns-clause-left : goal.returns-clause-left
returns-clause-left g c = λ clean inside k at.
    let b = state g.S.Store c.clear.new.conn in
    let checks = c.in_ok-check_second.ensures.checks in
    checks.whole clean k (record {
      is_open = (checks.reads.commits.kept clean).was_open at.is_open;
      in_transaction = c.in_ok-clear.ensures.within.within (earlier b (state g.S.Store c.check_second.new.conn) _ checks.reads.commits.survives clean) inside;
      holds = subst (IsLaid k) (checks.reads.same clean) at.holds;
    }) tt

pub returns-in_err-clear-clause-within : goal.returns-in_err-clear-clause-within
returns-in_err-clear-clause-within g c = within_failed _ _ _ _ c.in_err-clear.ensures.within c.from_residual.ensures.0

pub returns-in_err-check_second-clause-within : goal.returns-in_err-check_second-clause-within
returns-in_err-check_second-clause-within g c =
    within_fails _ _ _ _ _ _ c.in_ok-clear.ensures.within c.in_err-check_second.ensures.checks.within c.from_residual-in_err-check_second.ensures.0

pub returns-clause-within : goal.returns-clause-within
returns-clause-within g c =
    within_told _ _ _ _ (within_then _ _ _ _ (Ok _) c.in_ok-clear.ensures.within c.in_ok-check_second.ensures.checks.within)
