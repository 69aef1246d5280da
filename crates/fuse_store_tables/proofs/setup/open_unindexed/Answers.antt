use Rattle.std.proofs.Common.{Ok, Err}
use Rattle.sqlite.specs.Held.{state}
use Rattle.fuse_store_tables.specs.Opening.{IsUnindexed, IsOpened, HasSecondMeta}
use Rattle.fuse_store_tables.specs.inner.Following.{earlier}
use Rattle.fuse_store_tables.specs.inner.Steps.{IsSecondOf}
use Rattle.fuse_store_tables.proofs.Checks.{checks_keep, checks_whole, unindexed_laid}
use Rattle.fuse_store_tables.proofs.Joining.{then_as, fails_next, fails_alone}
use Rattle.fuse_store_tables.proofs.Raising.{IsUnindexedOf, unindexed_known, index_known, unindexed_sure, unindexed_tested, same_fault}
use Rattle.fuse_store_tables.proofs.Within.{within_then, within_fails, within_failed, within_told}
use Rattle.fuse_store_tables.proofs.setup.open_unindexed.Goals as goal

pub returns-in_err-profile-clause-made : goal.returns-in_err-profile-clause-made
returns-in_err-profile-clause-made g c =
    fails_alone IsUnindexed IsUnindexed (IsOpened c.args.number) _ _ _ c.from_residual.result
    (checks_keep IsUnindexed unindexed_laid HasSecondMeta (state g.S.Store c.args.conn.now) (state g.S.Store c.check_second.new.conn) (Err _) c.in_err-profile.ensures.checks)
    c.from_residual.ensures.0

pub returns-in_err-add_index-clause-made : goal.returns-in_err-add_index-clause-made
returns-in_err-add_index-clause-made g c =
    let p = c.in_ok-profile.profile in
    fails_next IsUnindexed (IsUnindexedOf p) (IsSecondOf p) (IsOpened c.args.number) _ _ _ _ _ c.from_residual-in_err-add_index.result
    (unindexed_known (state g.S.Store c.args.conn.now) (state g.S.Store c.check_second.new.conn) p c.in_ok-profile.ensures.checks c.in_ok-profile.ensures.profile)
    (index_known p _ _ (Err _) c.in_err-add_index.ensures.made) c.from_residual-in_err-add_index.ensures.0

pub returns-in_err-raise-clause-made : goal.returns-in_err-raise-clause-made
returns-in_err-raise-clause-made g c =
    let p = c.in_ok-profile.profile in
    let a = state g.S.Store c.args.conn.now in
    let b = state g.S.Store c.check_second.new.conn in
    let d = state g.S.Store c.add_index.new.conn in
    fails_next IsUnindexed (IsSecondOf p) (IsOpened c.args.number) (IsOpened c.args.number) a d _ _ _ c.from_residual-in_err-raise.result
    (then_as IsUnindexed (IsUnindexedOf p) (IsSecondOf p) a b d _ (Ok _)
    (unindexed_known a b p c.in_ok-profile.ensures.checks c.in_ok-profile.ensures.profile) (index_known p b d (Ok _) c.in_ok-add_index.ensures.made))
    c.in_err-raise.ensures.made c.from_residual-in_err-raise.ensures.0

pub returns-clause-made : goal.returns-clause-made
returns-clause-made g c =
    let p = c.in_ok-profile.profile in
    let a = state g.S.Store c.args.conn.now in
    let b = state g.S.Store c.check_second.new.conn in
    let d = state g.S.Store c.add_index.new.conn in
    let all =
    then_as IsUnindexed (IsSecondOf p) (IsOpened c.args.number) a d (state g.S.Store c.raise.new.conn) _ (Ok _)
    (then_as IsUnindexed (IsUnindexedOf p) (IsSecondOf p) a b d _ (Ok _)
    (unindexed_known a b p c.in_ok-profile.ensures.checks c.in_ok-profile.ensures.profile) (index_known p b d (Ok _) c.in_ok-add_index.ensures.made))
    c.in_ok-raise.ensures.made in
    record { stays = all.stays; within = all.within; turns = all.turns }

pub returns-in_err-profile-clause-fault : goal.returns-in_err-profile-clause-fault
returns-in_err-profile-clause-fault g c =
    same_fault (state g.S.Store c.args.conn.now) (state g.S.Store c.check_second.new.conn) _ c.from_residual.result c.from_residual.ensures.1
    (unindexed_tested (state g.S.Store c.args.conn.now) (state g.S.Store c.check_second.new.conn) (Err _) c.in_err-profile.ensures.checks)

pub returns-in_err-raise-clause-fault : goal.returns-in_err-raise-clause-fault
returns-in_err-raise-clause-fault g c =
    let p = c.in_ok-profile.profile in
    let a = state g.S.Store c.args.conn.now in
    let b = state g.S.Store c.check_second.new.conn in
    let d = state g.S.Store c.add_index.new.conn in
    same_fault a (state g.S.Store c.raise.new.conn) _ c.from_residual-in_err-raise.result c.from_residual-in_err-raise.ensures.1
    (unindexed_sure {Y = Unit {0}} p a d (state g.S.Store c.raise.new.conn) _ (Err _)
    (then_as IsUnindexed (IsUnindexedOf p) (IsSecondOf p) a b d _ (Ok _)
    (unindexed_known a b p c.in_ok-profile.ensures.checks c.in_ok-profile.ensures.profile) (index_known p b d (Ok _) c.in_ok-add_index.ensures.made))
    c.in_err-raise.ensures.made.stays.survives c.in_err-raise.ensures.fault)

pub returns-in_err-profile-clause-within : goal.returns-in_err-profile-clause-within
returns-in_err-profile-clause-within g c = within_failed _ _ _ _ c.in_err-profile.ensures.checks.within c.from_residual.ensures.0

pub returns-in_err-add_index-clause-within : goal.returns-in_err-add_index-clause-within
returns-in_err-add_index-clause-within g c =
    within_fails _ _ _ _ _ _ c.in_ok-profile.ensures.checks.within c.in_err-add_index.ensures.within c.from_residual-in_err-add_index.ensures.0

pub returns-in_err-raise-clause-within : goal.returns-in_err-raise-clause-within
returns-in_err-raise-clause-within g c =
    within_fails _ _ _ _ _ _ (within_then _ _ _ _ (Ok _) c.in_ok-profile.ensures.checks.within c.in_ok-add_index.ensures.within) c.in_err-raise.ensures.within
    c.from_residual-in_err-raise.ensures.0

pub returns-clause-within : goal.returns-clause-within
returns-clause-within g c =
    within_told _ _ _ _ (within_then _ _ _ _ (Ok _) (within_then _ _ _ _ (Ok _) c.in_ok-profile.ensures.checks.within c.in_ok-add_index.ensures.within)
    c.in_ok-raise.ensures.within)

pub returns-clause-profile : goal.returns-clause-profile
returns-clause-profile g c = λ clean.
    c.in_ok-profile.ensures.profile (earlier (state g.S.Store c.check_second.new.conn) (state g.S.Store c.add_index.new.conn) _
    c.in_ok-add_index.ensures.made.stays.survives (earlier (state g.S.Store c.add_index.new.conn) (state g.S.Store c.raise.new.conn) _
    c.in_ok-raise.ensures.made.stays.survives clean))

pub returns-clause-whole : goal.returns-clause-whole
returns-clause-whole g c = λ clean.
    checks_whole IsUnindexed unindexed_laid HasSecondMeta (state g.S.Store c.args.conn.now) (state g.S.Store c.check_second.new.conn) (Ok c.in_ok-profile.profile)
    c.in_ok-profile.ensures.checks (earlier (state g.S.Store c.check_second.new.conn) (state g.S.Store c.add_index.new.conn) _
    c.in_ok-add_index.ensures.made.stays.survives (earlier (state g.S.Store c.add_index.new.conn) (state g.S.Store c.raise.new.conn) _
    c.in_ok-raise.ensures.made.stays.survives clean))
