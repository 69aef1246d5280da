use Rattle.std.proofs.Common.{Ok, Err}
use Rattle.sqlite.specs.Held.{state}
use Rattle.fuse_init.specs.declared.profile.Profile.TheVariants.{Plain, Everyday}
use Rattle.fuse_store_tables.specs.Opening.{IsLaid, IsSecond, IsOpened, HasSecondMeta}
use Rattle.fuse_store_tables.specs.declared.version.Layout.TheVariants.{Second}
use Rattle.fuse_store_tables.specs.inner.Following.{earlier}
use Rattle.fuse_store_tables.specs.inner.Steps.{IsSecondIn, IsSecondOf}
use Rattle.fuse_store_tables.proofs.Alone.{reads_told, reads_failed, reads_then}
use Rattle.fuse_store_tables.proofs.Checks.{checks_keep, checks_whole, second_laid}
use Rattle.fuse_store_tables.proofs.Joining.{then_as, fails_next, fails_alone}
use Rattle.fuse_store_tables.proofs.Raising.{second_known, second_sure, second_tested, same_fault, alone_second}
use Rattle.fuse_store_tables.proofs.Within.{within_then, within_fails, within_failed, within_told}
use Rattle.fuse_store_tables.proofs.setup.open_second.Goals as goal

pub returns-in_err-profile-clause-opened : goal.returns-in_err-profile-clause-opened
returns-in_err-profile-clause-opened g c =
    fails_alone (IsSecondIn Second) (IsSecondIn Second) (IsOpened c.args.number) _ _ _ c.from_residual.result
    (checks_keep (IsSecondIn Second) (λ k d h. second_laid k d h.store) HasSecondMeta (state g.S.Store c.args.conn.now) (state g.S.Store c.check_second.new.conn) (Err _) c.in_err-profile.ensures.checks)
    c.from_residual.ensures.0

pub returns-in_err-raise-clause-opened : goal.returns-in_err-raise-clause-opened
returns-in_err-raise-clause-opened g c =
    fails_next (IsSecondIn Second) (IsSecondOf c.in_ok-profile.profile) (IsOpened c.args.number) (IsOpened c.args.number) _ _ _ _ _ c.from_residual-in_err-raise.result
    (second_known (state g.S.Store c.args.conn.now) (state g.S.Store c.check_second.new.conn) c.in_ok-profile.profile c.in_ok-profile.ensures.checks
    c.in_ok-profile.ensures.profile) c.in_err-raise.ensures.made c.from_residual-in_err-raise.ensures.0

pub returns-clause-opened : goal.returns-clause-opened
returns-clause-opened g c =
    let all =
    then_as (IsSecondIn Second) (IsSecondOf c.in_ok-profile.profile) (IsOpened c.args.number) (state g.S.Store c.args.conn.now)
    (state g.S.Store c.check_second.new.conn) (state g.S.Store c.raise.new.conn) _ (Ok _)
    (second_known (state g.S.Store c.args.conn.now) (state g.S.Store c.check_second.new.conn) c.in_ok-profile.profile c.in_ok-profile.ensures.checks
    c.in_ok-profile.ensures.profile) c.in_ok-raise.ensures.made in
    record { stays = all.stays; within = all.within; turns = all.turns }

pub returns-in_err-profile-clause-fault : goal.returns-in_err-profile-clause-fault
returns-in_err-profile-clause-fault g c =
    same_fault (state g.S.Store c.args.conn.now) (state g.S.Store c.check_second.new.conn) _ c.from_residual.result c.from_residual.ensures.1
    (second_tested (state g.S.Store c.args.conn.now) (state g.S.Store c.check_second.new.conn) (Err _) c.in_err-profile.ensures.checks)

pub returns-in_err-raise-clause-fault : goal.returns-in_err-raise-clause-fault
returns-in_err-raise-clause-fault g c =
    same_fault (state g.S.Store c.args.conn.now) (state g.S.Store c.raise.new.conn) _ c.from_residual-in_err-raise.result c.from_residual-in_err-raise.ensures.1
    (second_sure {Y = Unit {0}} c.in_ok-profile.profile (state g.S.Store c.args.conn.now) (state g.S.Store c.check_second.new.conn) (state g.S.Store c.raise.new.conn) _ (Err _)
    (second_known (state g.S.Store c.args.conn.now) (state g.S.Store c.check_second.new.conn) c.in_ok-profile.profile c.in_ok-profile.ensures.checks
    c.in_ok-profile.ensures.profile) c.in_err-raise.ensures.made.stays.survives c.in_err-raise.ensures.fault)

pub returns-in_err-profile-clause-within : goal.returns-in_err-profile-clause-within
returns-in_err-profile-clause-within g c = within_failed _ _ _ _ c.in_err-profile.ensures.checks.within c.from_residual.ensures.0

pub returns-in_err-raise-clause-within : goal.returns-in_err-raise-clause-within
returns-in_err-raise-clause-within g c =
    within_fails _ _ _ _ _ _ c.in_ok-profile.ensures.checks.within c.in_err-raise.ensures.within c.from_residual-in_err-raise.ensures.0

pub returns-clause-within : goal.returns-clause-within
returns-clause-within g c = within_told _ _ _ _ (within_then _ _ _ _ (Ok _) c.in_ok-profile.ensures.checks.within c.in_ok-raise.ensures.within)

pub returns-clause-profile : goal.returns-clause-profile
returns-clause-profile g c = λ clean.
    c.in_ok-profile.ensures.profile (earlier (state g.S.Store c.check_second.new.conn) (state g.S.Store c.raise.new.conn) _
    c.in_ok-raise.ensures.made.stays.survives clean)

pub returns-clause-whole : goal.returns-clause-whole
returns-clause-whole g c = λ clean.
    checks_whole IsSecond second_laid HasSecondMeta (state g.S.Store c.args.conn.now) (state g.S.Store c.check_second.new.conn) (Ok c.in_ok-profile.profile)
    c.in_ok-profile.ensures.checks
    (earlier (state g.S.Store c.check_second.new.conn) (state g.S.Store c.raise.new.conn) _ c.in_ok-raise.ensures.made.stays.survives clean)

pub returns-in_err-profile-clause-alone : goal.returns-in_err-profile-clause-alone
returns-in_err-profile-clause-alone g c = λ other. reads_failed _ _ _ _ c.from_residual.ensures.0 c.in_err-profile.ensures.checks.reads

pub returns-in_err-raise-clause-alone : goal.returns-in_err-raise-clause-alone
returns-in_err-raise-clause-alone g c = λ other.
    reads_failed _ _ _ _ c.from_residual-in_err-raise.ensures.0
    (alone_second c.in_ok-profile.profile (state g.S.Store c.args.conn.now) (state g.S.Store c.check_second.new.conn) (state g.S.Store c.raise.new.conn)
    c.in_ok-profile.profile (Err _) c.in_ok-profile.ensures.checks.reads c.in_err-raise.ensures.made.stays.survives c.in_ok-profile.ensures.more other c.in_err-raise.ensures.reads)

pub returns-clause-alone : goal.returns-clause-alone
returns-clause-alone g c = λ other.
    reads_told _ _ _ _
    (alone_second c.in_ok-profile.profile (state g.S.Store c.args.conn.now) (state g.S.Store c.check_second.new.conn) (state g.S.Store c.raise.new.conn)
    c.in_ok-profile.profile (Ok _) c.in_ok-profile.ensures.checks.reads c.in_ok-raise.ensures.made.stays.survives c.in_ok-profile.ensures.more other c.in_ok-raise.ensures.reads)
