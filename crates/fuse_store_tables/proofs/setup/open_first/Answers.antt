use Rattle.std.proofs.Common.{Ok}
use Rattle.sqlite.specs.Held.{state}
use Rattle.fuse_store_tables.specs.Opening.{IsFirst, IsOpened, HasFirstMeta}
use Rattle.fuse_store_tables.proofs.Joining.{then_as, fails_next}
use Rattle.fuse_store_tables.proofs.Checks.{checks_keep, first_laid}
use Rattle.fuse_store_tables.proofs.Within.{within_then, within_fails, within_failed, within_told}
use Rattle.fuse_store_tables.proofs.setup.open_first.Goals as goal

pub returns-in_err-migrate-clause-made : goal.returns-in_err-migrate-clause-made
returns-in_err-migrate-clause-made g c number =
    fails_next IsFirst IsFirst (IsOpened number) (IsOpened number) _ _ _ _ _ _ (checks_keep IsFirst first_laid HasFirstMeta _ _ _ c.in_ok-check_first.ensures) (c.in_err-migrate.ensures.made number)
    c.from_residual-in_err-migrate.ensures.0

pub returns-clause-made : goal.returns-clause-made
returns-clause-made g c number =
    let all =
    then_as IsFirst IsFirst (IsOpened number) (state g.S.Store c.args.conn.now) (state g.S.Store c.check_first.new.conn) (state g.S.Store c.migrate.new.conn) _
    (Ok _) (checks_keep IsFirst first_laid HasFirstMeta _ _ _ c.in_ok-check_first.ensures)
    (c.in_ok-migrate.ensures.made number) in
    record { stays = all.stays; within = all.within; turns = all.turns }

pub returns-in_err-check_first-clause-within : goal.returns-in_err-check_first-clause-within
returns-in_err-check_first-clause-within g c = within_failed _ _ _ _ c.in_err-check_first.ensures.within c.from_residual.ensures.0

pub returns-in_err-migrate-clause-within : goal.returns-in_err-migrate-clause-within
returns-in_err-migrate-clause-within g c =
    within_fails _ _ _ _ _ _ c.in_ok-check_first.ensures.within c.in_err-migrate.ensures.within c.from_residual-in_err-migrate.ensures.0

pub returns-clause-within : goal.returns-clause-within
returns-clause-within g c = within_told _ _ _ _ (within_then _ _ _ _ (Ok _) c.in_ok-check_first.ensures.within c.in_ok-migrate.ensures.within)
