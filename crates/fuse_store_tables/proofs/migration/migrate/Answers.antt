use Rattle.sqlite.specs.Held.{state}
use Rattle.fuse_store_tables.specs.Content.{Holds}
use Rattle.fuse_store_tables.specs.Opening.{IsFirst, IsOpened, as_version_2}
use Rattle.fuse_store_tables.specs.inner.Steps.{HoldsIn, HasTables, moved_answers}
use Rattle.fuse_store_tables.specs.declared.version.Layout.TheVariants.{Second}
use Rattle.fuse_store_tables.proofs.Joining.{then_as, fails_next, made_from}
use Rattle.fuse_store_tables.proofs.Either.{sub_from, narrowed_if}
use Rattle.fuse_store_tables.proofs.MigrationLemmas.{first_opened}
use Rattle.fuse_store_tables.proofs.Within.{within_then, within_fails, within_failed}
use Rattle.fuse_store_tables.proofs.migration.migrate.Goals as goal

pub returns-in_err-move_records-clause-made : goal.returns-in_err-move_records-clause-made
returns-in_err-move_records-clause-made g c number =
    fails_next IsFirst HasTables (λ k. HoldsIn Second (moved_answers k)) (IsOpened number) _ _ _ _ _ _ c.in_ok-add_tables.ensures.made
    (sub_from HasTables (HoldsIn Second) (λ k. HoldsIn Second (moved_answers k)) (λ k d h. h.holds) _ _ _ c.in_err-move_records.ensures.made) c.from_residual-in_err-move_records.ensures.0

pub returns-clause-made : goal.returns-clause-made
returns-clause-made g c number =
    let a = state g.S.Store c.args.conn.now in
    let d = state g.S.Store c.mark.new.conn in
    let tables = then_as IsFirst HasTables (λ k. HoldsIn Second (moved_answers k)) a _ _ _ _ c.in_ok-add_tables.ensures.made (sub_from HasTables (HoldsIn Second) (λ k. HoldsIn Second (moved_answers k))
    (λ k d h. h.holds) _ _ _ c.in_ok-move_records.ensures.made) in
    narrowed_if IsFirst (λ k. Holds (as_version_2 (moved_answers k))) (IsOpened number) a d c.mark.result
    (then_as IsFirst (λ k. HoldsIn Second (moved_answers k)) (λ k. Holds (as_version_2 (moved_answers k))) a _ d _ c.mark.result tables
    (sub_from (λ k. HoldsIn Second (moved_answers k)) (λ k. Holds (moved_answers k)) (λ k. Holds (as_version_2 (moved_answers k))) (λ k e h. h.0) _ _ _
    (made_from moved_answers as_version_2 _ _ _ c.mark.ensures.made)))
    (λ clean k at on. record { is_open = on.is_open; in_transaction = on.in_transaction; holds = first_opened number k a.now d.now at.holds on.holds })

pub returns-in_err-add_tables-clause-within : goal.returns-in_err-add_tables-clause-within
returns-in_err-add_tables-clause-within g c = within_failed _ _ _ _ c.in_err-add_tables.ensures.within c.from_residual.ensures.0

pub returns-in_err-move_records-clause-within : goal.returns-in_err-move_records-clause-within
returns-in_err-move_records-clause-within g c =
    within_fails _ _ _ _ _ _ c.in_ok-add_tables.ensures.within c.in_err-move_records.ensures.within c.from_residual-in_err-move_records.ensures.0

pub returns-clause-within : goal.returns-clause-within
returns-clause-within g c =
    within_then _ _ _ _ _ (within_then _ _ _ _ _ c.in_ok-add_tables.ensures.within c.in_ok-move_records.ensures.within) c.mark.ensures.within
