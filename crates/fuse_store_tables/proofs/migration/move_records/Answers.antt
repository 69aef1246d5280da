use Rattle.std.proofs.Common.{refl}
use Rattle.sqlite.specs.Effect.{Database}
use Rattle.fuse_store_tables.specs.Content.{Content, with_lot}
use Rattle.fuse_store_tables.specs.declared.version.Layout.TheVariants.{Second}
use Rattle.fuse_store_tables.specs.inner.Steps.{HoldsIn, with_copies, moved_answers, without_answers}
use Rattle.fuse_store_tables.proofs.Joining.{then_as, taken_from, fails_next, fails_alone}
use Rattle.fuse_store_tables.proofs.Laid.{makes_in}
use Rattle.fuse_store_tables.proofs.Within.{within_then, within_fails, within_failed}
use Rattle.fuse_store_tables.proofs.migration.move_records.Goals as goal

abbrev In : Content → Database → Type 0
In = HoldsIn Second

pub returns-in_err-write_lot-clause-made : goal.returns-in_err-write_lot-clause-made
returns-in_err-write_lot-clause-made g c =
    fails_alone In (λ k. In (with_lot 0 k)) (λ k. In (moved_answers k)) _ _ _ _
    (makes_in Second (with_lot 0) _ _ _ (λ k. refl) c.in_err-write_lot.ensures.made) c.from_residual.ensures.0

pub returns-in_err-copy_answers-clause-made : goal.returns-in_err-copy_answers-clause-made
returns-in_err-copy_answers-clause-made g c =
    fails_next In (λ k. In (with_lot 0 k)) (λ k. In (with_copies (with_lot 0 k))) (λ k. In (moved_answers k)) _ _ _ _ _ _
    (makes_in Second (with_lot 0) _ _ _ (λ k. refl) c.in_ok-write_lot.ensures.made)
    (taken_from In (λ k. In (with_copies k)) (with_lot 0) _ _ _ c.in_err-copy_answers.ensures.made) c.from_residual-in_err-copy_answers.ensures.0

pub returns-clause-made : goal.returns-clause-made
returns-clause-made g c =
    let first = makes_in Second (with_lot 0) _ _ _ (λ k. refl) c.in_ok-write_lot.ensures.made in
    let both = then_as In (λ k. In (with_lot 0 k)) (λ k. In (with_copies (with_lot 0 k))) _ _ _ _ _ first
    (taken_from In (λ k. In (with_copies k)) (with_lot 0) _ _ _ c.in_ok-copy_answers.ensures.made) in
    then_as In (λ k. In (with_copies (with_lot 0 k))) (λ k. In (moved_answers k)) _ _ _ _ _ both
    (taken_from In (λ k. In (without_answers k)) (λ k. with_copies (with_lot 0 k)) _ _ _ c.delete_answers.ensures.made)

pub returns-in_err-write_lot-clause-within : goal.returns-in_err-write_lot-clause-within
returns-in_err-write_lot-clause-within g c = within_failed _ _ _ _ c.in_err-write_lot.ensures.within c.from_residual.ensures.0

pub returns-in_err-copy_answers-clause-within : goal.returns-in_err-copy_answers-clause-within
returns-in_err-copy_answers-clause-within g c =
    within_fails _ _ _ _ _ _ c.in_ok-write_lot.ensures.within c.in_err-copy_answers.ensures.within c.from_residual-in_err-copy_answers.ensures.0

pub returns-clause-within : goal.returns-clause-within
returns-clause-within g c =
    within_then _ _ _ _ _ (within_then _ _ _ _ _ c.in_ok-write_lot.ensures.within c.in_ok-copy_answers.ensures.within) c.delete_answers.ensures.within
