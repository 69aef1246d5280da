use Rattle.fuse_store_tables.specs.Content.{Content, Holds, with_counter}
use Rattle.fuse_store_tables.specs.inner.Steps.{with_volume}
use Rattle.fuse_store_tables.proofs.Joining.{makes_then, fails_next, made_from}
use Rattle.fuse_store_tables.proofs.Within.{within_then, within_fails, within_failed}
use Rattle.fuse_store_tables.proofs.creation.add_volume.Goals as goal

pub returns-in_err-insert_counter-2-clause-made : goal.returns-in_err-insert_counter-2-clause-made
returns-in_err-insert_counter-2-clause-made g c =
    let capacity = c.args.volume.capacity in
    fails_next Holds (λ k. Holds (with_counter 12 2 k)) (λ k. Holds (with_counter 13 capacity (with_counter 12 2 k)))
    (λ k. Holds (with_volume capacity c.args.volume.number k)) _ _ _ _ _ _ c.in_ok-insert_counter.ensures.made
    (made_from (with_counter 12 2) (with_counter 13 capacity) _ _ _ c.in_err-insert_counter-2.ensures.made)
    c.from_residual-in_err-insert_counter-2.ensures.0

pub returns-in_err-insert_counter-3-clause-made : goal.returns-in_err-insert_counter-3-clause-made
returns-in_err-insert_counter-3-clause-made g c =
    let capacity = c.args.volume.capacity in
    let first : Content → Content = λ k. with_counter 13 capacity (with_counter 12 2 k) in
    fails_next Holds (λ k. Holds (first k)) (λ k. Holds (with_counter 14 0 (first k)))
    (λ k. Holds (with_volume capacity c.args.volume.number k)) _ _ _ _ _ _
    (makes_then (with_counter 12 2) (with_counter 13 capacity) _ _ _ _ _ c.in_ok-insert_counter.ensures.made c.in_ok-insert_counter-2.ensures.made)
    (made_from first (with_counter 14 0) _ _ _ c.in_err-insert_counter-3.ensures.made)
    c.from_residual-in_err-insert_counter-3.ensures.0

pub returns-clause-made : goal.returns-clause-made
returns-clause-made g c =
    let capacity = c.args.volume.capacity in
    makes_then (λ k. with_counter 14 0 (with_counter 13 capacity (with_counter 12 2 k))) (with_counter 15 c.args.volume.number) _ _ _ _ _
    (makes_then (λ k. with_counter 13 capacity (with_counter 12 2 k)) (with_counter 14 0) _ _ _ _ _
    (makes_then (with_counter 12 2) (with_counter 13 capacity) _ _ _ _ _ c.in_ok-insert_counter.ensures.made
    c.in_ok-insert_counter-2.ensures.made) c.in_ok-insert_counter-3.ensures.made) c.insert_counter-4.ensures.made

pub returns-in_err-insert_counter-clause-within : goal.returns-in_err-insert_counter-clause-within
returns-in_err-insert_counter-clause-within g c = within_failed _ _ _ _ c.in_err-insert_counter.ensures.within c.from_residual.ensures.0

pub returns-in_err-insert_counter-2-clause-within : goal.returns-in_err-insert_counter-2-clause-within
returns-in_err-insert_counter-2-clause-within g c =
    within_fails _ _ _ _ _ _ c.in_ok-insert_counter.ensures.within c.in_err-insert_counter-2.ensures.within
    c.from_residual-in_err-insert_counter-2.ensures.0

pub returns-in_err-insert_counter-3-clause-within : goal.returns-in_err-insert_counter-3-clause-within
returns-in_err-insert_counter-3-clause-within g c =
    within_fails _ _ _ _ _ _ (within_then _ _ _ _ _ c.in_ok-insert_counter.ensures.within c.in_ok-insert_counter-2.ensures.within)
    c.in_err-insert_counter-3.ensures.within
    c.from_residual-in_err-insert_counter-3.ensures.0

pub returns-clause-within : goal.returns-clause-within
returns-clause-within g c =
    within_then _ _ _ _ _ (within_then _ _ _ _ _ (within_then _ _ _ _ _ c.in_ok-insert_counter.ensures.within c.in_ok-insert_counter-2.ensures.within)
    c.in_ok-insert_counter-3.ensures.within)
    c.insert_counter-4.ensures.within
