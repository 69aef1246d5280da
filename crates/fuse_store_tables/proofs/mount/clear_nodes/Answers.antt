use Rattle.fuse_store_tables.specs.Content.{Holds}
use Rattle.fuse_store_tables.specs.inner.Steps.{without_unnamed, without_unnamed_contents, with_nodes_counted, without_unnamed_nodes}
use Rattle.fuse_store_tables.proofs.Joining.{makes_then, fails_next, made_from, sure_then}
use Rattle.fuse_store_tables.proofs.Within.{within_then, within_fails, within_failed}
use Rattle.fuse_store_tables.proofs.mount.clear_nodes.Goals as goal

pub returns-in_err-delete_unnamed-clause-made : goal.returns-in_err-delete_unnamed-clause-made
returns-in_err-delete_unnamed-clause-made g c =
    fails_next Holds (λ k. Holds (without_unnamed_contents k)) (λ k. Holds (without_unnamed (without_unnamed_contents k))) (λ k. Holds (without_unnamed_nodes k)) _
    _ _ _ _ _ c.in_ok-clear_contents.ensures.made
    (made_from without_unnamed_contents without_unnamed _ _ _ c.in_err-delete_unnamed.ensures.made) c.from_residual-in_err-delete_unnamed.ensures.0

pub returns-clause-made : goal.returns-clause-made
returns-clause-made g c =
    makes_then (λ k. without_unnamed (without_unnamed_contents k)) with_nodes_counted _ _ _ _ _ (makes_then without_unnamed_contents without_unnamed _ _ _ _ _
    c.in_ok-clear_contents.ensures.made c.in_ok-delete_unnamed.ensures.made)
    c.recount.ensures.counted

pub returns-clause-fault : goal.returns-clause-fault
returns-clause-fault g c =
    sure_then (λ k. without_unnamed (without_unnamed_contents k)) _ _ _ _ c.recount.result (makes_then without_unnamed_contents without_unnamed _ _ _ _ _
    c.in_ok-clear_contents.ensures.made c.in_ok-delete_unnamed.ensures.made)
    c.recount.ensures.counted.stays.survives c.recount.ensures.fault

pub returns-in_err-clear_contents-clause-within : goal.returns-in_err-clear_contents-clause-within
returns-in_err-clear_contents-clause-within g c = within_failed _ _ _ _ c.in_err-clear_contents.ensures.within c.from_residual.ensures.0

pub returns-in_err-delete_unnamed-clause-within : goal.returns-in_err-delete_unnamed-clause-within
returns-in_err-delete_unnamed-clause-within g c =
    within_fails _ _ _ _ _ _ c.in_ok-clear_contents.ensures.within c.in_err-delete_unnamed.ensures.within c.from_residual-in_err-delete_unnamed.ensures.0

pub returns-clause-within : goal.returns-clause-within
returns-clause-within g c =
    within_then _ _ _ _ _ (within_then _ _ _ _ _ c.in_ok-clear_contents.ensures.within c.in_ok-delete_unnamed.ensures.within) c.recount.ensures.within
