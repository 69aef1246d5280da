use Rattle.fuse_store_tables.specs.Content.{Holds}
use Rattle.fuse_store_tables.specs.Clearing.{without_settings, cleared, lowered}
use Rattle.fuse_store_tables.specs.inner.Steps.{without_records, without_all_handles, without_unnamed_nodes}
use Rattle.fuse_store_tables.proofs.Joining.{makes_then, fails_next, made_from, sure_then}
use Rattle.fuse_store_tables.proofs.Within.{within_then, within_fails, within_failed}
use Rattle.fuse_store_tables.proofs.mount.clear.Goals as goal

pub returns-in_err-clear_records-clause-made : goal.returns-in_err-clear_records-clause-made
returns-in_err-clear_records-clause-made g c =
    fails_next Holds (λ k. Holds (lowered k)) (λ k. Holds (without_records (lowered k))) (λ k. Holds (cleared k)) _ _ _ _ _ _
    c.in_ok-lower_used.ensures.made
    (made_from lowered without_records _ _ _ c.in_err-clear_records.ensures.made) c.from_residual-in_err-clear_records.ensures.0

pub returns-in_err-clear_handles-clause-made : goal.returns-in_err-clear_handles-clause-made
returns-in_err-clear_handles-clause-made g c =
    fails_next Holds (λ k. Holds (without_records (lowered k))) (λ k. Holds (without_all_handles (without_records (lowered k)))) (λ k. Holds (cleared k)) _ _ _
    _ _ _
    (makes_then lowered without_records _ _ _ _ _ c.in_ok-lower_used.ensures.made c.in_ok-clear_records.ensures.made)
    (made_from (λ k. without_records (lowered k)) without_all_handles _ _ _ c.in_err-clear_handles.ensures.made)
    c.from_residual-in_err-clear_handles.ensures.0

pub returns-in_err-clear_settings-clause-made : goal.returns-in_err-clear_settings-clause-made
returns-in_err-clear_settings-clause-made g c =
    fails_next Holds (λ k. Holds (without_all_handles (without_records (lowered k))))
    (λ k. Holds (without_settings (without_all_handles (without_records (lowered k))))) (λ k. Holds (cleared k)) _ _ _ _ _ _
    (makes_then (λ k. without_records (lowered k)) without_all_handles _ _ _ _ _
    (makes_then lowered without_records _ _ _ _ _ c.in_ok-lower_used.ensures.made c.in_ok-clear_records.ensures.made)
    c.in_ok-clear_handles.ensures.made)
    (made_from (λ k. without_all_handles (without_records (lowered k))) without_settings _ _ _ c.in_err-clear_settings.ensures.made)
    c.from_residual-in_err-clear_settings.ensures.0

pub returns-clause-made : goal.returns-clause-made
returns-clause-made g c =
    makes_then (λ k. without_settings (without_all_handles (without_records (lowered k)))) without_unnamed_nodes _ _ _ _ _
    (makes_then (λ k. without_all_handles (without_records (lowered k))) without_settings _ _ _ _ _
    (makes_then (λ k. without_records (lowered k)) without_all_handles _ _ _ _ _
    (makes_then lowered without_records _ _ _ _ _ c.in_ok-lower_used.ensures.made c.in_ok-clear_records.ensures.made)
    c.in_ok-clear_handles.ensures.made)
    c.in_ok-clear_settings.ensures.made) c.clear_nodes.ensures.made

pub returns-clause-fault : goal.returns-clause-fault
returns-clause-fault g c =
    sure_then (λ k. without_settings (without_all_handles (without_records (lowered k)))) _ _ _ _ c.clear_nodes.result
    (makes_then (λ k. without_all_handles (without_records (lowered k))) without_settings _ _ _ _ _
    (makes_then (λ k. without_records (lowered k)) without_all_handles _ _ _ _ _
    (makes_then lowered without_records _ _ _ _ _ c.in_ok-lower_used.ensures.made c.in_ok-clear_records.ensures.made)
    c.in_ok-clear_handles.ensures.made)
    c.in_ok-clear_settings.ensures.made)
    c.clear_nodes.ensures.made.stays.survives c.clear_nodes.ensures.fault

pub returns-in_err-lower_used-clause-within : goal.returns-in_err-lower_used-clause-within
returns-in_err-lower_used-clause-within g c = within_failed _ _ _ _ c.in_err-lower_used.ensures.within c.from_residual.ensures.0

pub returns-in_err-clear_records-clause-within : goal.returns-in_err-clear_records-clause-within
returns-in_err-clear_records-clause-within g c =
    within_fails _ _ _ _ _ _ c.in_ok-lower_used.ensures.within c.in_err-clear_records.ensures.within c.from_residual-in_err-clear_records.ensures.0

pub returns-in_err-clear_handles-clause-within : goal.returns-in_err-clear_handles-clause-within
returns-in_err-clear_handles-clause-within g c =
    within_fails _ _ _ _ _ _ (within_then _ _ _ _ _ c.in_ok-lower_used.ensures.within c.in_ok-clear_records.ensures.within)
    c.in_err-clear_handles.ensures.within c.from_residual-in_err-clear_handles.ensures.0

pub returns-in_err-clear_settings-clause-within : goal.returns-in_err-clear_settings-clause-within
returns-in_err-clear_settings-clause-within g c =
    within_fails _ _ _ _ _ _ (within_then _ _ _ _ _ (within_then _ _ _ _ _ c.in_ok-lower_used.ensures.within c.in_ok-clear_records.ensures.within)
    c.in_ok-clear_handles.ensures.within) c.in_err-clear_settings.ensures.within c.from_residual-in_err-clear_settings.ensures.0

pub returns-clause-within : goal.returns-clause-within
returns-clause-within g c =
    within_then _ _ _ _ _ (within_then _ _ _ _ _ (within_then _ _ _ _ _ (within_then _ _ _ _ _ c.in_ok-lower_used.ensures.within
    c.in_ok-clear_records.ensures.within) c.in_ok-clear_handles.ensures.within) c.in_ok-clear_settings.ensures.within) c.clear_nodes.ensures.within
