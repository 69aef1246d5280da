use Rattle.std.proofs.Common.{◌∙◌}
use Rattle.fuse_store_tree.proofs.Looks.{map_ok, map_err}
use Rattle.fuse_store_tree.proofs.counters.find_meta.Goals as goal

pub returns-clause-value : goal.returns-clause-value
returns-clause-value g c clean = map_ok c.read_meta.result _ _ (λ r told k at. told k.counters (c.as_slice.ensures.value
    ∙ c.in_ok-rows.ensures.found clean k at)) c.read_meta.ensures.value

pub returns-clause-fault : goal.returns-clause-fault
returns-clause-fault g c clean = map_err c.read_meta.result _ _ (λ f told k at long s t. told k.counters (c.as_slice.ensures.value
    ∙ c.in_ok-rows.ensures.found clean k at) long s t) c.read_meta.ensures.fault
