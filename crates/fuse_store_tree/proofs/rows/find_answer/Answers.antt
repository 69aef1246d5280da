use Rattle.std.proofs.Common.{◌∙◌}
use Rattle.fuse_store_tables.specs.Content.{kept_key, at_by}
use Rattle.fuse_store_tree.specs.Fits.{KeepsRecord}
use Rattle.fuse_store_tree.proofs.Looks.{found_is, map_ok, map_err, drop_second}
use Rattle.fuse_store_tree.proofs.rows.find_answer.Goals as goal

pub returns-clause-value : goal.returns-clause-value
returns-clause-value g c clean = map_ok c.read_answer.result _ _ (λ r told k at fits. told (at_by kept_key c.args.id k.kept) (c.as_slice.ensures.value
    ∙ c.in_ok-rows.ensures.found clean k at)) c.read_answer.ensures.value

pub returns-clause-fault : goal.returns-clause-fault
returns-clause-fault g c clean = map_err c.read_answer.result _ _ (λ f told k at fits. told (at_by kept_key c.args.id k.kept)
    (drop_second _ _ (at_by kept_key c.args.id k.kept) (found_is kept_key c.args.id KeepsRecord k.kept fits.kept)) (c.as_slice.ensures.value
    ∙ c.in_ok-rows.ensures.found clean k at)) c.read_answer.ensures.fault
