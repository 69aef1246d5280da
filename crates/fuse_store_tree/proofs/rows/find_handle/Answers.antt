use Rattle.std.proofs.Common.{sym, ◌∙◌, arith}
use Rattle.std.specs.Prelude.{◌^◌}
use Rattle.fuse_store_tables.specs.Content.{fh_of, at_by}
use Rattle.fuse_rows.specs.Columns.{FitsHandle}
use Rattle.fuse_store_tree.proofs.Looks.{found_is, none_found, all_map, map_ok, map_err, drop_first}
use Rattle.fuse_store_tree.proofs.rows.find_handle.Goals as goal

pub returns-then-fh-ge-END-clause-value : goal.returns-then-fh-ge-END-clause-value
returns-then-fh-ge-END-clause-value g c clean k at fits = sym (none_found fh_of c.args.fh (2 ^ 63) k.handles (omega (arith, c.if-fh-ge-END.true))
    (all_map _ _ k.handles (λ x p. p.fh) fits.handles))

pub returns-clause-value : goal.returns-clause-value
returns-clause-value g c clean = map_ok c.read_handle.result _ _ (λ r told k at fits. told (at_by fh_of c.args.fh k.handles)
    (drop_first _ _ (at_by fh_of c.args.fh k.handles) (found_is fh_of c.args.fh FitsHandle k.handles fits.handles)) (c.as_slice.ensures.value
    ∙ c.in_ok-rows.ensures.found clean k at)) c.read_handle.ensures.value

pub returns-clause-fault : goal.returns-clause-fault
returns-clause-fault g c clean = map_err c.read_handle.result _ _ (λ f told k at. told (at_by fh_of c.args.fh k.handles) (c.as_slice.ensures.value
    ∙ c.in_ok-rows.ensures.found clean k at)) c.read_handle.ensures.fault
