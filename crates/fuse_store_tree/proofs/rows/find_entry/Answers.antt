use Rattle.std.proofs.Common.{sym, ◌∙◌, arith, find}
use Rattle.fuse_store_tables.specs.Content.{has_name, shown_place}
use Rattle.fuse_store_tree.proofs.Looks.{map_ok, map_err, first_found, name_found, none_named}
use Rattle.fuse_store_tree.proofs.rows.find_entry.Goals as goal

pub returns-then-dir-ge-END-clause-value : goal.returns-then-dir-ge-END-clause-value
returns-then-dir-ge-END-clause-value g c clean k at fits = sym (none_named c.args.dir c.args.name.now k.entries (omega (arith, c.if-dir-ge-END.true)) fits.entries)

pub returns-clause-value : goal.returns-clause-value
returns-clause-value g c clean = map_ok c.read_place.result _ _
    (λ r told k at fits. told (find (has_name c.args.dir c.args.name.now) k.entries) (name_found c.args.dir c.args.name.now k.entries)
    (c.as_slice.ensures.value ∙ c.in_ok-rows.ensures.found clean k at ∙ first_found shown_place (has_name c.args.dir c.args.name.now) k.entries))
    c.read_place.ensures.value

pub returns-clause-fault : goal.returns-clause-fault
returns-clause-fault g c clean = map_err c.read_place.result _ _
    (λ f told k at. told (find (has_name c.args.dir c.args.name.now) k.entries)
    (c.as_slice.ensures.value ∙ c.in_ok-rows.ensures.found clean k at ∙ first_found shown_place (has_name c.args.dir c.args.name.now) k.entries))
    c.read_place.ensures.fault
