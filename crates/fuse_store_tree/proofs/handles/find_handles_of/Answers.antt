use Rattle.std.proofs.Common.{sym, ap, arith, ◌∙◌, take, filter, length}
use Rattle.fuse_store_tables.specs.Content.{is_handle_of, shown_open}
use Rattle.fuse_store_tree.proofs.Looks.{map_ok, map_err}
use Rattle.fuse_store_tree.proofs.ListingLemmas.{nothing, none_open, taken_of_node, not_cut, shown_length, take_map}
use Rattle.fuse_store_tree.proofs.handles.find_handles_of.Goals as goal

pub returns-then-node-ge-END-clause-value : goal.returns-then-node-ge-END-clause-value
returns-then-node-ge-END-clause-value g c clean k at fits = c.new.ensures.items ∙ nothing c.args.limit
    ∙ ap (take c.args.limit) (sym (none_open c.args.node k.handles (omega (arith, c.if-node-ge-END.true)) fits.handles))

pub returns-clause-value : goal.returns-clause-value
returns-clause-value g c clean = map_ok c.read_handles.result _ _ (λ v told k at fits.
    let xs = filter (is_handle_of c.args.node) k.handles in
    let most = c.most_of-most.result in
    let shown = c.in_ok-rows.ensures.found clean k at ∙ take_map shown_open most xs in
    told (take most xs) (taken_of_node c.args.node most k.handles) (c.as_slice.ensures.value ∙ shown)
    ∙ not_cut most c.args.limit c.len.result xs c.most_of-most.ensures.some c.if-is_too_long.ensures (c.len.ensures ∙ sym c.as_slice.ensures.len
    ∙ ap length c.as_slice.ensures.value ∙ shown_length shown_open c.in_ok-rows.rows.items (take most xs) shown)) c.read_handles.ensures.value

pub returns-clause-fault : goal.returns-clause-fault
returns-clause-fault g c clean = map_err c.read_handles.result _ _ (λ f told k at few.
    let xs = filter (is_handle_of c.args.node) k.handles in
    let most = c.most_of-most.result in
    told (take most xs) (taken_of_node c.args.node most k.handles) (c.as_slice.ensures.value ∙ c.in_ok-rows.ensures.found clean k at
    ∙ take_map shown_open most xs)) c.read_handles.ensures.fault
