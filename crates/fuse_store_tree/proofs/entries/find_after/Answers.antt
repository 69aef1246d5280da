use Rattle.std.proofs.Common.{sym, ap, arith, ◌∙◌, take, filter, length}
use Rattle.fuse_store_tables.specs.Content.{stands_after, shown_entry}
use Rattle.fuse_store_tree.proofs.Looks.{map_ok, map_err}
use Rattle.fuse_store_tree.proofs.ListingLemmas.{nothing, none_in, none_after, take_map, taken_in_dir, not_cut, shown_length}
use Rattle.fuse_store_tree.proofs.entries.find_after.Goals as goal

pub returns-then-dir-ge-END-clause-value : goal.returns-then-dir-ge-END-clause-value
returns-then-dir-ge-END-clause-value g c clean k at fits = c.new.ensures.items ∙ nothing c.args.limit
    ∙ ap (take c.args.limit) (sym (none_in c.args.dir c.args.cookie k.entries (omega (arith, c.if-dir-ge-END.true)) fits.entries))

pub returns-then-cookie-ge-END-clause-value : goal.returns-then-cookie-ge-END-clause-value
returns-then-cookie-ge-END-clause-value g c clean k at fits = c.new-then-cookie-ge-END.ensures.items ∙ nothing c.args.limit
    ∙ ap (take c.args.limit) (sym (none_after c.args.dir c.args.cookie k.entries (omega (arith, c.if-cookie-ge-END.true)) fits.entries))

pub returns-clause-value : goal.returns-clause-value
returns-clause-value g c clean = map_ok c.read_entries.result _ _ (λ v told k at fits.
    let xs = filter (stands_after c.args.dir c.args.cookie) k.entries in
    let most = c.most_of-most.result in
    let shown = c.in_ok-rows.ensures.found clean k at ∙ take_map shown_entry most xs in
    told (take most xs) (taken_in_dir c.args.dir c.args.cookie most k.entries) (c.as_slice.ensures.value ∙ shown)
    ∙ not_cut most c.args.limit c.len.result xs c.most_of-most.ensures.some c.if-is_too_long.ensures (c.len.ensures ∙ sym c.as_slice.ensures.len
    ∙ ap length c.as_slice.ensures.value ∙ shown_length shown_entry c.in_ok-rows.rows.items (take most xs) shown)) c.read_entries.ensures.value

pub returns-clause-fault : goal.returns-clause-fault
returns-clause-fault g c clean = map_err c.read_entries.result _ _ (λ f told k at few.
    let xs = filter (stands_after c.args.dir c.args.cookie) k.entries in
    let most = c.most_of-most.result in
    told (take most xs) (taken_in_dir c.args.dir c.args.cookie most k.entries) (c.as_slice.ensures.value ∙ c.in_ok-rows.ensures.found clean k at
    ∙ take_map shown_entry most xs)) c.read_entries.ensures.fault
