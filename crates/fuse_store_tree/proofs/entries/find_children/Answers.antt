use Rattle.std.proofs.Common.{◌≡◌, List, sym, ap, subst, arith, ◌∙◌, take, filter, length, map}
use Rattle.std.specs.List.{AllByRecursion}
use Rattle.sqlite.specs.Order.{Row}
use Rattle.fuse_store_tables.specs.Content.{stands_after, shown_child}
use Rattle.fuse_store_tree.specs.inner.Reading.{child_in, shown_beside, IsReadBack}
use Rattle.fuse_store_tree.proofs.Looks.{map_ok, map_err}
use Rattle.fuse_store_tree.proofs.ListingLemmas.{nothing, none_in, none_after, take_map, taken_in_dir, not_cut, shown_length}
use Rattle.fuse_store_tree.proofs.Children.{shown_all, all_read_back}
use Rattle.fuse_store_tree.proofs.entries.find_children.Goals as goal

pub returns-then-dir-ge-END-clause-value : goal.returns-then-dir-ge-END-clause-value
returns-then-dir-ge-END-clause-value g c clean k at fits = c.new.ensures.items ∙ ap (map (child_in k)) (nothing c.args.limit
    ∙ ap (take c.args.limit) (sym (none_in c.args.dir c.args.cookie k.entries (omega (arith, c.if-dir-ge-END.true)) fits.entries)))

pub returns-then-cookie-ge-END-clause-value : goal.returns-then-cookie-ge-END-clause-value
returns-then-cookie-ge-END-clause-value g c clean k at fits = c.new-then-cookie-ge-END.ensures.items ∙ ap (map (child_in k)) (nothing c.args.limit
    ∙ ap (take c.args.limit) (sym (none_after c.args.dir c.args.cookie k.entries (omega (arith, c.if-cookie-ge-END.true)) fits.entries)))

pub returns-clause-value : goal.returns-clause-value
returns-clause-value g c clean = map_ok c.read_children.result _ _ (λ v told k at fits.
    let es = filter (stands_after c.args.dir c.args.cookie) k.entries in
    let most = c.most_of-most.result in
    let xs = map (child_in k) (take most es) in
    let same = sym (c.layout_of-layout.ensures.value k at.holds) in
    let shown = c.in_ok-rows.ensures.found clean k at ∙ take_map (shown_child k) most es in
    told xs (subst (λ l. AllByRecursion (IsReadBack l c.args.dir) xs) same
    (all_read_back c.args.dir k (take most es) fits (taken_in_dir c.args.dir c.args.cookie most k.entries)))
    (subst (λ l. ◌≡◌ {A = List Row} c.as_slice.result.now (map (shown_beside l) xs)) same (c.as_slice.ensures.value ∙ shown ∙ shown_all k (take most es)))
    ∙ ap (map (child_in k)) (not_cut most c.args.limit c.len.result es c.most_of-most.ensures.some c.if-is_too_long.ensures (c.len.ensures
    ∙ sym c.as_slice.ensures.len ∙ ap length c.as_slice.ensures.value ∙ shown_length (shown_child k) c.in_ok-rows.rows.items (take most es) shown)))
    c.read_children.ensures.value

pub returns-clause-fault : goal.returns-clause-fault
returns-clause-fault g c clean = map_err c.read_children.result _ _ (λ f told k at fits few.
    let es = filter (stands_after c.args.dir c.args.cookie) k.entries in
    let most = c.most_of-most.result in
    let xs = map (child_in k) (take most es) in
    let same = sym (c.layout_of-layout.ensures.value k at.holds) in
    told xs (subst (λ l. AllByRecursion (IsReadBack l c.args.dir) xs) same
    (all_read_back c.args.dir k (take most es) fits (taken_in_dir c.args.dir c.args.cookie most k.entries)))
    (subst (λ l. ◌≡◌ {A = List Row} c.as_slice.result.now (map (shown_beside l) xs)) same (c.as_slice.ensures.value ∙ c.in_ok-rows.ensures.found clean k at
    ∙ take_map (shown_child k) most es ∙ shown_all k (take most es)))) c.read_children.ensures.fault
