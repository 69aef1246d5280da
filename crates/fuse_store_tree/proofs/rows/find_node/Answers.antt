use Rattle.std.proofs.Common.{sym, subst, ◌≡◌, ◌∙◌, arith, map, List}
use Rattle.std.specs.Prelude.{◌^◌, IfSome}
use Rattle.std.specs.Option.{option_to_list}
use Rattle.sqlite.specs.Order.{Row}
use Rattle.fuse_store_tables.specs.Content.{node_key, node_columns, at_by}
use Rattle.fuse_store_tree.specs.Fits.{KeepsNode}
use Rattle.fuse_store_tree.proofs.Looks.{found_is, none_found, all_map, map_ok, map_err, drop_second}
use Rattle.fuse_store_tree.proofs.rows.find_node.Goals as goal

pub returns-then-number-ge-END-clause-value : goal.returns-then-number-ge-END-clause-value
returns-then-number-ge-END-clause-value g c clean k at fits = sym (none_found node_key c.args.number (2 ^ 63) k.nodes (omega (arith, c.if-number-ge-END.true))
    (all_map _ _ k.nodes (λ x p. p.node) fits.nodes))

pub returns-clause-value : goal.returns-clause-value
returns-clause-value g c clean = map_ok c.read_node.result _ _ (λ r told k at fits.
    let o = at_by node_key c.args.number k.nodes in
    let same = sym (c.layout_of-layout.ensures.value k at.holds) in
    told o
    (subst (λ l. IfSome o (λ n. KeepsNode l n × (n.node ≡ c.args.number))) same (found_is node_key c.args.number (KeepsNode k.layout) k.nodes fits.nodes))
    (subst (λ l. ◌≡◌ {A = List Row} c.as_slice.result.now (map (node_columns l) (option_to_list o))) same (c.as_slice.ensures.value ∙ c.in_ok-rows.ensures.found clean k at)))
    c.read_node.ensures.value

pub returns-clause-fault : goal.returns-clause-fault
returns-clause-fault g c clean = map_err c.read_node.result _ _ (λ f told k at fits.
    let o = at_by node_key c.args.number k.nodes in
    let same = sym (c.layout_of-layout.ensures.value k at.holds) in
    told o
    (subst (λ l. IfSome o (KeepsNode l)) same (drop_second _ _ o (found_is node_key c.args.number (KeepsNode k.layout) k.nodes fits.nodes)))
    (subst (λ l. ◌≡◌ {A = List Row} c.as_slice.result.now (map (node_columns l) (option_to_list o))) same (c.as_slice.ensures.value ∙ c.in_ok-rows.ensures.found clean k at)))
    c.read_node.ensures.fault
