-- Each block is one of a node that is there.
use Rattle.std.proofs.Common.{◌≡◌, List, [], ◌∷◌, map, Bool, true, false, ◌&&◌, ◌||◌, Some, refl, sym, ap, subst, ◌∙◌}
use Rattle.std.specs.List.{AllByRecursion, list_any}
use Rattle.std.specs.Ordering.{is_eq}
use Rattle.sqlite.specs.Schema.{Schema}
use Rattle.sqlite.specs.Tree.{Trees}
use Rattle.sqlite_value.specs.Keys.{plain, first_key, joined}
use Rattle.sqlite_sql.specs.Ops.{binary, is_true, from_truth}
use Rattle.sqlite_schema.specs.Names.{same_name}
use Rattle.sqlite_schema.specs.declared.schema.Constraint.TheVariants.{ForeignKey}
use Rattle.sqlite_schema.specs.Rules.{Keeps, passes, parent_key, agree}
use Rattle.sqlite.specs.Effect.{Database}
use Rattle.fuse_rows.specs.declared.rows.NodeRow.{NodeRow}
use Rattle.fuse_store_tables.specs.declared.version.Layout.{Layout}
use Rattle.fuse_store_tables.specs.declared.version.Layout.TheVariants.{Second, Third}
use Rattle.fuse_store_tables.specs.Layout.{blocks, to_nodes, schema_for}
use Rattle.fuse_store_tables.specs.Blocks.{Block, block_row}
use Rattle.fuse_store_tables.specs.Content.{Content, Holds, node_row, node_key, has_by}
use Rattle.fuse_store_tree.proofs.Keys.{number_order, truth_is}
use Rattle.fuse_store_tree.proofs.Tabled.{nodes_stored, blocks_stored}

parent_is : (layout : Layout) → parent_key (schema_for layout).tables (to_nodes 1) ≡ Some (1, 0 ∷ [], plain)
unfolding same_name joined
parent_is Second = refl
parent_is Third = refl

agrees : (layout : Layout) (n : NodeRow) (b : Block) → agree plain (0 ∷ []) (node_row layout n) (1 ∷ []) (block_row b) ≡ has_by node_key b.node n
unfolding binary first_key
agrees layout n b = ap (λ o. is_true (from_truth (Some (is_eq o))) && true) (number_order n.node b.node) ∙ truth_is (has_by node_key b.node n)

among : (layout : Layout) (b : Block) (ns : List NodeRow) → list_any (λ parent. agree plain (0 ∷ []) parent (1 ∷ []) (block_row b)) (map (node_row layout) ns) ≡ list_any
    (has_by node_key b.node) ns
among layout b [] = refl
among layout b (n ∷ ns) = rw (agrees layout n b) (ap (λ t. has_by node_key b.node n || t) (among layout b ns))

first_true : (a : Bool) → (a && true) ≡ true → a ≡ true
first_true true e = refl
first_true false e = absurd cc

held : (layout : Layout) (trees : Trees) (ns : List NodeRow) (b : Block) → trees 1 ≡ map (node_row layout) ns
    → passes ForeignKey (schema_for layout) trees blocks (block_row b) ≡ true
    → list_any (has_by node_key b.node) ns ≡ true
held layout trees ns b is h =
    sym (among layout b ns) ∙ ap (list_any (λ parent. agree plain (0 ∷ []) parent (1 ∷ []) (block_row b))) (sym is) ∙ first_true _ (rw (parent_is layout) at h)

each : (layout : Layout) (trees : Trees) (ns : List NodeRow) (bs : List Block) → trees 1 ≡ map (node_row layout) ns
    → AllByRecursion (λ row. passes ForeignKey (schema_for layout) trees blocks row ≡ true) (map block_row bs)
    → AllByRecursion (λ b. list_any (has_by node_key b.node) ns ≡ true) bs
each layout trees ns [] is all = tt
each layout trees ns (b ∷ bs) is all = (held layout trees ns b is all.0, each layout trees ns bs is all.1)

-- the rule of the table, in either version
blocks_rule : (layout : Layout) (trees : Trees) → Keeps ForeignKey (schema_for layout) trees
    → AllByRecursion (λ row. passes ForeignKey (schema_for layout) trees blocks row ≡ true) (trees 5)
blocks_rule Second trees keys = keys.1.1.1.0
blocks_rule Third trees keys = keys.1.1.1.0

pub blocks_owned : (c : Content) (d : Database) → Holds c d → AllByRecursion (λ b. list_any (has_by node_key b.node) c.nodes ≡ true) c.blocks
blocks_owned c d at =
    let keys : Keeps ForeignKey (schema_for c.layout) d.trees =
    subst (λ (s : Schema). Keeps ForeignKey s d.trees) at.schema (at.sound.obeys.rules ForeignKey) in
    each c.layout d.trees c.nodes c.blocks (nodes_stored c d at)
    (subst (λ rows. AllByRecursion (λ row. passes ForeignKey (schema_for c.layout) d.trees blocks row ≡ true) rows) (blocks_stored c d at).0
    (blocks_rule c.layout d.trees keys))
