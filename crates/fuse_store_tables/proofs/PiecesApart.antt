-- UNIQUE keeps the pieces apart.
use Rattle.std.proofs.Common.{◌≡◌, ℕ, pos, List, [], ◌∷◌, map, Bool, true, false, ◌&&◌, Some, Less, refl, sym, ap, subst, ◌∙◌}
use Rattle.std.specs.List.{AllByRecursion, list_any}
use Rattle.std.specs.Ordering.{is_eq, is_ne, nat_cmp}
use Rattle.sqlite.specs.declared.types.Value.TheVariants.{Int}
use Rattle.sqlite.specs.Order.{Row}
use Rattle.sqlite.specs.Schema.{Schema}
use Rattle.sqlite.specs.Tree.{Trees}
use Rattle.sqlite_value.specs.Order.{value_cmp}
use Rattle.sqlite_value.specs.Keys.{plain, first_key}
use Rattle.sqlite_sql.specs.Ops.{binary, is_true, from_truth}
use Rattle.sqlite_schema.specs.declared.schema.Constraint.TheVariants.{Unique}
use Rattle.sqlite_schema.specs.Rules.{Keeps, agree, differ, clashes, passes}
use Rattle.sqlite_trees.specs.Tree.{IsTable, IsAscending, rowid}
use Rattle.sqlite.specs.Effect.{Database}
use Rattle.fuse_store_tables.specs.Layout.{pieces, third_schema}
use Rattle.fuse_store_tables.specs.Pieces.{Piece, piece_row}
use Rattle.fuse_store_tables.specs.Content.{Content, HoldsIn}
use Rattle.fuse_store_tables.specs.declared.version.Layout.TheVariants.{Third}
use Rattle.fuse_store_tables.proofs.Apart.{above_differs, first_false, neither, not_true, told}
use Rattle.fuse_store_tables.proofs.Keyed.{row_cmp_nat}
use Rattle.fuse_store_tables.proofs.Laid.{held_in, schema_known}

abbrev place : List ℕ
place = 1 ∷ 2 ∷ []

-- b begins where a does
abbrev pub same_begin : Piece → Piece → Bool
same_begin a b = is_eq (nat_cmp b.node a.node) && is_eq (nat_cmp b.first a.first)

abbrev hits : Row → Row → Bool
hits other row = agree plain place other place row && differ (rowid other) (rowid row)

hits_is : (b a : Piece) → hits (piece_row b) (piece_row a) ≡ (same_begin a b && is_ne (nat_cmp b.slot a.slot))
unfolding binary first_key
hits_is b a =
    ap (λ o. (is_true (from_truth (Some (is_eq o))) && (is_true (from_truth (Some (is_eq (value_cmp (Int (pos b.first)) (Int (pos a.first)))))) && true))
    && is_true (from_truth (Some (is_ne (value_cmp (Int (pos b.slot)) (Int (pos a.slot))))))) (row_cmp_nat b.node a.node)
    ∙ ap (λ o. (is_true (from_truth (Some (is_eq (nat_cmp b.node a.node)))) && (is_true (from_truth (Some (is_eq o))) && true))
    && is_true (from_truth (Some (is_ne (value_cmp (Int (pos b.slot)) (Int (pos a.slot))))))) (row_cmp_nat b.first a.first)
    ∙ ap (λ o. (is_true (from_truth (Some (is_eq (nat_cmp b.node a.node)))) && (is_true (from_truth (Some (is_eq (nat_cmp b.first a.first)))) && true))
    && is_true (from_truth (Some (is_ne o)))) (row_cmp_nat b.slot a.slot)
    ∙ told (is_eq (nat_cmp b.node a.node)) (is_eq (nat_cmp b.first a.first)) (is_ne (nat_cmp b.slot a.slot))

abbrev NoneHits : List Piece → Piece → Type 0
NoneHits ps a = list_any (λ o. hits o (piece_row a)) (map piece_row ps) ≡ false

each : (a : Piece) (ps : List Piece) → AllByRecursion (λ r. value_cmp (rowid (piece_row a)) (rowid r) ≡ Less) (map piece_row ps) → NoneHits ps a
    → AllByRecursion (λ b. same_begin a b ≡ false) ps
each a [] above none = tt
each a (b ∷ ps) above none =
    let both = neither _ _ none in
    (first_false _ _ (above_differs a.slot b.slot (sym (row_cmp_nat a.slot b.slot) ∙ above.0)) (sym (hits_is b a) ∙ both.0), each a ps above.1 both.1)

fewer : (x : Piece) (ps all : List Piece) → AllByRecursion (NoneHits (x ∷ ps)) all → AllByRecursion (NoneHits ps) all
fewer x ps [] none = tt
fewer x ps (a ∷ all) none = ((neither _ _ none.0).1, fewer x ps all none.1)

apart : (ps : List Piece) → IsTable (map piece_row ps) → AllByRecursion (NoneHits ps) ps → IsAscending (λ a b. same_begin a b ≡ false) ps
apart [] rise none = tt
apart (a ∷ ps) rise none = (each a ps rise.0 (neither _ _ none.0).1, apart ps rise.1 (fewer a ps ps none.1))

none_hits : (trees : Trees) (all ps : List Piece) → trees 11 ≡ map piece_row all
    → AllByRecursion (λ row. passes Unique third_schema trees pieces row ≡ true) (map piece_row ps) → AllByRecursion (NoneHits all) ps
none_hits trees all [] is unique = tt
none_hits trees all (p ∷ ps) is unique = (
  subst (λ rows. list_any (λ o. hits o (piece_row p)) rows ≡ false) is (not_true (clashes plain place (trees 11) (piece_row p)) unique.0),
  none_hits trees all ps is unique.1,
)

-- no two pieces of a node begin with the same block
pub pieces_apart : (c : Content) (d : Database) → HoldsIn Third c d → IsAscending (λ a b. same_begin a b ≡ false) c.pieces
pieces_apart c d at =
    let was = (held_in Third c d at).rows.1.1.1.1.1.1.1.0 in
    let unique : Keeps Unique third_schema d.trees = subst (λ (s : Schema). Keeps Unique s d.trees) (schema_known Third c d at) (at.0.sound.obeys.rules Unique) in
    apart c.pieces (subst IsTable was.0 was.1)
    (none_hits d.trees c.pieces c.pieces was.0
    (subst (λ rows. AllByRecursion (λ row. passes Unique third_schema d.trees pieces row ≡ true) rows) was.0 unique.1.1.1.1.1.1.1.0))
