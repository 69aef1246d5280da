-- UNIQUE keeps the blocks apart.
use Rattle.std.proofs.Common.{◌≡◌, ℕ, pos, List, [], ◌∷◌, map, Bool, true, false, not, ◌&&◌, ◌||◌, Some, Less, Greater, refl, sym, ap, subst, arith, ◌∙◌}
use Rattle.std.specs.List.{AllByRecursion, list_any}
use Rattle.std.specs.Ordering.{is_eq, is_ne, nat_cmp}
use Rattle.std.proofs.lemmas.Bool.Decides.{nat_tests}
use Rattle.sqlite.specs.declared.types.Value.TheVariants.{Int}
use Rattle.sqlite.specs.Order.{Row}
use Rattle.sqlite.specs.Schema.{Schema}
use Rattle.sqlite.specs.Tree.{Trees}
use Rattle.sqlite_value.specs.Order.{value_cmp}
use Rattle.sqlite_value.specs.Keys.{plain, first_key}
use Rattle.sqlite_sql.specs.Ops.{binary, is_true, from_truth}
use Rattle.sqlite_schema.specs.declared.schema.Constraint.TheVariants.{Unique}
use Rattle.sqlite_schema.specs.Rules.{Keeps, agree, differ, clashes, passes}
use Rattle.sqlite_trees.specs.Tree.{IsTable, IsAscending, rowid}
use Rattle.sqlite.specs.Effect.{Database}
use Rattle.fuse_store_tables.specs.Layout.{blocks, schema_for, with_kept}
use Rattle.fuse_store_tables.specs.Opening.{HoldsUnindexed}
use Rattle.fuse_store_tables.specs.Blocks.{Block, block_row, is_at}
use Rattle.fuse_store_tables.specs.Content.{Content, Holds}
use Rattle.fuse_store_tables.specs.declared.version.Layout.{Layout}
use Rattle.fuse_store_tables.specs.declared.version.Layout.TheVariants.{Second, Third}
use Rattle.fuse_store_tables.proofs.Tables.{laid}
use Rattle.fuse_store_tables.proofs.Keyed.{row_cmp_nat}

abbrev place : List ℕ
place = 1 ∷ 2 ∷ []

abbrev hits : Row → Row → Bool
hits other row = agree plain place other place row && differ (rowid other) (rowid row)

pub told : (a b d : Bool) → ((is_true (from_truth (Some a)) && (is_true (from_truth (Some b)) && true)) && is_true (from_truth (Some d))) ≡ ((a && b) && d)
told true true true = refl
told true true false = refl
told true false d = refl
told false b d = refl

hits_is : (b a : Block) → hits (block_row b) (block_row a) ≡ (is_at a.node a.block b && is_ne (nat_cmp b.slot a.slot))
unfolding binary first_key
hits_is b a =
    ap (λ o. (is_true (from_truth (Some (is_eq o))) && (is_true (from_truth (Some (is_eq (value_cmp (Int (pos b.block)) (Int (pos a.block)))))) && true))
    && is_true (from_truth (Some (is_ne (value_cmp (Int (pos b.slot)) (Int (pos a.slot))))))) (row_cmp_nat b.node a.node)
    ∙ ap (λ o. (is_true (from_truth (Some (is_eq (nat_cmp b.node a.node)))) && (is_true (from_truth (Some (is_eq o))) && true))
    && is_true (from_truth (Some (is_ne (value_cmp (Int (pos b.slot)) (Int (pos a.slot))))))) (row_cmp_nat b.block a.block)
    ∙ ap (λ o. (is_true (from_truth (Some (is_eq (nat_cmp b.node a.node)))) && (is_true (from_truth (Some (is_eq (nat_cmp b.block a.block)))) && true))
    && is_true (from_truth (Some (is_ne o)))) (row_cmp_nat b.slot a.slot)
    ∙ told (is_eq (nat_cmp b.node a.node)) (is_eq (nat_cmp b.block a.block)) (is_ne (nat_cmp b.slot a.slot))

pub neither : (a b : Bool) → (a || b) ≡ false → (a ≡ false) × (b ≡ false)
neither true b e = absurd cc
neither false b e = (refl, e)

pub first_false : (a d : Bool) → d ≡ true → (a && d) ≡ false → a ≡ false
first_false true true is e = absurd cc
first_false true false is e = absurd cc
first_false false d is e = refl

reversed : (a b : ℕ) → nat_cmp a b ≡ Less → nat_cmp b a ≡ Greater
reversed a b below = grind (arith, nat_tests)

pub above_differs : (a b : ℕ) → nat_cmp a b ≡ Less → is_ne (nat_cmp b a) ≡ true
above_differs a b below = ap is_ne (reversed a b below)

abbrev NoneHits : List Block → Block → Type 0
NoneHits bs a = list_any (λ o. hits o (block_row a)) (map block_row bs) ≡ false

each : (a : Block) (bs : List Block) → AllByRecursion (λ r. value_cmp (rowid (block_row a)) (rowid r) ≡ Less) (map block_row bs) → NoneHits bs a
    → AllByRecursion (λ b. is_at a.node a.block b ≡ false) bs
each a [] above none = tt
each a (b ∷ bs) above none =
    let both = neither _ _ none in
    (first_false _ _ (above_differs a.slot b.slot (sym (row_cmp_nat a.slot b.slot) ∙ above.0)) (sym (hits_is b a) ∙ both.0), each a bs above.1 both.1)

fewer : (x : Block) (bs all : List Block) → AllByRecursion (NoneHits (x ∷ bs)) all → AllByRecursion (NoneHits bs) all
fewer x bs [] none = tt
fewer x bs (a ∷ all) none = ((neither _ _ none.0).1, fewer x bs all none.1)

-- no two blocks have the same place
abbrev pub AreApart : List Block → Type 0
AreApart = IsAscending (λ a b. is_at a.node a.block b ≡ false)

apart : (bs : List Block) → IsTable (map block_row bs) → AllByRecursion (NoneHits bs) bs → AreApart bs
apart [] rise none = tt
apart (a ∷ bs) rise none = (each a bs rise.0 (neither _ _ none.0).1, apart bs rise.1 (fewer a bs bs none.1))

pub not_true : (b : Bool) → (not b && true) ≡ true → b ≡ false
not_true true e = absurd cc
not_true false e = refl

none_hits : (l : Layout) (trees : Trees) (all bs : List Block) → trees 5 ≡ map block_row all
    → AllByRecursion (λ row. passes Unique (schema_for l) trees blocks row ≡ true) (map block_row bs) → AllByRecursion (NoneHits all) bs
none_hits l trees all [] is unique = tt
none_hits Second trees all (b ∷ bs) is unique = (
  subst (λ rows. list_any (λ o. hits o (block_row b)) rows ≡ false) is (not_true (clashes plain place (trees 5) (block_row b)) unique.0),
  none_hits Second trees all
      bs is unique.1,
)
none_hits Third trees all (b ∷ bs) is unique = (
  subst (λ rows. list_any (λ o. hits o (block_row b)) rows ≡ false) is (not_true (clashes plain place (trees 5) (block_row b)) unique.0),
  none_hits Third trees all
      bs is unique.1,
)

unique_blocks : (l : Layout) (trees : Trees) → Keeps Unique (schema_for l) trees → AllByRecursion (λ row. passes Unique (schema_for l) trees blocks row ≡ true) (trees 5)
unique_blocks Second trees all = all.1.1.1.0
unique_blocks Third trees all = all.1.1.1.0

pub blocks_apart : (c : Content) (d : Database) → Holds c d → AreApart c.blocks
blocks_apart c d at =
    let was = (laid c d at).blocks in
    let unique : Keeps Unique (schema_for c.layout) d.trees = subst (λ (s : Schema). Keeps Unique s d.trees) at.schema (at.sound.obeys.rules Unique) in
    apart c.blocks (subst IsTable was.0 was.1)
    (none_hits c.layout d.trees c.blocks c.blocks was.0
    (subst (λ rows. AllByRecursion (λ row. passes Unique (schema_for c.layout) d.trees blocks row ≡ true) rows) was.0
    (unique_blocks c.layout d.trees unique)))

kept_hits : (trees : Trees) (all bs : List Block) → trees 5 ≡ map block_row all
    → AllByRecursion (λ row. passes Unique with_kept trees blocks row ≡ true) (map block_row bs) → AllByRecursion (NoneHits all) bs
kept_hits trees all [] is unique = tt
kept_hits trees all (b ∷ bs) is unique = (
  subst (λ rows. list_any (λ o. hits o (block_row b)) rows ≡ false) is (not_true (clashes plain place (trees 5) (block_row b)) unique.0),
  kept_hits trees all bs is unique.1,
)

-- without the index of version 2
pub unindexed_apart : (c : Content) (d : Database) → HoldsUnindexed c d → AreApart c.blocks
unindexed_apart c d at =
    let was = at.0.rows.1.1.1.0 in
    let unique : Keeps Unique with_kept d.trees = subst (λ (s : Schema). Keeps Unique s d.trees) at.0.schema (at.0.sound.obeys.rules Unique) in
    apart c.blocks (subst IsTable was.0 was.1)
    (kept_hits d.trees c.blocks c.blocks was.0
    (subst (λ rows. AllByRecursion (λ row. passes Unique with_kept d.trees blocks row ≡ true) rows) was.0 unique.1.1.1.0))
