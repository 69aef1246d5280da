-- The rows of pairs in a database of the tables.
use Rattle.std.proofs.Common.{◌≡◌, ◌≢◌, ◌∙◌, ℕ, pos, Bool, true, false, ◌&&◌, List, [], ◌∷◌, map, Some, Less, refl, sym, ap, subst}
use Rattle.std.specs.List.{AllByRecursion, list_any}
use Rattle.std.specs.Ordering.{is_eq, is_ne, nat_cmp}
use Rattle.std.specs.Cmp.Lexicographic.{texts_ties}
use Rattle.sqlite.specs.declared.types.Value.TheVariants.{Int}
use Rattle.sqlite.specs.Order.{Row}
use Rattle.sqlite.specs.Tree.{Trees}
use Rattle.sqlite.specs.Effect.{Database}
use Rattle.sqlite.specs.Schema.{Schema}
use Rattle.sqlite_value.specs.Order.{value_cmp}
use Rattle.sqlite_value.specs.Keys.{plain, first_key}
use Rattle.sqlite_value.proofs.OrderLemmas.{value_cmp-Blob}
use Rattle.sqlite_sql.specs.Ops.{binary, is_true, from_truth}
use Rattle.sqlite_schema.specs.declared.schema.Constraint.TheVariants.{Unique}
use Rattle.sqlite_schema.specs.declared.schema.Keys.{Keys}
use Rattle.sqlite_schema.specs.Rules.{Keeps, agree, differ, clashes, passes}
use Rattle.sqlite_rules.specs.Action.{works}
use Rattle.sqlite_trees.specs.Tree.{IsTable, rowid}
use Rattle.fuse_guest.specs.Pairs.{key_order, is_same_key}
use Rattle.guest_tables.proofs.any_schema.Apart.{neither, first_false, above_differs, not_true}
use Rattle.guest_tables.proofs.any_schema.Keyed.{row_cmp_nat}
use Rattle.guest_tables.proofs.any_schema.Ordered.{rises_from}
use Rattle.guest_tables.proofs.any_schema.Tables.{quiet_tables}
use Rattle.guest_tables.specs.Layout.{guest_schema, pair_table}
use Rattle.guest_tables.specs.Rows.{PairRow, pair_row, AreApart}
use Rattle.guest_tables.specs.Content.{GuestContent, Holds, stored}
use Rattle.guest_tables.proofs.PairKeys.{other_way}
use Rattle.guest_tables.proofs.PairsOfRows.{RisesBySlot}

abbrev pub slot_of : PairRow → ℕ
slot_of p = p.slot

-- what the rows of pairs say of the other tables
pub only_pairs : (c : GuestContent) (rows : List PairRow) → AllByRecursion (λ t. t.tree ≢ 1 → stored (record c { pairs = rows }) t.tree ≡ stored c t.tree)
    guest_schema.tables
only_pairs c rows = (λ _. refl, (λ e. absurd (e refl), (λ _. refl, (λ _. refl, tt))))

pub has_pairs : (c : GuestContent) (d : Database) → Holds c d → (d.trees 1 ≡ map pair_row c.pairs) × IsTable (d.trees 1)
has_pairs c d at = at.rows.1.0

pub slots_rise : (c : GuestContent) (d : Database) → Holds c d → RisesBySlot c.pairs
slots_rise c d at = let was = has_pairs c d at in rises_from slot_of pair_row (λ _. refl) c.pairs (subst IsTable was.0 was.1)

-- no key without an action sets anything off
pub quiet_guest : (keys : Keys) (olds news : List Row) → works guest_schema keys 0 1 olds news ≡ []
quiet_guest keys olds news = quiet_tables guest_schema keys 1 olds news guest_schema.tables (tt, (tt, (tt, (((refl, refl), tt), tt))))

-- ---- UNIQUE keeps the keys apart

abbrev key_place : List ℕ
key_place = 1 ∷ []

abbrev hits : Row → Row → Bool
hits other row = agree plain key_place other key_place row && differ (rowid other) (rowid row)

told : (a d : Bool) → ((is_true (from_truth (Some a)) && true) && is_true (from_truth (Some d))) ≡ (a && d)
told true true = refl
told true false = refl
told false d = refl

hits_is : (b a : PairRow) → hits (pair_row b) (pair_row a) ≡ (is_same_key b.key a.key && is_ne (nat_cmp b.slot a.slot))
unfolding binary first_key
hits_is b a =
    ap (λ o. (is_true (from_truth (Some (is_eq o))) && true) && is_true (from_truth (Some (is_ne (value_cmp (Int (pos b.slot)) (Int (pos a.slot)))))))
    (value_cmp-Blob b.key a.key)
    ∙ ap (λ o. (is_true (from_truth (Some (is_eq (key_order b.key a.key)))) && true) && is_true (from_truth (Some (is_ne o)))) (row_cmp_nat b.slot a.slot)
    ∙ told (is_eq (key_order b.key a.key)) (is_ne (nat_cmp b.slot a.slot))
    ∙ ap (λ t. t && is_ne (nat_cmp b.slot a.slot)) (sym (texts_ties b.key a.key))

abbrev NoneHits : List PairRow → PairRow → Type 0
NoneHits ps a = list_any (λ o. hits o (pair_row a)) (map pair_row ps) ≡ false

each : (a : PairRow) (ps : List PairRow) → AllByRecursion (λ r. value_cmp (rowid (pair_row a)) (rowid r) ≡ Less) (map pair_row ps) → NoneHits ps a
    → AllByRecursion (λ b. is_same_key a.key b.key ≡ false) ps
each a [] above none = tt
each a (b ∷ ps) above none =
    let both = neither _ _ none in (
      other_way b.key a.key (first_false _ _ (above_differs a.slot b.slot (sym (row_cmp_nat a.slot b.slot) ∙ above.0)) (sym (hits_is b a) ∙ both.0)),
      each a ps above.1 both.1,
    )

fewer : (x : PairRow) (ps all : List PairRow) → AllByRecursion (NoneHits (x ∷ ps)) all → AllByRecursion (NoneHits ps) all
fewer x ps [] none = tt
fewer x ps (a ∷ all) none = ((neither _ _ none.0).1, fewer x ps all none.1)

apart : (ps : List PairRow) → IsTable (map pair_row ps) → AllByRecursion (NoneHits ps) ps → AreApart ps
apart [] rise none = tt
apart (a ∷ ps) rise none = (each a ps rise.0 (neither _ _ none.0).1, apart ps rise.1 (fewer a ps ps none.1))

none_hits : (trees : Trees) (all ps : List PairRow) → trees 1 ≡ map pair_row all
    → AllByRecursion (λ row. passes Unique guest_schema trees pair_table row ≡ true) (map pair_row ps) → AllByRecursion (NoneHits all) ps
none_hits trees all [] is unique = tt
none_hits trees all (b ∷ ps) is unique = (
  subst (λ rows. list_any (λ o. hits o (pair_row b)) rows ≡ false) is (not_true (clashes plain key_place (trees 1) (pair_row b)) unique.0),
  none_hits trees all ps is unique.1,
)

pub pairs_apart : (c : GuestContent) (d : Database) → Holds c d → AreApart c.pairs
pairs_apart c d at =
    let was = has_pairs c d at in
    let unique : Keeps Unique guest_schema d.trees = subst (λ (s : Schema). Keeps Unique s d.trees) at.schema (at.sound.obeys.rules Unique) in
    apart c.pairs (subst IsTable was.0 was.1)
    (none_hits d.trees c.pairs c.pairs was.0
    (subst (λ rows. AllByRecursion (λ row. passes Unique guest_schema d.trees pair_table row ≡ true) rows) was.0 unique.1.0))
