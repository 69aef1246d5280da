-- A query in the order of the rowid of its first table.
use Rattle.std.proofs.Common.{◌≡◌, ℕ, pos, ◌<◌, ◌≤◌, List, [], ◌∷◌, map, filter, Bool, false, None, Equal, Less, sym, ap, subst, arith, ◌∙◌}
use Rattle.std.specs.List.{flat_map, list_all, AllByRecursion}
use Rattle.std.specs.Ordering.{nat_cmp, is_gt, ordering_then}
use Rattle.std.specs.List.Sorted.{IsPermutation, IsSorted}
use Rattle.std.proofs.lemmas.Bool.Decides.{nat_tests}
use Rattle.sqlite.specs.declared.types.Value.{Value}
use Rattle.sqlite.specs.declared.types.Value.TheVariants.{Int}
use Rattle.sqlite.specs.Order.{Row}
use Rattle.sqlite.specs.Tree.{Trees}
use Rattle.sqlite_trees.specs.Tree.{IsAscending, IsTable, rowid}
use Rattle.sqlite_value.specs.Order.{value_cmp}
use Rattle.sqlite_value.specs.declared.keys.Collation.TheVariants.{Binary}
use Rattle.sqlite.specs.Term.{Term, Env, lit, col, eval_all, holds}
use Rattle.sqlite.specs.Query.{Query, Join, inner, end, IsAnswerAs, matches_as, output, page, Output}
use Rattle.sqlite_sql.specs.Query.{output_cmp}
use Rattle.sqlite_sql.proofs.QueryLemmas.{output_cmp_total}
use Rattle.sqlite_exec.proofs.PartitionLemmas.{ascending_from_sorted}
use Rattle.sqlite_trees.proofs.ListLemmas.{map-map, ascending-filter}
use Rattle.guest_tables.proofs.any_schema.Lifting.{lifted}
use Rattle.guest_tables.proofs.any_schema.Keyed.{row_cmp_nat, cmp_rows}
use Rattle.guest_tables.proofs.any_schema.Reading.{matched}
use Rattle.guest_tables.proofs.any_schema.Sorting.{sorted_same, Rises, Follows}

-- the ways to fill the slots of a join that pass, in the order of the rowid of its first table, up to a limit
abbrev pub ordered_from : Join → List Term → List Term → Term → Query
ordered_from join where_terms shown limit = record {
  from = join;
  filter = where_terms;
  group = None;
  project = shown;
  distinct = false;
  collations = [];
  order = (col 1 0, record { collation = Binary; descending = false }) ∷ [];
  limit = limit;
  offset = lit (Int (pos 0));
}

-- the rows of one table that pass
abbrev pub ordered_query : ℕ → List Term → List Term → Term → Query
ordered_query table = ordered_from (inner table end)

at_most : (a b : ℕ) → is_gt (ordering_then (value_cmp (Int (pos a)) (Int (pos b))) Equal) ≡ false → a ≤ b
at_most a b h = below (subst (λ o. is_gt (ordering_then o Equal) ≡ false) (row_cmp_nat a b) h)
  where
    below : is_gt (ordering_then (nat_cmp a b) Equal) ≡ false → a ≤ b
    below k = grind (arith, nat_tests)

-- each way has the row of its x in the first slot, and these rows in those after it
module _ {X : Type 0} (key : X → ℕ) (cells : X → Row) (beside : X → List Row) (lost : Value) (db : Trees) (terms : List Term) (params : Row) (shown : List Term)
    (limit : Term) where
  abbrev env : X → Env
  env x = params ∷ (Int (pos (key x)) ∷ cells x) ∷ beside x

  abbrev query : Join → Query
  query join = ordered_from join terms shown limit

  abbrev out : Join → X → Output
  out join x = output (query join) (env x)

  follows : (join : Join) (xs : List X) → IsAscending (λ a b. is_gt (output_cmp (query join) a b) ≡ false) (map (out join) xs) → Follows key xs
  follows join [] up = tt
  follows join (x ∷ xs) up = (each xs up.0, follows join xs up.1)
    where
      each : (ys : List X) → AllByRecursion (λ b. is_gt (output_cmp (query join) (out join x) b) ≡ false) (map (out join) ys)
          → AllByRecursion (λ y. key x ≤ key y) ys
      each [] all = tt
      each (y ∷ ys) all = (at_most (key x) (key y) all.0, each ys all.1)

  pub ways_in_order : (join : Join) (ys : List X) (rows : List Row) → matches_as lost db terms join (params ∷ []) ≡ map env ys → Rises key ys
      → IsAnswerAs lost (query join) db params rows
      → rows ≡ page (query join) params (map (λ y. eval_all shown (env y)) ys)
  ways_in_order join ys rows ways rises a =
      let q = query join in
      let kept : a.kept ≡ map (out join) ys = a.distinct ∙ ap (map (output q)) (a.grouped ∙ ways) ∙ map-map (output q) env ys in
      let made = lifted (out join) ys a.ordered (subst (λ k. IsPermutation k a.ordered) kept a.same) in
      let ws = made.0 in
      let up = ascending_from_sorted (output_cmp q) (output_cmp_total q) (map (out join) ws) (subst (IsSorted (output_cmp q)) (sym made.1) a.sorted) in
      let same : ws ≡ ys = sorted_same key ys ws rises (follows join ws up) made.2 in
      let ordered : a.ordered ≡ map (out join) ys = sym made.1 ∙ ap (map (out join)) same in
      a.shown ∙ ap (λ o. page q params (map (λ (x : Output). x.1) o)) ordered ∙ ap (page q params) (map-map (λ (x : Output). x.1) (out join) ys)

module _ {X : Type 0} (key : X → ℕ) (cells : X → Row) (p : X → Bool) (lost : Value) (db : Trees) (terms : List Term) (params : Row) where
  abbrev row : X → Row
  row x = Int (pos (key x)) ∷ cells x

  pub answered_in_order : (tests : (x : X) → list_all (holds (params ∷ row x ∷ [])) terms ≡ p x) (shown : List Term) (limit : Term) (t : ℕ) (xs : List X)
      (rows : List Row) → db t ≡ map row xs → Rises key xs → IsAnswerAs lost (ordered_query t terms shown limit) db params rows
      → rows ≡ page (ordered_query t terms shown limit) params (map (λ x. eval_all shown (params ∷ row x ∷ [])) (filter p xs))
  answered_in_order tests shown limit t xs rows has rises =
      ways_in_order key cells (λ _. []) lost db terms params shown limit (inner t end) (filter p xs) rows
      (ap (flat_map (λ r. matches_as lost db terms end (params ∷ r ∷ []))) has ∙ matched row p lost db terms params tests xs)
      (ascending-filter (λ a b. key a < key b) p xs rises)

-- the rows of a table rise by their keys
less_below : (a b : ℕ) → nat_cmp a b ≡ Less → a < b
less_below a b is = grind (arith, nat_tests)

module _ {X : Type 0} (key : X → ℕ) (row : X → Row) (keyed : (x : X) → rowid (row x) ≡ Int (pos (key x))) where
  all_above : (x : X) (ys : List X) → AllByRecursion (λ r. value_cmp (rowid (row x)) (rowid r) ≡ Less) (map row ys) → AllByRecursion (λ y. key x < key y) ys
  all_above x [] above = tt
  all_above x (y ∷ ys) above = (less_below (key x) (key y) (sym (cmp_rows key row keyed x y) ∙ above.0), all_above x ys above.1)

  pub rises_from : (xs : List X) → IsTable (map row xs) → Rises key xs
  rises_from [] rise = tt
  rises_from (x ∷ xs) rise = (all_above x xs rise.0, rises_from xs rise.1)
