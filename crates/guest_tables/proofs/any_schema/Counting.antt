-- A query that counts the rows of one table.
use Rattle.std.proofs.Common.{◌≡◌, ℕ, pos, negsuc, min, List, [], ◌∷◌, map, filter, length, Bool, false, Some, sym, ap, subst, ◌∙◌}
use Rattle.std.proofs.lemmas.List.{length-map}
use Rattle.std.specs.List.{list_all, AllZip}
use Rattle.std.specs.List.Sorted.{IsPermutation}
use Rattle.std.proofs.lemmas.List.Sorted.{length_permutation, IsPermutation-map}
use Rattle.sqlite.specs.declared.types.Value.{Value}
use Rattle.sqlite.specs.declared.types.Value.TheVariants.{Null, Int}
use Rattle.sqlite.specs.Order.{Row}
use Rattle.sqlite.specs.Tree.{Trees}
use Rattle.sqlite_value.specs.declared.keys.Collation.TheVariants.{Binary}
use Rattle.sqlite.specs.Term.{Term, lit, col, eval, holds, Env}
use Rattle.sqlite.specs.Query.{Query, inner, end, IsAnswerAs, matches_as, output, Output}
use Rattle.sqlite_sql.specs.Group.{Grouping, Aggregate, IsSummary, value_over}
use Rattle.sqlite_sql.specs.declared.aggregate.AggregateOp.TheVariants.{CountRows}
use Rattle.sqlite.proofs.Callers.{one_permutation}
use Rattle.fuse_store_tables.specs.Clearing.{counted_to}
use Rattle.guest_tables.proofs.any_schema.Reading.{matched}

abbrev all_rows : Aggregate
all_rows = record { op = CountRows; distinct = false; collation = Binary; argument = lit Null }

abbrev grouping : Grouping
grouping = record { keys = []; collations = []; aggregates = all_rows ∷ []; having = [] }

abbrev pub count_query : ℕ → List Term → Query
count_query tree terms = record {
  from = inner tree end;
  filter = terms;
  group = Some grouping;
  project = col 1 0 ∷ [];
  distinct = false;
  collations = [];
  order = [];
  limit = lit (Int (negsuc 0));
  offset = lit (Int (pos 0));
}

abbrev counted : ℕ → Row
counted n = Int (pos (min n 9223372036854775807)) ∷ []

same_some : (a b : Value) → Some a ≡ Some b → a ≡ b
same_some a b e = cc

values_are : (group : List Env) (values : Row) → AllZip (λ a v. value_over group a ≡ Some v) (all_rows ∷ []) values → values ≡ counted (length group)
values_are group [] z = absurd z
values_are group (v ∷ []) z = ap (λ w. w ∷ []) (sym (same_some _ v z.0)) ∙ ap counted (length-map group (eval (lit Null)))
values_are group (v ∷ w ∷ more) z = absurd z.1

one_row : (group : List Env) (rows : List Row) → AllZip (IsSummary grouping) (group ∷ []) rows → rows ≡ counted (length group) ∷ []
one_row group [] z = absurd z
one_row group (r ∷ []) z = ap (λ w. w ∷ []) (z.0.2 ∙ values_are group z.0.0 z.0.1)
one_row group (r ∷ s ∷ more) z = absurd z.1

module _ {X : Type 0} (row : X → Row) (p : X → Bool) (lost : Value) (db : Trees) (terms : List Term) (params : Row) (tests : (x : X)
    → list_all (holds (params ∷ row x ∷ [])) terms ≡ p x) where
  pub counted_all : (t : ℕ) (xs : List X) (rows : List Row) → db t ≡ map row xs → IsAnswerAs lost (count_query t terms) db params rows
      → rows ≡ (Int (pos (counted_to (filter p xs))) ∷ []) ∷ []
  counted_all t xs rows has a =
      let q = count_query t terms in
      let order = a.grouped.grouping.0 in
      let all : matches_as lost db terms (inner t end) (params ∷ []) ≡ map (λ x. params ∷ row x ∷ []) (filter p xs) = ap (λ rs. Rattle.std.specs.List.flat_map
      (λ r. matches_as lost db terms end (params ∷ r ∷ [])) rs) has ∙ matched row p lost db terms params tests xs in
      let many : length order ≡ length (filter p xs) =
      length_permutation _ order a.grouped.grouping.1 ∙ ap length all ∙ length-map (filter p xs) (λ x. params ∷ row x ∷ []) in
      let shown : a.grouped.rows ≡ counted (length (filter p xs)) ∷ [] =
      one_row order a.grouped.rows (subst (λ gs. AllZip (IsSummary grouping) gs a.grouped.rows) a.grouped.grouping.2 a.grouped.summaries)
      ∙ ap (λ n. counted n ∷ []) many in
      let staged : a.staged ≡ (params ∷ counted (length (filter p xs)) ∷ []) ∷ [] = a.grouped.having
      ∙ ap (λ rs. filter (λ (env : Env). list_all (holds env) []) (map (λ r. params ∷ r ∷ []) rs)) shown in
      let kept : a.kept ≡ output q (params ∷ counted (length (filter p xs)) ∷ []) ∷ [] = a.distinct ∙ ap (map (output q)) staged in
      let same = IsPermutation-map (λ (o : Output). o.1) _ a.ordered (subst (λ k. IsPermutation k a.ordered) kept a.same) in
      a.shown ∙ one_permutation (counted (length (filter p xs))) (map (λ (o : Output). o.1) a.ordered) same
