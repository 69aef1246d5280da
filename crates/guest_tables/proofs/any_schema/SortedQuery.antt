-- A query on one table in the order of any columns.
use Rattle.std.proofs.Common.{◌≡◌, ℕ, pos, List, [], ◌∷◌, map, filter, Bool, true, false, None, sym, ap, subst, ◌∙◌}
use Rattle.std.specs.List.{flat_map, list_all}
use Rattle.std.specs.Ordering.{is_gt}
use Rattle.std.specs.List.Sorted.{IsPermutation, IsSorted}
use Rattle.sqlite.specs.declared.types.Value.{Value}
use Rattle.sqlite.specs.declared.types.Value.TheVariants.{Int}
use Rattle.sqlite.specs.Order.{Row}
use Rattle.sqlite.specs.Tree.{Trees}
use Rattle.sqlite_trees.specs.Tree.{IsAscending}
use Rattle.sqlite_trees.proofs.ListLemmas.{map-map, ascending_from_map, ascending_weaker}
use Rattle.sqlite_value.specs.declared.keys.Collation.TheVariants.{Binary}
use Rattle.sqlite_value.specs.declared.keys.Key.{Key}
use Rattle.sqlite.specs.Term.{Term, Env, lit, eval_all, holds}
use Rattle.sqlite.specs.Query.{Query, inner, end, IsAnswerAs, matches_as, output, page, Output}
use Rattle.sqlite_sql.specs.Query.{output_cmp}
use Rattle.sqlite_sql.proofs.QueryLemmas.{output_cmp_total}
use Rattle.sqlite_exec.proofs.PartitionLemmas.{ascending_from_sorted}
use Rattle.guest_tables.proofs.any_schema.Lifting.{lifted}
use Rattle.guest_tables.proofs.any_schema.Reading.{matched}

-- the rows of one table that pass, in this order, up to a limit
abbrev pub sorted_query : ℕ → List Term → List Term → List (Term × Key) → Term → Query
sorted_query table where_terms shown order limit = record {
  from = inner table end;
  filter = where_terms;
  group = None;
  project = shown;
  distinct = false;
  collations = [];
  order = order;
  limit = limit;
  offset = lit (Int (pos 0));
}

abbrev pub rising : Key
rising = record { collation = Binary; descending = false }

abbrev pub falling : Key
falling = record { collation = Binary; descending = true }

module _ {X : Type 0} (row : X → Row) (lost : Value) (db : Trees) (terms : List Term) (params : Row) (shown : List Term) (order : List (Term × Key)) (limit : Term) (t : ℕ) where
  abbrev query : Query
  query = sorted_query t terms shown order limit

  abbrev env : X → Env
  env x = params ∷ row x ∷ []

  abbrev pub out : X → Output
  out x = output query (env x)

  pub in_order : (R : X → X → Type 0) → ((a b : X) → is_gt (output_cmp query (out a) (out b)) ≡ false → R a b) → (p : X → Bool)
      → ((x : X) → list_all (holds (env x)) terms ≡ p x)
      → (xs : List X) (rows : List Row) → db t ≡ map row xs → IsAnswerAs lost query db params rows
      → (ws : List X) × IsPermutation (filter p xs) ws × IsAscending R ws × (rows ≡ page query params (map (λ x. eval_all shown (env x)) ws))
  in_order R says p tests xs rows has a =
      let ways : matches_as lost db terms (inner t end) (params ∷ []) ≡ map env (filter p xs) =
      ap (flat_map (λ r. matches_as lost db terms end (params ∷ r ∷ []))) has ∙ matched row p lost db terms params tests xs in
      let kept : a.kept ≡ map out (filter p xs) = a.distinct ∙ ap (map (output query)) (a.grouped ∙ ways) ∙ map-map (output query) env (filter p xs) in
      let made = lifted out (filter p xs) a.ordered (subst (λ k. IsPermutation k a.ordered) kept a.same) in
      let up = ascending_from_sorted (output_cmp query) (output_cmp_total query) (map out made.0) (subst (IsSorted (output_cmp query)) (sym made.1) a.sorted) in (
        made.0,
        made.2,
        ascending_weaker _ R says made.0 (ascending_from_map (λ x y. is_gt (output_cmp query x y) ≡ false) out made.0 up),
        a.shown ∙ ap (λ o. page query params (map (λ (x : Output). x.1) o)) (sym made.1) ∙ ap (page query params) (map-map (λ (x : Output). x.1) out made.0),
      )
