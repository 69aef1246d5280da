-- Queries within a transaction, and what one over one table answers.
use Rattle.std.proofs.Common.{◌≡◌, ℕ, pos, negsuc, List, [], ◌∷◌, ◌++◌, map, filter, Bool, true, false, cond, ◌&&◌, Some, None, Option, Ok, Err}
use Rattle.std.proofs.Common.{Result, IfOk, IfErr, refl, sym, ap, subst, arith, ◌∙◌}
use Rattle.std.specs.List.{flat_map, list_all}
use Rattle.std.specs.List.Sorted.{IsPermutation}
use Rattle.std.specs.Option.{option_to_list}
use Rattle.std.proofs.lemmas.List.Sorted.{IsPermutation-map, length_permutation}
use Rattle.sqlite_resolve.specs.Compile.{first}
use Rattle.sqlite.specs.declared.types.Value.{Value}
use Rattle.sqlite.specs.declared.types.Value.TheVariants.{Int}
use Rattle.sqlite.specs.Schema.{Schema}
use Rattle.sqlite.specs.Order.{Row}
use Rattle.sqlite.specs.Tree.{Trees}
use Rattle.sqlite.specs.declared.error.Error.{Error}
use Rattle.sqlite.specs.Term.{Term, lit, eval_all, holds}
use Rattle.sqlite.specs.Query.{Query, inner, end, IsAnswerAs, matches_as, output, Output}
use Rattle.sqlite_schema.specs.declared.command.Command.{Command}
use Rattle.sqlite.specs.Listing.{understood, reads_listing}
use Rattle.sqlite.specs.Effect.{Database, Reads}
use Rattle.sqlite.specs.State.{State, HasCleanDisk, Survives, Shown, FailsToQuery, CommitsShowing, IsUnchanged}
use Rattle.sqlite.proofs.Callers.{IsPlain, command_of, reads_as, one_permutation}
use Rattle.sqlite_sql.specs.Ops.{is_true, from_truth}
use Rattle.sqlite_trees.proofs.ListLemmas.{map-map}
use Rattle.fuse_store_tables.specs.Moves.{InsideAs, IsReady, Takes}
use Rattle.guest_tables.proofs.any_schema.Queries.{IsSelectText, reads_within}

module _ {C : Type 0} (P : C → Database → Type 0) (layout : Schema) (known : (c : C) (d : Database) → P c d → d.schema ≡ layout) (sql : List ℕ) (params : Row)
    (command : Command)
    (is : command_of (understood layout sql) ≡ command) (plain : IsPlain (understood layout sql)) where
  unchanged : (old new : State) (rows : List Row) → IsReady P old → Shown sql params old new rows → IsUnchanged old new
  unfolding Shown
  unchanged old new rows at h =
      let heard = sym h.1.is ∙ ap (λ (t : Schema). understood t sql) (known at.0 old.now at.1.holds) in
      let bare = subst IsPlain (sym heard) plain in
      (rw (bare.0) at h.2).3

  pub looks : IsSelectText (first sql) → {X : Type 0} (items : X → List Row) (old new : State) (r : Result X Error)
      → (HasCleanDisk new → IfOk r (λ x. Shown sql params old new (items x)))
      → (HasCleanDisk new → IfErr r (FailsToQuery sql params old new)) → Survives old new (CommitsShowing sql params old) → Takes P P old new r
  looks selects items old new (Ok x) ok err survives =
      let within = reads_within sql params selects items old new (Ok x) ok err survives in
      record {
        stays = record { survives = within.survives; kept = within.kept };
        within = within.within;
        turns = λ clean c at.
            let same = unchanged old new (items x) (c, at) (ok clean) in
            record { is_open = same.0.is_open; in_transaction = same.0.mode ∙ at.in_transaction; holds = subst (P c) (sym same.0.now_is) at.holds };
      }
  looks selects items old new (Err e) ok err survives =
      let within = reads_within sql params selects items old new (Err e) ok err survives in
      record { stays = record { survives = within.survives; kept = within.kept }; within = tt; turns = tt }

  -- what is read, of the tables as they are
  pub read_held : reads_listing layout sql ≡ false → (c : C) (old new : State) (rows : List Row) → P c old.now → Shown sql params old new rows
      → Reads command old.now params rows
  read_held unlisted c old new rows at h = reads_as sql params old new layout (known c old.now at) command is plain unlisted rows h

  pub read : reads_listing layout sql ≡ false → (c : C) (old new : State) (rows : List Row) → InsideAs (P c) old → Shown sql params old new rows
      → Reads command old.now params rows
  read unlisted c old new rows at h = read_held unlisted c old new rows at.holds h

-- ---- one table

-- each row, in no order
abbrev pub plain_query : ℕ → List Term → List Term → Query
plain_query table where_terms shown = record {
  from = inner table end;
  filter = where_terms;
  group = None;
  project = shown;
  distinct = false;
  collations = [];
  order = [];
  limit = lit (Int (negsuc 0));
  offset = lit (Int (pos 0));
}

module _ {X : Type 0} (row : X → Row) (p : X → Bool) (lost : Value) (db : Trees) (terms : List Term) (params : Row) (tests : (x : X)
    → list_all (holds (params ∷ row x ∷ [])) terms ≡ p x) where
  pub matched : (xs : List X) → flat_map (λ r. matches_as lost db terms end (params ∷ r ∷ [])) (map row xs) ≡ map (λ x. params ∷ row x ∷ []) (filter p xs)
  matched [] = refl
  matched (x ∷ xs) = ap (λ b. cond b ((params ∷ row x ∷ []) ∷ []) [] ++ flat_map (λ r. matches_as lost db terms end (params ∷ r ∷ [])) (map row xs)) (tests x)
      ∙ kept_or_not (p x) (matched xs)
    where
      kept_or_not : (b : Bool) → flat_map (λ r. matches_as lost db terms end (params ∷ r ∷ [])) (map row xs) ≡ map (λ x. params ∷ row x ∷ []) (filter p xs)
          → cond b ((params ∷ row x ∷ []) ∷ []) [] ++ flat_map (λ r. matches_as lost db terms end (params ∷ r ∷ [])) (map row xs) ≡ map (λ x. params ∷ row x
          ∷ []) (cond b (x ∷ filter p xs) (filter p xs))
      kept_or_not true e = ap (λ more. (params ∷ row x ∷ []) ∷ more) e
      kept_or_not false e = e

  pub answered : (t : ℕ) (shown : List Term) (xs : List X) (rows : List Row) → db t ≡ map row xs → IsAnswerAs lost (plain_query t terms shown) db params rows
      → IsPermutation (map (λ x. eval_all shown (params ∷ row x ∷ [])) (filter p xs)) rows
  answered t shown xs rows has a =
      let q = plain_query t terms shown in
      let staged : a.staged ≡ map (λ x. params ∷ row x ∷ []) (filter p xs) = a.grouped ∙ ap (flat_map (λ r. matches_as lost db terms end (params ∷ r ∷ []))) has
      ∙ matched xs in
      let kept : a.kept ≡ map (λ x. output q (params ∷ row x ∷ [])) (filter p xs) = a.distinct ∙ ap (map (output q)) staged ∙ map-map (output q) (λ x. params
      ∷ row x ∷ []) (filter p xs) in
      let same : IsPermutation (map (λ x. output q (params ∷ row x ∷ [])) (filter p xs)) a.ordered = subst (λ k. IsPermutation k a.ordered) kept a.same in
      let both = IsPermutation-map (λ (o : Output). o.1) _ a.ordered same in
      let left : map (λ (o : Output). o.1) (map (λ x. output q (params ∷ row x ∷ [])) (filter p xs)) ≡ map (λ x. eval_all shown (params ∷ row x ∷ []))
      (filter p xs) = map-map _ _ (filter p xs) in
      subst (λ r. IsPermutation (map (λ x. eval_all shown (params ∷ row x ∷ [])) (filter p xs)) r) (sym a.shown)
      (subst (λ l. IsPermutation l (map (λ (o : Output). o.1) a.ordered)) left both)

pub only : {X : Type 0} (o : Option X) (show : X → Row) (rows : List Row) → IsPermutation (map show (option_to_list o)) rows
    → rows ≡ map show (option_to_list o)
only None show [] same = refl
only None show (r ∷ rows) same = absurd (omega (arith, length_permutation [] (r ∷ rows) same))
only (Some x) show rows same = one_permutation (show x) rows same

pub truth_of : (b : Bool) → (is_true (from_truth (Some b)) && true) ≡ b
truth_of true = refl
truth_of false = refl

pub both_true : (a b : Bool) → (is_true (from_truth (Some a)) && (is_true (from_truth (Some b)) && true)) ≡ (a && b)
both_true true true = refl
both_true true false = refl
both_true false b = refl
