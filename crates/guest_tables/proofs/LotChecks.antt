-- The statement that looks for a lot at or above the next one, and the test that is made of it.
use Rattle.std.proofs.Common.{◌≡◌, ◌≢◌, ◌<◌, ℕ, pos, List, [], ◌∷◌, map, filter, take, codes, Bool, true, false, ◌&&◌, cond, Some, Ok, Err, Result, IfOk, IfErr, IsErrAnd, OnOk}
use Rattle.std.proofs.Common.{refl, sym, ap, subst, arith, ◌∙◌}
use Rattle.std.specs.List.{list_all}
use Rattle.std.specs.Ordering.{is_eq, is_ge, nat_cmp}
use Rattle.std.proofs.lemmas.Bool.Decides.{nat_tests}
use Rattle.sqlite.specs.declared.types.Value.TheVariants.{Null, Int}
use Rattle.sqlite.specs.Order.{Row}
use Rattle.sqlite_trees.specs.Tree.{IsTable}
use Rattle.sqlite.specs.Term.{Term, lit, col, op2, holds}
use Rattle.sqlite.specs.Program.{overlay}
use Rattle.sqlite.specs.Command.TheVariants.{Select}
use Rattle.sqlite_value.specs.declared.keys.Collation.TheVariants.{Binary}
use Rattle.sqlite_sql.specs.declared.ops.BinaryOp.TheVariants.{Compare}
use Rattle.sqlite_sql.specs.declared.ops.CompareOp.TheVariants.{Ge}
use Rattle.sqlite_sql.specs.Ops.{binary, is_true, from_truth}
use Rattle.sqlite_resolve.specs.Compile.{first}
use Rattle.sqlite_tied.specs.Compute.{everything}
use Rattle.sqlite.specs.declared.error.Error.{Error}
use Rattle.sqlite.specs.Listing.{understood, reads_listing}
use Rattle.sqlite.specs.State.{State, HasCleanDisk, Survives, Shown, FailsToQuery, CommitsShowing}
use Rattle.sqlite.proofs.Callers.{IsPlain as IsBareText, command_of}
use Rattle.fuse_keeper.specs.declared.fault.StoreFault.{StoreFault}
use Rattle.fuse_keeper.specs.Faults.{fault_of}
use Rattle.fuse_store_tables.specs.Content.{lot_row}
use Rattle.fuse_store_tables.specs.Faults.{IsPlain, IsOutside}
use Rattle.fuse_store_tables.specs.Moves.{InsideAs, Takes}
use Rattle.fuse_store_tables.specs.Opening.{AllBelow}
use Rattle.fuse_store_tables.specs.inner.Columns.{shown_number}
use Rattle.guest_tables.proofs.any_schema.Keyed.{row_cmp_nat}
use Rattle.guest_tables.proofs.any_schema.Ordered.{ordered_query, answered_in_order, rises_from}
use Rattle.guest_tables.proofs.any_schema.Queries.{IsSelectText, only_reads, reads_within}
use Rattle.guest_tables.proofs.any_schema.Reading.{looks, read, truth_of}
use Rattle.guest_tables.specs.Layout.{guest_schema}
use Rattle.guest_tables.specs.Content.{GuestContent, value_at}
use Rattle.guest_tables.specs.Opening.{IsLaid, LotsAreBelow}
use Rattle.guest_tables.specs.inner.Checking.{ChecksIf, IsMetaIn}
use Rattle.guest_tables.proofs.Checks.{query_failed, query_told}
use Rattle.guest_tables.proofs.Tables.{laid}

abbrev pub lots_text : List ℕ
lots_text = codes "SELECT lot FROM lots WHERE lot >= ?1 ORDER BY lot LIMIT 1"

abbrev from_terms : List Term
from_terms = op2 (Compare Ge Binary) (col 1 0) (col 0 0) ∷ []

abbrev one : Term
one = lit (Int (pos 1))

lots_is : command_of (understood guest_schema lots_text) ≡ Select (record { lets = []; body = ordered_query 3 from_terms (col 1 0 ∷ []) one }) (codes "lot" ∷ [])
unfolding understood everything
lots_is = refl

lots_plain : IsBareText (understood guest_schema lots_text)
unfolding understood everything
lots_plain = (refl, refl)

lots_unlisted : reads_listing guest_schema lots_text ≡ false
unfolding understood everything
lots_unlisted = refl

lots_select : IsSelectText (first lots_text)
unfolding first everything
lots_select = (_, refl)

-- ---- what it shows

low_is : (a b : ℕ) → is_ge (nat_cmp a b) ≡ false → a < b
low_is a b is = grind (arith, nat_tests)

high_is : (a b : ℕ) → is_ge (nat_cmp a b) ≡ true → ¬ (a < b)
high_is a b is low = let clash : is_ge (nat_cmp a b) ≡ false = grind (arith, nat_tests) in absurd (let e = sym is ∙ clash in cc)

module _ (next : ℕ) where
  abbrev is_from_next : ℕ → Bool
  is_from_next lot = is_ge (nat_cmp lot next)

  abbrev shown_from : List ℕ → List Row
  shown_from lots = take 1 (map shown_number (filter is_from_next lots))

  none_shown : (b : Bool) (x : ℕ) (ys : List ℕ) → take 1 (map shown_number (cond b (x ∷ ys) ys)) ≡ [] → b ≡ false
  none_shown true x ys none = absurd cc
  none_shown false x ys none = refl

  all_below : (lots : List ℕ) → shown_from lots ≡ [] → AllBelow (λ lot. lot) next lots
  all_below [] none = tt
  all_below (x ∷ xs) none =
      let skips = none_shown (is_from_next x) x (filter is_from_next xs) none in (
        low_is x next skips,
        all_below xs (ap (λ b. take 1 (map shown_number (cond b (x ∷ filter is_from_next xs) (filter is_from_next xs)))) (sym skips) ∙ none),
      )

  below_skips : (b : Bool) (x : ℕ) → is_from_next x ≡ b → x < next → b ≡ false
  below_skips true x is low = absurd (high_is x next is low)
  below_skips false x is low = refl

  none_from : (lots : List ℕ) → AllBelow (λ lot. lot) next lots → shown_from lots ≡ []
  none_from [] all = refl
  none_from (x ∷ xs) all =
      ap (λ b. take 1 (map shown_number (cond b (x ∷ filter is_from_next xs) (filter is_from_next xs)))) (below_skips (is_from_next x) x refl all.0)
      ∙ none_from xs all.1

  tests_from : (x : ℕ) → list_all (holds ((Int (pos next) ∷ []) ∷ lot_row x ∷ [])) from_terms ≡ is_from_next x
  unfolding binary
  tests_from x = ap (λ o. is_true (from_truth (Some (is_ge o))) && true) (row_cmp_nat x next) ∙ truth_of (is_from_next x)

  abbrev params : Row
  params = Int (pos next) ∷ []

  found : (c : GuestContent) (old new : State) (rows : List Row) → InsideAs (IsLaid c) old → Shown lots_text params old new rows → rows ≡ shown_from c.lots
  found c old new rows at h =
      let was = (laid c old.now at.holds.holds).lots in
      let answer = (read IsLaid guest_schema (λ k d g. g.holds.schema) lots_text params _ lots_is lots_plain lots_unlisted c old new rows at h).answer Null in
      answered_in_order (λ (x : ℕ). x) (λ _. Null ∷ []) is_from_next Null (overlay old.now.trees []) from_terms params tests_from (col 1 0 ∷ []) one 3 c.lots rows was.0
      (rises_from (λ (x : ℕ). x) lot_row (λ _. refl) c.lots (subst IsTable was.0 was.1)) answer

  -- ---- the test

  module _ (meta : List Row) (is : (c : GuestContent) → IsMetaIn meta c → next ≡ value_at 11 c) {Z : Type 0} (items : Z → List Row) where
    looks_lots : (a b : State) (r : Result Z Error) → (HasCleanDisk b → IfOk r (λ x. Shown lots_text params a b (items x)))
        → (HasCleanDisk b → IfErr r (FailsToQuery lots_text params a b)) → Survives a b (CommitsShowing lots_text params a) → Takes IsLaid IsLaid a b r
    looks_lots a b r = looks IsLaid guest_schema (λ c d h. h.holds.schema) lots_text params _ lots_is lots_plain lots_select items a b r

    whole : {Y : Type 0} (a b : State) (rows : List Row) (r : Result Y StoreFault) → (HasCleanDisk b → Shown lots_text params a b rows) → OnOk r (rows ≡ [])
        → HasCleanDisk b → OnOk r ((c : GuestContent) → InsideAs (IsLaid c) a → IsMetaIn meta c → LotsAreBelow c)
    whole a b rows (Err f) shown none clean = tt
    whole a b rows (Ok y) shown none clean = λ c at known.
        subst (λ n. AllBelow (λ lot. lot) n c.lots) (is c known) (all_below c.lots (sym (found c a b rows at (shown clean)) ∙ none))

    fault : {Y : Type 0} (a b : State) (rows : List Row) (r : Result Y StoreFault) → (HasCleanDisk b → Shown lots_text params a b rows)
        → IfErr r (λ _. rows ≢ []) → HasCleanDisk b → IfErr r (λ f. (c : GuestContent) → InsideAs (IsLaid c) a → IsMetaIn meta c → LotsAreBelow c → IsOutside f)
    fault a b rows (Ok y) shown some clean = tt
    fault a b rows (Err f) shown some clean = λ c at known all.
        absurd (some (found c a b rows at (shown clean) ∙ none_from c.lots (subst (λ n. AllBelow (λ lot. lot) n c.lots) (sym (is c known)) all)))

    pub checks_lots : {Y : Type 0} (a b : State) (x : Z) (r : Result Y StoreFault) → (HasCleanDisk b → Shown lots_text params a b (items x))
        → Survives a b (CommitsShowing lots_text params a) → OnOk r (items x ≡ []) → IfErr r (λ _. items x ≢ []) → IfErr r IsPlain
        → ChecksIf (IsMetaIn meta) LotsAreBelow a b r
    checks_lots a b x r shown survives none some plain =
        let fails : HasCleanDisk b → IfErr {T = Z} {E = Error} (Ok x) (FailsToQuery lots_text params a b) = λ clean. tt in
        query_told (IsMetaIn meta) LotsAreBelow a b x r (looks_lots a b (Ok x) shown fails survives)
        (only_reads lots_text params lots_select items a b (Ok x) shown fails survives)
        (reads_within lots_text params lots_select items a b (Ok x) shown fails survives)
        (whole a b (items x) r shown none) (fault a b (items x) r shown some) plain

    pub fails_lots : {Y : Type 0} (a b : State) (e : Error) (r : Result Y StoreFault) → (HasCleanDisk b → FailsToQuery lots_text params a b e)
        → Survives a b (CommitsShowing lots_text params a) → IsErrAnd r (λ f. f ≡ fault_of e) → ChecksIf (IsMetaIn meta) LotsAreBelow a b r
    fails_lots a b e r fails survives same =
        let shown : HasCleanDisk b → IfOk {T = Z} {E = Error} (Err e) (λ x. Shown lots_text params a b (items x)) = λ clean. tt in
        query_failed {X = Z} (IsMetaIn meta) LotsAreBelow a b e r same (looks_lots a b (Err e) shown fails survives)
        (only_reads lots_text params lots_select items a b (Err e) shown fails survives)
        (reads_within lots_text params lots_select items a b (Err e) shown fails survives)
