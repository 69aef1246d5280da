-- The number of a store, asked outside a transaction.
use Rattle.std.proofs.Common.{◌≡◌, ◌≤◌, ◌<◌, ◌+◌, inl, inr, ℕ, zero, suc, pos, List, [], ◌∷◌, map, length, codes, Bool, true, false, ◌&&◌, cond, Some, None, Option, IsSome, unwrap_or, option_map, Ok, Err, Result, IfOk, IfErr}
use Rattle.std.proofs.Common.{refl, sym, ap, subst, arith, ◌∙◌}
use Rattle.std.specs.List.{list_all}
use Rattle.std.specs.List.Sorted.{IsPermutation}
use Rattle.std.specs.Option.{option_to_list}
use Rattle.std.specs.Ordering.{is_eq, nat_cmp}
use Rattle.std.proofs.lemmas.Bool.{cases_Bool, cases_lt}
use Rattle.std.proofs.lemmas.Bool.Decides.{nat_tests}
use Rattle.sqlite.specs.declared.types.Value.TheVariants.{Null, Int}
use Rattle.sqlite.specs.Order.{Row}
use Rattle.sqlite_trees.specs.Tree.{IsTable}
use Rattle.sqlite_sql.specs.Ops.{binary, is_true, from_truth}
use Rattle.sqlite.specs.Term.{Term, col, holds}
use Rattle.sqlite.specs.Program.{overlay}
use Rattle.sqlite.specs.Command.TheVariants.{Select}
use Rattle.sqlite_tied.specs.Compute.{everything}
use Rattle.sqlite.specs.declared.error.Error.{Error}
use Rattle.sqlite.specs.Listing.{understood, reads_listing}
use Rattle.sqlite.specs.State.{State, HasCleanDisk, Survives, Shown, FailsToQuery, CommitsShowing}
use Rattle.sqlite.proofs.Callers.{IsPlain, command_of}
use Rattle.fuse_init.specs.declared.profile.Profile.{Profile}
use Rattle.fuse_keeper.specs.declared.fault.StoreFault.{StoreFault}
use Rattle.fuse_store_tables.specs.declared.version.Layout.{Layout}
use Rattle.fuse_store_tables.specs.declared.version.Layout.TheVariants.{Second, Third}
use Rattle.fuse_store_tables.specs.Layout.{schema_for}
use Rattle.fuse_store_tables.specs.Content.{Content, Counter, Holds, at_by, counter_key, counter_row, has_by, shown_counter, value_at}
use Rattle.fuse_store_tables.specs.Faults.{IsOutside}
use Rattle.fuse_store_tables.specs.Moves.{Rests, Serves}
use Rattle.fuse_store_tables.specs.Opening.{IsMeta, IsMetaFrom, MetaOf, meta_rows, profile_in}
use Rattle.fuse_store_tables.specs.inner.Columns.{shown_number}
use Rattle.fuse_store_tables.proofs.CounterRows.{key_terms, one_text}
use Rattle.fuse_store_tables.proofs.Keyed.{found_rows, row_cmp_nat}
use Rattle.fuse_store_tables.proofs.Laid.{peeks_laid, read_held_laid}
use Rattle.fuse_store_tables.proofs.Reading.{answered, only, plain_query, truth_of}
use Rattle.fuse_store_tables.proofs.Tables.{laid}

-- ---- what the text finds

is : (l : Layout) → command_of (understood (schema_for l) one_text) ≡ Select (record { lets = []; body = plain_query 0 key_terms (col 1 2 ∷ []) }) (codes "v" ∷ [])
unfolding understood everything
is Second = refl
is Third = refl

plain : (l : Layout) → IsPlain (understood (schema_for l) one_text)
unfolding understood everything
plain Second = (refl, refl)
plain Third = (refl, refl)

unlisted : (l : Layout) → reads_listing (schema_for l) one_text ≡ false
unfolding understood everything
unlisted Second = refl
unlisted Third = refl

tests : (k : ℕ) (x : Counter) → list_all (holds ((Int (pos k) ∷ []) ∷ counter_row x ∷ [])) key_terms ≡ has_by counter_key k x
unfolding binary
tests k x = ap (λ o. is_true (from_truth (Some (is_eq o))) && true) (row_cmp_nat (counter_key x) k) ∙ truth_of (has_by counter_key k x)

finds : (k : ℕ) (c : Content) (old new : State) (rows : List Row) → Holds c old.now → Shown one_text (Int (pos k) ∷ []) old new rows
    → rows ≡ map shown_counter (option_to_list (at_by counter_key k c.counters))
finds k c old new rows at h =
    let params = Int (pos k) ∷ [] in
    let was = (laid c old.now at).counters in
    let answer = (read_held_laid one_text params _ is plain unlisted c old new rows at h).answer Null in
    let same = answered counter_row (has_by counter_key k) Null (overlay old.now.trees []) key_terms params (tests k) 0 (col 1 2 ∷ []) c.counters rows
    was.0 answer in
    only (at_by counter_key k c.counters) shown_counter rows (subst (λ xs. IsPermutation (map shown_counter xs) rows) (found_rows counter_key counter_row
    (λ _. refl) k c.counters (subst IsTable was.0 was.1)) same)

pub peek_serves : {X : Type 0} (items : X → List Row) (k : ℕ) (old new : State) (r : Result X Error)
    → (HasCleanDisk new → IfOk r (λ x. Shown one_text (Int (pos k) ∷ []) old new (items x)))
    → (HasCleanDisk new → IfErr r (FailsToQuery one_text (Int (pos k) ∷ []) old new)) → Survives old new (CommitsShowing one_text (Int (pos k) ∷ []) old)
    → Serves (λ c. c) old new r
peek_serves items k = peeks_laid one_text (Int (pos k) ∷ []) plain items

pub peek_finds : {X : Type 0} (items : X → List Row) (k : ℕ) (old new : State) (r : Result X Error)
    → (HasCleanDisk new → IfOk r (λ x. Shown one_text (Int (pos k) ∷ []) old new (items x)))
    → HasCleanDisk new → IfOk r (λ x. (c : Content) → Rests c old → items x ≡ map shown_counter (option_to_list (at_by counter_key k c.counters)))
peek_finds items k old new (Ok x) ok clean = λ c at. finds k c old new (items x) at.holds (ok clean)
peek_finds items k old new (Err e) ok clean = tt

-- ---- the entry is there

same_key : (m n : ℕ) → m ≡ n → is_eq (nat_cmp m n) ≡ true
same_key m n same = grind (arith, nat_tests)

next : (k key : ℕ) (c : Counter) → c.key ≡ k → k ≤ key → has_by counter_key key c ≡ false → k + 1 ≤ key
next k key c first low off = elim (cases_lt k key) [
  | inl above ↦ omega (arith, above)
  | inr below ↦
      let same : c.key ≡ key = omega (arith, first, low, below) in
      absurd (let clash = sym (same_key c.key key same) ∙ off in cc)
]

there : (p : Profile) (k n key : ℕ) (cs : List Counter) → IsMetaFrom p k n cs → k ≤ key → key < k + n → IsSome (at_by counter_key key cs)
there p k zero key [] meta low high = absurd (omega (arith, low, high))
there p k zero key (c ∷ cs) meta low high = absurd meta
there p k (suc n) key [] meta low high = absurd meta
there p k (suc n) key (c ∷ cs) meta low high = elim (cases_Bool (has_by counter_key key c)) [
  | inl here ↦ subst (λ b. IsSome (cond b (Some c) (at_by counter_key key cs))) (sym here) refl
  | inr off ↦
      subst (λ b. IsSome (cond b (Some c) (at_by counter_key key cs))) (sym off)
      (there p (k + 1) n key cs meta.2 (next k key c meta.0 low off) (omega (arith, high)))
]

entry : (c : Content) → c.layout ≡ Third → MetaOf (profile_in c) c → IsSome (at_by counter_key 15 c.counters)
entry c third meta =
    let rows : IsMeta (profile_in c) 15 c = subst (λ l. IsMeta (profile_in c) (meta_rows l (profile_in c)) c) third meta.0 in
    there (profile_in c) 1 15 15 c.counters rows (omega arith) (omega arith)

-- ---- the number in its row

module _ (r : Result ℕ StoreFault) (rows : List Row) (a : State)
    (are : (c : Content) → Rests c a → rows ≡ map shown_counter (option_to_list (at_by counter_key 15 c.counters))) where
  one : (c : Content) (o : Option Counter) → at_by counter_key 15 c.counters ≡ o → rows ≡ map shown_counter (option_to_list o) → 0 < length rows
      → rows ≡ shown_number (value_at 15 c) ∷ []
  one c None empty all some = absurd (omega (arith, some, ap length all))
  one c (Some x) found all some = all ∙ ap (λ (o : Option Counter). shown_number (unwrap_or (option_map (λ (y : Counter). y.value) o) 0) ∷ []) (sym found)

  pub told_number : IfOk r (λ n. (m : ℕ) → rows ≡ shown_number m ∷ [] → n ≡ m) → IfOk r (λ n. 0 < length rows) → IfOk r (λ n. (c : Content) → Rests c a → n ≡ value_at 15 c)
  told_number told some = by_case r told some
    where
      by_case : (r : Result ℕ StoreFault) → IfOk r (λ n. (m : ℕ) → rows ≡ shown_number m ∷ [] → n ≡ m) → IfOk r (λ n. 0 < length rows)
          → IfOk r (λ n. (c : Content) → Rests c a → n ≡ value_at 15 c)
      by_case (Ok n) told some = λ c at. told (value_at 15 c) (one c (at_by counter_key 15 c.counters) refl (are c at) some)
      by_case (Err f) told some = tt

  present : (c : Content) (o : Option Counter) → at_by counter_key 15 c.counters ≡ o → IsSome o → rows ≡ map shown_counter (option_to_list o)
      → (m : ℕ) × (rows ≡ shown_number m ∷ [])
  present c None empty some all = absurd (let none : false ≡ true = some in cc)
  present c (Some x) found some all = (x.value, all)

  pub told_fault : IfErr r (λ f. (m : ℕ) → rows ≡ shown_number m ∷ [] → IsOutside f)
      → IfErr r (λ f. (c : Content) → Rests c a → c.layout ≡ Third → MetaOf (profile_in c) c → IsOutside f)
  told_fault told = by_case r told
    where
      by_case : (r : Result ℕ StoreFault) → IfErr r (λ f. (m : ℕ) → rows ≡ shown_number m ∷ [] → IsOutside f)
          → IfErr r (λ f. (c : Content) → Rests c a → c.layout ≡ Third → MetaOf (profile_in c) c → IsOutside f)
      by_case (Ok n) told = tt
      by_case (Err f) told = λ c at third meta.
          let row = present c (at_by counter_key 15 c.counters) refl (entry c third meta) (are c at) in
          told row.0 row.1
