-- The pairs that rows are, and what steps of the rows make of them.
use Rattle.std.proofs.Common.{◌≡◌, ◌≤◌, ◌<◌, ◌+◌, inl, inr, ℕ, Bool, true, false, not, cond, List, [], ◌∷◌, ◌++◌, map, filter, fold, Option, Some, None, refl, sym, ap, subst, arith, ◌∙◌}
use Rattle.std.proofs.Common.{Less}
use Rattle.std.specs.Prelude.{option_map}
use Rattle.std.specs.List.{AllByRecursion}
use Rattle.std.specs.List.Sorted.{IsPermutation}
use Rattle.std.specs.Option.{option_to_list, is_some}
use Rattle.std.specs.Ordering.{nat_cmp, match_ordering}
use Rattle.std.proofs.lemmas.Bool.{cases_Bool}
use Rattle.std.proofs.lemmas.Bool.Decides.{nat_tests}
use Rattle.std.proofs.lemmas.List.{append-nil}
use Rattle.std.proofs.lemmas.List.Sorted.{IsPermutation-refl, IsPermutation-sym, IsPermutation-trans, IsPermutation-cons, IsPermutation-middle, IsPermutation-append_left}
use Rattle.sqlite_trees.specs.Tree.{IsAscending}
use Rattle.sqlite_trees.proofs.ListLemmas.{all_weaker, all_both, all-permutation, ascending-filter, ascending-map, ascending_weaker, filter_none, filter-map, IsPermutation-filter}
use Rattle.fuse_guest.specs.Pairs.{Pairs, is_same_key, is_in_range, value_for, put_pair, without_key, without_range}
use Rattle.fuse_store_tables.specs.Content.{put_by}
use Rattle.guest_tables.specs.Rows.{PairRow, pair_of, pairs_of, AreApart, has_key, pair_at, has_key_within, new_pair, revalued, set_at}
use Rattle.guest_tables.specs.PairSteps.{pair_with}
use Rattle.guest_tables.proofs.PairKeys.{same_is, other_way}
use Rattle.guest_tables.proofs.PairOrder.{Rises, same_pairs, exchanged, put_moves, put_rises}

abbrev put_row : Pairs → PairRow → Pairs
put_row ps p = put_pair (pair_of p) ps

-- ---- they rise, and are those of the rows

folds_rise : (ps : Pairs) (rows : List PairRow) → Rises ps → Rises (fold put_row ps rows)
folds_rise ps [] up = up
folds_rise ps (r ∷ rows) up = folds_rise (put_row ps r) rows (put_rises (pair_of r) ps up)

pub pairs_rise : (rows : List PairRow) → Rises (pairs_of rows)
pairs_rise rows = folds_rise [] rows tt

-- none of these pairs has the key of the row
abbrev IsOutside : Pairs → PairRow → Type 0
IsOutside ps r = AllByRecursion (λ q. is_same_key q.key r.key ≡ false) ps

kept_outside : (r : PairRow) (ps : Pairs) → IsOutside ps r → without_key r.key ps ≡ ps
kept_outside r [] out = refl
kept_outside r (q ∷ ps) out = ap (λ b. cond (not b) (q ∷ without_key r.key ps) (without_key r.key ps)) out.0 ∙ ap (λ l. q ∷ l) (kept_outside r ps out.1)

put_outside : (r : PairRow) (ps : Pairs) → Rises ps → IsOutside ps r → IsPermutation (pair_of r ∷ ps) (put_row ps r)
put_outside r ps up out = subst (λ l. IsPermutation (pair_of r ∷ l) (put_row ps r)) (kept_outside r ps out) (put_moves (pair_of r) ps up)

still_outside : (r : PairRow) (ps : Pairs) (rows : List PairRow) → Rises ps → IsOutside ps r → AllByRecursion (λ s. is_same_key r.key s.key ≡ false) rows
    → AllByRecursion (IsOutside ps) rows → AllByRecursion (IsOutside (put_row ps r)) rows
still_outside r ps rows up out apart all =
    all_both (λ s. is_same_key r.key s.key ≡ false) (IsOutside ps) (IsOutside (put_row ps r))
    (λ s other others. all-permutation (λ q. is_same_key q.key s.key ≡ false) (pair_of r ∷ ps) (put_row ps r) (put_outside r ps up out) (other, others))
    rows apart all

folds_move : (ps : Pairs) (rows : List PairRow) → Rises ps → AreApart rows → AllByRecursion (IsOutside ps) rows
    → IsPermutation (ps ++ map pair_of rows) (fold put_row ps rows)
folds_move ps [] up apart out = subst (λ l. IsPermutation l ps) (sym (append-nil ps)) (IsPermutation-refl ps)
folds_move ps (r ∷ rows) up apart out =
    let more = folds_move (put_row ps r) rows (put_rises (pair_of r) ps up) apart.1 (still_outside r ps rows up out.0 apart.0 out.1) in
    IsPermutation-trans _ _ _ (IsPermutation-middle ps (pair_of r) (map pair_of rows))
    (IsPermutation-trans _ _ _ (IsPermutation-append_left (map pair_of rows) (pair_of r ∷ ps) (put_row ps r) (put_outside r ps up out.0)) more)

none_outside : (rows : List PairRow) → AllByRecursion (IsOutside []) rows
none_outside [] = tt
none_outside (r ∷ rows) = (tt, none_outside rows)

pub pairs_are : (rows : List PairRow) → AreApart rows → IsPermutation (map pair_of rows) (pairs_of rows)
pairs_are rows apart = folds_move [] rows tt apart (none_outside rows)

-- pairs that rise and are those of rows are the pairs of these rows
pub pairs_known : (rows : List PairRow) (ps : Pairs) → AreApart rows → Rises ps → IsPermutation (map pair_of rows) ps → pairs_of rows ≡ ps
pairs_known rows ps apart up same =
    same_pairs ps (pairs_of rows) up (pairs_rise rows)
    (IsPermutation-trans ps (map pair_of rows) (pairs_of rows) (IsPermutation-sym _ _ same) (pairs_are rows apart))

-- ---- rows whose keys pass a test

pub pairs_passing : (test : List ℕ → Bool) (rows : List PairRow) → AreApart rows
    → pairs_of (filter (λ r. test r.key) rows) ≡ filter (λ p. test p.key) (pairs_of rows)
pairs_passing test rows apart =
    pairs_known (filter (λ r. test r.key) rows) (filter (λ p. test p.key) (pairs_of rows)) (ascending-filter _ (λ r. test r.key) rows apart)
    (ascending-filter _ (λ p. test p.key) (pairs_of rows) (pairs_rise rows))
    (subst (λ l. IsPermutation l (filter (λ p. test p.key) (pairs_of rows))) (filter-map (λ p. test p.key) pair_of rows)
    (IsPermutation-filter (λ p. test p.key) (map pair_of rows) (pairs_of rows) (pairs_are rows apart)))

pub pairs_without : (key : List ℕ) (rows : List PairRow) → AreApart rows → pairs_of (filter (λ p. not (has_key key p)) rows) ≡ without_key key (pairs_of rows)
pairs_without key = pairs_passing (λ k. not (is_same_key k key))

pub pairs_cleared : (from to : List ℕ) (rows : List PairRow) → AreApart rows
    → pairs_of (filter (λ p. not (has_key_within from to p)) rows) ≡ without_range from to (pairs_of rows)
pairs_cleared from to = pairs_passing (λ k. not (is_in_range from to k))

-- ---- the row of a key

pub others_lack : (key : List ℕ) (r : PairRow) (rows : List PairRow) → has_key key r ≡ true → AllByRecursion (λ s. is_same_key r.key s.key ≡ false) rows
    → AllByRecursion (λ s. has_key key s ≡ false) rows
others_lack key r rows here apart =
    all_weaker (λ s. is_same_key r.key s.key ≡ false) (λ s. has_key key s ≡ false)
    (λ s other. other_way key s.key (subst (λ k. is_same_key k s.key ≡ false) (same_is r.key key here) other)) rows apart

pub found_one : (key : List ℕ) (rows : List PairRow) → AreApart rows → filter (has_key key) rows ≡ option_to_list (pair_at key rows)
found_one key [] apart = refl
found_one key (r ∷ rows) apart = elim (cases_Bool (has_key key r)) [
  | inl here ↦ rw here (ap (λ rest. r ∷ rest) (filter_none (has_key key) rows (others_lack key r rows here apart.0)))
  | inr not_here ↦ rw not_here (found_one key rows apart.1)
]

abbrev first_value : Pairs → Option (List ℕ)
first_value [] = None
first_value (p ∷ ps) = Some p.value

value_first : (key : List ℕ) (ps : Pairs) → value_for ps key ≡ first_value (filter (λ p. is_same_key p.key key) ps)
value_first key [] = refl
value_first key (p ∷ ps) = elim (cases_Bool (is_same_key p.key key)) [
  | inl here ↦ rw here refl
  | inr not_here ↦ rw not_here (value_first key ps)
]

value_alone : (found : Option PairRow) → first_value (pairs_of (option_to_list found)) ≡ option_map (λ p. p.value) found
value_alone None = refl
value_alone (Some r) = refl

pub value_is : (key : List ℕ) (rows : List PairRow) → AreApart rows → value_for (pairs_of rows) key ≡ option_map (λ p. p.value) (pair_at key rows)
value_is key rows apart =
    value_first key (pairs_of rows) ∙ ap first_value (sym (pairs_passing (λ k. is_same_key k key) rows apart))
    ∙ ap (λ l. first_value (pairs_of l)) (found_one key rows apart) ∙ value_alone (pair_at key rows)

-- ---- a row with another value

same_key_set : (key value : List ℕ) (b : Bool) (r : PairRow) → (cond b (revalued value r) r).key ≡ r.key
same_key_set key value true r = refl
same_key_set key value false r = refl

pub apart_set : (key value : List ℕ) (rows : List PairRow) → AreApart rows → AreApart (set_at key value rows)
apart_set key value rows apart =
    ascending-map (λ a b. is_same_key a.key b.key ≡ false) (λ r. cond (has_key key r) (revalued value r) r) rows
    (ascending_weaker (λ a b. is_same_key a.key b.key ≡ false)
    (λ a b. is_same_key (cond (has_key key a) (revalued value a) a).key (cond (has_key key b) (revalued value b) b).key ≡ false)
    (λ a b other. subst (λ k. is_same_key k (cond (has_key key b) (revalued value b) b).key ≡ false) (sym (same_key_set key value (has_key key a) a))
    (subst (λ k. is_same_key a.key k ≡ false) (sym (same_key_set key value (has_key key b) b)) other)) rows apart)

pub none_set : (key value : List ℕ) (rows : List PairRow) → AllByRecursion (λ r. has_key key r ≡ false) rows → set_at key value rows ≡ rows
none_set key value [] none = refl
none_set key value (r ∷ rows) none = ap (λ b. cond b (revalued value r) r ∷ set_at key value rows) none.0 ∙ ap (λ l. r ∷ l) (none_set key value rows none.1)

all_lack : (key : List ℕ) (rows : List PairRow) → AllByRecursion (λ r. has_key key r ≡ false) rows → without_key key (map pair_of rows) ≡ map pair_of rows
all_lack key [] none = refl
all_lack key (r ∷ rows) none =
    ap (λ b. cond (not b) (pair_of r ∷ without_key key (map pair_of rows)) (without_key key (map pair_of rows))) none.0
    ∙ ap (λ l. pair_of r ∷ l) (all_lack key rows none.1)

set_moves : (key value : List ℕ) (rows : List PairRow) → AreApart rows → is_some (pair_at key rows) ≡ true
    → IsPermutation (pair_with key value ∷ without_key key (map pair_of rows)) (map pair_of (set_at key value rows))
set_moves key value [] apart some = absurd cc
set_moves key value (r ∷ rows) apart some = elim (cases_Bool (has_key key r)) [
  | inl here ↦
      let none = others_lack key r rows here apart.0 in
      let left : without_key key (map pair_of (r ∷ rows)) ≡ map pair_of rows =
      ap (λ b. cond (not b) (pair_of r ∷ without_key key (map pair_of rows)) (without_key key (map pair_of rows))) here ∙ all_lack key rows none in
      let set : map pair_of (set_at key value (r ∷ rows)) ≡ pair_with key value ∷ map pair_of rows =
      ap (λ b. pair_of (cond b (revalued value r) r) ∷ map pair_of (set_at key value rows)) here
      ∙ ap (λ k. pair_with k value ∷ map pair_of (set_at key value rows)) (same_is r.key key here)
      ∙ ap (λ l. pair_with key value ∷ map pair_of l) (none_set key value rows none) in
      subst (λ l. IsPermutation (pair_with key value ∷ l) (map pair_of (set_at key value (r ∷ rows)))) (sym left)
      (subst (IsPermutation (pair_with key value ∷ map pair_of rows)) (sym set) (IsPermutation-refl (pair_with key value ∷ map pair_of rows)))
  | inr not_here ↦
      let later : is_some (pair_at key rows) ≡ true = rw not_here at some in
      let left : without_key key (map pair_of (r ∷ rows)) ≡ pair_of r ∷ without_key key (map pair_of rows) =
      ap (λ b. cond (not b) (pair_of r ∷ without_key key (map pair_of rows)) (without_key key (map pair_of rows))) not_here in
      let set : map pair_of (set_at key value (r ∷ rows)) ≡ pair_of r ∷ map pair_of (set_at key value rows) =
      ap (λ b. pair_of (cond b (revalued value r) r) ∷ map pair_of (set_at key value rows)) not_here in
      subst (λ l. IsPermutation (pair_with key value ∷ l) (map pair_of (set_at key value (r ∷ rows)))) (sym left)
      (subst (IsPermutation (pair_with key value ∷ pair_of r ∷ without_key key (map pair_of rows))) (sym set)
      (IsPermutation-trans _ _ _ (exchanged (pair_with key value) (pair_of r) (without_key key (map pair_of rows)))
      (IsPermutation-cons (pair_of r) _ _ (set_moves key value rows apart.1 later))))
]

without_moves : (key : List ℕ) (rows : List PairRow) → AreApart rows → IsPermutation (without_key key (map pair_of rows)) (without_key key (pairs_of rows))
without_moves key rows apart = IsPermutation-filter (λ p. not (is_same_key p.key key)) (map pair_of rows) (pairs_of rows) (pairs_are rows apart)

pub pairs_set : (key value : List ℕ) (rows : List PairRow) → AreApart rows → is_some (pair_at key rows) ≡ true
    → pairs_of (set_at key value rows) ≡ put_pair (pair_with key value) (pairs_of rows)
pairs_set key value rows apart some =
    let p = pair_with key value in
    pairs_known (set_at key value rows) (put_pair p (pairs_of rows)) (apart_set key value rows apart) (put_rises p (pairs_of rows) (pairs_rise rows))
    (IsPermutation-trans _ _ _ (IsPermutation-sym _ _ (set_moves key value rows apart some))
    (IsPermutation-trans _ _ _ (IsPermutation-cons p _ _ (without_moves key rows apart)) (put_moves p (pairs_of rows) (pairs_rise rows))))

-- ---- a new row, which stands last

abbrev pub RisesBySlot : List PairRow → Type 0
RisesBySlot = IsAscending (λ (a b : PairRow). a.slot < b.slot)

slots_from : (n : ℕ) (rows : List PairRow) → AllByRecursion (λ r. n ≤ r.slot) rows → RisesBySlot rows → n ≤ fold (λ _ r. r.slot + 1) n rows
slots_from n [] high up = omega arith
slots_from n (r ∷ rows) high up =
    let more = slots_from (r.slot + 1) rows (all_weaker (λ s. r.slot < s.slot) (λ s. r.slot + 1 ≤ s.slot) (λ s low. omega (arith, low)) rows up.0) up.1 in
    omega (arith, more, high.0)

below_next : (n : ℕ) (rows : List PairRow) → RisesBySlot rows → AllByRecursion (λ r. r.slot < fold (λ _ s. s.slot + 1) n rows) rows
below_next n [] up = tt
below_next n (r ∷ rows) up =
    let more = slots_from (r.slot + 1) rows (all_weaker (λ s. r.slot < s.slot) (λ s. r.slot + 1 ≤ s.slot) (λ s low. omega (arith, low)) rows up.0) up.1 in
    (omega (arith, more), below_next (r.slot + 1) rows up.1)

less_is : (a b : ℕ) → a < b → nat_cmp a b ≡ Less
less_is a b low = grind (arith, nat_tests)

put_last : (r : PairRow) (rows : List PairRow) → AllByRecursion (λ s. s.slot < r.slot) rows → put_by (λ s. s.slot) r rows ≡ rows ++ r ∷ []
put_last r [] low = refl
put_last r (s ∷ rows) low =
    ap (λ o. match_ordering o (s ∷ put_by (λ t. t.slot) r rows) (r ∷ rows) (r ∷ s ∷ rows)) (less_is s.slot r.slot low.0)
    ∙ ap (λ l. s ∷ l) (put_last r rows low.1)

fold_last : (ps : Pairs) (rows : List PairRow) (r : PairRow) → fold put_row ps (rows ++ r ∷ []) ≡ put_row (fold put_row ps rows) r
fold_last ps [] r = refl
fold_last ps (s ∷ rows) r = fold_last (put_row ps s) rows r

pub new_last : (key value : List ℕ) (rows : List PairRow) → RisesBySlot rows → put_by (λ r. r.slot) (new_pair key value rows) rows ≡ rows ++ new_pair key value rows ∷ []
new_last key value rows up = put_last (new_pair key value rows) rows (below_next 1 rows up)

pub pairs_added : (key value : List ℕ) (rows : List PairRow) → RisesBySlot rows
    → pairs_of (put_by (λ r. r.slot) (new_pair key value rows) rows) ≡ put_pair (pair_with key value) (pairs_of rows)
pairs_added key value rows up = ap pairs_of (new_last key value rows up) ∙ fold_last [] rows (new_pair key value rows)
