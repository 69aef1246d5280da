-- Pairs that are taken page by page are those that PAIRS lists.
use Rattle.std.proofs.Common.{◌≡◌, ◌≤◌, ◌<◌, ◌+◌, ◌-◌, ◌==◌, ◌&&◌, ◌||◌, ℕ, zero, suc, Bool, true, false, List, [], ◌∷◌, ◌++◌, length, take, refl, sym, ap, subst, arith, ◌∙◌}
use Rattle.std.specs.Prelude.{nat_le, nat_lt, if◌then◌else◌}
use Rattle.std.proofs.lemmas.Bool.Decides.{nat_tests}
use Rattle.guest_frames.specs.Limits.{max_reply_len}
use Rattle.guest_frames.specs.Frames.{PairContent}
use Rattle.fuse_guest.specs.Telling.{told_head, pair_size, filling, told_of, limited}
use Rattle.guest_tables.specs.inner.Slices.{whole_room, is_taken, taken, room_after}

-- ---- after the first pair, those are taken that fit

some_counted : (count : ℕ) → 1 ≤ count → (count == 0) ≡ false
some_counted count some = grind (arith, nat_tests)

-- a pair takes room
small_room : (k v room : ℕ) → (nat_lt 0 room && nat_le (8 + k + v) room) ≡ nat_le (8 + k + v) room
small_room k v room = grind (arith, nat_tests)

fits_only : (count room : ℕ) (p : PairContent) → 1 ≤ count → (nat_lt 0 room && ((count == 0) || nat_le (pair_size p) room)) ≡ nat_le (pair_size p) room
fits_only count room p some =
    ap (λ b. nat_lt 0 room && (b || nat_le (pair_size p) room)) (some_counted count some) ∙ small_room (length p.key) (length p.value) room

free_taken : (limit count room : ℕ) (p : PairContent) → (limit == 0) ≡ true → 1 ≤ count → is_taken limit count room p ≡ nat_le (pair_size p) room
free_taken limit count room p none some =
    ap (λ b. (b || nat_lt count limit) && (nat_lt 0 room && ((count == 0) || nat_le (pair_size p) room))) none ∙ fits_only count room p some

more_taken : (limit count room : ℕ) (p : PairContent) → (limit == 0) ≡ false → nat_lt count limit ≡ true → 1 ≤ count
    → is_taken limit count room p ≡ nat_le (pair_size p) room
more_taken limit count room p bound low some =
    ap (λ b. (b || nat_lt count limit) && (nat_lt 0 room && ((count == 0) || nat_le (pair_size p) room))) bound
    ∙ ap (λ b. b && (nat_lt 0 room && ((count == 0) || nat_le (pair_size p) room))) low ∙ fits_only count room p some

none_taken : (limit count room : ℕ) (p : PairContent) → (limit == 0) ≡ false → nat_lt count limit ≡ false → is_taken limit count room p ≡ false
none_taken limit count room p bound high =
    ap (λ b. (b || nat_lt count limit) && (nat_lt 0 room && ((count == 0) || nat_le (pair_size p) room))) bound
    ∙ ap (λ b. b && (nat_lt 0 room && ((count == 0) || nat_le (pair_size p) room))) high

abbrev step : ℕ → ℕ → ℕ → PairContent → List PairContent → Bool → List PairContent
step limit count room p ps b = if b then p ∷ taken limit (count + 1) (room - pair_size p) ps else []

free : (limit count room : ℕ) (ps : List PairContent) → (limit == 0) ≡ true → 1 ≤ count → taken limit count room ps ≡ filling pair_size ps room
free limit count room [] none some = refl
free limit count room (p ∷ ps) none some =
    ap (step limit count room p ps) (free_taken limit count room p none some)
    ∙ ap (λ l. if nat_le (pair_size p) room then p ∷ l else []) (free limit (count + 1) (room - pair_size p) ps none (omega (arith, some)))

below_sum : (count n : ℕ) → nat_lt count (count + suc n) ≡ true
below_sum count n = grind (arith, nat_tests)

not_below : (count limit : ℕ) → limit ≡ count + 0 → nat_lt count limit ≡ false
not_below count limit is = grind (arith, nat_tests)

bound : (limit count room : ℕ) (ps : List PairContent) (n : ℕ) → (limit == 0) ≡ false → limit ≡ count + n → 1 ≤ count
    → taken limit count room ps ≡ filling pair_size (take n ps) room
bound limit count room [] zero some is more = refl
bound limit count room [] (suc n) some is more = refl
bound limit count room (p ∷ ps) zero some is more =
    ap (step limit count room p ps) (none_taken limit count room p some (not_below count limit is))
bound limit count room (p ∷ ps) (suc n) some is more =
    ap (step limit count room p ps) (more_taken limit count room p some (subst (λ m. nat_lt count m ≡ true) (sym is) (below_sum count n)) more)
    ∙ ap (λ l. if nat_le (pair_size p) room then p ∷ l else [])
    (bound limit (count + 1) (room - pair_size p) ps n some (omega (arith, is)) (omega (arith, more)))

-- ---- from the first pair on

abbrev first_room : PairContent → ℕ
first_room p = max_reply_len - (told_head + pair_size p)

same_room : (p : PairContent) → whole_room - pair_size p ≡ first_room p
same_room p = omega arith

first_taken : (limit : ℕ) (p : PairContent) → ((limit == 0) || nat_lt 0 limit) ≡ true → is_taken limit 0 whole_room p ≡ true
first_taken limit p may = ap (λ b. b && (nat_lt 0 whole_room && ((0 == 0) || nat_le (pair_size p) whole_room))) may

above_zero : (limit : ℕ) → (limit == 0) ≡ false → nat_lt 0 limit ≡ true
above_zero limit some = grind (arith, nat_tests)

may_take : (limit : ℕ) → ((limit == 0) || nat_lt 0 limit) ≡ true
may_take limit = by (limit == 0) refl
  where
    by : (b : Bool) → (limit == 0) ≡ b → (b || nat_lt 0 limit) ≡ true
    by true is = refl
    by false is = above_zero limit is

limit_nil : (n : ℕ) → ◌≡◌ {A = List PairContent} (take n []) []
limit_nil zero = refl
limit_nil (suc n) = refl

no_pairs : (limit : ℕ) (b : Bool) → told_of pair_size (if b then [] else take limit []) ≡ []
no_pairs limit true = refl
no_pairs limit false = ap (told_of pair_size) (limit_nil limit)

some_limit : (n : ℕ) → (suc n == 0) ≡ false
some_limit n = grind (arith, nat_tests)

one_more : (n : ℕ) → suc n ≡ 1 + n
one_more n = omega arith

told_from : (limit : ℕ) (p : PairContent) (ps : List PairContent) → taken limit 1 (first_room p) ps ≡ filling pair_size ps (first_room p)
    → (limit == 0) ≡ true → taken limit 0 whole_room (p ∷ ps) ≡ told_of pair_size (limited limit (p ∷ ps))
told_from limit p ps later none =
    ap (step limit 0 whole_room p ps) (first_taken limit p (may_take limit)) ∙ ap (λ r. p ∷ taken limit 1 r ps) (same_room p) ∙ ap (λ l. p ∷ l) later
    ∙ sym (ap (λ b. told_of pair_size (if b then p ∷ ps else take limit (p ∷ ps))) none)

pub taken_told : (limit : ℕ) (ps : List PairContent) → taken limit 0 whole_room ps ≡ told_of pair_size (limited limit ps)
taken_told limit [] = sym (no_pairs limit (limit == 0))
taken_told zero (p ∷ ps) = told_from zero p ps (free zero 1 (first_room p) ps refl (omega arith)) refl
taken_told (suc n) (p ∷ ps) =
    ap (step (suc n) 0 whole_room p ps) (first_taken (suc n) p (may_take (suc n))) ∙ ap (λ r. p ∷ taken (suc n) 1 r ps) (same_room p)
    ∙ ap (λ l. p ∷ l) (bound (suc n) 1 (first_room p) ps n (some_limit n) (one_more n) (omega arith))
    ∙ sym (ap (λ b. told_of pair_size (if b then p ∷ ps else take (suc n) (p ∷ ps))) (some_limit n))

-- ---- one page after another

nil_or_cons : (p : PairContent) (ps : List PairContent) → [] ≡ p ∷ ps → ⊥
nil_or_cons p ps is = absurd cc

same_tail : (p : PairContent) (ps qs : List PairContent) → p ∷ ps ≡ p ∷ qs → ps ≡ qs
same_tail p ps qs is = cc

pub taken_on : (limit count room : ℕ) (xs ys : List PairContent) → taken limit count room xs ≡ xs
    → taken limit count room (xs ++ ys) ≡ xs ++ taken limit (count + length xs) (room_after room xs) ys
taken_on limit count room [] ys whole = ap (λ n. taken limit n room ys) (let e : count ≡ count + 0 = omega arith in e)
taken_on limit count room (p ∷ xs) ys whole =
    by (is_taken limit count room p) refl whole (taken_on limit (count + 1) (room - pair_size p) xs ys)
  where
    by : (b : Bool) → is_taken limit count room p ≡ b → step limit count room p xs b ≡ p ∷ xs
        → (taken limit (count + 1) (room - pair_size p) xs ≡ xs
        → taken limit (count + 1) (room - pair_size p) (xs ++ ys) ≡ xs ++ taken limit (count + 1 + length xs) (room_after (room - pair_size p) xs) ys)
        → taken limit count room (p ∷ xs ++ ys) ≡ p ∷ xs ++ taken limit (count + length (p ∷ xs)) (room_after room (p ∷ xs)) ys
    by true is whole later =
        let counts : count + 1 + length xs ≡ count + length (p ∷ xs) = omega arith in
        ap (step limit count room p (xs ++ ys)) is ∙ ap (λ l. p ∷ l) (later (same_tail p _ xs whole))
        ∙ ap (λ n. p ∷ xs ++ taken limit n (room_after room (p ∷ xs)) ys) counts
    by false is whole later = absurd (nil_or_cons p xs whole)

pub taken_short : (limit count room : ℕ) (xs ys : List PairContent) → length (taken limit count room xs) < length xs
    → taken limit count room (xs ++ ys) ≡ taken limit count room xs
taken_short limit count room [] ys short = absurd (omega (arith, short))
taken_short limit count room (p ∷ xs) ys short =
    by (is_taken limit count room p) refl short (taken_short limit (count + 1) (room - pair_size p) xs ys)
  where
    by : (b : Bool) → is_taken limit count room p ≡ b → length (step limit count room p xs b) < length (p ∷ xs)
        → (length (taken limit (count + 1) (room - pair_size p) xs) < length xs
        → taken limit (count + 1) (room - pair_size p) (xs ++ ys) ≡ taken limit (count + 1) (room - pair_size p) xs)
        → taken limit count room (p ∷ xs ++ ys) ≡ taken limit count room (p ∷ xs)
    by true is short later =
        ap (step limit count room p (xs ++ ys)) is ∙ ap (λ l. p ∷ l) (later (omega (arith, short))) ∙ sym (ap (step limit count room p xs) is)
    by false is short later = ap (step limit count room p (xs ++ ys)) is ∙ sym (ap (step limit count room p xs) is)
