-- What is shown of pairs is a frame, and not too long.
use Rattle.std.proofs.Common.{◌≡◌, ℕ, ◌+◌, ◌<◌, ◌≤◌, ◌^◌, lit≤, Bool, true, false, List, [], ◌∷◌, ◌++◌, length, map, reverse, take, Option, Some, None, refl, sym, subst, arith}
use Rattle.std.specs.Prelude.{◌==◌, cond, filter, IfSome, nat_lt, if◌then◌else◌, zero, suc}
use Rattle.std.specs.List.{AllByRecursion}
use Rattle.std.proofs.lemmas.Bool.{eqb-false, ltb-true}
use Rattle.std.proofs.lemmas.Grind.{reverse_onto}
use Rattle.std.proofs.lemmas.List.{length-append, length-map}
use Rattle.fuse_wire.specs.Laws.{LayoutsStand}
use Rattle.fuse_wire.specs.Layout.{Part, form}
use Rattle.guest_frames.specs.Limits.{max_keys, max_reply_len}
use Rattle.guest_frames.specs.Frames.{PairContent, ScanContent, Frame, of_get, of_values, of_scan, of_pairs, value_parts, pair_parts, items_bytes, payload_parts, frame_len}
use Rattle.guest_frames.specs.Frames.{IsValue, IsPair, IsFrame, HasRightParts}
use Rattle.fuse_guest.specs.Laws.{RepliesFit}
use Rattle.fuse_guest.specs.Pairs.{Pairs, ArePairs, is_in_range, is_same_key, value_for, pairs_within}
use Rattle.fuse_guest.specs.Telling.{told_head, value_size, pair_size, told_of, values_told, bare_if, turned_if, scanned, limited, pairs_told, scan_told}
use Rattle.fuse_guest.proofs.Filling.{total, told_within, each_told, few_told}
use Rattle.fuse_guest.proofs.Ordered.{each_pair}

-- ---- how long they are

items_len : {A : Type 0} (parts : A → List Part) (size : A → ℕ) → ((x : A) → length (form (parts x)) ≡ size x) → (xs : List A)
    → length (items_bytes parts xs) ≡ total size xs
items_len parts size each [] = refl
items_len parts size each (x ∷ xs) = omega (arith, each x, items_len parts size each xs, length-append (form (parts x)) (items_bytes parts xs))

value_len : LayoutsStand → (v : Option (List ℕ)) → length (form (value_parts v)) ≡ value_size v
value_len laws None = laws.form_len (value_parts None)
value_len laws (Some v) = omega (arith, laws.form_len (value_parts (Some v)))

pair_len : LayoutsStand → (p : PairContent) → length (form (pair_parts p)) ≡ pair_size p
pair_len laws p = omega (arith, laws.form_len (pair_parts p))

-- ---- frames of values and of pairs

values_fit : LayoutsStand → (vs : List (Option (List ℕ))) → 1 ≤ length vs → length vs ≤ max_keys → AllByRecursion (λ v. IfSome v IsValue) vs
    → told_head + total value_size vs ≤ max_reply_len → IsFrame (of_values vs)
values_fit laws vs one few each short =
    let len = items_len value_parts value_size (value_len laws) vs in
    let whole : frame_len (of_values vs) ≤ max_reply_len = omega (arith, laws.form_len (payload_parts (of_values vs)), len, short) in
    record {
      limited = (record { some = one; few = few; each = each; short = whole }, omega (arith, whole));
      fits = (omega (arith, few), (lit≤ tt, tt));
    }

few_pairs : (ps : List PairContent) → length ps ≤ total pair_size ps
few_pairs [] = omega arith
few_pairs (p ∷ ps) = omega (arith, few_pairs ps)

pairs_fit : LayoutsStand → (ps : List PairContent) (more : Bool) → AllByRecursion IsPair ps → (more ≡ true → 1 ≤ length ps)
    → told_head + total pair_size ps ≤ max_reply_len → IsFrame (of_pairs ps more)
pairs_fit laws ps more each some short =
    let len = items_len pair_parts pair_size (pair_len laws) ps in
    let whole : frame_len (of_pairs ps more) ≤ max_reply_len = omega (arith, laws.form_len (payload_parts (of_pairs ps more)), len, short) in
    let flag_fits : (b : Bool) → (if b then 1 else 0) < 256 ^ 4 = λ b. elim b as (λ b. (if b then 1 else 0) < 256 ^ 4) [ true ↦ lit≤ tt | false ↦ lit≤ tt ] in
    record {
      limited = (record { each = each; some = some; short = whole }, omega (arith, whole));
      fits = (omega (arith, few_pairs ps, short), (flag_fits more, tt));
    }

-- ---- values

right_if : (b : Bool) (v : List ℕ) (o : Option (List ℕ)) → IsValue v → IfSome o IsValue → IfSome (if b then Some v else o) IsValue
right_if true v o one other = one
right_if false v o one other = other

right_value : (ps : Pairs) (key : List ℕ) → AllByRecursion IsPair ps → IfSome (value_for ps key) IsValue
right_value [] key each = tt
right_value (p ∷ ps) key each = right_if (is_same_key p.key key) p.value (value_for ps key) each.0.1 (right_value ps key each.1)

right_values : (ps : Pairs) (keys : List (List ℕ)) → AllByRecursion IsPair ps → AllByRecursion (λ v. IfSome v IsValue) (map (value_for ps) keys)
right_values ps [] each = tt
right_values ps (k ∷ ks) each = (right_value ps k each, right_values ps ks each)

small_value : (v : Option (List ℕ)) → IfSome v IsValue → told_head + value_size v ≤ max_reply_len
small_value None right = lit≤ tt
small_value (Some v) right = omega (arith, right)

small_values : (vs : List (Option (List ℕ))) → AllByRecursion (λ v. IfSome v IsValue) vs → AllByRecursion (λ v. told_head + value_size v ≤ max_reply_len) vs
small_values [] each = tt
small_values (v ∷ vs) each = (small_value v each.0, small_values vs each.1)

one_told : {A : Type 0} (size : A → ℕ) (xs : List A) → 1 ≤ length xs → 1 ≤ length (told_of size xs)
one_told size [] one = one
one_told size (x ∷ xs) one = omega arith

get_fits : LayoutsStand → (ps : Pairs) (keys : List (List ℕ)) → ArePairs ps → HasRightParts (of_get keys) → IsFrame (values_told ps keys)
get_fits laws ps keys are right =
    let values = map (value_for ps) keys in
    let each = right_values ps keys (each_pair ps are) in
    let len = length-map keys (value_for ps) in
    values_fit laws (told_of value_size values) (one_told value_size values (omega (arith, len, right.0)))
    (omega (arith, few_told value_size values, len, right.1)) (each_told (λ v. IfSome v IsValue) value_size values each)
    (told_within value_size values (small_values values each))

-- ---- pairs

each_cond : (b : Bool) (p : PairContent) (ps : Pairs) → IsPair p → AllByRecursion IsPair ps → AllByRecursion IsPair (cond b (p ∷ ps) ps)
each_cond true p ps one each = (one, each)
each_cond false p ps one each = each

each_filter : (test : PairContent → Bool) (ps : Pairs) → AllByRecursion IsPair ps → AllByRecursion IsPair (filter test ps)
each_filter test [] each = tt
each_filter test (p ∷ ps) each = each_cond (test p) p (filter test ps) each.0 (each_filter test ps each.1)

each_append : (ps qs : Pairs) → AllByRecursion IsPair ps → AllByRecursion IsPair qs → AllByRecursion IsPair (ps ++ qs)
each_append [] qs first second = second
each_append (p ∷ ps) qs first second = (first.0, each_append ps qs first.1 second)

each_turned : (b : Bool) (ps : Pairs) → AllByRecursion IsPair ps → AllByRecursion IsPair (reverse ps) → AllByRecursion IsPair (turned_if b ps)
each_turned true ps each back = back
each_turned false ps each back = each

bare_pair : (b : Bool) (p : PairContent) → IsPair p → IsPair (bare_if b p)
bare_pair true p right = (right.0, lit≤ tt)
bare_pair false p right = right

each_bare : (b : Bool) (ps : Pairs) → AllByRecursion IsPair ps → AllByRecursion IsPair (map (bare_if b) ps)
each_bare b [] each = tt
each_bare b (p ∷ ps) each = (bare_pair b p each.0, each_bare b ps each.1)

each_take : (n : ℕ) (ps : Pairs) → AllByRecursion IsPair ps → AllByRecursion IsPair (take n ps)
each_take zero ps each = tt
each_take (suc n) [] each = tt
each_take (suc n) (p ∷ ps) each = (each.0, each_take n ps each.1)

each_limited : (b : Bool) (n : ℕ) (ps : Pairs) → AllByRecursion IsPair ps → AllByRecursion IsPair (if b then ps else take n ps)
each_limited true n ps each = each
each_limited false n ps each = each_take n ps each

small_pairs : (ps : Pairs) → AllByRecursion IsPair ps → AllByRecursion (λ p. told_head + pair_size p ≤ max_reply_len) ps
small_pairs [] each = tt
small_pairs (p ∷ ps) each = (omega (arith, each.0.0.1, each.0.1), small_pairs ps each.1)

reversed_each : (ps : Pairs) → AllByRecursion IsPair ps → AllByRecursion IsPair (reverse ps)
reversed_each [] each = tt
reversed_each (p ∷ ps) each =
    subst (AllByRecursion IsPair) (sym (reverse_onto ps p [])) (each_append (reverse ps) (p ∷ []) (reversed_each ps each.1) (each.0, tt))

some_by : (b : Bool) (n : ℕ) (ps : Pairs) → (n == 0) ≡ b → 1 ≤ length ps → 1 ≤ length (if b then ps else take n ps)
some_by true n ps none one = one
some_by false zero ps some one = absurd (omega (arith, eqb-false 0 0 some))
some_by false (suc n) [] some one = one
some_by false (suc n) (p ∷ ps) some one = omega arith

some_limited : (n : ℕ) (ps : Pairs) → 1 ≤ length ps → 1 ≤ length (limited n ps)
some_limited n ps one = some_by (n == 0) n ps refl one

-- where there are more, some come
some_come : (ps : Pairs) (s : ScanContent) → nat_lt (length (pairs_told ps s)) (length (scanned s ps)) ≡ true → 1 ≤ length (pairs_told ps s)
some_come ps s more =
    let less = ltb-true (length (pairs_told ps s)) (length (scanned s ps)) more in
    one_told pair_size (limited s.limit (scanned s ps)) (some_limited s.limit (scanned s ps) (omega (arith, less)))

scan_fits : LayoutsStand → (ps : Pairs) (s : ScanContent) → ArePairs ps → HasRightParts (of_scan s) → IsFrame (scan_told ps s)
scan_fits laws ps s are right =
    let within = each_filter (λ p. is_in_range s.from s.to p.key) ps (each_pair ps are) in
    let turned = each_turned s.downwards (pairs_within s.from s.to ps) within (reversed_each (pairs_within s.from s.to ps) within) in
    let all = each_bare s.keys_alone (turned_if s.downwards (pairs_within s.from s.to ps)) turned in
    let each = each_limited (s.limit == 0) s.limit (scanned s ps) all in
    pairs_fit laws (pairs_told ps s) _ (each_told IsPair pair_size (limited s.limit (scanned s ps)) each) (some_come ps s)
    (told_within pair_size (limited s.limit (scanned s ps)) (small_pairs (limited s.limit (scanned s ps)) each))

same_frame : (f g : Frame) → Some f ≡ Some g → f ≡ g
same_frame f g same = cc

pub fit : LayoutsStand → RepliesFit
fit laws ps (of_get keys) told are right is = subst IsFrame (same_frame _ told is) (get_fits laws ps keys are right)
fit laws ps (of_scan s) told are right is = subst IsFrame (same_frame _ told is) (scan_fits laws ps s are right)
fit laws ps _ told are right is = absurd cc
