-- A stream has one cut, and cuts join.
use Rattle.std.proofs.Common.{◌≡◌, ◌≤◌, ◌&&◌, ℕ, zero, suc, Bool, true, false, cond, leb, List, [], ◌∷◌, ◌++◌, length, take, drop, refl, sym, ap, ◌∙◌}
use Rattle.std.proofs.Common.{append_assoc, arith}
use Rattle.std.specs.List.{AllByRecursion}
use Rattle.std.proofs.lemmas.Bool.{le-leb, leb-true}
use Rattle.std.proofs.lemmas.List.{length-append, length-take, length-drop, take-append-drop, take_at, drop_at}
use Rattle.std.proofs.lemmas.List.Concat.{flat_map-cons, flat_map-append}
use Rattle.fuse_wire.specs.Bytes.{number_of}
use Rattle.fuse_wire.specs.Laws.{NumbersRead}
use Rattle.fuse_request.specs.Stream.{is_whole, cut_by, cut, IsMessage, joined, Cuts, IsOneCut, CutJoins, CutSteps}

and_true : (b c : Bool) → (b && c) ≡ true → (b ≡ true) × (c ≡ true)
and_true true c e = (refl, e)
and_true false c e = absurd cc

-- the length of a whole first message
pub record Leading (w : List ℕ) : Type 0 where
  pub some : 4 ≤ length w
  pub low : 40 ≤ number_of 4 w
  pub high : number_of 4 w ≤ 135168
  pub there : number_of 4 w ≤ length w

pub leading_message : (w : List ℕ) → is_whole w ≡ true → Leading w
leading_message w e =
    let a = and_true (leb 4 (length w)) _ e in
    let b = and_true (leb 40 (number_of 4 w)) _ a.1 in
    let c = and_true (leb (number_of 4 w) 135168) _ b.1 in
    record { some = leb-true _ _ a.0; low = leb-true _ _ b.0; high = leb-true _ _ c.0; there = leb-true _ _ c.1 }

-- the first message is the one that is cut off
leading_is : NumbersRead → (m rest : List ℕ) → IsMessage m → (is_whole (m ++ rest) ≡ true) × (number_of 4 (m ++ rest) ≡ length m)
leading_is laws m rest h =
    let low = h.low in
    let high = h.high in
    let size : number_of 4 (m ++ rest) ≡ length m = laws.apart 4 m rest (omega arith) ∙ h.size in
    let long : 4 ≤ length (m ++ rest) = omega (arith, length-append m rest) in
    let there : length m ≤ length (m ++ rest) = omega (arith, length-append m rest) in (
      rw (size, le-leb 4 (length (m ++ rest)) long, le-leb 40 (length m) low, le-leb (length m) 135168 high, le-leb (length m) (length (m ++ rest)) there)
          refl,
      size,
    )

pub first_message : NumbersRead → (w : List ℕ) → is_whole w ≡ true → IsMessage (take (number_of 4 w) w)
first_message laws w e =
    let k : ℕ = number_of 4 w in
    let f = leading_message w e in
    let there : k ≤ length w = f.there in
    let low : 40 ≤ k = f.low in
    let high : k ≤ 135168 = f.high in
    let len : length (take k w) ≡ k = omega (arith, length-take k w) in
    let read : number_of 4 (take k w ++ drop k w) ≡ number_of 4 (take k w) = laws.apart 4 (take k w) (drop k w) (omega arith) in
    let same : number_of 4 (take k w) ≡ k = sym read ∙ ap (number_of 4) (take-append-drop k w) in
    record { size = same ∙ sym len; low = omega arith; high = omega arith }

cons_cuts : NumbersRead → (w : List ℕ) (more : List (List ℕ) × List ℕ) → is_whole w ≡ true → Cuts (drop (number_of 4 w) w) more.0 more.1
    → Cuts w (take (number_of 4 w) w ∷ more.0) more.1
cons_cuts laws w more e h =
    let k : ℕ = number_of 4 w in
    record {
      whole = sym (take-append-drop k w) ∙ ap (λ (x : List ℕ). take k w ++ x) h.whole ∙ rw flat_map-cons (sym (append_assoc (take k w) (joined more.0) more.1));
      each = (first_message laws w e, h.each);
      stuck = h.stuck;
    }

case_cuts : NumbersRead → (w : List ℕ) (b : Bool) (more : List (List ℕ) × List ℕ) → is_whole w ≡ b → (b ≡ true → Cuts (drop (number_of 4 w) w) more.0 more.1)
    → Cuts w (cond {A = List (List ℕ) × List ℕ} b (take (number_of 4 w) w ∷ more.0, more.1) ([], w)).0
    (cond {A = List (List ℕ) × List ℕ} b (take (number_of 4 w) w ∷ more.0, more.1) ([], w)).1
case_cuts laws w true more e h = cons_cuts laws w more e (h refl)
case_cuts laws w false more e h = record { whole = refl; each = tt; stuck = e }

short_stuck : (w : List ℕ) → length w ≤ 0 → is_whole w ≡ false
short_stuck [] h = refl
short_stuck (x ∷ w) h = absurd (omega arith)

cut_by_cuts : NumbersRead → (n : ℕ) (w : List ℕ) → length w ≤ n → Cuts w (cut_by n w).0 (cut_by n w).1
cut_by_cuts laws zero w h = record { whole = refl; each = tt; stuck = short_stuck w h }
cut_by_cuts laws (suc n) w h =
    case_cuts laws w (is_whole w) (cut_by n (drop (number_of 4 w) w)) refl (λ e.
    let f = leading_message w e in
    let less : length (drop (number_of 4 w) w) ≤ n = omega (arith, length-drop (number_of 4 w) w, f.low, f.there) in
    cut_by_cuts laws n (drop (number_of 4 w) w) less)

whole_of : (m : List ℕ) (ms : List (List ℕ)) (r : List ℕ) → joined (m ∷ ms) ++ r ≡ m ++ (joined ms ++ r)
whole_of m ms r = rw flat_map-cons (append_assoc m (joined ms) r)

not_stuck : NumbersRead → (w m : List ℕ) (ms : List (List ℕ)) (r : List ℕ) → Cuts w (m ∷ ms) r → is_whole w ≡ true
not_stuck laws w m ms r c = ap is_whole (c.whole ∙ whole_of m ms r) ∙ (leading_is laws m (joined ms ++ r) c.each.0).0

first_and_rest : NumbersRead → (w m : List ℕ) (ms : List (List ℕ)) (r : List ℕ) → Cuts w (m ∷ ms) r → (take (number_of 4 w) w ≡ m) × Cuts (drop (number_of 4 w) w) ms r
first_and_rest laws w m ms r c =
    let whole : w ≡ m ++ (joined ms ++ r) = c.whole ∙ whole_of m ms r in
    let size : number_of 4 w ≡ length m = ap (number_of 4) whole ∙ (leading_is laws m (joined ms ++ r) c.each.0).1 in
    let first : take (number_of 4 w) w ≡ m = rw size (ap (take (length m)) whole ∙ take_at m (joined ms ++ r) (length m) refl) in
    let rest : drop (number_of 4 w) w ≡ joined ms ++ r = rw size (ap (drop (length m)) whole ∙ drop_at m (joined ms ++ r) (length m) refl) in
    (first, record { whole = rest; each = c.each.1; stuck = c.stuck })

pub one_cut : NumbersRead → (ms ns : List (List ℕ)) (w r q : List ℕ) → Cuts w ms r → Cuts w ns q → (ms ≡ ns) × (r ≡ q)
one_cut laws [] [] w r q c d = (refl, sym c.whole ∙ d.whole)
one_cut laws [] (n ∷ ns) w r q c d =
    let yes_whole : is_whole w ≡ true = not_stuck laws w n ns q d in
    let not_whole : is_whole w ≡ false = ap is_whole c.whole ∙ c.stuck in
    absurd cc
one_cut laws (m ∷ ms) [] w r q c d =
    let yes_whole : is_whole w ≡ true = not_stuck laws w m ms r c in
    let not_whole : is_whole w ≡ false = ap is_whole d.whole ∙ d.stuck in
    absurd cc
one_cut laws (m ∷ ms) (n ∷ ns) w r q c d =
    let a = first_and_rest laws w m ms r c in
    let b = first_and_rest laws w n ns q d in
    let rest = one_cut laws ms ns (drop (number_of 4 w) w) r q a.1 b.1 in
    let first : m ≡ n = sym a.0 ∙ b.0 in
    (ap (λ (x : List ℕ). x ∷ ms) first ∙ ap (λ (xs : List (List ℕ)). n ∷ xs) rest.0, rest.1)

pub cut_cuts : NumbersRead → (w : List ℕ) → Cuts w (cut w).0 (cut w).1
unfolding cut
cut_cuts laws w = cut_by_cuts laws (length w) w (omega arith)

pub cut_is : NumbersRead → (w : List ℕ) (ms : List (List ℕ)) (r : List ℕ) → Cuts w ms r → cut w ≡ (ms, r)
cut_is laws w ms r c =
    let e = one_cut laws (cut w).0 ms w (cut w).1 r (cut_cuts laws w) c in
    ap (λ (xs : List (List ℕ)). (xs, (cut w).1)) e.0 ∙ ap (λ (x : List ℕ). (ms, x)) e.1

pub has_one_cut : NumbersRead → IsOneCut
has_one_cut laws w = (cut_cuts laws w, cut_is laws w)

all_append : {A : Type 0} (P : A → Type 0) (xs ys : List A) → AllByRecursion P xs → AllByRecursion P ys → AllByRecursion P (xs ++ ys)
all_append P [] ys a b = b
all_append P (x ∷ xs) ys a b = (a.0, all_append P xs ys a.1 b)

pub Cuts-join : (a b : List ℕ) (ms ns : List (List ℕ)) (r q : List ℕ) → Cuts a ms r → Cuts (r ++ b) ns q → Cuts (a ++ b) (ms ++ ns) q
Cuts-join a b ms ns r q c d =
    record {
      whole = ap (λ (x : List ℕ). x ++ b) c.whole ∙ append_assoc (joined ms) r b ∙ ap (λ (x : List ℕ). joined ms ++ x) d.whole
          ∙ rw flat_map-append (sym (append_assoc (joined ms) (joined ns) q));
      each = all_append IsMessage ms ns c.each d.each;
      stuck = d.stuck;
    }

pub cut_joins : NumbersRead → CutJoins
cut_joins laws a b = cut_is laws (a ++ b) ((cut a).0 ++ (cut ((cut a).1 ++ b)).0) (cut ((cut a).1 ++ b)).1
    (Cuts-join a b (cut a).0 (cut ((cut a).1 ++ b)).0 (cut a).1 (cut ((cut a).1 ++ b)).1 (cut_cuts laws a) (cut_cuts laws ((cut a).1 ++ b)))

pub cut_steps : NumbersRead → CutSteps
cut_steps laws w = (
  (λ e. cut_is laws w (take (number_of 4 w) w ∷ (cut (drop (number_of 4 w) w)).0) (cut (drop (number_of 4 w) w)).1
      (cons_cuts laws w (cut (drop (number_of 4 w) w)) e (cut_cuts laws (drop (number_of 4 w) w)))),
  (λ e. cut_is laws w [] w (record { whole = refl; each = tt; stuck = e })),
)
