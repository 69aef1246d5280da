-- What is handed on together begins the bytes that wait, is more than what was begun, and has the request alone.
use Rattle.std.proofs.Common.{◌≡◌, ◌≤◌, ◌<◌, ◌+◌, ℕ, Bool, true, false, cond, List, [], ◌∷◌, ◌++◌, length, take, drop, Option, inl, inr}
use Rattle.std.proofs.Common.{refl, sym, ap, subst, ◌∙◌, append_assoc, arith}
use Rattle.std.specs.Prelude.{◌⊎◌}
use Rattle.std.specs.List.{AllByRecursion}
use Rattle.std.proofs.lemmas.List.{length-append, length-take-le, take_at, append-nil}
use Rattle.fuse_wire.specs.Bytes.{number_of}
use Rattle.fuse_wire.specs.Laws.{NumbersRead}
use Rattle.fuse_wire.specs.declared.id.Id.{Id}
use Rattle.fuse_request.specs.Stream.{is_whole, cut, joined, IsMessage, CutSteps, CutJoins, IsOneCut}
use Rattle.alone_source.specs.Turns.{is_alone, earlier, later, turn_by, turn_of, IsApart}
use Rattle.alone_source.proofs.Firsts.{first_of, begun_short}

abbrev pub NoneAlone : Option Id → List (List ℕ) → Type 0
NoneAlone id ms = AllByRecursion (λ m. is_alone id m ≡ false) ms

-- messages before one that is to be alone, and those from it on
pub record Parts (id : Option Id) (ms es ls : List (List ℕ)) : Type 0 where
  pub whole : ms ≡ es ++ ls
  pub none : NoneAlone id es

abbrev pub StartsAlone : Option Id → List (List ℕ) → Type 0
StartsAlone id [] = Unit {0}
StartsAlone id (m ∷ ms) = is_alone id m ≡ true

parts_by : (id : Option Id) (b : Bool) (m : List ℕ) (ms es ls : List (List ℕ)) → is_alone id m ≡ b → Parts id ms es ls
    → Parts id (m ∷ ms) (cond {A = List (List ℕ)} b [] (m ∷ es)) (cond {A = List (List ℕ)} b (m ∷ ms) ls)
parts_by id true m ms es ls e h = record { whole = refl; none = tt }
parts_by id false m ms es ls e h = record { whole = ap (λ (xs : List (List ℕ)). m ∷ xs) h.whole; none = (e, h.none) }

pub parts : (id : Option Id) (ms : List (List ℕ)) → Parts id ms (earlier id ms) (later id ms)
parts id [] = record { whole = refl; none = tt }
parts id (m ∷ ms) = parts_by id (is_alone id m) m ms (earlier id ms) (later id ms) refl (parts id ms)

starts_by : (id : Option Id) (b : Bool) (m : List ℕ) (ms ls : List (List ℕ)) → is_alone id m ≡ b → StartsAlone id ls
    → StartsAlone id (cond {A = List (List ℕ)} b (m ∷ ms) ls)
starts_by id true m ms ls e h = e
starts_by id false m ms ls e h = h

pub starts : (id : Option Id) (ms : List (List ℕ)) → StartsAlone id (later id ms)
starts id [] = tt
starts id (m ∷ ms) = starts_by id (is_alone id m) m ms (later id ms) refl (starts id ms)

pub joined-cons : (m : List ℕ) (ms : List (List ℕ)) → joined (m ∷ ms) ≡ m ++ joined ms
joined-cons m ms = refl

pub joined-append : (es ls : List (List ℕ)) → joined (es ++ ls) ≡ joined es ++ joined ls
joined-append [] ls = refl
joined-append (e ∷ es) ls = ap (λ (x : List ℕ). e ++ x) (joined-append es ls) ∙ sym (append_assoc e (joined es) (joined ls))

-- bytes that begin others
pub record Begins (p w : List ℕ) : Type 0 where
  pub rest : List ℕ
  pub is : w ≡ p ++ rest

turn_begins : (es ls : List (List ℕ)) (w r : List ℕ) → w ≡ joined (es ++ ls) ++ r → Begins (turn_by w es ls) w
turn_begins es [] w r e = record { rest = []; is = sym (append-nil w) }
turn_begins [] (m ∷ ms) w r e = record { rest = joined ms ++ r; is = e ∙ append_assoc m (joined ms) r }
turn_begins (e ∷ es) (m ∷ ms) w r h = record {
  rest = joined (m ∷ ms) ++ r;
  is = h ∙ ap (λ (x : List ℕ). x ++ r) (joined-append (e ∷ es) (m ∷ ms)) ∙ append_assoc (joined (e ∷ es)) (joined (m ∷ ms)) r;
}

pub turn_first : IsOneCut → (id : Option Id) (w : List ℕ) → Begins (turn_of id w) w
turn_first one id w =
    let p = parts id (cut w).0 in
    turn_begins (earlier id (cut w).0) (later id (cut w).0) w (cut w).1
    ((one w).0.whole ∙ ap (λ (ms : List (List ℕ)). joined ms ++ (cut w).1) p.whole)

pub begins_take : (p w : List ℕ) → Begins p w → take (length p) w ≡ p
begins_take p w b = ap (take (length p)) b.is ∙ take_at p b.rest (length p) refl

pub begins_within : (p w : List ℕ) → Begins p w → length p ≤ length w
begins_within p w b = let e : length w ≡ length p + length b.rest = ap length b.is ∙ length-append p b.rest in omega arith

-- ---- more than what was begun

long_by : (w m : List ℕ) (es ls : List (List ℕ)) → length m ≤ length w → length m ≤ length (turn_by w (m ∷ es) ls)
long_by w m es [] h = h
long_by w m es (l ∷ ls) h = omega (arith, length-append m (joined es))

long_if : (b : Bool) (w m : List ℕ) (ms es ls : List (List ℕ)) → length m ≤ length w
    → length m ≤ length (turn_by w (cond {A = List (List ℕ)} b [] (m ∷ es)) (cond {A = List (List ℕ)} b (m ∷ ms) ls))
long_if true w m ms es ls h = omega arith
long_if false w m ms es ls h = long_by w m es ls h

turn_long : (id : Option Id) (w m : List ℕ) (ms : List (List ℕ)) → (cut w).0 ≡ m ∷ ms → length m ≤ length w → length m ≤ length (turn_of id w)
turn_long id w m ms e h =
    subst (λ (xs : List (List ℕ)). length m ≤ length (turn_by w (earlier id xs) (later id xs))) (sym e)
    (long_if (is_alone id m) w m ms (earlier id ms) (later id ms) h)

turn_all : (id : Option Id) (w : List ℕ) → (cut w).0 ≡ [] → turn_of id w ≡ w
turn_all id w e = ap (λ (xs : List (List ℕ)). turn_by w (earlier id xs) (later id xs)) e

pub record IsPast (b h turn : List ℕ) : Type 0 where
  pub least : length b ≤ length turn
  pub more : 0 < length h → length b < length turn

turn_past_if : NumbersRead → CutSteps → (id : Option Id) (b h : List ℕ) (whole : Bool) → is_whole b ≡ false → is_whole (b ++ h) ≡ whole
    → IsPast b h (turn_of id (b ++ h))
turn_past_if laws steps id b h true stuck e =
    let w : List ℕ = b ++ h in
    let k : ℕ = number_of 4 w in
    let f = first_of w e in
    let there : k ≤ length w = f.there in
    let len : length (take k w) ≡ k = length-take-le k w there in
    let less : length b < k = begun_short laws b h stuck e in
    let first : (cut w).0 ≡ take k w ∷ (cut (drop k w)).0 = ap (λ (c : List (List ℕ) × List ℕ). c.0) ((steps w).0 e) in
    let long : length (take k w) ≤ length (turn_of id w) = turn_long id w (take k w) (cut (drop k w)).0 first (omega arith) in
    record { least = omega arith; more = λ _. omega arith }
turn_past_if laws steps id b h false stuck e =
    let all : turn_of id (b ++ h) ≡ b ++ h = turn_all id (b ++ h) (ap (λ (c : List (List ℕ) × List ℕ). c.0) ((steps (b ++ h)).1 e)) in
    let len : length (turn_of id (b ++ h)) ≡ length b + length h = ap length all ∙ length-append b h in
    record { least = omega arith; more = λ some. omega arith }

pub turn_past : NumbersRead → CutSteps → (id : Option Id) (b h : List ℕ) → is_whole b ≡ false → IsPast b h (turn_of id (b ++ h))
turn_past laws steps id b h stuck = turn_past_if laws steps id b h (is_whole (b ++ h)) stuck refl

-- ---- the request is alone in it

all_left : (P : List ℕ → Type 0) (xs ys : List (List ℕ)) → AllByRecursion P (xs ++ ys) → AllByRecursion P xs
all_left P [] ys h = tt
all_left P (x ∷ xs) ys h = (h.0, all_left P xs ys h.1)

all_right : (P : List ℕ → Type 0) (xs ys : List (List ℕ)) → AllByRecursion P (xs ++ ys) → AllByRecursion P ys
all_right P [] ys h = h
all_right P (x ∷ xs) ys h = all_right P xs ys h.1

cut_joined : IsOneCut → (ms : List (List ℕ)) → AllByRecursion IsMessage ms → (cut (joined ms)).0 ≡ ms
cut_joined one ms each =
    ap (λ (c : List (List ℕ) × List ℕ). c.0) ((one (joined ms)).1 ms [] (record { whole = sym (append-nil (joined ms)); each = each; stuck = refl }))

apart_by : IsOneCut → (id : Option Id) (w : List ℕ) (es ls : List (List ℕ)) → (cut w).0 ≡ es ++ ls → AllByRecursion IsMessage (es ++ ls)
    → NoneAlone id es → StartsAlone id ls → IsApart id (cut (turn_by w es ls)).0
apart_by one id w es [] e each none start = inl (subst (NoneAlone id) (sym (e ∙ append-nil es)) none)
apart_by one id w [] (m ∷ ms) e each none start =
    let is : (cut m).0 ≡ m ∷ [] = ap (λ (x : List ℕ). (cut x).0) (sym (append-nil m)) ∙ cut_joined one (m ∷ []) (each.0, tt) in
    inr (m, is, start)
apart_by one id w (x ∷ xs) (m ∷ ms) e each none start =
    inl (subst (NoneAlone id) (sym (cut_joined one (x ∷ xs) (all_left IsMessage (x ∷ xs) (m ∷ ms) each))) none)

pub turn_apart : IsOneCut → (id : Option Id) (w : List ℕ) → IsApart id (cut (turn_of id w)).0
turn_apart one id w =
    let p = parts id (cut w).0 in
    apart_by one id w (earlier id (cut w).0) (later id (cut w).0) p.whole (subst (AllByRecursion IsMessage) p.whole (one w).0.each) p.none (starts id (cut w).0)

one_left : (m : List ℕ) (xs ys : List (List ℕ)) → xs ++ ys ≡ m ∷ [] → (xs ≡ []) ⊎ (xs ≡ m ∷ [])
one_left m [] ys e = inl refl
one_left m (x ∷ []) ys e = inr (let same : x ≡ m = cc in ap (λ (z : List ℕ). z ∷ []) same)
one_left m (x ∷ y ∷ xs) ys e = absurd cc

pub apart_left : (id : Option Id) (xs ys : List (List ℕ)) → IsApart id (xs ++ ys) → IsApart id xs
apart_left id xs ys (inl none) = inl (all_left (λ m. is_alone id m ≡ false) xs ys none)
apart_left id xs ys (inr (m, e, h)) = elim (one_left m xs ys e) [ inl none ↦ inl (subst (NoneAlone id) (sym none) tt) | inr one ↦ inr (m, one, h) ]

-- so it is in what begins it
pub apart_begins : CutJoins → (id : Option Id) (p q : List ℕ) → IsApart id (cut (p ++ q)).0 → IsApart id (cut p).0
apart_begins joins id p q h =
    apart_left id (cut p).0 (cut ((cut p).1 ++ q)).0 (subst (IsApart id) (ap (λ (c : List (List ℕ) × List ℕ). c.0) (joins p q)) h)
