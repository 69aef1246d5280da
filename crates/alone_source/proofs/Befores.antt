-- The bytes before the first message that is to be alone, found step by step.
use Rattle.std.proofs.Common.{◌≡◌, ◌≤◌, ◌+◌, ℕ, Bool, true, false, cond, List, [], ◌∷◌, ◌++◌, length, take, drop, Option, Some, None}
use Rattle.std.proofs.Common.{refl, sym, ap, subst, ◌∙◌, append_assoc, arith}
use Rattle.std.proofs.lemmas.List.{length-append, length-take-le, append-nil}
use Rattle.fuse_wire.specs.Bytes.{number_of}
use Rattle.fuse_wire.specs.declared.id.Id.{Id}
use Rattle.fuse_request.specs.Stream.{is_whole, cut, joined, CutSteps}
use Rattle.alone_source.specs.Turns.{is_alone, earlier, later, turn_by, turn_of}
use Rattle.alone_source.specs.inner.Places.{before_by, bytes_before}
use Rattle.alone_source.proofs.Firsts.{first_of}
use Rattle.alone_source.proofs.Turns.{joined-append}

-- where the first message that is to be alone begins, of those that begin here; the end of all bytes, if there is none
abbrev pub place : ℕ → ℕ → Option Id → List (List ℕ) → ℕ
place at all id [] = all
place at all id (m ∷ ms) = cond {A = ℕ} (is_alone id m) at (place (at + length m) all id ms)

place_if : (b : Bool) (id : Option Id) (w m : List ℕ) (passed ms es ls : List (List ℕ)) (other : ℕ)
    → other ≡ length (before_by w ((passed ++ m ∷ []) ++ es) ls)
    → cond {A = ℕ} b (length (joined passed)) other
    ≡ length (before_by w (passed ++ cond {A = List (List ℕ)} b [] (m ∷ es)) (cond {A = List (List ℕ)} b (m ∷ ms) ls))
place_if true id w m passed ms es ls other h = ap (λ (xs : List (List ℕ)). length (joined xs)) (sym (append-nil passed))
place_if false id w m passed ms es ls other h = h ∙ ap (λ (xs : List (List ℕ)). length (before_by w xs ls)) (append_assoc passed (m ∷ []) es)

joined_more : (passed : List (List ℕ)) (m : List ℕ) → length (joined (passed ++ m ∷ [])) ≡ length (joined passed) + length m
joined_more passed m =
    ap length (joined-append passed (m ∷ [])) ∙ length-append (joined passed) (joined (m ∷ []))
    ∙ ap (λ (x : List ℕ). length (joined passed) + length x) (append-nil m)

place_from : (id : Option Id) (w : List ℕ) (passed ms : List (List ℕ))
    → place (length (joined passed)) (length w) id ms ≡ length (before_by w (passed ++ earlier id ms) (later id ms))
place_from id w passed [] = refl
place_from id w passed (m ∷ ms) =
    place_if (is_alone id m) id w m passed ms (earlier id ms) (later id ms) (place (length (joined passed) + length m) (length w) id ms)
    (ap (λ (k : ℕ). place k (length w) id ms) (sym (joined_more passed m)) ∙ place_from id w (passed ++ m ∷ []) ms)

pub place_is : (id : Option Id) (w : List ℕ) → place 0 (length w) id (cut w).0 ≡ length (bytes_before id w)
place_is id w = place_from id w [] (cut w).0

pub place_found : (at all : ℕ) (id : Option Id) (ms more : List (List ℕ)) (m : List ℕ) → ms ≡ m ∷ more → is_alone id m ≡ true
    → place at all id ms ≡ at
place_found at all id ms more m e is =
    ap (place at all id) e ∙ ap (λ (b : Bool). cond {A = ℕ} b at (place (at + length m) all id more)) is

pub place_passed : (at all : ℕ) (id : Option Id) (ms more : List (List ℕ)) (m : List ℕ) → ms ≡ m ∷ more → is_alone id m ≡ false
    → place at all id ms ≡ place (at + length m) all id more
place_passed at all id ms more m e other =
    ap (place at all id) e ∙ ap (λ (b : Bool). cond {A = ℕ} b at (place (at + length m) all id more)) other

pub place_none : (at all : ℕ) (id : Option Id) (ms : List (List ℕ)) → ms ≡ [] → place at all id ms ≡ all
place_none at all id ms e = ap (place at all id) e

-- ---- the first message, by its length

pub record Leads (n : ℕ) (w : List ℕ) : Type 0 where
  pub long : 40 ≤ n
  pub there : n ≤ length w
  pub len : length (take n w) ≡ n
  pub cuts : cut w ≡ (take n w ∷ (cut (drop n w)).0, (cut (drop n w)).1)

leads_by : (b : Bool) (n m : ℕ) → ◌≡◌ {A = Option ℕ} (Some n) (cond b (Some m) None) → (b ≡ true) × (m ≡ n)
leads_by true n m e = (refl, cc)
leads_by false n m e = absurd cc

none_by : (b : Bool) (m : ℕ) → ◌≡◌ {A = Option ℕ} None (cond b (Some m) None) → b ≡ false
none_by true m e = absurd cc
none_by false m e = refl

pub leads : CutSteps → (n : ℕ) (w : List ℕ) → ◌≡◌ {A = Option ℕ} (Some n) (cond (is_whole w) (Some (number_of 4 w)) None) → Leads n w
leads steps n w e =
    let p = leads_by (is_whole w) n (number_of 4 w) e in
    let f = first_of w p.0 in
    let same : number_of 4 w ≡ n = p.1 in
    let low = f.low in
    let there = f.there in
    let within : n ≤ length w = omega arith in
    record {
      long = omega arith;
      there = within;
      len = length-take-le n w within;
      cuts = subst (λ (k : ℕ). cut w ≡ (take k w ∷ (cut (drop k w)).0, (cut (drop k w)).1)) same ((steps w).0 p.0);
    }

pub none_leads : CutSteps → (w : List ℕ) → ◌≡◌ {A = Option ℕ} None (cond (is_whole w) (Some (number_of 4 w)) None) → cut w ≡ ([], w)
none_leads steps w e = (steps w).1 (none_by (is_whole w) (number_of 4 w) e)

pub firsts : (c d : List (List ℕ) × List ℕ) → c ≡ d → c.0 ≡ d.0
firsts c d e = ap (λ (x : List (List ℕ) × List ℕ). x.0) e

pub seconds : (c d : List (List ℕ) × List ℕ) → c ≡ d → c.1 ≡ d.1
seconds c d e = ap (λ (x : List (List ℕ) × List ℕ). x.1) e

-- ---- the turn, by its first message

same_turn : (w : List ℕ) (es ls : List (List ℕ)) → (es ≡ [] → ls ≡ []) → turn_by w es ls ≡ before_by w es ls
same_turn w es [] h = refl
same_turn w [] (m ∷ ms) h = absurd (let e : m ∷ ms ≡ [] = h refl in cc)
same_turn w (x ∷ xs) (m ∷ ms) h = refl

pub turn_none : (id : Option Id) (w : List ℕ) → (cut w).0 ≡ [] → turn_of id w ≡ bytes_before id w
turn_none id w e = same_turn w (earlier id (cut w).0) (later id (cut w).0) (λ _. ap (later id) e)

other_first : (b : Bool) (m : List ℕ) (es ls ms : List (List ℕ)) → b ≡ false → cond {A = List (List ℕ)} b [] (m ∷ es) ≡ []
    → cond {A = List (List ℕ)} b (m ∷ ms) ls ≡ []
other_first true m es ls ms e h = absurd cc
other_first false m es ls ms e h = absurd cc

pub turn_other : (id : Option Id) (w m : List ℕ) (ms : List (List ℕ)) → (cut w).0 ≡ m ∷ ms → is_alone id m ≡ false → turn_of id w ≡ bytes_before id w
turn_other id w m ms e other =
    same_turn w (earlier id (cut w).0) (later id (cut w).0)
    (subst (λ (xs : List (List ℕ)). earlier id xs ≡ [] → later id xs ≡ []) (sym e)
    (other_first (is_alone id m) m (earlier id ms) (later id ms) ms other))

alone_first : (b : Bool) (w m : List ℕ) (es ls ms : List (List ℕ)) → b ≡ true
    → turn_by w (cond {A = List (List ℕ)} b [] (m ∷ es)) (cond {A = List (List ℕ)} b (m ∷ ms) ls) ≡ m
alone_first true w m es ls ms e = refl
alone_first false w m es ls ms e = absurd cc

pub turn_alone : (id : Option Id) (w m : List ℕ) (ms : List (List ℕ)) → (cut w).0 ≡ m ∷ ms → is_alone id m ≡ true → turn_of id w ≡ m
turn_alone id w m ms e is =
    ap (λ (xs : List (List ℕ)). turn_by w (earlier id xs) (later id xs)) e ∙ alone_first (is_alone id m) w m (earlier id ms) (later id ms) ms is
