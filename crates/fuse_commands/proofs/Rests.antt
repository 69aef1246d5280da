-- The bytes of an input that a session received, and those after them.
use Rattle.std.proofs.Common.{◌≡◌, ◌⊎◌, inl, inr, ◌≤◌, ◌<◌, ◌&&◌, nat_lt, nat_le, if◌then◌else◌, ℕ, Bool, true, false, List, [], ◌∷◌, ◌++◌, length, Option}
use Rattle.std.proofs.Common.{Some, None, refl, sym, ap, subst, ◌∙◌, append-nil, arith, length-append}
use Rattle.std.specs.Option.{option_or}
use Rattle.std.specs.Io.KnownBytes.{Consumes, IsAtEnd}
use Rattle.std.proofs.lemmas.Bool.{ltb-true, ltb-false, lt-leb, le-ltb}
use Rattle.fuse_wire.specs.Bytes.{number_of}
use Rattle.fuse_request.specs.declared.framer.FrameFault.{FrameFault}
use Rattle.fuse_request.specs.declared.framer.FrameFault.TheVariants as frame
use Rattle.fuse_request.specs.Stream.{cut, is_whole, CutJoins, CutSteps}
use Rattle.fuse_request.specs.Framing.{bad_length, end_fault, needed}

-- ---- a bad length stays one

bad_by : (few low high : Bool) (at n : ℕ) (f : FrameFault)
    → (if few then None else if low then Some (frame.Short at n) else if high then Some (frame.TooLong at n) else None) ≡ Some f
    → (few ≡ false) × ((low ≡ true) ⊎ (high ≡ true))
bad_by true low high at n f e = absurd (cc e)
bad_by false true high at n f e = (refl, inl refl)
bad_by false false true at n f e = (refl, inr refl)
bad_by false false false at n f e = absurd (cc e)

bad : (at : ℕ) (w : List ℕ) (f : FrameFault) → bad_length at w ≡ Some f → (4 ≤ length w) × ((number_of 4 w < 40) ⊎ (135168 < number_of 4 w))
bad at w f e =
    let b = bad_by (nat_lt (length w) 4) (nat_lt (number_of 4 w) 40) (nat_lt 135168 (number_of 4 w)) at (number_of 4 w) f e in
    (ltb-false _ _ b.0, elim b.1 [ inl low ↦ inl (ltb-true _ _ low) | inr high ↦ inr (ltb-true _ _ high) ])

and_right : (a b : Bool) → b ≡ false → (a && b) ≡ false
and_right true b is = is
and_right false b is = refl

and_left : (a b : Bool) → a ≡ false → (a && b) ≡ false
and_left true b is = absurd (cc is)
and_left false b is = refl

-- so there is no whole message
bad_not_whole : (w : List ℕ) → ((number_of 4 w < 40) ⊎ (135168 < number_of 4 w)) → is_whole w ≡ false
bad_not_whole w (inl low) = and_right (nat_le 4 (length w)) _ (and_left (nat_le 40 (number_of 4 w)) _ (lt-leb 40 (number_of 4 w) low))
bad_not_whole w (inr high) =
    and_right (nat_le 4 (length w)) _
    (and_right (nat_le 40 (number_of 4 w)) _ (and_left (nat_le (number_of 4 w) 135168) _ (lt-leb (number_of 4 w) 135168 high)))

pub number_stays : (w later : List ℕ) → 4 ≤ length w → number_of 4 (w ++ later) ≡ number_of 4 w
unfolding number_of
number_stays [] later long = absurd (omega arith)
number_stays (a ∷ []) later long = absurd (omega arith)
number_stays (a ∷ b ∷ []) later long = absurd (omega arith)
number_stays (a ∷ b ∷ c ∷ []) later long = absurd (omega arith)
number_stays (a ∷ b ∷ c ∷ d ∷ w) later long = refl

longer : (w later : List ℕ) → 4 ≤ length w → nat_lt (length (w ++ later)) 4 ≡ nat_lt (length w) 4
longer w later long = le-ltb (length (w ++ later)) 4 (omega (arith, length-append w later)) ∙ sym (le-ltb (length w) 4 long)

bad_stays : (at : ℕ) (w later : List ℕ) (f : FrameFault) → bad_length at w ≡ Some f → bad_length at (w ++ later) ≡ Some f
bad_stays at w later f e = let long = (bad at w f e).0 in rw (longer w later long, number_stays w later long) e

bad_ends : (at : ℕ) (w : List ℕ) (f : FrameFault) → bad_length at w ≡ Some f → end_fault at w ≡ Some f
bad_ends at [] f e = absurd (cc e)
bad_ends at (x ∷ w) f e = ap (λ o. option_or o (Some (frame.Cut at (length (x ∷ w)) (needed (x ∷ w))))) e

-- ---- the input: received bytes and the rest

pub record Came (input received : List ℕ) (ended : Type 0) : Type 0 where
  pub later : List ℕ
  pub parts : input ≡ received ++ later
  pub over : ended → later ≡ []

pub came : (input : List ℕ) (now : Option (List ℕ)) (received : List ℕ) → Consumes (Some input) now received → Came input received (IsAtEnd now)
came input None received c = absurd c
came input (Some ys) received c = record { later = ys; parts = c; over = λ end. end }

pub cut_came : CutJoins → (input received later : List ℕ) → input ≡ received ++ later
    → cut input ≡ ((cut received).0 ++ (cut ((cut received).1 ++ later)).0, (cut ((cut received).1 ++ later)).1)
cut_came joins input received later is = ap cut is ∙ joins received later

-- all of it came
pub all_came : (input received later : List ℕ) → input ≡ received ++ later → later ≡ [] → cut input ≡ cut received
all_came input received later is none = ap cut (is ∙ ap (λ (x : List ℕ). received ++ x) none ∙ append-nil received)

-- the received bytes end in a bad length
pub bad_came : CutJoins → CutSteps → (input received later rest : List ℕ) (at : ℕ) (f : FrameFault) → input ≡ received ++ later → rest ≡ (cut received).1
    → bad_length at rest ≡ Some f
    → ((cut input).0 ≡ (cut received).0) × (end_fault at (cut input).1 ≡ Some f)
bad_came joins steps input received later rest at f is rest_is e =
    let w : List ℕ = (cut received).1 ++ later in
    let here : bad_length at w ≡ Some f = bad_stays at (cut received).1 later f (subst (λ r. bad_length at r ≡ Some f) rest_is e) in
    let none : cut w ≡ ([], w) = (steps w).1 (bad_not_whole w (bad at w f here).1) in
    let all = cut_came joins input received later is in (
      ap (λ (c : List (List ℕ) × List ℕ). c.0) all ∙ ap (λ (c : List (List ℕ) × List ℕ). (cut received).0 ++ c.0) none ∙ append-nil (cut received).0,
      subst (λ r. end_fault at r ≡ Some f) (sym (ap (λ (c : List (List ℕ) × List ℕ). c.1) all ∙ ap (λ (c : List (List ℕ) × List ℕ). c.1) none))
          (bad_ends at w f here),
    )
