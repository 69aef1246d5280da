-- The messages that a framer gives out, and the bytes after the last whole one.
use Rattle.std.proofs.Common.{◌≡◌, ◌<◌, ◌≤◌, ◌+◌, ◌-◌, ℕ, Bool, true, false, cond, ltb, List, [], length, take, drop, Option, Some, None, Ok, Err, inl, inr}
use Rattle.std.proofs.Common.{refl, sym, ap, subst, ◌∙◌, arith}
use Rattle.std.specs.Prelude.{◌⊎◌}
use Rattle.std.proofs.lemmas.List.{length-take, take-append-drop}
use Rattle.std.proofs.lemmas.Bool.{ltb-true}
use Rattle.fuse_wire.specs.Bytes.{number_of}
use Rattle.fuse_wire.specs.Laws.{NumbersRead}
use Rattle.fuse_request.specs.declared.framer.FrameFault.{FrameFault}
use Rattle.fuse_request.specs.declared.framer.FrameFault.TheVariants.{Short, TooLong, Cut, Memory}
use Rattle.fuse_request.specs.Stream.{is_whole, cut, IsMessage}
use Rattle.fuse_request.specs.Framing.{HeldBytes, bad_length, Gives, HasNone, GivesNext, end_fault, ends}
use Rattle.fuse_request.proofs.Streams.{leading_message, first_message, cut_steps}

-- n is the length of the first message, where that is whole
abbrev pub IsLeading : Option ℕ → List ℕ → Type 0
IsLeading n w = n ≡ cond {A = Option ℕ} (is_whole w) (Some (number_of 4 w)) None

leading_by : (b : Bool) (n m : ℕ) → ◌≡◌ {A = Option ℕ} (Some n) (cond b (Some m) None) → (b ≡ true) × (n ≡ m)
leading_by true n m e = (refl, cc)
leading_by false n m e = absurd cc

none_by : (b : Bool) (m : ℕ) → ◌≡◌ {A = Option ℕ} None (cond b (Some m) None) → b ≡ false
none_by true m e = absurd cc
none_by false m e = refl

-- the first message can be passed
pub record Passed (n : ℕ) (w : List ℕ) : Type 0 where
  pub some : 0 < n
  pub there : n ≤ length w
  pub rest : (cut (drop n w)).1 ≡ (cut w).1

pub pass : NumbersRead → (n : ℕ) (w : List ℕ) → IsLeading (Some n) w → Passed n w
pass laws n w e =
    let p = leading_by (is_whole w) n (number_of 4 w) e in
    let f = leading_message w p.0 in
    let low = f.low in
    let there = f.there in
    let size : n ≡ number_of 4 w = p.1 in
    let step : (cut w).1 ≡ (cut (drop (number_of 4 w) w)).1 = ap (λ (c : List (List ℕ) × List ℕ). c.1) ((cut_steps laws w).0 p.0) in
    record { some = omega arith; there = omega arith; rest = rw size (sym step) }

-- where no message is left, the fault is that of the end
pub ended_at : NumbersRead → (h : HeldBytes) (at : ℕ) (rest : List ℕ) → h.at ≤ at → at + length rest ≡ h.at + length h.bytes → (cut rest).1 ≡ (cut h.bytes).1
    → IsLeading None rest
    → end_fault at rest ≡ ends h
ended_at laws h at rest follows place same none =
    let stuck : cut rest ≡ ([], rest) = (cut_steps laws rest).1 (none_by (is_whole rest) (number_of 4 rest) none) in
    let left : (cut h.bytes).1 ≡ rest = sym same ∙ ap (λ (c : List (List ℕ) × List ℕ). c.1) stuck in
    let here : h.at + (length h.bytes - length rest) ≡ at = omega arith in
    rw (left, here) refl

-- the tests of bad_length
bad_by : (few low high : Bool) (at n : ℕ) (f : FrameFault)
    → cond {A = Option FrameFault} few None (cond {A = Option FrameFault} low (Some (Short at n))
    (cond {A = Option FrameFault} high (Some (TooLong at n)) None)) ≡ Some f
    → ((low ≡ true) × (f ≡ Short at n)) ⊎ ((high ≡ true) × (f ≡ TooLong at n))
bad_by true low high at n f e = absurd cc
bad_by false true high at n f e = inl (refl, cc)
bad_by false false true at n f e = inr (refl, cc)
bad_by false false false at n f e = absurd cc

bad : (at : ℕ) (w : List ℕ) (f : FrameFault) → bad_length at w ≡ Some f
    → ((number_of 4 w < 40) × (f ≡ Short at (number_of 4 w))) ⊎ ((135168 < number_of 4 w) × (f ≡ TooLong at (number_of 4 w)))
bad at w f e =
    elim (bad_by (ltb (length w) 4) (ltb (number_of 4 w) 40) (ltb 135168 (number_of 4 w)) at (number_of 4 w) f e) [
      | inl p ↦ inl (ltb-true _ _ p.0, p.1)
      | inr p ↦ inr (ltb-true _ _ p.0, p.1)
    ]

only_false : (b : Bool) → ¬ (b ≡ true) → b ≡ false
only_false true h = absurd (h refl)
only_false false h = refl

bad_none : NumbersRead → (at : ℕ) (w : List ℕ) (f : FrameFault) → bad_length at w ≡ Some f → HasNone w
bad_none laws at w f e =
    (cut_steps laws w).1 (only_false (is_whole w) (λ whole. (
    let leading = leading_message w whole in
    let low = leading.low in
    let high = leading.high in
    elim (bad at w f e) [ inl p ↦ omega (arith, p.0) | inr p ↦ omega (arith, p.0) ])))

-- a bad length is answered
pub gives_fault : NumbersRead → (old new : HeldBytes) (f : FrameFault) → Some f ≡ bad_length old.at old.bytes → new ≡ record old { fault = Some f }
    → GivesNext old new (Err f)
gives_fault laws old new (Short at len) e same = (bad_none laws old.at old.bytes (Short at len) (sym e), sym e, same)
gives_fault laws old new (TooLong at len) e same = (bad_none laws old.at old.bytes (TooLong at len) (sym e), sym e, same)
gives_fault laws old new (Cut at have need) e same =
    absurd (elim (bad old.at old.bytes (Cut at have need) (sym e)) [ inl p ↦ (let h = p.1 in cc) | inr p ↦ (let h = p.1 in cc) ])
gives_fault laws old new Memory e same = absurd (elim (bad old.at old.bytes Memory (sym e)) [ inl p ↦ (let h = p.1 in cc) | inr p ↦ (let h = p.1 in cc) ])

-- there is no message yet
pub gives_none : NumbersRead → (old new : HeldBytes) → None ≡ bad_length old.at old.bytes → IsLeading None old.bytes → new ≡ old → GivesNext old new (Ok None)
gives_none laws old new good none same = ((cut_steps laws old.bytes).1 (none_by (is_whole old.bytes) (number_of 4 old.bytes) none), sym good, same)

-- the first message is given out
pub gives_first : NumbersRead → (old new : HeldBytes) (n : ℕ) (m : List ℕ) → IsLeading (Some n) old.bytes → m ≡ take n old.bytes
    → new ≡ record old { bytes = drop n old.bytes; at = old.at + n } → Gives old new m
gives_first laws old new n m e leading same =
    let p = leading_by (is_whole old.bytes) n (number_of 4 old.bytes) e in
    let f = leading_message old.bytes p.0 in
    let there = f.there in
    let size : n ≡ number_of 4 old.bytes = p.1 in
    let m_is : take (number_of 4 old.bytes) old.bytes ≡ m = sym (leading ∙ ap (λ (k : ℕ). take k old.bytes) size) in
    let rest_is : drop (number_of 4 old.bytes) old.bytes ≡ new.bytes = sym (ap (λ (h : HeldBytes). h.bytes) same ∙ ap (λ (k : ℕ). drop k old.bytes) size) in
    let len : length m ≡ n = ap length leading ∙ omega (arith, length-take n old.bytes) in
    record {
      message = subst IsMessage m_is (first_message laws old.bytes p.0);
      first = (cut_steps laws old.bytes).0 p.0 ∙ rw (m_is, rest_is) refl;
      rest = sym (take-append-drop (number_of 4 old.bytes) old.bytes) ∙ rw (m_is, rest_is) refl;
      at = ap (λ (h : HeldBytes). h.at) same ∙ ap (λ (k : ℕ). old.at + k) (sym len);
      fault = ap (λ (h : HeldBytes). h.fault) same;
    }

-- there is a message, and no memory to give it out
pub gives_memory : NumbersRead → (old new : HeldBytes) (n : ℕ) → IsLeading (Some n) old.bytes → new ≡ old → GivesNext old new (Err Memory)
gives_memory laws old new n e same =
    let p = leading_by (is_whole old.bytes) n (number_of 4 old.bytes) e in
    let step = (cut_steps laws old.bytes).0 p.0 in (
      (λ (none : HasNone old.bytes). (let same : (cut old.bytes).0 ≡ [] = ap (λ (c : List (List ℕ) × List ℕ). c.0) none in let more = ap
          (λ (c : List (List ℕ) × List ℕ). c.0) step in cc)),
      same,
    )
