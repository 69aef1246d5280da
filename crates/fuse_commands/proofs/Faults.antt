-- A stream that has a fault.
use Rattle.std.proofs.Common.{◌≡◌, ◌⊎◌, ℕ, Bool, true, false, ◌&&◌, ltb, List, [], ◌∷◌, ◌++◌, length, Option, Some, None, Err, inl, inr, refl, sym, ap, arith}
use Rattle.std.proofs.lemmas.Bool.{leb-true, le-ltb}
use Rattle.std.specs.Option.{IfSome, option_or}
use Rattle.std.specs.Io.KnownBytes.{Keeps, prepend_known}
use Rattle.fuse_wire.specs.Bytes.{number_of}
use Rattle.fuse_request.specs.declared.framer.FrameFault.{FrameFault}
use Rattle.fuse_request.specs.declared.framer.FrameFault.TheVariants.{Short, TooLong, Cut, Memory}
use Rattle.fuse_request.specs.Stream.{is_whole, CutSteps}
use Rattle.fuse_request.specs.Framing.{HeldBytes, HasNone, GivesNext, bad_length, end_fault, needed}
use Rattle.fuse_commands.specs.declared.ending.Ending.{Ending}
use Rattle.fuse_commands.specs.Endings.{stream_ending}
use Rattle.fuse_commands.specs.inner.Failing.{GaveOut}
use Rattle.fuse_commands.specs.inner.Messages.{HasFault}

-- a bad length stays one with more bytes after it
longer_bad : (at : ℕ) (w r : List ℕ) (f : FrameFault) → bad_length at w ≡ Some f → bad_length at (w ++ r) ≡ Some f
unfolding number_of
longer_bad at [] r f e = absurd cc
longer_bad at (a ∷ []) r f e = absurd cc
longer_bad at (a ∷ b ∷ []) r f e = absurd cc
longer_bad at (a ∷ b ∷ c ∷ []) r f e = absurd cc
longer_bad at (a ∷ b ∷ c ∷ d ∷ w) r f e =
    let short : ltb (length (a ∷ b ∷ c ∷ d ∷ w)) 4 ≡ false = le-ltb (length (a ∷ b ∷ c ∷ d ∷ w)) 4 (omega arith) in
    let long : ltb (length (a ∷ b ∷ c ∷ d ∷ (w ++ r))) 4 ≡ false = le-ltb (length (a ∷ b ∷ c ∷ d ∷ (w ++ r))) 4 (omega arith) in
    let same = rw short at e in
    rw long same

and_both : (b c : Bool) → (b && c) ≡ true → (b ≡ true) × (c ≡ true)
and_both true c e = (refl, e)
and_both false c e = absurd cc

not_whole : (at : ℕ) (w : List ℕ) (f : FrameFault) (b : Bool) → is_whole w ≡ b → bad_length at w ≡ Some f → is_whole w ≡ false
not_whole at w f false is e = is
not_whole at w f true is e =
    let h0 = and_both _ _ is in
    let h1 = and_both _ _ h0.1 in
    let h2 = and_both _ _ h1.1 in
    let few : ltb (length w) 4 ≡ false = le-ltb (length w) 4 (leb-true 4 (length w) h0.0) in
    let low : ltb (number_of 4 w) 40 ≡ false = le-ltb (number_of 4 w) 40 (leb-true 40 (number_of 4 w) h1.0) in
    let high : ltb 135168 (number_of 4 w) ≡ false = le-ltb 135168 (number_of 4 w) (leb-true (number_of 4 w) 135168 h2.0) in
    absurd (let e' = rw (few, low, high) at e in cc)

none_begins : (at : ℕ) (w : List ℕ) (f : FrameFault) → CutSteps → bad_length at w ≡ Some f → HasNone w
none_begins at w f steps e = (steps w).1 (not_whole at w f (is_whole w) refl e)

bad_end : (at : ℕ) (w : List ℕ) (f : FrameFault) → bad_length at w ≡ Some f → end_fault at w ≡ Some f
bad_end at [] f e = absurd cc
bad_end at (x ∷ w) f e = ap (λ o. option_or o (Some (Cut at (length (x ∷ w)) (needed (x ∷ w))))) e

-- if the held bytes begin with a bad length, the stream has that fault
bad_known : (held : List ℕ) (rest : Option (List ℕ)) (at : ℕ) (f : FrameFault) → CutSteps → bad_length at held ≡ Some f
    → IfSome (prepend_known held rest) (λ left. HasNone left × (end_fault at left ≡ Some f))
bad_known held None at f steps e = tt
bad_known held (Some r) at f steps e =
    let longer = longer_bad at held r f e in
    (none_begins at (held ++ r) f steps longer, bad_end at (held ++ r) f longer)

kept_known : (a b : Option (List ℕ)) (at : ℕ) (f : FrameFault) → Keeps a b → IfSome b (λ left. HasNone left × (end_fault at left ≡ Some f))
    → IfSome a (λ left. HasNone left × (end_fault at left ≡ Some f))
kept_known None b at f h g = tt
kept_known (Some xs) None at f h g = absurd h
kept_known (Some xs) (Some ys) at f h g = rw (sym h) g

-- the framer's fault is that of the stream
pub faulty : (a : Option (List ℕ)) (old new : HeldBytes) (rest : Option (List ℕ)) (at : ℕ) (f : FrameFault) (ending : Ending) → CutSteps
    → Keeps a (prepend_known old.bytes rest) → old.at ≡ at
    → GivesNext old new (Err f) → ending ≡ stream_ending f → GaveOut ending ⊎ HasFault a at ending
faulty a old new rest at Memory ending steps kept here g is = inl (rw is (omega arith))
faulty a old new rest at (Short p n) ending steps kept here g is =
    inr (record {
      fault = Short p n;
      same = is;
      here = kept_known a (prepend_known old.bytes rest) at (Short p n) kept (bad_known old.bytes rest at (Short p n) steps (rw (sym here) g.1));
    })
faulty a old new rest at (TooLong p n) ending steps kept here g is =
    inr (record {
      fault = TooLong p n;
      same = is;
      here = kept_known a (prepend_known old.bytes rest) at (TooLong p n) kept (bad_known old.bytes rest at (TooLong p n) steps (rw (sym here) g.1));
    })
faulty a old new rest at (Cut p n k) ending steps kept here g is =
    inr (record {
      fault = Cut p n k;
      same = is;
      here = kept_known a (prepend_known old.bytes rest) at (Cut p n k) kept (bad_known old.bytes rest at (Cut p n k) steps (rw (sym here) g.1));
    })
