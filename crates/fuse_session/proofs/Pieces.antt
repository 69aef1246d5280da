-- Pieces of what is to come.
use Rattle.std.specs.Io.KnownBytes.{Consumes}
use Rattle.std.proofs.Common.{◌∷◌, [], zero, suc, ◌<◌, get_or, refl, Option, Some, subst, ◌≡◌, ℕ, List, ◌++◌, length, take, drop, sym, ap, ◌∙◌, ◌+◌, ◌-◌, ◌≤◌}
use Rattle.std.proofs.Common.{arith, length-drop, length-append}
use Rattle.std.proofs.lemmas.List.{take-append-drop, drop-drop, length-take-le}
use Rattle.std.proofs.Math.Seq.{take-append_seam}
use Rattle.fuse_session.specs.declared.memory.Arrival.{Arrival}
use Rattle.fuse_session.specs.declared.memory.Outcome.{Outcome}
use Rattle.fuse_session.specs.Memory.{first_arrival, first_outcome}

pub piece_came : (input copied rest : List ℕ) (at n : ℕ) → length copied ≡ n → copied ≡ take n (drop at input)
    → drop at input ≡ take n (copied ++ rest) ++ drop (at + n) input
piece_came input copied rest at n len is =
    sym (ap (λ k. take k (copied ++ rest) ++ drop (at + n) input) (sym len)
    ∙ ap (λ r. r ++ drop (at + n) input) (take-append_seam copied rest ∙ is)
    ∙ ap (λ r. take n (drop at input) ++ r) (sym (drop-drop n at input))
    ∙ take-append-drop n (drop at input))

-- a piece of known bytes came
pub piece_from : (old : Option (List ℕ)) (input copied rest : List ℕ) (at n : ℕ) → Some (drop at input) ≡ old → length copied ≡ n
    → copied ≡ take n (drop at input)
    → Consumes old (Some (drop (at + n) input)) (take n (copied ++ rest))
piece_from old input copied rest at n same len is = subst (λ o. Consumes o (Some (drop (at + n) input)) (take n (copied ++ rest))) same
    (piece_came input copied rest at n len is)

pub copied_is : (input : List ℕ) (copied whole : List ℕ) (at n : ℕ) → copied ≡ take (at + n - at) (drop at whole) → whole ≡ input
    → copied ≡ take n (drop at input)
copied_is input copied whole at n is same =
    let e : at + n - at ≡ n = omega arith in
    is ∙ ap (λ k. take k (drop at whole)) e ∙ ap (λ w. take n (drop at w)) same

pub copied_length : (input copied : List ℕ) (at n : ℕ) → copied ≡ take n (drop at input) → n ≤ length input - at → length copied ≡ n
copied_length input copied at n is le = ap length is ∙ length-take-le n (drop at input) (omega (arith, length-drop at input))

pub room : (copied rest : List ℕ) (n : ℕ) → length copied ≡ n → n ≤ length (copied ++ rest)
room copied rest n is = omega (arith, length-append copied rest)

-- ---- what is to arrive, and how it is to go

pub arrival_at : (xs : List Arrival) (i : ℕ) (d : Arrival) → i < length xs → get_or xs i d ≡ first_arrival (drop i xs)
arrival_at [] i d lt = absurd (omega arith)
arrival_at (x ∷ xs) zero d lt = refl
arrival_at (x ∷ xs) (suc i) d lt = arrival_at xs i d (omega arith)

pub outcome_at : (xs : List Outcome) (i : ℕ) (d : Outcome) → i < length xs → get_or xs i d ≡ first_outcome (drop i xs)
outcome_at [] i d lt = absurd (omega arith)
outcome_at (x ∷ xs) zero d lt = refl
outcome_at (x ∷ xs) (suc i) d lt = outcome_at xs i d (omega arith)
