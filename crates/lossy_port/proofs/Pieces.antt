-- Pieces of the bytes to come.
use Rattle.std.specs.Io.KnownBytes.{Consumes}
use Rattle.std.proofs.Common.{◌≡◌, ℕ, List, ◌++◌, length, take, drop, ◌+◌, ◌-◌, ◌≤◌, Some, sym, ap, ◌∙◌, arith, length-drop, length-append}
use Rattle.std.proofs.lemmas.List.{take-append-drop, drop-drop, length-take-le}
use Rattle.std.proofs.Math.Seq.{take-append_seam}

pub piece_came : (input copied rest : List ℕ) (at n : ℕ) → length copied ≡ n → copied ≡ take n (drop at input)
    → Consumes (Some (drop at input)) (Some (drop (at + n) input)) (take n (copied ++ rest))
piece_came input copied rest at n len is =
    sym (ap (λ k. take k (copied ++ rest) ++ drop (at + n) input) (sym len)
    ∙ ap (λ r. r ++ drop (at + n) input) (take-append_seam copied rest ∙ is)
    ∙ ap (λ r. take n (drop at input) ++ r) (sym (drop-drop n at input))
    ∙ take-append-drop n (drop at input))

pub copied_is : (input copied whole : List ℕ) (at n : ℕ) → copied ≡ take (at + n - at) (drop at whole) → whole ≡ input → copied ≡ take n (drop at input)
copied_is input copied whole at n is same =
    let e : at + n - at ≡ n = omega arith in
    is ∙ ap (λ k. take k (drop at whole)) e ∙ ap (λ w. take n (drop at w)) same

pub copied_length : (input copied : List ℕ) (at n : ℕ) → copied ≡ take n (drop at input) → n ≤ length input - at → length copied ≡ n
copied_length input copied at n is le = ap length is ∙ length-take-le n (drop at input) (omega (arith, length-drop at input))

pub room : (copied rest : List ℕ) (n : ℕ) → length copied ≡ n → n ≤ length (copied ++ rest)
room copied rest n is = omega (arith, length-append copied rest)
