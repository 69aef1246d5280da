-- The bytes of a content that is cut, filled up or written, place by place.
use Rattle.std.proofs.Common.{◌≡◌, ◌<◌, ◌≤◌, ◌+◌, ◌-◌, inl, inr, ℕ, zero, suc, List, [], ◌∷◌, ◌++◌, take, drop, length, refl, sym, ap, ◌∙◌, arith}
use Rattle.std.specs.Prelude.{replicate, slice_index_or}
use Rattle.std.proofs.lemmas.Bool.{cases_lt}
use Rattle.std.proofs.lemmas.List.{get_or-take, get_or-drop, length-append}
use Rattle.std.proofs.Math.ListN.{get_or-append}
use Rattle.std.proofs.Math.Seq.{get_or-append_right}
use Rattle.fuse_rows.specs.Rows.{sized, written}
use Rattle.fuse_plan.proofs.Lengths.{length_sized}

-- the byte at this place, 0 after the end
abbrev pub byte_at : List ℕ → ℕ → ℕ
byte_at bytes i = slice_index_or bytes i 0

pub beyond : (xs : List ℕ) (i : ℕ) → length xs ≤ i → byte_at xs i ≡ 0
beyond [] i low = refl
beyond (x ∷ xs) zero low = absurd (omega (arith, low))
beyond (x ∷ xs) (suc i) low = beyond xs i (omega (arith, low))

zero_at : (n j : ℕ) → byte_at (replicate n 0) j ≡ 0
zero_at zero j = refl
zero_at (suc n) zero = refl
zero_at (suc n) (suc j) = zero_at n j

-- below the size the bytes stay
pub byte_sized : (n : ℕ) (xs : List ℕ) (i : ℕ) → i < n → byte_at (sized n xs) i ≡ byte_at xs i
byte_sized n xs i low =
    elim (cases_lt i (length (take n xs))) [
      | inl first ↦ get_or-append (take n xs) (replicate (n - length xs) 0) 0 i first ∙ get_or-take n xs i 0 low
      | inr far ↦ get_or-append_right (take n xs) (replicate (n - length xs) 0) i 0 far ∙ zero_at (n - length xs) (i - length (take n xs))
          ∙ sym (sym (get_or-take n xs i 0 low) ∙ beyond (take n xs) i far)
    ]

-- above it there are none
pub byte_above : (n : ℕ) (xs : List ℕ) (i : ℕ) → n ≤ i → byte_at (sized n xs) i ≡ 0
byte_above n xs i high = beyond (sized n xs) i (omega (arith, high, length_sized n xs))

-- outside the written ones they stay
pub byte_outside : (at : ℕ) (bytes xs : List ℕ) (i : ℕ) → (at ≤ i → at + length bytes ≤ i) → byte_at (written at bytes xs) i ≡ byte_at xs i
byte_outside at bytes xs i outside =
    let head = sized at xs ++ bytes in
    let tail = drop (at + length bytes) xs in
    let long : length head ≡ at + length bytes = length-append (sized at xs) bytes ∙ ap (λ n. n + length bytes) (length_sized at xs) in
    elim (cases_lt i at) [
      | inl low ↦ get_or-append head tail 0 i (omega (arith, low, long)) ∙ get_or-append (sized at xs) bytes 0 i (omega (arith, low, length_sized at xs))
          ∙ byte_sized at xs i low
      | inr high ↦
          let far = outside high in
          let e : at + length bytes + (i - (at + length bytes)) ≡ i = omega (arith, far) in
          get_or-append_right head tail i 0 (omega (arith, far, long)) ∙ ap (λ n. byte_at tail (i - n)) long
          ∙ get_or-drop (at + length bytes) xs (i - (at + length bytes)) 0 ∙ ap (byte_at xs) e
    ]
