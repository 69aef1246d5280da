-- Bytes written over, one part after another.
use Rattle.std.proofs.Common.{◌≡◌, ◌<◌, ◌≤◌, ◌+◌, ◌-◌, ◌==◌, ◌&&◌, inl, inr, ℕ, zero, suc, List, [], ◌∷◌, ◌++◌, take, drop, length, replicate, not}
use Rattle.std.proofs.Common.{nat_lt, Bool, true, false, cond, refl, sym, ap, arith, ◌∙◌}
use Rattle.std.proofs.lemmas.Bool.{cases_Bool}
use Rattle.std.proofs.lemmas.Bool.Decides.{nat_tests}
use Rattle.std.proofs.lemmas.List.{get_or-take, get_or-drop, length-append}
use Rattle.std.proofs.Math.ListN.{get_or-append}
use Rattle.std.proofs.Math.Seq.{get_or-append_right}
use Rattle.std.proofs.lemmas.List.{length-take-le, length-replicate}
use Rattle.fuse_rows.specs.Rows.{sized, written}
use Rattle.fuse_store_tree.specs.Pieces.{byte_at}
use Rattle.fuse_store_tree.specs.inner.Writing.{overlay}
use Rattle.fuse_store_tree.proofs.BlockBytes.{lower, upper}
use Rattle.fuse_store_tree.proofs.Ranges.{drop_length}

nothing_between : (at i : ℕ) → (not (nat_lt i at) && nat_lt i (at + 0)) ≡ false
nothing_between at i = elim (cases_Bool (nat_lt i at)) [
  | inl before ↦ rw before refl
  | inr behind ↦ rw behind (let e : nat_lt i (at + 0) ≡ nat_lt i at = ap (nat_lt i) (let f : at + 0 ≡ at = omega arith in f) in e ∙ behind)
]

and_false : (a : Bool) → (a && false) ≡ false
and_false true = refl
and_false false = refl

pub overlay_none : (node at : ℕ) (g : ℕ → ℕ → ℕ) (n i : ℕ) → g n i ≡ overlay node at [] g n i
overlay_none node at g n i = sym (ap (λ b. cond ((n == node) && b) (byte_at [] (i - at)) (g n i)) (nothing_between at i)
    ∙ ap (λ b. cond b (byte_at [] (i - at)) (g n i)) (and_false (n == node)))

pub low_test : (i b : ℕ) → i < b → nat_lt i b ≡ true
low_test i b low = grind (arith, nat_tests)

pub high_test : (i b : ℕ) → b ≤ i → nat_lt i b ≡ false
high_test i b high = grind (arith, nat_tests)

pub overlay_more : (node at : ℕ) (p q : List ℕ) (g : ℕ → ℕ → ℕ) (n i : ℕ) → overlay node (at + length p) q (overlay node at p g) n i ≡ overlay node at (p
    ++ q) g n i
overlay_more node at p q g n i = elim (cases_Bool (n == node)) [
  | inr other ↦ rw other refl
  | inl here ↦ rw here (elim (cases_Bool (nat_lt i at)) [
    | inl before ↦
        let low = lower i at before in
        rw (before, low_test i (at + length p) (omega (arith, low))) refl
    | inr behind ↦
        let high = upper i at behind in
        rw behind (elim (cases_Bool (nat_lt i (at + length p))) [
          | inl first ↦
              let low = lower i (at + length p) first in
              rw (first, low_test i (at + length (p ++ q)) (omega (arith, low, length-append p q)))
              (sym (get_or-append p q 0 (i - at) (omega (arith, low, high))))
          | inr later ↦
              let far = upper i (at + length p) later in
              rw later (elim (cases_Bool (nat_lt i (at + length p + length q))) [
                | inl second ↦
                    let low = lower i (at + length p + length q) second in
                    let e : i - (at + length p) ≡ i - at - length p = omega arith in
                    rw (second, low_test i (at + length (p ++ q)) (omega (arith, low, length-append p q))) (ap (byte_at q) e
                    ∙ sym (get_or-append_right p q (i - at) 0 (omega (arith, far, high))))
                | inr past ↦
                    let out = upper i (at + length p + length q) past in
                    rw (past, high_test i (at + length (p ++ q)) (omega (arith, out, length-append p q))) refl
              ])
        ])
  ])
]

pub take_plus : {X : Type 0} (m n : ℕ) (xs : List X) → take (m + n) xs ≡ take m xs ++ take n (drop m xs)
take_plus zero n xs = let e : 0 + n ≡ n = omega arith in ap (λ k. take k xs) e
take_plus {X} (suc m) n [] = let e : suc m + n ≡ suc (m + n) = omega arith in ap (λ k. take {A = X} k []) e ∙ nothing n
  where
    nothing : (k : ℕ) → ◌≡◌ {A = List X} [] (take k [])
    nothing zero = refl
    nothing (suc k) = refl
take_plus (suc m) n (x ∷ xs) = let e : suc m + n ≡ suc (m + n) = omega arith in ap (λ k. take k (x ∷ xs)) e ∙ ap (λ l. x ∷ l) (take_plus m n xs)

-- ---- a content that is written

pub beyond : (xs : List ℕ) (i : ℕ) → length xs ≤ i → byte_at xs i ≡ 0
beyond [] i low = refl
beyond (x ∷ xs) zero low = absurd (omega (arith, low))
beyond (x ∷ xs) (suc i) low = beyond xs i (omega (arith, low))

pub zero_at : (n j : ℕ) → byte_at (replicate n 0) j ≡ 0
zero_at zero j = refl
zero_at (suc n) zero = refl
zero_at (suc n) (suc j) = zero_at n j

pub sized_length : (n : ℕ) (xs : List ℕ) → length (sized n xs) ≡ n
sized_length n xs = length-append (take n xs) (replicate (n - length xs) 0) ∙ elim (cases_Bool (nat_lt n (length xs))) [
  | inl less ↦ let low = lower n (length xs) less in omega (arith, low, length-take-le n xs (omega (arith, low)), length-replicate {A = ℕ} (n - length xs) 0)
  | inr more ↦ let high = upper n (length xs) more in omega (arith, high, ap length (all_of n xs high), length-replicate {A = ℕ} (n - length xs) 0)
]
  where
    all_of : (k : ℕ) (ys : List ℕ) → length ys ≤ k → take k ys ≡ ys
    all_of zero [] high = refl
    all_of (suc k) [] high = refl
    all_of zero (y ∷ ys) high = absurd (omega (arith, high))
    all_of (suc k) (y ∷ ys) high = ap (λ l. y ∷ l) (all_of k ys (omega (arith, high)))

byte_taken : (n : ℕ) (xs : List ℕ) (i : ℕ) → i < n → byte_at (take n xs) i ≡ byte_at xs i
byte_taken n xs i low = get_or-take n xs i 0 low

-- the bytes of a content that is cut, or filled with zeros
pub byte_sized : (n : ℕ) (xs : List ℕ) (i : ℕ) → i < n → byte_at (sized n xs) i ≡ byte_at xs i
byte_sized n xs i low = elim (cases_Bool (nat_lt i (length (take n xs)))) [
  | inl first ↦ get_or-append (take n xs) (replicate (n - length xs) 0) 0 i (lower i (length (take n xs)) first) ∙ byte_taken n xs i low
  | inr later ↦
      let far = upper i (length (take n xs)) later in
      get_or-append_right (take n xs) (replicate (n - length xs) 0) i 0 far ∙ zero_at (n - length xs) (i - length (take n xs))
      ∙ sym (sym (byte_taken n xs i low) ∙ beyond (take n xs) i far)
]

pub written_length : (at : ℕ) (bytes xs : List ℕ) → length (written at bytes xs) ≡ at + length bytes + (length xs - (at + length bytes))
written_length at bytes xs =
    omega (
      arith,
      length-append (sized at xs ++ bytes) (drop (at + length bytes) xs),
      length-append (sized at xs) bytes,
      sized_length at xs,
      drop_length (at + length bytes) xs,
    )

-- the bytes of a content that is written to
pub byte_written : (at : ℕ) (bytes xs : List ℕ) (i : ℕ) → byte_at (written at bytes xs) i ≡ cond (not (nat_lt i at) && nat_lt i (at + length bytes))
    (byte_at bytes (i - at)) (byte_at xs i)
byte_written at bytes xs i =
    let head = sized at xs ++ bytes in
    let tail = drop (at + length bytes) xs in
    let long : length head ≡ at + length bytes = length-append (sized at xs) bytes ∙ ap (λ n. n + length bytes) (sized_length at xs) in
    elim (cases_Bool (nat_lt i at)) [
      | inl before ↦
          let low = lower i at before in
          rw before (get_or-append head tail 0 i (omega (arith, low, long)) ∙ get_or-append (sized at xs) bytes 0 i (omega (arith, low, sized_length at xs))
          ∙ byte_sized at xs i low)
      | inr behind ↦
          let high = upper i at behind in
          rw behind (elim (cases_Bool (nat_lt i (at + length bytes))) [
            | inl inside ↦
                let low = lower i (at + length bytes) inside in
                rw inside (get_or-append head tail 0 i (omega (arith, low, long)) ∙ get_or-append_right (sized at xs) bytes i 0
                (omega (arith, high, sized_length at xs)) ∙ ap (λ n. byte_at bytes (i - n)) (sized_length at xs))
            | inr past ↦
                let far = upper i (at + length bytes) past in
                let e : at + length bytes + (i - (at + length bytes)) ≡ i = omega (arith, far) in
                rw past (get_or-append_right head tail i 0 (omega (arith, far, long)) ∙ ap (λ n. byte_at tail (i - n)) long
                ∙ get_or-drop (at + length bytes) xs (i - (at + length bytes)) 0 ∙ ap (byte_at xs) e)
          ])
    ]
