-- Ranges of bytes, in a list and in blocks.
use Rattle.std.proofs.Common.{◌≡◌, ◌<◌, ◌≤◌, ◌+◌, ◌-◌, ◌/◌, ◌%◌, inl, inr, ℕ, zero, suc, List, [], ◌∷◌, ◌++◌, take, drop, length, replicate}
use Rattle.std.proofs.Common.{Some, None, Option, refl, sym, ap, arith, ◌∙◌}
use Rattle.fuse_rows.specs.Bounds.{block_bytes}
use Rattle.std.specs.Prelude.{unwrap_or}
use Rattle.std.proofs.Common.{min}
use Rattle.std.proofs.lemmas.Bool.Decides.{leb_tells}
use Rattle.fuse_store_tables.specs.Content.{Content}
use Rattle.fuse_store_tree.specs.Pieces.{byte_at, byte_in, stored_block}
use Rattle.fuse_store_tree.specs.inner.Reading.{range_of, whole_of}

pub range_same : (f g : ℕ → ℕ) (a b n : ℕ) → ((j : ℕ) → j < n → f (a + j) ≡ g (b + j)) → range_of f a n ≡ range_of g b n
range_same f g a b zero same = refl
range_same f g a b (suc n) same =
    let first : f a ≡ g b = ap f (omega arith) ∙ same 0 (omega arith) ∙ ap g (omega arith) in
    ap (λ x. x ∷ range_of f (a + 1) n) first
    ∙ ap (λ more. g b ∷ more) (range_same f g (a + 1) (b + 1) n (λ j low. ap f (omega arith) ∙ same (j + 1) (omega (arith, low)) ∙ ap g (omega arith)))

pub range_more : (f : ℕ → ℕ) (a m n : ℕ) → range_of f a (m + n) ≡ range_of f a m ++ range_of f (a + m) n
range_more f a zero n = let e : 0 + n ≡ n = omega arith in let here : a ≡ a + 0 = omega arith in ap (range_of f a) e ∙ ap (λ b. range_of f b n) here
range_more f a (suc m) n =
    let e : suc m + n ≡ suc (m + n) = omega arith in
    let here : a + 1 + m ≡ a + suc m = omega arith in
    ap (range_of f a) e ∙ ap (λ more. f a ∷ more) (range_more f (a + 1) m n ∙ ap (λ b. range_of f (a + 1) m ++ range_of f b n) here)

pub range_length : (f : ℕ → ℕ) (a n : ℕ) → length (range_of f a n) ≡ n
range_length f a zero = refl
range_length f a (suc n) = ap suc (range_length f (a + 1) n)

-- the part of a list
next_byte : (x : ℕ) (xs : List ℕ) (a j : ℕ) → byte_at xs (a + j) ≡ byte_at (x ∷ xs) (suc a + j)
next_byte x xs a j = let e : suc (a + j) ≡ suc a + j = omega arith in ap (byte_at (x ∷ xs)) e

pub part_is : (xs : List ℕ) (a n : ℕ) → a + n ≤ length xs → take n (drop a xs) ≡ range_of (byte_at xs) a n
part_is xs a zero low = refl
part_is [] a (suc n) low = absurd (omega (arith, low))
part_is (x ∷ xs) zero (suc n) low = ap (λ more. x ∷ more) (part_is xs 0 n (omega (arith, low)) ∙ range_same (byte_at xs) (byte_at (x ∷ xs)) 0 1 n
    (λ j h. next_byte x xs 0 j))
part_is (x ∷ xs) (suc a) (suc n) low = part_is xs a (suc n) (omega (arith, low)) ∙ range_same (byte_at xs) (byte_at (x ∷ xs)) a (suc a) (suc n)
    (λ j h. next_byte x xs a j)

no_byte : (n j : ℕ) → byte_at (replicate n 0) j ≡ 0
no_byte zero j = refl
no_byte (suc n) zero = refl
no_byte (suc n) (suc j) = no_byte n j

pub whole_byte : (o : Option (List ℕ)) (j : ℕ) → byte_at (whole_of o) j ≡ byte_at (unwrap_or o []) j
whole_byte None j = no_byte block_bytes j
whole_byte (Some bytes) j = refl

-- the place of a byte in a block
same_block : (here j : ℕ) → here % block_bytes + j < block_bytes → (here + j) / block_bytes ≡ here / block_bytes
same_block here j low = omega (arith, low)

same_start : (here j : ℕ) → here % block_bytes + j < block_bytes → (here + j) % block_bytes ≡ here % block_bytes + j
same_start here j low = omega (arith, low)

-- the part of a block
pub piece_is : (file : List ℕ) (c : Content) (node here n : ℕ) (bytes : List ℕ) → bytes ≡ whole_of (stored_block file c node (here / block_bytes))
    → length bytes ≡ block_bytes → here % block_bytes + n ≤ block_bytes
    → take n (drop (here % block_bytes) bytes) ≡ range_of (byte_in file c node) here n
piece_is file c node here n bytes is whole within =
    part_is bytes (here % block_bytes) n (omega (arith, whole, within))
    ∙ range_same (byte_at bytes) (byte_in file c node) (here % block_bytes) here n (λ j low.
    ap (λ l. byte_at l (here % block_bytes + j)) is ∙ whole_byte (stored_block file c node (here / block_bytes)) (here % block_bytes + j)
    ∙ ap (λ k. byte_at (unwrap_or (stored_block file c node k) []) (here % block_bytes + j)) (sym (same_block here j (omega (arith, low, within))))
    ∙ ap (byte_at (unwrap_or (stored_block file c node ((here + j) / block_bytes)) [])) (sym (same_start here j (omega (arith, low, within)))))

nothing_taken : (k : ℕ) (rest : List ℕ) → ◌++◌ {A = ℕ} (take k []) rest ≡ rest
nothing_taken zero rest = refl
nothing_taken (suc k) rest = refl

pub filled : (size : ℕ) (xs : List ℕ) (n : ℕ) → xs ≡ [] → n ≡ 0 → ◌++◌ {A = ℕ} (take size xs) (replicate (size - n) 0) ≡ replicate size 0
filled size xs n none zero_long =
    let e : size - n ≡ size = omega (arith, zero_long) in
    ap (λ (l : List ℕ). ◌++◌ {A = ℕ} (take size l) (replicate (size - n) 0)) none ∙ nothing_taken size (replicate (size - n) 0)
    ∙ ap (λ k. replicate {A = ℕ} k 0) e

take_whole : (n : ℕ) (ys : List ℕ) → length ys ≤ n → take n ys ≡ ys
take_whole n [] low = nothing n
  where
    nothing : (k : ℕ) → ◌≡◌ {A = List ℕ} (take k []) []
    nothing zero = refl
    nothing (suc k) = refl
take_whole zero (y ∷ ys) low = absurd (omega (arith, low))
take_whole (suc n) (y ∷ ys) low = ap (λ l. y ∷ l) (take_whole n ys (omega (arith, low)))

drop_whole : (n : ℕ) (xs : List ℕ) → length xs ≤ n → drop n xs ≡ []
drop_whole zero [] low = refl
drop_whole (suc n) [] low = refl
drop_whole zero (x ∷ xs) low = absurd (omega (arith, low))
drop_whole (suc n) (x ∷ xs) low = drop_whole n xs (omega (arith, low))

pub drop_length : (n : ℕ) (xs : List ℕ) → length (drop n xs) ≡ length xs - n
drop_length zero xs = let e : length xs ≡ length xs - 0 = omega arith in e
drop_length (suc n) [] = let e : 0 ≡ 0 - suc n = omega arith in e
drop_length (suc n) (x ∷ xs) = drop_length n xs ∙ (let e : length xs - n ≡ suc (length xs) - suc n = omega arith in e)

-- a part that ends where the list does
pub take_least : (xs : List ℕ) (offset n : ℕ) → take (min n (length xs - offset)) (drop offset xs) ≡ take n (drop offset xs)
take_least xs offset n = elim (leb_tells n (length xs - offset)) [
  | inl here ↦ ap (λ k. take k (drop offset xs)) (let e : min n (length xs - offset) ≡ n = omega (arith, here.1) in e)
  | inr above ↦ take_whole _ (drop offset xs) (omega (arith, above.1, drop_length offset xs))
      ∙ sym (take_whole n (drop offset xs) (omega (arith, above.1, drop_length offset xs)))
]

pub none_behind : (xs : List ℕ) (offset n : ℕ) → length xs ≤ offset → take n (drop offset xs) ≡ []
none_behind xs offset n low = ap (take n) (drop_whole offset xs low) ∙ nothing n
  where
    nothing : (k : ℕ) → ◌≡◌ {A = List ℕ} (take k []) []
    nothing zero = refl
    nothing (suc k) = refl
