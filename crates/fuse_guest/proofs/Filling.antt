-- What is shown of a list: its first items, one at least, as many as fit.
use Rattle.std.proofs.Common.{◌≡◌, ℕ, ◌+◌, ◌-◌, ◌<◌, ◌≤◌, ◌⊎◌, inl, inr, Bool, true, false, List, [], ◌∷◌, ◌++◌, length, refl, ap, arith}
use Rattle.std.specs.Prelude.{nat_le, if◌then◌else◌}
use Rattle.std.specs.List.{AllByRecursion}
use Rattle.std.proofs.lemmas.Bool.{leb-true, leb-false}
use Rattle.guest_frames.specs.Limits.{max_reply_len}
use Rattle.fuse_guest.specs.Telling.{told_head, filling, told_of}

-- the sizes of items, from the first one on
abbrev pub total : {A : Type 0} → (A → ℕ) → List A → ℕ
total size [] = 0
total size (x ∷ xs) = size x + total size xs

pub record Fills {A : Type 0} (size : A → ℕ) (some xs : List A) (room : ℕ) : Type 0 where
  pub rest : List A
  pub first : some ++ rest ≡ xs
  pub within : total size some ≤ room
  pub full : (x : A) (later : List A) → rest ≡ x ∷ later → room < total size some + size x

same_head : {A : Type 0} (x y : A) (xs ys : List A) → x ∷ xs ≡ y ∷ ys → x ≡ y
same_head x y xs ys same = cc

no_items : {A : Type 0} (x : A) (xs : List A) → [] ≡ x ∷ xs → ⊥
no_items x xs same = absurd cc

fills_by : {A : Type 0} (b : Bool) (size : A → ℕ) (x : A) (xs some : List A) (room : ℕ) → nat_le (size x) room ≡ b → Fills size some xs (room - size x)
    → Fills size (if b then x ∷ some else []) (x ∷ xs) room
fills_by true size x xs some room fits more = let low = leb-true (size x) room fits in record {
  rest = more.rest;
  first = ap (λ l. x ∷ l) more.first;
  within = omega (arith, low, more.within);
  full = λ y later is. omega (arith, low, more.full y later is);
}
fills_by false size x xs some room fits more = record {
  rest = x ∷ xs;
  first = refl;
  within = omega arith;
  full = λ y later is. omega (arith, leb-false (size x) room fits, ap size (same_head x y xs later is));
}

pub fills : {A : Type 0} (size : A → ℕ) (xs : List A) (room : ℕ) → Fills size (filling size xs room) xs room
fills size [] room = record { rest = []; first = refl; within = omega arith; full = λ x later is. absurd (no_items x later is) }
fills size (x ∷ xs) room = fills_by (nat_le (size x) room) size x xs (filling size xs (room - size x)) room refl (fills size xs (room - size x))

pub record Tells {A : Type 0} (size : A → ℕ) (some xs : List A) : Type 0 where
  pub rest : List A
  pub first : some ++ rest ≡ xs
  pub one : (xs ≡ []) ⊎ (1 ≤ length some)
  pub full : (x : A) (later : List A) → rest ≡ x ∷ later → max_reply_len < told_head + (total size some + size x)

pub tells : {A : Type 0} (size : A → ℕ) (xs : List A) → Tells size (told_of size xs) xs
tells size [] = record { rest = []; first = refl; one = inl refl; full = λ x later is. absurd (no_items x later is) }
tells size (x ∷ xs) = let f = fills size xs (max_reply_len - (told_head + size x)) in record {
  rest = f.rest;
  first = ap (λ l. x ∷ l) f.first;
  one = inr (omega arith);
  full = λ y later is. omega (arith, f.full y later is);
}

-- items that are small enough one by one fit into the frame together
pub told_within : {A : Type 0} (size : A → ℕ) (xs : List A) → AllByRecursion (λ x. told_head + size x ≤ max_reply_len) xs
    → told_head + total size (told_of size xs) ≤ max_reply_len
told_within size [] small = omega arith
told_within size (x ∷ xs) small = omega (arith, small.0, (fills size xs (max_reply_len - (told_head + size x))).within)

-- ---- what holds of all items holds of those that are shown

each_if : {A : Type 0} (b : Bool) (P : A → Type 0) (x : A) (xs : List A) → P x → AllByRecursion P xs → AllByRecursion P (if b then x ∷ xs else [])
each_if true P x xs one each = (one, each)
each_if false P x xs one each = tt

pub each_filling : {A : Type 0} (P : A → Type 0) (size : A → ℕ) (xs : List A) (room : ℕ) → AllByRecursion P xs → AllByRecursion P (filling size xs room)
each_filling P size [] room each = tt
each_filling P size (x ∷ xs) room each =
    each_if (nat_le (size x) room) P x (filling size xs (room - size x)) each.0 (each_filling P size xs (room - size x) each.1)

pub each_told : {A : Type 0} (P : A → Type 0) (size : A → ℕ) (xs : List A) → AllByRecursion P xs → AllByRecursion P (told_of size xs)
each_told P size [] each = tt
each_told P size (x ∷ xs) each = (each.0, each_filling P size xs (max_reply_len - (told_head + size x)) each.1)

-- ---- no more are shown than there are

few_if : {A : Type 0} (b : Bool) (x : A) (some xs : List A) → length some ≤ length xs → length (if b then x ∷ some else []) ≤ length (x ∷ xs)
few_if true x some xs few = omega (arith, few)
few_if false x some xs few = omega arith

few_filling : {A : Type 0} (size : A → ℕ) (xs : List A) (room : ℕ) → length (filling size xs room) ≤ length xs
few_filling size [] room = omega arith
few_filling size (x ∷ xs) room = few_if (nat_le (size x) room) x (filling size xs (room - size x)) xs (few_filling size xs (room - size x))

pub few_told : {A : Type 0} (size : A → ℕ) (xs : List A) → length (told_of size xs) ≤ length xs
few_told size [] = omega arith
few_told size (x ∷ xs) = omega (arith, few_filling size xs (max_reply_len - (told_head + size x)))
