-- Opcodes in sets, and the first one that passes a test.
use Rattle.std.proofs.Common.{◌≡◌, ◌<◌, ◌≤◌, ◌+◌, ◌-◌, ◌%◌, ◌^◌, ℕ, zero, suc, Bool, true, false, ◌∷◌, Option, Some, None, sym, ap, ◌∙◌, arith, pow_mono, lt_of_lt_of_le}
use Rattle.std.specs.Prelude.{◌==◌, if◌then◌else◌}
use Rattle.std.specs.List.{find, range_with_len}
use Rattle.std.proofs.Math.Nat.{div-eq_of_lt}
use Rattle.fuse_guest.specs.Service.{is_in_bits}

-- no opcode from 64 on is in a set
pub past_set : (set k : ℕ) → set < 2 ^ 64 → 64 ≤ k → false ≡ is_in_bits set k
past_set set k small past = ap (λ n. n % 2 == 1) (sym (div-eq_of_lt (lt_of_lt_of_le small (pow_mono past))))

-- ---- the first one of n places, of which the first k were passed

one_more : (k n : ℕ) → k < n → range_with_len k (n - k) ≡ k ∷ range_with_len (k + 1) (n - (k + 1))
one_more k n low = let less : n - k ≡ suc (n - (k + 1)) = omega arith in ap (range_with_len k) less

pub goes_past : (test : ℕ → Bool) (k n : ℕ) (total : Option ℕ) → k < n → test k ≡ false → find test (range_with_len k (n - k)) ≡ total
    → find test (range_with_len (k + 1) (n - (k + 1))) ≡ total
goes_past test k n total low fails so_far =
    sym (ap (λ b. if b then Some k else find test (range_with_len (k + 1) (n - (k + 1)))) fails) ∙ sym (ap (find test) (one_more k n low)) ∙ so_far

pub stops_at : (test : ℕ → Bool) (k n : ℕ) (total : Option ℕ) → k < n → test k ≡ true → find test (range_with_len k (n - k)) ≡ total → Some k ≡ total
stops_at test k n total low passes so_far =
    sym (ap (λ b. if b then Some k else find test (range_with_len (k + 1) (n - (k + 1)))) passes) ∙ sym (ap (find test) (one_more k n low)) ∙ so_far

pub ends_with_none : (test : ℕ → Bool) (k n : ℕ) (total : Option ℕ) → n ≤ k → find test (range_with_len k (n - k)) ≡ total → None ≡ total
ends_with_none test k n total past so_far =
    let none : n - k ≡ zero = omega (arith, past) in
    sym (ap (λ m. find test (range_with_len k m)) none) ∙ so_far
