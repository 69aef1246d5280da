-- Sets of opcodes, opcode after opcode.
use Rattle.std.proofs.Common.{◌≡◌, suc, ◌≤◌, ◌<◌, ◌+◌, ◌^◌, ℕ, refl, ap, arith, ◌∙◌}
use Rattle.std.specs.Prelude.{if◌then◌else◌}
use Rattle.std.proofs.Math.Nat.{pow-suc}
use Rattle.fuse_request.specs.Opcodes.{OpcodeSet}
use Rattle.fuse_guest.specs.Service.{bits_below}

pub no_bits : (test : OpcodeSet) → 0 ≡ bits_below test 0
unfolding bits_below
no_bits test = refl

one : (k : ℕ) → suc k ≡ k + 1
one k = omega arith

pub more_bits : (test : OpcodeSet) (k b bit : ℕ) → b ≡ bits_below test k → bit ≡ (if test k then 2 ^ k else 0) → b + bit ≡ bits_below test (k + 1)
unfolding bits_below
more_bits test k b bit is so = ap (λ n. n + bit) is ∙ ap (λ n. bits_below test k + n) so ∙ ap (bits_below test) (one k)

pub low_bits : (k b bit : ℕ) → b < 2 ^ k → bit ≤ 2 ^ k → b + bit < 2 ^ (k + 1)
low_bits k b bit low less = omega (arith, low, less, pow-suc 2 k, ap (λ n. 2 ^ n) (one k))
