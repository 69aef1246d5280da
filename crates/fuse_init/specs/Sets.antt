-- The flags that are agreed on, bit by bit (fuse.h: bit k of flags, and from 32 on bit k - 32 of flags2).
use Rattle.std.specs.Prelude.{◌≡◌, ◌<◌, ◌-◌, ◌^◌, ◌==◌, ◌↔◌, ◌⊎◌, ℕ, nat_lt, if◌then◌else◌, Option, Some, None}
use Rattle.std.specs.Int.{bit_at}
use Rattle.fuse_request.specs.declared.request.InitIn.{InitIn}
use Rattle.fuse_answer.specs.declared.init_out.InitOut.{InitOut}
use Rattle.fuse_init.specs.declared.profile.Profile.{Profile}
use Rattle.fuse_init.specs.declared.profile.Profile.TheVariants.{Plain, Everyday}
use Rattle.fuse_init.specs.Agree.{agreed, agreed_out}

-- ASYNC_READ, BIG_WRITES, INIT_EXT and HAS_RESEND; and DO_READDIRPLUS, READDIRPLUS_AUTO, PARALLEL_DIROPS and CACHE_SYMLINKS
abbrev pub IsTaken : Profile → ℕ → Type 0
IsTaken Plain k = (k ≡ 0) ⊎ ((k ≡ 5) ⊎ ((k ≡ 30) ⊎ (k ≡ 39)))
IsTaken Everyday k = (k ≡ 0) ⊎ ((k ≡ 5) ⊎ ((k ≡ 13) ⊎ ((k ≡ 14) ⊎ ((k ≡ 18) ⊎ ((k ≡ 23) ⊎ ((k ≡ 30) ⊎ (k ≡ 39)))))))

-- flags2 counts where it is there and flags have bit 30, INIT_EXT
abbrev pub high_bit : ℕ → Option ℕ → ℕ → ℕ
high_bit flags None k = 0
high_bit flags (Some flags2) k = if bit_at flags 30 == 1 then bit_at flags2 k else 0

abbrev pub offered_bit : InitIn → ℕ → ℕ
offered_bit i k = if nat_lt k 32 then bit_at i.flags k else high_bit i.flags i.flags2 (k - 32)

abbrev pub answered_bit : InitOut → ℕ → ℕ
answered_bit o k = if nat_lt k 32 then bit_at o.flags k else bit_at o.flags2 (k - 32)

-- in the settings and in the answer a flag is agreed on exactly where it is one of these and was offered
pub record AgreedBits : Type 0 where
  pub settings : (p : Profile) (i : InitIn) (k : ℕ) → i.flags < 2 ^ 32 → (bit_at (agreed p i) k ≡ 1) ↔ (IsTaken p k × (offered_bit i k ≡ 1))
  pub answer : (p : Profile) (i : InitIn) (k : ℕ) → i.flags < 2 ^ 32
      → (answered_bit (agreed_out i.max_readahead (agreed p i)) k ≡ 1) ↔ (IsTaken p k × (offered_bit i k ≡ 1))
