-- The unique of a request and its bit 63, which a resend sets: FUSE_UNIQUE_RESEND (fuse.h).
use Rattle.std.specs.Prelude.{ℕ, Bool, ◌%◌, nat_le}
use Rattle.fuse_wire.specs.Bits.{fuse_unique_resend}

-- the unique without bit 63
abbrev pub id_of : ℕ → ℕ
id_of unique = unique % fuse_unique_resend

-- bit 63 of a 64-bit unique is set
abbrev pub resent : ℕ → Bool
resent unique = nat_le fuse_unique_resend unique
