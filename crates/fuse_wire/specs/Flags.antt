-- Numbers whose bits have names (fuse.h, and the flags of open).
use Rattle.std.specs.Prelude.{◌==◌, ℕ, if◌then◌else◌, Option, Some, None}
use Rattle.std.specs.Int.RustNames.{bit_and}
use Rattle.fuse_wire.specs.declared.access_mode.AccessMode.{AccessMode}
use Rattle.fuse_wire.specs.declared.access_mode.AccessMode.TheVariants.{ReadOnly, WriteOnly, ReadWrite}
use Rattle.fuse_wire.specs.Bits.{o_accmode, o_rdonly, o_wronly, o_rdwr}

-- by the value of the two bits of the mask
abbrev pub access_by : ℕ → Option AccessMode
access_by bits =
    if bits == o_rdonly then Some ReadOnly
    else if bits == o_wronly then Some WriteOnly
    else if bits == o_rdwr then Some ReadWrite
    else None

abbrev pub access_of : ℕ → Option AccessMode
access_of flags = access_by (bit_and flags o_accmode)

-- the bits of SETATTR's valid that have names: bits 0 to 11
abbrev pub valid_bits : ℕ
valid_bits = 0xfff
