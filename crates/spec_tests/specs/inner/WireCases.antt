-- Cases of numbers and ids (fuse.h).
use Rattle.std.specs.Prelude.{◌≡◌, true, false, codes}
use Rattle.fuse_wire.specs.Bytes.{le, number_of}
use Rattle.spec_tests.specs.inner.Hex.{hex}
use Rattle.fuse_wire.specs.Ids.{id_of, resent}

-- the lowest byte is first; bits above the width are dropped
abbrev pub LowestFirst : Type 0
LowestFirst =
    (le 4 0x12345678 ≡ hex (codes "78563412"))
    × (le 2 0x12345678 ≡ hex (codes "7856"))
    × (le 8 4 ≡ hex (codes "0400000000000000"))
    × (le 8 0x8000000000000004 ≡ hex (codes "0400000000000080"))
    × (le 4 135169 ≡ hex (codes "01100200"))

-- the same numbers read
abbrev pub ReadBack : Type 0
ReadBack =
    (number_of 4 (hex (codes "78563412")) ≡ 0x12345678)
    × (number_of 8 (hex (codes "0400000000000080")) ≡ 0x8000000000000004)
    × (number_of 2 (hex (codes "785634")) ≡ 0x5678)

-- a resend has the id of the request that it repeats
abbrev pub SameId : Type 0
SameId =
    (id_of 0x8000000000000006 ≡ 6) × (id_of 6 ≡ 6) × (id_of 0x8000000000000000 ≡ 0)
    × (resent 0x8000000000000006 ≡ true) × (resent 6 ≡ false) × (resent 0x7fffffffffffffff ≡ false)
