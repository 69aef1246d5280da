-- Cases of INIT (fuse.h): init-agreed, init-short, init-newer-major, init-too-old, newer-minor and ext-in-16; and of the everyday profile
-- init-kernel, init-offered and older-kernel.
use Rattle.std.specs.Prelude.{◌≡◌, ℕ, true, false, [], ◌++◌, Option, Some, None, codes, replicate}
use Rattle.spec_tests.specs.inner.Hex.{hex}
use Rattle.fuse_wire.specs.Layout.{form}
use Rattle.fuse_wire.specs.Errnos.{eproto}
use Rattle.fuse_request.specs.declared.request.InitIn.{InitIn}
use Rattle.fuse_request.specs.Act.{Init}
use Rattle.fuse_request.specs.Spelling.{parts}
use Rattle.fuse_answer.specs.declared.init_out.InitOut.{InitOut}
use Rattle.fuse_answer.specs.Bodies.{init_bytes}
use Rattle.fuse_answer.specs.Wire.{wire}
use Rattle.fuse_init.specs.declared.negotiation.Negotiated.TheVariants.{Agreed, Again, Refused}
use Rattle.fuse_init.specs.declared.settings.Settings.{Settings}
use Rattle.fuse_init.specs.declared.profile.Profile.TheVariants.{Plain, Everyday}
use Rattle.fuse_init.specs.Profile.{terms}
use Rattle.fuse_init.specs.Agree.{agree}

abbrev pub offer : ℕ → ℕ → ℕ → ℕ → Option ℕ → InitIn
offer major minor max_readahead flags flags2 = record { major = major; minor = minor; max_readahead = max_readahead; flags = flags; flags2 = flags2 }

abbrev pub settled : ℕ → ℕ → ℕ → Settings
settled minor max_readahead flags = record { minor = minor; max_readahead = max_readahead; flags = record { 0 = flags } }

-- version 7.40, and the other fields 0
abbrev pub bare : InitOut
bare = record {
  major = 7;
  minor = 40;
  max_readahead = 0;
  flags = 0;
  max_background = 0;
  congestion_threshold = 0;
  max_write = 0;
  time_gran = 0;
  max_pages = 0;
  map_alignment = 0;
  flags2 = 0;
  max_stack_depth = 0;
}

-- with these of an agreement
abbrev pub out : ℕ → ℕ → ℕ → InitOut
out max_readahead flags flags2 = record bare {
  max_readahead = max_readahead;
  flags = flags;
  max_background = 12;
  congestion_threshold = 9;
  max_write = 131072;
  time_gran = 1;
  flags2 = flags2;
}

-- bits 0, 5, 13, 30 and 39 offered, bits 0, 5, 30 and 39 agreed
abbrev pub InitAgreed : Type 0
InitAgreed =
    (form (parts (Init (offer 7 40 0x20000 0x40002021 (Some 0x80)))) ≡ hex (codes "07000000 28000000 00000200 21200040 80000000") ++ replicate 44 0)
    × (agree Plain (offer 7 40 0x20000 0x40002021 (Some 0x80)) ≡ Agreed (out 0x20000 0x40000021 0x80) (settled 40 0x20000 0x8040000021))
    × (wire 0 (init_bytes (out 0x20000 0x40000021 0x80)) 2
    ≡ hex (codes "50000000 00000000 0200000000000000 07000000 28000000 00000200 21000040 0c000900 00000200 01000000 00000000 80000000 00000000")
    ++ replicate 24 0)

-- the body of 16 bytes
abbrev pub InitShort : Type 0
InitShort =
    (form (parts (Init (offer 7 31 0x20000 0x21 None))) ≡ hex (codes "07000000 1f000000 00000200 21000000"))
    × (agree Plain (offer 7 31 0x20000 0x21 None) ≡ Agreed (out 0x20000 0x21 0) (settled 31 0x20000 0x21))
    × (wire 0 (init_bytes (out 0x20000 0x21 0)) 2
    ≡ hex (codes "50000000 00000000 0200000000000000 07000000 28000000 00000200 21000000 0c000900 00000200 01000000 00000000 00000000 00000000")
    ++ replicate 24 0)

-- whatever else it offers
abbrev pub InitNewerMajor : Type 0
InitNewerMajor =
    ((max_readahead flags : ℕ) (flags2 : Option ℕ) → agree Plain (offer 8 0 max_readahead flags flags2) ≡ Again bare)
    × (init_bytes bare ≡ hex (codes "07000000 28000000") ++ replicate 56 0)

-- an older minor or major; 23 is the first minor that is served
abbrev pub InitTooOld : Type 0
InitTooOld =
    ((max_readahead flags : ℕ) (flags2 : Option ℕ) → agree Plain (offer 7 22 max_readahead flags flags2) ≡ Refused eproto)
    × ((max_readahead flags : ℕ) (flags2 : Option ℕ) → agree Plain (offer 6 40 max_readahead flags flags2) ≡ Refused eproto)
    × ((max_readahead : ℕ) → agree Plain (offer 7 23 max_readahead 0x21 None) ≡ Agreed (out max_readahead 0x21 0) (settled 23 max_readahead 0x21))
    × (wire eproto.0 [] 2 ≡ hex (codes "10000000 b9ffffff 0200000000000000"))

-- bit 39 is in flags2, and INIT_EXT is not offered
abbrev pub NewerMinor : Type 0
NewerMinor =
    (agree Plain (offer 7 41 4096 0x21 (Some 0x80)) ≡ Agreed (out 4096 0x21 0) (settled 40 4096 0x21))
    × (init_bytes (out 4096 0x21 0)
    ≡ hex (codes "07000000 28000000 00100000 21000000 0c000900 00000200 01000000 00000000 00000000 00000000") ++ replicate 24 0)

-- INIT_EXT alone, in 16 bytes
abbrev pub ExtIn16 : Type 0
ExtIn16 = (max_readahead : ℕ) → agree Plain (offer 7 31 max_readahead 0x40000000 None) ≡ Agreed (out max_readahead 0x40000000 0) (settled 31 max_readahead 0x40000000)

-- what Linux 6.18 offers
abbrev pub kernel_offer : InitIn
kernel_offer = offer 7 45 0x20000 0x73fffffb (Some 0x5fd)

-- to each profile its flags; bits 0, 5, 13, 14, 18, 23, 30 and 39 are everyday's
abbrev pub InitKernel : Type 0
InitKernel =
    (form (parts (Init kernel_offer)) ≡ hex (codes "07000000 2d000000 00000200 fbffff73 fd050000") ++ replicate 44 0)
    × (agree Everyday kernel_offer ≡ Agreed (out 0x20000 0x40846021 0x80) (settled 40 0x20000 0x8040846021))
    × (wire 0 (init_bytes (out 0x20000 0x40846021 0x80)) 2
    ≡ hex (codes "50000000 00000000 0200000000000000 07000000 28000000 00000200 21608440 0c000900 00000200 01000000 00000000 80000000 00000000")
    ++ replicate 24 0)
    × (agree Plain kernel_offer ≡ Agreed (out 0x20000 0x40000021 0x80) (settled 40 0x20000 0x8040000021))

-- bits 0, 5, 13, 30 and 39 offered and agreed
abbrev pub InitOffered : Type 0
InitOffered = agree Everyday (offer 7 40 0x20000 0x40002021 (Some 0x80)) ≡ Agreed (out 0x20000 0x40002021 0x80) (settled 40 0x20000 0x8040002021)

-- the settings keep the minor up to 40, and what the kernel keeps doesn't depend on it
abbrev pub OlderKernel : Type 0
OlderKernel =
    (agree Everyday (offer 7 44 0x20000 0x40002021 (Some 0x80)) ≡ Agreed (out 0x20000 0x40002021 0x80) (settled 40 0x20000 0x8040002021))
    × (agree Everyday (offer 7 43 0x20000 0x40002021 (Some 0x80)) ≡ Agreed (out 0x20000 0x40002021 0x80) (settled 40 0x20000 0x8040002021))
    × (agree Everyday (offer 7 23 0x20000 0x2021 None) ≡ Agreed (out 0x20000 0x2021 0) (settled 23 0x20000 0x2021))
    × ((terms Everyday).keeps ≡ true)
    × ((terms Plain).keeps ≡ false)
