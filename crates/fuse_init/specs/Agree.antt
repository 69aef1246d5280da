-- The negotiation of INIT (fuse.h's rule for versions; the numbers that are chosen are own).
use Rattle.std.specs.Prelude.{◌*◌, ◌/◌, ◌%◌, ◌^◌, ◌==◌, ◌&&◌, ◌||◌, ℕ, min, Bool, nat_lt, if◌then◌else◌, Option, Some, None}
use Rattle.std.specs.Int.RustNames.{bit_and, bit_or}
use Rattle.fuse_wire.specs.Bits.{fuse_init_ext}
use Rattle.fuse_wire.specs.Errnos.{eproto}
use Rattle.fuse_request.specs.declared.request.InitIn.{InitIn}
use Rattle.fuse_answer.specs.declared.init_out.InitOut.{InitOut}
use Rattle.fuse_init.specs.declared.negotiation.Negotiated.{Negotiated}
use Rattle.fuse_init.specs.declared.negotiation.Negotiated.TheVariants.{Agreed, Again, Refused}
use Rattle.fuse_init.specs.declared.profile.Profile.{Profile}
use Rattle.fuse_init.specs.Profile.{terms}
use Rattle.fuse_init.specs.Numbers.{kernel_version, kernel_minor_version, oldest_minor, background_limit, congestion_limit, write_limit, time_step}

-- the set that the kernel offers: flags, with flags2 as bits 32 to 63 where INIT_EXT is set and flags2 is there
abbrev pub offered : ℕ → Option ℕ → ℕ
offered flags None = flags
offered flags (Some flags2) = if bit_and flags fuse_init_ext.0 == fuse_init_ext.0 then bit_or flags (flags2 * 2 ^ 32) else flags

abbrev pub agreed : Profile → InitIn → ℕ
agreed p i = bit_and (offered i.flags i.flags2) (terms p).wanted

-- the kernel's version is too old
abbrev pub is_older : InitIn → Bool
is_older i = nat_lt i.major kernel_version || (i.major == kernel_version && nat_lt i.minor oldest_minor)

-- asks for INIT once more, of this version
abbrev pub again : InitOut
again = record {
  major = kernel_version;
  minor = kernel_minor_version;
  max_readahead = 0;
  flags = 0;
  max_background = 0;
  congestion_threshold = 0;
  max_write = 0;
  time_gran = 0;
  max_pages = 0;
  map_alignment = 0;
  flags2 = 0;
  max_stack_depth = 0;
}

abbrev pub agreed_out : ℕ → ℕ → InitOut
agreed_out max_readahead set = record {
  major = kernel_version;
  minor = kernel_minor_version;
  max_readahead = max_readahead;
  flags = set % 2 ^ 32;
  max_background = background_limit;
  congestion_threshold = congestion_limit;
  max_write = write_limit;
  time_gran = time_step;
  max_pages = 0;
  map_alignment = 0;
  flags2 = set / 2 ^ 32;
  max_stack_depth = 0;
}

abbrev pub agree : Profile → InitIn → Negotiated
agree p i =
    if is_older i then Refused eproto
    else if nat_lt kernel_version i.major then Again again
    else Agreed (agreed_out i.max_readahead (agreed p i)) (record {
      minor = min i.minor kernel_minor_version;
      max_readahead = i.max_readahead;
      flags = record { 0 = agreed p i };
    })
