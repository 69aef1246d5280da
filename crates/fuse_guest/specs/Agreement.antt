-- What INIT agrees on for a guest (defined by this project: the guest protocol, 'What the engine does by itself'; the bits are fuse.h's).
use Rattle.std.specs.Prelude.{◌==◌, ℕ, min, nat_lt, if◌then◌else◌, List, [], ◌∷◌, bit_and, bit_or}
use Rattle.fuse_wire.specs.Bits.{bit, fuse_init_ext, fuse_has_resend}
use Rattle.fuse_wire.specs.Errnos.{eproto}
use Rattle.fuse_request.specs.declared.request.InitIn.{InitIn}
use Rattle.fuse_init.specs.declared.negotiation.Negotiated.{Negotiated}
use Rattle.fuse_init.specs.declared.negotiation.Negotiated.TheVariants.{Agreed, Again, Refused}
use Rattle.fuse_init.specs.Agree.{offered, is_older, again, agreed_out}
use Rattle.fuse_init.specs.Numbers.{kernel_version, kernel_minor_version, write_limit}
use Rattle.guest_frames.specs.declared.ready.Ready.{Ready}

abbrev pub bits_in : List ℕ → ℕ
bits_in [] = 0
bits_in (k ∷ ks) = bit_or (bit k) (bits_in ks)

-- ASYNC_READ, ATOMIC_O_TRUNC, EXPORT_SUPPORT, BIG_WRITES, DONT_MASK; AUTO_INVAL_DATA, DO_READDIRPLUS, READDIRPLUS_AUTO, ASYNC_DIO,
-- WRITEBACK_CACHE, NO_OPEN_SUPPORT, PARALLEL_DIROPS, HANDLE_KILLPRIV, POSIX_ACL; CACHE_SYMLINKS, NO_OPENDIR_SUPPORT, HANDLE_KILLPRIV_V2,
-- INIT_EXT; NO_EXPORT_SUPPORT, HAS_RESEND
abbrev pub allowed_flags : ℕ
allowed_flags = bits_in (0 ∷ 3 ∷ 4 ∷ 5 ∷ 6 ∷ 12 ∷ 13 ∷ 14 ∷ 15 ∷ 16 ∷ 17 ∷ 18 ∷ 19 ∷ 20 ∷ 23 ∷ 24 ∷ 28 ∷ 30 ∷ 38 ∷ 39 ∷ [])

-- what READY wants, and INIT_EXT and HAS_RESEND, where it is offered and allowed
abbrev pub guest_flags : Ready → InitIn → ℕ
guest_flags r i = bit_and (bit_and (offered i.flags i.flags2) (bit_or r.wanted (bit_or fuse_init_ext.0 fuse_has_resend.0))) allowed_flags

-- READY's number, where it isn't 0, but at most this
abbrev pub at_most_own : ℕ → ℕ → ℕ
at_most_own own wanted = if wanted == 0 then own else min wanted own

abbrev pub agree_for : Ready → InitIn → Negotiated
agree_for r i =
    if is_older i then Refused eproto
    else if nat_lt kernel_version i.major then Again again
    else Agreed
    (record (agreed_out (at_most_own i.max_readahead r.max_readahead) (guest_flags r i)) { max_write = at_most_own write_limit r.max_write })
    (record {
      minor = min i.minor kernel_minor_version;
      max_readahead = at_most_own i.max_readahead r.max_readahead;
      flags = record { 0 = guest_flags r i };
    })
