-- Which opcodes a guest serves and sees, and what was pledged to the kernel (defined by this project: the guest protocol, 'READY').
use Rattle.std.specs.Prelude.{◌+◌, ◌^◌, ◌==◌, ◌&&◌, ◌||◌, ℕ, zero, suc, Bool, not, if◌then◌else◌, Option}
use Rattle.std.specs.Int.{bit_at}
use Rattle.std.specs.List.{find, range_with_len}
use Rattle.fuse_wire.specs.Opcodes.{fuse_init, fuse_destroy, silent}
use Rattle.fuse_request.specs.FurtherBodies.{is_further}
use Rattle.fuse_request.specs.Opcodes.{OpcodeSet, Service, in_profile}
use Rattle.guest_frames.specs.declared.ready.Ready.{Ready}

-- sets of opcodes in frames: bit k for opcode k
abbrev pub is_in_bits : ℕ → ℕ → Bool
is_in_bits set k = bit_at set k == 1

abbrev pub opcode_count : ℕ
opcode_count = 64

-- the opcodes below k of which a test is true
unfoldable pub bits_below : OpcodeSet → ℕ → ℕ
bits_below test zero = 0
bits_below test (suc k) = bits_below test k + (if test k then 2 ^ k else 0)

-- the opcodes that the engine can hand on: it reads their bodies, and neither takes them in silence nor answers them itself
abbrev pub is_handed : OpcodeSet
is_handed opcode = (in_profile opcode || is_further opcode) && not (silent opcode || opcode == fuse_destroy)

-- those of READY among them, and INIT always
abbrev pub is_served_by : Ready → OpcodeSet
is_served_by r opcode = is_handed opcode && (opcode == fuse_init || is_in_bits r.opcodes opcode)

-- the requests that change nothing: those that the guest sees, and those that it doesn't serve, which are answered ENOSYS
-- without a record
abbrev pub is_seen_by : Ready → OpcodeSet
is_seen_by r opcode = not (opcode == fuse_init || opcode == fuse_destroy) && (not (is_served_by r opcode) || is_in_bits r.seen opcode)

abbrev pub service_of : Ready → Service
service_of r = record { serves = is_served_by r; sees = is_seen_by r }

-- what HELLO says that can be handed on; and what is pledged from INIT on: all that was served then
abbrev pub handed_bits : ℕ
handed_bits = bits_below is_handed opcode_count

abbrev pub served_bits : Ready → ℕ
served_bits r = bits_below (is_served_by r) opcode_count

-- an opcode that is pledged, and that this guest doesn't serve
abbrev pub is_broken : ℕ → Ready → OpcodeSet
is_broken pledged r opcode = is_in_bits pledged opcode && not (is_served_by r opcode)

-- the first one: READY is refused
abbrev pub first_broken : ℕ → Ready → Option ℕ
first_broken pledged r = find (is_broken pledged r) (range_with_len 0 opcode_count)
