-- The fault of bytes that spell no request: the first one in the order of Malformed (defined by this project).
use Rattle.std.specs.Prelude.{◌-◌, ◌==◌, ℕ, not, nat_lt, if◌then◌else◌, List, length, Option, Some}
use Rattle.fuse_request.specs.declared.decoding.Malformed.{Malformed}
use Rattle.fuse_request.specs.declared.decoding.Malformed.TheVariants.{HeaderShort, LenDiffers, ExtTooLong}
use Rattle.fuse_wire.specs.Bounds.{min_message_len}
use Rattle.fuse_request.specs.Header.{raw_of, ext_len, body_of}
use Rattle.fuse_request.specs.Opcodes.{profile, find, fault_by}

-- nothing is wrong with the body of an opcode outside the profile
abbrev pub body_fault : ℕ → List ℕ → Option Malformed
body_fault opcode b = fault_by (find opcode profile) b

abbrev pub first_fault : List ℕ → Option Malformed
first_fault b =
    if nat_lt (length b) min_message_len then Some HeaderShort
    else if not ((raw_of b).len == length b) then Some LenDiffers
    else if nat_lt (length b - min_message_len) (ext_len b) then Some ExtTooLong
    else body_fault (raw_of b).opcode (body_of b)
