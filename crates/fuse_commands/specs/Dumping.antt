-- The lines of the messages of a stream (defined by this project).
use Rattle.std.specs.Prelude.{◌≡◌, ◌+◌, ℕ, List, [], ◌∷◌, ◌++◌, length, if◌then◌else◌, codes, decimal, Option, Some, None}
use Rattle.std.specs.Io.KnownBytes.{Appends}
use Rattle.fuse_wire.specs.Ids.{id_of, resent}
use Rattle.fuse_request.specs.declared.decoding.Malformed.{Malformed}
use Rattle.fuse_request.specs.declared.decoding.Malformed.TheVariants.{HeaderShort, LenDiffers, ExtTooLong, BodyLength, NoNul, AfterNul, CountDiffers}
use Rattle.fuse_request.specs.declared.header.RawHeader.{RawHeader}
use Rattle.fuse_request.specs.Faults.{first_fault}
use Rattle.fuse_request.specs.Header.{raw_of}
use Rattle.fuse_request.specs.Opcodes.{name_of}
use Rattle.fuse_request.specs.Stream.{cut}
use Rattle.fuse_commands.specs.declared.ending.Ending.{Ending}
use Rattle.fuse_commands.specs.Messages.{stream_fault, look_ending}
use Rattle.fuse_commands.specs.Output.{line}

-- an opcode as its name, or as its number if it is outside the profile
abbrev pub text_by : Option (List ℕ) → ℕ → List ℕ
text_by (Some name) opcode = name
text_by None opcode = codes "OP(" ++ (decimal opcode ++ codes ")")

abbrev pub opcode_text : ℕ → List ℕ
opcode_text opcode = text_by (name_of opcode) opcode

abbrev pub fault_text : Malformed → List ℕ
fault_text HeaderShort = codes "HeaderShort"
fault_text LenDiffers = codes "LenDiffers"
fault_text ExtTooLong = codes "ExtTooLong"
fault_text BodyLength = codes "BodyLength"
fault_text NoNul = codes "NoNul"
fault_text AfterNul = codes "AfterNul"
fault_text CountDiffers = codes "CountDiffers"

-- the fault of a message, at the end of its line
abbrev pub flaw_text : Option Malformed → List ℕ
flaw_text None = []
flaw_text (Some fault) = codes " malformed=" ++ fault_text fault

abbrev pub resend_text : ℕ → List ℕ
resend_text unique = if resent unique then codes "1" else codes "0"

-- the line of the message at this offset, without its line feed
abbrev pub dump_line : ℕ → RawHeader → Option Malformed → List ℕ
dump_line at header fault =
    decimal at ++ (codes " " ++ (opcode_text header.opcode
    ++ (codes " id=" ++ (decimal (id_of header.unique)
    ++ (codes " resend=" ++ (resend_text header.unique
    ++ (codes " node=" ++ (decimal header.nodeid
    ++ (codes " len=" ++ (decimal header.len ++ flaw_text fault))))))))))

-- the lines of messages, the first at this offset
abbrev pub dump_lines : ℕ → List (List ℕ) → List ℕ
dump_lines at [] = []
dump_lines at (m ∷ ms) = line (dump_line at (raw_of m) (first_fault m)) ++ dump_lines (at + length m) ms

-- the lines of the messages of a stream were written, and the dump ends with this
pub record Dumped (old new : Option (List ℕ)) (stream : List ℕ) (ending : Ending) : Type 0 where
  pub written : Appends old new (dump_lines 0 (cut stream).0)
  pub ends : ending ≡ look_ending (stream_fault stream)
