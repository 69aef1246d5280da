-- The header of a message, and the bytes after it (fuse.h: fuse_in_header).
use Rattle.std.specs.Prelude.{◌+◌, ◌-◌, ◌*◌, ℕ, zero, suc, List, [], ◌∷◌, length, take, drop}
use Rattle.fuse_wire.specs.Bounds.{min_message_len}
use Rattle.fuse_wire.specs.Bytes.{number_of}
use Rattle.fuse_wire.specs.Layout.{Part, number, unused, text, bytes, Lays}
use Rattle.fuse_request.specs.declared.header.RawHeader.{RawHeader}

-- its layout: the numbers of a header, and the padding as it was received
abbrev pub head_parts : RawHeader → Part → List Part
head_parts h padding =
    number 4 h.len ∷ number 4 h.opcode ∷ number 8 h.unique ∷ number 8 h.nodeid ∷ number 4 h.uid ∷ number 4 h.gid ∷ number 4 h.pid
    ∷ number 2 h.total_extlen ∷ padding ∷ []

-- the padding as a number too
abbrev pub raw_parts : RawHeader → List Part
raw_parts h = head_parts h (number 2 h.padding)

-- the message begins with this header
abbrev pub IsHeaderOf : RawHeader → List ℕ → Type 0
IsHeaderOf h message = Lays (raw_parts h) (take min_message_len message)

-- the widths of the fields in their order
abbrev pub widths_of : List Part → List ℕ
widths_of [] = []
widths_of (number w n ∷ ps) = w ∷ widths_of ps
widths_of (unused w ∷ ps) = w ∷ widths_of ps
widths_of (text t ∷ ps) = (length t + 1) ∷ widths_of ps
widths_of (bytes xs ∷ ps) = length xs ∷ widths_of ps

abbrev pub blank : RawHeader
blank = record { len = 0; opcode = 0; unique = 0; nodeid = 0; uid = 0; gid = 0; pid = 0; total_extlen = 0; padding = 0 }

abbrev pub header_widths : List ℕ
header_widths = widths_of (raw_parts blank)

-- the field of this number, where fields of these widths follow one another from place k on
abbrev pub field_from : ℕ → ℕ → List ℕ → List ℕ → ℕ
field_from k i [] b = 0
field_from k zero (w ∷ ws) b = number_of w (drop k b)
field_from k (suc i) (w ∷ ws) b = field_from (k + w) i ws b

abbrev pub field : ℕ → List ℕ → ℕ
field i b = field_from 0 i header_widths b

-- the fields of the first 40 bytes
abbrev pub raw_of : List ℕ → RawHeader
raw_of b = record {
  len = field 0 b;
  opcode = field 1 b;
  unique = field 2 b;
  nodeid = field 3 b;
  uid = field 4 b;
  gid = field 5 b;
  pid = field 6 b;
  total_extlen = field 7 b;
  padding = field 8 b;
}

-- how many bytes the header says that the extensions have
abbrev pub ext_len : List ℕ → ℕ
ext_len b = 8 * (raw_of b).total_extlen

-- the bytes between the header and the extensions
abbrev pub body_of : List ℕ → List ℕ
body_of b = take (length b - min_message_len - ext_len b) (drop min_message_len b)
