-- The layouts of answer bodies (fuse.h: fuse_out_header, fuse_attr, fuse_entry_out, fuse_attr_out, fuse_open_out,
-- fuse_write_out, fuse_init_out).
use Rattle.std.specs.Prelude.{ℕ, List, [], ◌∷◌}
use Rattle.std.specs.Int.{cast_unsigned, w32}
use Rattle.fuse_wire.specs.Layout.{Part, number, unused, form}
use Rattle.fuse_answer.specs.declared.records.OutHeader.{OutHeader}
use Rattle.fuse_answer.specs.declared.records.Attr.{Attr}
use Rattle.fuse_answer.specs.declared.records.EntryOut.{EntryOut}
use Rattle.fuse_answer.specs.declared.records.AttrOut.{AttrOut}
use Rattle.fuse_answer.specs.declared.records.OpenOut.{OpenOut}
use Rattle.fuse_answer.specs.declared.records.WriteOut.{WriteOut}
use Rattle.fuse_answer.specs.declared.init_out.InitOut.{InitOut}

-- of a header: its length, the bits of its error, and its unique
abbrev pub out_head_parts : ℕ → ℕ → ℕ → List Part
out_head_parts len error unique = number 4 len ∷ number 4 error ∷ number 8 unique ∷ []

-- the error in two's complement
abbrev pub out_header_parts : OutHeader → List Part
out_header_parts h = out_head_parts h.len (cast_unsigned w32 h.error) h.unique

abbrev pub attr_parts : Attr → List Part
attr_parts a =
    number 8 a.ino ∷ number 8 a.size ∷ number 8 a.blocks ∷ number 8 a.atime ∷ number 8 a.mtime ∷ number 8 a.ctime
    ∷ number 4 a.atimensec ∷ number 4 a.mtimensec ∷ number 4 a.ctimensec ∷ number 4 a.mode ∷ number 4 a.nlink
    ∷ number 4 a.uid ∷ number 4 a.gid ∷ number 4 a.rdev ∷ number 4 a.blksize ∷ number 4 a.flags ∷ []

abbrev pub entry_parts : EntryOut → List Part
entry_parts e =
    number 8 e.nodeid ∷ number 8 e.generation ∷ number 8 e.entry_valid ∷ number 8 e.attr_valid
    ∷ number 4 e.entry_valid_nsec ∷ number 4 e.attr_valid_nsec ∷ attr_parts e.attr

abbrev pub attr_out_parts : AttrOut → List Part
attr_out_parts a = number 8 a.attr_valid ∷ number 4 a.attr_valid_nsec ∷ unused 4 ∷ attr_parts a.attr

-- the backing id in two's complement
abbrev pub open_parts : OpenOut → List Part
open_parts o = number 8 o.fh ∷ number 4 o.open_flags ∷ number 4 (cast_unsigned w32 o.backing_id) ∷ []

abbrev pub write_parts : WriteOut → List Part
write_parts w = number 4 w.size ∷ unused 4 ∷ []

abbrev pub init_parts : InitOut → List Part
init_parts i =
    number 4 i.major ∷ number 4 i.minor ∷ number 4 i.max_readahead ∷ number 4 i.flags
    ∷ number 2 i.max_background ∷ number 2 i.congestion_threshold ∷ number 4 i.max_write ∷ number 4 i.time_gran
    ∷ number 2 i.max_pages ∷ number 2 i.map_alignment ∷ number 4 i.flags2 ∷ number 4 i.max_stack_depth ∷ unused 24 ∷ []

-- the bytes of each record
unfoldable pub header_bytes : OutHeader → List ℕ
header_bytes h = form (out_header_parts h)

unfoldable pub attr_bytes : Attr → List ℕ
attr_bytes a = form (attr_parts a)

unfoldable pub entry_bytes : EntryOut → List ℕ
entry_bytes e = form (entry_parts e)

unfoldable pub attr_out_bytes : AttrOut → List ℕ
attr_out_bytes a = form (attr_out_parts a)

unfoldable pub open_bytes : OpenOut → List ℕ
open_bytes o = form (open_parts o)

unfoldable pub write_bytes : WriteOut → List ℕ
write_bytes w = form (write_parts w)

unfoldable pub init_bytes : InitOut → List ℕ
init_bytes i = form (init_parts i)
