-- How long answers are, and which of them are read (fuse.h).
use Rattle.std.specs.Prelude.{◌≡◌, ◌<◌, ◌≤◌, ◌+◌, ◌^◌, ℕ, List, ◌++◌, length}
use Rattle.std.specs.List.{AllByRecursion, sum_by}
use Rattle.fuse_wire.specs.Bytes.{le}
use Rattle.fuse_wire.specs.Bounds.{max_body_len}
use Rattle.fuse_answer.specs.declared.init_out.InitOut.{InitOut}
use Rattle.fuse_answer.specs.Sizes.{init_out_size, attr_out_size, entry_out_size, open_out_size, write_out_size}
use Rattle.fuse_answer.specs.declared.records.AttrOut.{AttrOut}
use Rattle.fuse_answer.specs.declared.records.EntryOut.{EntryOut}
use Rattle.fuse_answer.specs.declared.records.OpenOut.{OpenOut}
use Rattle.fuse_answer.specs.declared.records.WriteOut.{WriteOut}
use Rattle.fuse_answer.specs.Bodies.{entry_bytes, attr_out_bytes, open_bytes, write_bytes, init_bytes}
use Rattle.fuse_answer.specs.Entries.{DirectoryEntry, IsNamed, packed_len, entries_bytes}
use Rattle.fuse_answer.specs.declared.further.CreateOut.{CreateOut}
use Rattle.fuse_answer.specs.declared.further.LseekOut.{LseekOut}
use Rattle.fuse_answer.specs.declared.further.StatfsOut.{StatfsOut}
use Rattle.fuse_answer.specs.declared.further.XattrOut.{XattrOut}
use Rattle.fuse_answer.specs.FurtherAnswers.{create_bytes, statfs_bytes, xattr_bytes, lseek_bytes}
use Rattle.fuse_answer.specs.PlusEntries.{PlusEntry, plus_bytes}
use Rattle.fuse_answer.specs.Replies.{AnEntry, ACreate, Attributes, AnOpen, AWrite, AStatfs, AnXattr, AnLseek, AnInit, Data, Directory, DirectoryPlus}
use Rattle.fuse_answer.specs.Replies.{kind_of, most_of, IsBody, IsRead, IsOfKind, IsAtMost}
use Rattle.fuse_answer.specs.Said.{Said, FitsAnswer}
use Rattle.fuse_answer.specs.Wire.{wire}

-- the bytes begin with their own number, in 4 bytes
pub record BeginsWithLen (b : List ℕ) : Type 0 where
  pub rest : List ℕ
  pub parts : b ≡ le 4 (length b) ++ rest
  pub four : length b ≡ 4 + length rest
  pub fits : length b < 2 ^ 32

-- so does every answer whose body is as short as bodies are
abbrev pub LenStandsFirst : Type 0
LenStandsFirst = (errno : ℕ) (body : List ℕ) (unique : ℕ) → length body ≤ max_body_len → BeginsWithLen (wire errno body unique)

-- the records have the sizes of fuse.h, and entries of a directory take the sum of their lengths
abbrev pub RecordSizes : Type 0
RecordSizes =
    ((e : EntryOut) → length (entry_bytes e) ≡ entry_out_size)
    × ((a : AttrOut) → length (attr_out_bytes a) ≡ attr_out_size)
    × ((o : OpenOut) → length (open_bytes o) ≡ open_out_size)
    × ((w : WriteOut) → length (write_bytes w) ≡ write_out_size)
    × ((i : InitOut) → length (init_bytes i) ≡ init_out_size)
    × ((es : List DirectoryEntry) → length (entries_bytes es) ≡ sum_by packed_len es)

-- an answer that fits, is of the kind that is asked and not too long is read; each record is a body of its kind, and so are named
-- entries, and any bytes as data
pub record ReadBack : Type 0 where
  pub said : (opcode size : ℕ) (a : Said) → FitsAnswer a → IsOfKind (kind_of opcode size) a → IsAtMost (most_of opcode size) (length a.body)
      → IsRead opcode size a
  pub entry : (e : EntryOut) → IsBody AnEntry (entry_bytes e)
  pub create : (c : CreateOut) → IsBody ACreate (create_bytes c)
  pub attributes : (a : AttrOut) → IsBody Attributes (attr_out_bytes a)
  pub opened : (o : OpenOut) → IsBody AnOpen (open_bytes o)
  pub written : (w : WriteOut) → IsBody AWrite (write_bytes w)
  pub statfs : (s : StatfsOut) → IsBody AStatfs (statfs_bytes s)
  pub xattr : (x : XattrOut) → IsBody AnXattr (xattr_bytes x)
  pub lseek : (l : LseekOut) → IsBody AnLseek (lseek_bytes l)
  pub init : (i : InitOut) → IsBody AnInit (init_bytes i)
  pub data_bytes : (b : List ℕ) → IsBody Data b
  pub listing : (es : List DirectoryEntry) → AllByRecursion IsNamed es → IsBody Directory (entries_bytes es)
  pub listing_plus : (es : List PlusEntry) → AllByRecursion (λ e. IsNamed e.entry) es → IsBody DirectoryPlus (plus_bytes es)
