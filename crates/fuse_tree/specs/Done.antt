-- The state after a request and its answer (defined by this project): shared by the definitions of the operations.
use Rattle.std.specs.Prelude.{◌+◌, ◌-◌, ◌*◌, ◌/◌, ◌==◌, ℕ, not, if◌then◌else◌, List, [], ◌∷◌, length, map, Option, Some, None}
use Rattle.std.specs.Option.{option_map}
use Rattle.fuse_wire.specs.declared.errno.Errno.{Errno}
use Rattle.fuse_wire.specs.Errnos.{enoent, enotdir}
use Rattle.fuse_wire.specs.declared.moment.Moment.{Moment}
use Rattle.fuse_answer.specs.Said.{Said}
use Rattle.fuse_answer.specs.declared.records.Attr.{Attr}
use Rattle.fuse_answer.specs.declared.records.EntryOut.{EntryOut}
use Rattle.fuse_answer.specs.declared.records.AttrOut.{AttrOut}
use Rattle.fuse_rows.specs.Bounds.{block_bytes, sector_bytes, valid_seconds}
use Rattle.fuse_tree.specs.Checks.{Check, Where, Part, first_error}
use Rattle.fuse_tree.specs.State.{State, Node, links_of, is_dir, is_named, name_tests}

-- the state after a request, and its answer
pub record Done : Type 0 where
  pub state : State
  pub said : Said

-- nothing changes, and the answer is an error
abbrev pub refuse : State → Errno → Done
refuse s errno = record { state = s; said = record { errno = errno.0; body = [] } }

-- a refusal where there is a fault, and else the operation
abbrev pub refuse_for : State → Option Errno → Done → Done
refuse_for s (Some errno) d = refuse s errno
refuse_for s None d = d

-- these checks in this order, and else the operation
abbrev pub refuse_by : State → List Check → Done → Done
refuse_by s checks d = refuse_for s (first_error checks) d

-- the checks on a name in directory n
abbrev pub name_checks : State → List ℕ → Node → List Check
name_checks s name n = Where enotdir (not (is_dir n.mode)) ∷ Part (name_tests name) ∷ Where enoent (not (is_named s n.number)) ∷ []

-- the answer is a body
abbrev pub answer : State → List ℕ → Done
answer s body = record { state = s; said = record { errno = 0; body = body } }

-- ---- the attributes of a node

-- `blocks` of the attributes: those of the written blocks, where these are counted, and else those that the size takes
abbrev pub sectors_for : Option ℕ → ℕ → ℕ
sectors_for None size = (size + (sector_bytes - 1)) / sector_bytes
sectors_for (Some written) size = block_bytes / sector_bytes * written

abbrev pub attr_of : State → Node → Attr
attr_of s n = record {
  ino = n.number;
  size = length n.content;
  blocks = sectors_for (option_map length n.blocks) (length n.content);
  atime = n.atime.secs;
  mtime = n.mtime.secs;
  ctime = n.ctime.secs;
  atimensec = n.atime.nanos;
  mtimensec = n.mtime.nanos;
  ctimensec = n.ctime.nanos;
  mode = n.mode;
  nlink = links_of s n;
  uid = n.uid;
  gid = n.gid;
  rdev = n.rdev;
  blksize = block_bytes;
  flags = 0;
}

-- for how many seconds the attributes of a node of this mode are valid, where its entry is valid for so many: those of a directory for the
-- shorter time, since an answer of READDIRPLUS may bring older ones after a change
abbrev pub attr_valid_of : ℕ → ℕ → ℕ
attr_valid_of valid mode = if is_dir mode then valid_seconds else valid

-- an entry's answer, where the entry is valid for so many seconds
abbrev pub entry_out_of : ℕ → Attr → EntryOut
entry_out_of valid attr =
    record {
      nodeid = attr.ino;
      generation = 0;
      entry_valid = valid;
      attr_valid = attr_valid_of valid attr.mode;
      entry_valid_nsec = 0;
      attr_valid_nsec = 0;
      attr = attr;
    }

-- an attribute answer, where an entry is valid for so many seconds
abbrev pub attr_out_of : ℕ → Attr → AttrOut
attr_out_of valid attr = record { attr_valid = attr_valid_of valid attr.mode; attr_valid_nsec = 0; attr = attr }

-- ---- times

-- where the node is this directory, its times are the moment
abbrev pub touched : ℕ → Moment → Node → Node
touched dir now n = record n { mtime = if n.number == dir then now else n.mtime; ctime = if n.number == dir then now else n.ctime }

-- the state whose entries in this directory change at this moment
abbrev pub touch : ℕ → Moment → State → State
touch dir now s = record s { nodes = map (touched dir now) s.nodes }
