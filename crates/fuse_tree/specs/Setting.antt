-- SETATTR (defined by this project): the bits of `valid` say which attributes it sets.
use Rattle.std.specs.Prelude.{◌+◌, ◌*◌, ◌/◌, ◌%◌, ◌==◌, ◌||◌, ℕ, Bool, not, List, nat_lt, if◌then◌else◌, Option, Some, None}
use Rattle.std.specs.Int.RustNames.{bit_and}
use Rattle.fuse_wire.specs.Flags.{valid_bits}
use Rattle.fuse_wire.specs.declared.errno.Errno.{Errno}
use Rattle.fuse_wire.specs.Errnos.{eisdir, einval, efbig}
use Rattle.fuse_wire.specs.declared.moment.Moment.{Moment}
use Rattle.fuse_wire.specs.declared.setattr_valid.SetattrValid.{SetattrValid}
use Rattle.fuse_wire.specs.Bits.{fattr_mode, fattr_uid, fattr_gid, fattr_size, fattr_atime, fattr_mtime, fattr_atime_now, fattr_mtime_now, fattr_ctime}
use Rattle.fuse_request.specs.declared.request.SetattrIn.{SetattrIn}
use Rattle.fuse_answer.specs.Bodies.{attr_out_bytes}
use Rattle.fuse_tree.specs.Modes.{type_unit}
use Rattle.fuse_tree.specs.State.{State, Node, terms_of, is_dir, is_file}
use Rattle.std.specs.Option.{option_map}
use Rattle.fuse_rows.specs.Blocks.{below_size}
use Rattle.fuse_rows.specs.Rows.{sized}
use Rattle.fuse_tree.specs.Keeping.{agreement_of, valid_of}
use Rattle.fuse_tree.specs.Done.{Done, refuse_for, answer, attr_of, attr_out_of}
use Rattle.fuse_tree.specs.Changing.{with_changed}

-- the bit is set; bits without names are ignored
abbrev pub has_valid_bit : SetattrIn → SetattrValid → Bool
has_valid_bit set bit = bit_and (bit_and set.valid valid_bits) bit.0 == bit.0

-- one of the attributes is set, CTIME apart
abbrev pub sets_any : SetattrIn → Bool
sets_any set =
    has_valid_bit set fattr_mode || has_valid_bit set fattr_uid || has_valid_bit set fattr_gid || has_valid_bit set fattr_size || has_valid_bit set fattr_atime || has_valid_bit set fattr_mtime || has_valid_bit set fattr_atime_now
    || has_valid_bit set fattr_mtime_now

-- ---- each attribute after it, from what it was

-- the permissions are replaced, and the type stays
abbrev pub mode_after : SetattrIn → ℕ → ℕ
mode_after set mode = if has_valid_bit set fattr_mode then mode / type_unit * type_unit + set.mode % type_unit else mode

abbrev pub uid_after : SetattrIn → ℕ → ℕ
uid_after set uid = if has_valid_bit set fattr_uid then set.uid else uid

abbrev pub gid_after : SetattrIn → ℕ → ℕ
gid_after set gid = if has_valid_bit set fattr_gid then set.gid else gid

abbrev pub atime_after : SetattrIn → Moment → Moment → Moment
atime_after set now atime =
    if has_valid_bit set fattr_atime_now then now
    else if has_valid_bit set fattr_atime then record { secs = set.atime; nanos = set.atimensec }
    else atime

-- a change of the size changes this time
abbrev pub mtime_after : SetattrIn → Moment → Moment → Moment
mtime_after set now mtime =
    if has_valid_bit set fattr_mtime_now then now
    else if has_valid_bit set fattr_mtime then record { secs = set.mtime; nanos = set.mtimensec }
    else if has_valid_bit set fattr_size then now
    else mtime

abbrev pub ctime_after : SetattrIn → Moment → Moment → Moment
ctime_after set now ctime =
    if has_valid_bit set fattr_ctime then record { secs = set.ctime; nanos = set.ctimensec }
    else if sets_any set then now
    else ctime

abbrev pub set_attributes : SetattrIn → Moment → Node → Node
set_attributes set now n = record n {
  mode = mode_after set n.mode;
  uid = uid_after set n.uid;
  gid = gid_after set n.gid;
  atime = atime_after set now n.atime;
  mtime = mtime_after set now n.mtime;
  ctime = ctime_after set now n.ctime;
  content = if has_valid_bit set fattr_size then sized set.size n.content else n.content;
  blocks = if has_valid_bit set fattr_size then option_map (below_size set.size) n.blocks else n.blocks;
}

-- ---- SETATTR

-- the fault of this size for a node of this mode, where files have a limit
abbrev pub size_fault : ℕ → ℕ → ℕ → Option Errno
size_fault limit mode size =
    if is_dir mode then Some eisdir
    else if not (is_file mode) then Some einval
    else if nat_lt limit size then Some efbig
    else None

abbrev pub set_fault : ℕ → SetattrIn → ℕ → Option Errno
set_fault limit set mode = if has_valid_bit set fattr_size then size_fault limit mode set.size else None

abbrev pub with_set : State → SetattrIn → Moment → ℕ → State
with_set s set now number = with_changed number (set_attributes set now) s

abbrev pub set_answer : State → SetattrIn → Moment → Node → List ℕ
set_answer s set now n = attr_out_bytes (attr_out_of (valid_of (agreement_of s)) (attr_of (with_set s set now n.number) (set_attributes set now n)))

abbrev pub setattr : State → SetattrIn → Moment → Node → Done
setattr s set now n = refuse_for s (set_fault (terms_of s).file_limit set n.mode) (answer (with_set s set now n.number) (set_answer s set now n))
