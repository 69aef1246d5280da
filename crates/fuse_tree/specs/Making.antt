-- MKNOD and MKDIR (defined by this project): a new node and its entry.
use Rattle.std.specs.Prelude.{◌+◌, ◌/◌, ◌%◌, ◌==◌, ◌&&◌, ◌||◌, ℕ, Bool, not, nat_le, if◌then◌else◌, List, [], ◌∷◌, ◌++◌, length, is_some}
use Rattle.fuse_wire.specs.Errnos.{enoent, eexist, enotdir, einval, enospc}
use Rattle.fuse_wire.specs.declared.moment.Moment.{Moment}
use Rattle.fuse_request.specs.declared.request.InHeader.{InHeader}
use Rattle.fuse_answer.specs.Bodies.{entry_bytes}
use Rattle.fuse_init.specs.Profile.{Terms}
use Rattle.fuse_rows.specs.Bounds.{number_end}
use Rattle.fuse_tree.specs.Modes.{s_ifblk, s_ifchr, s_ifdir, s_ififo, s_ifreg, s_ifsock, s_isgid, type_unit}
use Rattle.fuse_rows.specs.declared.origin.Origin.{Origin}
use Rattle.fuse_tree.specs.declared.new_node.NewNode.{NewNode}
use Rattle.fuse_tree.specs.Checks.{Check, Where, Part}
use Rattle.fuse_rows.specs.declared.rows.EntryRow.{EntryRow}
use Rattle.fuse_tree.specs.State.{State, Node, terms_of, no_blocks, is_dir, type_bits, is_device, is_named, name_tests}
use Rattle.fuse_rows.specs.Rows.{entry_at}
use Rattle.fuse_tree.specs.Keeping.{agreement_of, valid_of}
use Rattle.fuse_tree.specs.Done.{Done, refuse_by, answer, attr_of, entry_out_of, touch}

-- what is made in a directory of this mode gets its group
abbrev pub gives_group : Terms → ℕ → Bool
gives_group t mode = t.inherits && (mode / s_isgid % 2 == 1)

-- the mode of what is made there: a directory gives its group too
abbrev pub mode_in : Bool → ℕ → ℕ
mode_in gives mode = if gives && (is_dir mode && (mode / s_isgid % 2 == 0)) then mode + s_isgid else mode

-- who asks, and when
abbrev pub asker : InHeader → Moment → Origin
asker header now = record { owner = record { uid = header.uid; gid = header.gid }; made = now }

-- what is asked for: a node of this mode and device
abbrev pub asked_node : Origin → ℕ → ℕ → NewNode
asked_node from mode rdev = record { mode = mode; uid = from.owner.uid; gid = from.owner.gid; rdev = rdev; made = from.made }

-- the same of this mode, where it stands for no device
abbrev pub of_mode : ℕ → NewNode → NewNode
of_mode mode asked = record asked { mode = mode; rdev = 0 }

-- the initial attributes of a node that is asked for in a directory of this mode and group
abbrev pub begun : Terms → ℕ → ℕ → NewNode → NewNode
begun t dir gid asked = record asked { mode = mode_in (gives_group t dir) asked.mode; gid = if gives_group t dir then gid else asked.gid }

-- those of one in directory n
abbrev pub begun_in : State → Node → NewNode → NewNode
begun_in s n asked = begun (terms_of s) n.mode n.gid asked

abbrev pub new_node : State → NewNode → Node
new_node s fresh = record {
  number = s.next_node;
  mode = fresh.mode;
  uid = fresh.uid;
  gid = fresh.gid;
  rdev = fresh.rdev;
  atime = fresh.made;
  mtime = fresh.made;
  ctime = fresh.made;
  content = [];
  blocks = no_blocks s.capacity;
}

abbrev pub new_entry : State → ℕ → List ℕ → EntryRow
new_entry s dir name = record { dir = dir; name = name; child = s.next_node; cookie = s.next_cookie }

-- the state with a node and its entry more
abbrev pub grow : Node → EntryRow → State → State
grow n e s = record s {
  nodes = s.nodes ++ n ∷ [];
  entries = s.entries ++ e ∷ [];
  next_node = s.next_node + 1;
  next_cookie = s.next_cookie + 1;
}

-- the state with a new node under this name in the directory
abbrev pub with_new_node : State → NewNode → ℕ → List ℕ → State
with_new_node s fresh dir name = grow (new_node s fresh) (new_entry s dir name) (touch dir fresh.made s)

-- no room for a node: there are as many as there may be, or a counter is at its end
abbrev pub is_full : ℕ → ℕ → ℕ → ℕ → Bool
is_full limit nodes next_node next_cookie = nat_le limit nodes || nat_le number_end next_node || nat_le number_end next_cookie

-- a new node, whose entry is answered
abbrev pub make : State → NewNode → ℕ → List ℕ → Done
make s fresh dir name =
    answer (with_new_node s fresh dir name) (entry_bytes (entry_out_of (valid_of (agreement_of s)) (attr_of (with_new_node s fresh dir name) (new_node s fresh))))

-- the checks on the place of a new node in directory n
abbrev pub place_checks : State → List ℕ → Node → List Check
place_checks s name n =
    Where enoent (not (is_named s n.number)) ∷ Where eexist (is_some (entry_at s.entries n.number name))
    ∷ Where enospc (is_full (terms_of s).node_limit (length s.nodes) s.next_node s.next_cookie) ∷ []

-- ---- MKDIR

abbrev pub mkdir_checks : State → List ℕ → Node → List Check
mkdir_checks s name n = Where enotdir (not (is_dir n.mode)) ∷ Part (name_tests name) ∷ place_checks s name n

-- the mode of a new directory: its type, and the permissions asked for
abbrev pub dir_mode : ℕ → ℕ
dir_mode mode = s_ifdir + mode % type_unit

abbrev pub mkdir : State → NewNode → List ℕ → Node → Done
mkdir s asked name n = refuse_by s (mkdir_checks s name n) (make s (begun_in s n (of_mode (dir_mode asked.mode) asked)) n.number name)

-- ---- MKNOD

-- these bits are of a type that MKNOD makes; 0 stands for a regular file
abbrev pub may_make : ℕ → Bool
may_make bits = (bits == 0) || (bits == s_ifreg) || (bits == s_ifchr) || (bits == s_ifblk) || (bits == s_ififo) || (bits == s_ifsock)

abbrev pub mknod_checks : State → ℕ → List ℕ → Node → List Check
mknod_checks s mode name n =
    Where enotdir (not (is_dir n.mode)) ∷ Where einval (not (may_make (type_bits mode))) ∷ Part (name_tests name) ∷ place_checks s name n

-- the mode of a new node: its type, and the permissions asked for
abbrev pub node_mode : ℕ → ℕ
node_mode mode = (if type_bits mode == 0 then s_ifreg else type_bits mode) + mode % type_unit

-- the device that a new node stands for, where it stands for one
abbrev pub node_rdev : ℕ → ℕ → ℕ
node_rdev mode rdev = if is_device (type_bits mode) then rdev else 0

-- a node of this type that stands for this device
abbrev pub typed : NewNode → NewNode
typed asked = record asked { mode = node_mode asked.mode; rdev = node_rdev asked.mode asked.rdev }

abbrev pub mknod : State → NewNode → List ℕ → Node → Done
mknod s asked name n = refuse_by s (mknod_checks s asked.mode name n) (make s (begun_in s n (typed asked)) n.number name)
