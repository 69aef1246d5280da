-- SYMLINK (defined by this project; symlink(2)): a new node whose content is its target.
use Rattle.std.specs.Prelude.{◌+◌, ◌==◌, ℕ, Bool, not, nat_lt, List, [], ◌∷◌, ◌++◌, length}
use Rattle.fuse_wire.specs.declared.errno.Errno.{Errno}
use Rattle.fuse_wire.specs.Errnos.{enoent, enotdir, enospc, enametoolong}
use Rattle.fuse_answer.specs.Bodies.{entry_bytes}
use Rattle.std.specs.Option.{option_map}
use Rattle.fuse_rows.specs.Bounds.{target_limit}
use Rattle.fuse_rows.specs.Blocks.{with_touched}
use Rattle.fuse_tree.specs.Modes.{s_iflnk}
use Rattle.fuse_rows.specs.declared.origin.Origin.{Origin}
use Rattle.fuse_tree.specs.declared.new_node.NewNode.{NewNode}
use Rattle.fuse_tree.specs.Checks.{Check, Where, Part}
use Rattle.fuse_tree.specs.State.{State, Node, is_dir, name_tests}
use Rattle.fuse_tree.specs.Space.{room_of, has_room}
use Rattle.fuse_tree.specs.Keeping.{agreement_of, valid_of}
use Rattle.fuse_tree.specs.Done.{Done, refuse_by, answer, attr_of, entry_out_of, touch}
use Rattle.fuse_tree.specs.Making.{asked_node, begun_in, new_node, new_entry, grow, place_checks}

-- its type, and every permission
abbrev pub link_mode : ℕ
link_mode = s_iflnk + 0o777

-- the errors of a target
abbrev pub target_tests : List ℕ → List (Errno × Bool)
target_tests target = (enoent, length target == 0) ∷ (enametoolong, nat_lt target_limit (length target)) ∷ []

-- the block that the target touches is written
abbrev pub with_target : List ℕ → Node → Node
with_target target n = record n { content = target; blocks = option_map (with_touched 0 (length target)) n.blocks }

-- the state with a new node of this content under this name in the directory
abbrev pub with_link : State → NewNode → List ℕ → ℕ → List ℕ → State
with_link s fresh target dir name = grow (with_target target (new_node s fresh)) (new_entry s dir name) (touch dir fresh.made s)

abbrev pub link_body : State → NewNode → List ℕ → ℕ → List ℕ → List ℕ
link_body s fresh target dir name =
    entry_bytes (entry_out_of (valid_of (agreement_of s)) (attr_of (with_link s fresh target dir name) (with_target target (new_node s fresh))))

-- a new link, whose entry is answered
abbrev pub link : State → NewNode → List ℕ → ℕ → List ℕ → Done
link s fresh target dir name = answer (with_link s fresh target dir name) (link_body s fresh target dir name)

-- there must be room for a node and for the block of its target
abbrev pub symlink_checks : State → List ℕ → List ℕ → Node → List Check
symlink_checks s target name n =
    Where enotdir (not (is_dir n.mode)) ∷ Part (name_tests name) ∷ Part (target_tests target) ∷ place_checks s name n
    ++ Where enospc (not (has_room (room_of s) 1)) ∷ []

abbrev pub symlink : State → Origin → List ℕ → List ℕ → Node → Done
symlink s from target name n = refuse_by s (symlink_checks s target name n) (link s (begun_in s n (asked_node from link_mode 0)) target n.number name)
