-- CREATE (defined by this project; fuse(4)): a new regular file, open.
use Rattle.std.specs.Prelude.{◌+◌, ◌%◌, ℕ, List, length, Option, Some, None}
use Rattle.fuse_wire.specs.declared.access_mode.AccessMode.{AccessMode}
use Rattle.fuse_wire.specs.Errnos.{einval}
use Rattle.fuse_wire.specs.Flags.{access_of}
use Rattle.fuse_answer.specs.FurtherAnswers.{create_bytes}
use Rattle.fuse_answer.specs.declared.further.CreateOut.{CreateOut}
use Rattle.fuse_tree.specs.Modes.{s_ifreg, type_unit}
use Rattle.fuse_tree.specs.declared.new_node.NewNode.{NewNode}
use Rattle.fuse_tree.specs.State.{State, Node, terms_of}
use Rattle.fuse_tree.specs.Keeping.{agreement_of, valid_of}
use Rattle.fuse_tree.specs.Done.{Done, refuse, refuse_for, refuse_by, answer, attr_of, entry_out_of}
use Rattle.fuse_tree.specs.Making.{of_mode, begun_in, new_node, with_new_node, mkdir_checks}
use Rattle.fuse_tree.specs.Opening.{open_fault, with_open_node, open_of}

-- the type that is asked for isn't looked at
abbrev pub file_mode : ℕ → ℕ
file_mode mode = s_ifreg + mode % type_unit

-- the state with a new node under this name in the directory, open for this access
abbrev pub created : State → NewNode → ℕ → List ℕ → AccessMode → State
created s fresh dir name access = with_open_node (with_new_node s fresh dir name) s.next_node access

abbrev pub create_of : State → NewNode → ℕ → List ℕ → AccessMode → CreateOut
create_of s fresh dir name access = record { entry = entry_out_of (valid_of (agreement_of s)) (attr_of (created s fresh dir name access) (new_node s fresh)); «open» = open_of (terms_of s).open_flags s.next_fh }

-- where there is room for the node
abbrev pub create_for : State → NewNode → ℕ → List ℕ → Option AccessMode → Done
create_for s fresh dir name None = refuse s einval
create_for s fresh dir name (Some access) =
    refuse_for s (open_fault (length s.handles) s.next_fh) (answer (created s fresh dir name access) (create_bytes (create_of s fresh dir name access)))

-- the checks of MKDIR, and those of OPEN
abbrev pub create : State → NewNode → ℕ → List ℕ → Node → Done
create s asked flags name n =
    refuse_by s (mkdir_checks s name n) (create_for s (begun_in s n (of_mode (file_mode asked.mode) asked)) n.number name (access_of flags))
