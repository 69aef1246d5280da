-- OPEN, OPENDIR, RELEASE and RELEASEDIR (defined by this project).
use Rattle.std.specs.Prelude.{◌+◌, ◌==◌, ℕ, Bool, not, nat_le, if◌then◌else◌, List, [], ◌∷◌, ◌++◌, length, filter, Option, Some, None, pos}
use Rattle.fuse_wire.specs.declared.access_mode.AccessMode.{AccessMode}
use Rattle.fuse_wire.specs.declared.access_mode.AccessMode.TheVariants.{ReadOnly}
use Rattle.fuse_wire.specs.declared.errno.Errno.{Errno}
use Rattle.fuse_wire.specs.Errnos.{ebadf, enotdir, eisdir, einval, enfile, enospc}
use Rattle.fuse_wire.specs.Flags.{access_of}
use Rattle.fuse_answer.specs.Bodies.{open_bytes}
use Rattle.fuse_answer.specs.declared.records.OpenOut.{OpenOut}
use Rattle.fuse_rows.specs.Bounds.{handle_limit, number_end}
use Rattle.fuse_rows.specs.declared.rows.HandleRow.{HandleRow}
use Rattle.fuse_tree.specs.Checks.{Check, Where, error_in}
use Rattle.fuse_tree.specs.State.{State, Node, terms_of, is_dir, is_file}
use Rattle.fuse_tree.specs.Handles.{is_open}
use Rattle.fuse_tree.specs.Removal.{tidied}
use Rattle.fuse_tree.specs.Done.{Done, refuse, refuse_for, refuse_by, answer}

-- ---- a handle more

-- why no handle is given out
abbrev pub open_tests : ℕ → ℕ → List (Errno × Bool)
open_tests handles next_fh = (enfile, nat_le handle_limit handles) ∷ (enospc, nat_le number_end next_fh) ∷ []

abbrev pub open_fault : ℕ → ℕ → Option Errno
open_fault handles next_fh = error_in (open_tests handles next_fh)

abbrev pub new_handle : ℕ → ℕ → AccessMode → HandleRow
new_handle next_fh node access = record { fh = next_fh; node = node; access = access }

-- the state in which the node is open once more
abbrev pub with_open_node : State → ℕ → AccessMode → State
with_open_node s node access = record s { handles = s.handles ++ new_handle s.next_fh node access ∷ []; next_fh = s.next_fh + 1 }

-- the answer for a new handle, with these flags
abbrev pub open_of : ℕ → ℕ → OpenOut
open_of flags fh = record { fh = fh; open_flags = flags; backing_id = pos 0 }

abbrev pub open_node : State → ℕ → AccessMode → Node → Done
open_node s flags access n = refuse_for s (open_fault (length s.handles) s.next_fh) (answer (with_open_node s n.number access) (open_bytes (open_of flags s.next_fh)))

-- ---- OPEN

abbrev pub open_for : State → Option AccessMode → Node → Done
open_for s None n = refuse s einval
open_for s (Some access) n = open_node s (terms_of s).open_flags access n

-- the checks on the mode of a node
abbrev pub open_checks : ℕ → List Check
open_checks mode = Where eisdir (is_dir mode) ∷ Where einval (not (is_file mode)) ∷ []

abbrev pub open_file : State → ℕ → Node → Done
open_file s flags n = refuse_by s (open_checks n.mode) (open_for s (access_of flags) n)

-- ---- OPENDIR

abbrev pub open_dir : State → Node → Done
open_dir s n = if not (is_dir n.mode) then refuse s enotdir else open_node s 0 ReadOnly n

-- ---- a handle less

-- the state without this handle
abbrev pub closed : State → ℕ → State
closed s fh = record s { handles = filter (λ h. not (h.fh == fh)) s.handles }

-- a handle that is open at node n is closed, unless the kind of the node is another
abbrev pub close : State → ℕ → Option Errno → Node → Done
close s fh kind_fault n =
    if not (is_open s.handles fh n.number) then refuse s ebadf
    else refuse_for s kind_fault (answer (tidied (closed s fh)) [])

-- ---- RELEASE

abbrev pub not_for_dirs : ℕ → Option Errno
not_for_dirs mode = if is_dir mode then Some eisdir else None

abbrev pub release : State → ℕ → Node → Done
release s fh n = close s fh (not_for_dirs n.mode) n

-- ---- RELEASEDIR

abbrev pub for_dirs_alone : ℕ → Option Errno
for_dirs_alone mode = if is_dir mode then None else Some enotdir

abbrev pub release_dir : State → ℕ → Node → Done
release_dir s fh n = close s fh (for_dirs_alone n.mode) n
