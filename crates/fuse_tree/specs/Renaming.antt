-- RENAME and RENAME2 (defined by this project): an entry moves, or two children change places.
use Rattle.std.specs.Prelude.{◌≡◌, ◌≢◌, ◌+◌, ◌-◌, ◌==◌, ◌&&◌, ◌||◌, ℕ, zero, suc, Bool, true, false, not, nat_le, nat_lt, if◌then◌else◌, List, [], ◌∷◌, ◌++◌, length, is_some, Option, Some, None}
use Rattle.std.specs.List.{list_any}
use Rattle.fuse_wire.specs.declared.errno.Errno.{Errno}
use Rattle.fuse_wire.specs.Errnos.{enoent, eexist, enotdir, eisdir, einval, enospc, enotempty, estale}
use Rattle.fuse_wire.specs.declared.moment.Moment.{Moment}
use Rattle.fuse_rows.specs.Bounds.{number_end}
use Rattle.fuse_tree.specs.declared.rename_mode.RenameMode.{RenameMode}
use Rattle.fuse_tree.specs.declared.rename_mode.RenameMode.TheVariants.{Replace, NoReplace, Exchange}
use Rattle.fuse_tree.specs.Modes.{rename_noreplace, rename_exchange}
use Rattle.fuse_rows.specs.declared.rows.EntryRow.{EntryRow}
use Rattle.fuse_tree.specs.Checks.{earlier}
use Rattle.fuse_tree.specs.State.{State, Node, Tree, is_dir, is_dir_of, is_named, name_fault, node_at, above}
use Rattle.fuse_rows.specs.Rows.{entry_at}
use Rattle.fuse_tree.specs.Removal.{tidied}
use Rattle.fuse_tree.specs.Done.{Done, refuse, refuse_for, answer, touch}
use Rattle.fuse_tree.specs.Removing.{mark, without_entry, entry_gone, has_entries}

-- the mode of the flags of RENAME2
abbrev pub mode_of : ℕ → Option RenameMode
mode_of flags =
    if flags == 0 then Some Replace
    else if flags == rename_noreplace then Some NoReplace
    else if flags == rename_exchange then Some Exchange
    else None

abbrev pub is_no_replace : Option RenameMode → Bool
is_no_replace (Some NoReplace) = true
is_no_replace _ = false

abbrev pub is_exchange : Option RenameMode → Bool
is_exchange (Some Exchange) = true
is_exchange _ = false

-- the request: from a name in the node of the header to a name in another directory, and at which moment
pub record Renaming : Type 0 where
  pub new_dir : ℕ
  pub mode : Option RenameMode
  pub old_name : List ℕ
  pub new_name : List ℕ
  pub now : Moment

abbrev pub asking : ℕ → ℕ → List ℕ → List ℕ → Moment → Renaming
asking new_dir flags old_name new_name now = record { new_dir = new_dir; mode = mode_of flags; old_name = old_name; new_name = new_name; now = now }

-- ---- the directories under a node

-- one of so many places on the way up is this node; the first place is where it begins
abbrev pub leads_to : List EntryRow → ℕ → ℕ → ℕ → Bool
leads_to entries zero node start = false
leads_to entries (suc places) node start = leads_to entries places node start || (above entries places start == node)

-- a directory is this node, or lies under it: no way up is longer than the number of nodes
abbrev pub lies_in : State → ℕ → ℕ → Bool
lies_in s node dir = leads_to s.entries (length s.nodes) node dir

-- the node of this number is a directory
abbrev pub is_dir_at : State → ℕ → Bool
is_dir_at s number = list_any (is_dir_of number) s.nodes

-- the node is a directory that can't come to stand in this one
abbrev pub holds : State → ℕ → ℕ → Bool
holds s node dir = is_dir_at s node && lies_in s node dir

-- ---- states

-- a node under a name in a directory, by the next cookie
abbrev pub placed : ℕ → List ℕ → ℕ → State → State
placed dir name child s = record s {
  entries = s.entries ++ record { dir = dir; name = name; child = child; cookie = s.next_cookie } ∷ [];
  next_cookie = s.next_cookie + 1;
}

-- the entry that stood at the new place is gone
abbrev pub replaced : Renaming → Option EntryRow → State → State
replaced r None s = s
replaced r (Some other) s = entry_gone other r.now s

-- the times of both directories are the moment
abbrev pub both_touched : Renaming → ℕ → State → State
both_touched r dir s = touch r.new_dir r.now (touch dir r.now s)

-- the entry e of this directory stands at the new place
abbrev pub renamed : Renaming → ℕ → EntryRow → Option EntryRow → State → State
renamed r dir e other s = both_touched r dir (mark e.child r.now (placed r.new_dir r.new_name e.child (without_entry e.cookie (replaced r other s))))

-- the children of the entries e of this directory and other at the new place have changed places
abbrev pub exchanged : Renaming → ℕ → EntryRow → EntryRow → State → State
exchanged r dir e other s =
    both_touched r dir (mark e.child r.now (mark other.child r.now
    (placed r.new_dir r.new_name e.child (placed dir r.old_name other.child (without_entry other.cookie (without_entry e.cookie s))))))

-- ---- checks

-- the fault before any entry is looked up, where both are directories and both are named, or not
abbrev pub asked_fault : Renaming → Bool → Bool → Option Errno
asked_fault r are_dirs are_named =
    if not are_dirs then Some enotdir
    else earlier (name_fault r.old_name) (earlier (name_fault r.new_name)
    (if not (is_some r.mode) then Some einval else if not are_named then Some enoent else None))

-- both places are the same entry
abbrev pub is_same : EntryRow → Option EntryRow → Bool
is_same e None = false
is_same e (Some other) = e.cookie == other.cookie

-- why a node can't take the place of another
abbrev pub kinds_fault : Bool → Bool → Bool → Option Errno
kinds_fault is_dir other_is_dir other_has_entries =
    if is_dir && not other_is_dir then Some enotdir
    else if not is_dir && other_is_dir then Some eisdir
    else if other_has_entries then Some enotempty
    else None

-- why the child can't come to stand where the other entry is
abbrev pub place_fault : State → ℕ → Option EntryRow → Option Errno
place_fault s child None = None
place_fault s child (Some other) = kinds_fault (is_dir_at s child) (is_dir_at s other.child) (has_entries s.entries other.child)

-- ---- RENAME

abbrev pub rename_with_room : State → Renaming → ℕ → EntryRow → Option EntryRow → Done
rename_with_room s r dir e other = if nat_le number_end s.next_cookie then refuse s enospc else answer (tidied (renamed r dir e other s)) []

abbrev pub rename_entry : State → Renaming → ℕ → EntryRow → Option EntryRow → Done
rename_entry s r dir e other =
    if is_same e other then answer s []
    else if holds s e.child r.new_dir then refuse s einval
    else refuse_for s (place_fault s e.child other) (rename_with_room s r dir e other)

-- ---- EXCHANGE

abbrev pub exchange_with_room : State → Renaming → ℕ → EntryRow → EntryRow → Done
exchange_with_room s r dir e other = if nat_lt (number_end - 2) s.next_cookie then refuse s enospc else answer (exchanged r dir e other s) []

abbrev pub exchange_entry : State → Renaming → ℕ → EntryRow → Option EntryRow → Done
exchange_entry s r dir e None = refuse s enoent
exchange_entry s r dir e (Some other) =
    if e.cookie == other.cookie then answer s []
    else if holds s e.child r.new_dir || holds s other.child dir then refuse s einval
    else exchange_with_room s r dir e other

-- ---- by the mode

-- where there is an entry e under the old name
abbrev pub rename_by : State → Renaming → ℕ → EntryRow → Option EntryRow → Done
rename_by s r dir e other =
    if is_exchange r.mode then exchange_entry s r dir e other
    else if is_no_replace r.mode && is_some other then refuse s eexist
    else rename_entry s r dir e other

abbrev pub rename_from : State → Renaming → ℕ → Option EntryRow → Done
rename_from s r dir None = refuse s enoent
rename_from s r dir (Some e) = rename_by s r dir e (entry_at s.entries r.new_dir r.new_name)

-- from directory n to directory `to`
abbrev pub rename_between : State → Renaming → Node → Option Node → Done
rename_between s r n None = refuse s estale
rename_between s r n (Some to) =
    refuse_for s (asked_fault r (is_dir n.mode && is_dir to.mode) (is_named s n.number && is_named s to.number))
    (rename_from s r n.number (entry_at s.entries n.number r.old_name))

-- RENAME2, and with flags 0 RENAME
abbrev pub rename : State → Renaming → Node → Done
rename s r n = rename_between s r n (node_at s r.new_dir)

-- ---- laws

-- an entry of this directory leads to the node
abbrev pub is_child : List EntryRow → ℕ → ℕ → Bool
is_child entries dir node = list_any (λ e. (e.dir == dir) && (e.child == node)) entries

-- so many steps up from a node lead to another, each from a child to its directory
abbrev pub StepsUp : List EntryRow → ℕ → ℕ → ℕ → Type 0
StepsUp entries zero node up = node ≡ up
StepsUp entries (suc steps) node up = (dir : ℕ) × (is_child entries dir node ≡ true) × StepsUp entries steps dir up

-- a directory is this node or lies under it exactly where some steps up from it lead there
pub record Under (s : State) (node dir : ℕ) : Type 0 where
  pub found : lies_in s node dir ≡ true → (steps : ℕ) × StepsUp s.entries steps dir node
  pub all : (steps : ℕ) → StepsUp s.entries steps dir node → lies_in s node dir ≡ true

-- 0 is no node's number
abbrev pub LiesInIsUnder : Type 0
LiesInIsUnder = (s : State) (node dir : ℕ) → Tree s → node ≢ 0 → Under s node dir
