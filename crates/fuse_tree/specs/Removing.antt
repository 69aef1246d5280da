-- UNLINK and RMDIR (defined by this project): an entry goes, and its child loses its name.
use Rattle.std.specs.Prelude.{◌==◌, ℕ, Bool, not, if◌then◌else◌, List, [], ◌∷◌, map, filter, Option, Some, None}
use Rattle.std.specs.List.{list_any}
use Rattle.fuse_wire.specs.Errnos.{enoent, enotdir, eisdir, enotempty}
use Rattle.fuse_wire.specs.declared.moment.Moment.{Moment}
use Rattle.fuse_rows.specs.declared.rows.EntryRow.{EntryRow}
use Rattle.fuse_tree.specs.Checks.{Check, Where}
use Rattle.fuse_tree.specs.State.{State, Node, is_dir, node_at}
use Rattle.fuse_rows.specs.Rows.{entry_at}
use Rattle.fuse_tree.specs.Removal.{tidied}
use Rattle.fuse_tree.specs.Done.{Done, refuse, refuse_by, name_checks, answer, touch}

-- ---- an entry gone

-- where the node is this one, its ctime is the moment
abbrev pub marked : ℕ → Moment → Node → Node
marked number now n = record n { ctime = if n.number == number then now else n.ctime }

-- the state whose node of this number is changed at this moment, and not its content
abbrev pub mark : ℕ → Moment → State → State
mark number now s = record s { nodes = map (marked number now) s.nodes }

-- the state without the entry of this cookie
abbrev pub without_entry : ℕ → State → State
without_entry cookie s = record s { entries = filter (λ e. not (e.cookie == cookie)) s.entries }

-- the state without this entry: its directory and its child are changed at this moment
abbrev pub entry_gone : EntryRow → Moment → State → State
entry_gone e now s = mark e.child now (touch e.dir now (without_entry e.cookie s))

-- an entry stands in the directory
abbrev pub has_entries : List EntryRow → ℕ → Bool
has_entries entries dir = list_any (λ e. e.dir == dir) entries

-- ---- UNLINK and RMDIR

-- the entry e goes, where no check on its child applies
abbrev pub remove_child : State → (Node → List Check) → EntryRow → Moment → Option Node → Done
remove_child s checks e now None = refuse s enoent
remove_child s checks e now (Some child) = refuse_by s (checks child) (answer (tidied (entry_gone e now s)) [])

abbrev pub remove_entry : State → (Node → List Check) → Moment → Option EntryRow → Done
remove_entry s checks now None = refuse s enoent
remove_entry s checks now (Some e) = remove_child s checks e now (node_at s e.child)

-- the entry of this name in directory n
abbrev pub remove : State → (Node → List Check) → List ℕ → Moment → Node → Done
remove s checks name now n = refuse_by s (name_checks s name n) (remove_entry s checks now (entry_at s.entries n.number name))

abbrev pub unlink_checks : Node → List Check
unlink_checks child = Where eisdir (is_dir child.mode) ∷ []

abbrev pub unlink : State → List ℕ → Moment → Node → Done
unlink s name now n = remove s unlink_checks name now n

abbrev pub rmdir_checks : State → Node → List Check
rmdir_checks s child = Where enotdir (not (is_dir child.mode)) ∷ Where enotempty (has_entries s.entries child.number) ∷ []

abbrev pub rmdir : State → List ℕ → Moment → Node → Done
rmdir s name now n = remove s (rmdir_checks s) name now n
