-- The plans of RENAME and RENAME2 over the rows (defined by this project), in the order of their checks.
-- Not part of what is trusted: neither `done` nor the public clauses of `plan` speak of it.
use Rattle.std.specs.Prelude.{◌+◌, ◌-◌, ◌==◌, ◌&&◌, ◌||◌, ℕ, Bool, false, not, nat_eq, nat_le, nat_lt, if◌then◌else◌, List, [], ◌∷◌, ◌++◌, is_some, Option, Some, None}
use Rattle.std.specs.Cmp.Lexicographic.{pointwise}
use Rattle.fuse_wire.specs.declared.errno.Errno.{Errno}
use Rattle.fuse_wire.specs.Errnos.{enoent, eexist, einval, enospc, enotempty, estale}
use Rattle.fuse_wire.specs.declared.moment.Moment.{Moment}
use Rattle.fuse_rows.specs.Bounds.{number_end}
use Rattle.fuse_plan.specs.declared.planning.finding.Link.{Link}
use Rattle.fuse_plan.specs.declared.planning.rename.RenameIn.{RenameIn}
use Rattle.fuse_rows.specs.declared.rows.NodeRow.{NodeRow}
use Rattle.fuse_rows.specs.declared.rows.Counters.{Counters as CountersRow}
use Rattle.fuse_rows.specs.declared.rows.Change.{Change}
use Rattle.fuse_rows.specs.declared.rows.Change.TheVariants as changes
use Rattle.fuse_plan.specs.declared.planned.Planned.{Planned}
use Rattle.fuse_rows.specs.Rows.{profile_for, Rows, row_at, row_is_named}
use Rattle.fuse_tree.specs.State.{is_dir}
use Rattle.fuse_plan.specs.inner.Reading.{refused, refused_for, told}
use Rattle.fuse_tree.specs.Removing.{has_entries}
use Rattle.fuse_plan.specs.inner.PlanRemoval.{goes_unnamed, with_removal}
use Rattle.fuse_plan.specs.inner.PlanRemoving.{link_at, unnamed_row}
use Rattle.fuse_tree.specs.Renaming.{Renaming, is_exchange, is_no_replace, leads_to, asked_fault, kinds_fault}

-- the request, its names as lists
abbrev pub renaming_of : RenameIn → Renaming
renaming_of asked = record { new_dir = asked.new_dir; mode = asked.mode; old_name = asked.old_name.now; new_name = asked.new_name.now; now = asked.at }

-- ---- rows

abbrev pub more : Bool → ℕ → ℕ
more enters n = if enters then n + 1 else n

abbrev pub fewer : Bool → ℕ → ℕ
fewer leaves n = if leaves then n - 1 else n

-- a directory's row when a directory leaves it, or enters it
abbrev pub dir_row : Moment → Bool → Bool → NodeRow → NodeRow
dir_row now leaves enters row = record row { mtime = now; ctime = now; subdirs = fewer leaves (more enters row.subdirs) }

-- the rows of both directories, or of the one that both are, when a directory moves from the first to the second,
-- one comes into the first, and one is lost to the second
abbrev pub dirs_changes : Renaming → NodeRow → NodeRow → Bool → Bool → Bool → List Change
dirs_changes r from to moves comes lost =
    if from.node == r.new_dir then changes.Node (dir_row r.now lost comes from) ∷ []
    else changes.Node (dir_row r.now moves comes from) ∷ changes.Node (dir_row r.now lost moves to) ∷ []

-- the entry by which a child comes to stand under a name
abbrev pub entry_change : ℕ → List ℕ → NodeRow → ℕ → Change
entry_change dir name child cookie = changes.Entry (record { dir = dir; name = name; child = child.node; cookie = cookie })

-- a child's row when it comes to stand in another directory
abbrev pub moved_row : Moment → ℕ → NodeRow → NodeRow
moved_row now up child = record child { ctime = now; up = up }

abbrev pub is_dir_link : Link → Bool
is_dir_link link = is_dir link.child.mode

abbrev pub is_dir_other : Option Link → Bool
is_dir_other None = false
is_dir_other (Some other) = is_dir_link other

-- ---- checks

-- both places are the same entry
abbrev pub is_same_link : Link → Option Link → Bool
is_same_link source None = false
is_same_link source (Some other) = source.cookie == other.cookie

-- the child is a directory that can't come to stand in this one; in the one where it stands it can
abbrev pub row_holds : Rows → NodeRow → ℕ → ℕ → Bool
row_holds rows child from dir = is_dir child.mode && (not (from == dir) && leads_to rows.entries rows.counters.nodes child.node dir)

-- why a node with entries can't be replaced
abbrev pub entries_fault : Rows → ℕ → Option Errno
entries_fault rows dir = if has_entries rows.entries dir then Some enotempty else None

-- why the source can't come to stand where the other link is; no file has entries
abbrev pub link_fault : Rows → Link → Option Link → Option Errno
link_fault rows source None = None
link_fault rows source (Some other) = kinds_fault (is_dir_link source) (is_dir_link other) (is_dir_link other && has_entries rows.entries other.child.node)

-- ---- RENAME

-- the entry at the new place goes
abbrev pub lost_changes : Moment → Option Link → List Change
lost_changes now None = []
lost_changes now (Some other) = changes.EntryGone other.cookie ∷ changes.Node (unnamed_row now other.child) ∷ []

abbrev pub rename_changes : Renaming → CountersRow → NodeRow → NodeRow → Link → Option Link → List Change
rename_changes r counters from to source other =
    lost_changes r.now other ++ changes.EntryGone source.cookie ∷ dirs_changes r from to (is_dir_link source) false (is_dir_other other)
    ++ changes.Node (moved_row r.now r.new_dir source.child)
    ∷ entry_change r.new_dir r.new_name source.child counters.next_cookie
    ∷ changes.Counters (record counters { next_cookie = counters.next_cookie + 1 }) ∷ []

-- where an entry stood at the new place, its child goes too where nothing keeps it
abbrev pub with_lost : CountersRow → Option Link → Rows → List Change → List Change
with_lost counters None rows before = before
with_lost counters (Some other) rows before =
    with_removal (goes_unnamed (profile_for counters.room) other.child.node rows) other.child (record counters { next_cookie = counters.next_cookie + 1 }) before

abbrev pub plan_rename_with_room : Renaming → NodeRow → NodeRow → Link → Option Link → Rows → Planned
plan_rename_with_room r from to source other rows =
    if nat_le number_end rows.counters.next_cookie then refused enospc
    else record {
      answer = record { errno = 0; body = [] };
      changes = with_lost rows.counters other rows (rename_changes r rows.counters from to source other);
    }

abbrev pub plan_rename_fitting : Renaming → NodeRow → NodeRow → Link → Option Link → Rows → Planned
plan_rename_fitting r from to source other rows = refused_for (link_fault rows source other) (plan_rename_with_room r from to source other rows)

abbrev pub plan_rename_link : Renaming → NodeRow → NodeRow → Link → Option Link → Rows → Planned
plan_rename_link r from to source other rows =
    if is_same_link source other then told []
    else if row_holds rows source.child from.node r.new_dir then refused einval
    else plan_rename_fitting r from to source other rows

-- ---- EXCHANGE

abbrev pub exchange_changes : Renaming → CountersRow → NodeRow → NodeRow → Link → Link → List Change
exchange_changes r counters from to source other =
    changes.EntryGone source.cookie ∷ changes.EntryGone other.cookie ∷ changes.Node (moved_row r.now from.node other.child)
    ∷ dirs_changes r from to (is_dir_link source) (is_dir_link other) (is_dir_link other)
    ++ changes.Node (moved_row r.now r.new_dir source.child)
    ∷ entry_change from.node r.old_name other.child counters.next_cookie
    ∷ entry_change r.new_dir r.new_name source.child (counters.next_cookie + 1)
    ∷ changes.Counters (record counters { next_cookie = counters.next_cookie + 2 }) ∷ []

abbrev pub plan_exchange_with_room : Renaming → NodeRow → NodeRow → Link → Link → Rows → Planned
plan_exchange_with_room r from to source other rows =
    if nat_lt (number_end - 2) rows.counters.next_cookie then refused enospc
    else record { answer = record { errno = 0; body = [] }; changes = exchange_changes r rows.counters from to source other }

abbrev pub plan_exchange_apart : Renaming → NodeRow → NodeRow → Link → Link → Rows → Planned
plan_exchange_apart r from to source other rows =
    if row_holds rows source.child from.node r.new_dir || row_holds rows other.child r.new_dir from.node then refused einval
    else plan_exchange_with_room r from to source other rows

abbrev pub plan_exchange_link : Renaming → NodeRow → NodeRow → Link → Option Link → Rows → Planned
plan_exchange_link r from to source None rows = refused enoent
plan_exchange_link r from to source (Some other) rows =
    if source.cookie == other.cookie then told []
    else plan_exchange_apart r from to source other rows

-- ---- by the mode

abbrev pub plan_rename_by : Renaming → NodeRow → NodeRow → Link → Option Link → Rows → Planned
plan_rename_by r from to source other rows =
    if is_exchange r.mode then plan_exchange_link r from to source other rows
    else if is_no_replace r.mode && is_some other then refused eexist
    else plan_rename_link r from to source other rows

-- the entry at the new place, which may be the old one
abbrev pub other_at : Renaming → ℕ → Link → Rows → Option Link
other_at r dir source rows = if (dir == r.new_dir) && pointwise nat_eq r.old_name r.new_name then Some source else link_at rows r.new_dir r.new_name

abbrev pub plan_rename_from : Renaming → NodeRow → NodeRow → Option Link → Rows → Planned
plan_rename_from r from to None rows = refused enoent
plan_rename_from r from to (Some source) rows = plan_rename_by r from to source (other_at r from.node source rows) rows

abbrev pub plan_rename_between : Renaming → NodeRow → Option NodeRow → Rows → Planned
plan_rename_between r from None rows = refused estale
plan_rename_between r from (Some to) rows =
    refused_for (asked_fault r (is_dir from.mode && is_dir to.mode) (row_is_named from && row_is_named to))
    (plan_rename_from r from to (link_at rows from.node r.old_name) rows)

-- the row of the new directory, which may be the old one
abbrev pub new_dir_at : ℕ → NodeRow → Rows → Option NodeRow
new_dir_at new_dir from rows = if from.node == new_dir then Some from else row_at rows new_dir

abbrev pub plan_rename : Renaming → NodeRow → Rows → Planned
plan_rename r from rows = plan_rename_between r from (new_dir_at r.new_dir from rows) rows
