-- The plans of OPEN, OPENDIR, RELEASE and RELEASEDIR over the rows (defined by this project), in the order of their checks.
-- Not part of what is trusted: neither `done` nor the public clauses of `plan` speak of it.
use Rattle.std.specs.Prelude.{◌+◌, ◌-◌, ℕ, not, if◌then◌else◌, List, [], ◌∷◌, Option, Some, None}
use Rattle.fuse_wire.specs.declared.access_mode.AccessMode.{AccessMode}
use Rattle.fuse_wire.specs.declared.access_mode.AccessMode.TheVariants.{ReadOnly}
use Rattle.fuse_wire.specs.declared.errno.Errno.{Errno}
use Rattle.fuse_wire.specs.Errnos.{ebadf, enotdir, einval}
use Rattle.fuse_wire.specs.Flags.{access_of}
use Rattle.fuse_answer.specs.Bodies.{open_bytes}
use Rattle.fuse_rows.specs.declared.rows.NodeRow.{NodeRow}
use Rattle.fuse_rows.specs.declared.rows.Counters.{Counters as CountersRow}
use Rattle.fuse_rows.specs.declared.rows.Change.{Change}
use Rattle.fuse_rows.specs.declared.rows.Change.TheVariants as changes
use Rattle.fuse_plan.specs.declared.planned.Planned.{Planned}
use Rattle.fuse_rows.specs.Rows.{profile_for, Rows}
use Rattle.fuse_tree.specs.State.{is_dir}
use Rattle.fuse_tree.specs.Handles.{is_open}
use Rattle.fuse_tree.specs.Opening.{open_fault, open_checks, new_handle, open_of, not_for_dirs, for_dirs_alone}
use Rattle.fuse_plan.specs.inner.PlanRemoval.{goes_closed, with_removal}
use Rattle.fuse_plan.specs.inner.Reading.{refused, refused_for, refused_by}

-- ---- a handle more

abbrev pub counters_opened : CountersRow → CountersRow
counters_opened counters = record counters { next_fh = counters.next_fh + 1; handles = counters.handles + 1 }

abbrev pub opened_changes : CountersRow → AccessMode → ℕ → List Change
opened_changes counters access node = changes.Handle (new_handle counters.next_fh node access) ∷ changes.Counters (counters_opened counters) ∷ []

abbrev pub plan_opened : ℕ → CountersRow → AccessMode → ℕ → Planned
plan_opened open_flags counters access node =
    record { answer = record { errno = 0; body = open_bytes (open_of open_flags counters.next_fh) }; changes = opened_changes counters access node }

abbrev pub plan_open_node : ℕ → AccessMode → ℕ → Rows → Planned
plan_open_node open_flags access node rows =
    refused_for (open_fault rows.counters.handles rows.counters.next_fh) (plan_opened open_flags rows.counters access node)

-- ---- OPEN

abbrev pub plan_open_for : ℕ → Option AccessMode → NodeRow → Rows → Planned
plan_open_for open_flags None row rows = refused einval
plan_open_for open_flags (Some access) row rows = plan_open_node open_flags access row.node rows

abbrev pub plan_open : ℕ → ℕ → NodeRow → Rows → Planned
plan_open open_flags flags row rows = refused_by (open_checks row.mode) (plan_open_for open_flags (access_of flags) row rows)

-- ---- OPENDIR

abbrev pub plan_open_dir : NodeRow → Rows → Planned
plan_open_dir row rows = if not (is_dir row.mode) then refused enotdir else plan_open_node 0 ReadOnly row.node rows

-- ---- a handle less

abbrev pub counters_closed : CountersRow → CountersRow
counters_closed counters = record counters { handles = counters.handles - 1 }

abbrev pub closed_changes : CountersRow → ℕ → List Change
closed_changes counters fh = changes.HandleGone fh ∷ changes.Counters (counters_closed counters) ∷ []

-- the fh goes, and its node where nothing else keeps it
abbrev pub plan_closed : CountersRow → ℕ → NodeRow → Rows → Planned
plan_closed counters fh row rows = record {
  answer = record { errno = 0; body = [] };
  changes = with_removal (goes_closed (profile_for counters.room) fh row rows) row (counters_closed counters) (closed_changes counters fh);
}

abbrev pub plan_close : ℕ → Option Errno → NodeRow → Rows → Planned
plan_close fh kind_fault row rows =
    if not (is_open rows.handles fh row.node) then refused ebadf
    else refused_for kind_fault (plan_closed rows.counters fh row rows)

-- ---- RELEASE and RELEASEDIR

abbrev pub plan_release : ℕ → NodeRow → Rows → Planned
plan_release fh row rows = plan_close fh (not_for_dirs row.mode) row rows

abbrev pub plan_release_dir : ℕ → NodeRow → Rows → Planned
plan_release_dir fh row rows = plan_close fh (for_dirs_alone row.mode) row rows
