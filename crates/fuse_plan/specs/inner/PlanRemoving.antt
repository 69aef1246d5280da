-- The plans of UNLINK and RMDIR over the rows (defined by this project), in the order of their checks.
-- Not part of what is trusted: neither `done` nor the public clauses of `plan` speak of it.
use Rattle.std.specs.Prelude.{◌-◌, ℕ, not, if◌then◌else◌, List, [], ◌∷◌, Option, Some, None}
use Rattle.std.specs.Option.{option_map}
use Rattle.fuse_wire.specs.Errnos.{enoent, enotdir, eisdir, enotempty}
use Rattle.fuse_wire.specs.declared.moment.Moment.{Moment}
use Rattle.fuse_init.specs.declared.profile.Profile.{Profile}
use Rattle.fuse_plan.specs.declared.planning.finding.Link.{Link}
use Rattle.fuse_rows.specs.declared.rows.NodeRow.{NodeRow}
use Rattle.fuse_rows.specs.declared.rows.EntryRow.{EntryRow}
use Rattle.fuse_rows.specs.declared.rows.Change.{Change}
use Rattle.fuse_rows.specs.declared.rows.Change.TheVariants as changes
use Rattle.fuse_plan.specs.declared.planned.Planned.{Planned}
use Rattle.fuse_tree.specs.Checks.{Check, Where}
use Rattle.fuse_tree.specs.State.{is_dir}
use Rattle.fuse_rows.specs.Rows.{Rows, row_at, entry_at}
use Rattle.fuse_plan.specs.inner.Reading.{refused, refused_by, row_name_checks}
use Rattle.fuse_plan.specs.inner.PlanRemoval.{goes_unnamed, with_removal}
use Rattle.fuse_tree.specs.Removing.{has_entries}

-- ---- an entry gone

-- the entry's cookie and its child's row
abbrev pub link_of : Rows → Option EntryRow → Option Link
link_of rows None = None
link_of rows (Some e) = option_map (λ child. record { cookie = e.cookie; child = child }) (row_at rows e.child)

-- the same of the entry of this name in the directory
abbrev pub link_at : Rows → ℕ → List ℕ → Option Link
link_at rows dir name = link_of rows (entry_at rows.entries dir name)

-- a directory's row when the entry of this child goes
abbrev pub left_row : Moment → NodeRow → NodeRow → NodeRow
left_row now child row = record row { mtime = now; ctime = now; subdirs = if is_dir child.mode then row.subdirs - 1 else row.subdirs }

-- a child's row when its entry goes
abbrev pub unnamed_row : Moment → NodeRow → NodeRow
unnamed_row now child = record child { ctime = now; up = 0 }

-- the changes of an entry gone from the directory of this row
abbrev pub gone_changes : Moment → Link → NodeRow → List Change
gone_changes now link row = changes.EntryGone link.cookie ∷ changes.Node (left_row now link.child row) ∷ changes.Node (unnamed_row now link.child) ∷ []

-- the entry goes, and its child where nothing keeps it
abbrev pub plan_gone : Profile → Moment → Link → NodeRow → Rows → Planned
plan_gone p now link row rows = record {
  answer = record { errno = 0; body = [] };
  changes = with_removal (goes_unnamed p link.child.node rows) link.child rows.counters (gone_changes now link row);
}

-- ---- UNLINK and RMDIR

-- the entry of this link goes, where no check on its child applies
abbrev pub plan_remove_link : Profile → (NodeRow → List Check) → Moment → NodeRow → Option Link → Rows → Planned
plan_remove_link p checks now row None rows = refused enoent
plan_remove_link p checks now row (Some link) rows = refused_by (checks link.child) (plan_gone p now link row rows)

-- the entry of this name in the directory of this row
abbrev pub plan_remove : Profile → (NodeRow → List Check) → List ℕ → Moment → NodeRow → Rows → Planned
plan_remove p checks name now row rows = refused_by (row_name_checks name row) (plan_remove_link p checks now row (link_at rows row.node name) rows)

abbrev pub row_unlink_checks : NodeRow → List Check
row_unlink_checks child = Where eisdir (is_dir child.mode) ∷ []

abbrev pub plan_unlink : Profile → List ℕ → Moment → NodeRow → Rows → Planned
plan_unlink p name now row rows = plan_remove p row_unlink_checks name now row rows

abbrev pub row_rmdir_checks : Rows → NodeRow → List Check
row_rmdir_checks rows child = Where enotdir (not (is_dir child.mode)) ∷ Where enotempty (has_entries rows.entries child.node) ∷ []

abbrev pub plan_rmdir : Profile → List ℕ → Moment → NodeRow → Rows → Planned
plan_rmdir p name now row rows = plan_remove p (row_rmdir_checks rows) name now row rows
