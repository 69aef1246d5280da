-- The plan of FSYNC and FSYNCDIR over the rows (defined by this project).
-- Not part of what is trusted: neither `done` nor the public clauses of `plan` speak of it.
use Rattle.std.specs.Prelude.{ℕ, not, if◌then◌else◌, []}
use Rattle.fuse_wire.specs.Errnos.{ebadf}
use Rattle.fuse_rows.specs.declared.rows.NodeRow.{NodeRow}
use Rattle.fuse_rows.specs.Rows.{Rows}
use Rattle.fuse_tree.specs.Handles.{is_open}
use Rattle.fuse_plan.specs.declared.planned.Planned.{Planned}
use Rattle.fuse_plan.specs.inner.Reading.{refused, told}

abbrev pub plan_fsync : ℕ → NodeRow → Rows → Planned
plan_fsync fh row rows = if not (is_open rows.handles fh row.node) then refused ebadf else told []
