-- The plan of READLINK over the rows (defined by this project).
-- Not part of what is trusted: neither `done` nor the public clauses of `plan` speak of it.
use Rattle.std.specs.Prelude.{not, if◌then◌else◌}
use Rattle.fuse_wire.specs.Errnos.{einval}
use Rattle.fuse_rows.specs.Bounds.{target_limit}
use Rattle.fuse_rows.specs.declared.rows.NodeRow.{NodeRow}
use Rattle.fuse_plan.specs.declared.planned.Planned.{Planned}
use Rattle.fuse_tree.specs.State.{is_link}
use Rattle.fuse_rows.specs.Rows.{Rows, bytes_at}
use Rattle.fuse_plan.specs.inner.Reading.{refused, told}

abbrev pub plan_readlink : NodeRow → Rows → Planned
plan_readlink row rows = if not (is_link row.mode) then refused einval else told (bytes_at rows row.node 0 target_limit)
