-- The plan of STATFS over the rows (defined by this project).
-- Not part of what is trusted: neither `done` nor the public clauses of `plan` speak of it.
use Rattle.std.specs.Option.{unwrap_or}
use Rattle.fuse_answer.specs.FurtherAnswers.{statfs_bytes}
use Rattle.fuse_plan.specs.declared.planned.Planned.{Planned}
use Rattle.fuse_rows.specs.Rows.{Rows, terms_at}
use Rattle.fuse_tree.specs.Statfs.{statfs_of, no_room}
use Rattle.fuse_plan.specs.inner.Reading.{told}

abbrev pub plan_statfs : Rows → Planned
plan_statfs rows = told (statfs_bytes (statfs_of (terms_at rows).node_limit rows.counters.nodes (unwrap_or rows.counters.room no_room)))
