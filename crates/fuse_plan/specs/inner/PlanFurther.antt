-- The plans of the opcodes of a profile beside those of the protocol's, over the rows (defined by this project).
-- Not part of what is trusted: neither `done` nor the public clauses of `plan` speak of it.
use Rattle.std.specs.Prelude.{ℕ, not, if◌then◌else◌, List, Option, Some, is_some}
use Rattle.fuse_wire.specs.Errnos.{enosys, einval}
use Rattle.fuse_init.specs.Profile.{terms}
use Rattle.fuse_request.specs.FurtherBodies.{FurtherContent, Readlink, Statfs, Fsync, FsyncDir, Symlink, Create, ReadDirPlus, further_fault, further_content_at}
use Rattle.fuse_tree.specs.declared.agreement.Agreement.{Agreement}
use Rattle.fuse_rows.specs.declared.origin.Origin.{Origin}
use Rattle.fuse_rows.specs.declared.rows.NodeRow.{NodeRow}
use Rattle.fuse_plan.specs.declared.planned.Planned.{Planned}
use Rattle.fuse_rows.specs.Rows.{Rows}
use Rattle.fuse_tree.specs.Keeping.{valid_of}
use Rattle.fuse_tree.specs.Making.{asked_node}
use Rattle.fuse_plan.specs.inner.Reading.{refused}
use Rattle.fuse_plan.specs.inner.PlanLinking.{plan_readlink}
use Rattle.fuse_plan.specs.inner.PlanSymlinking.{plan_symlink}
use Rattle.fuse_plan.specs.inner.PlanCreating.{plan_create}
use Rattle.fuse_plan.specs.inner.PlanPlus.{plan_read_dir_plus}
use Rattle.fuse_plan.specs.inner.PlanStatfs.{plan_statfs}
use Rattle.fuse_plan.specs.inner.PlanSyncing.{plan_fsync}

abbrev pub plan_content : Agreement → Origin → Option FurtherContent → NodeRow → Rows → Planned
plan_content a from (Some Readlink) row rows = plan_readlink row rows
plan_content a from (Some Statfs) row rows = plan_statfs rows
plan_content a from (Some (Fsync fh fsync_flags)) row rows = plan_fsync fh row rows
plan_content a from (Some (FsyncDir fh fsync_flags)) row rows = plan_fsync fh row rows
plan_content a from (Some (Symlink name target)) row rows = plan_symlink a from target name row rows
plan_content a from (Some (Create flags mode umask open_flags name)) row rows = plan_create a (asked_node from mode 0) flags name row rows
plan_content a from (Some (ReadDirPlus x)) row rows = plan_read_dir_plus (valid_of a) x row rows
plan_content a from _ row rows = refused enosys

abbrev pub plan_further : Agreement → Origin → ℕ → List ℕ → NodeRow → Rows → Planned
plan_further a from opcode body row rows =
    if not ((terms a.profile).further opcode) then refused enosys
    else if is_some (further_fault opcode body) then refused einval
    else plan_content a from (further_content_at opcode body) row rows
