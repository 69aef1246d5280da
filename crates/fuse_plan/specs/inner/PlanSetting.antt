-- The plan of SETATTR over the row (defined by this project), in the order of its checks.
-- Not part of what is trusted: neither `done` nor the public clauses of `plan` speak of it.
use Rattle.std.specs.Prelude.{◌-◌, ℕ, if◌then◌else◌, List, [], ◌∷◌, Option, None}
use Rattle.std.specs.Option.{option_map}
use Rattle.fuse_wire.specs.declared.moment.Moment.{Moment}
use Rattle.fuse_wire.specs.Bits.{fattr_size}
use Rattle.fuse_request.specs.declared.request.SetattrIn.{SetattrIn}
use Rattle.fuse_tree.specs.declared.agreement.Agreement.{Agreement}
use Rattle.fuse_rows.specs.declared.rows.NodeRow.{NodeRow}
use Rattle.fuse_init.specs.declared.profile.Profile.{Profile}
use Rattle.fuse_init.specs.Profile.{terms}
use Rattle.fuse_rows.specs.declared.rows.Counters.{Counters as CountersRow}
use Rattle.fuse_rows.specs.declared.rows.Change.{Change}
use Rattle.fuse_rows.specs.declared.rows.Change.TheVariants as changes
use Rattle.fuse_plan.specs.declared.planned.Planned.{Planned}
use Rattle.fuse_tree.specs.Setting.{has_valid_bit, mode_after, uid_after, gid_after, atime_after, mtime_after, ctime_after, set_fault}
use Rattle.fuse_tree.specs.Keeping.{valid_of}
use Rattle.fuse_rows.specs.Rows.{Rows}
use Rattle.fuse_plan.specs.inner.PlanSpace.{counters_for, room_changes, blocks_gone_in}
use Rattle.fuse_plan.specs.inner.Reading.{refused_for, attr_body}

-- the row, where so many blocks are written no more
abbrev pub set_row : SetattrIn → Moment → ℕ → NodeRow → NodeRow
set_row set now gone row = record row {
  mode = mode_after set row.mode;
  uid = uid_after set row.uid;
  gid = gid_after set row.gid;
  size = if has_valid_bit set fattr_size then set.size else row.size;
  atime = atime_after set now row.atime;
  mtime = mtime_after set now row.mtime;
  ctime = ctime_after set now row.ctime;
  written = option_map (λ w. w - gone) row.written;
}

-- the bytes change only where the size is set, and with them the room
abbrev pub size_changes : SetattrIn → ℕ → NodeRow → Option CountersRow → List Change
size_changes set gone row counters =
    if has_valid_bit set fattr_size then changes.Sized row.node set.size ∷ room_changes counters (λ used. used - gone) else []

abbrev pub set_changes : SetattrIn → Moment → ℕ → NodeRow → Option CountersRow → List Change
set_changes set now gone row counters = changes.Node (set_row set now gone row) ∷ size_changes set gone row counters

abbrev pub plan_set : ℕ → SetattrIn → Moment → ℕ → NodeRow → Option CountersRow → Planned
plan_set valid set now gone row counters =
    record { answer = record { errno = 0; body = attr_body valid (set_row set now gone row) }; changes = set_changes set now gone row counters }

-- the counters, where the size is set and blocks are counted
abbrev pub set_counters : Profile → SetattrIn → Rows → Option CountersRow
set_counters p set rows = if has_valid_bit set fattr_size then counters_for p rows else None

-- the blocks that are written no more: none, where the size isn't set
abbrev pub set_gone : SetattrIn → NodeRow → Rows → ℕ
set_gone set row rows = if has_valid_bit set fattr_size then blocks_gone_in rows row set.size else 0

abbrev pub plan_setattr : Agreement → SetattrIn → Moment → NodeRow → Rows → Planned
plan_setattr a set now row rows =
    refused_for (set_fault (terms a.profile).file_limit set row.mode)
    (plan_set (valid_of a) set now (set_gone set row rows) row (set_counters a.profile set rows))
