-- The plans of WRITE and READ over the rows (defined by this project), in the order of their checks.
-- Not part of what is trusted: neither `done` nor the public clauses of `plan` speak of it.
use Rattle.std.specs.Prelude.{◌+◌, ◌==◌, ℕ, max, not, nat_lt, if◌then◌else◌, List, [], ◌∷◌, length, Option}
use Rattle.std.specs.Option.{option_map}
use Rattle.fuse_wire.specs.Errnos.{ebadf, eisdir, einval, efbig, enospc}
use Rattle.fuse_wire.specs.declared.moment.Moment.{Moment}
use Rattle.fuse_request.specs.declared.request.ReadIn.{ReadIn}
use Rattle.fuse_rows.specs.Bounds.{read_limit}
use Rattle.fuse_rows.specs.declared.rows.NodeRow.{NodeRow}
use Rattle.fuse_init.specs.declared.profile.Profile.{Profile}
use Rattle.fuse_init.specs.Profile.{terms}
use Rattle.fuse_rows.specs.declared.rows.Counters.{Counters as CountersRow}
use Rattle.fuse_rows.specs.declared.rows.Change.{Change}
use Rattle.fuse_rows.specs.declared.rows.Change.TheVariants as changes
use Rattle.fuse_plan.specs.declared.planned.Planned.{Planned}
use Rattle.fuse_tree.specs.Checks.{Check, Where}
use Rattle.fuse_tree.specs.State.{is_dir}
use Rattle.fuse_rows.specs.Rows.{Rows, bytes_at}
use Rattle.fuse_tree.specs.Handles.{access_at}
use Rattle.fuse_tree.specs.Writing.{Writing, may_write, may_read, count_body}
use Rattle.fuse_tree.specs.Space.{has_room}
use Rattle.fuse_plan.specs.inner.PlanSpace.{counters_for, room_in, room_changes, newly_in}
use Rattle.fuse_plan.specs.inner.Reading.{refused, refused_by, told}

-- ---- WRITE

-- a file's row when bytes that end here are written, and so many blocks with them
abbrev pub written_row : ℕ → ℕ → Moment → NodeRow → NodeRow
written_row end more now row = record row { size = max row.size end; mtime = now; ctime = now; written = option_map (λ w. w + more) row.written }

abbrev pub write_changes : ℕ → List ℕ → ℕ → Moment → NodeRow → Option CountersRow → List Change
write_changes offset payload more now row counters =
    changes.Node (written_row (offset + length payload) more now row) ∷ changes.Written row.node offset payload ∷ room_changes counters (λ used. used + more)

abbrev pub plan_written : ℕ → List ℕ → ℕ → Moment → NodeRow → Option CountersRow → Planned
plan_written offset payload more now row counters =
    record { answer = record { errno = 0; body = count_body (length payload) }; changes = write_changes offset payload more now row counters }

-- where there is room for the blocks that become written
abbrev pub plan_room : ℕ → List ℕ → ℕ → Moment → NodeRow → Option CountersRow → Planned
plan_room offset payload more now row counters =
    if not (has_room (room_in counters) more) then refused enospc else plan_written offset payload more now row counters

abbrev pub plan_write : Profile → ℕ → Writing → NodeRow → Rows → Planned
plan_write p fh w row rows =
    if not (may_write (access_at rows.handles fh row.node)) then refused ebadf
    else if length w.payload == 0 then told (count_body 0)
    else if nat_lt (terms p).file_limit (w.offset + length w.payload) then refused efbig
    else plan_room w.offset w.payload (newly_in rows row w.offset (length w.payload)) w.now row (counters_for p rows)

-- ---- READ

abbrev pub row_read_checks : ReadIn → NodeRow → Rows → List Check
row_read_checks asked row rows =
    Where ebadf (not (may_read (access_at rows.handles asked.fh row.node))) ∷ Where eisdir (is_dir row.mode) ∷ Where einval (nat_lt read_limit asked.size) ∷ []

abbrev pub plan_read : ReadIn → NodeRow → Rows → Planned
plan_read asked row rows = refused_by (row_read_checks asked row rows) (told (bytes_at rows row.node asked.offset asked.size))
