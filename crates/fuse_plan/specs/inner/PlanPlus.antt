-- The plan of READDIRPLUS over the rows (defined by this project), in the order of its checks.
-- Not part of what is trusted: neither `done` nor the public clauses of `plan` speak of it.
use Rattle.std.specs.Prelude.{◌+◌, ◌/◌, ℕ, not, if◌then◌else◌, List, ◌++◌, map, None}
use Rattle.std.specs.Option.{option_map}
use Rattle.fuse_wire.specs.Errnos.{einval}
use Rattle.fuse_request.specs.declared.request.ReadIn.{ReadIn}
use Rattle.fuse_answer.specs.Entries.{DirectoryEntry}
use Rattle.fuse_answer.specs.PlusEntries.{PlusEntry, plus_len, plus_bytes}
use Rattle.fuse_answer.specs.Sizes.{entry_out_size}
use Rattle.fuse_rows.specs.Bounds.{least_entry}
use Rattle.fuse_rows.specs.declared.rows.NodeRow.{NodeRow}
use Rattle.fuse_rows.specs.declared.rows.EntryRow.{EntryRow}
use Rattle.fuse_rows.specs.declared.rows.Child.{Child}
use Rattle.fuse_plan.specs.declared.planned.Planned.{Planned}
use Rattle.fuse_rows.specs.Rows.{Rows, with_child, entries_after}
use Rattle.fuse_tree.specs.Done.{entry_out_of}
use Rattle.fuse_tree.specs.Listing.{longest_by, first_fits_by}
use Rattle.fuse_plan.specs.inner.PlanListing.{listed_child, dots_after, row_list_checks}
use Rattle.fuse_plan.specs.inner.Reading.{refused, refused_by, told, row_attr}

-- the directory itself or the one above it
abbrev pub plus_dot : DirectoryEntry → PlusEntry
plus_dot e = record { out = None; entry = e }

abbrev pub listed_plus : ℕ → Child → PlusEntry
listed_plus valid c = record { out = option_map (λ row. entry_out_of valid (row_attr row)) c.row; entry = listed_child c }

abbrev pub row_plus : ℕ → Rows → EntryRow → PlusEntry
row_plus valid rows e = listed_plus valid (with_child rows e)

-- more entries than can fit
abbrev pub enough_plus : ℕ → ℕ
enough_plus size = size / (entry_out_size + least_entry) + 1

abbrev pub plus_after : ℕ → ℕ → ℕ → NodeRow → Rows → List PlusEntry
plus_after valid offset size row rows =
    map plus_dot (dots_after offset row) ++ map (row_plus valid rows) (entries_after rows row.node offset (enough_plus size))

abbrev pub plan_plus_prefix : List PlusEntry → ℕ → Planned
plan_plus_prefix es size = if not (first_fits_by plus_len es size) then refused einval else told (plus_bytes (longest_by plus_len es size))

abbrev pub plan_list_plus : ℕ → ℕ → ℕ → NodeRow → Rows → Planned
plan_list_plus valid offset size row rows = plan_plus_prefix (plus_after valid offset size row rows) size

abbrev pub plan_read_dir_plus : ℕ → ReadIn → NodeRow → Rows → Planned
plan_read_dir_plus valid asked row rows = refused_by (row_list_checks asked row rows) (plan_list_plus valid asked.offset asked.size row rows)
