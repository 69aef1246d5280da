-- The plan of READDIR over the rows (defined by this project), in the order of its checks.
-- Not part of what is trusted: neither `done` nor the public clauses of `plan` speak of it.
use Rattle.std.specs.Prelude.{◌≡◌, ◌≢◌, ◌<◌, ◌≤◌, ◌+◌, ◌/◌, ◌==◌, ℕ, not, nat_lt, if◌then◌else◌, List, [], ◌∷◌, ◌++◌, length, map, take, filter, Option, Some, None, Result, IfOk, IfErr, IfSome}
use Rattle.std.specs.List.{sum_by}
use Rattle.fuse_wire.specs.Errnos.{enoent, ebadf, enotdir, einval}
use Rattle.fuse_request.specs.declared.request.ReadIn.{ReadIn}
use Rattle.fuse_answer.specs.Entries.{DirectoryEntry, entry_len, entries_bytes}
use Rattle.fuse_rows.specs.Bounds.{read_limit, name_limit, fuse_root_id, least_entry}
use Rattle.fuse_plan.specs.declared.planning.fault.PlanFault.{PlanFault}
use Rattle.fuse_plan.specs.declared.planning.fault.PlanFault.TheVariants as faults
use Rattle.fuse_rows.specs.declared.rows.NodeRow.{NodeRow}
use Rattle.fuse_rows.specs.declared.rows.EntryRow.{EntryRow}
use Rattle.fuse_rows.specs.declared.rows.Child.{Child}
use Rattle.fuse_plan.specs.declared.planned.Planned.{Planned}
use Rattle.fuse_tree.specs.Checks.{Check, Where}
use Rattle.fuse_tree.specs.State.{is_dir, type_of}
use Rattle.fuse_rows.specs.Rows.{Rows, with_child, entries_after, row_is_named}
use Rattle.fuse_tree.specs.Rowed.{IsRowed}
use Rattle.fuse_tree.specs.Handles.{is_open}
use Rattle.fuse_plan.specs.Plan.{look_fault}
use Rattle.fuse_tree.specs.Listing.{dots, is_following, longest_prefix, first_fits}
use Rattle.fuse_plan.specs.inner.Reading.{IsWithin, refused, refused_by, told}

-- ---- the entries of a directory

abbrev pub row_above : NodeRow → ℕ
row_above row = if row.node == fuse_root_id then fuse_root_id else row.up

abbrev pub row_kind : Option NodeRow → ℕ
row_kind None = 0
row_kind (Some row) = type_of row.mode

abbrev pub listed_child : Child → DirectoryEntry
listed_child c = record { ino = c.entry.child; off = c.entry.cookie; kind = row_kind c.row; name = c.entry.name }

abbrev pub row_entry : Rows → EntryRow → DirectoryEntry
row_entry rows e = listed_child (with_child rows e)

-- more entries than can fit
abbrev pub enough : ℕ → ℕ
enough size = size / least_entry + 1

abbrev pub dots_after : ℕ → NodeRow → List DirectoryEntry
dots_after offset row = filter (is_following offset) (dots row.node (row_above row))

abbrev pub rows_after : ℕ → ℕ → NodeRow → Rows → List DirectoryEntry
rows_after offset size row rows = dots_after offset row ++ map (row_entry rows) (entries_after rows row.node offset (enough size))

-- how many bytes the entry takes in a listing
abbrev pub row_len : Child → ℕ
row_len c = entry_len (length c.entry.name)

-- where each takes so many bytes more
abbrev pub row_len_with : ℕ → Child → ℕ
row_len_with extra c = extra + row_len c

-- the first n are followed by one that ends past so many bytes, or they are all
pub record IsCut (extra : ℕ) (cs : List Child) (left n : ℕ) : Type 0 where
  pub within : n ≤ length cs
  pub past : n < length cs → left < sum_by (row_len_with extra) (take (n + 1) cs)

-- ---- READDIR

abbrev pub row_list_checks : ReadIn → NodeRow → Rows → List Check
row_list_checks asked row rows =
    Where ebadf (not (is_open rows.handles asked.fh row.node)) ∷ Where enotdir (not (is_dir row.mode)) ∷ Where einval (nat_lt read_limit asked.size)
    ∷ Where enoent (not (row_is_named row)) ∷ []

abbrev pub plan_prefix : List DirectoryEntry → ℕ → Planned
plan_prefix es size = if not (first_fits es size) then refused einval else told (entries_bytes (longest_prefix es size))

abbrev pub plan_list : ℕ → ℕ → NodeRow → Rows → Planned
plan_list offset size row rows = plan_prefix (rows_after offset size row rows) size

abbrev pub plan_read_dir : ReadIn → NodeRow → Rows → Planned
plan_read_dir asked row rows = refused_by (row_list_checks asked row rows) (plan_list asked.offset asked.size row rows)

-- ---- the answers of the parts

-- `IsReadOff`, of what is seen of the answer
abbrev pub ReadsBy : {X Y : Type 0} → (X → Y) → Type 0 → (Rows → Type 0) → Result X PlanFault → (Rows → Y) → Type 0
ReadsBy view clean sees result told =
    look_fault result ≡ None → clean → (rows : Rows) → IsRowed rows → sees rows
    → IfOk result (λ x. view x ≡ told rows) × IfErr result (λ fault. fault ≢ faults.NotATree)

-- an entry has a name of 1 to 255 bytes, and leads to a row within the bounds of every profile
pub record IsShown (c : Child) : Type 0 where
  pub some : 1 ≤ length c.entry.name
  pub short : length c.entry.name ≤ name_limit
  pub there : c.row ≢ None
  pub within : IfSome c.row IsWithin
