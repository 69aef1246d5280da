-- The plans of MKNOD and MKDIR over the rows (defined by this project), in the order of their checks.
-- Not part of what is trusted: neither `done` nor the public clauses of `plan` speak of it.
use Rattle.std.specs.Prelude.{◌<◌, ◌+◌, ℕ, not, if◌then◌else◌, List, [], ◌∷◌, is_some}
use Rattle.std.specs.Option.{option_map}
use Rattle.fuse_wire.specs.Errnos.{enoent, eexist, enotdir, einval, enospc}
use Rattle.fuse_rows.specs.Bounds.{node_limit, number_end}
use Rattle.fuse_init.specs.Profile.{terms}
use Rattle.fuse_tree.specs.declared.agreement.Agreement.{Agreement}
use Rattle.fuse_tree.specs.declared.new_node.NewNode.{NewNode}
use Rattle.fuse_rows.specs.declared.rows.NodeRow.{NodeRow}
use Rattle.fuse_rows.specs.declared.rows.EntryRow.{EntryRow}
use Rattle.fuse_rows.specs.declared.rows.Counters.{Counters as CountersRow}
use Rattle.fuse_rows.specs.declared.rows.Change.{Change}
use Rattle.fuse_rows.specs.declared.rows.Change.TheVariants as changes
use Rattle.fuse_plan.specs.declared.planned.Planned.{Planned}
use Rattle.fuse_tree.specs.Checks.{Check, Where, Part}
use Rattle.fuse_tree.specs.State.{is_dir, type_bits, name_tests}
use Rattle.fuse_rows.specs.Rows.{Rows, entry_at, row_is_named}
use Rattle.fuse_tree.specs.Keeping.{valid_of}
use Rattle.fuse_tree.specs.Making.{is_full, of_mode, begun, dir_mode, may_make, typed}
use Rattle.fuse_plan.specs.inner.Reading.{refused_by, entry_body}

-- ---- a new node

abbrev pub new_row : CountersRow → NewNode → ℕ → NodeRow
new_row counters fresh up = record {
  node = counters.next_node;
  mode = fresh.mode;
  uid = fresh.uid;
  gid = fresh.gid;
  rdev = fresh.rdev;
  size = 0;
  atime = fresh.made;
  mtime = fresh.made;
  ctime = fresh.made;
  up = up;
  subdirs = 0;
  written = option_map (λ _. 0) counters.room;
}

-- a directory's row when this node is made in it
abbrev pub dir_row_with : NewNode → NodeRow → NodeRow
dir_row_with fresh row = record row { mtime = fresh.made; ctime = fresh.made; subdirs = if is_dir fresh.mode then row.subdirs + 1 else row.subdirs }

abbrev pub new_entry_row : CountersRow → ℕ → List ℕ → EntryRow
new_entry_row counters dir name = record { dir = dir; name = name; child = counters.next_node; cookie = counters.next_cookie }

-- the counters may rise
pub record HasPlace (counters : CountersRow) : Type 0 where
  pub nodes : counters.nodes < node_limit
  pub next_node : counters.next_node < number_end
  pub next_cookie : counters.next_cookie < number_end

abbrev pub counters_after : CountersRow → CountersRow
counters_after counters = record counters { next_node = counters.next_node + 1; next_cookie = counters.next_cookie + 1; nodes = counters.nodes + 1 }

abbrev pub changes_of : CountersRow → NewNode → List ℕ → NodeRow → List Change
changes_of counters fresh name row =
    changes.Node (dir_row_with fresh row) ∷ changes.Node (new_row counters fresh row.node) ∷ changes.Entry (new_entry_row counters row.node name)
    ∷ changes.Counters (counters_after counters) ∷ []

abbrev pub plan_new : ℕ → CountersRow → NewNode → List ℕ → NodeRow → Planned
plan_new valid counters fresh name row =
    record { answer = record { errno = 0; body = entry_body valid (new_row counters fresh row.node) }; changes = changes_of counters fresh name row }

-- the checks on the place of a new node in the directory of this row
abbrev pub row_place_checks : Agreement → List ℕ → NodeRow → Rows → List Check
row_place_checks a name row rows =
    Where enoent (not (row_is_named row)) ∷ Where eexist (is_some (entry_at rows.entries row.node name))
    ∷ Where enospc (is_full (terms a.profile).node_limit rows.counters.nodes rows.counters.next_node rows.counters.next_cookie) ∷ []

abbrev pub plan_make : Agreement → NewNode → List ℕ → NodeRow → Rows → Planned
plan_make a fresh name row rows = refused_by (row_place_checks a name row rows) (plan_new (valid_of a) rows.counters fresh name row)

-- the initial attributes of a node that is asked for in the directory of this row
abbrev pub node_begun_at : Agreement → NodeRow → NewNode → NewNode
node_begun_at a row asked = begun (terms a.profile) row.mode row.gid asked

-- ---- MKDIR

abbrev pub row_mkdir_checks : Agreement → List ℕ → NodeRow → Rows → List Check
row_mkdir_checks a name row rows = Where enotdir (not (is_dir row.mode)) ∷ Part (name_tests name) ∷ row_place_checks a name row rows

abbrev pub plan_mkdir : Agreement → NewNode → List ℕ → NodeRow → Rows → Planned
plan_mkdir a asked name row rows =
    refused_by (row_mkdir_checks a name row rows)
    (plan_new (valid_of a) rows.counters (node_begun_at a row (of_mode (dir_mode asked.mode) asked)) name row)

-- ---- MKNOD

abbrev pub row_mknod_checks : Agreement → ℕ → List ℕ → NodeRow → Rows → List Check
row_mknod_checks a mode name row rows =
    Where enotdir (not (is_dir row.mode)) ∷ Where einval (not (may_make (type_bits mode))) ∷ Part (name_tests name) ∷ row_place_checks a name row rows

abbrev pub plan_mknod : Agreement → NewNode → List ℕ → NodeRow → Rows → Planned
plan_mknod a asked name row rows =
    refused_by (row_mknod_checks a asked.mode name row rows) (plan_new (valid_of a) rows.counters (node_begun_at a row (typed asked)) name row)
