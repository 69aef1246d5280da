-- The plan of SYMLINK over the rows (defined by this project), in the order of its checks.
-- Not part of what is trusted: neither `done` nor the public clauses of `plan` speak of it.
use Rattle.std.specs.Prelude.{◌+◌, ℕ, not, List, [], ◌∷◌, ◌++◌, length}
use Rattle.std.specs.Option.{option_map}
use Rattle.fuse_wire.specs.Errnos.{enotdir, enospc}
use Rattle.fuse_tree.specs.declared.agreement.Agreement.{Agreement}
use Rattle.fuse_tree.specs.Keeping.{valid_of}
use Rattle.fuse_rows.specs.declared.origin.Origin.{Origin}
use Rattle.fuse_tree.specs.declared.new_node.NewNode.{NewNode}
use Rattle.fuse_rows.specs.declared.rows.NodeRow.{NodeRow}
use Rattle.fuse_rows.specs.declared.rows.Counters.{Counters as CountersRow}
use Rattle.fuse_rows.specs.declared.rows.Change.{Change}
use Rattle.fuse_rows.specs.declared.rows.Change.TheVariants as changes
use Rattle.fuse_plan.specs.declared.planned.Planned.{Planned}
use Rattle.fuse_tree.specs.Checks.{Check, Where, Part}
use Rattle.fuse_tree.specs.State.{is_dir, name_tests}
use Rattle.fuse_rows.specs.Rows.{Rows}
use Rattle.fuse_tree.specs.Space.{has_room}
use Rattle.fuse_tree.specs.Symlinking.{link_mode, target_tests}
use Rattle.fuse_tree.specs.Making.{asked_node}
use Rattle.fuse_plan.specs.inner.PlanSpace.{counters_used}
use Rattle.fuse_plan.specs.inner.PlanMaking.{new_row, dir_row_with, new_entry_row, counters_after, row_place_checks, node_begun_at}
use Rattle.fuse_plan.specs.inner.Reading.{refused_by, entry_body}

abbrev pub link_row : CountersRow → NewNode → ℕ → ℕ → NodeRow
link_row counters fresh size up = record (new_row counters fresh up) { size = size; written = option_map (λ _. 1) counters.room }

abbrev pub link_changes : CountersRow → NewNode → List ℕ → List ℕ → NodeRow → List Change
link_changes counters fresh target name row =
    changes.Node (dir_row_with fresh row) ∷ changes.Node (link_row counters fresh (length target) row.node) ∷ changes.Entry (new_entry_row counters row.node name)
    ∷ changes.Written counters.next_node 0 target ∷ changes.Counters (counters_used (λ used. used + 1) (counters_after counters)) ∷ []

abbrev pub plan_new_link : ℕ → CountersRow → NewNode → List ℕ → List ℕ → NodeRow → Planned
plan_new_link valid counters fresh target name row = record {
  answer = record { errno = 0; body = entry_body valid (link_row counters fresh (length target) row.node) };
  changes = link_changes counters fresh target name row;
}

-- there must be room for a node and for the block of its target
abbrev pub row_link_checks : Agreement → List ℕ → List ℕ → NodeRow → Rows → List Check
row_link_checks a target name row rows = row_place_checks a name row rows ++ Where enospc (not (has_room rows.counters.room 1)) ∷ []

abbrev pub row_symlink_checks : Agreement → List ℕ → List ℕ → NodeRow → Rows → List Check
row_symlink_checks a target name row rows =
    Where enotdir (not (is_dir row.mode)) ∷ Part (name_tests name) ∷ Part (target_tests target) ∷ row_link_checks a target name row rows

abbrev pub plan_link : Agreement → NewNode → List ℕ → List ℕ → NodeRow → Rows → Planned
plan_link a fresh target name row rows =
    refused_by (row_link_checks a target name row rows) (plan_new_link (valid_of a) rows.counters fresh target name row)

abbrev pub plan_symlink : Agreement → Origin → List ℕ → List ℕ → NodeRow → Rows → Planned
plan_symlink a from target name row rows =
    refused_by (row_symlink_checks a target name row rows)
    (plan_new_link (valid_of a) rows.counters (node_begun_at a row (asked_node from link_mode 0)) target name row)
