-- The plan of CREATE over the rows (defined by this project), in the order of its checks.
-- Not part of what is trusted: neither `done` nor the public clauses of `plan` speak of it.
use Rattle.std.specs.Prelude.{ℕ, List, [], ◌∷◌, Option, Some, None}
use Rattle.fuse_wire.specs.declared.access_mode.AccessMode.{AccessMode}
use Rattle.fuse_wire.specs.Errnos.{einval}
use Rattle.fuse_wire.specs.Flags.{access_of}
use Rattle.fuse_init.specs.Profile.{terms}
use Rattle.fuse_answer.specs.FurtherAnswers.{create_bytes}
use Rattle.fuse_tree.specs.declared.agreement.Agreement.{Agreement}
use Rattle.fuse_tree.specs.Keeping.{valid_of}
use Rattle.fuse_tree.specs.declared.new_node.NewNode.{NewNode}
use Rattle.fuse_rows.specs.declared.rows.NodeRow.{NodeRow}
use Rattle.fuse_rows.specs.declared.rows.Counters.{Counters as CountersRow}
use Rattle.fuse_rows.specs.declared.rows.Change.{Change}
use Rattle.fuse_rows.specs.declared.rows.Change.TheVariants as changes
use Rattle.fuse_plan.specs.declared.planned.Planned.{Planned}
use Rattle.fuse_rows.specs.Rows.{Rows}
use Rattle.fuse_tree.specs.Done.{entry_out_of}
use Rattle.fuse_tree.specs.Making.{of_mode}
use Rattle.fuse_tree.specs.Opening.{open_fault, open_of, new_handle}
use Rattle.fuse_tree.specs.Creating.{file_mode}
use Rattle.fuse_plan.specs.inner.PlanMaking.{new_row, dir_row_with, new_entry_row, counters_after, row_place_checks, row_mkdir_checks, node_begun_at}
use Rattle.fuse_plan.specs.inner.PlanOpening.{counters_opened}
use Rattle.fuse_plan.specs.inner.Reading.{refused, refused_for, refused_by, row_attr}

abbrev pub create_changes : CountersRow → NewNode → List ℕ → AccessMode → NodeRow → List Change
create_changes counters fresh name access row =
    changes.Node (dir_row_with fresh row) ∷ changes.Node (new_row counters fresh row.node) ∷ changes.Entry (new_entry_row counters row.node name)
    ∷ changes.Handle (new_handle counters.next_fh counters.next_node access) ∷ changes.Counters (counters_opened (counters_after counters)) ∷ []

abbrev pub create_body : Agreement → CountersRow → NewNode → ℕ → List ℕ
create_body a counters fresh up =
    create_bytes (record { entry = entry_out_of (valid_of a) (row_attr (new_row counters fresh up)); «open» = open_of (terms a.profile).open_flags counters.next_fh })

abbrev pub plan_created : Agreement → CountersRow → NewNode → List ℕ → AccessMode → NodeRow → Planned
plan_created a counters fresh name access row =
    record { answer = record { errno = 0; body = create_body a counters fresh row.node }; changes = create_changes counters fresh name access row }

abbrev pub plan_create_for : Agreement → NewNode → List ℕ → Option AccessMode → NodeRow → Rows → Planned
plan_create_for a fresh name None row rows = refused einval
plan_create_for a fresh name (Some access) row rows =
    refused_for (open_fault rows.counters.handles rows.counters.next_fh) (plan_created a rows.counters fresh name access row)

-- where the name is one of a directory
abbrev pub plan_create_in : Agreement → NewNode → ℕ → List ℕ → NodeRow → Rows → Planned
plan_create_in a fresh flags name row rows = refused_by (row_place_checks a name row rows) (plan_create_for a fresh name (access_of flags) row rows)

abbrev pub plan_create : Agreement → NewNode → ℕ → List ℕ → NodeRow → Rows → Planned
plan_create a asked flags name row rows =
    refused_by (row_mkdir_checks a name row rows)
    (plan_create_for a (node_begun_at a row (of_mode (file_mode asked.mode) asked)) name (access_of flags) row rows)
