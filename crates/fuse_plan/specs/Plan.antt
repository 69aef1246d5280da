-- The contract of `plan` (defined by this project).
use Rattle.std.specs.Prelude.{◌≡◌, Bool, true, false, List, Option, Some, None, Result, Ok, Err}
use Rattle.fuse_tree.specs.declared.look.LookFault.{LookFault}
use Rattle.fuse_plan.specs.declared.planning.fault.PlanFault.{PlanFault}
use Rattle.fuse_plan.specs.declared.planning.fault.PlanFault.TheVariants as faults
use Rattle.fuse_rows.specs.declared.rows.Change.{Change}
use Rattle.fuse_rows.specs.declared.rows.Change.TheVariants as changes
use Rattle.fuse_plan.specs.declared.planned.Planned.{Planned}
use Rattle.fuse_tree.specs.State.{State, Tree, Apart}
use Rattle.fuse_rows.specs.Rows.{apply}
use Rattle.fuse_tree.specs.Rowed.{rowed}
use Rattle.fuse_tree.specs.Done.{Done}
use Rattle.fuse_rows.specs.Columns.{FitColumns}

abbrev pub makes_entry : Change → Bool
makes_entry (changes.Entry entry) = true
makes_entry _ = false

abbrev pub takes_entry : Change → Bool
takes_entry (changes.EntryGone cookie) = true
takes_entry _ = false

-- after a change that makes an entry none deletes one
abbrev pub GoneFirst : List Change → Type 0
GoneFirst = Apart (λ change later. makes_entry change ≡ true → takes_entry later ≡ false)

-- the plan agrees with `done`: its answer is that of `done`, and its changes, each of which fits a table, make the rows of the
-- state after it, a tree
pub record Meets (s : State) (p : Planned) (d : Done) : Type 0 where
  pub answer : p.answer ≡ d.said
  pub rows : apply (rowed s) p.changes ≡ rowed d.state
  pub order : GoneFirst p.changes
  pub fits : FitColumns p.changes
  pub tree : Tree d.state

-- the fault of a look that is answered
abbrev pub look_fault : {X : Type 0} → Result X PlanFault → Option LookFault
look_fault (Ok x) = None
look_fault (Err (faults.Look f)) = Some f
look_fault (Err faults.Memory) = None
look_fault (Err faults.NotATree) = None
