-- The action of a request within a transaction (defined by this project).
use Rattle.std.specs.Prelude.{◌≡◌, IsTrue, Option, Some, None}
use Rattle.sqlite.specs.State.{HasCleanDisk}
use Rattle.fuse_answer.specs.Said.{Said}
use Rattle.fuse_tree.specs.State.{State as TreeState, Tree}
use Rattle.fuse_tree.specs.Done.{Done}
use Rattle.fuse_tree.specs.Rowed.{rowed}
use Rattle.fuse_store_tables.specs.Moves.{InsideAs}
use Rattle.fuse_store_tree.specs.Store.{Store, Held}
use Rattle.fuse_store_tree.specs.Knowing.{KnownTables, Knows}
use Rattle.fuse_keeper.specs.declared.fault.StoreFault.{StoreFault}
use Rattle.fuse_keeper.specs.declared.fault.StoreFault.TheVariants.{Memory, Damaged}
use Rattle.fuse_plan.specs.declared.planning.fault.PlanFault.{PlanFault}
use Rattle.fuse_store_tree.specs.inner.Writing.{with_rows}
use Rattle.fuse_plan.specs.declared.planning.fault.PlanFault.TheVariants as plans

-- the tables held the rows of this tree, and hold those of the tree after the request; the answer is the one said, and what is known is right
pub record ActedInside (new : KnownTables) (x : Store) (d : Done) (answer : Said) : Type 0 where
  pub answer_is : answer ≡ d.said
  pub tree : Tree d.state
  pub inside : InsideAs (Held new.file.bytes (with_rows (rowed d.state) x)) new.tables
  pub knows : Knows new.known (rowed d.state)

abbrev pub ActsInside : KnownTables → KnownTables → TreeState → Done → Said → Type 0
ActsInside old new s d answer =
    HasCleanDisk new.tables → IsTrue new.file.is_clean → (x : Store) → x.rows ≡ rowed s → InsideAs (Held old.file.bytes x) old.tables → Knows old.known x.rows
    → ActedInside new x d answer

-- the fault that was the cause of one of a read
abbrev pub cause_in : Option StoreFault → StoreFault
cause_in None = Damaged
cause_in (Some f) = f

-- the fault of a request without a plan
abbrev pub why_no_plan : PlanFault → Option StoreFault → StoreFault
why_no_plan plans.Memory looked = Memory
why_no_plan plans.NotATree looked = Damaged
why_no_plan (plans.Look f) looked = cause_in looked
