-- How a store is verified (defined by this project).
use Rattle.std.specs.Prelude.{◌≡◌, ℕ, List, Option}
use Rattle.sqlite.specs.State.{State}
use Rattle.fuse_store_tree.specs.StoreState.{StoreState}
use Rattle.fuse_keeper.specs.declared.fault.StoreFault.{StoreFault}
use Rattle.fuse_store.specs.Opening.{Stored, WasFor}
use Rattle.fuse_show.specs.declared.tally.Tally.{Tally}
use Rattle.fuse_show.specs.declared.verify.VerifyFault.{VerifyFault}
use Rattle.fuse_show.specs.declared.verify.VerifyFault.TheVariants as walk
use Rattle.fuse_show.specs.Sinks.{Way}
use Rattle.fuse_show.specs.Verdict.{Counts}
use Rattle.fuse_commands.specs.declared.ending.Ending.{Ending}
use Rattle.fuse_commands.specs.declared.ending.Ending.TheVariants as ending
use Rattle.fuse_files.specs.StoreShown.{SaysNothing}
use Rattle.fuse_files.specs.StoreVerified.{rows_begun, IsStoreEnding, Verdicts}
use Rattle.fuse_files.specs.inner.Showing.{showing_ending, WasInside}

-- the ending of a walk with this fault, over a look that has this one
abbrev pub walk_ending : Option StoreFault → VerifyFault → Ending
walk_ending fault (walk.Look f) = showing_ending fault
walk_ending fault walk.Wrong = ending.Damaged
walk_ending fault walk.Memory = ending.Memory
walk_ending fault walk.Output = ending.PortFailed

-- an ending without a verdict says nothing of the store of a database
abbrev pub IsUnsaidOver : StoreState → Ending → Type 0
IsUnsaidOver s e = IsStoreEnding e × ((z : Stored) → WasFor z s → SaysNothing e)

abbrev pub IsCountedOver : StoreState → Tally → Type 0
IsCountedOver s t = (z : Stored) → WasFor z s → Counts (rows_begun z).counters t

-- the same of a database
abbrev pub VerifiesOver : StoreState → Ending → Way → List ℕ → Type 0
VerifiesOver s e = Verdicts (IsUnsaidOver s) (IsCountedOver s) e

-- the same where its contents lie in its tables
abbrev pub IsUnsaidInside : State → Ending → Type 0
IsUnsaidInside s e = IsStoreEnding e × ((z : Stored) → WasInside z s → SaysNothing e)

abbrev pub IsCountedInside : State → Tally → Type 0
IsCountedInside s t = (z : Stored) → WasInside z s → Counts (rows_begun z).counters t

abbrev pub VerifiesInside : State → Ending → Way → List ℕ → Type 0
VerifiesInside s e = Verdicts (IsUnsaidInside s) (IsCountedInside s) e
