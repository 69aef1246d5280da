-- A read of the tables of version 2 within a transaction (defined by this project).
use Rattle.std.specs.Prelude.{Result, IfOk, IfErr}
use Rattle.sqlite.specs.State.{State, HasCleanDisk}
use Rattle.fuse_keeper.specs.declared.fault.StoreFault.{StoreFault}
use Rattle.fuse_store_tables.specs.declared.version.Layout.TheVariants.{Second}
use Rattle.fuse_store_tables.specs.Content.{Content}
use Rattle.fuse_store_tables.specs.Faults.{IsOutside, IsPlain}
use Rattle.fuse_store_tables.specs.Moves.{InsideAs, Takes}
use Rattle.fuse_store_tables.specs.inner.Performing.{OnlyReads, StaysWithin}
use Rattle.fuse_store_tables.specs.inner.Steps.{HoldsIn}

-- Of tables of which something is known, it finds this; a fault says nothing of them.
pub record ReadsIf {X : Type 0} (Known : Content → Type 0) (Found : Content → X → Type 0) (old new : State) (result : Result X StoreFault) : Type 0 where
  pub takes : Takes (HoldsIn Second) (HoldsIn Second) old new result
  pub reads : OnlyReads old new result
  pub within : StaysWithin old new result
  pub found : HasCleanDisk new → IfOk result (λ x. (c : Content) → InsideAs (HoldsIn Second c) old → Known c → Found c x)
  pub sure : HasCleanDisk new → IfErr result (λ f. (c : Content) → InsideAs (HoldsIn Second c) old → Known c → IsOutside f)
  pub plain : IfErr result IsPlain
