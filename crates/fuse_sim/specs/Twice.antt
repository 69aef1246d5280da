-- Two lists of events, one after the other (defined by this project).
use Rattle.std.specs.Prelude.{◌≡◌, ◌⊎◌, ℕ, true, false, List, [], ◌++◌, Option, None, All}
use Rattle.fuse_keeper.specs.declared.fault.StoreFault.{StoreFault}
use Rattle.fuse_keeper.specs.History.{History}
use Rattle.fuse_keeper.specs.Model.{Model}
use Rattle.fuse_keeper.specs.KeeperState.{KeeperState, IsFirm}
use Rattle.fuse_keeper.specs.Performance.{Performance}
use Rattle.fuse_sim.specs.declared.event.Event.{Event}
use Rattle.fuse_sim.specs.declared.event.DriveFault.{DriveFault}
use Rattle.fuse_sim.specs.Driving.{told_in, StandsIn, committed, settled_by, NoneReused, IsFit, Names, before, is_store, LeftBy, Opened, OfRestart, AnsweredBy}
use Rattle.fuse_sim.specs.Driving.{StoodBefore, MayRefuse}
use Rattle.fuse_sim.specs.AfterEvents.{DeletesHanded}
use Rattle.fuse_sim.specs.HandedOn.{performances, AsksThen, AskedSome}

-- what contracts see of a type of keepers
pub record Seen (M : Model) (K : Type 0) : Type 1 where
  pub told : K → KeeperState M
  pub became : K → K → ℕ → Type 0
  pub performed : K → K → List Performance → Type 0
  pub may_refuse : K → StoreFault → Type 0

abbrev pub seen_of : {M : Model} {K R : Type 0} → (K → KeeperState M) → (K → K → ℕ → Type 0) → (K → K → List Performance → Type 0)
    → (K → StoreFault → R → Type 0) → Seen M K
seen_of told became performed refuses = record { told = told; became = became; performed = performed; may_refuse = MayRefuse refuses }

-- a fault came at a list, after all of the events `first`: it names the event of the list, and what is left and was done before
-- it is as after a fault of `drive`
pub record StoppedInSecond {M : Model} {K : Type 0} (k : Seen M K) (old new : Option K) (first list : List Event) (fault : DriveFault) : Type 0 where
  pub named : Names fault list
  pub stands : (s : M.State) (h : History) (t : List ℕ) → StandsIn k.told old s h t → NoneReused M.service t (first ++ before fault list)
      → LeftBy (told_in k.told new) (is_store fault)
      (StandsIn k.told new s (committed M.service h (first ++ before fault list)) (settled_by M.service t (first ++ before fault list)))
  pub records : LeftBy (told_in k.told new) (is_store fault)
      (DeletesHanded k.told old new (performances M.service first ++ performances M.service (before fault list)) (first ++ before fault list))
  pub opened : ¬ (new ≡ None) → Opened k.told k.became old new (first ++ before fault list)
  pub stood : ¬ (new ≡ None) → StoodBefore k.told k.became old new (first ++ before fault list)
  pub asked : ¬ (new ≡ None) → AskedSome k.performed old new (AsksThen (told_in k.told old).service first list fault)
  pub store : is_store fault ≡ true → (told_in k.told new).is_clean → (s : M.State) (h : History) (t : List ℕ) → StandsIn k.told old s h t
      → NoneReused M.service t (first ++ before fault list) → AnsweredBy k.told k.became old new (first ++ before fault list) fault
  pub emptied : new ≡ None → OfRestart k.became k.may_refuse old (first ++ before fault list) list fault
  pub firm : is_store fault ≡ false → (told_in k.told new).is_honest → IsFirm (told_in k.told old) → IsFirm (told_in k.told new)

-- it came at the first list, or at the second one after all of the first
abbrev pub StoppedAt : {M : Model} {K : Type 0} → Seen M K → Option K → Option K → List Event → List Event → DriveFault → Type 0
StoppedAt k old new events more fault = StoppedInSecond k old new [] events fault ⊎ (All IsFit events × StoppedInSecond k old new events more fault)
