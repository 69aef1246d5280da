-- The outcomes of the events of a script, and the output (defined by this project).
use Rattle.std.specs.Prelude.{◌≡◌, ℕ, codes, List, [], ◌++◌, length, take, Option, Some, None}
use Rattle.std.specs.List.{flat_map}
use Rattle.hex.specs.Hex.{encode_lower}
use Rattle.fuse_request.specs.Opcodes.{Service}
use Rattle.fuse_keeper.specs.declared.fault.StoreFault.{StoreFault}
use Rattle.fuse_keeper.specs.Model.{Model}
use Rattle.fuse_keeper.specs.History.{after}
use Rattle.fuse_keeper.specs.Performance.{Performance}
use Rattle.fuse_keeper.specs.Stands.{Records}
use Rattle.fuse_keeper.specs.KeeperState.{KeeperState, IsFirm, Reports}
use Rattle.fuse_sim.specs.declared.event.Event.{Event}
use Rattle.fuse_sim.specs.declared.event.DriveFault.TheVariants.{Store}
use Rattle.fuse_sim.specs.Driving.{committed, settled_by, outcomes_of, NoneReused, told_in, became_in, performed_in, StandsIn, OutcomesBegin}
use Rattle.fuse_sim.specs.Driving.{MayRefuse, OfRestart, Opened}
use Rattle.fuse_sim.specs.AfterEvents.{DeletesHanded}
use Rattle.fuse_sim.specs.HandedOn.{performances, AskedSome}
use Rattle.fuse_sim.specs.Twice.{Seen}
use Rattle.fuse_commands.specs.declared.ending.Ending.{Ending}
use Rattle.fuse_commands.specs.declared.ending.Ending.TheVariants.{Done, ScriptLine}
use Rattle.fuse_commands.specs.Endings.{store_ending}
use Rattle.fuse_commands.specs.Output.{line, store_line}
use Rattle.fuse_commands.specs.Scripts.{lines_of, WritesAll, FirstBad}

-- the answer that the kernel takes, in hexadecimal, or -
abbrev pub outcome_line : Option (List ℕ) → List ℕ
outcome_line None = line (codes "-")
outcome_line (Some answer) = line (encode_lower answer)

abbrev pub outcome_lines : List (Option (List ℕ)) → List ℕ
outcome_lines outcomes = flat_map outcome_line outcomes

-- how contracts see keepers that can be opened again
abbrev pub driven : {M : Model} {K R : Type 0} → (K → KeeperState M) → (K → K → ℕ → Type 0) → (K → K → List Performance → Type 0)
    → (K → StoreFault → R → Type 0) → Seen M K
driven told became performed refuses = record { told = told; became = became; performed = performed; may_refuse = MayRefuse refuses }

-- the state after events from a start
abbrev pub state_after : (M : Model) → M.State → List Event → M.State
state_after M s events = after M s (committed M.service [] events)

-- the keeper stands for the requests that events from a start committed
abbrev pub StandsFromStart : {M : Model} {K : Type 0} → (K → KeeperState M) → Option K → M.State → List Event → Type 0
StandsFromStart {M} told keeper s events = StandsIn told keeper s (committed M.service [] events) (settled_by M.service [] events)

-- the outcomes of the first events from a start are those that these lead to, up to a message that comes again though its answer was
-- taken
abbrev pub BeginSo : {M : Model} {K : Type 0} → (K → KeeperState M) → Option K → Option K → List Event → List (Option (List ℕ)) → Type 0
BeginSo {M} told old new events outcomes = (told_in told new).is_honest → (earlier later : List Event) → events ≡ earlier ++ later
    → (s : M.State) → StandsIn told old s [] [] → NoneReused M.service [] earlier → OutcomesBegin M s [] earlier outcomes

-- a line for each event, then the counts of the store
abbrev pub simulation_text : (M : Model) → M.State → List Event → List ℕ
simulation_text M s events =
    outcome_lines (outcomes_of M s [] events)
    ++ line (store_line (M.nodes (M.held_for (state_after M s events))) (M.handles (M.held_for (state_after M s events))))

-- a keeper that the first one became returned a fault, and is left
pub record AnsweredFault {M : Model} {K : Type 0} (k : Seen M K) (old new : Option K) (ending : Ending) : Type 0 where
  pub keeper : Option K
  pub often : ℕ
  pub before : became_in k.became old keeper often
  pub after : became_in k.became keeper new 0
  pub fault : StoreFault
  pub may : (told_in k.told keeper).may_answer fault
  pub ends : ending ≡ store_ending fault

-- the server died at one of the events, and the keeper that was in place refused with a fault to be opened again
pub record RefusedAgain {M : Model} {K : Type 0} (k : Seen M K) (old : Option K) (events : List Event) (ending : Ending) : Type 0 where
  pub at : ℕ
  pub fault : StoreFault
  pub refused : OfRestart k.became k.may_refuse old (take at events) events (Store at fault)
  pub ends : ending ≡ store_ending fault

-- so it was at one of the events of a script
pub record RefusedIn {M : Model} {K : Type 0} (k : Seen M K) (old : Option K) (script : List ℕ) (ending : Ending) : Type 0 where
  pub events : List Event
  pub described : WritesAll (lines_of script) events
  pub refused : RefusedAgain k old events ending

-- a fault of the store ended it: one that the keeper left could return, if its store is clean, or, if none is left, one with
-- which a keeper refused to be opened again
abbrev pub StoreEnded : {M : Model} {K : Type 0} → Seen M K → Option K → Option K → List Event → Ending → Type 0
StoreEnded k old None events ending = RefusedAgain k old events ending
StoreEnded k old (Some left) events ending = (k.told left).is_clean → AnsweredFault k old (Some left) ending

-- what the first of these events ask for
pub record AreOfFirst (V : Service) (events : List Event) (asked : List Performance) : Type 0 where
  pub first : List Event
  pub rest : List Event
  pub parts : events ≡ first ++ rest
  pub asked_are : asked ≡ performances V first

-- a fault of the store ended the events of a script, if no message comes again whose answer was taken. A keeper that is left was asked
-- to perform just what the first of them ask for
pub record StoppedIn {M : Model} {K : Type 0} (k : Seen M K) (old new : Option K) (script : List ℕ) (ending : Ending) : Type 0 where
  pub events : List Event
  pub described : WritesAll (lines_of script) events
  pub asked : ¬ (new ≡ None) → AskedSome k.performed old new (AreOfFirst M.service events)
  pub ended : (s : M.State) → StandsIn k.told old s [] [] → NoneReused M.service [] events → StoreEnded k old new events ending

-- some of the first events were committed, and a keeper that is left and whose store is clean stands for these and has the records that
-- they leave. It was asked to perform just what first ones ask for: up to one group more, which its store refused
pub record LeftBySome {M : Model} {K : Type 0} (k : Seen M K) (old new : Option K) (events : List Event) : Type 0 where
  pub first : List Event
  pub rest : List Event
  pub parts : events ≡ first ++ rest
  pub stands : (told_in k.told new).is_clean → (s : M.State) → StandsIn k.told old s [] [] → NoneReused M.service [] first → StandsFromStart k.told new s first
  pub records : (told_in k.told new).is_clean → DeletesHanded k.told old new (performances M.service first) first
  pub asked : ¬ (new ≡ None) → AskedSome k.performed old new (AreOfFirst M.service events)

-- so it is of the events of a script, however it ended
pub record LeftByScript {M : Model} {K : Type 0} (k : Seen M K) (old new : Option K) (script : List ℕ) : Type 0 where
  pub events : List Event
  pub described : WritesAll (lines_of script) events
  pub left : LeftBySome k old new events

-- a script was not run: its first bad line
abbrev pub NotRun : List ℕ → Ending → Type 0
NotRun script (ScriptLine n) = FirstBad 1 (lines_of script) n
NotRun script _ = ⊥

-- the output of events from a start, and the keeper stands for them and is as firm as before
pub record Shown {M : Model} {K : Type 0} (told : K → KeeperState M) (old new : Option K) (prints : List ℕ → Type 0) (s : M.State)
    (events : List Event) : Type 0 where
  pub printed : prints (simulation_text M s events)
  pub stands : StandsFromStart told new s events
  pub firm : IsFirm (told_in told old) → IsFirm (told_in told new)

-- it holds so many nodes and handles
pub record HoldsCounts {M : Model} (k : KeeperState M) (nodes handles : ℕ) : Type 0 where
  pub rows : M.Rows
  pub records : Records
  pub held : k.holds rows records
  pub nodes_are : nodes ≡ M.nodes rows
  pub handles_are : handles ≡ M.handles rows

-- so it is of the second keeper, if the first one holds something of a good state, whatever history that stands for, if any
abbrev pub CountsAre : {M : Model} {K : Type 0} → (K → KeeperState M) → Option K → Option K → ℕ → ℕ → Type 0
CountsAre told old new nodes handles = Reports (told_in told old) (told_in told new) (λ rows records. HoldsCounts (told_in told new) nodes handles)

-- the events of a script were run to their end over the first keeper, which was opened again wherever the server dies. A line for each
-- was printed, and then the counts of what the keeper holds in the end. They are those that the events lead to, if no message comes again
-- whose answer was taken; and up to such a one the lines are, in any case
pub record SimulatedAll {M : Model} {K : Type 0} (k : Seen M K) (old new : Option K) (prints : List ℕ → Type 0) (script : List ℕ) : Type 0 where
  pub events : List Event
  pub described : WritesAll (lines_of script) events
  pub shown : (told_in k.told new).is_honest → (s : M.State) → StandsIn k.told old s [] [] → NoneReused M.service [] events
      → Shown k.told old new prints s events
  pub asked : performed_in k.performed old new (performances M.service events)
  pub opened : Opened k.told k.became old new events
  pub outcomes : List (Option (List ℕ))
  pub nodes : ℕ
  pub handles : ℕ
  pub printed : prints (outcome_lines outcomes ++ line (store_line nodes handles))
  pub count : length outcomes ≡ length events
  pub begin : BeginSo k.told old new events outcomes
  pub counts : CountsAre k.told old new nodes handles

-- so it was; or the first bad line of the script is reported, and nothing was done
abbrev pub Simulated : {M : Model} {K : Type 0} → Seen M K → Option K → Option K → (List ℕ → Type 0) → List ℕ → Ending → Type 0
Simulated k old new prints script Done = SimulatedAll k old new prints script
Simulated k old new prints script ending = NotRun script ending × (new ≡ old)

-- the output of a script from a start, whatever keeper it was run over
abbrev pub SimulatedFrom : (M : Model) → M.State → (List ℕ → Type 0) → List ℕ → Ending → Type 0
SimulatedFrom M s prints script Done =
    (events : List Event) × WritesAll (lines_of script) events × (NoneReused M.service [] events → prints (simulation_text M s events))
SimulatedFrom M s prints script ending = NotRun script ending
