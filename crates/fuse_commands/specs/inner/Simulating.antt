-- The outcomes of a script before they are printed, and its output from a start (defined by this project).
use Rattle.std.specs.Prelude.{◌≡◌, ℕ, List, [], map, length, Option}
use Rattle.fuse_keeper.specs.Model.{Model}
use Rattle.fuse_keeper.specs.KeeperState.{KeeperState, IsFirm}
use Rattle.fuse_sim.specs.declared.event.Event.{Event}
use Rattle.fuse_sim.specs.Driving.{outcomes_of, bytes_given, NoneReused, told_in, performed_in, StandsIn, Opened}
use Rattle.fuse_sim.specs.HandedOn.{performances}
use Rattle.fuse_sim.specs.Twice.{Seen}
use Rattle.fuse_commands.specs.declared.ending.Ending.{Ending}
use Rattle.fuse_commands.specs.declared.ending.Ending.TheVariants.{Done}
use Rattle.fuse_commands.specs.declared.simulate.Simulation.{Simulation}
use Rattle.fuse_commands.specs.Scripts.{lines_of, WritesAll}
pub use Rattle.fuse_commands.specs.Simulating.{SimulatedFrom}
use Rattle.fuse_commands.specs.Simulating.{state_after, StandsFromStart, BeginSo, CountsAre, Simulated}

-- events from a start had these outcomes and counts, and the keeper stands for them and is as firm as before
pub record Went {M : Model} {K : Type 0} (told : K → KeeperState M) (old new : Option K) (s : M.State) (events : List Event) (simulation : Simulation)
    : Type 0 where
  pub outcomes : map bytes_given simulation.outcomes.items ≡ outcomes_of M s [] events
  pub nodes : simulation.counts.nodes ≡ M.nodes (M.held_for (state_after M s events))
  pub handles : simulation.counts.handles ≡ M.handles (M.held_for (state_after M s events))
  pub stands : StandsFromStart told new s events
  pub firm : IsFirm (told_in told old) → IsFirm (told_in told new)

-- the events of a script were run to their end; what they led to, if no message comes again whose answer was taken; and the keeper was
-- asked to perform just what they ask for, and opened again wherever the server dies
pub record RanScript {M : Model} {K : Type 0} (k : Seen M K) (old new : Option K) (script : List ℕ) (simulation : Simulation) : Type 0 where
  pub events : List Event
  pub described : WritesAll (lines_of script) events
  pub count : length simulation.outcomes.items ≡ length events
  pub begin : BeginSo k.told old new events (map bytes_given simulation.outcomes.items)
  pub asked : performed_in k.performed old new (performances M.service events)
  pub opened : Opened k.told k.became old new events
  pub counts : CountsAre k.told old new simulation.counts.nodes simulation.counts.handles
  pub went : (told_in k.told new).is_honest → (s : M.State) → StandsIn k.told old s [] [] → NoneReused M.service [] events
      → Went k.told old new s events simulation

-- Simulated implies SimulatedFrom for a keeper that stands for the start and whose storage returned what was written
pub from_start : {M : Model} {K : Type 0} (k : Seen M K) (old new : Option K) (prints : List ℕ → Type 0) (script : List ℕ) (s : M.State)
    (ending : Ending) → (told_in k.told new).is_honest → StandsIn k.told old s [] [] → Simulated k old new prints script ending
    → SimulatedFrom M s prints script ending
from_start k old new prints script s Done honest stands so = (so.events, so.described, λ none. (so.shown honest s stands none).printed)
from_start k old new prints script s ending honest stands so = so.0
