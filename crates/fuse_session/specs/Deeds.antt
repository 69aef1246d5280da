-- What a session did: the moments that its clock gave, what its keeper was asked to perform, and what happened
-- at its port (defined by this project).
use Rattle.std.specs.Prelude.{◌≡◌, ℕ, List}
use Rattle.fuse_wire.specs.declared.moment.Moment.{Moment}
use Rattle.fuse_keeper.specs.Performance.{Performance}
use Rattle.fuse_session.specs.Transcript.{PortEvent, received_in}

pub record Deeds : Type 0 where
  pub moments : List Moment
  pub asked : List Performance
  pub events : List PortEvent

-- the clock gave these moments, the keeper was asked to perform these and nothing else, and these are the events of the port
pub record Did (gave : List Moment → Type 0) (performed : List Performance → Type 0) (became : List PortEvent → Type 0) (deeds : Deeds) : Type 0 where
  pub moments : gave deeds.moments
  pub asked : performed deeds.asked
  pub events : became deeds.events

-- and these bytes came to the port
abbrev pub Hears : (Deeds → Type 0) → List ℕ → Deeds → Type 0
Hears did received deeds = did deeds × (received_in deeds.events ≡ received)
