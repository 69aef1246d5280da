-- A keeper and a port before and after, and what was done meanwhile (defined by this project).
use Rattle.std.specs.Prelude.{◌≡◌, ℕ, List}
use Rattle.fuse_request.specs.Opcodes.{Service}
use Rattle.fuse_keeper.specs.Model.{Model, serving}
use Rattle.fuse_keeper.specs.KeeperState.{KeeperState, of_service}
use Rattle.fuse_session.specs.Port.{PortState}
use Rattle.fuse_session.specs.Deeds.{Deeds, Hears}

pub record Passage (M : Model) : Type 1 where
  pub keeper : KeeperState M
  pub keeper' : KeeperState M
  pub port : PortState
  pub port' : PortState
  pub did : Deeds → Type 0

abbrev pub passage : {M : Model} → KeeperState M → KeeperState M → PortState → PortState → (Deeds → Type 0) → Passage M
passage keeper keeper' port port' did = record { keeper = keeper; keeper' = keeper'; port = port; port' = port'; did = did }

-- the same over the model with this service, which is the model itself where it is the model's own
abbrev pub passage_for : {M : Model} → (V : Service) → KeeperState M → KeeperState M → PortState → PortState → (Deeds → Type 0) → Passage (serving V M)
passage_for V keeper keeper' port port' did = passage (of_service V keeper) (of_service V keeper') port port' did

-- and these bytes came to the port
abbrev pub hearing : {M : Model} → Passage M → List ℕ → Passage M
hearing p received = record p { did = Hears p.did received }

-- and these were done, and nothing else
abbrev pub doing : {M : Model} → Passage M → Deeds → Passage M
doing p deeds = record p { did = λ d. d ≡ deeds }
