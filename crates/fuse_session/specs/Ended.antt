-- What the ends of a session have in common (defined by this project).
use Rattle.std.specs.Prelude.{◌≡◌, Bool, true, false}
use Rattle.fuse_keeper.specs.declared.fault.StoreFault.{StoreFault}
use Rattle.fuse_keeper.specs.Model.{Model}
use Rattle.fuse_keeper.specs.KeeperState.{KeeperState}
use Rattle.fuse_session.specs.declared.ended.Ended.{Ended}
use Rattle.fuse_session.specs.declared.ended.Ended.TheVariants.{End, Destroyed, Turns, Frame, ZeroUnique, PortFailed, Store, Memory}

-- a fault of the store
abbrev pub ended_store : Ended → Bool
ended_store End = false
ended_store Destroyed = false
ended_store Turns = false
ended_store (Frame f) = false
ended_store (ZeroUnique at) = false
ended_store PortFailed = false
ended_store (Store fault) = true
ended_store Memory = false

-- a fault that comes between two answers: one of the store, or out of memory
abbrev pub ended_between : Ended → Bool
ended_between End = false
ended_between Destroyed = false
ended_between Turns = false
ended_between (Frame f) = false
ended_between (ZeroUnique at) = false
ended_between PortFailed = false
ended_between (Store fault) = true
ended_between Memory = true

-- a fault of the store is one of these
abbrev pub MayEnd : (StoreFault → Type 0) → Ended → Type 0
MayEnd may (Store fault) = may fault
MayEnd may _ = Unit {0}

-- a keeper after a session that ended so: its store gave back what was written and, where a fault of the store ended it, no write
-- is open or half done
pub record IsIntact {M : Model} (k : KeeperState M) (ended : Ended) : Type 0 where
  pub honest : k.is_honest
  pub clean : ended_store ended ≡ true → k.is_clean
