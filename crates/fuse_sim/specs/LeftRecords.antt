-- The records that are deleted by events (defined by this project).
use Rattle.std.specs.Prelude.{◌≡◌, ◌≤◌, ℕ, true, false, List, [], ◌∷◌, length, All, None}
use Rattle.fuse_request.specs.Opcodes.{Service}
use Rattle.fuse_keeper.specs.History.{is_in, ids_in}
use Rattle.fuse_keeper.specs.Model.{Model, IsOfGoodState}
use Rattle.fuse_keeper.specs.Stands.{Records}
use Rattle.fuse_keeper.specs.KeeperState.{KeeperState}
use Rattle.fuse_keeper.specs.Performance.{Performance}
use Rattle.fuse_sim.specs.declared.event.Event.{Event}
use Rattle.fuse_sim.specs.Driving.{commits_in, settles, Calm, EventIn, up_to, NoneReused}
use Rattle.fuse_sim.specs.HandedOn.{handed_on_in}

-- at least so many requests are committed by these events up to one of them, before which the server doesn't die
pub record Follow (V : Service) (n : ℕ) (events : List Event) : Type 0 where
  pub last : EventIn events
  pub calm : All Calm last.earlier
  pub many : n ≤ length (commits_in V (up_to last))

-- the answer to this id was taken, and so many requests were committed after it before the server died
pub record SettledBefore (V : Service) (n : ℕ) (events : List Event) (i : ℕ) : Type 0 where
  pub at : EventIn events
  pub settled : settles V at.one ≡ i ∷ []
  pub follow : Follow V n at.later

-- the records of ids that didn't come stay; those of the ids that were handed on are deleted, where no settled id came again
pub record RecordsLeft (V : Service) (asked : List Performance) (events : List Event) (records records' : Records) : Type 0 where
  pub others : (i : ℕ) → is_in (ids_in (commits_in V events)) i ≡ false → records' i ≡ records i
  pub gone : NoneReused V [] events → (i : ℕ) → is_in (handed_on_in asked) i ≡ true → records' i ≡ None

-- it holds something of a good state, with such records
pub record HoldsRecords {M : Model} (k : KeeperState M) (P : Records → Type 0) : Type 0 where
  pub rows : M.Rows
  pub records : Records
  pub held : k.holds rows records
  pub rowed : IsOfGoodState M rows
  pub left : P records
