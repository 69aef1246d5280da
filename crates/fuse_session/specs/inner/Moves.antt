-- How the steps of a session move a keeper, and the ids that they hand on (defined by this project).
use Rattle.std.specs.Prelude.{◌≡◌, ◌<◌, Bool, true, false, List, ℕ}
use Rattle.fuse_keeper.specs.History.{Includes}
use Rattle.fuse_keeper.specs.Model.{Model, IsOfGoodState}
use Rattle.fuse_keeper.specs.Stands.{Records}
use Rattle.fuse_keeper.specs.KeeperState.{KeeperState}
use Rattle.fuse_session.specs.Starts.{KeptRecords, UnderAtMostMore}

-- the records that are held are some of those of before, and of at most 16 ids more, which are to be handed on
pub record HandsOn {M : Model} (before : KeptRecords) (k : KeeperState M) (pending : List ℕ) : Type 0 where
  pub rows : M.Rows
  pub records : Records
  pub held : k.holds rows records
  pub rowed : IsOfGoodState M rows
  pub under : UnderAtMostMore before (record { records = records; lots = k.lots })
  pub all : Includes pending under.more

-- the port failed exactly where this is so
abbrev pub FailedBy : Bool → ℕ → ℕ → Type 0
FailedBy true old new = old < new
FailedBy false old new = new ≡ old
