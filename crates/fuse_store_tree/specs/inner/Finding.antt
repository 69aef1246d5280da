-- The free space of the data file, found anew at rest (defined by this project).
use Rattle.std.specs.Prelude.{◌≡◌, IsTrue, Result, OnOk}
use Rattle.sqlite_disk.specs.Disk.{Follows, Only}
use Rattle.fuse_data.specs.Leaving.{KeepsInUse}
use Rattle.fuse_data.specs.State.{DataState}

-- Other blocks may be free then. Those that aren't are as they were, and where they were durable they are.
pub record FindsSpace {X E : Type 0} (old new : DataState) (r : Result X E) : Type 0 where
  pub kept : KeepsInUse new.gaps old.seen new.seen
  pub crash : Follows (KeepsInUse new.gaps) old.may_leave new.may_leave
  pub clean : new.is_clean ≡ old.is_clean
  pub usable : IsTrue new.is_usable → IsTrue old.is_usable
  pub still : OnOk r (new.is_usable ≡ old.is_usable)
  pub synced : IsTrue new.is_usable → Only old.seen old.may_leave → Only new.seen new.may_leave
