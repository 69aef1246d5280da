-- A group as a transaction over a database and a data file, with what was written for it before (defined by this project).
use Rattle.std.specs.Prelude.{◌≡◌, ℕ, Bool, true, IsTrue, List, [], Option, Result, OnOk}
use Rattle.sqlite.specs.Effect.{Database}
use Rattle.sqlite_disk.specs.Disk.{Follows, Only}
use Rattle.fuse_data.specs.State.{DataState}
use Rattle.fuse_data.specs.Leaving.{KeepsInUse}
use Rattle.fuse_keeper.specs.declared.fault.StoreFault.{StoreFault}
use Rattle.fuse_store_tables.specs.inner.Performing.{TransactsAs}
use Rattle.fuse_store_tree.specs.declared.meta.Meta.{Meta}
use Rattle.fuse_store_tree.specs.declared.store_data.Written.{Written}
use Rattle.fuse_store_tree.specs.Holding.{Holding}
use Rattle.fuse_store_tree.specs.Knowing.{HeldForKnown}
use Rattle.fuse_store_tree.specs.StoreState.{StoreState}
use Rattle.fuse_store_tree.specs.Viewing.{shown}

-- a crash leaves of the data file what is read of it, if it was to be synced, or if it was so before
pub record SyncedIf (wrote : Bool) (old new : DataState) : Type 0 where
  pub now : wrote ≡ true → Only new.seen new.may_leave
  pub still : Only old.seen old.may_leave → Only new.seen new.may_leave

-- a database that is so, over such a data file
abbrev pub HeldForSynced : Bool → DataState → DataState → (Database → Type 0) → Database → Type 0
HeldForSynced wrote old new P d = P d × SyncedIf wrote old new

-- free blocks were written, some of them may be listed, and the data file was synced at most
pub record WritesOn {X E : Type 0} (old new : DataState) (was is : List Written) (r : Result X E) : Type 0 where
  pub view : KeepsInUse [] (shown old.gaps was old.seen) (shown new.gaps is new.seen)
  pub crash : Follows (KeepsInUse old.gaps) old.may_leave new.may_leave
  pub clean : IsTrue new.is_clean → IsTrue old.is_clean
  pub usable : IsTrue new.is_usable → IsTrue old.is_usable
  pub still : OnOk r (new.is_usable ≡ old.is_usable)

-- the same, if it was so before
abbrev pub HeldForStill : DataState → DataState → (Database → Type 0) → Database → Type 0
HeldForStill old new P d = P d × (Only old.seen old.may_leave → Only new.seen new.may_leave)

-- free blocks were written, then came a transaction, which could list them
pub record TransactsAside {X : Type 0} (m n : Option Meta) (made : Holding → Holding) (old new : StoreState) (now : List Written) (r : Result X StoreFault) : Type 0 where
  -- what could be listed when it began
  pub first : List ℕ
  pub kept : KeepsInUse [] (shown old.contents.gaps [] old.contents.seen) first
  pub grows : KeepsInUse [] first (shown new.contents.gaps now new.contents.seen)
  pub crash : Follows (KeepsInUse old.contents.gaps) old.contents.may_leave new.contents.may_leave
  pub clean : IsTrue new.contents.is_clean → IsTrue old.contents.is_clean
  pub usable : IsTrue new.contents.is_usable → IsTrue old.contents.is_usable
  pub still : OnOk r (new.contents.is_usable ≡ old.contents.is_usable)
  pub performs : IsTrue new.contents.is_clean → TransactsAs (HeldForKnown first m)
      (λ y. HeldForStill old.contents new.contents (HeldForKnown (shown new.contents.gaps now new.contents.seen) n (made y))) old.tables new.tables r
