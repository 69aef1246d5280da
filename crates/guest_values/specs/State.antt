-- What a call makes of a data file, by its state before and after it (defined by this project).
use Rattle.std.specs.Prelude.{◌≡◌, ◌↔◌, ℕ, Bool, true, IsTrue, List}
use Rattle.std.specs.List.{All}
use Rattle.sqlite_disk.specs.Disk.{Follows}
use Rattle.fuse_data.specs.declared.extent.Extent.{Extent}
use Rattle.fuse_data.specs.Extents.{IsWhole}
use Rattle.fuse_data.specs.Leaving.{KeepsInUse}
use Rattle.fuse_data.specs.Space.{InUse, IsFreeExtent}
use Rattle.fuse_data.specs.State.{DataState}
use Rattle.guest_values.specs.Space.{FreesSome, PutsAllIn, TakesAllOut}

-- only reads lie between the two; one that was once not clean stays so
pub record OnlyReadsFile (old new : DataState) : Type 0 where
  pub seen : new.seen ≡ old.seen
  pub clean : IsTrue new.is_clean → IsTrue old.is_clean
  pub usable : new.is_usable ≡ old.is_usable
  pub gaps : new.gaps ≡ old.gaps
  pub crash : (file : List ℕ) → new.may_leave file → old.may_leave file

-- nothing has changed
pub record IsSameFile (old new : DataState) : Type 0 where
  pub seen : new.seen ≡ old.seen
  pub clean : new.is_clean ≡ old.is_clean
  pub usable : new.is_usable ≡ old.is_usable
  pub gaps : new.gaps ≡ old.gaps
  pub crash : (file : List ℕ) → new.may_leave file ↔ old.may_leave file

-- the free space may have changed, and nothing else
pub record ChangesSpace (old new : DataState) : Type 0 where
  pub seen : new.seen ≡ old.seen
  pub clean : new.is_clean ≡ old.is_clean
  pub usable : new.is_usable ≡ old.is_usable
  pub crash : (file : List ℕ) → new.may_leave file → old.may_leave file

-- what was in use stays, in the file and in each content that a crash may leave
pub record KeepsUsed (old new : DataState) : Type 0 where
  pub others : (q : Extent) → InUse old.gaps q → InUse new.gaps q
  pub kept : KeepsInUse old.gaps old.seen new.seen
  pub crash : Follows (KeepsInUse old.gaps) old.may_leave new.may_leave
  pub clean : new.is_clean ≡ old.is_clean
  pub usable : new.is_usable ≡ old.is_usable

-- these pieces are whole, in blocks that were free
pub record HasWritten (ps : List Extent) (old new : DataState) : Type 0 where
  pub whole : All (IsWhole new.seen) ps
  pub free : All (IsFreeExtent old.gaps) ps
  pub taken : TakesAllOut ps old.gaps new.gaps

-- of these pieces blocks became free, and all of them where `all` says so; the file is as it was
pub record GivesBack (ps : List Extent) (all : Bool) (old new : DataState) : Type 0 where
  pub relists : ChangesSpace old new
  pub frees : FreesSome ps old.gaps new.gaps
  pub exact : all ≡ true → PutsAllIn ps old.gaps new.gaps
