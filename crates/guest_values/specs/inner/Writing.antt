-- Pieces that are written.
use Rattle.std.specs.Prelude.{◌≡◌, ◌⊎◌, ◌*◌, ◌≤◌, ℕ, List, length}
use Rattle.sqlite_disk.specs.Disk.{Follows}
use Rattle.fuse_data.specs.declared.extent.Extent.{Extent}
use Rattle.fuse_data.specs.declared.extent.TheConstants.{BLOCK}
use Rattle.fuse_data.specs.declared.fault.DataFault.{DataFault}
use Rattle.fuse_data.specs.Causes.{FailsToWrite}
use Rattle.fuse_data.specs.Extents.{IsBlockOf, IsWhole, bytes_of}
use Rattle.fuse_data.specs.Leaving.{KeepsInUse}
use Rattle.fuse_data.specs.Space.{InUse, IsFreeBlock, IsFreeExtent, PutsIn, TakesOut}
use Rattle.fuse_data.specs.State.{DataState}
use Rattle.guest_values.specs.declared.large_value.LargeValue.{LargeValue}
use Rattle.guest_values.specs.Causes.{IsMemory}
use Rattle.guest_values.specs.State.{HasWritten}
use Rattle.guest_values.specs.Values.{IsFitValue, padded_in, value_pieces}

-- it has these bytes, in the lowest blocks that were free and are enough
pub record IsNewPiece (bytes : List ℕ) (p : Extent) (old new : DataState) : Type 0 where
  pub whole : IsWhole new.seen p
  pub same : bytes_of new.seen p ≡ bytes
  pub size : p.count * BLOCK ≡ length bytes
  pub free : IsFreeExtent old.gaps p
  pub lowest : (q : Extent) → q.count ≡ p.count → IsFreeExtent old.gaps q → p.place ≤ q.place
  pub taken : TakesOut p old.gaps new.gaps
  pub used : InUse new.gaps p

-- a value of so many bytes has these blocks
pub record IsNewValue (len : ℕ) (blocks : List ℕ) (v : LargeValue) (old new : DataState) : Type 0 where
  pub len_is : v.len ≡ len
  pub fit : IsFitValue v
  pub written : HasWritten (value_pieces v) old new
  pub same : padded_in new.seen v ≡ blocks

-- a piece is given back, unless memory is refused; what else was in use stays
pub record GivesFirstBack (p : Extent) (old new : DataState) (f : DataFault) : Type 0 where
  pub only : (b : ℕ) → IsFreeBlock new.gaps b → IsFreeBlock old.gaps b ⊎ IsBlockOf p b
  pub exact : ¬ IsMemory f → PutsIn p old.gaps new.gaps
  pub kept : KeepsInUse old.gaps old.seen new.seen
  pub crash : Follows (KeepsInUse old.gaps) old.may_leave new.may_leave
  pub clean : new.is_clean ≡ old.is_clean
  pub usable : new.is_usable ≡ old.is_usable

-- so many bytes can't be written, or memory is refused
abbrev pub FailsForRest : DataState → ℕ → DataFault → Type 0
FailsForRest old len f = FailsToWrite old.is_usable old.gaps len f ⊎ IsMemory f
