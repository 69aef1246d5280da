-- What is written to the data file before a transaction (defined by this project).
use Rattle.std.specs.Prelude.{◌≡◌, ◌≢◌, ◌⊎◌, ◌≤◌, ◌<◌, ◌+◌, ◌-◌, ◌*◌, ℕ, true, false, List, length, take, drop, map, slice_index_or, IsTrue, Result, OnOk, ⊤}
use Rattle.std.specs.List.{All, list_any}
use Rattle.sqlite_disk.specs.Disk.{Follows}
use Rattle.fuse_rows.specs.Bounds.{block_bytes}
use Rattle.fuse_data.specs.declared.extent.Extent.{Extent}
use Rattle.fuse_data.specs.declared.gaps.Gap.{Gap}
use Rattle.fuse_data.specs.Extents.{IsWhole, IsBlockOf, bytes_of}
use Rattle.fuse_data.specs.Leaving.{KeepsInUse}
use Rattle.fuse_data.specs.Space.{IsFreeBlock, InUse}
use Rattle.fuse_data.specs.State.{DataState}
use Rattle.fuse_request.specs.Act.{Act, Write}
use Rattle.fuse_keeper.specs.History.{Entry}
use Rattle.fuse_store_tree.specs.declared.store_data.Written.{Written}
use Rattle.fuse_store_tree.specs.declared.made.MadePiece.{MadePiece}
use Rattle.fuse_store_tree.specs.Viewing.{is_unlisted_at}

-- no block is in both
abbrev pub ShareNone : Extent → Extent → Type 0
ShareNone e q = (b : ℕ) → IsBlockOf e b → ¬ IsBlockOf q b

-- the extent shares no block with one that isn't listed yet, but for this one of them
abbrev pub HidesNone : List Written → ℕ → Extent → Type 0
HidesNone written but e =
    (j : ℕ) (d : Written) → j < length written → j ≢ but → (slice_index_or written j d).listed ≡ false → ShareNone e (slice_index_or written j d).extent

-- the extent stands at this place, and isn't listed yet; or the place is the end
pub record Finds (written : List Written) (e : Extent) (at : ℕ) : Type 0 where
  pub low : at ≤ length written
  pub found : (d : Written) → at < length written → (slice_index_or written at d).extent ≡ e
  pub unlisted : (d : Written) → at < length written → (slice_index_or written at d).listed ≡ false

-- no row may list this block yet
abbrev pub IsHeldBack : List Written → ℕ → Type 0
IsHeldBack written b = list_any (is_unlisted_at b) written ≡ true

-- free blocks were written, and are held back
pub record WritesAside (old new : DataState) (was is : List Written) : Type 0 where
  pub kept : KeepsInUse old.gaps old.seen new.seen
  pub crash : Follows (KeepsInUse old.gaps) old.may_leave new.may_leave
  -- what is free was free
  pub free : (b : ℕ) → IsFreeBlock new.gaps b → IsFreeBlock old.gaps b
  -- what is held back was so, or was free
  pub held : (b : ℕ) → IsHeldBack is b → IsHeldBack was b ⊎ IsFreeBlock old.gaps b
  pub still : (b : ℕ) → IsHeldBack was b → IsHeldBack is b
  pub grows : length was ≤ length is
  pub clean : new.is_clean ≡ old.is_clean
  pub usable : new.is_usable ≡ old.is_usable

-- the extent is in the data file with these bytes, in blocks that are in use and held back
pub record IsAside (s : DataState) (written : List Written) (e : Extent) (bytes : List ℕ) : Type 0 where
  pub whole : IsWhole s.seen e
  pub same : bytes_of s.seen e ≡ bytes
  pub in_use : InUse s.gaps e
  pub held : (b : ℕ) → IsBlockOf e b → IsHeldBack written b

-- the part of a WRITE that a piece has
abbrev pub made_part : ℕ → List ℕ → MadePiece → List ℕ
made_part at bytes p = take (p.extent.count * block_bytes) (drop (p.first * block_bytes - at) bytes)

-- the piece has blocks of these bytes, which go to this place of a file
pub record IsPartOf (at : ℕ) (bytes : List ℕ) (p : MadePiece) : Type 0 where
  pub begins : at ≤ p.first * block_bytes
  pub ends : p.first * block_bytes + p.extent.count * block_bytes ≤ at + length bytes

-- and the data file has them
pub record IsMade (file : List ℕ) (at : ℕ) (bytes : List ℕ) (p : MadePiece) : Type 0 where
  pub part : IsPartOf at bytes p
  pub whole : IsWhole file p.extent
  pub same : bytes_of file p.extent ≡ made_part at bytes p

abbrev pub AreMadeOf : List ℕ → ℕ → List ℕ → List MadePiece → Type 0
AreMadeOf file at bytes pieces = All (IsMade file at bytes) pieces

pub record IsMadeAside (s : DataState) (written : List Written) (at : ℕ) (bytes : List ℕ) (p : MadePiece) : Type 0 where
  pub part : IsPartOf at bytes p
  pub aside : IsAside s written p.extent (made_part at bytes p)

-- of this request: where it is a WRITE, these are pieces of it
abbrev pub IsFor : (ℕ → List ℕ → MadePiece → Type 0) → Act → List MadePiece → Type 0
IsFor P (Write fh offset write_flags lock_owner flags payload) pieces = All (P offset payload) pieces
IsFor P act pieces = ⊤

-- of each of these requests
abbrev pub AreForEach : (ℕ → List ℕ → MadePiece → Type 0) → List Entry → List (List MadePiece) → Type 0
AreForEach P entries made = (k : ℕ) (e : Entry) (d : List MadePiece) → k < length made → IsFor P (slice_index_or entries k e).asked.act (slice_index_or made k d)

-- the data file was read, and synced at most
pub record SyncsData {X E : Type 0} (old new : DataState) (r : Result X E) : Type 0 where
  pub seen : new.seen ≡ old.seen
  pub gaps : new.gaps ≡ old.gaps
  pub clean : IsTrue new.is_clean → IsTrue old.is_clean
  pub crash : (file : List ℕ) → new.may_leave file → old.may_leave file
  pub usable : IsTrue new.is_usable → IsTrue old.is_usable
  pub still : OnOk r (new.is_usable ≡ old.is_usable)

-- the same, where nothing says whether the sync failed
pub record SyncsOnce (old new : DataState) : Type 0 where
  pub seen : new.seen ≡ old.seen
  pub gaps : new.gaps ≡ old.gaps
  pub clean : IsTrue new.is_clean → IsTrue old.is_clean
  pub crash : (file : List ℕ) → new.may_leave file → old.may_leave file
  pub usable : IsTrue new.is_usable → IsTrue old.is_usable
