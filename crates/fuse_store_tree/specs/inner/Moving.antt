-- Rows of `blocks` that become pieces within a transaction (defined by this project).
use Rattle.std.specs.Prelude.{◌≡◌, ◌≤◌, ◌<◌, ◌+◌, ◌-◌, ◌*◌, ℕ, true, IsTrue, List, [], length, take, drop, Some}
use Rattle.std.specs.List.{AllByRecursion, list_any}
use Rattle.sqlite.specs.State.{State, HasCleanDisk}
use Rattle.sqlite_disk.specs.Disk.{Follows}
use Rattle.fuse_rows.specs.Bounds.{block_bytes}
use Rattle.fuse_data.specs.Extents.{bytes_of}
use Rattle.fuse_data.specs.Leaving.{KeepsInUse}
use Rattle.fuse_data.specs.Space.{IsFreeBlock}
use Rattle.fuse_data.specs.State.{DataState}
use Rattle.fuse_store_tables.specs.Content.{Content, node_key, has_by}
use Rattle.fuse_store_tables.specs.Moves.{Inside, Stays, StaysInside}
use Rattle.fuse_store_tables.specs.declared.pieces.PieceRow.{PieceRow}
use Rattle.fuse_store_tree.specs.Pieces.{File, stored_block, Moved}
use Rattle.fuse_store_tree.specs.Store.{AreWithin, ArePiecesWithin}
use Rattle.fuse_store_tree.specs.Viewing.{shown}
use Rattle.fuse_store_tree.specs.declared.store_data.Written.{Written}
use Rattle.fuse_store_tree.specs.inner.Reading.{IsSound}
use Rattle.fuse_store_tree.specs.inner.Relisting.{extent_in}

-- the bytes of one block of a run that begins at this one
abbrev pub block_of_run : List ℕ → ℕ → ℕ → List ℕ
block_of_run bytes first block = take block_bytes (drop ((block - first) * block_bytes) bytes)

-- these are stored of so many blocks of a node, from this one on
abbrev pub AreStored : List ℕ → Content → ℕ → ℕ → ℕ → List ℕ → Type 0
AreStored file c node first count bytes = (block : ℕ) → first ≤ block → block < first + count → stored_block file c node block ≡ Some (block_of_run bytes first block)

-- the data file, of which this much is seen, has there what is stored of the piece's blocks
abbrev pub HasStored : List ℕ → List ℕ → PieceRow → Content → Type 0
HasStored seen file x c = AreStored file c x.node x.first x.count (bytes_of seen (extent_in x))

-- what is stored stays, and no row is added
pub record MovesTo (file : List ℕ) (old new : Content) : Type 0 where
  pub moved : Moved file old new
  pub sound : IsSound file new
  pub within : (ends : ℕ → ℕ) → AreWithin ends old.blocks → ArePiecesWithin ends old.pieces → AreWithin ends new.blocks × ArePiecesWithin ends new.pieces
  pub owned : AllByRecursion (λ p. list_any (has_by node_key p.node) old.nodes ≡ true) old.pieces
      → AllByRecursion (λ p. list_any (has_by node_key p.node) new.nodes ≡ true) new.pieces
  pub fewer : length new.blocks ≤ length old.blocks

-- what a step makes of sound contents that are so, over a data file of which more may be listed then
pub record MovesOver (f g : File) (P : Content → Type 0) (old new : State) : Type 0 where
  pub stays : Stays old new
  pub within : StaysInside old new
  pub turns : IsTrue g.is_clean → HasCleanDisk new → (c : Content) → IsSound f.bytes c → P c → Inside c old → (k : Content) × Inside k new × MovesTo g.bytes c k

-- free blocks of the data file were written, and some of them may be listed then
pub record AddsTo (old new : DataState) (was is : List Written) : Type 0 where
  pub kept : KeepsInUse old.gaps old.seen new.seen
  pub crash : Follows (KeepsInUse old.gaps) old.may_leave new.may_leave
  -- what is free was free
  pub free : (b : ℕ) → IsFreeBlock new.gaps b → IsFreeBlock old.gaps b
  pub view : KeepsInUse [] (shown old.gaps was old.seen) (shown new.gaps is new.seen)
  pub clean : IsTrue new.is_clean → IsTrue old.is_clean
  pub usable : new.is_usable ≡ old.is_usable
