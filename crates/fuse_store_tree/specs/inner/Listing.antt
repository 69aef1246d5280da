-- A piece that is listed within a transaction (defined by this project).
use Rattle.std.specs.Prelude.{◌≡◌, IsTrue, true, List, ℕ}
use Rattle.std.specs.List.{list_any}
use Rattle.sqlite.specs.State.{State, HasCleanDisk}
use Rattle.fuse_data.specs.Extents.{IsWhole, AreDisjoint}
use Rattle.fuse_data.specs.declared.extent.Extent.{Extent}
use Rattle.fuse_store_tables.specs.declared.pieces.PieceRow.{PieceRow}
use Rattle.fuse_store_tables.specs.Pieces.{new_piece}
use Rattle.fuse_store_tables.specs.Content.{Content, node_key, has_by}
use Rattle.fuse_store_tables.specs.Moves.{Inside, Stays, StaysInside}
use Rattle.fuse_store_tree.specs.Pieces.{File}
use Rattle.fuse_store_tree.specs.inner.Reading.{IsSound}
use Rattle.fuse_store_tree.specs.inner.Relisting.{IsThird, Listed, extent_in}

-- the tables can list a piece of the node
pub record CanList (node : ℕ) (c : Content) : Type 0 where
  pub third : IsThird c
  pub there : list_any (has_by node_key node) c.nodes ≡ true

-- a piece of another file than its own, where no extent that can be listed there shares a block with it
abbrev pub IsBeside : List ℕ → Extent → Type 0
IsBeside file e = (q : Extent) → IsWhole file q → AreDisjoint e q

-- the piece stands in the place of what was stored there, of contents that were sound over a file that had none of its blocks
pub record ListsPiece (g : File) (file : List ℕ) (x : PieceRow) (old new : State) : Type 0 where
  pub stays : Stays old new
  pub within : StaysInside old new
  pub turns : IsTrue g.is_clean → HasCleanDisk new → IsBeside file (extent_in x) → (c : Content) → IsSound file c → CanList x.node c → Inside c old
      → (k : Content) × Inside k new × ((slot : ℕ) × Listed g.bytes (record { slot = slot; node = x.node; first = x.first; count = x.count; place = x.place; sum = x.sum }) c k)
