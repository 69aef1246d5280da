-- What the tables may list of the data file grows (defined by this project): blocks that a transaction was prepared with come into its reach.
use Rattle.std.specs.Prelude.{◌≡◌, IsTrue, []}
use Rattle.fuse_data.specs.declared.extent.Extent.{Extent}
use Rattle.fuse_data.specs.Extents.{IsWhole, AreDisjoint, bytes_of}
use Rattle.fuse_data.specs.Leaving.{KeepsInUse}
use Rattle.fuse_store_tree.specs.Pieces.{File, ReadsData}

-- whatever could be listed still can, with the same bytes; the data file itself is as it was
pub record Widens (old new : File) : Type 0 where
  pub contents : ReadsData old.contents new.contents
  pub clean : IsTrue new.is_clean → IsTrue old.is_clean
  pub kept : KeepsInUse [] old.bytes new.bytes

-- and so can this extent, which shares no block with any that could be listed before
pub record Shows (e : Extent) (old new : File) : Type 0 where
  pub widens : Widens old new
  pub here : IsWhole new.contents.seen e → IsWhole new.bytes e
  pub same : IsWhole new.contents.seen e → bytes_of new.bytes e ≡ bytes_of new.contents.seen e
  pub apart : (q : Extent) → IsWhole old.bytes q → AreDisjoint e q
