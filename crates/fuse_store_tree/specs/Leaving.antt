-- What a change of the data file leaves of what is held (defined by this project).
use Rattle.std.specs.Prelude.{ℕ, List, []}
use Rattle.sqlite.specs.Effect.{Database}
use Rattle.fuse_data.specs.declared.gaps.Gap.{Gap}
use Rattle.fuse_data.specs.Leaving.{KeepsInUse}
use Rattle.fuse_data.specs.Space.{AllInUse}
use Rattle.fuse_store_tables.specs.Content.{Content, Holds}
use Rattle.fuse_store_tree.specs.Fits.{Fits}
use Rattle.fuse_store_tree.specs.Pieces.{extents_of}
use Rattle.fuse_store_tree.specs.Holding.{Holding, HeldFor}
use Rattle.fuse_store_tree.specs.Viewing.{shown}

-- no block of a piece that the database lists is free
abbrev pub ListsInUse : List Gap → Database → Type 0
ListsInUse gaps d = (c : Content) → Holds c d → Fits c → AllInUse gaps (extents_of c.pieces)

-- the law: what is held stays, where the data file changes in free blocks alone
abbrev pub FreeBlocksHoldNothing : Type 0
FreeBlocksHoldNothing =
    (gaps : List Gap) (old new : List ℕ) (y : Holding) (d : Database) → KeepsInUse gaps old new → ListsInUse gaps d → HeldFor old y d → HeldFor new y d

-- the law: it is held over the data file as the tables may list it, where nothing is written for a transaction
abbrev pub HeldIsShown : Type 0
HeldIsShown = (gaps : List Gap) (file : List ℕ) (y : Holding) (d : Database) → ListsInUse gaps d → HeldFor file y d → HeldFor (shown gaps [] file) y d
