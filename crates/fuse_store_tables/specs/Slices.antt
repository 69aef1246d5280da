-- Blocks and pieces of all nodes, read by slices (defined by this project).
use Rattle.std.specs.Prelude.{◌≡◌, ◌<◌, ◌⊎◌, ℕ, pos, Bool, ◌&&◌, ◌||◌, List, [], ◌∷◌, map, take}
use Rattle.std.specs.Ordering.{is_eq, is_ge, is_gt, nat_cmp}
use Rattle.std.specs.List.Sorted.{IsPermutation}
use Rattle.std.specs.Int.{w64, cast_signed}
use Rattle.sqlite.specs.declared.types.Value.TheVariants.{Int}
use Rattle.sqlite.specs.Order.{Row}
use Rattle.sqlite_trees.specs.Tree.{IsAscending}
use Rattle.fuse_store_tables.specs.Blocks.{Block}
use Rattle.fuse_store_tables.specs.Pieces.{Piece}

-- ---- blocks, by node and number

-- a block at this number of this node, or after it
abbrev pub reaches : ℕ → ℕ → Block → Bool
reaches node block b = is_gt (nat_cmp b.node node) || (is_eq (nat_cmp b.node node) && is_ge (nat_cmp b.block block))

abbrev pub IsBefore : Block → Block → Type 0
IsBefore a b = (a.node < b.node) ⊎ ((a.node ≡ b.node) × (a.block < b.block))

-- where a block stands
abbrev pub block_key : Block → Row
block_key b = Int (pos b.node) ∷ Int (pos b.block) ∷ []

-- the rows show where these blocks stand, in that order, up to a limit
pub record ShowsKeys (limit : ℕ) (bs : List Block) (rows : List Row) : Type 0 where
  pub ordered : List Block
  pub same : IsPermutation bs ordered
  pub rise : IsAscending IsBefore ordered
  pub shown : rows ≡ take limit (map block_key ordered)

-- ---- pieces with a place in the data file, by slot

abbrev pub is_listed_above : ℕ → Piece → Bool
is_listed_above slot p = is_gt (nat_cmp p.slot slot) && is_gt (nat_cmp p.place 0)

-- where a piece lies in the data file, after its slot
abbrev pub shown_extent : Piece → Row
shown_extent p = Int (pos p.slot) ∷ Int (pos p.count) ∷ Int (pos p.place) ∷ Int (cast_signed w64 p.sum) ∷ []
