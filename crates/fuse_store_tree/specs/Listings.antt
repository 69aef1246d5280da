-- Where the pieces that the tables list lie in the data file, as it is read at rest (defined by this project).
use Rattle.std.specs.Prelude.{◌<◌, ◌^◌, List, ℕ, [], filter, fold, map, nat_lt, if◌then◌else◌}
use Rattle.std.specs.List.Sorted.{IsPermutation, IsNonDecreasingBy}
use Rattle.sqlite.specs.State.{State}
use Rattle.fuse_data.specs.declared.extent.Extent.{Extent}
use Rattle.fuse_store_tables.specs.Content.{Content}
use Rattle.fuse_store_tables.specs.Moves.{Rests}
use Rattle.fuse_store_tables.specs.Pieces.{Piece}
use Rattle.fuse_store_tables.specs.Slices.{is_listed_above}
use Rattle.fuse_store_tree.specs.Fits.{Fits}
use Rattle.fuse_store_tree.specs.Pieces.{extent_of, extents_of}

-- the extents of all pieces with a place, of whatever content rests here, in order of place
pub record ListsExtents (s : State) (listed : List Extent) : Type 0 where
  pub exact : (c : Content) → Rests c s → Fits c → IsPermutation (extents_of c.pieces) listed
  pub by_place : IsNonDecreasingBy (λ (e : Extent). e.place) listed

-- ---- slice by slice

-- those of the pieces whose slots are above this one, which has 63 bits; else none
abbrev pub extents_above : ℕ → List Piece → List Extent
extents_above slot pieces = if nat_lt slot (2 ^ 63) then map extent_of (filter (is_listed_above slot) pieces) else []

-- the slot of the last of these pieces, or this one
abbrev pub last_slot : ℕ → List Piece → ℕ
last_slot slot pieces = fold (λ _ p. p.slot) slot pieces
