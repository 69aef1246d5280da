-- Large values, and the pieces of the data file that they lie in (defined by this project: the guest protocol, 'Store').
use Rattle.std.specs.Prelude.{◌≡◌, ◌+◌, ◌-◌, ◌≤◌, ◌/◌, ◌*◌, ℕ, List, [], ◌∷◌, ◌++◌, length, take, flat_map, Option, Some, None, IfSome}
use Rattle.std.specs.Option.{option_to_list}
use Rattle.std.specs.List.{All}
use Rattle.fuse_data.specs.declared.extent.Extent.{Extent}
use Rattle.fuse_data.specs.declared.extent.TheConstants.{BLOCK, MOST}
use Rattle.fuse_data.specs.Extents.{IsPlaced, IsWhole, AreDisjoint, bytes_of, sum_of}
use Rattle.guest_values.specs.declared.large_value.LargeValue.{LargeValue}
use Rattle.guest_values.specs.declared.large_value.TheConstants.{LEAST, LONGEST}

-- a value of so many bytes lies in the data file
abbrev pub IsLarge : ℕ → Type 0
IsLarge len = (LEAST ≤ len) × (len ≤ LONGEST)

-- so many blocks have room for so many bytes
abbrev pub value_blocks : ℕ → ℕ
value_blocks len = (len + (BLOCK - 1)) / BLOCK

-- in the order of their bytes
abbrev pub value_pieces : LargeValue → List Extent
value_pieces v = v.first ∷ option_to_list v.second

-- the pieces of values
abbrev pub all_value_pieces : List LargeValue → List Extent
all_value_pieces vs = flat_map value_pieces vs

-- the second piece has the blocks that don't fit into the first one, and shares none with it
abbrev pub HasRest : Extent → ℕ → Option Extent → Type 0
HasRest first blocks None = first.count ≡ blocks
HasRest first blocks (Some second) = (first.count ≡ MOST) × (first.count + second.count ≡ blocks) × AreDisjoint first second

-- a data file can have it
pub record IsFitValue (v : LargeValue) : Type 0 where
  pub large : IsLarge v.len
  pub first : IsPlaced v.first
  pub second : IfSome v.second IsPlaced
  pub rest : HasRest v.first (value_blocks v.len) v.second

-- what the data file has there
abbrev pub padded_in : List ℕ → LargeValue → List ℕ
padded_in file v = flat_map (bytes_of file) (value_pieces v)

-- the bytes of the value
abbrev pub value_in : List ℕ → LargeValue → List ℕ
value_in file v = take v.len (padded_in file v)

-- the data file has it whole
pub record IsStoredValue (file : List ℕ) (v : LargeValue) : Type 0 where
  pub fit : IsFitValue v
  pub whole : All (IsWhole file) (value_pieces v)

-- bytes that have the digests of these pieces, one after the other
abbrev pub HaveSums : List Extent → List ℕ → Type 0
HaveSums [] blocks = blocks ≡ []
HaveSums (p ∷ ps) blocks = (front rest : List ℕ) × (blocks ≡ front ++ rest) × (length front ≡ p.count * BLOCK) × (sum_of front ≡ p.sum) × HaveSums ps rest

-- the bytes of a value, as far as the digests of its pieces say
abbrev pub AreTested : LargeValue → List ℕ → Type 0
AreTested v bytes = (blocks : List ℕ) × (bytes ≡ take v.len blocks) × HaveSums (value_pieces v) blocks

-- it is whole in the new content, with the bytes of the old one
pub record KeepsValue (old new : List ℕ) (v : LargeValue) : Type 0 where
  pub stored : IsStoredValue new v
  pub same : padded_in new v ≡ padded_in old v
