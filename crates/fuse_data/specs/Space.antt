-- The free space of the data file: the blocks that no listed extent has (defined by this project).
use Rattle.std.specs.Prelude.{◌≡◌, ◌⊎◌, ◌↔◌, ℕ, ◌+◌, ◌≤◌, ◌<◌, List, [], ◌∷◌, length, slice_index_or}
use Rattle.std.specs.List.{All}
use Rattle.fuse_data.specs.declared.extent.Extent.{Extent}
use Rattle.fuse_data.specs.declared.extent.TheConstants.{END}
use Rattle.fuse_data.specs.declared.gaps.Gap.{Gap}
use Rattle.fuse_data.specs.Extents.{past, IsBlockOf}

abbrev pub IsWithin : Gap → ℕ → Type 0
IsWithin g b = (g.from ≤ b) × (b < g.to)

-- the block is free
abbrev pub IsFreeBlock : List Gap → ℕ → Type 0
IsFreeBlock [] b = ⊥
IsFreeBlock (g ∷ gaps) b = IsWithin g b ⊎ IsFreeBlock gaps b

-- the gaps begin at or after this block, in order; none is empty, no two touch, and an offset can name the end of each
abbrev pub AreGaps : ℕ → List Gap → Type 0
AreGaps low [] = Unit {0}
AreGaps low (g ∷ gaps) = (low ≤ g.from) × (g.from < g.to) × (g.to ≤ END) × AreGaps (g.to + 1) gaps

-- each block of the extent is free
abbrev pub IsFreeExtent : List Gap → Extent → Type 0
IsFreeExtent gaps p = (b : ℕ) → IsBlockOf p b → IsFreeBlock gaps b

-- no block of the extent is free
abbrev pub InUse : List Gap → Extent → Type 0
InUse gaps p = (b : ℕ) → IsBlockOf p b → ¬ IsFreeBlock gaps b

abbrev pub AllInUse : List Gap → List Extent → Type 0
AllInUse gaps listed = All (InUse gaps) listed

-- gap `i` has so many blocks
pub record HasBlocks (gaps : List Gap) (i count : ℕ) : Type 0 where
  pub within : i < length gaps
  pub room : (d : Gap) → (slice_index_or gaps i d).from + count ≤ (slice_index_or gaps i d).to

-- the extent is the first blocks of gap `i`
pub record HeadsGap (gaps : List Gap) (i : ℕ) (p : Extent) : Type 0 where
  pub within : i < length gaps
  pub begins : (d : Gap) → (slice_index_or gaps i d).from ≡ p.place
  pub ends : (d : Gap) → past p ≤ (slice_index_or gaps i d).to

-- the extent's blocks, and no other, are free no more
abbrev pub TakesOut : Extent → List Gap → List Gap → Type 0
TakesOut p old new = (b : ℕ) → IsFreeBlock new b ↔ (IsFreeBlock old b × ¬ IsBlockOf p b)

-- the extent's blocks, and no other, become free
abbrev pub PutsIn : Extent → List Gap → List Gap → Type 0
PutsIn p old new = (b : ℕ) → IsFreeBlock new b ↔ (IsFreeBlock old b ⊎ IsBlockOf p b)

-- the block is one of the extents'
abbrev pub IsListed : List Extent → ℕ → Type 0
IsListed [] b = ⊥
IsListed (p ∷ later) b = IsBlockOf p b ⊎ IsListed later b

-- free is what the extents don't have, after block 0 and up to the last block that an offset can name
abbrev pub IsSpaceOf : List Extent → List Gap → Type 0
IsSpaceOf listed gaps = (b : ℕ) → IsFreeBlock gaps b ↔ ((1 ≤ b) × (b < END) × ¬ IsListed listed b)

-- all blocks are free from this one on, and it is the first such
pub record IsTail (gaps : List Gap) (tail : ℕ) : Type 0 where
  pub some : 1 ≤ tail
  pub low : tail ≤ END
  pub free : (b : ℕ) → tail ≤ b → b < END → IsFreeBlock gaps b
  pub first : (b : ℕ) → b < END → ((k : ℕ) → b ≤ k → k < END → IsFreeBlock gaps k) → tail ≤ b
