-- The free space, where several pieces come and go (defined by this project).
use Rattle.std.specs.Prelude.{◌⊎◌, ◌↔◌, ℕ, List}
use Rattle.std.specs.List.{All}
use Rattle.fuse_data.specs.declared.extent.Extent.{Extent}
use Rattle.fuse_data.specs.declared.gaps.Gap.{Gap}
use Rattle.fuse_data.specs.Extents.{AreDisjoint}
use Rattle.fuse_data.specs.Space.{IsFreeBlock, IsListed}

-- exactly the blocks of these pieces, which were free, are free no more
abbrev pub TakesAllOut : List Extent → List Gap → List Gap → Type 0
TakesAllOut ps old new = (b : ℕ) → IsFreeBlock new b ↔ (IsFreeBlock old b × ¬ IsListed ps b)

-- exactly the blocks of these pieces become free
abbrev pub PutsAllIn : List Extent → List Gap → List Gap → Type 0
PutsAllIn ps old new = (b : ℕ) → IsFreeBlock new b ↔ (IsFreeBlock old b ⊎ IsListed ps b)

-- the same blocks are free
abbrev pub HasSameSpace : List Gap → List Gap → Type 0
HasSameSpace old new = (b : ℕ) → IsFreeBlock new b ↔ IsFreeBlock old b

-- blocks become free, of these pieces alone
pub record FreesSome (ps : List Extent) (old new : List Gap) : Type 0 where
  pub more : (b : ℕ) → IsFreeBlock old b → IsFreeBlock new b
  pub only : (b : ℕ) → IsFreeBlock new b → IsFreeBlock old b ⊎ IsListed ps b

-- no piece of the one list shares a block with one of the other
abbrev pub ShareNoBlock : List Extent → List Extent → Type 0
ShareNoBlock ps qs = All (λ p. All (AreDisjoint p) qs) ps
