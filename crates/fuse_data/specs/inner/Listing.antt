-- The free space while the listed extents are taken out of it.
use Rattle.std.specs.Prelude.{◌≡◌, ◌⊎◌, ◌↔◌, ℕ, ◌+◌, ◌≤◌, ◌<◌, List, [], ◌∷◌, take, slice_index_or}
use Rattle.std.specs.List.{All}
use Rattle.fuse_data.specs.declared.extent.Extent.{Extent}
use Rattle.fuse_data.specs.declared.extent.TheConstants.{END}
use Rattle.fuse_data.specs.declared.gaps.Gap.{Gap}
use Rattle.fuse_data.specs.Extents.{past, AreByPlace}
use Rattle.fuse_data.specs.Space.{IsFreeBlock, IsListed}

-- the block after the last extent, or this one
abbrev pub past_all : ℕ → List Extent → ℕ
past_all low [] = low
past_all low (p ∷ later) = past_all (past p) later

-- gaps, and the last one ends before this block
abbrev pub GapsBelow : ℕ → List Gap → ℕ → Type 0
GapsBelow low [] n = low ≤ n
GapsBelow low (g ∷ gaps) n = (low ≤ g.from) × (g.from < g.to) × (g.to ≤ END) × GapsBelow (g.to + 1) gaps n

-- the blocks from one up to another become free, after all gaps
pub record AddsGap (from to : ℕ) (old new : List Gap) : Type 0 where
  pub exact : (b : ℕ) → IsFreeBlock new b ↔ (IsFreeBlock old b ⊎ ((from ≤ b) × (b < to)))
  pub gaps : GapsBelow 1 old from → to ≤ END → (n : ℕ) → to < n → GapsBelow 1 new n

-- the gaps are what the first n extents don't have, up to where they end
pub record Claimed (listed : List Extent) (n from blocks : ℕ) (gaps : List Gap) : Type 0 where
  pub by_place : AreByPlace 1 (take n listed)
  pub from_is : past_all 1 (take n listed) ≡ from
  pub low : 1 ≤ from
  pub high : from ≤ END
  pub sound : GapsBelow 1 gaps from
  pub exact : (b : ℕ) → IsFreeBlock gaps b ↔ ((1 ≤ b) × (b < from) × ¬ IsListed (take n listed) b)
  pub within : (k : ℕ) (d : Extent) → k < n → past (slice_index_or listed k d) ≤ blocks

-- the same of the whole list
pub record ClaimsAll (listed : List Extent) (from blocks : ℕ) (gaps : List Gap) : Type 0 where
  pub by_place : AreByPlace 1 listed
  pub from_is : past_all 1 listed ≡ from
  pub low : 1 ≤ from
  pub high : from ≤ END
  pub sound : GapsBelow 1 gaps from
  pub exact : (b : ℕ) → IsFreeBlock gaps b ↔ ((1 ≤ b) × (b < from) × ¬ IsListed listed b)
  pub within : All (λ p. past p ≤ blocks) listed
