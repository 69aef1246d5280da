-- What stays in the data file over a call, and in what a crash leaves of it (defined by this project).
use Rattle.std.specs.Prelude.{ℕ, List}
use Rattle.std.specs.List.{All}
use Rattle.fuse_data.specs.declared.extent.Extent.{Extent}
use Rattle.fuse_data.specs.declared.gaps.Gap.{Gap}
use Rattle.fuse_data.specs.Extents.{IsWhole, IsKept}
use Rattle.fuse_data.specs.Space.{InUse}
use Rattle.fuse_data.specs.Header.{HasHeader}

-- The header, and each extent that has no free block, are in the new content if they were in the old one. All else may be anything.
pub record KeepsInUse (gaps : List Gap) (old new : List ℕ) : Type 0 where
  pub header : (store : ℕ) → HasHeader store old → HasHeader store new
  pub extents : (p : Extent) → InUse gaps p → IsWhole old p → IsKept old new p

-- the same of these extents
abbrev pub KeepsListed : List Extent → List ℕ → List ℕ → Type 0
KeepsListed listed old new = All (IsWhole old) listed → All (IsKept old new) listed

-- whatever a crash leaves, these extents are whole in it
abbrev pub AreSafe : List Extent → (List ℕ → Type 0) → Type 0
AreSafe listed may_leave = (c : List ℕ) → may_leave c → All (IsWhole c) listed
