-- The gaps after an extent became free.
use Rattle.std.specs.Prelude.{◌+◌, ◌≤◌, List, ◌∷◌, ◌++◌, length, take, drop}
use Rattle.fuse_data.specs.declared.extent.Extent.{Extent}
use Rattle.fuse_data.specs.declared.gaps.Gap.{Gap}
use Rattle.fuse_data.specs.declared.filling.Filling.{Filling}
use Rattle.fuse_data.specs.Space.{AreGaps, InUse, PutsIn}

-- one gap, in place of those from `at` up to `after`
abbrev pub filled : List Gap → Filling → List Gap
filled gaps f = take f.at gaps ++ f.gap ∷ drop f.after gaps

-- so the extent becomes free, which was in use
pub record Fills (p : Extent) (gaps : List Gap) (f : Filling) : Type 0 where
  pub low : f.at ≤ f.after
  pub few : f.after ≤ f.at + 2
  pub within : f.after ≤ length gaps
  pub in_use : InUse gaps p
  pub exact : PutsIn p gaps (filled gaps f)
  pub sound : AreGaps 1 (filled gaps f)
