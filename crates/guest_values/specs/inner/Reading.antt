-- One piece that is read.
use Rattle.std.specs.Prelude.{◌≡◌, ℕ, Bool, false, IsTrue, ⊤, List}
use Rattle.fuse_data.specs.declared.extent.Extent.{Extent}
use Rattle.fuse_data.specs.declared.fault.DataFault.{DataFault}
use Rattle.fuse_data.specs.declared.fault.DataFault.TheVariants.{Disk, Memory, Unusable, Damaged}
use Rattle.fuse_data.specs.Extents.{IsWhole}

-- of this file, where the disk is clean
abbrev pub FailsToGetPiece : Bool → Bool → List ℕ → Extent → DataFault → Type 0
FailsToGetPiece usable clean file p (Disk e) = IsTrue usable
FailsToGetPiece usable clean file p Unusable = usable ≡ false
FailsToGetPiece usable clean file p Memory = ⊤
FailsToGetPiece usable clean file p (Damaged q) = (q ≡ p) × (IsTrue clean → ¬ IsWhole file p)
FailsToGetPiece usable clean file p f = ⊥
