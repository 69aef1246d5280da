-- Why a call on a value fails, by its fault (defined by this project). Of a refused allocation nothing is known.
use Rattle.std.specs.Prelude.{◌≡◌, ℕ, Bool, false, IsTrue, ⊤, List}
use Rattle.std.specs.List.{Contains}
use Rattle.fuse_data.specs.declared.extent.Extent.{Extent}
use Rattle.fuse_data.specs.declared.gaps.Gap.{Gap}
use Rattle.fuse_data.specs.declared.fault.DataFault.{DataFault}
use Rattle.fuse_data.specs.declared.fault.DataFault.TheVariants.{Disk, Memory, Unusable, Full, Damaged}
use Rattle.fuse_data.specs.Space.{IsFreeExtent}
use Rattle.guest_values.specs.declared.large_value.LargeValue.{LargeValue}
use Rattle.guest_values.specs.Values.{IsStoredValue, value_pieces}

-- a value of so many blocks
abbrev pub FailsToPut : Bool → List Gap → ℕ → DataFault → Type 0
FailsToPut usable gaps blocks (Disk e) = IsTrue usable
FailsToPut usable gaps blocks Unusable = usable ≡ false
FailsToPut usable gaps blocks Memory = ⊤
-- no free blocks of that number stand in a row
FailsToPut usable gaps blocks Full = IsTrue usable × ((p : Extent) → p.count ≡ blocks → ¬ IsFreeExtent gaps p)
FailsToPut usable gaps blocks f = ⊥

-- of this file, where the disk is clean
abbrev pub FailsToGet : Bool → Bool → List ℕ → LargeValue → DataFault → Type 0
FailsToGet usable clean file v (Disk e) = IsTrue usable
FailsToGet usable clean file v Unusable = usable ≡ false
FailsToGet usable clean file v Memory = ⊤
FailsToGet usable clean file v (Damaged p) = Contains (value_pieces v) p × (IsTrue clean → ¬ IsStoredValue file v)
FailsToGet usable clean file v f = ⊥

abbrev pub IsMemory : DataFault → Type 0
IsMemory Memory = ⊤
IsMemory f = ⊥
