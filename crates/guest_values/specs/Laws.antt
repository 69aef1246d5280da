-- Laws of values over changes of the data file, and of the lists of pieces that it serves (defined by this project).
use Rattle.std.specs.Prelude.{ℕ, List}
use Rattle.std.specs.List.{All}
use Rattle.std.specs.List.Sorted.{IsPermutation}
use Rattle.sqlite_disk.specs.declared.Disk.{Ghosts}
use Rattle.fuse_data.specs.declared.extent.Extent.{Extent}
use Rattle.fuse_data.specs.declared.gaps.Gap.{Gap}
use Rattle.fuse_data.specs.Leaving.{KeepsInUse}
use Rattle.fuse_data.specs.Space.{AllInUse}
use Rattle.guest_values.specs.declared.large_value.LargeValue.{LargeValue}
use Rattle.guest_values.specs.declared.value_file.ValueFile.{ValueFile}
use Rattle.guest_values.specs.Serving.{ServesPieces, RestsOn, values_of}
use Rattle.guest_values.specs.Values.{IsStoredValue, KeepsValue, value_pieces, all_value_pieces}

-- where the data file changes in free blocks alone, values stay, one or a list of them
pub record ValuesStay : Type 0 where
  pub one : (gaps : List Gap) (old new : List ℕ) (v : LargeValue) → KeepsInUse gaps old new → AllInUse gaps (value_pieces v) → IsStoredValue old v → KeepsValue old new v
  pub all : (gaps : List Gap) (old new : List ℕ) (vs : List LargeValue) → KeepsInUse gaps old new → AllInUse gaps (all_value_pieces vs) → All (IsStoredValue old) vs
      → All (KeepsValue old new) vs

-- the lists that a data file serves
pub record ListsServe {D : Type 0} (g : Ghosts D) : Type 0 where
  -- a transaction begins
  pub begins : (listed : List Extent) (f : ValueFile D) → RestsOn listed (values_of g f) → ServesPieces listed listed (values_of g f)
  -- whatever the order
  pub ordered : (committed now others : List Extent) (f : ValueFile D) → IsPermutation now others → ServesPieces committed now (values_of g f) → ServesPieces committed others (values_of g f)
