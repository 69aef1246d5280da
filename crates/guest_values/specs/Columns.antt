-- The columns of a row that lists a large value (defined by this project). A row of a small one has its bytes, and place 0.
use Rattle.std.specs.Prelude.{◌≡◌, ℕ, List, [], ◌++◌, Option, Some, None}
use Rattle.fuse_wire.specs.Bytes.{le}
use Rattle.fuse_data.specs.declared.extent.Extent.{Extent}
use Rattle.guest_values.specs.declared.large_value.LargeValue.{LargeValue}

-- its place and its digest, in eight bytes each; how many blocks it has follows from the length of the value
abbrev pub second_bytes : Extent → List ℕ
second_bytes p = le 8 p.place ++ le 8 p.sum

-- what the column `value` has in place of the value
abbrev pub rest_bytes : Option Extent → List ℕ
rest_bytes None = []
rest_bytes (Some p) = second_bytes p

-- the columns `value`, `place`, `len` and `sum` of its row
pub record HasColumns (v : LargeValue) (value : List ℕ) (place len sum : ℕ) : Type 0 where
  pub value_is : rest_bytes v.second ≡ value
  pub place_is : v.first.place ≡ place
  pub len_is : v.len ≡ len
  pub sum_is : v.first.sum ≡ sum
