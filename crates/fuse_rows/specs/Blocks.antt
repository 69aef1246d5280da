-- Which blocks of a file were written (defined by this project): their numbers, in rising order. What lies in no written block is zero.
use Rattle.std.specs.Prelude.{◌+◌, ◌-◌, ◌/◌, ◌&&◌, ℕ, zero, suc, nat_le, nat_lt, List, [], ◌∷◌, ◌++◌, length, filter, Option, Some, None}
use Rattle.fuse_rows.specs.Bounds.{block_bytes}

-- the blocks that a size takes, written or not
abbrev pub blocks_for : ℕ → ℕ
blocks_for size = (size + (block_bytes - 1)) / block_bytes

-- the first block that bytes from a place on touch
abbrev pub first_touched : ℕ → ℕ
first_touched offset = offset / block_bytes

-- the block after the last one that so many bytes from a place on touch: no byte touches none
abbrev pub touched_end : ℕ → ℕ → ℕ
touched_end offset zero = offset / block_bytes
touched_end offset (suc others) = (offset + others) / block_bytes + 1

-- so many numbers, in a row
abbrev pub numbers_from : ℕ → ℕ → List ℕ
numbers_from first zero = []
numbers_from first (suc others) = first ∷ numbers_from (first + 1) others

-- the blocks from one on, below another, are written too
abbrev pub with_range : ℕ → ℕ → List ℕ → List ℕ
with_range from to blocks = filter (λ b. nat_lt b from) blocks ++ numbers_from from (to - from) ++ filter (λ b. nat_le to b) blocks

-- those that so many bytes from a place on touch
abbrev pub with_touched : ℕ → ℕ → List ℕ → List ℕ
with_touched offset len blocks = with_range (first_touched offset) (touched_end offset len) blocks

-- those at and above a size are written no more
abbrev pub below_size : ℕ → List ℕ → List ℕ
below_size size blocks = filter (λ b. nat_lt b (blocks_for size)) blocks

-- how many were written from one on, below another
abbrev pub count_between : ℕ → ℕ → List ℕ → ℕ
count_between from to blocks = length (filter (λ b. nat_le from b && nat_lt b to) blocks)

-- none, where they aren't counted
abbrev pub listed_blocks : Option (List ℕ) → List ℕ
listed_blocks None = []
listed_blocks (Some blocks) = blocks

abbrev pub how_many : Option ℕ → ℕ
how_many None = 0
how_many (Some count) = count

-- the content of a node: its bytes, and the blocks of them that were written, where these are counted
pub record Body : Type 0 where
  pub bytes : List ℕ
  pub blocks : Option (List ℕ)
