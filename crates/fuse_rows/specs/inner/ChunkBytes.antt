-- A content in pieces (defined by this project): the bytes that they stand for, and where a place of the content lies among them.
use Rattle.std.specs.Prelude.{◌≡◌, ◌+◌, ◌-◌, ◌<◌, ◌≤◌, ℕ, List, length, take, drop, replicate, slice_index_or}
use Rattle.std.specs.List.{flat_map}
use Rattle.fuse_rows.specs.declared.chunk.Chunk.{Chunk}
use Rattle.fuse_rows.specs.declared.chunk.Chunk.TheVariants as kinds
use Rattle.fuse_rows.specs.declared.chunks.Place.{Place}
use Rattle.fuse_rows.specs.declared.chunks.Cut.{Cut}

abbrev pub bytes_of_chunk : Chunk → List ℕ
bytes_of_chunk (kinds.Bytes bytes) = bytes
bytes_of_chunk (kinds.Zeros count) = replicate count 0

-- the bytes of the chunks, in a row
abbrev pub joined_chunks : List Chunk → List ℕ
joined_chunks chunks = flat_map bytes_of_chunk chunks

-- the place lies after these chunks and so many bytes of the next one, if there is a next one
pub record IsPlace (chunks : List Chunk) (at : ℕ) (place : Place) : Type 0 where
  pub index : place.index ≤ length chunks
  pub behind : length (joined_chunks (take place.index chunks)) + place.left ≡ at
  pub within : (d : Chunk) → place.index < length chunks → place.left < length (bytes_of_chunk (slice_index_or chunks place.index d))

-- of the first chunks, as many as the limit says, some end at the place; the content is the same
pub record CutsAt (old new : List Chunk) (limit at : ℕ) (cut : Cut) : Type 0 where
  pub index : cut.index ≤ cut.limit
  pub within : cut.limit ≤ length new
  pub before : joined_chunks (take cut.index new) ≡ take at (joined_chunks (take limit old))
  pub beyond : cut.beyond ≡ at - length (joined_chunks (take limit old))
  pub others : drop cut.limit new ≡ drop limit old
