-- Extents: runs of blocks of the data file, each with the digest of its bytes (defined by this project).
use Rattle.std.specs.Prelude.{◌≡◌, ◌⊎◌, ℕ, ◌+◌, ◌*◌, ◌≤◌, ◌<◌, List, [], ◌∷◌, length, take, drop, slice_index_or}
use Rattle.sqlite_disk.specs.Digest.{digest}
use Rattle.fuse_data.specs.declared.extent.Extent.{Extent}
use Rattle.fuse_data.specs.declared.extent.TheConstants.{BLOCK, MOST, END}

-- the first block after an extent
abbrev pub past : Extent → ℕ
past p = p.place + p.count

-- a data file can have it: it lies after block 0, and an offset can name its end
pub record IsPlaced (p : Extent) : Type 0 where
  pub place : 1 ≤ p.place
  pub some : 1 ≤ p.count
  pub few : p.count ≤ MOST
  pub low : past p ≤ END

-- so many bytes are an extent's
abbrev pub AreBlocks : ℕ → Type 0
AreBlocks len = (count : ℕ) × (1 ≤ count) × (count ≤ MOST) × (len ≡ count * BLOCK)

-- the block of the file is the extent's
abbrev pub IsBlockOf : Extent → ℕ → Type 0
IsBlockOf p b = (p.place ≤ b) × (b < past p)

-- no block is in both
abbrev pub AreDisjoint : Extent → Extent → Type 0
AreDisjoint p q = (past p ≤ q.place) ⊎ (past q ≤ p.place)

-- SipHash-1-3 under the kit's fixed keys, of eight zeros and the bytes
abbrev pub sum_of : List ℕ → ℕ
sum_of bytes = digest 0 bytes

-- what the file has there
abbrev pub bytes_of : List ℕ → Extent → List ℕ
bytes_of file p = take (p.count * BLOCK) (drop (p.place * BLOCK) file)

-- each is a byte
abbrev pub AreBytes : List ℕ → Type 0
AreBytes bytes = (i : ℕ) → slice_index_or bytes i 0 < 256

-- the extent ends within the file, and what is there are bytes that have its digest
pub record IsWhole (file : List ℕ) (p : Extent) : Type 0 where
  pub placed : IsPlaced p
  pub within : past p * BLOCK ≤ length file
  pub bytes : AreBytes (bytes_of file p)
  pub sum : sum_of (bytes_of file p) ≡ p.sum

-- it is whole in the new content, with the bytes of the old one
pub record IsKept (old new : List ℕ) (p : Extent) : Type 0 where
  pub whole : IsWhole new p
  pub same : bytes_of new p ≡ bytes_of old p

-- each begins at or after this block and ends before the next one begins, so no two overlap
abbrev pub AreByPlace : ℕ → List Extent → Type 0
AreByPlace low [] = Unit {0}
AreByPlace low (p ∷ later) = (low ≤ p.place) × IsPlaced p × AreByPlace (past p) later
