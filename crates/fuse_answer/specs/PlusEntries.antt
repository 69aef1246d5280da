-- The entries of a directory as READDIRPLUS answers them (fuse.h: fuse_direntplus; Linux: fuse_direntplus_link takes an entry whose
-- nodeid is 0 for none).
use Rattle.std.specs.Prelude.{◌≡◌, ◌+◌, ℕ, List, [], ◌∷◌, ◌++◌, replicate, drop, Option, Some, None}
use Rattle.fuse_wire.specs.Layout.{form}
use Rattle.fuse_answer.specs.declared.records.EntryOut.{EntryOut}
use Rattle.fuse_answer.specs.declared.plus.PlusDirent.{PlusDirent}
use Rattle.fuse_answer.specs.Sizes.{entry_out_size}
use Rattle.fuse_answer.specs.Bodies.{entry_bytes}
use Rattle.fuse_answer.specs.Entries.{DirectoryEntry, directory_entry_of, dirent_parts, packed_len, StandsBefore}

-- an entry of READDIR, and before it what LOOKUP of its name answers, or nothing
pub record PlusEntry : Type 0 where
  pub out : Option EntryOut
  pub entry : DirectoryEntry

abbrev pub plus_of : PlusDirent → PlusEntry
plus_of d = record { out = d.entry_out; entry = directory_entry_of d.dirent }

-- how many bytes it takes
abbrev pub plus_len : PlusEntry → ℕ
plus_len e = entry_out_size + packed_len e.entry

-- where there is nothing, as many zero bytes
abbrev pub out_bytes : Option EntryOut → List ℕ
out_bytes None = replicate entry_out_size 0
out_bytes (Some out) = entry_bytes out

abbrev pub plus_form : PlusEntry → List ℕ
plus_form e = out_bytes e.out ++ form (dirent_parts e.entry)

-- the entries, one after the other
abbrev pub plus_bytes : List PlusEntry → List ℕ
plus_bytes [] = []
plus_bytes (e ∷ es) = plus_form e ++ plus_bytes es

-- the bytes are these entries, one after the other, and before each those of a fuse_entry_out, whatever they are
abbrev pub PlusLists : List DirectoryEntry → List ℕ → Type 0
PlusLists [] b = b ≡ []
PlusLists (e ∷ es) b = (rest : List ℕ) × StandsBefore e rest (drop entry_out_size b) × PlusLists es rest

abbrev pub IsPlusListing : List ℕ → Type 0
IsPlusListing b = (es : List DirectoryEntry) × PlusLists es b
