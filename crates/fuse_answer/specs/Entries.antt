-- The entries of a directory as READDIR answers them (fuse.h: fuse_dirent).
use Rattle.std.specs.Prelude.{◌≡◌, ◌<◌, ◌≤◌, ◌+◌, ◌-◌, ◌%◌, ℕ, List, [], ◌∷◌, ◌++◌, length, take}
use Rattle.std.specs.List.{sum_by}
use Rattle.fuse_wire.specs.Layout.{Part, number, unused, bytes, Lays, form}
use Rattle.fuse_wire.specs.Bounds.{max_name_len}
use Rattle.fuse_answer.specs.Sizes.{dirent_name_offset}
use Rattle.fuse_answer.specs.declared.dirent.Dirent.{Dirent}

-- an entry without where its name lies in memory
pub record DirectoryEntry : Type 0 where
  pub ino : ℕ
  pub off : ℕ
  pub kind : ℕ
  pub name : List ℕ

abbrev pub directory_entry_of : Dirent → DirectoryEntry
directory_entry_of d = record { ino = d.ino; off = d.off; kind = d.kind; name = d.name.now }

-- a name has 1 to 255 bytes
abbrev pub IsNamed : DirectoryEntry → Type 0
IsNamed e = (1 ≤ length e.name) × (length e.name ≤ max_name_len)

-- the bytes from n to the next multiple of 8
abbrev pub padding : ℕ → ℕ
padding n = (8 - n % 8) % 8

-- the padding after a name belongs to its entry
abbrev pub dirent_parts : DirectoryEntry → List Part
dirent_parts e =
    number 8 e.ino ∷ number 8 e.off ∷ number 4 (length e.name) ∷ number 4 e.kind ∷ bytes e.name
    ∷ unused (padding (length e.name)) ∷ []

-- the bytes b are the entry e with any padding, and then rest
pub record StandsBefore (e : DirectoryEntry) (rest b : List ℕ) : Type 0 where
  pub prefix : List ℕ
  pub whole : b ≡ prefix ++ rest
  pub named : IsNamed e
  pub laid : Lays (dirent_parts e) prefix

-- the bytes are these entries, one after the other
abbrev pub Lists : List DirectoryEntry → List ℕ → Type 0
Lists [] b = b ≡ []
Lists (e ∷ es) b = (rest : List ℕ) × StandsBefore e rest b × Lists es rest

abbrev pub IsListing : List ℕ → Type 0
IsListing b = (es : List DirectoryEntry) × Lists es b

-- how many bytes an entry takes whose name has n
abbrev pub entry_len : ℕ → ℕ
entry_len n = dirent_name_offset + (n + padding n)

abbrev pub packed_len : DirectoryEntry → ℕ
packed_len e = entry_len (length e.name)

-- the entries with padding of zero bytes
abbrev pub entries_bytes : List DirectoryEntry → List ℕ
entries_bytes [] = []
entries_bytes (e ∷ es) = form (dirent_parts e) ++ entries_bytes es

-- by the length of each entry: the first n fit into size, and no more of them do
pub record IsLongestBy {A : Type 0} (len : A → ℕ) (es : List A) (size n : ℕ) : Type 0 where
  pub within : n ≤ length es
  pub fits : sum_by len (take n es) ≤ size
  pub longest : (m : ℕ) → m ≤ length es → sum_by len (take m es) ≤ size → m ≤ n

abbrev pub IsLongest : List DirectoryEntry → ℕ → ℕ → Type 0
IsLongest es size n = IsLongestBy packed_len es size n

-- there is a first entry, and it doesn't fit
abbrev pub FirstIsTooBigBy : {A : Type 0} → (A → ℕ) → List A → ℕ → Type 0
FirstIsTooBigBy len [] size = ⊥
FirstIsTooBigBy len (e ∷ es) size = size < len e

abbrev pub FirstIsTooBig : List DirectoryEntry → ℕ → Type 0
FirstIsTooBig es size = FirstIsTooBigBy packed_len es size
