-- READDIR (defined by this project): the entries of a directory after an offset, as many as fit.
use Rattle.std.specs.Prelude.{◌<◌, ◌==◌, ℕ, zero, suc, Bool, true, not, nat_le, nat_lt, if◌then◌else◌, List, [], ◌∷◌, ◌++◌, length, map, take, filter, Option, Some, None, codes}
use Rattle.std.specs.List.{sum_by}
use Rattle.fuse_wire.specs.Errnos.{enoent, ebadf, enotdir, einval}
use Rattle.fuse_request.specs.declared.request.ReadIn.{ReadIn}
use Rattle.fuse_answer.specs.Entries.{DirectoryEntry, packed_len, entries_bytes, IsLongest}
use Rattle.fuse_rows.specs.Bounds.{read_limit, fuse_root_id}
use Rattle.fuse_tree.specs.Modes.{s_ifdir}
use Rattle.fuse_rows.specs.declared.rows.EntryRow.{EntryRow}
use Rattle.fuse_tree.specs.Checks.{Check, Where}
use Rattle.fuse_tree.specs.State.{State, Node, Tree, Apart, type_of, is_dir, node_at, is_named, up_of}
use Rattle.fuse_tree.specs.Handles.{is_open}
use Rattle.fuse_tree.specs.Done.{Done, refuse, refuse_by, answer}

-- ---- the entries of a directory

-- the directory itself and the one above it, at the first two offsets
abbrev pub dots : ℕ → ℕ → List DirectoryEntry
dots dir above =
    record { ino = dir; off = 1; kind = type_of s_ifdir; name = codes "." }
    ∷ record { ino = above; off = 2; kind = type_of s_ifdir; name = codes ".." }
    ∷ []

-- the directory above, and above the root the root
abbrev pub above_or_root : State → ℕ → ℕ
above_or_root s dir = if dir == fuse_root_id then fuse_root_id else up_of s.entries dir

abbrev pub type_of_node : Option Node → ℕ
type_of_node None = 0
type_of_node (Some n) = type_of n.mode

-- the offset of an entry is its cookie
abbrev pub told_entry : State → EntryRow → DirectoryEntry
told_entry s e = record { ino = e.child; off = e.cookie; kind = type_of_node (node_at s e.child); name = e.name }

abbrev pub entries_in : State → ℕ → List DirectoryEntry
entries_in s dir = dots dir (above_or_root s dir) ++ map (told_entry s) (filter (λ e. e.dir == dir) s.entries)

abbrev pub is_following : ℕ → DirectoryEntry → Bool
is_following offset e = nat_lt offset e.off

abbrev pub entries_following : State → ℕ → ℕ → List DirectoryEntry
entries_following s dir offset = filter (is_following offset) (entries_in s dir)

-- ---- as many as fit

-- the most elements, n or fewer, that fit into size from the first one on, by the length of each
abbrev pub most_by : {A : Type 0} → (A → ℕ) → List A → ℕ → ℕ → ℕ
most_by len es size zero = 0
most_by len es size (suc n) = if nat_le (sum_by len (take (suc n) es)) size then suc n else most_by len es size n

abbrev pub longest_by : {A : Type 0} → (A → ℕ) → List A → ℕ → List A
longest_by len es size = take (most_by len es size (length es)) es

-- there is no first element, or it fits
abbrev pub first_fits_by : {A : Type 0} → (A → ℕ) → List A → ℕ → Bool
first_fits_by len [] size = true
first_fits_by len (e ∷ es) size = nat_le (len e) size

-- by their lengths in READDIR
abbrev pub most : List DirectoryEntry → ℕ → ℕ → ℕ
most es size n = most_by packed_len es size n

abbrev pub longest_prefix : List DirectoryEntry → ℕ → List DirectoryEntry
longest_prefix es size = longest_by packed_len es size

abbrev pub first_fits : List DirectoryEntry → ℕ → Bool
first_fits es size = first_fits_by packed_len es size

-- ---- READDIR

abbrev pub list_checks : State → ReadIn → Node → List Check
list_checks s asked n =
    Where ebadf (not (is_open s.handles asked.fh n.number)) ∷ Where enotdir (not (is_dir n.mode)) ∷ Where einval (nat_lt read_limit asked.size)
    ∷ Where enoent (not (is_named s n.number)) ∷ []

abbrev pub list_prefix : State → List DirectoryEntry → ℕ → Done
list_prefix s es size = if not (first_fits es size) then refuse s einval else answer s (entries_bytes (longest_prefix es size))

abbrev pub read_dir : State → ReadIn → Node → Done
read_dir s asked n = refuse_by s (list_checks s asked n) (list_prefix s (entries_following s n.number asked.offset) asked.size)

-- ---- laws

-- the entries of a directory of a tree stand in rising order of their offsets, and the listing is the longest prefix
-- that fits
pub record Listed (s : State) (dir offset size : ℕ) : Type 0 where
  pub rise : Apart (λ e later. e.off < later.off) (entries_in s dir)
  pub longest : IsLongest (entries_following s dir offset) size (most (entries_following s dir offset) size (length (entries_following s dir offset)))

abbrev pub ListingIsLongest : Type 0
ListingIsLongest = (s : State) (dir offset size : ℕ) → Tree s → Listed s dir offset size
