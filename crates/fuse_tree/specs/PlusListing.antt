-- READDIRPLUS (defined by this project; fuse.h: fuse_direntplus): the entries of READDIR, each with what LOOKUP of it answers.
use Rattle.std.specs.Prelude.{ℕ, not, nat_lt, if◌then◌else◌, List, map, length, Option, Some, None}
use Rattle.fuse_wire.specs.Errnos.{einval}
use Rattle.fuse_request.specs.declared.request.ReadIn.{ReadIn}
use Rattle.fuse_answer.specs.declared.records.EntryOut.{EntryOut}
use Rattle.fuse_answer.specs.Entries.{DirectoryEntry, IsLongestBy}
use Rattle.fuse_answer.specs.PlusEntries.{PlusEntry, plus_len, plus_bytes}
use Rattle.fuse_tree.specs.State.{State, Node, node_at}
use Rattle.fuse_tree.specs.Listing.{most_by, longest_by, first_fits_by, entries_following, list_checks}
use Rattle.fuse_tree.specs.Keeping.{agreement_of, valid_of}
use Rattle.fuse_tree.specs.Done.{Done, refuse, refuse_by, answer, attr_of, entry_out_of}

-- the directory itself and the one above it stand at offsets 1 and 2
abbrev pub first_cookie : ℕ
first_cookie = 3

-- what LOOKUP answers of a node
abbrev pub looked_up : State → Option Node → Option EntryOut
looked_up s None = None
looked_up s (Some n) = Some (entry_out_of (valid_of (agreement_of s)) (attr_of s n))

-- the kernel shall not take the first two as looked up
abbrev pub plus_entry : State → DirectoryEntry → PlusEntry
plus_entry s e = record { out = if nat_lt e.off first_cookie then None else looked_up s (node_at s e.ino); entry = e }

abbrev pub plus_following : State → ℕ → ℕ → List PlusEntry
plus_following s dir offset = map (plus_entry s) (entries_following s dir offset)

abbrev pub list_plus : State → List PlusEntry → ℕ → Done
list_plus s es size = if not (first_fits_by plus_len es size) then refuse s einval else answer s (plus_bytes (longest_by plus_len es size))

abbrev pub read_dir_plus : State → ReadIn → Node → Done
read_dir_plus s asked n = refuse_by s (list_checks s asked n) (list_plus s (plus_following s n.number asked.offset) asked.size)

-- the law: the listing is the longest prefix that fits
abbrev pub PlusIsLongest : Type 0
PlusIsLongest =
    (s : State) (dir offset size : ℕ)
    → IsLongestBy plus_len (plus_following s dir offset) size (most_by plus_len (plus_following s dir offset) size (length (plus_following s dir offset)))
