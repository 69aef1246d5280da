-- The answer to READDIR (defined by this project; fuse.h: fuse_dirent): the entries after an offset, as many as fit.
use Rattle.std.specs.Prelude.{◌-◌, ◌==◌, ℕ, Bool, true, not, nat_le, nat_lt, if◌then◌else◌, List, [], ◌∷◌, filter, codes}
use Rattle.fuse_wire.specs.Errnos.{ebadf, enotdir, einval}
use Rattle.fuse_request.specs.declared.request.ReadIn.{ReadIn}
use Rattle.fuse_answer.specs.Said.{Said}
use Rattle.fuse_answer.specs.Entries.{DirectoryEntry, packed_len, entries_bytes}
use Rattle.five_files.specs.declared.node.Node.{Node}
use Rattle.five_files.specs.declared.node.Node.TheVariants.{Readme, Licence, Hours, Times}
use Rattle.five_files.specs.Nodes.{number_of, name_of, is_dir}
use Rattle.five_files.specs.Answers.{refuse, give}

-- the type of a directory is 4, that of a regular file 8
abbrev pub file_entry : Node → ℕ → DirectoryEntry
file_entry n cookie = record { ino = number_of n; off = cookie; kind = 8; name = name_of n }

-- a symbolic link is 10
abbrev pub link_entry : Node → ℕ → DirectoryEntry
link_entry n cookie = record { ino = number_of n; off = cookie; kind = 10; name = name_of n }

-- the directory is the root, so that the one above it is itself
abbrev pub entries : List DirectoryEntry
entries =
    record { ino = 1; off = 1; kind = 4; name = codes "." }
    ∷ record { ino = 1; off = 2; kind = 4; name = codes ".." }
    ∷ file_entry Readme 3
    ∷ file_entry Licence 4
    ∷ file_entry Hours 5
    ∷ link_entry Times 6
    ∷ []

abbrev pub entries_following : ℕ → List DirectoryEntry
entries_following offset = filter (λ e. nat_lt offset e.off) entries

-- the entries from the first one on, as long as each fits with its padding into what is left
abbrev pub fitting : List DirectoryEntry → ℕ → List DirectoryEntry
fitting [] size = []
fitting (e ∷ es) size = if nat_le (packed_len e) size then e ∷ fitting es (size - packed_len e) else []

-- there is no first entry, or it fits
abbrev pub first_fits : List DirectoryEntry → ℕ → Bool
first_fits [] size = true
first_fits (e ∷ es) size = nat_le (packed_len e) size

abbrev pub list : List DirectoryEntry → ℕ → Said
list es size = if not (first_fits es size) then refuse einval else give (entries_bytes (fitting es size))

abbrev pub read_dir : ReadIn → Node → Said
read_dir asked n =
    if not (asked.fh == number_of n) then refuse ebadf
    else if not (is_dir n) then refuse enotdir
    else if nat_lt 1048576 asked.size then refuse einval
    else list (entries_following asked.offset) asked.size
