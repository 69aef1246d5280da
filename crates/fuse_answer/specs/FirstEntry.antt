-- The first entry of a directory listing, by its places (fuse.h: fuse_dirent).
use Rattle.std.specs.Prelude.{◌==◌, ℕ, zero, suc, nat_lt, if◌then◌else◌, List, [], ◌∷◌, length, take, drop, Option, Some, None}
use Rattle.std.specs.Option.{option_map_or}
use Rattle.fuse_wire.specs.Bytes.{number_of}
use Rattle.fuse_wire.specs.Bounds.{max_name_len}
use Rattle.fuse_answer.specs.Sizes.{dirent_name_offset}
use Rattle.fuse_answer.specs.declared.unpacking.Dirents.{Dirents}
use Rattle.fuse_answer.specs.Entries.{DirectoryEntry, entry_len}

abbrev pub name_len : List ℕ → ℕ
name_len b = number_of 4 (drop 16 b)

abbrev pub directory_entry_at : List ℕ → DirectoryEntry
directory_entry_at b = record {
  ino = number_of 8 b;
  off = number_of 8 (drop 8 b);
  kind = number_of 4 (drop 20 b);
  name = take (name_len b) (drop dirent_name_offset b);
}

-- the first entry and the bytes after it, where it is whole
abbrev pub leading_entry : List ℕ → Option (DirectoryEntry × List ℕ)
leading_entry b =
    if nat_lt (length b) dirent_name_offset then None
    else if name_len b == 0 then None
    else if nat_lt max_name_len (name_len b) then None
    else if nat_lt (length b) (entry_len (name_len b)) then None
    else Some (directory_entry_at b, drop (entry_len (name_len b)) b)

-- the first entries, at most n, as long as they are whole
abbrev pub entries_by : ℕ → List ℕ → List DirectoryEntry
entries_by zero b = []
entries_by (suc n) b = option_map_or (λ p. p.0 ∷ entries_by n p.1) (leading_entry b) []

-- the entries that an iterator has left
unfoldable pub entries_left : Dirents → List DirectoryEntry
entries_left d = entries_by (length d.rest.now) d.rest.now
