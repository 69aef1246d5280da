-- Block 0 of the data file: sixteen bytes of text, the version and the store's number (defined by this project).
use Rattle.std.specs.Prelude.{ℕ, List, ◌++◌, codes}
use Rattle.fuse_wire.specs.Bytes.{le}
use Rattle.sqlite_disk.specs.Disk.{Holds}

abbrev pub header_of : ℕ → List ℕ
header_of store = codes "fusekeep content" ++ le 8 3 ++ le 8 store

-- the file is the data file of the store with this number
abbrev pub HasHeader : ℕ → List ℕ → Type 0
HasHeader store file = Holds file 0 (header_of store)
