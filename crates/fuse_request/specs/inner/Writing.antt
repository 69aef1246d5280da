-- What the writers of messages owe each other (defined by this project).
use Rattle.std.specs.Prelude.{◌/◌, length}
use Rattle.fuse_wire.specs.Written.{AllFit}
use Rattle.fuse_request.specs.Act.{Act, Lookup, Mknod, Mkdir, Unlink, Rmdir, Rename, Rename2, Asked}
use Rattle.fuse_request.specs.Canon.{len_of}
use Rattle.fuse_request.specs.Spelling.{parts, header_parts}

-- its body ends with a name
abbrev pub EndsWithName : Act → Type 0
EndsWithName (Lookup name) = Unit {0}
EndsWithName (Mknod mode rdev umask name) = Unit {0}
EndsWithName (Mkdir mode umask name) = Unit {0}
EndsWithName (Unlink name) = Unit {0}
EndsWithName (Rmdir name) = Unit {0}
EndsWithName (Rename new_dir old_name new_name) = Unit {0}
EndsWithName (Rename2 new_dir flags old_name new_name) = Unit {0}
EndsWithName _ = ⊥

-- the numbers of a message fit
abbrev pub HasNumbers : Asked → Type 0
HasNumbers v = AllFit (header_parts (len_of v) (length v.ext / 8) v) × AllFit (parts v.act)
