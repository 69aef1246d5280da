-- The bodies of answers to opcodes outside the profile (fuse.h: the struct named at each).
use Rattle.std.specs.Prelude.{◌++◌, ℕ, List, [], ◌∷◌}
use Rattle.fuse_wire.specs.Layout.{Part, number, unused, form}
use Rattle.fuse_answer.specs.declared.further.StatfsOut.{StatfsOut}
use Rattle.fuse_answer.specs.declared.further.XattrOut.{XattrOut}
use Rattle.fuse_answer.specs.declared.further.LseekOut.{LseekOut}
use Rattle.fuse_answer.specs.declared.further.CreateOut.{CreateOut}
use Rattle.fuse_answer.specs.Bodies.{entry_parts, open_parts}

-- fuse_kstatfs
abbrev pub statfs_parts : StatfsOut → List Part
statfs_parts s =
    number 8 s.blocks ∷ number 8 s.bfree ∷ number 8 s.bavail ∷ number 8 s.files ∷ number 8 s.ffree
    ∷ number 4 s.bsize ∷ number 4 s.namelen ∷ number 4 s.frsize ∷ unused 28 ∷ []

-- fuse_getxattr_out
abbrev pub xattr_parts : XattrOut → List Part
xattr_parts x = number 4 x.size ∷ unused 4 ∷ []

-- fuse_lseek_out
abbrev pub lseek_parts : LseekOut → List Part
lseek_parts l = number 8 l.offset ∷ []

-- fuse_entry_out, and then fuse_open_out
abbrev pub create_parts : CreateOut → List Part
create_parts c = entry_parts c.entry ++ open_parts c.open

abbrev pub create_out_size : ℕ
create_out_size = 144

-- the bytes of each record
unfoldable pub statfs_bytes : StatfsOut → List ℕ
statfs_bytes s = form (statfs_parts s)

unfoldable pub xattr_bytes : XattrOut → List ℕ
xattr_bytes x = form (xattr_parts x)

unfoldable pub lseek_bytes : LseekOut → List ℕ
lseek_bytes l = form (lseek_parts l)

unfoldable pub create_bytes : CreateOut → List ℕ
create_bytes c = form (create_parts c)
