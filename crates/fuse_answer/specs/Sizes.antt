-- The sizes of the structs of fuse.h that answers have.
use Rattle.std.specs.Prelude.{ℕ}

abbrev pub out_header_size : ℕ
out_header_size = 16

abbrev pub attr_size : ℕ
attr_size = 88

abbrev pub entry_out_size : ℕ
entry_out_size = 128

abbrev pub attr_out_size : ℕ
attr_out_size = 104

abbrev pub open_out_size : ℕ
open_out_size = 16

abbrev pub write_out_size : ℕ
write_out_size = 8

abbrev pub init_out_size : ℕ
init_out_size = 64

abbrev pub statfs_out_size : ℕ
statfs_out_size = 80

abbrev pub getxattr_out_size : ℕ
getxattr_out_size = 8

abbrev pub lseek_out_size : ℕ
lseek_out_size = 8

-- where the name of a fuse_dirent begins: FUSE_NAME_OFFSET
abbrev pub dirent_name_offset : ℕ
dirent_name_offset = 24

-- of the target of a symbolic link (Linux: fuse_readlink_folio asks for a page less one byte)
abbrev pub max_target_len : ℕ
max_target_len = 4095
