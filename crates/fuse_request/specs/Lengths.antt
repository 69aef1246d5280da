-- The sizes of the structs of fuse.h that requests have.
use Rattle.std.specs.Prelude.{ℕ}

abbrev pub forget_in_size : ℕ
forget_in_size = 8

abbrev pub getattr_in_size : ℕ
getattr_in_size = 16

abbrev pub setattr_in_size : ℕ
setattr_in_size = 88

abbrev pub mknod_in_size : ℕ
mknod_in_size = 16

abbrev pub mkdir_in_size : ℕ
mkdir_in_size = 8

abbrev pub rename_in_size : ℕ
rename_in_size = 8

abbrev pub rename2_in_size : ℕ
rename2_in_size = 16

abbrev pub open_in_size : ℕ
open_in_size = 8

abbrev pub read_in_size : ℕ
read_in_size = 40

abbrev pub write_in_size : ℕ
write_in_size = 40

abbrev pub release_in_size : ℕ
release_in_size = 24

abbrev pub interrupt_in_size : ℕ
interrupt_in_size = 8

abbrev pub batch_forget_in_size : ℕ
batch_forget_in_size = 8

abbrev pub forget_one_size : ℕ
forget_one_size = 16

-- fuse_init_in up to version 7.35, and from 7.36 on
abbrev pub compat_init_in_size : ℕ
compat_init_in_size = 16

abbrev pub init_in_size : ℕ
init_in_size = 64

abbrev pub link_in_size : ℕ
link_in_size = 8

abbrev pub fsync_in_size : ℕ
fsync_in_size = 16

abbrev pub getxattr_in_size : ℕ
getxattr_in_size = 8

abbrev pub flush_in_size : ℕ
flush_in_size = 24

abbrev pub access_in_size : ℕ
access_in_size = 8

abbrev pub create_in_size : ℕ
create_in_size = 16

abbrev pub fallocate_in_size : ℕ
fallocate_in_size = 32

abbrev pub lseek_in_size : ℕ
lseek_in_size = 24

abbrev pub copy_file_range_in_size : ℕ
copy_file_range_in_size = 56

-- fuse_setxattr_in without the fields of FUSE_SETXATTR_EXT
abbrev pub compat_setxattr_in_size : ℕ
compat_setxattr_in_size = 8
