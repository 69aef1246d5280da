-- The opcodes (fuse.h: enum fuse_opcode), and which of them are never answered.
use Rattle.std.specs.Prelude.{◌==◌, ◌||◌, ℕ, Bool}

abbrev pub fuse_lookup : ℕ
fuse_lookup = 1

abbrev pub fuse_forget : ℕ
fuse_forget = 2

abbrev pub fuse_getattr : ℕ
fuse_getattr = 3

abbrev pub fuse_setattr : ℕ
fuse_setattr = 4

abbrev pub fuse_readlink : ℕ
fuse_readlink = 5

abbrev pub fuse_symlink : ℕ
fuse_symlink = 6

abbrev pub fuse_mknod : ℕ
fuse_mknod = 8

abbrev pub fuse_mkdir : ℕ
fuse_mkdir = 9

abbrev pub fuse_unlink : ℕ
fuse_unlink = 10

abbrev pub fuse_rmdir : ℕ
fuse_rmdir = 11

abbrev pub fuse_rename : ℕ
fuse_rename = 12

abbrev pub fuse_link : ℕ
fuse_link = 13

abbrev pub fuse_open : ℕ
fuse_open = 14

abbrev pub fuse_read : ℕ
fuse_read = 15

abbrev pub fuse_write : ℕ
fuse_write = 16

abbrev pub fuse_statfs : ℕ
fuse_statfs = 17

abbrev pub fuse_release : ℕ
fuse_release = 18

abbrev pub fuse_fsync : ℕ
fuse_fsync = 20

abbrev pub fuse_setxattr : ℕ
fuse_setxattr = 21

abbrev pub fuse_getxattr : ℕ
fuse_getxattr = 22

abbrev pub fuse_listxattr : ℕ
fuse_listxattr = 23

abbrev pub fuse_removexattr : ℕ
fuse_removexattr = 24

abbrev pub fuse_flush : ℕ
fuse_flush = 25

abbrev pub fuse_init : ℕ
fuse_init = 26

abbrev pub fuse_opendir : ℕ
fuse_opendir = 27

abbrev pub fuse_readdir : ℕ
fuse_readdir = 28

abbrev pub fuse_releasedir : ℕ
fuse_releasedir = 29

abbrev pub fuse_fsyncdir : ℕ
fuse_fsyncdir = 30

abbrev pub fuse_access : ℕ
fuse_access = 34

abbrev pub fuse_create : ℕ
fuse_create = 35

abbrev pub fuse_interrupt : ℕ
fuse_interrupt = 36

abbrev pub fuse_destroy : ℕ
fuse_destroy = 38

abbrev pub fuse_notify_reply : ℕ
fuse_notify_reply = 41

abbrev pub fuse_batch_forget : ℕ
fuse_batch_forget = 42

abbrev pub fuse_fallocate : ℕ
fuse_fallocate = 43

abbrev pub fuse_readdirplus : ℕ
fuse_readdirplus = 44

abbrev pub fuse_rename2 : ℕ
fuse_rename2 = 45

abbrev pub fuse_lseek : ℕ
fuse_lseek = 46

abbrev pub fuse_copy_file_range : ℕ
fuse_copy_file_range = 47

abbrev pub silent : ℕ → Bool
silent opcode = opcode == fuse_forget || (opcode == fuse_interrupt || (opcode == fuse_notify_reply || opcode == fuse_batch_forget))
