-- Bits with names (fuse.h: FATTR_*, the flags of INIT, FOPEN_KEEP_CACHE, FUSE_UNIQUE_RESEND; Linux: O_ACCMODE and what it masks).
use Rattle.std.specs.Prelude.{ℕ, ◌^◌}
use Rattle.fuse_wire.specs.declared.init_flags.InitFlags.{InitFlags}
use Rattle.fuse_wire.specs.declared.setattr_valid.SetattrValid.{SetattrValid}

-- the number whose bit k alone is set
abbrev pub bit : ℕ → ℕ
bit k = 2 ^ k

-- ---- valid of SETATTR

abbrev pub fattr_mode : SetattrValid
fattr_mode = record { 0 = bit 0 }

abbrev pub fattr_uid : SetattrValid
fattr_uid = record { 0 = bit 1 }

abbrev pub fattr_gid : SetattrValid
fattr_gid = record { 0 = bit 2 }

abbrev pub fattr_size : SetattrValid
fattr_size = record { 0 = bit 3 }

abbrev pub fattr_atime : SetattrValid
fattr_atime = record { 0 = bit 4 }

abbrev pub fattr_mtime : SetattrValid
fattr_mtime = record { 0 = bit 5 }

abbrev pub fattr_fh : SetattrValid
fattr_fh = record { 0 = bit 6 }

abbrev pub fattr_atime_now : SetattrValid
fattr_atime_now = record { 0 = bit 7 }

abbrev pub fattr_mtime_now : SetattrValid
fattr_mtime_now = record { 0 = bit 8 }

abbrev pub fattr_lockowner : SetattrValid
fattr_lockowner = record { 0 = bit 9 }

abbrev pub fattr_ctime : SetattrValid
fattr_ctime = record { 0 = bit 10 }

abbrev pub fattr_kill_suidgid : SetattrValid
fattr_kill_suidgid = record { 0 = bit 11 }

-- ---- flags of INIT; bits 32 to 63 stand in flags2

abbrev pub fuse_async_read : InitFlags
fuse_async_read = record { 0 = bit 0 }

abbrev pub fuse_big_writes : InitFlags
fuse_big_writes = record { 0 = bit 5 }

abbrev pub fuse_do_readdirplus : InitFlags
fuse_do_readdirplus = record { 0 = bit 13 }

abbrev pub fuse_readdirplus_auto : InitFlags
fuse_readdirplus_auto = record { 0 = bit 14 }

abbrev pub fuse_parallel_dirops : InitFlags
fuse_parallel_dirops = record { 0 = bit 18 }

abbrev pub fuse_cache_symlinks : InitFlags
fuse_cache_symlinks = record { 0 = bit 23 }

abbrev pub fuse_init_ext : InitFlags
fuse_init_ext = record { 0 = bit 30 }

abbrev pub fuse_has_resend : InitFlags
fuse_has_resend = record { 0 = bit 39 }

-- ---- flags of OPEN

abbrev pub o_accmode : ℕ
o_accmode = 3

abbrev pub o_rdonly : ℕ
o_rdonly = 0

abbrev pub o_wronly : ℕ
o_wronly = 1

abbrev pub o_rdwr : ℕ
o_rdwr = 2

-- ---- flags that OPEN is answered with

abbrev pub fopen_keep_cache : ℕ
fopen_keep_cache = bit 1

-- ---- unique of a resend

abbrev pub fuse_unique_resend : ℕ
fuse_unique_resend = bit 63
