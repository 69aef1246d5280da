-- Which opcodes a guest may see, so that their requests change nothing (defined by this project: the guest protocol, 'READY').
use Rattle.std.specs.Prelude.{◌==◌, ◌||◌, ◌&&◌, not, ◌%◌, ◌/◌, ◌+◌, ℕ, zero, suc, Bool, if◌then◌else◌, Option, Some, None}
use Rattle.fuse_wire.specs.Opcodes.{fuse_lookup, fuse_getattr, fuse_readlink, fuse_read, fuse_statfs, fuse_fsync, fuse_getxattr, fuse_listxattr}
use Rattle.fuse_wire.specs.Opcodes.{fuse_flush, fuse_readdir, fuse_fsyncdir, fuse_access, fuse_readdirplus, fuse_lseek}

abbrev pub may_be_seen : ℕ → Bool
may_be_seen opcode =
    opcode == fuse_lookup || (opcode == fuse_getattr || (opcode == fuse_readlink || (opcode == fuse_read || (opcode == fuse_statfs
    || (opcode == fuse_fsync || (opcode == fuse_getxattr || (opcode == fuse_listxattr || (opcode == fuse_flush || (opcode == fuse_readdir
    || (opcode == fuse_fsyncdir || (opcode == fuse_access || (opcode == fuse_readdirplus || opcode == fuse_lseek))))))))))))

-- opcode k is in a set whose bit 0 stands for it, and may not be seen
abbrev pub is_unseeable : ℕ → ℕ → Bool
is_unseeable k set = set % 2 == 1 && not (may_be_seen k)

-- of n opcodes from k on, the first one that is in a set whose bit 0 stands for k, and may not be seen
unfoldable pub unseeable_from : ℕ → ℕ → ℕ → Option ℕ
unseeable_from k zero set = None
unseeable_from k (suc n) set = if is_unseeable k set then Some k else unseeable_from (k + 1) n (set / 2)

-- the first opcode of a set, bit n for opcode n, that may not be seen
unfoldable pub unseeable : ℕ → Option ℕ
unseeable set = unseeable_from 0 64 set
