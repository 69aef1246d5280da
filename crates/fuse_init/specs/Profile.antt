-- What a profile of the tree decides (defined by this project; the bits of flags and of open flags are those of fuse.h).
use Rattle.std.specs.Prelude.{◌^◌, ◌==◌, ◌||◌, ℕ, Bool, true, false}
use Rattle.std.specs.Int.RustNames.{bit_or}
use Rattle.fuse_wire.specs.Bits.{fuse_async_read, fuse_big_writes, fuse_do_readdirplus, fuse_readdirplus_auto, fuse_parallel_dirops}
use Rattle.fuse_wire.specs.Bits.{fuse_cache_symlinks, fuse_init_ext, fuse_has_resend, fopen_keep_cache}
use Rattle.fuse_wire.specs.Opcodes.{fuse_readlink, fuse_symlink, fuse_statfs, fuse_fsync, fuse_fsyncdir, fuse_create, fuse_readdirplus}
use Rattle.fuse_wire.specs.Opcodes.{fuse_lookup, fuse_getattr, fuse_read, fuse_readdir}
use Rattle.fuse_request.specs.Opcodes.{OpcodeSet, no_others}
use Rattle.fuse_init.specs.declared.profile.Profile.{Profile}
use Rattle.fuse_init.specs.declared.profile.Profile.TheVariants.{Plain, Everyday}

pub record Terms : Type 0 where
  -- the opcodes that are served beside those of the protocol's profile
  pub further : OpcodeSet
  -- the opcodes whose requests are seen
  pub seen : OpcodeSet
  -- the flags of INIT that are taken where they are offered
  pub wanted : ℕ
  -- the kernel may keep names, and knows which are absent
  pub keeps : Bool
  -- the flags that OPEN and CREATE are answered
  pub open_flags : ℕ
  -- a node without a name and without a handle goes
  pub removes : Bool
  -- there are symbolic links
  pub links : Bool
  -- what is made in a directory with S_ISGID gets its group
  pub inherits : Bool
  -- it is known which blocks of a file were written, and these are counted
  pub counts_written : Bool
  pub node_limit : ℕ
  -- the bytes of a file
  pub file_limit : ℕ

abbrev pub plain : Terms
plain = record {
  further = no_others;
  seen = no_others;
  wanted = bit_or (bit_or (bit_or fuse_async_read.0 fuse_big_writes.0) fuse_init_ext.0) fuse_has_resend.0;
  keeps = false;
  open_flags = 0;
  removes = false;
  links = false;
  inherits = false;
  counts_written = false;
  node_limit = 65536;
  file_limit = 16777216;
}

abbrev pub is_everyday : OpcodeSet
is_everyday opcode =
    opcode == fuse_readlink || (opcode == fuse_symlink || (opcode == fuse_statfs || (opcode == fuse_fsync
    || (opcode == fuse_fsyncdir || (opcode == fuse_create || opcode == fuse_readdirplus)))))

-- requests of these change nothing
abbrev pub only_looks : OpcodeSet
only_looks opcode =
    opcode == fuse_lookup || (opcode == fuse_getattr || (opcode == fuse_readlink || (opcode == fuse_read || (opcode == fuse_statfs
    || (opcode == fuse_fsync || (opcode == fuse_readdir || (opcode == fuse_fsyncdir || opcode == fuse_readdirplus)))))))

-- those of directories
abbrev pub directory_flags : ℕ
directory_flags = bit_or (bit_or fuse_do_readdirplus.0 fuse_readdirplus_auto.0) fuse_parallel_dirops.0

abbrev pub everyday : Terms
everyday = record {
  further = is_everyday;
  seen = only_looks;
  wanted = bit_or (bit_or (bit_or (bit_or (bit_or fuse_async_read.0 fuse_big_writes.0) directory_flags) fuse_cache_symlinks.0) fuse_init_ext.0) fuse_has_resend.0;
  keeps = true;
  open_flags = fopen_keep_cache;
  removes = true;
  links = true;
  inherits = true;
  counts_written = true;
  node_limit = 1048576;
  file_limit = 2 ^ 40;
}

abbrev pub terms : Profile → Terms
terms Plain = plain
terms Everyday = everyday
