-- Requests without where they lie in memory (fuse.h: fuse_opcode and the request bodies).
use Rattle.std.specs.Prelude.{◌≡◌, ℕ, true, List}
use Rattle.fuse_wire.specs.Opcodes.{fuse_lookup, fuse_forget, fuse_getattr, fuse_setattr, fuse_mknod, fuse_mkdir, fuse_unlink, fuse_rmdir, fuse_rename}
use Rattle.fuse_wire.specs.Opcodes.{fuse_open, fuse_read, fuse_write, fuse_release, fuse_init, fuse_opendir, fuse_readdir, fuse_releasedir, fuse_interrupt}
use Rattle.fuse_wire.specs.Opcodes.{fuse_destroy, fuse_batch_forget, fuse_rename2}
use Rattle.fuse_request.specs.declared.request.InHeader.{InHeader}
use Rattle.fuse_request.specs.declared.request.InitIn.{InitIn}
use Rattle.fuse_request.specs.declared.request.Op.{Op}
use Rattle.fuse_request.specs.declared.request.Op.TheVariants as ops
use Rattle.fuse_request.specs.declared.request.ReadIn.{ReadIn}
use Rattle.fuse_request.specs.declared.request.ReleaseIn.{ReleaseIn}
use Rattle.fuse_request.specs.declared.request.Request.{Request}
use Rattle.fuse_request.specs.declared.request.SetattrIn.{SetattrIn}
use Rattle.fuse_request.specs.Opcodes.{Service, is_served, is_performed_for, is_seen_for, is_kept_for}

-- what a request asks for, its names and bodies as lists
pub data Act : Type 0 where
  Lookup : List ℕ → Act
  Forget : ℕ → Act
  Getattr : ℕ → ℕ → Act
  Setattr : SetattrIn → Act
  Mknod : ℕ → ℕ → ℕ → List ℕ → Act
  Mkdir : ℕ → ℕ → List ℕ → Act
  Unlink : List ℕ → Act
  Rmdir : List ℕ → Act
  Rename : ℕ → List ℕ → List ℕ → Act
  OpenFile : ℕ → ℕ → Act
  Read : ReadIn → Act
  Write : ℕ → ℕ → ℕ → ℕ → ℕ → List ℕ → Act
  Release : ReleaseIn → Act
  Init : InitIn → Act
  OpenDir : ℕ → ℕ → Act
  ReadDir : ReadIn → Act
  ReleaseDir : ReleaseIn → Act
  Interrupt : ℕ → Act
  Destroy : Act
  BatchForget : List ℕ → Act
  Rename2 : ℕ → ℕ → List ℕ → List ℕ → Act
  Further : ℕ → List ℕ → Act

abbrev pub act : Op → Act
act (ops.Lookup name) = Lookup name.now
act (ops.Forget nlookup) = Forget nlookup
act (ops.Getattr flags fh) = Getattr flags fh
act (ops.Setattr x) = Setattr x
act (ops.Mknod mode rdev umask name) = Mknod mode rdev umask name.now
act (ops.Mkdir mode umask name) = Mkdir mode umask name.now
act (ops.Unlink name) = Unlink name.now
act (ops.Rmdir name) = Rmdir name.now
act (ops.Rename new_dir old_name new_name) = Rename new_dir old_name.now new_name.now
act (ops.OpenFile flags open_flags) = OpenFile flags open_flags
act (ops.Read x) = Read x
act (ops.Write fh offset write_flags lock_owner flags payload) = Write fh offset write_flags lock_owner flags payload.now
act (ops.Release x) = Release x
act (ops.Init x) = Init x
act (ops.OpenDir flags open_flags) = OpenDir flags open_flags
act (ops.ReadDir x) = ReadDir x
act (ops.ReleaseDir x) = ReleaseDir x
act (ops.Interrupt unique) = Interrupt unique
act ops.Destroy = Destroy
act (ops.BatchForget items) = BatchForget items.now
act (ops.Rename2 new_dir flags old_name new_name) = Rename2 new_dir flags old_name.now new_name.now
act (ops.Further opcode body) = Further opcode body.now

abbrev pub opcode_of : Act → ℕ
opcode_of (Lookup name) = fuse_lookup
opcode_of (Forget nlookup) = fuse_forget
opcode_of (Getattr flags fh) = fuse_getattr
opcode_of (Setattr x) = fuse_setattr
opcode_of (Mknod mode rdev umask name) = fuse_mknod
opcode_of (Mkdir mode umask name) = fuse_mkdir
opcode_of (Unlink name) = fuse_unlink
opcode_of (Rmdir name) = fuse_rmdir
opcode_of (Rename new_dir old_name new_name) = fuse_rename
opcode_of (OpenFile flags open_flags) = fuse_open
opcode_of (Read x) = fuse_read
opcode_of (Write fh offset write_flags lock_owner flags payload) = fuse_write
opcode_of (Release x) = fuse_release
opcode_of (Init x) = fuse_init
opcode_of (OpenDir flags open_flags) = fuse_opendir
opcode_of (ReadDir x) = fuse_readdir
opcode_of (ReleaseDir x) = fuse_releasedir
opcode_of (Interrupt unique) = fuse_interrupt
opcode_of Destroy = fuse_destroy
opcode_of (BatchForget items) = fuse_batch_forget
opcode_of (Rename2 new_dir flags old_name new_name) = fuse_rename2
opcode_of (Further opcode body) = opcode

pub record Asked : Type 0 where
  pub header : InHeader
  pub act : Act
  pub ext : List ℕ

abbrev pub asked : Request → Asked
asked r = record { header = r.header; act = act r.op; ext = r.ext.now }

-- its opcode is of the profile or served beside it
abbrev pub IsServedFor : Service → Act → Type 0
IsServedFor V a = is_served V (opcode_of a) ≡ true

-- its message is kept or seen
abbrev pub IsPerformedFor : Service → Act → Type 0
IsPerformedFor V a = is_performed_for V (opcode_of a) ≡ true

-- its message is seen
abbrev pub IsSeenFor : Service → Act → Type 0
IsSeenFor V a = is_seen_for V (opcode_of a) ≡ true

-- its message is kept
abbrev pub IsKeptFor : Service → Act → Type 0
IsKeptFor V a = is_kept_for V (opcode_of a) ≡ true
