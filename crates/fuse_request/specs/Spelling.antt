-- The grammar of requests (fuse.h: fuse_in_header and the request bodies).
use Rattle.std.specs.Prelude.{◌≡◌, ◌*◌, ◌/◌, ℕ, false, List, [], ◌∷◌, ◌++◌, length, Option, Some, None}
use Rattle.fuse_wire.specs.Layout.{Part, number, unused, text, bytes, Lays}
use Rattle.fuse_request.specs.Lengths.{forget_one_size}
use Rattle.fuse_request.specs.Header.{head_parts}
use Rattle.fuse_request.specs.declared.request.ReadIn.{ReadIn}
use Rattle.fuse_request.specs.declared.request.ReleaseIn.{ReleaseIn}
use Rattle.fuse_request.specs.declared.request.SetattrIn.{SetattrIn}
use Rattle.fuse_request.specs.Opcodes.{in_profile}
use Rattle.fuse_request.specs.Act.{Act, Lookup, Forget, Getattr, Setattr, Mknod, Mkdir, Unlink, Rmdir, Rename, OpenFile, Read, Write, Release, Init, OpenDir}
use Rattle.fuse_request.specs.Act.{ReadDir, ReleaseDir, Interrupt, Destroy, BatchForget, Rename2, Further, Asked, opcode_of}

-- fuse_setattr_in
abbrev pub setattr_parts : SetattrIn → List Part
setattr_parts x =
    number 4 x.valid ∷ unused 4 ∷ number 8 x.fh ∷ number 8 x.size ∷ number 8 x.lock_owner
    ∷ number 8 x.atime ∷ number 8 x.mtime ∷ number 8 x.ctime ∷ number 4 x.atimensec ∷ number 4 x.mtimensec ∷ number 4 x.ctimensec
    ∷ number 4 x.mode ∷ unused 4 ∷ number 4 x.uid ∷ number 4 x.gid ∷ unused 4 ∷ []

-- fuse_open_in
abbrev pub open_in_parts : ℕ → ℕ → List Part
open_in_parts flags open_flags = number 4 flags ∷ number 4 open_flags ∷ []

-- fuse_read_in
abbrev pub read_parts : ReadIn → List Part
read_parts x =
    number 8 x.fh ∷ number 8 x.offset ∷ number 4 x.size ∷ number 4 x.read_flags ∷ number 8 x.lock_owner ∷ number 4 x.flags ∷ unused 4 ∷ []

-- fuse_release_in
abbrev pub release_parts : ReleaseIn → List Part
release_parts x = number 8 x.fh ∷ number 4 x.flags ∷ number 4 x.release_flags ∷ number 8 x.lock_owner ∷ []

-- the end of fuse_init_in from version 7.36 on: flags2, and eleven unused fields
abbrev pub flags2_parts : Option ℕ → List Part
flags2_parts None = []
flags2_parts (Some flags2) = number 4 flags2 ∷ unused 44 ∷ []

-- the layout of each body
abbrev pub parts : Act → List Part
parts (Lookup name) = text name ∷ []
parts (Forget nlookup) = number 8 nlookup ∷ []
parts (Getattr flags fh) = number 4 flags ∷ unused 4 ∷ number 8 fh ∷ []
parts (Setattr x) = setattr_parts x
parts (Mknod mode rdev umask name) = number 4 mode ∷ number 4 rdev ∷ number 4 umask ∷ unused 4 ∷ text name ∷ []
parts (Mkdir mode umask name) = number 4 mode ∷ number 4 umask ∷ text name ∷ []
parts (Unlink name) = text name ∷ []
parts (Rmdir name) = text name ∷ []
parts (Rename new_dir old_name new_name) = number 8 new_dir ∷ text old_name ∷ text new_name ∷ []
parts (OpenFile flags open_flags) = open_in_parts flags open_flags
parts (Read x) = read_parts x
parts (Write fh offset write_flags lock_owner flags payload) =
    number 8 fh ∷ number 8 offset ∷ number 4 (length payload) ∷ number 4 write_flags ∷ number 8 lock_owner ∷ number 4 flags ∷ unused 4
    ∷ bytes payload ∷ []
parts (Release x) = release_parts x
parts (Init x) = number 4 x.major ∷ number 4 x.minor ∷ number 4 x.max_readahead ∷ number 4 x.flags ∷ flags2_parts x.flags2
parts (OpenDir flags open_flags) = open_in_parts flags open_flags
parts (ReadDir x) = read_parts x
parts (ReleaseDir x) = release_parts x
parts (Interrupt unique) = number 8 unique ∷ []
parts Destroy = []
parts (BatchForget items) = number 4 (length items / forget_one_size) ∷ unused 4 ∷ bytes items ∷ []
parts (Rename2 new_dir flags old_name new_name) = number 8 new_dir ∷ number 4 flags ∷ unused 4 ∷ text old_name ∷ text new_name ∷ []
parts (Further opcode body) = bytes body ∷ []

-- only opcodes outside the profile are unsupported, and the items of BATCH_FORGET are whole
abbrev pub IsSpellable : Act → Type 0
IsSpellable (Further opcode body) = in_profile opcode ≡ false
IsSpellable (BatchForget items) = length items ≡ forget_one_size * (length items / forget_one_size)
IsSpellable _ = Unit {0}

-- the header of a message of len bytes, with units of 8 bytes of extensions; its padding may be anything
abbrev pub header_parts : ℕ → ℕ → Asked → List Part
header_parts len units r =
    head_parts
    (record {
      len = len;
      opcode = opcode_of r.act;
      unique = r.header.unique;
      nodeid = r.header.nodeid;
      uid = r.header.uid;
      gid = r.header.gid;
      pid = r.header.pid;
      total_extlen = units;
      padding = 0;
    })
    (unused 2)

-- the message is the header, the body and the extensions, one after the other
pub record Spells (r : Asked) (message : List ℕ) : Type 0 where
  pub head : List ℕ
  pub body : List ℕ
  pub units : ℕ
  pub whole : message ≡ head ++ (body ++ r.ext)
  pub ext : length r.ext ≡ 8 * units
  pub header : Lays (header_parts (length message) units r) head
  pub parted : Lays (parts r.act) body
  pub named : IsSpellable r.act
