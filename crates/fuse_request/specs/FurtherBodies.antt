-- The bodies of opcodes outside the profile, for file systems that serve them (fuse.h: the struct named at each row).
use Rattle.std.specs.Prelude.{◌≡◌, ◌==◌, ℕ, Bool, if◌then◌else◌, List, [], ◌∷◌, length, drop, Option, Some, None, is_some}
use Rattle.std.specs.Option.{option_map, unwrap_or}
use Rattle.fuse_wire.specs.Bytes.{number_of, after_nul}
use Rattle.fuse_wire.specs.Layout.{Part, number, unused, text, bytes, Lays}
use Rattle.fuse_wire.specs.Opcodes.{fuse_readlink, fuse_symlink, fuse_link, fuse_statfs, fuse_fsync, fuse_setxattr, fuse_getxattr, fuse_listxattr}
use Rattle.fuse_wire.specs.Opcodes.{fuse_removexattr, fuse_flush, fuse_fsyncdir, fuse_access, fuse_create, fuse_fallocate, fuse_readdirplus, fuse_lseek}
use Rattle.fuse_wire.specs.Opcodes.{fuse_copy_file_range}
use Rattle.fuse_request.specs.declared.decoding.Malformed.{Malformed}
use Rattle.fuse_request.specs.declared.decoding.Malformed.TheVariants.{NoNul, CountDiffers}
use Rattle.fuse_request.specs.declared.further.CopyFileRangeIn.{CopyFileRangeIn}
use Rattle.fuse_request.specs.declared.request.ReadIn.{ReadIn}
use Rattle.fuse_request.specs.declared.further.Body.{Body}
use Rattle.fuse_request.specs.declared.further.Body.TheVariants as bodies
use Rattle.fuse_request.specs.Lengths.{link_in_size, fsync_in_size, getxattr_in_size, flush_in_size, access_in_size, create_in_size, fallocate_in_size}
use Rattle.fuse_request.specs.Lengths.{read_in_size, lseek_in_size, copy_file_range_in_size, compat_setxattr_in_size}
use Rattle.fuse_request.specs.Bodies.{fixed, at_least, name_body_fault, names_fault}
use Rattle.fuse_request.specs.Spelling.{read_parts}
use Rattle.fuse_request.specs.Places.{before_nul, second_name, read_at}

-- what a body says, its names and values as lists
pub data FurtherContent : Type 0 where
  Readlink : FurtherContent
  Symlink : List ℕ → List ℕ → FurtherContent
  Link : ℕ → List ℕ → FurtherContent
  Statfs : FurtherContent
  Fsync : ℕ → ℕ → FurtherContent
  Setxattr : ℕ → List ℕ → List ℕ → FurtherContent
  Getxattr : ℕ → List ℕ → FurtherContent
  Listxattr : ℕ → FurtherContent
  Removexattr : List ℕ → FurtherContent
  Flush : ℕ → ℕ → FurtherContent
  FsyncDir : ℕ → ℕ → FurtherContent
  Access : ℕ → FurtherContent
  Create : ℕ → ℕ → ℕ → ℕ → List ℕ → FurtherContent
  Fallocate : ℕ → ℕ → ℕ → ℕ → FurtherContent
  ReadDirPlus : ReadIn → FurtherContent
  Lseek : ℕ → ℕ → ℕ → FurtherContent
  CopyFileRange : CopyFileRangeIn → FurtherContent

-- what a body that was read says
abbrev pub further_content : Body → FurtherContent
further_content bodies.Readlink = Readlink
further_content (bodies.Symlink name target) = Symlink name.now target.now
further_content (bodies.Link oldnodeid name) = Link oldnodeid name.now
further_content bodies.Statfs = Statfs
further_content (bodies.Fsync fh fsync_flags) = Fsync fh fsync_flags
further_content (bodies.Setxattr flags name value) = Setxattr flags name.now value.now
further_content (bodies.Getxattr size name) = Getxattr size name.now
further_content (bodies.Listxattr size) = Listxattr size
further_content (bodies.Removexattr name) = Removexattr name.now
further_content (bodies.Flush fh lock_owner) = Flush fh lock_owner
further_content (bodies.FsyncDir fh fsync_flags) = FsyncDir fh fsync_flags
further_content (bodies.Access mask) = Access mask
further_content (bodies.Create flags mode umask open_flags name) = Create flags mode umask open_flags name.now
further_content (bodies.Fallocate fh offset len mode) = Fallocate fh offset len mode
further_content (bodies.ReadDirPlus x) = ReadDirPlus x
further_content (bodies.Lseek fh offset whence) = Lseek fh offset whence
further_content (bodies.CopyFileRange x) = CopyFileRange x

-- the opcode of each content
abbrev pub further_opcode : FurtherContent → ℕ
further_opcode Readlink = fuse_readlink
further_opcode (Symlink name target) = fuse_symlink
further_opcode (Link oldnodeid name) = fuse_link
further_opcode Statfs = fuse_statfs
further_opcode (Fsync fh fsync_flags) = fuse_fsync
further_opcode (Setxattr flags name value) = fuse_setxattr
further_opcode (Getxattr size name) = fuse_getxattr
further_opcode (Listxattr size) = fuse_listxattr
further_opcode (Removexattr name) = fuse_removexattr
further_opcode (Flush fh lock_owner) = fuse_flush
further_opcode (FsyncDir fh fsync_flags) = fuse_fsyncdir
further_opcode (Access mask) = fuse_access
further_opcode (Create flags mode umask open_flags name) = fuse_create
further_opcode (Fallocate fh offset len mode) = fuse_fallocate
further_opcode (ReadDirPlus x) = fuse_readdirplus
further_opcode (Lseek fh offset whence) = fuse_lseek
further_opcode (CopyFileRange x) = fuse_copy_file_range

-- fuse_copy_file_range_in
abbrev pub copy_file_range_parts : CopyFileRangeIn → List Part
copy_file_range_parts x =
    number 8 x.fh_in ∷ number 8 x.off_in ∷ number 8 x.nodeid_out ∷ number 8 x.fh_out ∷ number 8 x.off_out ∷ number 8 x.len ∷ number 8 x.flags ∷ []

-- the layout of each body; fuse_setxattr_in without the fields of FUSE_SETXATTR_EXT, on which fuse_init never agrees
abbrev pub further_parts : FurtherContent → List Part
further_parts Readlink = []
further_parts (Symlink name target) = text name ∷ text target ∷ []
further_parts (Link oldnodeid name) = number 8 oldnodeid ∷ text name ∷ []
further_parts Statfs = []
further_parts (Fsync fh fsync_flags) = number 8 fh ∷ number 4 fsync_flags ∷ unused 4 ∷ []
further_parts (Setxattr flags name value) = number 4 (length value) ∷ number 4 flags ∷ text name ∷ bytes value ∷ []
further_parts (Getxattr size name) = number 4 size ∷ unused 4 ∷ text name ∷ []
further_parts (Listxattr size) = number 4 size ∷ unused 4 ∷ []
further_parts (Removexattr name) = text name ∷ []
further_parts (Flush fh lock_owner) = number 8 fh ∷ unused 8 ∷ number 8 lock_owner ∷ []
further_parts (FsyncDir fh fsync_flags) = number 8 fh ∷ number 4 fsync_flags ∷ unused 4 ∷ []
further_parts (Access mask) = number 4 mask ∷ unused 4 ∷ []
further_parts (Create flags mode umask open_flags name) = number 4 flags ∷ number 4 mode ∷ number 4 umask ∷ number 4 open_flags ∷ text name ∷ []
further_parts (Fallocate fh offset len mode) = number 8 fh ∷ number 8 offset ∷ number 8 len ∷ number 4 mode ∷ unused 4 ∷ []
further_parts (ReadDirPlus x) = read_parts x
further_parts (Lseek fh offset whence) = number 8 fh ∷ number 8 offset ∷ number 4 whence ∷ unused 4 ∷ []
further_parts (CopyFileRange x) = copy_file_range_parts x

-- a body of this opcode that says this
pub record SpellsBody (opcode : ℕ) (x : FurtherContent) (b : List ℕ) : Type 0 where
  pub opcode_is : further_opcode x ≡ opcode
  pub parted : Lays (further_parts x) b

-- by what follows the NUL of the name of an attribute: a value of this size
abbrev pub value_fault : ℕ → Option (List ℕ) → Option Malformed
value_fault size None = Some NoNul
value_fault size (Some value) = if length value == size then None else Some CountDiffers

-- the fault of fuse_setxattr_in, a name and a value
abbrev pub setxattr_fault : List ℕ → Option Malformed
setxattr_fault b = at_least compat_setxattr_in_size (λ rest. value_fault (number_of 4 b) (after_nul rest)) b

-- an opcode: its number, what is wrong with a body (defined by this project), and what a body says at its places
pub record FurtherOpcode : Type 0 where
  pub opcode : ℕ
  pub fault : List ℕ → Option Malformed
  pub says : List ℕ → FurtherContent

-- a row of the table
abbrev pub further_row : ℕ → (List ℕ → Option Malformed) → (List ℕ → FurtherContent) → FurtherOpcode
further_row opcode fault says = record { opcode = opcode; fault = fault; says = says }

-- what fuse_copy_file_range_in says at its places
abbrev pub copy_file_range_at : List ℕ → CopyFileRangeIn
copy_file_range_at b = record {
  fh_in = number_of 8 b;
  off_in = number_of 8 (drop 8 b);
  nodeid_out = number_of 8 (drop 16 b);
  fh_out = number_of 8 (drop 24 b);
  off_out = number_of 8 (drop 32 b);
  len = number_of 8 (drop 40 b);
  flags = number_of 8 (drop 48 b);
}

-- each opcode outside the profile whose bodies are read
abbrev pub further_opcodes : List FurtherOpcode
further_opcodes =
    further_row fuse_readlink (fixed 0) (λ b. Readlink)
    ∷ further_row fuse_symlink names_fault (λ b. Symlink (before_nul b) (second_name b))
    ∷ further_row fuse_link (at_least link_in_size name_body_fault) (λ b. Link (number_of 8 b) (before_nul (drop 8 b)))
    ∷ further_row fuse_statfs (fixed 0) (λ b. Statfs)
    ∷ further_row fuse_fsync (fixed fsync_in_size) (λ b. Fsync (number_of 8 b) (number_of 4 (drop 8 b)))
    ∷ further_row fuse_setxattr setxattr_fault (λ b. Setxattr (number_of 4 (drop 4 b)) (before_nul (drop 8 b)) (unwrap_or (after_nul (drop 8 b)) []))
    ∷ further_row fuse_getxattr (at_least getxattr_in_size name_body_fault) (λ b. Getxattr (number_of 4 b) (before_nul (drop 8 b)))
    ∷ further_row fuse_listxattr (fixed getxattr_in_size) (λ b. Listxattr (number_of 4 b))
    ∷ further_row fuse_removexattr name_body_fault (λ b. Removexattr (before_nul b))
    ∷ further_row fuse_flush (fixed flush_in_size) (λ b. Flush (number_of 8 b) (number_of 8 (drop 16 b)))
    ∷ further_row fuse_fsyncdir (fixed fsync_in_size) (λ b. FsyncDir (number_of 8 b) (number_of 4 (drop 8 b)))
    ∷ further_row fuse_access (fixed access_in_size) (λ b. Access (number_of 4 b))
    ∷ further_row fuse_create (at_least create_in_size name_body_fault)
    (λ b. Create (number_of 4 b) (number_of 4 (drop 4 b)) (number_of 4 (drop 8 b)) (number_of 4 (drop 12 b)) (before_nul (drop 16 b)))
    ∷ further_row fuse_fallocate (fixed fallocate_in_size) (λ b. Fallocate (number_of 8 b) (number_of 8 (drop 8 b)) (number_of 8 (drop 16 b)) (number_of 4 (drop 24 b)))
    ∷ further_row fuse_readdirplus (fixed read_in_size) (λ b. ReadDirPlus (read_at b))
    ∷ further_row fuse_lseek (fixed lseek_in_size) (λ b. Lseek (number_of 8 b) (number_of 8 (drop 8 b)) (number_of 4 (drop 16 b)))
    ∷ further_row fuse_copy_file_range (fixed copy_file_range_in_size) (λ b. CopyFileRange (copy_file_range_at b))
    ∷ []

-- the row of an opcode
abbrev pub find_further : ℕ → List FurtherOpcode → Option FurtherOpcode
find_further opcode [] = None
find_further opcode (o ∷ os) = if opcode == o.opcode then Some o else find_further opcode os

-- the bodies of this opcode are in the table
abbrev pub is_further : ℕ → Bool
is_further opcode = is_some (find_further opcode further_opcodes)

-- the fault of a body by its row
abbrev pub fault_in : Option FurtherOpcode → List ℕ → Option Malformed
fault_in None b = None
fault_in (Some o) b = o.fault b

-- the first fault of a body, in the order of Malformed
abbrev pub further_fault : ℕ → List ℕ → Option Malformed
further_fault opcode b = fault_in (find_further opcode further_opcodes) b

-- what a body says at the places of its opcode
abbrev pub further_content_at : ℕ → List ℕ → Option FurtherContent
further_content_at opcode b = option_map (λ o. o.says b) (find_further opcode further_opcodes)
