-- The content of an answer, whose body is determined by the opcode of the request and, where it asks for bytes, by its field `size`
-- (fuse.h: the struct named at each kind; Linux: fuse_copy_out_args takes a body of that size alone, and none longer than was asked for).
use Rattle.std.specs.Prelude.{◌≡◌, ◌≢◌, ◌<◌, ◌≤◌, ◌^◌, ◌==◌, ◌||◌, ◌⊎◌, ℕ, Bool, if◌then◌else◌, List, [], ◌∷◌, length, drop, Option, Some, None, FitsSigned}
use Rattle.std.specs.Int.{w32}
use Rattle.fuse_wire.specs.Bytes.{number_of}
use Rattle.fuse_wire.specs.Layout.{Part, bytes, Lays}
use Rattle.fuse_wire.specs.Opcodes.{fuse_lookup, fuse_getattr, fuse_setattr, fuse_mknod, fuse_mkdir, fuse_unlink, fuse_rmdir, fuse_rename, fuse_open}
use Rattle.fuse_wire.specs.Opcodes.{fuse_read, fuse_write, fuse_release, fuse_init, fuse_opendir, fuse_readdir, fuse_releasedir, fuse_destroy, fuse_rename2}
use Rattle.fuse_wire.specs.Opcodes.{fuse_readlink, fuse_symlink, fuse_link, fuse_statfs, fuse_fsync, fuse_setxattr, fuse_getxattr, fuse_listxattr}
use Rattle.fuse_wire.specs.Opcodes.{fuse_removexattr, fuse_flush, fuse_fsyncdir, fuse_access, fuse_create, fuse_fallocate, fuse_readdirplus, fuse_lseek}
use Rattle.fuse_wire.specs.Opcodes.{fuse_copy_file_range}
use Rattle.fuse_answer.specs.declared.records.EntryOut.{EntryOut}
use Rattle.fuse_answer.specs.declared.records.AttrOut.{AttrOut}
use Rattle.fuse_answer.specs.declared.records.OpenOut.{OpenOut}
use Rattle.fuse_answer.specs.declared.records.WriteOut.{WriteOut}
use Rattle.fuse_answer.specs.declared.init_out.InitOut.{InitOut}
use Rattle.fuse_answer.specs.declared.further.CreateOut.{CreateOut}
use Rattle.fuse_answer.specs.declared.further.LseekOut.{LseekOut}
use Rattle.fuse_answer.specs.declared.further.StatfsOut.{StatfsOut}
use Rattle.fuse_answer.specs.declared.further.XattrOut.{XattrOut}
use Rattle.fuse_answer.specs.Sizes.{out_header_size, entry_out_size, attr_out_size, open_out_size, write_out_size, init_out_size}
use Rattle.fuse_answer.specs.Sizes.{statfs_out_size, getxattr_out_size, lseek_out_size, max_target_len}
use Rattle.fuse_wire.specs.Bounds.{max_error_number}
use Rattle.fuse_answer.specs.declared.reply.Reply.{Reply}
use Rattle.fuse_answer.specs.declared.reply.ReplyBody.{ReplyBody}
use Rattle.fuse_answer.specs.declared.reply.ReplyBody.TheVariants as bodies
use Rattle.fuse_answer.specs.declared.reply.BadAnswer.{BadAnswer}
use Rattle.fuse_answer.specs.declared.reply.BadAnswer.TheVariants.{Short, LenDiffers, ErrorRange, BodyAfterError, BodyLength, BadDirent}
use Rattle.fuse_answer.specs.Bodies.{entry_parts, attr_out_parts, open_parts, write_parts, init_parts}
use Rattle.fuse_answer.specs.FurtherAnswers.{create_out_size, create_parts, statfs_parts, xattr_parts, lseek_parts}
use Rattle.fuse_answer.specs.Entries.{IsListing}
use Rattle.fuse_answer.specs.PlusEntries.{IsPlusListing}
use Rattle.fuse_answer.specs.Said.{Said}
use Rattle.fuse_answer.specs.Wire.{negated, wire}

-- the kinds of bodies
pub data Kind : Type 0 where
  -- fuse_entry_out
  AnEntry : Kind
  -- fuse_entry_out, and then fuse_open_out
  ACreate : Kind
  -- fuse_attr_out
  Attributes : Kind
  -- fuse_open_out
  AnOpen : Kind
  -- fuse_write_out
  AWrite : Kind
  -- fuse_statfs_out
  AStatfs : Kind
  -- fuse_getxattr_out
  AnXattr : Kind
  -- fuse_lseek_out
  AnLseek : Kind
  -- fuse_init_out
  AnInit : Kind
  -- any bytes
  Data : Kind
  -- fuse_dirent, any number
  Directory : Kind
  -- fuse_direntplus, any number
  DirectoryPlus : Kind
  -- the header alone
  Nothing : Kind
  -- of an opcode that isn't named here
  Unknown : Kind

abbrev pub gives_entry : ℕ → Bool
gives_entry opcode =
    opcode == fuse_lookup || (opcode == fuse_symlink || (opcode == fuse_mknod || (opcode == fuse_mkdir || opcode == fuse_link)))

abbrev pub gives_nothing : ℕ → Bool
gives_nothing opcode =
    opcode == fuse_unlink || (opcode == fuse_rmdir || (opcode == fuse_rename || (opcode == fuse_rename2
    || (opcode == fuse_release || (opcode == fuse_releasedir || (opcode == fuse_destroy || (opcode == fuse_fsync
    || (opcode == fuse_fsyncdir || (opcode == fuse_flush || (opcode == fuse_setxattr || (opcode == fuse_removexattr
    || (opcode == fuse_access || opcode == fuse_fallocate))))))))))))

-- an attribute's value, or a list of their names
abbrev pub gives_xattr : ℕ → Bool
gives_xattr opcode = opcode == fuse_getxattr || opcode == fuse_listxattr

-- which kind the answer to an opcode has that asks for `size` bytes, where it is no error
abbrev pub kind_of : ℕ → ℕ → Kind
kind_of opcode size =
    if gives_entry opcode then AnEntry
    else if opcode == fuse_getattr || opcode == fuse_setattr then Attributes
    else if opcode == fuse_open || opcode == fuse_opendir then AnOpen
    else if opcode == fuse_create then ACreate
    else if opcode == fuse_write || opcode == fuse_copy_file_range then AWrite
    else if opcode == fuse_statfs then AStatfs
    else if opcode == fuse_lseek then AnLseek
    else if opcode == fuse_init then AnInit
    else if opcode == fuse_read || opcode == fuse_readlink then Data
    else if gives_xattr opcode then (if size == 0 then AnXattr else Data)
    else if opcode == fuse_readdir then Directory
    else if opcode == fuse_readdirplus then DirectoryPlus
    else if gives_nothing opcode then Nothing
    else Unknown

-- how many bytes a body of a kind has, where that is fixed
abbrev pub size_of : Kind → Option ℕ
size_of AnEntry = Some entry_out_size
size_of ACreate = Some create_out_size
size_of Attributes = Some attr_out_size
size_of AnOpen = Some open_out_size
size_of AWrite = Some write_out_size
size_of AStatfs = Some statfs_out_size
size_of AnXattr = Some getxattr_out_size
size_of AnLseek = Some lseek_out_size
size_of AnInit = Some init_out_size
size_of Nothing = Some 0
size_of _ = None

-- how many bytes a body has at most, where it is no record: as many as are asked for, and the target of a symbolic link
abbrev pub most_of : ℕ → ℕ → Option ℕ
most_of opcode size =
    if opcode == fuse_readlink then Some max_target_len
    else if opcode == fuse_read || (opcode == fuse_readdir || opcode == fuse_readdirplus) then Some size
    else if gives_xattr opcode then (if size == 0 then None else Some size)
    else None

-- a body without where its bytes lie in memory
pub data ReplyContent : Type 0 where
  of_entry : EntryOut → ReplyContent
  of_create : CreateOut → ReplyContent
  of_attributes : AttrOut → ReplyContent
  of_open : OpenOut → ReplyContent
  of_write : WriteOut → ReplyContent
  of_statfs : StatfsOut → ReplyContent
  of_xattr : XattrOut → ReplyContent
  of_lseek : LseekOut → ReplyContent
  of_init : InitOut → ReplyContent
  of_data : List ℕ → ReplyContent
  of_directory : List ℕ → ReplyContent
  of_directory_plus : List ℕ → ReplyContent
  of_nothing : ReplyContent
  of_unknown : List ℕ → ReplyContent

abbrev pub reply_content : ReplyBody → ReplyContent
reply_content (bodies.Entry e) = of_entry e
reply_content (bodies.Create c) = of_create c
reply_content (bodies.Attributes a) = of_attributes a
reply_content (bodies.Open o) = of_open o
reply_content (bodies.Write w) = of_write w
reply_content (bodies.Statfs s) = of_statfs s
reply_content (bodies.Xattr x) = of_xattr x
reply_content (bodies.Lseek l) = of_lseek l
reply_content (bodies.Init i) = of_init i
reply_content (bodies.Data b) = of_data b.now
reply_content (bodies.Directory b) = of_directory b.now
reply_content (bodies.DirectoryPlus b) = of_directory_plus b.now
reply_content bodies.Nothing = of_nothing
reply_content (bodies.Unknown b) = of_unknown b.now

abbrev pub kind_is : ReplyContent → Kind
kind_is (of_entry e) = AnEntry
kind_is (of_create c) = ACreate
kind_is (of_attributes a) = Attributes
kind_is (of_open o) = AnOpen
kind_is (of_write w) = AWrite
kind_is (of_statfs s) = AStatfs
kind_is (of_xattr x) = AnXattr
kind_is (of_lseek l) = AnLseek
kind_is (of_init i) = AnInit
kind_is (of_data b) = Data
kind_is (of_directory b) = Directory
kind_is (of_directory_plus b) = DirectoryPlus
kind_is of_nothing = Nothing
kind_is (of_unknown b) = Unknown

-- the layout of each body
abbrev pub reply_parts : ReplyContent → List Part
reply_parts (of_entry e) = entry_parts e
reply_parts (of_create c) = create_parts c
reply_parts (of_attributes a) = attr_out_parts a
reply_parts (of_open o) = open_parts o
reply_parts (of_write w) = write_parts w
reply_parts (of_statfs s) = statfs_parts s
reply_parts (of_xattr x) = xattr_parts x
reply_parts (of_lseek l) = lseek_parts l
reply_parts (of_init i) = init_parts i
reply_parts (of_data b) = bytes b ∷ []
reply_parts (of_directory b) = bytes b ∷ []
reply_parts (of_directory_plus b) = bytes b ∷ []
reply_parts of_nothing = []
reply_parts (of_unknown b) = bytes b ∷ []

-- a signed number fits its field, and the bytes of a directory are entries
abbrev pub IsProper : ReplyContent → Type 0
IsProper (of_create c) = FitsSigned w32 c.open.backing_id
IsProper (of_open o) = FitsSigned w32 o.backing_id
IsProper (of_directory b) = IsListing b
IsProper (of_directory_plus b) = IsPlusListing b
IsProper _ = Unit {0}

-- the bytes b are the body c, with any padding, of a kind
pub record HoldsBody (kind : Kind) (c : ReplyContent) (b : List ℕ) : Type 0 where
  pub of_kind : kind_is c ≡ kind
  pub laid : Lays (reply_parts c) b
  pub proper : IsProper c

-- the bytes are a body of a kind
abbrev pub IsBody : Kind → List ℕ → Type 0
IsBody kind b = (c : ReplyContent) × HoldsBody kind c b

pub record Told : Type 0 where
  pub unique : ℕ
  pub errno : ℕ
  pub content : ReplyContent

abbrev pub told_reply : Reply → Told
told_reply r = record { unique = r.unique; errno = r.errno.0; content = reply_content r.body }

-- a body of so many bytes is not too long
abbrev pub IsAtMost : Option ℕ → ℕ → Type 0
IsAtMost None len = Unit {0}
IsAtMost (Some most) len = len ≤ most

-- an error and no body, or no error and a body of what is asked
abbrev pub IsOfOpcode : ℕ → ℕ → Told → List ℕ → Type 0
IsOfOpcode opcode size t body =
    ((t.errno ≡ 0) × HoldsBody (kind_of opcode size) t.content body × IsAtMost (most_of opcode size) (length body))
    ⊎ ((t.errno ≢ 0) × (t.errno ≤ max_error_number) × (t.content ≡ of_nothing) × (body ≡ []))

-- the message answers a request of this opcode that asks for `size` bytes, and says t
pub record Answers (opcode size : ℕ) (t : Told) (message : List ℕ) : Type 0 where
  pub body : List ℕ
  pub whole : message ≡ wire t.errno body t.unique
  pub len : length message < 2 ^ 32
  pub unique : t.unique < 2 ^ 64
  pub said : IsOfOpcode opcode size t body

-- it is read as the answer to such a request, whichever its unique is
abbrev pub IsRead : ℕ → ℕ → Said → Type 0
IsRead opcode size a =
    (unique : ℕ) → unique < 2 ^ 64 → (c : ReplyContent) × Answers opcode size (record { unique = unique; errno = a.errno; content = c }) (wire a.errno a.body unique)

-- an error and no body, or no error and a body of the kind
abbrev pub IsOfKind : Kind → Said → Type 0
IsOfKind kind a = ((a.errno ≡ 0) × IsBody kind a.body) ⊎ ((a.errno ≢ 0) × (a.errno ≤ max_error_number) × (a.body ≡ []))

-- there is a size, and the length is another
abbrev pub IsOtherThan : Option ℕ → ℕ → Type 0
IsOtherThan None len = ⊥
IsOtherThan (Some size) len = len ≢ size

-- there is a bound, and the length is more
abbrev pub IsOver : Option ℕ → ℕ → Type 0
IsOver None len = ⊥
IsOver (Some most) len = most < len

-- a body of entries isn't whole entries
abbrev pub IsNoListing : Kind → List ℕ → Type 0
IsNoListing Directory b = IsListing b → ⊥
IsNoListing DirectoryPlus b = IsPlusListing b → ⊥
IsNoListing _ b = ⊥

-- the fault of a body
abbrev pub BodyFault : ℕ → ℕ → List ℕ → BadAnswer → Type 0
BodyFault opcode size b BodyLength = IsOtherThan (size_of (kind_of opcode size)) (length b) ⊎ IsOver (most_of opcode size) (length b)
BodyFault opcode size b BadDirent = IsAtMost (most_of opcode size) (length b) × IsNoListing (kind_of opcode size) b
BodyFault opcode size b _ = ⊥

-- the error number of a message, whose header has its negation
abbrev pub errno_in : List ℕ → ℕ
errno_in b = negated (number_of 4 (drop 4 b))

-- there is a header, and its length is the number of bytes
abbrev pub IsMeasured : List ℕ → Type 0
IsMeasured b = (out_header_size ≤ length b) × (number_of 4 b ≡ length b)

-- the fault of bytes that are no answer to such a request: the first one in the order of BadAnswer (own)
abbrev pub FirstFault : ℕ → ℕ → List ℕ → BadAnswer → Type 0
FirstFault opcode size b Short = length b < out_header_size
FirstFault opcode size b LenDiffers = (out_header_size ≤ length b) × (number_of 4 b ≢ length b)
FirstFault opcode size b ErrorRange = IsMeasured b × (max_error_number < errno_in b)
FirstFault opcode size b BodyAfterError = IsMeasured b × (errno_in b ≢ 0) × (errno_in b ≤ max_error_number) × (drop out_header_size b ≢ [])
FirstFault opcode size b m = IsMeasured b × (errno_in b ≡ 0) × BodyFault opcode size (drop out_header_size b) m
