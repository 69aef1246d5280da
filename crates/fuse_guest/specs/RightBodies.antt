-- Which bodies of an ANSWER are taken (defined by this project: the guest protocol, 'A wrong answer'; Linux ends a request by EIO where it
-- gets one of the others, and the changes would be kept).
use Rattle.std.specs.Prelude.{◌/◌, ◌%◌, ◌^◌, ◌+◌, ◌==◌, ◌&&◌, ◌||◌, ℕ, zero, suc, Bool, true, false, not, nat_le, nat_lt, if◌then◌else◌}
use Rattle.std.specs.Prelude.{List, [], ◌∷◌, length, drop, Option, Some, None, is_some}
use Rattle.std.specs.List.{list_any}
use Rattle.std.specs.Option.{option_map_or}
use Rattle.fuse_wire.specs.Bytes.{number_of}
use Rattle.fuse_wire.specs.Opcodes.{fuse_lookup, fuse_readlink, fuse_symlink, fuse_create, fuse_listxattr}
use Rattle.fuse_request.specs.Act.{Act, opcode_of}
use Rattle.fuse_request.specs.Act as acts
use Rattle.fuse_request.specs.FurtherBodies.{FurtherContent, CopyFileRange, further_fault, further_content_at}
use Rattle.fuse_answer.specs.Entries.{DirectoryEntry}
use Rattle.fuse_answer.specs.FirstEntry.{leading_entry}
use Rattle.fuse_answer.specs.Replies.{Kind, AnEntry, ACreate, Attributes, AWrite, AnInit, Directory, DirectoryPlus, Nothing, Unknown, kind_of, size_of, most_of}
use Rattle.fuse_answer.specs.Sizes.{entry_out_size}

-- ---- its size

-- the engine fills in the body of INIT, and an opcode without a kind has none
abbrev pub guest_kind : Kind → Kind
guest_kind AnInit = Nothing
guest_kind Unknown = Nothing
guest_kind kind = kind

-- of a request of this opcode that asks for so many bytes
abbrev pub body_kind : ℕ → ℕ → Kind
body_kind opcode size = guest_kind (kind_of opcode size)

abbrev pub is_len_of : Option ℕ → Option ℕ → ℕ → Bool
is_len_of (Some fixed) most len = len == fixed
is_len_of None (Some most) len = nat_le len most
is_len_of None None len = true

-- that of its kind, or at most what was asked for; the target of a symbolic link isn't empty
abbrev pub has_right_size : ℕ → ℕ → ℕ → Bool
has_right_size opcode size len =
    if opcode == fuse_readlink && len == 0 then false
    else is_len_of (size_of (body_kind opcode size)) (most_of opcode size) len

-- ---- attributes, from offset k on

-- where fuse_attr stands in fuse_attr_out and in fuse_entry_out
abbrev pub attr_in_attr_out : ℕ
attr_in_attr_out = 16

abbrev pub attr_in_entry_out : ℕ
attr_in_entry_out = 40

-- the four bits of S_IFMT (Linux: sys/stat.h)
abbrev pub type_in : ℕ → ℕ
type_in mode = mode / 0o10000 % 16

abbrev pub dir_type : ℕ
dir_type = 4

abbrev pub regular_type : ℕ
regular_type = 8

abbrev pub link_type : ℕ
link_type = 10

-- those of S_IFIFO, S_IFCHR, S_IFDIR, S_IFBLK, S_IFREG, S_IFLNK and S_IFSOCK
abbrev pub is_file_type : ℕ → Bool
is_file_type t = list_any (λ x. x == t) (1 ∷ 2 ∷ dir_type ∷ 6 ∷ regular_type ∷ link_type ∷ 12 ∷ [])

abbrev pub size_at : ℕ → List ℕ → ℕ
size_at k b = number_of 8 (drop (k + 8) b)

abbrev pub type_at : ℕ → List ℕ → ℕ
type_at k b = type_in (number_of 4 (drop (k + 60) b))

abbrev pub are_attributes_at : ℕ → List ℕ → Bool
are_attributes_at k b = is_file_type (type_at k b) && nat_lt (size_at k b) (2 ^ 63)

-- ---- entries

-- 0 is a regular file (mknod(2))
abbrev pub type_of_mknod : ℕ → ℕ
type_of_mknod mode = if type_in mode == 0 then regular_type else type_in mode

abbrev pub further_type : ℕ → Option ℕ
further_type opcode =
    if opcode == fuse_symlink then Some link_type
    else if opcode == fuse_create then Some regular_type
    else None

-- the type of what is made
abbrev pub type_asked : Act → Option ℕ
type_asked (acts.Mkdir mode umask name) = Some dir_type
type_asked (acts.Mknod mode rdev umask name) = Some (type_of_mknod mode)
type_asked (acts.Further opcode body) = further_type opcode
type_asked _ = None

abbrev pub is_of_type : Option ℕ → ℕ → Bool
is_of_type None t = true
is_of_type (Some wanted) t = t == wanted

-- the node is neither none nor the root
abbrev pub is_node_entry : Act → List ℕ → Bool
is_node_entry act b =
    nat_lt 1 (number_of 8 b) && are_attributes_at attr_in_entry_out b && is_of_type (type_asked act) (type_at attr_in_entry_out b)

-- node 0 in LOOKUP is a name that isn't there, and nothing else of it counts
abbrev pub is_absence : Act → List ℕ → Bool
is_absence act b = opcode_of act == fuse_lookup && number_of 8 b == 0

abbrev pub is_right_entry : Act → List ℕ → Bool
is_right_entry act b = is_absence act b || is_node_entry act b

-- ---- entries of directories

-- neither a slash nor a NUL is in the name
abbrev pub is_clean_name : List ℕ → Bool
is_clean_name name = not (list_any (λ byte. byte == 47) name || list_any (λ byte. byte == 0) name)

-- what follows an entry with a clean name
abbrev pub clean_rest : Option (DirectoryEntry × List ℕ) → Option (List ℕ)
clean_rest None = None
clean_rest (Some e) = if is_clean_name e.0.name then Some e.1 else None

abbrev pub rest_passes : (List ℕ → Bool) → Option (List ℕ) → Bool
rest_passes passes None = false
rest_passes passes (Some rest) = passes rest

-- at most n whole entries with clean names, each after so many bytes, and nothing else
unfoldable pub lists_entries : ℕ → ℕ → List ℕ → Bool
lists_entries zero before [] = true
lists_entries zero before (x ∷ b) = false
lists_entries (suc n) before [] = true
lists_entries (suc n) before (x ∷ b) = rest_passes (lists_entries n before) (clean_rest (leading_entry (drop before (x ∷ b))))

-- ---- names of extended attributes

-- each has a byte at least, and a NUL after it; of the first one some bytes may have come before (Linux: fuse_verify_xattr_list)
abbrev pub are_names_after : Bool → List ℕ → Bool
are_names_after begun [] = not begun
are_names_after begun (x ∷ b) = if x == 0 then begun && are_names_after false b else are_names_after true b

-- of LISTXATTR, where it doesn't ask for their size
abbrev pub has_right_names : ℕ → ℕ → List ℕ → Bool
has_right_names opcode size b = not (opcode == fuse_listxattr) || (size == 0 || are_names_after false b)

-- ---- all

-- how many bytes a COPY_FILE_RANGE is to copy
abbrev pub len_said : FurtherContent → ℕ
len_said (CopyFileRange x) = x.len
len_said _ = 0

-- none where the body isn't spelled
abbrev pub further_len : ℕ → List ℕ → ℕ
further_len opcode b = if is_some (further_fault opcode b) then 0 else option_map_or len_said (further_content_at opcode b) 0

-- how many bytes a request is to write
abbrev pub most_written : Act → ℕ
most_written (acts.Write fh offset write_flags lock_owner flags payload) = length payload
most_written (acts.Further opcode body) = further_len opcode body
most_written _ = 0

abbrev pub is_right_content : Kind → Act → List ℕ → Bool
is_right_content AnEntry act b = is_right_entry act b
is_right_content ACreate act b = is_node_entry act b
is_right_content Attributes act b = are_attributes_at attr_in_attr_out b
is_right_content AWrite act b = nat_le (number_of 4 b) (most_written act)
is_right_content Directory act b = lists_entries (length b) 0 b
is_right_content DirectoryPlus act b = lists_entries (length b) entry_out_size b
is_right_content _ act b = true
