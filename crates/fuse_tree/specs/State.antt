-- A tree of files, and its invariant (defined by this project). Numbers are given out in rising order, so each
-- list stands in the order of its numbers: a list with rising numbers is a finite map.
use Rattle.std.specs.Prelude.{◌≡◌, ◌≢◌, ◌<◌, ◌≤◌, ◌+◌, ◌*◌, ◌/◌, ◌%◌, ◌^◌, ◌==◌, ◌&&◌, ◌||◌, ℕ, zero, suc, Bool, true, false, not, nat_eq, nat_lt, if◌then◌else◌, List, [], ◌∷◌, length, find, filter, slice_index_or, Option, Some, None, IfSome, is_some, codes}
use Rattle.std.specs.Option.{option_map}
use Rattle.std.specs.List.{AllByRecursion, list_any, sum_by}
use Rattle.std.specs.Cmp.Lexicographic.{pointwise}
use Rattle.fuse_wire.specs.declared.access_mode.AccessMode.{AccessMode}
use Rattle.fuse_wire.specs.declared.access_mode.AccessMode.TheVariants.{ReadOnly, WriteOnly, ReadWrite}
use Rattle.fuse_wire.specs.declared.errno.Errno.{Errno}
use Rattle.fuse_wire.specs.Errnos.{einval, enametoolong}
use Rattle.fuse_wire.specs.declared.moment.Moment.{Moment}
use Rattle.fuse_init.specs.declared.settings.Settings.{Settings}
use Rattle.fuse_init.specs.declared.profile.Profile.{Profile}
use Rattle.fuse_init.specs.declared.profile.Profile.TheVariants.{Plain, Everyday}
use Rattle.fuse_init.specs.Profile.{Terms, terms}
use Rattle.fuse_rows.specs.Bounds.{handle_limit, number_end, capacity_end, name_limit, target_limit, fuse_root_id, block_bytes}
use Rattle.fuse_rows.specs.Blocks.{blocks_for, listed_blocks}
use Rattle.fuse_tree.specs.Modes.{s_ifblk, s_ifchr, s_ifdir, s_ififo, s_iflnk, s_ifreg, s_ifsock, type_unit, type_count}
use Rattle.fuse_rows.specs.declared.rows.EntryRow.{EntryRow}
use Rattle.fuse_rows.specs.declared.rows.HandleRow.{HandleRow}
use Rattle.fuse_rows.specs.declared.origin.Origin.{Origin}
use Rattle.fuse_rows.specs.Rows.{profile_for, is_entry}
use Rattle.fuse_tree.specs.Checks.{error_in}

-- a node: its size, its links, its written blocks and the directory above are counted, and not kept
pub record Node : Type 0 where
  pub number : ℕ
  pub mode : ℕ
  pub uid : ℕ
  pub gid : ℕ
  pub rdev : ℕ
  pub atime : Moment
  pub mtime : Moment
  pub ctime : Moment
  pub content : List ℕ
  -- which blocks of the content were written, in rising order; none of a plain store, which doesn't count them
  pub blocks : Option (List ℕ)

-- all that the requests of a kernel can read or change
pub record State : Type 0 where
  pub nodes : List Node
  pub entries : List EntryRow
  pub handles : List HandleRow
  pub settings : Option Settings
  pub next_node : ℕ
  pub next_fh : ℕ
  pub next_cookie : ℕ
  -- the blocks that an everyday store has room for; none of a plain one
  pub capacity : Option ℕ

abbrev pub profile_of : State → Profile
profile_of s = profile_for s.capacity

abbrev pub terms_of : State → Terms
terms_of s = terms (profile_of s)

-- no written block of a new node, in a store of this capacity
abbrev pub no_blocks : Option ℕ → Option (List ℕ)
no_blocks capacity = option_map (λ _. []) capacity

-- the root of a new store of this capacity: an empty directory of its owner
abbrev pub root_node : Option ℕ → Origin → Node
root_node capacity from = record {
  number = fuse_root_id;
  mode = s_ifdir + 0o755;
  uid = from.owner.uid;
  gid = from.owner.gid;
  rdev = 0;
  atime = from.made;
  mtime = from.made;
  ctime = from.made;
  content = [];
  blocks = no_blocks capacity;
}

abbrev pub capacity_for : Profile → ℕ → Option ℕ
capacity_for Plain capacity = None
capacity_for Everyday capacity = Some capacity

-- a new store of this profile and origin
abbrev pub new_store : Profile → ℕ → Origin → State
new_store p capacity from = record {
  nodes = root_node (capacity_for p capacity) from ∷ [];
  entries = [];
  handles = [];
  settings = None;
  next_node = 2;
  next_fh = 1;
  next_cookie = 3;
  capacity = capacity_for p capacity;
}

-- ---- counts

-- the type of a node, from its mode
abbrev pub type_of : ℕ → ℕ
type_of mode = mode / type_unit % type_count

abbrev pub is_dir : ℕ → Bool
is_dir mode = type_of mode == s_ifdir / type_unit

abbrev pub is_file : ℕ → Bool
is_file mode = type_of mode == s_ifreg / type_unit

-- a symbolic link (symlink(7))
abbrev pub is_link : ℕ → Bool
is_link mode = type_of mode == s_iflnk / type_unit

-- the bits of a mode that are its type
abbrev pub type_bits : ℕ → ℕ
type_bits mode = type_of mode * type_unit

-- these bits are of a type that a node may have under every profile
abbrev pub is_type : ℕ → Bool
is_type bits =
    (bits == s_ifdir) || (bits == s_ifreg) || (bits == s_ifchr) || (bits == s_ifblk) || (bits == s_ififo) || (bits == s_ifsock)

abbrev pub is_device : ℕ → Bool
is_device bits = (bits == s_ifchr) || (bits == s_ifblk)

-- the node of this number
abbrev pub node_at : State → ℕ → Option Node
node_at s number = find (λ n. n.number == number) s.nodes

-- the directory above a node, 0 where no entry leads to it
abbrev pub up_of : List EntryRow → ℕ → ℕ
up_of [] number = 0
up_of (e ∷ entries) number = if e.child == number then e.dir else up_of entries number

-- an entry leads to the node, or it is the root
abbrev pub is_named : State → ℕ → Bool
is_named s number = (number == fuse_root_id) || not (up_of s.entries number == 0)

-- the node is a directory with an entry in this one
abbrev pub is_below : List EntryRow → ℕ → Node → Bool
is_below entries dir n = is_dir n.mode && (up_of entries n.number == dir)

-- the number of directories with an entry in this one
abbrev pub subdirs_of : State → ℕ → ℕ
subdirs_of s dir = length (filter (is_below s.entries dir) s.nodes)

-- the link count of a node
abbrev pub links_of : State → Node → ℕ
links_of s n =
    if not (is_named s n.number) then 0
    else if is_dir n.mode then 2 + subdirs_of s n.number
    else 1

-- the written blocks of a node, where they are counted
abbrev pub block_count_of : Node → ℕ
block_count_of n = length (listed_blocks n.blocks)

-- the blocks in use
abbrev pub used_of : State → ℕ
used_of s = sum_by block_count_of s.nodes

-- ---- names

-- a name that no entry may have, though it isn't too long
abbrev pub is_odd_name : List ℕ → Bool
is_odd_name name = (length name == 0) || pointwise nat_eq name (codes ".") || pointwise nat_eq name (codes "..") || list_any (λ byte. byte == 47) name

-- the errors of a name
abbrev pub name_tests : List ℕ → List (Errno × Bool)
name_tests name = (enametoolong, nat_lt name_limit (length name)) ∷ (einval, is_odd_name name) ∷ []

-- the fault of a name
abbrev pub name_fault : List ℕ → Option Errno
name_fault name = error_in (name_tests name)

-- ---- the invariant

-- the relation holds between each element and each later one
abbrev pub Apart : {A : Type 0} → (A → A → Type 0) → List A → Type 0
Apart R [] = Unit {0}
Apart R (x ∷ xs) = AllByRecursion (R x) xs × Apart R xs

abbrev pub has_number : ℕ → Node → Bool
has_number number n = n.number == number

abbrev pub is_dir_of : ℕ → Node → Bool
is_dir_of number n = (n.number == number) && is_dir n.mode

abbrev pub is_read_only : AccessMode → Bool
is_read_only ReadOnly = true
is_read_only WriteOnly = false
is_read_only ReadWrite = false

-- the node may be open so: a regular file, or a directory for reading
abbrev pub is_open_at : HandleRow → Node → Bool
is_open_at h n = (n.number == h.node) && (is_file n.mode || (is_dir n.mode && is_read_only h.access))

-- where so many steps up from a node lead, 0 where there is no directory above
abbrev pub above : List EntryRow → ℕ → ℕ → ℕ
above entries zero number = number
above entries (suc steps) number = above entries steps (up_of entries number)

-- going up from a node reaches the root
abbrev pub Reaches : List EntryRow → ℕ → Type 0
Reaches entries number = (steps : ℕ) × (above entries steps number ≡ fuse_root_id)

-- a mode is a type and permissions, and nothing more; only devices have the number of one
pub record HasMode (mode rdev : ℕ) : Type 0 where
  pub typed : (is_type (type_bits mode) || is_link mode) ≡ true
  pub no_more : mode < 2 ^ 16
  pub no_device : is_device (type_bits mode) ≡ false → rdev ≡ 0

-- the target of a symbolic link: a path, without its NUL (Linux: PATH_MAX; symlink(2): an empty one is refused)
pub record IsTarget (target : List ℕ) : Type 0 where
  pub some : 1 ≤ length target
  pub short : length target ≤ target_limit
  pub no_nul : AllByRecursion (λ b. b ≢ 0) target

-- only regular files and symbolic links have content, and only some profiles have links
pub record Carries (t : Terms) (mode : ℕ) (content : List ℕ) : Type 0 where
  pub others : (is_file mode || is_link mode) ≡ false → content ≡ []
  pub target : is_link mode ≡ true → IsTarget content
  pub links : is_link mode ≡ true → t.links ≡ true

-- the written blocks of a content rise, each begins before its end, and a byte that lies in none of them is zero
pub record AreWritten (content blocks : List ℕ) : Type 0 where
  pub rise : Apart (λ b later. b < later) blocks
  pub within : AllByRecursion (λ b. b < blocks_for (length content)) blocks
  pub others : (at : ℕ) → list_any (λ b. b == at / block_bytes) blocks ≡ false → slice_index_or content at 0 ≡ 0

-- written blocks are those of the content, and are there where the profile counts them; the target of a link is written, in one block
pub record CountsBlocks (t : Terms) (mode : ℕ) (content : List ℕ) (blocks : Option (List ℕ)) : Type 0 where
  pub counted : is_some blocks ≡ t.counts_written
  pub written : IfSome blocks (AreWritten content)
  pub target : is_link mode ≡ true → blocks ≡ Some (0 ∷ [])

-- a node's number is given out, its mode is one, and it has what such a node may have for content
pub record IsNode (t : Terms) (next_node : ℕ) (n : Node) : Type 0 where
  pub from_one : 1 ≤ n.number
  pub below : n.number < next_node
  pub mode : HasMode n.mode n.rdev
  pub content : Carries t n.mode n.content
  pub size : length n.content ≤ t.file_limit
  pub blocks : CountsBlocks t n.mode n.content n.blocks

-- an entry leads from a directory under the root to a node other than the root
pub record IsEntry (nodes : List Node) (entries : List EntryRow) (next_cookie : ℕ) (e : EntryRow) : Type 0 where
  pub dir : list_any (is_dir_of e.dir) nodes ≡ true
  pub child : list_any (has_number e.child) nodes ≡ true
  pub not_root : e.child ≢ fuse_root_id
  pub name : name_fault e.name ≡ None
  pub reaches : Reaches entries e.dir
  pub from_three : 3 ≤ e.cookie
  pub below : e.cookie < next_cookie

-- an entry and a later one: cookies rise, no node has two entries, and no directory a name twice
pub record AreApart (e later : EntryRow) : Type 0 where
  pub cookie : e.cookie < later.cookie
  pub child : e.child ≢ later.child
  pub place : is_entry later.dir later.name e ≡ false

-- a handle leads to a node that may be open so
pub record IsHandle (nodes : List Node) (next_fh : ℕ) (h : HandleRow) : Type 0 where
  pub node : list_any (is_open_at h) nodes ≡ true
  pub from_one : 1 ≤ h.fh
  pub below : h.fh < next_fh

-- the limits of a store
pub record Limits (s : State) : Type 0 where
  pub nodes : length s.nodes ≤ (terms_of s).node_limit
  pub handles : length s.handles ≤ handle_limit
  pub next_node : s.next_node ≤ number_end
  pub next_fh : s.next_fh ≤ number_end
  pub next_cookie : s.next_cookie ≤ number_end
  pub fh_from_one : 1 ≤ s.next_fh
  pub cookie_from_three : 3 ≤ s.next_cookie

-- what is in use is within the capacity
pub record FitsCapacity (s : State) (capacity : ℕ) : Type 0 where
  pub used : used_of s ≤ capacity
  pub bounded : capacity < capacity_end

-- an fh of this node is open
abbrev pub is_used : List HandleRow → ℕ → Bool
is_used handles number = list_any (λ h. h.node == number) handles

-- the node of this number has a name or an fh
abbrev pub is_kept : State → ℕ → Bool
is_kept s number = is_named s number || is_used s.handles number

-- each node has a name or an fh, where the profile removes those that have neither
abbrev pub NodesAreKept : State → Type 0
NodesAreKept s = (terms_of s).removes ≡ true → AllByRecursion (λ n. is_kept s n.number ≡ true) s.nodes

-- the lists fit together, within the limits
pub record Shape (s : State) : Type 0 where
  pub root : list_any (is_dir_of fuse_root_id) s.nodes ≡ true
  pub nodes : AllByRecursion (IsNode (terms_of s) s.next_node) s.nodes
  pub nodes_rise : Apart (λ n later. n.number < later.number) s.nodes
  pub entries : AllByRecursion (IsEntry s.nodes s.entries s.next_cookie) s.entries
  pub entries_apart : Apart AreApart s.entries
  pub handles : AllByRecursion (IsHandle s.nodes s.next_fh) s.handles
  pub handles_rise : Apart (λ h later. h.fh < later.fh) s.handles
  pub limits : Limits s
  pub space : IfSome s.capacity (FitsCapacity s)

-- the state is a tree of files
pub record Tree (s : State) : Type 0 where
  pub shape : Shape s
  pub kept : NodesAreKept s
