-- The bounds and sizes of trees (defined by this project; fuse.h where it is said).
use Rattle.std.specs.Prelude.{ℕ, ◌^◌}

-- how many nodes there are at most under any profile, and how many open handles
abbrev pub node_limit : ℕ
node_limit = 1048576

abbrev pub handle_limit : ℕ
handle_limit = 65536

-- the numbers of nodes, handles and cookies are below this
abbrev pub number_end : ℕ
number_end = 2 ^ 62

-- the most bytes of a file under any profile
abbrev pub file_limit : ℕ
file_limit = 2 ^ 40

-- and the most blocks of it
abbrev pub block_limit : ℕ
block_limit = 2 ^ 28

-- a capacity, in blocks, is below this; and that of a store for which none is asked
abbrev pub capacity_end : ℕ
capacity_end = 2 ^ 51

abbrev pub default_capacity : ℕ
default_capacity = 2 ^ 28

-- the most bytes that READ and READDIR ask for
abbrev pub read_limit : ℕ
read_limit = 1048576

-- the most bytes of a name (Linux: NAME_MAX)
abbrev pub name_limit : ℕ
name_limit = 255

-- the most bytes of the target of a symbolic link (Linux: PATH_MAX, with a NUL)
abbrev pub target_limit : ℕ
target_limit = 4095

-- the node at the top (fuse.h: FUSE_ROOT_ID)
abbrev pub fuse_root_id : ℕ
fuse_root_id = 1

-- blksize of the attributes, and the size of one of their blocks
abbrev pub block_bytes : ℕ
block_bytes = 4096

abbrev pub sector_bytes : ℕ
sector_bytes = 512

-- how long the kernel may keep names and attributes
abbrev pub valid_seconds : ℕ
valid_seconds = 1

-- and how long a kernel that keeps them
abbrev pub kept_seconds : ℕ
kept_seconds = 86400

-- for how many seconds such a kernel may take a name for absent
abbrev pub absent_seconds : ℕ
absent_seconds = 10

-- the size of the shortest entry of a directory: 24 bytes and a name of one, padded to a multiple of 8
abbrev pub least_entry : ℕ
least_entry = 32
