-- The five nodes (defined by this project): a directory, and in it three regular files and a symbolic link.
use Rattle.std.specs.Prelude.{◌+◌, ◌/◌, ◌==◌, ℕ, Bool, true, false, if◌then◌else◌, List, [], length, Option, Some, None, codes}
use Rattle.fuse_answer.specs.declared.records.Attr.{Attr}
use Rattle.five_files.specs.declared.node.Node.{Node}
use Rattle.five_files.specs.declared.node.Node.TheVariants.{Directory, Readme, Licence, Hours, Times}

abbrev pub number_of : Node → ℕ
number_of Directory = 1
number_of Readme = 2
number_of Licence = 3
number_of Hours = 4
number_of Times = 5

abbrev pub node_at : ℕ → Option Node
node_at number =
    if number == 1 then Some Directory
    else if number == 2 then Some Readme
    else if number == 3 then Some Licence
    else if number == 4 then Some Hours
    else if number == 5 then Some Times
    else None

abbrev pub is_dir : Node → Bool
is_dir Directory = true
is_dir Readme = false
is_dir Licence = false
is_dir Hours = false
is_dir Times = false

abbrev pub is_link : Node → Bool
is_link Directory = false
is_link Readme = false
is_link Licence = false
is_link Hours = false
is_link Times = true

abbrev pub name_of : Node → List ℕ
name_of Directory = codes "."
name_of Readme = codes "readme"
name_of Licence = codes "licence"
name_of Hours = codes "hours"
name_of Times = codes "times"

-- the content of the link is its target
abbrev pub content_of : Node → List ℕ
content_of Directory = []
content_of Readme = codes "Three files to read."
content_of Licence = codes "Copy them freely."
content_of Hours = codes "9 to 5"
content_of Times = codes "hours"

-- for reading alone: S_IFDIR and S_IFREG; and S_IFLNK, whose permissions nobody asks for
abbrev pub mode_of : Node → ℕ
mode_of n = if is_dir n then 0o040555 else if is_link n then 0o120777 else 0o100444

-- what is in the directory has one link, and a directory without directories in it two
abbrev pub links_of : Node → ℕ
links_of n = if is_dir n then 2 else 1

-- in units of 512 bytes
abbrev pub blocks_of : Node → ℕ
blocks_of n = (length (content_of n) + 511) / 512

abbrev pub attr_of : Node → Attr
attr_of n = record {
  ino = number_of n;
  size = length (content_of n);
  blocks = blocks_of n;
  atime = 0;
  mtime = 0;
  ctime = 0;
  atimensec = 0;
  mtimensec = 0;
  ctimensec = 0;
  mode = mode_of n;
  nlink = links_of n;
  uid = 0;
  gid = 0;
  rdev = 0;
  blksize = 4096;
  flags = 0;
}
