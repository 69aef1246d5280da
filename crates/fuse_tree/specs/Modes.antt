-- The types of modes, and the flags of RENAME2 (Linux: sys/stat.h, linux/fs.h).
use Rattle.std.specs.Prelude.{ℕ}

abbrev pub s_ifdir : ℕ
s_ifdir = 0o040000

abbrev pub s_ifreg : ℕ
s_ifreg = 0o100000

abbrev pub s_ifchr : ℕ
s_ifchr = 0o020000

abbrev pub s_ifblk : ℕ
s_ifblk = 0o060000

abbrev pub s_ififo : ℕ
s_ififo = 0o010000

abbrev pub s_ifsock : ℕ
s_ifsock = 0o140000

-- what is made in such a directory gets its group
abbrev pub s_isgid : ℕ
s_isgid = 0o2000

-- a symbolic link, of which only some profiles have any
abbrev pub s_iflnk : ℕ
s_iflnk = 0o120000

-- the bits below this one are the permissions, and the next four are the type
abbrev pub type_unit : ℕ
type_unit = 0o10000

abbrev pub type_count : ℕ
type_count = 16

abbrev pub rename_noreplace : ℕ
rename_noreplace = 1

abbrev pub rename_exchange : ℕ
rename_exchange = 2
