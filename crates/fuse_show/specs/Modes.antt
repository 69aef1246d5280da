-- The type and the permissions of a node as ten letters (POSIX: ls).
use Rattle.std.specs.Prelude.{◌/◌, ◌%◌, ◌==◌, ◌++◌, ℕ, Bool, if◌then◌else◌, List, codes}
use Rattle.fuse_tree.specs.Modes.{s_ifdir, s_ifchr, s_ifblk, s_ififo, s_ifsock, s_iflnk}
use Rattle.fuse_tree.specs.State.{type_bits}

-- the letter of the file type; a dash for a regular file
abbrev pub kind_text : ℕ → List ℕ
kind_text mode =
    if type_bits mode == s_ifdir then codes "d"
    else if type_bits mode == s_ifchr then codes "c"
    else if type_bits mode == s_ifblk then codes "b"
    else if type_bits mode == s_ififo then codes "p"
    else if type_bits mode == s_ifsock then codes "s"
    else if type_bits mode == s_iflnk then codes "l"
    else codes "-"

-- the bit of this value is set
abbrev pub has_bit : ℕ → ℕ → Bool
has_bit mode unit = mode / unit % 2 == 1

abbrev pub letter_text : Bool → List ℕ → List ℕ
letter_text is_set letter = if is_set then letter else codes "-"

-- the execute bit and a set-id or sticky bit: `both` if both are set, `alone` if only the latter is
abbrev pub run_text : Bool → Bool → List ℕ → List ℕ → List ℕ
run_text runs is_special both alone = if is_special then (if runs then both else alone) else letter_text runs (codes "x")

abbrev pub owner_text : ℕ → List ℕ
owner_text mode =
    letter_text (has_bit mode 0o400) (codes "r")
    ++ (letter_text (has_bit mode 0o200) (codes "w") ++ run_text (has_bit mode 0o100) (has_bit mode 0o4000) (codes "s") (codes "S"))

abbrev pub group_text : ℕ → List ℕ
group_text mode =
    letter_text (has_bit mode 0o40) (codes "r")
    ++ (letter_text (has_bit mode 0o20) (codes "w") ++ run_text (has_bit mode 0o10) (has_bit mode 0o2000) (codes "s") (codes "S"))

abbrev pub others_text : ℕ → List ℕ
others_text mode =
    letter_text (has_bit mode 0o4) (codes "r")
    ++ (letter_text (has_bit mode 0o2) (codes "w") ++ run_text (has_bit mode 0o1) (has_bit mode 0o1000) (codes "t") (codes "T"))

abbrev pub mode_text : ℕ → List ℕ
mode_text mode = kind_text mode ++ (owner_text mode ++ (group_text mode ++ others_text mode))
