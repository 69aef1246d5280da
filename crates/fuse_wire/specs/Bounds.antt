-- Bounds of messages, answers and trees (fuse.h and Linux where it is said; the others are own).
use Rattle.std.specs.Prelude.{ℕ, ◌^◌}

-- the shortest message is a header alone: fuse_in_header (fuse.h)
abbrev pub min_message_len : ℕ
min_message_len = 40

abbrev pub max_message_len : ℕ
max_message_len = 135168

-- of all bytes that a framer is fed
abbrev pub max_fed_len : ℕ
max_fed_len = 2 ^ 60

-- of an answer's body, and so of READ and READDIR
abbrev pub max_body_len : ℕ
max_body_len = 1048576

-- the largest error number that the kernel takes (Linux: fuse_dev_do_write refuses -512 and below)
abbrev pub max_error_number : ℕ
max_error_number = 511

-- of a name (Linux: NAME_MAX)
abbrev pub max_name_len : ℕ
max_name_len = 255
