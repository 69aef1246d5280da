-- Bounds of a call of a keeper (defined by this project).
use Rattle.std.specs.Prelude.{ℕ}

-- the most requests of a group
abbrev pub max_group_len : ℕ
max_group_len = 16

-- the most settled ids of a call: at most as many as a group has requests
abbrev pub max_settled_len : ℕ
max_settled_len = 16
