-- The limits of the guest protocol, version 1 (defined by this project: the guest protocol, 'Limits').
use Rattle.std.specs.Prelude.{ℕ}

abbrev pub protocol_version : ℕ
protocol_version = 1

-- of a whole frame
abbrev pub max_frame_len : ℕ
max_frame_len = 4194304

abbrev pub max_key_len : ℕ
max_key_len = 1024

abbrev pub max_value_len : ℕ
max_value_len = 262144

-- of a whole frame of VALUES or PAIRS
abbrev pub max_reply_len : ℕ
max_reply_len = 1048576

-- of a GET
abbrev pub max_keys : ℕ
max_keys = 256

-- of an ANSWER
abbrev pub max_changes : ℕ
max_changes = 4096

-- the size of a value that says that there is no such pair
abbrev pub no_value_size : ℕ
no_value_size = 4294967295
