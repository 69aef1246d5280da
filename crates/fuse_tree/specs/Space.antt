-- The room of a store (defined by this project): the written blocks of all its nodes, and how many it has room for.
use Rattle.std.specs.Prelude.{◌+◌, ◌-◌, ℕ, Bool, true, nat_le, List, Option, Some, None}
use Rattle.std.specs.Option.{option_map}
use Rattle.fuse_rows.specs.declared.rows.Room.{Room}
use Rattle.fuse_rows.specs.Blocks.{first_touched, touched_end, count_between}
use Rattle.fuse_tree.specs.State.{State, used_of}

-- none of a plain store
abbrev pub room_of : State → Option Room
room_of s = option_map (λ c. record { capacity = c; used = used_of s }) s.capacity

-- there is room for so many blocks more
abbrev pub has_room : Option Room → ℕ → Bool
has_room None more = true
has_room (Some room) more = nat_le (room.used + more) room.capacity

-- the blocks that become written where so many bytes from a place on are: those that the bytes touch, but for those that were written
abbrev pub newly_written : ℕ → ℕ → List ℕ → ℕ
newly_written offset len blocks = touched_end offset len - first_touched offset - count_between (first_touched offset) (touched_end offset len) blocks
