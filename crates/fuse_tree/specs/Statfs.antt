-- STATFS (defined by this project; statfs(2)): the blocks and the nodes of a store, and how many of them are left.
use Rattle.std.specs.Prelude.{◌-◌, ℕ, length}
use Rattle.std.specs.Option.{unwrap_or}
use Rattle.fuse_answer.specs.declared.further.StatfsOut.{StatfsOut}
use Rattle.fuse_answer.specs.FurtherAnswers.{statfs_bytes}
use Rattle.fuse_rows.specs.Bounds.{block_bytes, name_limit}
use Rattle.fuse_rows.specs.declared.rows.Room.{Room}
use Rattle.fuse_tree.specs.State.{State, terms_of}
use Rattle.fuse_tree.specs.Space.{room_of}
use Rattle.fuse_tree.specs.Done.{Done, answer}

-- that of a store of such a room, with so many nodes, which may have so many
abbrev pub statfs_of : ℕ → ℕ → Room → StatfsOut
statfs_of limit nodes room = record {
  blocks = room.capacity;
  bfree = room.capacity - room.used;
  bavail = room.capacity - room.used;
  files = limit;
  ffree = limit - nodes;
  bsize = block_bytes;
  namelen = name_limit;
  frsize = block_bytes;
}

-- of a store that counts no blocks
abbrev pub no_room : Room
no_room = record { capacity = 0; used = 0 }

abbrev pub statfs : State → Done
statfs s = answer s (statfs_bytes (statfs_of (terms_of s).node_limit (length s.nodes) (unwrap_or (room_of s) no_room)))
