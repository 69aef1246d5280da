-- Changes that fit a table (defined by this project): its numbers are of 63 bits, and bytes end within a file.
use Rattle.std.specs.Prelude.{◌+◌, ◌<◌, ◌≤◌, ◌^◌, List, length, IfSome}
use Rattle.std.specs.List.{AllByRecursion}
use Rattle.fuse_rows.specs.declared.rows.NodeRow.{NodeRow}
use Rattle.fuse_rows.specs.declared.rows.EntryRow.{EntryRow}
use Rattle.fuse_rows.specs.declared.rows.HandleRow.{HandleRow}
use Rattle.fuse_rows.specs.Bounds.{file_limit, capacity_end}
use Rattle.fuse_rows.specs.Blocks.{how_many}
use Rattle.fuse_rows.specs.declared.rows.Room.{Room}
use Rattle.fuse_rows.specs.declared.rows.Counters.{Counters as CountersRow}
use Rattle.fuse_rows.specs.declared.rows.Change.{Change}
use Rattle.fuse_rows.specs.declared.rows.Change.TheVariants as changes

pub record FitsNode (row : NodeRow) : Type 0 where
  pub node : row.node < 2 ^ 63
  pub up : row.up < 2 ^ 63
  pub size : row.size ≤ file_limit
  pub written : how_many row.written < 2 ^ 63

pub record FitsEntry (e : EntryRow) : Type 0 where
  pub dir : e.dir < 2 ^ 63
  pub child : e.child < 2 ^ 63
  pub cookie : e.cookie < 2 ^ 63

pub record FitsHandle (h : HandleRow) : Type 0 where
  pub fh : h.fh < 2 ^ 63
  pub node : h.node < 2 ^ 63

pub record FitsRoom (room : Room) : Type 0 where
  pub capacity : room.capacity < capacity_end
  pub used : room.used < capacity_end

pub record FitsCounters (counters : CountersRow) : Type 0 where
  pub next_node : counters.next_node < 2 ^ 63
  pub next_fh : counters.next_fh < 2 ^ 63
  pub next_cookie : counters.next_cookie < 2 ^ 63
  pub nodes : counters.nodes < 2 ^ 63
  pub handles : counters.handles < 2 ^ 63
  pub room : IfSome counters.room FitsRoom

-- the numbers of a change; columns have room for every number of 32 bits and every second
abbrev pub FitsChange : Change → Type 0
FitsChange (changes.Node row) = FitsNode row
FitsChange (changes.NodeGone node) = node < 2 ^ 63
FitsChange (changes.Entry entry) = FitsEntry entry
FitsChange (changes.EntryGone cookie) = cookie < 2 ^ 63
FitsChange (changes.Handle handle) = FitsHandle handle
FitsChange (changes.HandleGone fh) = fh < 2 ^ 63
FitsChange (changes.Written node offset bytes) = (node < 2 ^ 63) × (offset + length bytes ≤ file_limit)
FitsChange (changes.Sized node size) = (node < 2 ^ 63) × (size ≤ file_limit)
FitsChange (changes.Counters counters) = FitsCounters counters
FitsChange (changes.Settings settings) = settings.flags.0 < 2 ^ 63

abbrev pub FitColumns : List Change → Type 0
FitColumns = AllByRecursion FitsChange
