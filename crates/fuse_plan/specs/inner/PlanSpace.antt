-- The written blocks and the room of a store in a plan over the rows (defined by this project).
-- Not part of what is trusted: neither `done` nor the public clauses of `plan` speak of it.
use Rattle.std.specs.Prelude.{◌-◌, ℕ, List, [], ◌∷◌, Option, Some, None}
use Rattle.std.specs.Option.{option_map}
use Rattle.fuse_init.specs.declared.profile.Profile.{Profile}
use Rattle.fuse_init.specs.declared.profile.Profile.TheVariants.{Plain, Everyday}
use Rattle.fuse_rows.specs.Blocks.{blocks_for, first_touched, touched_end}
use Rattle.fuse_rows.specs.declared.rows.NodeRow.{NodeRow}
use Rattle.fuse_rows.specs.declared.rows.Room.{Room}
use Rattle.fuse_rows.specs.declared.rows.Counters.{Counters as CountersRow}
use Rattle.fuse_rows.specs.declared.rows.Change.{Change}
use Rattle.fuse_rows.specs.declared.rows.Change.TheVariants as changes
use Rattle.fuse_rows.specs.Rows.{Rows, blocks_between}

-- a plain store has no room to count, so its counters aren't looked at
abbrev pub counters_for : Profile → Rows → Option CountersRow
counters_for Plain rows = None
counters_for Everyday rows = Some rows.counters

abbrev pub room_in : Option CountersRow → Option Room
room_in None = None
room_in (Some counters) = counters.room

-- a number of blocks that are in use, changed
abbrev pub room_with_used : (ℕ → ℕ) → Room → Room
room_with_used change room = record room { used = change room.used }

abbrev pub counters_used : (ℕ → ℕ) → CountersRow → CountersRow
counters_used change counters = record counters { room = option_map (room_with_used change) counters.room }

abbrev pub room_changes : Option CountersRow → (ℕ → ℕ) → List Change
room_changes None change = []
room_changes (Some counters) change = changes.Counters (counters_used change counters) ∷ []

-- ---- the written blocks of the node of a row

-- a plain row has none, and then no block is looked at
abbrev pub between_for : Option ℕ → Rows → ℕ → ℕ → ℕ → ℕ
between_for None rows number from to = 0
between_for (Some written) rows number from to = blocks_between rows number from to

-- the blocks that become written where so many bytes from a place on are
abbrev pub newly_in : Rows → NodeRow → ℕ → ℕ → ℕ
newly_in rows row offset len =
    touched_end offset len - first_touched offset - between_for row.written rows row.node (first_touched offset) (touched_end offset len)

-- the blocks that are written no more where the size is this one
abbrev pub blocks_gone_in : Rows → NodeRow → ℕ → ℕ
blocks_gone_in rows row size = between_for row.written rows row.node (blocks_for size) (blocks_for row.size)
