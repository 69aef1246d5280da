-- The removal of a node in a plan over the rows (defined by this project).
-- Not part of what is trusted: neither `done` nor the public clauses of `plan` speak of it.
use Rattle.std.specs.Prelude.{◌-◌, ◌==◌, ◌&&◌, ℕ, Bool, not, if◌then◌else◌, List, [], ◌∷◌, ◌++◌}
use Rattle.std.specs.Option.{option_map}
use Rattle.std.specs.List.{list_any}
use Rattle.fuse_init.specs.declared.profile.Profile.{Profile}
use Rattle.fuse_init.specs.Profile.{terms}
use Rattle.fuse_rows.specs.declared.rows.NodeRow.{NodeRow}
use Rattle.fuse_rows.specs.declared.rows.HandleRow.{HandleRow}
use Rattle.fuse_rows.specs.declared.rows.Room.{Room}
use Rattle.fuse_rows.specs.declared.rows.Counters.{Counters as CountersRow}
use Rattle.fuse_rows.specs.declared.rows.Change.{Change}
use Rattle.fuse_rows.specs.declared.rows.Change.TheVariants as changes
use Rattle.fuse_rows.specs.Blocks.{how_many}
use Rattle.fuse_tree.specs.State.{is_used}
use Rattle.fuse_rows.specs.Rows.{Rows, row_is_named, handles_of}

-- the room when the node of this row has gone
abbrev pub room_without : NodeRow → Room → Room
room_without row room = record room { used = room.used - how_many row.written }

abbrev pub counters_less : NodeRow → CountersRow → CountersRow
counters_less row counters = record counters { nodes = counters.nodes - 1; room = option_map (room_without row) counters.room }

abbrev pub removal : NodeRow → CountersRow → List Change
removal row counters = changes.NodeGone row.node ∷ changes.Counters (counters_less row counters) ∷ []

-- the changes, and where the node goes those by which it does
abbrev pub with_removal : Bool → NodeRow → CountersRow → List Change → List Change
with_removal goes row counters before = if goes then before ++ removal row counters else before

-- a node that has lost its name goes
abbrev pub goes_unnamed : Profile → ℕ → Rows → Bool
goes_unnamed profile node rows = (terms profile).removes && not (is_used rows.handles node)

-- another fh than this one is open at the node: of two there is one
abbrev pub is_used_beside : List HandleRow → ℕ → ℕ → Bool
is_used_beside handles fh node = list_any (λ h. not (h.fh == fh)) (handles_of handles node 2)

-- a node that loses this fh goes
abbrev pub goes_closed : Profile → ℕ → NodeRow → Rows → Bool
goes_closed profile fh row rows = (terms profile).removes && (not (row_is_named row) && not (is_used_beside rows.handles fh row.node))
