-- The content of the tables between the steps of a new store, of a migration and of the begin of a mount (defined by this project).
use Rattle.std.specs.Prelude.{◌≡◌, ℕ, ◌-◌, List, [], ◌∷◌, ⊤, not, map, filter, fold, Result, OnOk}
use Rattle.std.specs.List.{sum_by}
use Rattle.sqlite.specs.Order.{Row}
use Rattle.fuse_rows.specs.declared.rows.NodeRow.{NodeRow}
use Rattle.sqlite.specs.Effect.{Database}
pub use Rattle.fuse_store_tables.specs.Content.{HoldsIn}
use Rattle.fuse_store_tables.specs.Content.{Content, Holds, is_unnamed, kept_key, put_by, with_counter, set_counter, with_node, with_lot, without_blocks_from, without_pieces}
use Rattle.fuse_store_tables.specs.Making.{counters_alone, root}
use Rattle.fuse_store_tables.specs.Layout.{with_lots, with_kept}
use Rattle.sqlite.specs.State.{State, HasCleanDisk}
use Rattle.fuse_store_tables.specs.Moves.{InsideAs}
use Rattle.fuse_store_tables.specs.Opening.{HoldsEarlier, IsLaid, IsOld, IsSecond, IsUnindexed, HasRoomIn, profile_in, under}
use Rattle.fuse_init.specs.declared.profile.Profile.{Profile}
use Rattle.fuse_store_tables.specs.Clearing.{counted_to, has_unnamed, extent_of, blocks_in, unnamed_blocks}
use Rattle.fuse_store_tables.specs.declared.version.Layout.{Layout}
use Rattle.fuse_store_tables.specs.declared.version.Layout.TheVariants.{Second}
use Rattle.fuse_rows.specs.declared.origin.Origin.{Origin}
use Rattle.fuse_store_tables.specs.inner.Columns.{number_of_row}

abbrev pub HasCounters : Layout → ⊤ → Database → Type 0
HasCounters layout _ = Holds (counters_alone layout)

-- the tables and the first rows, but for those of the volume
abbrev pub HasRoot : Layout → Origin → ⊤ → Database → Type 0
HasRoot layout from _ = Holds (with_node (root layout from) (counters_alone layout))

-- the rows of the volume are added one after the other
abbrev pub with_volume : ℕ → ℕ → Content → Content
with_volume capacity number c = with_counter 15 number (with_counter 14 0 (with_counter 13 capacity (with_counter 12 2 c)))

abbrev pub without_answers : Content → Content
without_answers c = record c { answers = [] }

-- a store of a layout, of version 2 and of a profile, and what an opening that counts blocks asks for
pub record IsSecondIn (layout : Layout) (c : Content) (d : Database) : Type 0 where
  pub store : IsSecond c d
  pub layout_is : c.layout ≡ layout

pub record IsSecondOf (p : Profile) (c : Content) (d : Database) : Type 0 where
  pub store : IsSecondIn Second c d
  pub profile_is : p ≡ profile_in c

pub record IsRoomySecond (c : Content) (d : Database) : Type 0 where
  pub store : IsSecondIn Second c d
  pub room : HasRoomIn Second (profile_in c) c

pub record IsRoomySecondOf (p : Profile) (c : Content) (d : Database) : Type 0 where
  pub store : IsSecondOf p c d
  pub room : HasRoomIn Second p c

pub record IsRoomyUnindexed (c : Content) (d : Database) : Type 0 where
  pub store : IsUnindexed c d
  pub room : HasRoomIn Second (profile_in c) c

-- where the opening succeeds, the rows of `meta` are those of one of the versions
abbrev pub Tests : {X E : Type 0} → (Content → Type 0) → State → State → Result X E → Type 0
Tests P old new r = HasCleanDisk new → OnOk r ((c : Content) → InsideAs (IsLaid c) old → P c)

abbrev pub with_copies : Content → Content
with_copies c = record c { kept = fold (λ all k. put_by kept_key k all) c.kept (map (under 0) c.answers) }

abbrev pub moved_answers : Content → Content
moved_answers c = without_answers (with_copies (with_lot 0 c))

-- the tables of version 1, and then those of version 2 one after the other, before they are refilled
pub record HasLots (c : Content) (d : Database) : Type 0 where
  pub holds : HoldsEarlier with_lots c d
  pub old : IsOld c

pub record HasKept (c : Content) (d : Database) : Type 0 where
  pub holds : HoldsEarlier with_kept c d
  pub old : IsOld c

pub record HasTables (c : Content) (d : Database) : Type 0 where
  pub holds : HoldsIn Second c d
  pub old : IsOld c

abbrev pub without_unnamed : Content → Content
without_unnamed c = record c { nodes = filter (λ n. not (is_unnamed n)) c.nodes }

abbrev pub without_handles : Content → Content
without_handles c = record c { handles = [] }

abbrev pub without_lots : Content → Content
without_lots c = record c { lots = [] }

abbrev pub without_all_kept : Content → Content
without_all_kept c = record c { kept = [] }

abbrev pub unnamed_extents : Layout → List NodeRow → List ℕ
unnamed_extents layout nodes = map (extent_of layout) (filter is_unnamed nodes)

-- the blocks of what was read of nodes
abbrev pub read_blocks : Layout → List Row → ℕ
read_blocks layout rows = sum_by (λ r. blocks_in layout (number_of_row r)) rows

abbrev pub lowered_from : ℕ → Content → Content
lowered_from used c = set_counter 14 (used - unnamed_blocks c.layout c.nodes) c

-- without the blocks and the pieces of a node
abbrev pub without_contents : ℕ → Content → Content
without_contents node c = without_pieces node (without_blocks_from node 0 c)

abbrev pub without_contents_of : List ℕ → Content → Content
without_contents_of [] c = c
without_contents_of (node ∷ more) c = without_contents_of more (without_contents node c)

abbrev pub without_unnamed_contents : Content → Content
without_unnamed_contents c = record c {
  blocks = filter (λ b. not (has_unnamed c.nodes b.node)) c.blocks;
  pieces = filter (λ p. not (has_unnamed c.nodes p.node)) c.pieces;
}

abbrev pub with_nodes_counted : Content → Content
with_nodes_counted c = set_counter 5 (counted_to c.nodes) c

abbrev pub without_records : Content → Content
without_records c = without_lots (without_all_kept c)

abbrev pub without_all_handles : Content → Content
without_all_handles c = set_counter 6 0 (without_handles c)

abbrev pub without_unnamed_nodes : Content → Content
without_unnamed_nodes c = with_nodes_counted (without_unnamed (without_unnamed_contents c))
