-- The content of the tables after the begin of a mount (defined by this project).
use Rattle.std.specs.Prelude.{ℕ, ◌-◌, Bool, not, List, [], Option, map, filter}
use Rattle.std.specs.List.{list_any, sum_by}
use Rattle.std.specs.Ordering.{is_eq, nat_cmp}
use Rattle.fuse_rows.specs.declared.rows.NodeRow.{NodeRow}
use Rattle.fuse_rows.specs.Blocks.{blocks_for, how_many}
use Rattle.sqlite.specs.Effect.{Database}
use Rattle.fuse_store_tables.specs.declared.version.Layout.{Layout}
use Rattle.fuse_store_tables.specs.declared.version.Layout.TheVariants.{Second, Third}
pub use Rattle.fuse_store_tables.specs.Counted.{reached, counted_to}
use Rattle.fuse_store_tables.specs.Content.{Content, is_unnamed, set_counter, value_at}
use Rattle.fuse_store_tables.specs.Opening.{IsSecond, opened}

abbrev pub unnamed_numbers : List NodeRow → List ℕ
unnamed_numbers nodes = map (λ n. n.node) (filter is_unnamed nodes)

abbrev pub named : List NodeRow → List NodeRow
named = filter (λ n. not (is_unnamed n))

-- a node of this number has no name
abbrev pub has_unnamed : List NodeRow → ℕ → Bool
has_unnamed nodes node = list_any (λ n. is_eq (nat_cmp node n)) (unnamed_numbers nodes)

-- ---- the steps

abbrev pub without_settings : Content → Content
without_settings c = set_counter 10 0 (set_counter 9 0 (set_counter 8 0 (set_counter 7 0 c)))

-- the column of a node that says how many blocks it uses: version 2 has its size alone, and version 3 how many were written
abbrev pub extent_of : Layout → NodeRow → ℕ
extent_of Second n = n.size
extent_of Third n = how_many n.written

abbrev pub blocks_in : Layout → ℕ → ℕ
blocks_in Second size = blocks_for size
blocks_in Third written = written

abbrev pub unnamed_blocks : Layout → List NodeRow → ℕ
unnamed_blocks layout nodes = sum_by (λ n. blocks_in layout (extent_of layout n)) (filter is_unnamed nodes)

-- The blocks of the unnamed nodes are in use no more. A plain store has no row that counts blocks.
abbrev pub lowered : Content → Content
lowered c = set_counter 14 (value_at 14 c - unnamed_blocks c.layout c.nodes) c

-- ---- all of them

-- without records, handles, settings and unnamed nodes; the counts are those of the rest
abbrev pub cleared : Content → Content
cleared c = record c {
  counters = (set_counter 5 (counted_to (named c.nodes)) (without_settings (set_counter 6 0 (lowered c)))).counters;
  nodes = named c.nodes;
  blocks = filter (λ b. not (has_unnamed c.nodes b.node)) c.blocks;
  handles = [];
  lots = [];
  kept = [];
  pieces = filter (λ p. not (has_unnamed c.nodes p.node)) c.pieces;
}

-- opened, and a mount of it begun
abbrev pub IsBegun : Option ℕ → Content → Database → Type 0
IsBegun number c = IsSecond (cleared (opened number c))
