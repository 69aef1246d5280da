-- An everyday store of version 2 as one of version 3 (defined by this project).
use Rattle.std.specs.Prelude.{ℕ, Bool, List, [], map, filter, Option, Some, None}
use Rattle.std.specs.List.{sum_by}
use Rattle.std.specs.Ordering.{is_eq, nat_cmp}
use Rattle.fuse_init.specs.declared.profile.Profile.{Profile}
use Rattle.fuse_init.specs.declared.profile.Profile.TheVariants.{Plain, Everyday}
use Rattle.fuse_rows.specs.declared.rows.NodeRow.{NodeRow}
use Rattle.fuse_store_tables.specs.declared.version.Layout.{Layout}
use Rattle.fuse_store_tables.specs.declared.version.Layout.TheVariants.{Second, Third}
use Rattle.fuse_store_tables.specs.Blocks.{Block}
use Rattle.fuse_store_tables.specs.Counted.{counted_to}
use Rattle.fuse_store_tables.specs.Content.{Content, set_counter, with_counter}

abbrev pub is_block_of : ℕ → Block → Bool
is_block_of node b = is_eq (nat_cmp b.node node)

-- version 2 has a row for each block that was written
abbrev pub written_of : List Block → NodeRow → ℕ
written_of blocks n = counted_to (filter (is_block_of n.node) blocks)

abbrev pub with_written : List Block → NodeRow → NodeRow
with_written blocks n = record n { written = Some (written_of blocks n) }

abbrev pub all_written : Content → ℕ
all_written c = sum_by (written_of c.blocks) c.nodes

-- the version, the blocks in use, and the number of the store
abbrev pub as_version_3 : ℕ → Content → Content
as_version_3 number c = with_counter 15 number (set_counter 14 (all_written c) (set_counter 1 3 c))

-- The blocks stay rows of their table.
abbrev pub counting_written : ℕ → Content → Content
counting_written number c = record c {
  layout = Third;
  counters = (as_version_3 number c).counters;
  nodes = map (with_written c.blocks) c.nodes;
  answers = [];
  pieces = [];
  attributes = [];
}

-- Only an everyday store goes from version 2 to version 3. Without a number for it, its opening fails.
abbrev pub in_third : Layout → Profile → Option ℕ → Content → Content
in_third Second Everyday (Some number) c = counting_written number c
in_third Second Everyday None c = c
in_third Second Plain number c = c
in_third Third p number c = c
