-- The rows of each table, in either version.
use Rattle.std.proofs.Common.{◌≡◌, ℕ, List, map}
use Rattle.std.specs.List.{AllByRecursion}
use Rattle.sqlite.specs.Effect.{Database}
use Rattle.fuse_store_tables.specs.declared.version.Layout.{Layout}
use Rattle.fuse_store_tables.specs.declared.version.Layout.TheVariants.{Second, Third}
use Rattle.fuse_store_tables.specs.Layout as tables
use Rattle.fuse_store_tables.specs.Layout.{schema_for}
use Rattle.fuse_store_tables.specs.Blocks.{block_row}
use Rattle.fuse_store_tables.specs.Content.{Content, Holds, HasRows, stored, counter_row, entry_row, handle_row, lot_row, kept_row, node_row}

module _ (c : Content) (d : Database) (at : Holds c d) where
  abbrev AllRows : Layout → Type 0
  AllRows layout = AllByRecursion (HasRows (stored c) d.trees) (schema_for layout).tables

  pub counters_stored : d.trees 0 ≡ map counter_row c.counters
  counters_stored = by c.layout at.rows
    where
      by : (layout : Layout) → AllRows layout → d.trees 0 ≡ map counter_row c.counters
      by Second rows = rows.0.0
      by Third rows = rows.0.0

  pub nodes_stored : d.trees 1 ≡ map (node_row c.layout) c.nodes
  nodes_stored = by c.layout at.rows
    where
      by : (layout : Layout) → AllRows layout → d.trees 1 ≡ map (node_row c.layout) c.nodes
      by Second rows = rows.1.0.0
      by Third rows = rows.1.0.0

  pub entries_stored : d.trees 2 ≡ map entry_row c.entries
  entries_stored = by c.layout at.rows
    where
      by : (layout : Layout) → AllRows layout → d.trees 2 ≡ map entry_row c.entries
      by Second rows = rows.1.1.0.0
      by Third rows = rows.1.1.0.0

  -- and these rise
  pub blocks_stored : HasRows (stored c) d.trees tables.blocks
  blocks_stored = by c.layout at.rows
    where
      by : (layout : Layout) → AllRows layout → HasRows (stored c) d.trees tables.blocks
      by Second rows = rows.1.1.1.0
      by Third rows = rows.1.1.1.0

  pub handles_stored : d.trees 7 ≡ map handle_row c.handles
  handles_stored = by c.layout at.rows
    where
      by : (layout : Layout) → AllRows layout → d.trees 7 ≡ map handle_row c.handles
      by Second rows = rows.1.1.1.1.0.0
      by Third rows = rows.1.1.1.1.0.0

  pub lots_stored : d.trees 9 ≡ map lot_row c.lots
  lots_stored = by c.layout at.rows
    where
      by : (layout : Layout) → AllRows layout → d.trees 9 ≡ map lot_row c.lots
      by Second rows = rows.1.1.1.1.1.1.0.0
      by Third rows = rows.1.1.1.1.1.0.0

  pub kept_stored : d.trees 10 ≡ map kept_row c.kept
  kept_stored = by c.layout at.rows
    where
      by : (layout : Layout) → AllRows layout → d.trees 10 ≡ map kept_row c.kept
      by Second rows = rows.1.1.1.1.1.1.1.0.0
      by Third rows = rows.1.1.1.1.1.1.0.0

  -- the pieces, which version 3 has
  pub pieces_stored : c.layout ≡ Third → HasRows (stored c) d.trees tables.pieces
  pieces_stored is = by c.layout is at.rows
    where
      by : (layout : Layout) → layout ≡ Third → AllRows layout → HasRows (stored c) d.trees tables.pieces
      by Second is rows = absurd cc
      by Third is rows = rows.1.1.1.1.1.1.1.0
