use Rattle.std.proofs.Common.{length, ◌-◌, ◌≡◌, ◌≤◌, Ok}
use Rattle.sqlite.specs.Held.{state}
use Rattle.sqlite.specs.declared.error.Error.{Error}
use Rattle.fuse_store_tables.specs.Moves.{Takes}
use Rattle.fuse_store_tables.specs.inner.Copies.{NodesGiven}
use Rattle.fuse_store_tables.proofs.CopyRows.{NodesBefore}
use Rattle.fuse_store_tables.proofs.counted_nodes.insert_nodes.Given as goal

abbrev pub invariant-rows : goal.invariant-rows
invariant-rows g l = (l.rows ≡ l.fn.rows) × (l.added ≡ l.fn.added) × (l.at ≤ length l.rows)
    × Takes {E = Error} (NodesGiven l.fn.rows l.fn.added) (NodesBefore l.at) (state g.S.Store l.fn.conn) (state g.S.Store l.conn) (Ok l.at)

abbrev pub decreases-rows : goal.decreases-rows
decreases-rows g l = length l.rows - l.at
