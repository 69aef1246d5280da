use Rattle.std.proofs.Common.{length, ◌-◌, ◌≡◌, ◌≤◌, Ok}
use Rattle.sqlite.specs.Held.{state}
use Rattle.sqlite.specs.declared.error.Error.{Error}
use Rattle.fuse_store_tables.specs.Moves.{Takes}
use Rattle.fuse_store_tables.specs.inner.Copies.{RowsGiven}
use Rattle.fuse_store_tables.proofs.CopyRows.{RowsBefore}
use Rattle.fuse_store_tables.proofs.copied.insert_all.Given as goal

abbrev pub invariant-rows : goal.invariant-rows
invariant-rows g l = (l.rows ≡ l.fn.rows) × (l.table ≡ l.fn.table) × (l.at ≤ length l.rows)
    × Takes {E = Error} (RowsGiven l.fn.table l.fn.rows) (RowsBefore l.fn.table l.at) (state g.S.Store l.fn.conn) (state g.S.Store l.conn) (Ok l.at)

abbrev pub decreases-rows : goal.decreases-rows
decreases-rows g l = length l.rows - l.at
