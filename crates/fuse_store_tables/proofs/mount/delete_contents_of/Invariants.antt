use Rattle.std.proofs.Common.{length, take, map, ◌-◌, ◌≡◌, ◌≤◌, Ok}
use Rattle.sqlite.specs.Held.{state}
use Rattle.fuse_keeper.specs.declared.fault.StoreFault.{StoreFault}
use Rattle.fuse_store_tables.specs.inner.Columns.{number_of_row}
use Rattle.fuse_store_tables.specs.inner.Steps.{without_contents_of}
use Rattle.fuse_store_tables.specs.Moves.{Makes}
use Rattle.fuse_store_tables.specs.inner.Performing.{StaysWithin}
use Rattle.fuse_store_tables.proofs.mount.delete_contents_of.Given as goal

abbrev pub invariant-nodes : goal.invariant-nodes
invariant-nodes g l = (l.nodes ≡ l.fn.nodes) × (l.at ≤ length l.nodes) × Makes {E = StoreFault} (without_contents_of (map number_of_row (take l.at l.nodes)))
    (state g.S.Store l.fn.conn) (state g.S.Store l.conn) (Ok l.at)
    × StaysWithin {E = StoreFault} (state g.S.Store l.fn.conn) (state g.S.Store l.conn) (Ok l.at)

abbrev pub decreases-nodes : goal.decreases-nodes
decreases-nodes g l = length l.nodes - l.at
