use Rattle.std.proofs.Common.{ℕ, length, take, map, ◌-◌, ◌≡◌, ◌≤◌, Ok}
use Rattle.sqlite.specs.Held.{state}
use Rattle.fuse_store_tables.specs.Migrating.{with_written}
use Rattle.fuse_store_tables.specs.declared.version.Layout.TheVariants.{Second}
use Rattle.fuse_store_tables.specs.inner.Columns.{given_node}
use Rattle.fuse_store_tables.specs.inner.Copies.{added_of}
use Rattle.fuse_store_tables.specs.inner.Looking.{ReadsIf}
use Rattle.fuse_store_tables.proofs.counted_nodes.read_all_added.Given as goal

abbrev pub invariant-nodes : goal.invariant-nodes
invariant-nodes g l = (l.nodes ≡ l.fn.nodes) × (l.at ≤ length l.nodes)
    × ReadsIf {X = ℕ} (λ c. l.fn.nodes ≡ map (given_node Second) c.nodes)
    (λ c m. l.all.items ≡ map (λ n. added_of (with_written c.blocks n)) (take l.at c.nodes)) (state g.S.Store l.fn.conn) (state g.S.Store l.conn) (Ok l.at)

abbrev pub decreases-nodes : goal.decreases-nodes
decreases-nodes g l = length l.nodes - l.at
