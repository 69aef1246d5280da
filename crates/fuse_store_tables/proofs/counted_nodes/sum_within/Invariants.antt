use Rattle.std.proofs.Common.{List, length, take, map, ◌-◌, ◌≡◌, ◌≤◌}
use Rattle.std.specs.List.{sum_by}
use Rattle.fuse_rows.specs.declared.rows.NodeRow.{NodeRow}
use Rattle.fuse_store_tables.specs.inner.Copies.{added_of}
use Rattle.fuse_store_tables.proofs.WrittenSums.{written_in}
use Rattle.fuse_store_tables.proofs.counted_nodes.sum_within.Given as goal

abbrev pub invariant-all : goal.invariant-all
invariant-all l = (l.all ≡ l.fn.all) × (l.most ≡ l.fn.most) × (l.at ≤ length l.all) × (l.sum ≤ l.most)
    × ((ns : List NodeRow) → l.fn.all ≡ map added_of ns → l.sum ≡ sum_by written_in (take l.at ns))

abbrev pub decreases-all : goal.decreases-all
decreases-all l = length l.all - l.at
