use Rattle.std.proofs.Common.{◌≡◌, ◌+◌, ◌-◌, arith}
use Rattle.fuse_rows.specs.Bounds.{block_bytes}
use Rattle.fuse_store_tree.proofs.piece_reads.copy_block.Goals as goal

pub returns-clause-value : goal.returns-clause-value
returns-clause-value c = let e : c.args.start + block_bytes - c.args.start ≡ block_bytes = omega arith in rw e at c.in_ok-block.ensures.items
