use Rattle.std.proofs.Common.{◌≡◌, ℕ, List, map, take}
use Rattle.fuse_store_tables.specs.Blocks.{Block}
use Rattle.fuse_store_tables.specs.Ranges.{numbered_block}
use Rattle.fuse_store_tree.specs.inner.Showing.{row_bytes}
use Rattle.fuse_store_tree.proofs.RowsShown.{bytes_at}
use Rattle.fuse_store_tree.proofs.range_reads.read_blocks.Given as goal

abbrev pub invariant-loop-row : goal.invariant-loop-row
invariant-loop-row l = (bs : List Block) → l.rows ≡ map numbered_block bs → (block : ℕ) → row_bytes block l.blocks.items ≡ bytes_at block (take l.row-index bs)
