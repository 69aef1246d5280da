use Rattle.std.proofs.Common.{◌-◌, ◌≡◌, ◌≤◌, ◌<◌, ℕ, List, true}
use Rattle.fuse_store_tables.specs.Content.{Content}
use Rattle.fuse_store_tree.specs.Pieces.{is_written_in}
use Rattle.fuse_store_tree.specs.inner.Showing.{ShowsBlock}
use Rattle.fuse_store_tree.proofs.moving.are_written.Given as goal

abbrev pub invariant-loop-block : goal.invariant-loop-block
invariant-loop-block l = record {
  begin : l.from ≤ l.block;
  stored : l.stored ≡ l.fn.stored;
  to : l.to ≡ l.fn.to;
  written : (file : List ℕ) (node : ℕ) (c : Content)
      → ((block : ℕ) → l.fn.from ≤ block → block < l.fn.to → ShowsBlock node block l.fn.stored.rows.items l.fn.stored.pieces.items c)
      → (block : ℕ) → l.fn.from ≤ block → block < l.block → is_written_in file c node block ≡ true;
}

abbrev pub decreases-loop-block : goal.decreases-loop-block
decreases-loop-block l = l.to - l.block
