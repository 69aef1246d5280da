use Rattle.std.proofs.Common.{◌≡◌, ◌≤◌, ◌+◌, ◌-◌, List, ℕ, length}
use Rattle.sqlite.specs.State.{HasCleanDisk}
use Rattle.sqlite.specs.Held.{state}
use Rattle.fuse_store_tables.specs.Content.{Content}
use Rattle.fuse_store_tables.specs.Moves.{Inside, LookedInside}
use Rattle.fuse_store_tree.specs.inner.Reading.{IsSound}
use Rattle.fuse_store_tree.proofs.LastPieces.{FoundDown}
use Rattle.fuse_store_tree.proofs.piece_reads.find_pieces.Given as goal

abbrev pub invariant-pieces : goal.invariant-pieces
invariant-pieces g l = record {
  node : l.node ≡ l.fn.node;
  from : l.from ≡ l.fn.from;
  end : l.end ≤ l.fn.to;
  few : length l.found.items + (l.end - l.from) ≤ l.fn.to - l.from;
  looks : LookedInside (state g.S.Store l.fn.conn) (state g.S.Store l.conn);
  value : HasCleanDisk (state g.S.Store l.conn) → (file : List ℕ) (c : Content) → Inside c (state g.S.Store l.fn.conn) → IsSound file c
      → FoundDown l.fn.node l.end l.fn.to l.found.items c.pieces;
}

abbrev pub decreases-pieces : goal.decreases-pieces
decreases-pieces g l = l.end - l.from
