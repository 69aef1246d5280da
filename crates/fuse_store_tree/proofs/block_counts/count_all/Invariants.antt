use Rattle.std.proofs.Common.{◌≡◌, ◌≤◌, ◌-◌, ◌⊎◌, List, ℕ}
use Rattle.sqlite.specs.State.{HasCleanDisk}
use Rattle.sqlite.specs.Held.{state}
use Rattle.fuse_store_tables.specs.Content.{Content}
use Rattle.fuse_store_tables.specs.Moves.{Inside, LookedInside}
use Rattle.fuse_store_tree.specs.inner.Reading.{IsSound, counted_between}
use Rattle.fuse_store_tree.proofs.block_counts.count_all.Given as goal

abbrev pub invariant-parts : goal.invariant-parts
invariant-parts g l = record {
  node : l.node ≡ l.fn.node;
  from : l.from ≡ l.fn.from;
  end : l.end ≤ l.fn.to;
  few : l.count ≤ l.fn.to - l.end;
  looks : LookedInside (state g.S.Store l.fn.conn) (state g.S.Store l.conn);
  value : HasCleanDisk (state g.S.Store l.conn) → (file : List ℕ) (c : Content) → Inside c (state g.S.Store l.fn.conn) → IsSound file c
      → l.count ≡ counted_between file c l.fn.node l.end l.fn.to;
  last : (l.fn.from ≤ l.end) ⊎ (l.end ≡ l.fn.to);
}

abbrev pub decreases-parts : goal.decreases-parts
decreases-parts g l = l.end - l.from
