use Rattle.std.proofs.Common.{◌≡◌, ◌≤◌, ◌-◌, ℕ, true, List}
use Rattle.sqlite.specs.Held.{state}
use Rattle.fuse_store_tree.specs.inner.Relisting.{AreCut, Relists, TakenOff, is_between}
use Rattle.fuse_store_tree.proofs.piece_cuts.take_slices.Given as goal

abbrev pub invariant-slices : goal.invariant-slices
invariant-slices g l = record {
  node : l.node ≡ l.fn.node;
  to : l.to ≡ l.fn.to;
  begin : l.fn.from ≤ l.at;
  end : l.at ≤ l.fn.to;
  taken : (file : List ℕ) → Relists true file (AreCut l.fn.node l.fn.from l.fn.to)
      (TakenOff file (is_between l.fn.node l.fn.from l.at) l.fn.gone l.gone) (state g.S.Store l.fn.conn) (state g.S.Store l.conn);
}

abbrev pub decreases-slices : goal.decreases-slices
decreases-slices g l = l.fn.to - l.at
