use Rattle.std.proofs.Common.{◌-◌, ◌≡◌, ◌≤◌, ℕ, List, length, take}
use Rattle.sqlite.specs.Held.{state}
use Rattle.fuse_keeper.specs.Group.{ids_of}
use Rattle.fuse_store_tree.specs.inner.Changing.{Turned}
use Rattle.fuse_store_tree.specs.Group.{without_settled}
use Rattle.fuse_store_tree.proofs.settled_ids.settle.Given as goal

abbrev pub invariant-rest : goal.invariant-rest
invariant-rest g l = record {
  ids : l.ids ≡ l.fn.ids;
  done : l.done ≤ length l.fn.ids;
  turned : (file : List ℕ) → Turned file (without_settled (ids_of (take l.done l.fn.ids))) (state g.S.Store l.fn.conn) (state g.S.Store l.conn);
}

abbrev pub decreases-rest : goal.decreases-rest
decreases-rest g l = length l.fn.ids - l.done
