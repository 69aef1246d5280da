use Rattle.std.proofs.Common.{◌≡◌, ◌≤◌, ℕ, drop}
use Rattle.std.specs.HashMap.{spare}
use Rattle.fuse_keeper.specs.Group.{ids_of}
use Rattle.fuse_keeper.specs.Stands.{without}
use Rattle.fuse_keeper.specs.Plain.{mapped}
use Rattle.fuse_keeper.proofs.group.settle.Given as goal

abbrev pub invariant-loop-id : goal.invariant-loop-id
invariant-loop-id l = record {
  room : spare l.initial.records ≤ spare l.records;
  same : (i : ℕ) → without (ids_of (drop l.id-index l.settled)) (mapped l.records) i ≡ without (ids_of l.settled) (mapped l.initial.records) i;
}
