use Rattle.fuse_keeper.specs.Plain.{mapped}
use Rattle.fuse_keeper.proofs.Copying.{AreAmong, AreCopied}
use Rattle.fuse_keeper.proofs.plain.copy_of.Given as goal

abbrev pub invariant-loop-id : goal.invariant-loop-id
invariant-loop-id l = record {
  among : AreAmong (mapped l.records) l.id-iterator;
  copied : AreCopied (mapped l.records) l.id-iterator (mapped l.copy);
}
