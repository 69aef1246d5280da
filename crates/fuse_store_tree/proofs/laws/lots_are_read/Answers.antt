use Rattle.fuse_store_tree.proofs.LotsRead as lots
use Rattle.fuse_store_tree.proofs.laws.lots_are_read.Goals as goal

pub returns-clause-read : goal.returns-clause-read
returns-clause-read c = lots.lots_are_read

pub returns-clause-same : goal.returns-clause-same
returns-clause-same c = lots.lots_are_same
