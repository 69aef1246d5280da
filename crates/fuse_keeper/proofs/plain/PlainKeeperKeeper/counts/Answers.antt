use Rattle.fuse_keeper.proofs.Counting.{counts_mapped}
use Rattle.fuse_keeper.proofs.plain.PlainKeeperKeeper.counts.Goals as goal

pub returns-clause-records : goal.returns-clause-records
returns-clause-records g c = λ honest rows records held rowed. counts_mapped c.args.self.now.records _ records c.len.ensures.len c.len.ensures.unique held.1
