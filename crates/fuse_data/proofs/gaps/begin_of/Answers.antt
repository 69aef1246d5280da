use Rattle.fuse_data.proofs.Order.{gap_first}
use Rattle.fuse_data.proofs.gaps.begin_of.Goals as goal

pub returns-clause-low : goal.returns-clause-low
returns-clause-low c = (gap_first 1 c.args.gaps.now c.args.i _ c.requires.within c.requires.gaps).0

pub returns-clause-high : goal.returns-clause-high
returns-clause-high c d = (gap_first 1 c.args.gaps.now c.args.i d c.requires.within c.requires.gaps).2
