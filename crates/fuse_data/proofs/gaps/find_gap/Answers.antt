use Rattle.std.proofs.Common.{arith}
use Rattle.fuse_data.proofs.Blocks.{one_gap, none_lies, first_lies}
use Rattle.fuse_data.proofs.gaps.find_gap.Goals as goal

pub returns-clause-none : goal.returns-clause-none
returns-clause-none c p some is free =
    none_lies c.args.gaps.now p c.args.count is (λ k d low. c.loop-i.invariant k d (omega arith)) (one_gap 1 c.args.gaps.now p c.requires some free)

pub returns-then-gap-count-clause-first : goal.returns-then-gap-count-clause-first
returns-then-gap-count-clause-first c p d some is free =
    first_lies 1 c.args.gaps.now _ d p c.args.count c.requires is c.loop-i.invariant (one_gap 1 c.args.gaps.now p c.requires some free)
