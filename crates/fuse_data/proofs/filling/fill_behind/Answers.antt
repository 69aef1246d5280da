use Rattle.std.proofs.Common.{◌+◌, ◌<◌, length, arith}
use Rattle.fuse_data.proofs.Fillings.{behind_gap, between_gaps, behind_overlaps, from_read}
use Rattle.fuse_data.proofs.filling.fill_behind.Goals as goal

pub returns-then-at-gaps-clause-some : goal.returns-then-at-gaps-clause-some
returns-then-at-gaps-clause-some c =
    behind_gap c.args.gaps.now c.args.at c.args.extent c.args.before c.requires.gaps c.requires.placed c.requires.within c.requires.before c.requires.ends (λ d there. absurd (omega arith))

pub returns-then-next-to-clause-none : goal.returns-then-next-to-clause-none
returns-then-next-to-clause-none c =
    let low : c.args.at + 1 < length c.args.gaps.now = omega (arith, c.requires.within) in
    behind_overlaps c.args.gaps.now c.args.at c.args.extent c.args.before _ c.requires.gaps low c.requires.before c.requires.ends c.requires.placed.some c.if-next-to.true

pub returns-then-next-to-2-clause-some : goal.returns-then-next-to-2-clause-some
returns-then-next-to-2-clause-some c =
    behind_gap c.args.gaps.now c.args.at c.args.extent c.args.before c.requires.gaps c.requires.placed c.requires.within c.requires.before c.requires.ends
    (λ d there. from_read c.args.gaps.now (c.args.at + 1) _ _ d there c.if-next-to-2.true)

pub returns-clause-some : goal.returns-clause-some
returns-clause-some c =
    let low : c.args.at + 1 < length c.args.gaps.now = omega (arith, c.requires.within) in
    between_gaps c.args.gaps.now c.args.at c.args.extent c.args.before _ c.requires.gaps c.requires.placed low c.requires.before c.requires.ends c.if-next-to.false c.if-next-to-2.false
