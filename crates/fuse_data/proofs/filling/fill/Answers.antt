use Rattle.std.proofs.Common.{◌<◌, length, arith}
use Rattle.fuse_data.proofs.Fillings.{alone, before_gap, next_overlaps, from_read}
use Rattle.fuse_data.proofs.filling.fill.Goals as goal

pub returns-then-at-gaps-clause-some : goal.returns-then-at-gaps-clause-some
returns-then-at-gaps-clause-some c =
    alone c.args.gaps.now c.position-at.result c.args.extent c.requires.gaps c.requires.placed c.position-at.ensures.within c.position-at.ensures.before (λ d there. absurd (omega arith))

pub returns-then-next-to-clause-none : goal.returns-then-next-to-clause-none
returns-then-next-to-clause-none c =
    let low : c.position-at.result < length c.args.gaps.now = omega (arith, c.position-at.ensures.within) in
    next_overlaps c.args.gaps.now c.position-at.result c.args.extent _ c.requires.gaps low c.requires.placed.some c.if-next-to.true c.position-at.ensures.at c.if-next-from.false

pub returns-then-next-to-2-clause-some : goal.returns-then-next-to-2-clause-some
returns-then-next-to-2-clause-some c =
    alone c.args.gaps.now c.position-at.result c.args.extent c.requires.gaps c.requires.placed c.position-at.ensures.within c.position-at.ensures.before
    (λ d there. from_read c.args.gaps.now c.position-at.result _ _ d there c.if-next-to-2.true)

pub returns-clause-some : goal.returns-clause-some
returns-clause-some c =
    let low : c.position-at.result < length c.args.gaps.now = omega (arith, c.position-at.ensures.within) in
    before_gap c.args.gaps.now c.position-at.result c.args.extent _ c.requires.gaps c.requires.placed low c.position-at.ensures.before c.if-next-to.false c.if-next-to-2.false
