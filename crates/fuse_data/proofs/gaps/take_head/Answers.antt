use Rattle.std.proofs.Common.{sym, subst, arith, rules}
use Rattle.fuse_data.specs.Space.{AreGaps, TakesOut}
use Rattle.fuse_data.proofs.Order.{gap_first}
use Rattle.fuse_data.proofs.Heads.{sum_fits, head_taken, head_sound, whole_taken, whole_sound}
use Rattle.fuse_data.proofs.gaps.take_head.Goals as goal

pub overflow_add-from : goal.overflow_add-from
overflow_add-from c =
    let low = gap_first 1 c.args.gaps.now.items c.args.i c.index-gap.result.now c.requires.head.within c.requires.gaps in
    let ends = c.requires.head.ends c.index-gap.result.now in
    let fits = sum_fits c.args.extent.place c.args.extent.count (omega (arith, low.2)) in search rules

pub returns-then-from-gap-clause-taken : goal.returns-then-from-gap-clause-taken
returns-then-from-gap-clause-taken c = head_taken c.args.gaps.now.items c.args.i _ c.args.extent c.requires.gaps c.requires.head c.index-gap.ensures

pub returns-then-from-gap-clause-gaps : goal.returns-then-from-gap-clause-gaps
returns-then-from-gap-clause-gaps c = head_sound c.args.gaps.now.items c.args.i _ c.args.extent c.requires.gaps c.requires.head c.index-gap.ensures c.if-from-gap.true

pub returns-else-from-gap-clause-taken : goal.returns-else-from-gap-clause-taken
returns-else-from-gap-clause-taken c =
    subst (TakesOut c.args.extent c.args.gaps.now.items) (sym c.remove.ensures.items) (whole_taken c.args.gaps.now.items c.args.i _ c.args.extent c.requires.gaps c.requires.head c.index-gap.ensures c.if-from-gap.false)

pub returns-else-from-gap-clause-gaps : goal.returns-else-from-gap-clause-gaps
returns-else-from-gap-clause-gaps c =
    subst (AreGaps 1) (sym c.remove.ensures.items) (whole_sound c.args.gaps.now.items c.args.i _ c.requires.gaps c.requires.head.within c.index-gap.ensures)
