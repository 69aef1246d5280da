use Rattle.std.proofs.Common.{arith}
use Rattle.fuse_keeper.specs.Model.{serving}
use Rattle.fuse_sim.proofs.Gathered.{gathers_next, ends_here}
use Rattle.fuse_sim.proofs.group.gather.Goals as goal

pub loop-event-preserved : goal.loop-event-preserved
loop-event-preserved g c =
    let old = c.loop-event.group in
    let new = c.take_in.new.group in
    record {
      within = omega (arith, c.loop-event-test.true);
      gathers = gathers_next (serving g.service g.K.Keeper.model) c.args.events.now c.loop-event.event-index c.event-item.result old new
          c.loop-event-test.true c.event-item.is c.loop-event.invariant.gathers (c.in_ok-take_in.ensures.joins c.if-not-branch.false);
    }

pub returns-then-not-branch-clause-stops : goal.returns-then-not-branch-clause-stops
returns-then-not-branch-clause-stops g c =
    let old = c.loop-event.group in
    let both = c.in_ok-take_in.ensures.ends c.if-not-branch.true in
    rw both.0 (ends_here (serving g.service g.K.Keeper.model) c.args.events.now c.loop-event.event-index c.event-item.result old
    c.loop-event-test.true c.event-item.is c.loop-event.invariant.gathers both.1)
