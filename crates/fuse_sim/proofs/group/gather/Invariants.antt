use Rattle.std.proofs.Common.{◌≤◌, length, take}
use Rattle.fuse_keeper.specs.Model.{serving}
use Rattle.fuse_sim.specs.inner.Running.{GathersEvents}
use Rattle.fuse_sim.proofs.group.gather.Given as goal

abbrev pub invariant-loop-event : goal.invariant-loop-event
invariant-loop-event g l = record {
  within : l.event-index ≤ length l.events;
  gathers : GathersEvents (serving g.service g.K.Keeper.model) (take l.event-index l.events) l.group;
}

abbrev pub ghost-take_in : goal.ghost-take_in
ghost-take_in g a = g.service
