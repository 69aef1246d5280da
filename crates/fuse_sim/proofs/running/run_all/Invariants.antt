use Rattle.std.proofs.Common.{◌≡◌, ◌≤◌, ◌-◌, length, take, drop, [], IsSomeAnd, IfSome, false}
use Rattle.fuse_keeper.specs.Group.{ids_of}
use Rattle.fuse_sim.specs.Driving.{told_in, told_for, Opened, StoodBefore, KeepsMedium, performed_in}
use Rattle.fuse_sim.specs.HandedOn.{performances}
use Rattle.fuse_sim.specs.inner.Running.{stage, Moved}
use Rattle.fuse_sim.proofs.running.run_all.Given as goal

abbrev pub invariant-loop-at : goal.invariant-loop-at
invariant-loop-at g l = record {
  within : l.at ≤ length l.events;
  moved : Moved (stage (told_in (told_for g.service g.K.Keeper.told) l.fn.keeper) [] []) (stage (told_in (told_for g.service g.K.Keeper.told) l.keeper) (ids_of l.pending.items) l.outcomes.items) (take l.at l.events) (drop l.at l.events);
  few : length l.pending.items ≤ 16;
  going : IsSomeAnd l.keeper (λ k. (g.K.Keeper.told k).has_failed ≡ false);
  opened : Opened (told_for g.service g.K.Keeper.told) g.K.Keeper.became l.fn.keeper l.keeper (take l.at l.events);
  honest : (told_in (told_for g.service g.K.Keeper.told) l.keeper).is_honest → (told_in (told_for g.service g.K.Keeper.told) l.fn.keeper).is_honest;
  stood : StoodBefore (told_for g.service g.K.Keeper.told) g.K.Keeper.became l.fn.keeper l.keeper (take l.at l.events);
  asked : performed_in g.K.Keeper.performed l.fn.keeper l.keeper (performances g.service (take l.at l.events));
  serves : IfSome l.keeper (λ k. (g.K.Keeper.told k).service ≡ g.service);
  medium : KeepsMedium (told_for g.service g.K.Keeper.told) l.fn.keeper l.keeper;
}

abbrev pub decreases-loop-at : goal.decreases-loop-at
decreases-loop-at g l = length l.events - l.at

abbrev pub ghost-run_next : goal.ghost-run_next
ghost-run_next g a = g.service
