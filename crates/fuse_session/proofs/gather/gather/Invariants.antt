use Rattle.std.proofs.Common.{◌≡◌, ◌≤◌, length, take, drop, All, false}
use Rattle.fuse_session.specs.Grouping.{asked_in, groups_of}
use Rattle.fuse_session.proofs.Grouping.{groups_next}
use Rattle.fuse_keeper.specs.Group.{HasId, IsPerformed, entries_of}
use Rattle.fuse_session.specs.inner.Group.{Gathers, classes_in}
use Rattle.fuse_session.proofs.gather.gather.Given as goal

abbrev pub invariant-loop-message : goal.invariant-loop-message
invariant-loop-message g l = record {
  count : length l.classes.items ≡ l.message-index;
  classes : l.classes.items ≡ classes_in g.service (take l.message-index l.messages);
  gathers : Gathers g.service (g.C.Clock.gave l.fn.clock l.clock) (take l.message-index l.messages) l.taken.items false;
  few : length l.taken.items ≤ 16;
  named : All HasId (entries_of l.taken.items);
  kept : All (IsPerformed g.service) (entries_of l.taken.items);
  groups : groups_of g.service l.messages ≡ groups_next g.service (asked_in (entries_of l.taken.items)) (drop l.message-index l.messages);
}

abbrev pub ghost-read_one : goal.ghost-read_one
ghost-read_one g a = g.service
