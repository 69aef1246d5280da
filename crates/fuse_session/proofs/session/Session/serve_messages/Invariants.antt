use Rattle.std.proofs.Common.{◌≡◌, ◌≤◌, ◌-◌, length, take, drop, true, false}
use Rattle.fuse_session.specs.Starts.{KeptRecords}
use Rattle.fuse_session.specs.Deeds.{Did}
use Rattle.fuse_session.specs.Grouping.{groups_of}
use Rattle.fuse_session.specs.inner.Turn.{Mute, Grouped}
use Rattle.fuse_keeper.specs.KeeperState.{of_service, IsFirm, AnswersNoMore}
use Rattle.fuse_keeper.specs.Group.{ids_of}
use Rattle.fuse_session.specs.inner.Loans.{SameLoans}
use Rattle.fuse_session.specs.Port.{IsQuiet}
use Rattle.fuse_session.specs.inner.Moves.{HandsOn}
use Rattle.fuse_session.specs.inner.Counting.{IsBelow}
use Rattle.fuse_session.specs.Passage.{passage}
use Rattle.fuse_session.specs.Serving.{TookTurn}
use Rattle.fuse_session.proofs.session.Session.serve_messages.Given as goal

abbrev pub invariant-loop-at : goal.invariant-loop-at
invariant-loop-at g l = record {
  within : l.at ≤ length l.messages;
  loans : SameLoans l.fn.self l.self;
  turned : TookTurn (passage (of_service g.service (g.K.Keeper.told l.fn.self.keeper.now)) (of_service g.service (g.K.Keeper.told l.self.keeper.now))
      (g.P.Port.told l.fn.self.port.now) (g.P.Port.told l.self.port.now) (Mute (Did (g.C.Clock.gave l.fn.self.clock.now l.self.clock.now)
      (Grouped g.service l.messages (groups_of g.service (drop l.at l.messages)) (g.K.Keeper.performed l.fn.self.keeper.now l.self.keeper.now))
      (g.P.Port.became l.fn.self.port.now l.self.port.now))))
      (ids_of l.fn.self.pending.now.items) (ids_of l.self.pending.now.items) (take l.at l.messages) true l.counts;
  below : IsBelow l.counts l.at;
  few : length l.self.pending.now.items ≤ 16;
  going : (g.K.Keeper.told l.self.keeper.now).has_failed ≡ false;
  firm : (g.K.Keeper.told l.self.keeper.now).is_honest → IsFirm (g.K.Keeper.told l.fn.self.keeper.now)
      → IsFirm (g.K.Keeper.told l.self.keeper.now);
  more : (g.P.Port.told l.fn.self.port.now).confirms ≡ true → (g.K.Keeper.told l.self.keeper.now).is_honest → (before : KeptRecords)
      → HandsOn before (of_service g.service (g.K.Keeper.told l.fn.self.keeper.now)) (ids_of l.fn.self.pending.now.items)
      → HandsOn before (of_service g.service (g.K.Keeper.told l.self.keeper.now)) (ids_of l.self.pending.now.items);
  failures : (g.P.Port.told l.self.port.now).failures ≡ (g.P.Port.told l.fn.self.port.now).failures;
  honest : (g.K.Keeper.told l.self.keeper.now).is_honest → (g.K.Keeper.told l.fn.self.keeper.now).is_honest;
  serves : (g.K.Keeper.told l.self.keeper.now).service ≡ g.service;
  unopened : g.K.Keeper.became l.fn.self.keeper.now l.self.keeper.now 0;
  quiet : IsQuiet (g.P.Port.told l.fn.self.port.now) (g.P.Port.told l.self.port.now);
  may : AnswersNoMore (g.K.Keeper.told l.fn.self.keeper.now) (g.K.Keeper.told l.self.keeper.now);
  medium : (g.K.Keeper.told l.fn.self.keeper.now).in_memory → (g.K.Keeper.told l.self.keeper.now).in_memory;
}

abbrev pub decreases-loop-at : goal.decreases-loop-at
decreases-loop-at g l = length l.messages - l.at

abbrev pub ghost-serve_group : goal.ghost-serve_group
ghost-serve_group g a = g.service
