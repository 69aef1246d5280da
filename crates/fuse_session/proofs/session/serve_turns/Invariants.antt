use Rattle.std.proofs.Common.{◌≡◌, ◌≤◌, ◌+◌, ◌*◌, ◌^◌, [], length, true, false}
use Rattle.fuse_request.specs.Framing.{fed_of}
use Rattle.fuse_keeper.specs.KeeperState.{of_service, IsFirm, AnswersNoMore}
use Rattle.fuse_keeper.specs.Group.{ids_of}
use Rattle.fuse_session.specs.inner.Moves.{HandsOn}
use Rattle.fuse_session.specs.inner.Counting.{IsBelow}
use Rattle.fuse_session.specs.inner.Receiving.{IsOpen}
use Rattle.fuse_session.specs.Passage.{passage}
use Rattle.fuse_session.specs.Serving.{nothing_waits, Whole}
use Rattle.fuse_session.specs.inner.Turn.{waits}
use Rattle.fuse_session.specs.Deeds.{Did}
use Rattle.fuse_session.specs.Ends.{EndsNot}
use Rattle.fuse_session.specs.Starts.{KeptRecords}
use Rattle.fuse_session.proofs.Prompting.{Answering}
use Rattle.fuse_session.proofs.session.serve_turns.Given as goal

abbrev pub invariant-loop-turn : goal.invariant-loop-turn
invariant-loop-turn g l = record {
  whole : Whole (passage (of_service g.service (g.K.Keeper.told l.fn.keeper)) (of_service g.service (g.K.Keeper.told l.keeper)) (g.P.Port.told l.fn.port) (g.P.Port.told l.port)
      (Answering (of_service g.service (g.K.Keeper.told l.fn.keeper)) (of_service g.service (g.K.Keeper.told l.keeper))
      (Did (g.C.Clock.gave l.fn.clock l.clock) (g.K.Keeper.performed l.fn.keeper l.keeper) (g.P.Port.became l.fn.port l.port))
      (g.P.Port.told l.fn.port).confirms)) nothing_waits (waits (ids_of l.pending.items) l.framer) l.counts;
  ready : IsOpen l.framer;
  below : IsBelow l.counts (l.turn * 2 ^ 20);
  few : length l.pending.items ≤ 16;
  going : (g.K.Keeper.told l.keeper).has_failed ≡ false;
  firm : (g.K.Keeper.told l.keeper).is_honest → IsFirm (g.K.Keeper.told l.fn.keeper)
      → IsFirm (g.K.Keeper.told l.keeper);
  more : (g.P.Port.told l.fn.port).confirms ≡ true → (g.K.Keeper.told l.keeper).is_honest → (before : KeptRecords) → HandsOn before (of_service g.service (g.K.Keeper.told l.fn.keeper)) []
      → HandsOn before (of_service g.service (g.K.Keeper.told l.keeper)) (ids_of l.pending.items);
  receives : (g.P.Port.told l.port).receives ≡ (g.P.Port.told l.fn.port).receives + l.turn;
  failures : (g.P.Port.told l.port).failures ≡ (g.P.Port.told l.fn.port).failures;
  receive_failures : (g.P.Port.told l.port).receive_failures ≡ (g.P.Port.told l.fn.port).receive_failures;
  not_ended : EndsNot (g.P.Port.told l.fn.port) (g.P.Port.told l.port);
  confirms : (g.P.Port.told l.port).confirms ≡ (g.P.Port.told l.fn.port).confirms;
  fed : fed_of l.framer ≤ l.turn * 135168;
  room : length l.buffer.items ≡ 135168;
  honest : (g.K.Keeper.told l.keeper).is_honest → (g.K.Keeper.told l.fn.keeper).is_honest;
  serves : (g.K.Keeper.told l.keeper).service ≡ g.service;
  unopened : g.K.Keeper.became l.fn.keeper l.keeper 0;
  may : AnswersNoMore (g.K.Keeper.told l.fn.keeper) (g.K.Keeper.told l.keeper);
  medium : (g.K.Keeper.told l.fn.keeper).in_memory → (g.K.Keeper.told l.keeper).in_memory;
}

abbrev pub ghost-one_turn : goal.ghost-one_turn
ghost-one_turn g a = g.service
