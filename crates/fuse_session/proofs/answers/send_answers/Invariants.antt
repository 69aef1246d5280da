use Rattle.std.proofs.Common.{◌≤◌, length, take, drop}
use Rattle.fuse_keeper.specs.Group.{ids_of}
use Rattle.fuse_session.specs.inner.Group.{wires, answers_in, AreEnough}
use Rattle.fuse_session.specs.inner.Sending.{sending}
use Rattle.fuse_session.proofs.Sends.{SentFirst}
use Rattle.fuse_session.proofs.answers.send_answers.Given as goal

abbrev pub invariant-loop-place : goal.invariant-loop-place
invariant-loop-place g l = record {
  next : l.next ≤ length l.dones;
  enough : AreEnough g.service (drop l.place l.messages) (drop l.next (answers_in l.dones));
  sent : SentFirst g.service (sending (g.P.Port.became l.fn.port l.port) (g.P.Port.told l.fn.port) (g.P.Port.told l.port) (ids_of l.fn.pending.items) (ids_of l.pending.items)) (take l.place l.messages) (wires g.service l.messages (answers_in l.dones)) (wires g.service (drop l.place l.messages) (drop l.next (answers_in l.dones)));
}

abbrev pub ghost-send_next : goal.ghost-send_next
ghost-send_next g a = g.service
