use Rattle.std.proofs.Common.{length}
use Rattle.fuse_session.proofs.Bytes.{SentPrefix}
use Rattle.fuse_session.proofs.Transcripts.{HandsSome}
use Rattle.fuse_session.proofs.port.send_whole.Given as goal

abbrev pub invariant-loop-rest : goal.invariant-loop-rest
invariant-loop-rest g l = record {
  sent : SentPrefix (g.P.Port.told l.fn.port) (g.P.Port.told l.port) l.bytes l.rest;
  same : HandsSome (g.P.Port.became l.fn.port l.port) l.bytes l.rest;
}

abbrev pub decreases-loop-rest : goal.decreases-loop-rest
decreases-loop-rest g l = length l.rest
