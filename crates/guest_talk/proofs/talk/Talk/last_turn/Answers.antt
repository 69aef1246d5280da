use Rattle.std.proofs.Common.{rules}
use Rattle.fuse_request.specs.Act.{act}
use Rattle.guest_talk.specs.Answered.{incoming_frame}
use Rattle.guest_talk.specs.TalkState.{talk_told}
use Rattle.guest_talk.proofs.Asked.{ill_heard, wrong_said, asks_too_much}
use Rattle.guest_talk.proofs.talk.Talk.last_turn.Goals as goal

pub returns-in_err-came-clause-err : goal.returns-in_err-came-clause-err
returns-in_err-came-clause-err g c =
    let ill = ill_heard (talk_told g.R.Read.remaining g.W.Write.contents c.args.self.now) (talk_told g.R.Read.remaining g.W.Write.contents c.hear.new.self)
    (act c.args.op.now) c.in_err-came.field-0.0 c.in_err-came.ensures.err in
    search (rules, ill)

pub returns-in-Err-clause-err : goal.returns-in-Err-clause-err
returns-in-Err-clause-err g c =
    wrong_said _ _ (act c.args.op.now) (incoming_frame c.in_ok-came.came) c.in-Err.fault c.in_ok-came.ensures.ok c.in-Err.ensures.err

pub returns-in-Ok-Asks-clause-err : goal.returns-in-Ok-Asks-clause-err
returns-in-Ok-Asks-clause-err g c =
    asks_too_much _ _ (act c.args.op.now) (incoming_frame c.in_ok-came.came) c.in_ok-came.ensures.ok (rw c.in-Ok-Asks.field-0-is at c.in-Ok-Asks.ensures.ok)
