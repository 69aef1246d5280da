use Rattle.std.proofs.Common.{rules}
use Rattle.fuse_request.specs.Act.{act}
use Rattle.guest_talk.specs.Answered.{incoming_frame}
use Rattle.guest_talk.specs.Showing.{ShownBy}
use Rattle.guest_talk.specs.TalkState.{talk_told}
use Rattle.guest_talk.specs.inner.Turning.{due_of}
use Rattle.guest_talk.proofs.Asked.{said_well}
use Rattle.guest_talk.proofs.OneTurn.{heard_none, said_wrong, told_none, told_one}
use Rattle.guest_talk.proofs.talk.Talk.turn.Goals as goal

pub returns-in_err-came-clause-err : goal.returns-in_err-came-clause-err
returns-in_err-came-clause-err g c =
    let none = heard_none (talk_told g.R.Read.remaining g.W.Write.contents c.args.self.now) (talk_told g.R.Read.remaining g.W.Write.contents c.hear.new.self)
    (due_of (act c.args.op.now) (ShownBy g.P.PairSource.shows g.P.PairSource.is_honest c.args.pairs.now c.args.pairs.now)
    (g.P.PairSource.may_answer c.args.pairs.now))
    c.in_err-came.field-0.0 c.in_err-came.ensures.err in
    search (rules, none)

pub returns-in-Err-clause-err : goal.returns-in-Err-clause-err
returns-in-Err-clause-err g c =
    said_wrong (talk_told g.R.Read.remaining g.W.Write.contents c.args.self.now) (talk_told g.R.Read.remaining g.W.Write.contents c.hear.new.self)
    (due_of (act c.args.op.now) (ShownBy g.P.PairSource.shows g.P.PairSource.is_honest c.args.pairs.now c.args.pairs.now)
    (g.P.PairSource.may_answer c.args.pairs.now))
    (incoming_frame c.in_ok-came.came) c.in-Err.fault c.in_ok-came.ensures.ok c.in-Err.ensures.err

pub returns-in-Ok-Answers-clause-ok : goal.returns-in-Ok-Answers-clause-ok
returns-in-Ok-Answers-clause-ok g c =
    said_well (talk_told g.R.Read.remaining g.W.Write.contents c.args.self.now) (talk_told g.R.Read.remaining g.W.Write.contents c.hear.new.self) (act c.args.op.now)
    (incoming_frame c.in_ok-came.came) _ c.in_ok-came.ensures.ok (rw c.in-Ok-Answers.field-0-is at c.in-Ok-Answers.ensures.ok) c.of.ensures

pub returns-in_err-tell-in-Ok-Asks-clause-err : goal.returns-in_err-tell-in-Ok-Asks-clause-err
returns-in_err-tell-in-Ok-Asks-clause-err g c =
    let none = told_none (talk_told g.R.Read.remaining g.W.Write.contents c.args.self.now) (talk_told g.R.Read.remaining g.W.Write.contents c.hear.new.self) (talk_told g.R.Read.remaining g.W.Write.contents c.tell.new.self)
    (due_of (act c.args.op.now) (ShownBy g.P.PairSource.shows g.P.PairSource.is_honest c.args.pairs.now c.tell.new.pairs)
    (g.P.PairSource.may_answer c.args.pairs.now))
    (incoming_frame c.in_ok-came.came) c.in_err-tell-in-Ok-Asks.field-0.0 c.in_ok-came.ensures.ok
    (rw c.in-Ok-Asks.field-0-is at c.in-Ok-Asks.ensures.ok) c.in_err-tell-in-Ok-Asks.ensures.err in
    search (rules, none)

pub returns-in_ok-tell-in-Ok-Asks-clause-ok : goal.returns-in_ok-tell-in-Ok-Asks-clause-ok
returns-in_ok-tell-in-Ok-Asks-clause-ok g c =
    told_one (talk_told g.R.Read.remaining g.W.Write.contents c.args.self.now) (talk_told g.R.Read.remaining g.W.Write.contents c.hear.new.self) (talk_told g.R.Read.remaining g.W.Write.contents c.tell.new.self)
    (ShownBy g.P.PairSource.shows g.P.PairSource.is_honest c.args.pairs.now c.tell.new.pairs) (incoming_frame c.in_ok-came.came)
    c.in_ok-came.ensures.ok (rw c.in-Ok-Asks.field-0-is at c.in-Ok-Asks.ensures.ok) c.in_ok-tell-in-Ok-Asks.ensures.ok
