use Rattle.std.proofs.Common.{◌≡◌, rules, arith}
use Rattle.guest_talk.specs.Answered.{said_by}
use Rattle.guest_talk.specs.Asking.{ask_for}
use Rattle.guest_talk.specs.Showing.{ShownBy}
use Rattle.guest_talk.specs.TalkState.{talk_told}
use Rattle.guest_talk.proofs.Looks.{source_of}
use Rattle.guest_talk.proofs.OneTurn.{begun_none, failed_turn, answered_turn, went_on, last_answered, last_failed}
use Rattle.guest_talk.proofs.Steps.{begun}
use Rattle.guest_talk.proofs.talk.Talk.converse.Goals as goal

pub returns-in_err-begin-clause-err : goal.returns-in_err-begin-clause-err
returns-in_err-begin-clause-err g c =
    let none = begun_none c.has_reply.ensures
    (source_of g.P.PairSource.shows g.P.PairSource.is_honest g.P.PairSource.may_answer g.P.PairSource.looks g.P.PairSource.fails
    (g.met.P.PairSource.still) (g.met.P.PairSource.and_then) (g.met.P.PairSource.and_fails) (g.met.P.PairSource.or_less)
    (g.met.P.PairSource.was_honest) (g.met.P.PairSource.kept) (g.met.P.PairSource.may_stay))
    (talk_told g.R.Read.remaining g.W.Write.contents c.args.self.now) (talk_told g.R.Read.remaining g.W.Write.contents c.begin.new.self) (ask_for c.args.request.now c.args.now c.args.count) c.args.pairs.now
    c.in_err-begin.field-0.0 c.in_err-begin.ensures.err in
    search (rules, none)

pub loop-trip-init : goal.loop-trip-init
loop-trip-init g c = record {
  going = begun (talk_told g.R.Read.remaining g.W.Write.contents c.args.self.now) (talk_told g.R.Read.remaining g.W.Write.contents c.begin.new.self)
      (ask_for c.args.request.now c.args.now c.args.count) (ShownBy g.P.PairSource.shows g.P.PairSource.is_honest c.args.pairs.now c.args.pairs.now) c.in_ok-begin.ensures.ok;
  looks = (g.met.P.PairSource.still) c.args.pairs.now;
}

pub returns-in_err-answer-clause-err : goal.returns-in_err-answer-clause-err
returns-in_err-answer-clause-err g c =
    let none = failed_turn c.has_reply.ensures
    (source_of g.P.PairSource.shows g.P.PairSource.is_honest g.P.PairSource.may_answer g.P.PairSource.looks g.P.PairSource.fails
    (g.met.P.PairSource.still) (g.met.P.PairSource.and_then) (g.met.P.PairSource.and_fails) (g.met.P.PairSource.or_less)
    (g.met.P.PairSource.was_honest) (g.met.P.PairSource.kept) (g.met.P.PairSource.may_stay))
    (talk_told g.R.Read.remaining g.W.Write.contents c.args.self.now) (talk_told g.R.Read.remaining g.W.Write.contents c.loop-trip.self) (talk_told g.R.Read.remaining g.W.Write.contents c.turn.new.self)
    (ask_for c.args.request.now c.args.now c.args.count) c.args.pairs.now c.loop-trip.pairs c.turn.new.pairs c.loop-trip._trip c.in_err-answer.field-0.0
    c.loop-trip.invariant.going (omega arith) c.loop-trip.invariant.looks c.in_err-answer.ensures.fails c.in_err-answer.ensures.err in
    search (rules, none)

pub returns-in-Some-clause-ok : goal.returns-in-Some-clause-ok
returns-in-Some-clause-ok g c =
    answered_turn c.has_reply.ensures
    (source_of g.P.PairSource.shows g.P.PairSource.is_honest g.P.PairSource.may_answer g.P.PairSource.looks g.P.PairSource.fails
    (g.met.P.PairSource.still) (g.met.P.PairSource.and_then) (g.met.P.PairSource.and_fails) (g.met.P.PairSource.or_less)
    (g.met.P.PairSource.was_honest) (g.met.P.PairSource.kept) (g.met.P.PairSource.may_stay))
    (talk_told g.R.Read.remaining g.W.Write.contents c.args.self.now) (talk_told g.R.Read.remaining g.W.Write.contents c.loop-trip.self) (talk_told g.R.Read.remaining g.W.Write.contents c.turn.new.self)
    (ask_for c.args.request.now c.args.now c.args.count) c.args.pairs.now c.loop-trip.pairs c.turn.new.pairs c.loop-trip._trip (said_by c.in-Some.answer)
    c.loop-trip.invariant.going (omega arith) c.loop-trip.invariant.looks c.in_ok-answer.ensures.looks (rw c.in-Some.is at c.in_ok-answer.ensures.ok)

pub loop-trip-preserved : goal.loop-trip-preserved
loop-trip-preserved g c = record {
  going = went_on
      (source_of g.P.PairSource.shows g.P.PairSource.is_honest g.P.PairSource.may_answer g.P.PairSource.looks g.P.PairSource.fails
      (g.met.P.PairSource.still) (g.met.P.PairSource.and_then) (g.met.P.PairSource.and_fails) (g.met.P.PairSource.or_less)
      (g.met.P.PairSource.was_honest) (g.met.P.PairSource.kept) (g.met.P.PairSource.may_stay))
      (talk_told g.R.Read.remaining g.W.Write.contents c.args.self.now) (talk_told g.R.Read.remaining g.W.Write.contents c.loop-trip.self) (talk_told g.R.Read.remaining g.W.Write.contents c.turn.new.self)
      (ask_for c.args.request.now c.args.now c.args.count) c.args.pairs.now c.loop-trip.pairs c.turn.new.pairs c.loop-trip._trip
      c.loop-trip.invariant.going c.loop-trip.invariant.looks c.in_ok-answer.ensures.looks (rw c.in_default.is at c.in_ok-answer.ensures.ok);
  looks = (g.met.P.PairSource.and_then) c.args.pairs.now c.loop-trip.pairs c.turn.new.pairs c.loop-trip.invariant.looks c.in_ok-answer.ensures.looks;
}

pub returns-clause-ok : goal.returns-clause-ok
returns-clause-ok g c =
    let all : c.loop-trip._trip ≡ 65535 = omega arith in
    last_answered c.has_reply.ensures
    (source_of g.P.PairSource.shows g.P.PairSource.is_honest g.P.PairSource.may_answer g.P.PairSource.looks g.P.PairSource.fails
    (g.met.P.PairSource.still) (g.met.P.PairSource.and_then) (g.met.P.PairSource.and_fails) (g.met.P.PairSource.or_less)
    (g.met.P.PairSource.was_honest) (g.met.P.PairSource.kept) (g.met.P.PairSource.may_stay))
    (talk_told g.R.Read.remaining g.W.Write.contents c.args.self.now) (talk_told g.R.Read.remaining g.W.Write.contents c.loop-trip.self) (talk_told g.R.Read.remaining g.W.Write.contents c.last_turn.new.self)
    (ask_for c.args.request.now c.args.now c.args.count) c.args.pairs.now c.loop-trip.pairs said_by c.last_turn.result
    (rw all at c.loop-trip.invariant.going) c.loop-trip.invariant.looks c.last_turn.ensures.ok

pub returns-clause-err : goal.returns-clause-err
returns-clause-err g c =
    let all : c.loop-trip._trip ≡ 65535 = omega arith in
    last_failed c.has_reply.ensures
    (source_of g.P.PairSource.shows g.P.PairSource.is_honest g.P.PairSource.may_answer g.P.PairSource.looks g.P.PairSource.fails
    (g.met.P.PairSource.still) (g.met.P.PairSource.and_then) (g.met.P.PairSource.and_fails) (g.met.P.PairSource.or_less)
    (g.met.P.PairSource.was_honest) (g.met.P.PairSource.kept) (g.met.P.PairSource.may_stay))
    (talk_told g.R.Read.remaining g.W.Write.contents c.args.self.now) (talk_told g.R.Read.remaining g.W.Write.contents c.loop-trip.self) (talk_told g.R.Read.remaining g.W.Write.contents c.last_turn.new.self)
    (ask_for c.args.request.now c.args.now c.args.count) c.args.pairs.now c.loop-trip.pairs c.last_turn.result
    (rw all at c.loop-trip.invariant.going) c.loop-trip.invariant.looks c.last_turn.ensures.err
