use Rattle.guest_talk.specs.Answered.{said_by}
use Rattle.guest_talk.specs.Asking.{ask_for}
use Rattle.guest_talk.specs.Showing.{ShownBy}
use Rattle.guest_talk.specs.TalkState.{talk_told}
use Rattle.guest_talk.specs.inner.Turning.{asking_by}
use Rattle.guest_talk.proofs.Outcomes.{clauses}
use Rattle.guest_talk.proofs.talk.Talk.ask.Goals as goal

pub returns-clause-ok : goal.returns-clause-ok
returns-clause-ok g c =
    let all = clauses (talk_told g.R.Read.remaining g.W.Write.contents c.args.self.now) (talk_told g.R.Read.remaining g.W.Write.contents c.converse.new.self)
    (asking_by (ask_for c.args.request.now c.args.now c.args.count)
    (ShownBy g.P.PairSource.shows g.P.PairSource.is_honest c.args.pairs.now c.converse.new.pairs) (g.P.PairSource.may_answer c.args.pairs.now)
    (g.P.PairSource.looks c.args.pairs.now c.converse.new.pairs) (g.P.PairSource.fails c.args.pairs.now c.converse.new.pairs))
    said_by c.converse.result (record { ok = c.converse.ensures.ok; err = c.converse.ensures.err }) in
    all.ok

pub returns-clause-guest : goal.returns-clause-guest
returns-clause-guest g c =
    let all = clauses (talk_told g.R.Read.remaining g.W.Write.contents c.args.self.now) (talk_told g.R.Read.remaining g.W.Write.contents c.converse.new.self)
    (asking_by (ask_for c.args.request.now c.args.now c.args.count)
    (ShownBy g.P.PairSource.shows g.P.PairSource.is_honest c.args.pairs.now c.converse.new.pairs) (g.P.PairSource.may_answer c.args.pairs.now)
    (g.P.PairSource.looks c.args.pairs.now c.converse.new.pairs) (g.P.PairSource.fails c.args.pairs.now c.converse.new.pairs))
    said_by c.converse.result (record { ok = c.converse.ensures.ok; err = c.converse.ensures.err }) in
    all.guest

pub returns-clause-store : goal.returns-clause-store
returns-clause-store g c =
    let all = clauses (talk_told g.R.Read.remaining g.W.Write.contents c.args.self.now) (talk_told g.R.Read.remaining g.W.Write.contents c.converse.new.self)
    (asking_by (ask_for c.args.request.now c.args.now c.args.count)
    (ShownBy g.P.PairSource.shows g.P.PairSource.is_honest c.args.pairs.now c.converse.new.pairs) (g.P.PairSource.may_answer c.args.pairs.now)
    (g.P.PairSource.looks c.args.pairs.now c.converse.new.pairs) (g.P.PairSource.fails c.args.pairs.now c.converse.new.pairs))
    said_by c.converse.result (record { ok = c.converse.ensures.ok; err = c.converse.ensures.err }) in
    all.store

pub returns-clause-unsayable : goal.returns-clause-unsayable
returns-clause-unsayable g c =
    let all = clauses (talk_told g.R.Read.remaining g.W.Write.contents c.args.self.now) (talk_told g.R.Read.remaining g.W.Write.contents c.converse.new.self)
    (asking_by (ask_for c.args.request.now c.args.now c.args.count)
    (ShownBy g.P.PairSource.shows g.P.PairSource.is_honest c.args.pairs.now c.converse.new.pairs) (g.P.PairSource.may_answer c.args.pairs.now)
    (g.P.PairSource.looks c.args.pairs.now c.converse.new.pairs) (g.P.PairSource.fails c.args.pairs.now c.converse.new.pairs))
    said_by c.converse.result (record { ok = c.converse.ensures.ok; err = c.converse.ensures.err }) in
    all.unsayable

pub returns-clause-looks : goal.returns-clause-looks
returns-clause-looks g c =
    let all = clauses (talk_told g.R.Read.remaining g.W.Write.contents c.args.self.now) (talk_told g.R.Read.remaining g.W.Write.contents c.converse.new.self)
    (asking_by (ask_for c.args.request.now c.args.now c.args.count)
    (ShownBy g.P.PairSource.shows g.P.PairSource.is_honest c.args.pairs.now c.converse.new.pairs) (g.P.PairSource.may_answer c.args.pairs.now)
    (g.P.PairSource.looks c.args.pairs.now c.converse.new.pairs) (g.P.PairSource.fails c.args.pairs.now c.converse.new.pairs))
    said_by c.converse.result (record { ok = c.converse.ensures.ok; err = c.converse.ensures.err }) in
    all.looks

pub returns-clause-fails : goal.returns-clause-fails
returns-clause-fails g c =
    let all = clauses (talk_told g.R.Read.remaining g.W.Write.contents c.args.self.now) (talk_told g.R.Read.remaining g.W.Write.contents c.converse.new.self)
    (asking_by (ask_for c.args.request.now c.args.now c.args.count)
    (ShownBy g.P.PairSource.shows g.P.PairSource.is_honest c.args.pairs.now c.converse.new.pairs) (g.P.PairSource.may_answer c.args.pairs.now)
    (g.P.PairSource.looks c.args.pairs.now c.converse.new.pairs) (g.P.PairSource.fails c.args.pairs.now c.converse.new.pairs))
    said_by c.converse.result (record { ok = c.converse.ensures.ok; err = c.converse.ensures.err }) in
    all.fails

pub returns-clause-grows : goal.returns-clause-grows
returns-clause-grows g c =
    let all = clauses (talk_told g.R.Read.remaining g.W.Write.contents c.args.self.now) (talk_told g.R.Read.remaining g.W.Write.contents c.converse.new.self)
    (asking_by (ask_for c.args.request.now c.args.now c.args.count)
    (ShownBy g.P.PairSource.shows g.P.PairSource.is_honest c.args.pairs.now c.converse.new.pairs) (g.P.PairSource.may_answer c.args.pairs.now)
    (g.P.PairSource.looks c.args.pairs.now c.converse.new.pairs) (g.P.PairSource.fails c.args.pairs.now c.converse.new.pairs))
    said_by c.converse.result (record { ok = c.converse.ensures.ok; err = c.converse.ensures.err }) in
    all.grows

pub returns-clause-ready : goal.returns-clause-ready
returns-clause-ready g c =
    let all = clauses (talk_told g.R.Read.remaining g.W.Write.contents c.args.self.now) (talk_told g.R.Read.remaining g.W.Write.contents c.converse.new.self)
    (asking_by (ask_for c.args.request.now c.args.now c.args.count)
    (ShownBy g.P.PairSource.shows g.P.PairSource.is_honest c.args.pairs.now c.converse.new.pairs) (g.P.PairSource.may_answer c.args.pairs.now)
    (g.P.PairSource.looks c.args.pairs.now c.converse.new.pairs) (g.P.PairSource.fails c.args.pairs.now c.converse.new.pairs))
    said_by c.converse.result (record { ok = c.converse.ensures.ok; err = c.converse.ensures.err }) in
    all.ready
