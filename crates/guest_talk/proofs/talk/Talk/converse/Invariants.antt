use Rattle.guest_talk.specs.Asking.{ask_for}
use Rattle.guest_talk.specs.Showing.{ShownBy}
use Rattle.guest_talk.specs.TalkState.{talk_told}
use Rattle.guest_talk.specs.inner.Turns.{Going}
use Rattle.guest_talk.proofs.talk.Talk.converse.Given as goal

abbrev pub invariant-loop-trip : goal.invariant-loop-trip
invariant-loop-trip g l = record {
  going : Going (talk_told g.R.Read.remaining g.W.Write.contents l.fn.self) (talk_told g.R.Read.remaining g.W.Write.contents l.self)
      (ask_for l.request l.fn.now l.count) (ShownBy g.P.PairSource.shows g.P.PairSource.is_honest l.fn.pairs l.pairs) l._trip;
  looks : g.P.PairSource.looks l.fn.pairs l.pairs;
}
