use Rattle.std.proofs.Common.{rules}
use Rattle.guest_talk.specs.Asking.{ask_for}
use Rattle.guest_talk.specs.TalkState.{talk_told}
use Rattle.guest_talk.proofs.GivenUp.{gives_up}
use Rattle.guest_talk.proofs.talk.Talk.give_up.Goals as goal

pub returns-clause-ok : goal.returns-clause-ok
returns-clause-ok g c =
    gives_up c.has_reply.ensures (talk_told g.R.Read.remaining g.W.Write.contents c.args.self.now) _ (ask_for c.args.request.now c.args.now c.args.count)
    (search rules) c.note_request.ensures
