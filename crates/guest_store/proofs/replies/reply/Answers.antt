use Rattle.std.proofs.Common.{refl, ap, Err}
use Rattle.fuse_request.specs.Act.{asked}
use Rattle.fuse_guest.specs.declared.fault.TalkFault.TheVariants.{Ended}
use Rattle.guest_talk.specs.Answered.{said_by}
use Rattle.guest_store.specs.Keeping.{store_of}
use Rattle.guest_store.specs.inner.Acting.{reply_end}
use Rattle.guest_store.proofs.Acts.{given_up, replied}
use Rattle.guest_store.proofs.replies.reply.Goals as goal

pub returns-in-Ok-Answered : goal.returns-in-Ok-Answered
returns-in-Ok-Answered g c =
    let tell = store_of g.S.Store g.R.Read.remaining g.W.Write.contents in
    let G = g.G.Guested.GUEST in
    let d = record c.ask.new.store { pairs = record c.ask.new.store.pairs { conn = c.take_answer.new.conn } } in
    replied G c.args.deaths (asked c.args.request.now) c.args.now (tell c.args.store.now) (tell c.ask.new.store) c.in-Ok-Answered.field-0 (said_by c.in-Ok-Answered.answer) (tell d)
    c.take_answer.result (ap reply_end c.in-Ok-Answered.field-0-is) c.in-Ok-Answered.ensures (c.take_answer.ensures (tell c.ask.new.store).talk)

pub returns-in-Ok-GivenUp : goal.returns-in-Ok-GivenUp
returns-in-Ok-GivenUp g c =
    let tell = store_of g.S.Store g.R.Read.remaining g.W.Write.contents in
    let G = g.G.Guested.GUEST in
    given_up G c.args.deaths (asked c.args.request.now) c.args.now (tell c.args.store.now) (tell c.ask.new.store) c.in-Ok-GivenUp.field-0 (Err Ended) c.refusal.result (ap reply_end c.in-Ok-GivenUp.field-0-is)
    (λ s. (refl, c.refusal.ensures)) c.in-Ok-GivenUp.ensures
