use Rattle.std.proofs.Common.{Err, sym, ap, subst, arith, ◌∙◌}
use Rattle.fuse_request.specs.Act.{asked}
use Rattle.guest_store.specs.declared.asking.Reply.TheVariants.{Answered}
use Rattle.guest_store.specs.declared.asking.Reply.{Reply}
use Rattle.guest_store.specs.Keeping.{store_of}
use Rattle.guest_store.specs.StoreState.{StoreState}
use Rattle.guest_store.specs.inner.Acting.{asking}
use Rattle.guest_store.specs.inner.Stepping.{Steps}
use Rattle.guest_talk.specs.Asking.{ask_for}
use Rattle.guest_store.specs.Asks.{deaths_before}
use Rattle.guest_store.proofs.Asked.{was_asked}
use Rattle.guest_store.proofs.Acts.{asked_not, asked_so, same_store}
use Rattle.guest_store.proofs.asking.ask.Goals as goal

pub returns-in-Ok-ask : goal.returns-in-Ok-ask
returns-in-Ok-ask g c =
    let ends = c.in-Ok-ask.ensures.ok in
    let counted = c.deaths_of-count.ensures ∙ ap (deaths_before c.args.deaths) c.of-id.ensures in
    asked_so c.pair_steps_fit.ensures g.G.Guested.GUEST c.args.deaths (asked c.args.request.now) c.args.now _ _
    (Answered c.in-Ok-ask.answer) c.in-Ok-ask.ensures.looks
    (record { ready = c.in-Ok-ask.ensures.ready; more = c.in-Ok-ask.ensures.grows.0; grows = c.in-Ok-ask.ensures.grows.1 })
    (λ ps same agrees shown. ends.reply g.G.Guested.GUEST ps same agrees shown)
    (λ ps shown. was_asked _ _ (ask_for c.args.request.now c.args.now c.deaths_of-count.result) _ _ _ ps counted (omega (arith, c.if-count-ge-MOST_DEATHS.false)) shown ends)

pub returns-in-Err-ask : goal.returns-in-Err-ask
returns-in-Err-ask g c =
    let ends = c.end_by-in-Err-ask.ensures in
    let was = c.in-Err-ask.ensures in
    let counted = c.deaths_of-count.ensures ∙ ap (deaths_before c.args.deaths) c.of-id.ensures in
    let G = g.G.Guested.GUEST in
    let tell = store_of g.S.Store g.R.Read.remaining g.W.Write.contents in
    let mid = record c.args.store.now { pairs = c.ask.new.pairs; talk = c.ask.new.self } in
    subst (λ (s : StoreState). Steps {A = Reply} G (asking G c.args.deaths (asked c.args.request.now) c.args.now) (tell c.args.store.now) s (Err c.end_by-in-Err-ask.result))
    (sym (same_store g.S.Store g.R.Read.remaining g.W.Write.contents c.end_by-in-Err-ask.new.store mid ends.pairs ends.talk))
    (asked_not c.pair_steps_fit.ensures G c.args.deaths (asked c.args.request.now) c.args.now (tell c.args.store.now) (tell mid)
    c.in-Err-ask.fault c.end_by-in-Err-ask.result ends.fault (record { ready = was.ready; more = was.grows.0; grows = was.grows.1 }) was.fails was.store
    (λ high. absurd (omega (arith, counted, high, c.if-count-ge-MOST_DEATHS.false))))
