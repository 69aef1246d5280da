use Rattle.std.proofs.Common.{sym, ap, subst, ◌∙◌}
use Rattle.std.proofs.lemmas.Result.{IfOk-weaker}
use Rattle.fuse_keeper.specs.Group.{IsPerformed, entry_of}
use Rattle.fuse_keeper.specs.History.{is_seen}
use Rattle.fuse_guest.specs.Service.{is_seen_by, service_of}
use Rattle.guest_store.specs.Keeping.{store_of}
use Rattle.guest_store.proofs.Acts.{took_kept, took_seen}
use Rattle.guest_store.proofs.request.take_one.Goals as goal

pub returns-then-is_seen-clause-steps : goal.returns-then-is_seen-clause-steps
returns-then-is_seen-clause-steps g c =
    let tell = store_of g.S.Store g.R.Read.remaining g.W.Write.contents in
    let G = g.G.Guested.GUEST in
    let e = entry_of (c.args.request.now, c.args.now) in
    took_seen G c.args.deaths c.args.lot e (tell c.args.store.now) (tell c.see_one.new.store) c.see_one.result c.guest_is_sound.ensures
    (subst (λ r. IsPerformed (service_of r) e) (sym c.see_one.ensures.steps.spoke.ready) c.requires.performed)
    (ap (λ r. is_seen (service_of r) e) (c.see_one.ensures.steps.spoke.ready ∙ sym c.ready-ready.ensures)
    ∙ ap (is_seen_by c.ready-ready.result) (sym c.opcode.ensures) ∙ sym c.is_seen.ensures ∙ c.if-is_seen.true) c.see_one.ensures.steps

pub returns-else-is_seen-clause-steps : goal.returns-else-is_seen-clause-steps
returns-else-is_seen-clause-steps g c =
    let tell = store_of g.S.Store g.R.Read.remaining g.W.Write.contents in
    let G = g.G.Guested.GUEST in
    let e = entry_of (c.args.request.now, c.args.now) in
    took_kept G c.args.deaths c.args.lot e (tell c.args.store.now) (tell c.keep_one.new.store) c.keep_one.result
    (ap (λ r. is_seen (service_of r) e) (c.keep_one.ensures.steps.spoke.ready ∙ sym c.ready-ready.ensures)
    ∙ ap (is_seen_by c.ready-ready.result) (sym c.opcode.ensures) ∙ sym c.is_seen.ensures ∙ c.if-is_seen.false) c.keep_one.ensures.steps

pub returns-then-is_seen-clause-silent : goal.returns-then-is_seen-clause-silent
returns-then-is_seen-clause-silent g c = IfOk-weaker c.see_one.result _ _ (λ done new is. absurd (let no = sym new ∙ is in cc)) c.see_one.ensures.new

pub returns-else-is_seen-clause-silent : goal.returns-else-is_seen-clause-silent
returns-else-is_seen-clause-silent g c = c.keep_one.ensures.silent
