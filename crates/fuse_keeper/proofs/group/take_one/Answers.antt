use Rattle.std.proofs.Common.{◌∙◌, sym, ap, refl, true, false}
use Rattle.fuse_keeper.specs.Group.{entry_of, ids_of}
use Rattle.fuse_keeper.specs.Stands.{without}
use Rattle.fuse_keeper.specs.Plain.{mapped}
use Rattle.fuse_keeper.specs.inner.Overlay.{over}
use Rattle.fuse_keeper.proofs.Overlays.{took_known, took_new, took_seen, ids_pushed, id_of_kept}
use Rattle.fuse_keeper.proofs.group.take_one.Goals as goal

pub returns-then-sees-clause-took : goal.returns-then-sees-clause-took
returns-then-sees-clause-took g c =
    let base = without (ids_of c.args.settled.now) (mapped c.args.records.now) in
    let V = g.F.FileSystem.model.service in
    let seen = sym (ap V.sees c.opcode.ensures) ∙ sym c.sees.ensures ∙ c.if-sees.true in
    took_seen g.F.FileSystem.model (g.F.FileSystem.held c.args.draft.now.rows) (over c.args.draft.now.added.items base)
    (entry_of (c.args.request.now, c.args.now)) (g.F.FileSystem.held c.act.new.self) (record { answer = c.in_ok-act.field-0; repeated = false })
    seen c.in_ok-act.ensures.acts (c.in_ok-act.ensures.same seen) refl

pub returns-in-Some-clause-took : goal.returns-in-Some-clause-took
returns-in-Some-clause-took g c =
    let base = without (ids_of c.args.settled.now) (mapped c.args.records.now) in
    let V = g.F.FileSystem.model.service in
    let kept = sym (ap V.sees c.opcode.ensures) ∙ sym c.sees.ensures ∙ c.if-sees.false in
    let is = c.in-Some.ensures ∙ ap (λ xs. over xs base c.of-id.result.0) c.as_slice.ensures.value
    ∙ ap (over c.args.draft.now.added.items base) c.of-id.ensures in
    took_known g.F.FileSystem.model (g.F.FileSystem.held c.args.draft.now.rows) (over c.args.draft.now.added.items base)
    (entry_of (c.args.request.now, c.args.now)) c.in-Some.answer.now (record { answer = c.in_ok-to_copy.field-0; repeated = true })
    kept (sym is) c.in_ok-to_copy.ensures refl

pub returns-clause-took : goal.returns-clause-took
returns-clause-took g c =
    let base = without (ids_of c.args.settled.now) (mapped c.args.records.now) in
    let V = g.F.FileSystem.model.service in
    let kept = sym (ap V.sees c.opcode.ensures) ∙ sym c.sees.ensures ∙ c.if-sees.false in
    let none = c.in_default.ensures ∙ ap (λ xs. over xs base c.of-id.result.0) c.as_slice.ensures.value
    ∙ ap (over c.args.draft.now.added.items base) c.of-id.ensures in
    took_new g.F.FileSystem.model (g.F.FileSystem.held c.args.draft.now.rows) base c.args.draft.now.added.items (entry_of (c.args.request.now, c.args.now))
    (g.F.FileSystem.held c.act-2.new.self)
    (record { id = c.of-id.result.0; answer = c.in_ok-copy.copy }) c.push.new.self.items (record { answer = c.in_ok-answer.answer; repeated = false })
    kept (sym none) c.in_ok-answer.ensures.acts c.in_ok-push.ensures.items c.of-id.ensures c.in_ok-copy.ensures refl

pub returns-clause-ids : goal.returns-clause-ids
returns-clause-ids g c = λ i there.
    let V = g.F.FileSystem.model.service in
    let kept = sym (ap V.sees c.opcode.ensures) ∙ sym c.sees.ensures ∙ c.if-sees.false in
    id_of_kept V (entry_of (c.args.request.now, c.args.now)) i kept
    (ids_pushed c.args.draft.now.added.items c.push.new.self.items (record { id = c.of-id.result.0; answer = c.in_ok-copy.copy }) _ i c.of-id.ensures
    c.in_ok-push.ensures.items there)
