use Rattle.std.proofs.Common.{◌∙◌, ◌++◌, ◌∷◌, [], true, ap, subst}
use Rattle.std.proofs.lemmas.List.{map-append}
use Rattle.fuse_wire.specs.Ids.{id_of}
use Rattle.fuse_wire.specs.declared.id.Id.{Id}
use Rattle.fuse_answer.specs.Wire.{wire}
use Rattle.fuse_keeper.specs.Group.{ids_of}
use Rattle.fuse_session.specs.Port.{SentWhole}
use Rattle.fuse_session.specs.inner.Sending.{reports_gone}
use Rattle.fuse_session.specs.Transcript.{Hands}
use Rattle.fuse_session.proofs.Sends.{kept_next}
use Rattle.fuse_session.proofs.answers.send_kept.Goals as goal

pub returns-then-is_settled-clause-ok : goal.returns-then-is_settled-clause-ok
returns-then-is_settled-clause-ok g c =
    let p = c.args.pending.now.items in
    let a = c.args.answer.now in
    let id = c.of.ensures ∙ ap id_of c.unique_of-unique.ensures in
    let pushed = ap ids_of (c.push_reserved.ensures.items ∙ ap (λ xs. xs ++ c.of.result ∷ []) c.reserve.ensures.items)
    ∙ map-append (λ (x : Id). x.0) p (c.of.result ∷ []) ∙ ap (λ i. ids_of p ++ i ∷ []) id in
    let sent = subst (λ u. SentWhole (g.P.Port.told c.args.port.now) (g.P.Port.told c.send_reply.new.port) (wire a.errno a.body u) (reports_gone c.in-Ok.passed))
    c.unique_of-unique.ensures c.in-Ok.ensures.ok in
    let hands = subst (λ u. Hands (g.P.Port.became c.args.port.now c.send_reply.new.port) (wire a.errno a.body u) true) c.unique_of-unique.ensures
    c.in-Ok.ensures.hands in
    kept_next g.service _ _ _ c.args.message.now _ (reports_gone c.in-Ok.passed) (ids_of p) _ c.requires.1.1.0 sent hands (λ _. pushed)
    (λ isnt. absurd (let e = c.if-is_settled.ensures in cc (isnt, e)))

pub returns-else-is_settled-clause-ok : goal.returns-else-is_settled-clause-ok
returns-else-is_settled-clause-ok g c =
    let p = c.args.pending.now.items in
    let a = c.args.answer.now in
    let sent = subst (λ u. SentWhole (g.P.Port.told c.args.port.now) (g.P.Port.told c.send_reply.new.port) (wire a.errno a.body u) (reports_gone c.in-Ok.passed))
    c.unique_of-unique.ensures c.in-Ok.ensures.ok in
    let hands = subst (λ u. Hands (g.P.Port.became c.args.port.now c.send_reply.new.port) (wire a.errno a.body u) true) c.unique_of-unique.ensures
    c.in-Ok.ensures.hands in
    kept_next g.service _ _ _ c.args.message.now _ (reports_gone c.in-Ok.passed) (ids_of p) _ c.requires.1.1.0 sent hands
    (λ is. absurd (let e = c.if-is_settled.ensures in cc (is, e))) (λ _. ap ids_of c.reserve.ensures.items)
