use Rattle.std.proofs.Common.{rules, ◌≡◌, [], length, take, drop, true, refl, sym, ap, arith}
use Rattle.std.proofs.lemmas.List.{take-append-drop}
use Rattle.fuse_session.specs.declared.port.Sent.TheVariants.{Took, Gone, Failed}
use Rattle.fuse_session.proofs.Bytes.{nothing_sent, prefix_more, prefix_gone, took_nothing}
use Rattle.fuse_session.proofs.Transcripts.{hands_none, hands_more, hands_last, hands_all, fails_last, left_at_zero}
use Rattle.fuse_session.proofs.port.send_whole.Goals as goal

pub loop-rest-preserved : goal.loop-rest-preserved
loop-rest-preserved g c = record {
  sent = prefix_more (g.P.Port.told c.args.port.now) (g.P.Port.told c.loop-rest.port) (g.P.Port.told c.send.new.self) c.args.bytes.now c.loop-rest.rest.now
      c.in-Took.n c.if-taken-eq0.false c.loop-rest.invariant.sent c.in-Took.ensures.sent;
  same = hands_more g.P.Port.became g.met.P.Port.path c.args.port.now c.loop-rest.port c.send.new.self c.args.bytes.now c.loop-rest.rest.now
      c.in-Took.n c.if-taken-eq0.false (search rules) c.loop-rest.invariant.same c.in-Took.ensures.same;
}

pub returns-then-taken-eq0-clause-err : goal.returns-then-taken-eq0-clause-err
returns-then-taken-eq0-clause-err g c =
    let some : c.loop-rest.rest.now ≡ [] → ⊥ = search rules in
    let s = c.in-Took.ensures.sent in
    fails_last g.P.Port.told g.P.Port.became g.met.P.Port.path c.args.port.now c.loop-rest.port c.send.new.self c.args.bytes.now c.loop-rest.rest.now []
    (Took c.in-Took.n) some (left_at_zero c.loop-rest.rest.now c.in-Took.n c.if-taken-eq0.true some)
    (took_nothing c.in-Took.n c.loop-rest.rest.now _ _ c.if-taken-eq0.true some s.failures) s.gone c.loop-rest.invariant.sent c.loop-rest.invariant.same s
    (ap (λ k. drop k c.loop-rest.rest.now) (sym s.counts)) c.in-Took.ensures.same

pub returns-in-Gone-clause-ok : goal.returns-in-Gone-clause-ok
returns-in-Gone-clause-ok g c =
    let some : c.loop-rest.rest.now ≡ [] → ⊥ = search rules in
    prefix_gone (g.P.Port.told c.args.port.now) (g.P.Port.told c.loop-rest.port) (g.P.Port.told c.send.new.self) c.args.bytes.now c.loop-rest.rest.now some
    c.loop-rest.invariant.sent c.in-Gone.ensures.sent

pub returns-in-Failed-clause-err : goal.returns-in-Failed-clause-err
returns-in-Failed-clause-err g c =
    let some : c.loop-rest.rest.now ≡ [] → ⊥ = search rules in
    let s = c.in-Failed.ensures.sent in
    fails_last g.P.Port.told g.P.Port.became g.met.P.Port.path c.args.port.now c.loop-rest.port c.send.new.self c.args.bytes.now c.loop-rest.rest.now
    (take s.count c.loop-rest.rest.now) Failed some some (omega (arith, s.failures)) s.gone c.loop-rest.invariant.sent c.loop-rest.invariant.same s
    (sym (take-append-drop s.count c.loop-rest.rest.now)) c.in-Failed.ensures.same

pub returns-in-Gone-clause-hands : goal.returns-in-Gone-clause-hands
returns-in-Gone-clause-hands g c =
    let some : c.loop-rest.rest.now ≡ [] → ⊥ = search rules in
    hands_last g.P.Port.became g.met.P.Port.path c.args.port.now c.loop-rest.port c.send.new.self c.args.bytes.now c.loop-rest.rest.now
    Gone true some refl c.loop-rest.invariant.same c.in-Gone.ensures.same

pub returns-clause-hands : goal.returns-clause-hands
returns-clause-hands g c =
    let none : length c.loop-rest.rest.now ≡ 0 = search rules in
    hands_all (g.P.Port.became c.args.port.now c.loop-rest.port) c.args.bytes.now c.loop-rest.rest.now none c.loop-rest.invariant.same

pub loop-rest-init : goal.loop-rest-init
loop-rest-init g c = record {
  sent = nothing_sent (g.P.Port.told c.args.port.now) c.args.bytes.now;
  same = hands_none g.P.Port.became g.met.P.Port.path c.args.port.now c.args.bytes.now;
}
