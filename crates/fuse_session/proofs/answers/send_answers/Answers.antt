use Rattle.std.proofs.Common.{take, drop, ap, sym, subst, ◌∙◌, arith}
use Rattle.std.proofs.lemmas.List.{take_all, drop_all}
use Rattle.fuse_keeper.specs.Group.{ids_of}
use Rattle.fuse_request.specs.Stream.{IsMessage}
use Rattle.fuse_request.specs.declared.class.Class.TheVariants.{Silent}
use Rattle.fuse_session.specs.inner.Group.{answers_in, wires}
use Rattle.fuse_session.proofs.Counted.{class_at}
use Rattle.fuse_session.proofs.Sends.{young_still, sent_first_none, sent_more, sent_some, sent_all, enough_at, enough_more}
use Rattle.fuse_session.proofs.answers.send_answers.Goals as goal

pub loop-place-init : goal.loop-place-init
loop-place-init g c = record {
  next = omega arith;
  enough = c.requires.1.1.1.0;
  sent = sent_first_none g.service (g.P.Port.became c.args.port.now c.args.port.now) ((g.met.P.Port.path).none c.args.port.now) (g.P.Port.told c.args.port.now) c.args.messages.now (wires g.service c.args.messages.now (answers_in c.args.dones.now))
      (ids_of c.args.pending.now.items);
}

pub send_next-requires : goal.send_next-requires
send_next-requires g c = λ κs lives.
    let ms = c.args.messages.now in
    let i = c.loop-place.place in
    let lt = c.loop-place-test.true in
    let message = subst IsMessage (sym (c.as_slice-bytes.ensures ∙ c.index-messages-place.is)) (c.requires.1.0 i c.index-messages-place.result lt) in
    let class = class_at g.service ms c.args.classes.now i c.index-messages-place.result c.as_slice-bytes.result.now Silent c.requires.1.1.0 lt
    c.index-messages-place.is c.as_slice-bytes.ensures in
    let enough = enough_at g.service ms i c.index-messages-place.result c.as_slice-bytes.result.now c.args.dones.now c.loop-place.next lt
    c.index-messages-place.is c.as_slice-bytes.ensures c.loop-place.invariant.enough in
    let young = young_still _ _ c.loop-place.invariant.sent.failures c.loop-place.invariant.sent.quiet c.requires.1.1.1.1 in
    (lives, (message, (class, (c.loop-place.invariant.next, (enough, young)))))

pub loop-place-preserved : goal.loop-place-preserved
loop-place-preserved g c =
    let ms = c.args.messages.now in
    let i = c.loop-place.place in
    let list = drop c.loop-place.next (answers_in c.args.dones.now) in
    record {
      next = c.in-Ok.ensures.next;
      enough = enough_more g.service ms i c.index-messages-place.result c.as_slice-bytes.result.now list _ c.loop-place-test.true c.index-messages-place.is
          c.as_slice-bytes.ensures c.loop-place.invariant.enough c.in-Ok.ensures.left;
      sent = sent_more g.service _ _ _
          ((g.met.P.Port.path).onward c.args.port.now c.loop-place.port c.send_next.new.port) _ _ _
          (g.met.P.Port.tells c.loop-place.port c.send_next.new.port) ms i c.index-messages-place.result c.as_slice-bytes.result.now list _ (wires g.service ms (answers_in c.args.dones.now)) _ _ _
          c.loop-place-test.true c.index-messages-place.is c.as_slice-bytes.ensures c.in-Ok.ensures.left c.loop-place.invariant.sent c.in-Ok.ensures.ok;
    }

pub returns-in-Err-clause-err : goal.returns-in-Err-clause-err
returns-in-Err-clause-err g c =
    sent_some g.service _ _ _ ((g.met.P.Port.path).onward c.args.port.now c.loop-place.port c.send_next.new.port) c.in-Err.fault _ _ _ c.args.messages.now c.loop-place.place c.index-messages-place.result c.as_slice-bytes.result.now
    (drop c.loop-place.next (answers_in c.args.dones.now)) (wires g.service c.args.messages.now (answers_in c.args.dones.now)) _ _
    c.loop-place-test.true c.index-messages-place.is c.as_slice-bytes.ensures c.loop-place.invariant.sent c.in-Err.ensures.err

pub returns-clause-ok : goal.returns-clause-ok
returns-clause-ok g c =
    let ms = c.args.messages.now in
    let i = c.loop-place.place in
    sent_all g.service _ _ _ ms (wires g.service (drop i ms) (drop c.loop-place.next (answers_in c.args.dones.now))) (wires g.service ms (answers_in c.args.dones.now)) (take i ms) _ _
    (ap (λ x. wires g.service x (drop c.loop-place.next (answers_in c.args.dones.now))) (drop_all i ms c.loop-place-test.false))
    (take_all i ms c.loop-place-test.false) c.loop-place.invariant.sent
