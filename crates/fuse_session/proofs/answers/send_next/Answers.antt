use Rattle.std.proofs.Common.{drop, ap, sym}
use Rattle.fuse_keeper.specs.declared.keeper.Done.{Done}
use Rattle.fuse_keeper.specs.Group.{ids_of}
use Rattle.fuse_session.specs.inner.Group.{answers_in}
use Rattle.fuse_session.proofs.Sends.{next_silent, next_bare, next_kept, left_kept, fails_kept, next_seen, left_seen, fails_seen}
use Rattle.fuse_session.proofs.answers.send_next.Goals as goal

pub returns-in-Silent-clause-ok : goal.returns-in-Silent-clause-ok
returns-in-Silent-clause-ok g c = next_silent g.service (g.P.Port.became c.args.port.now c.args.port.now) ((g.met.P.Port.path).none c.args.port.now) (g.P.Port.told c.args.port.now) c.args.message.now (drop c.args.next (answers_in c.args.dones.now))
    (ids_of c.args.pending.now.items) (cc (c.in-Silent.is, c.requires.1.1.0))

pub returns-in-Ok-clause-ok : goal.returns-in-Ok-clause-ok
returns-in-Ok-clause-ok g c = next_bare g.service _ _ _ c.args.message.now c.in-Bare.errno _ (drop c.args.next (answers_in c.args.dones.now))
    (ids_of c.args.pending.now.items) (cc (c.in-Bare.is, c.requires.1.1.0)) c.in-Ok.ensures.ok c.in-Ok.ensures.hands

pub returns-in-Ok-send_kept-clause-left : goal.returns-in-Ok-send_kept-clause-left
returns-in-Ok-send_kept-clause-left g c = left_kept g.service c.args.message.now c.args.dones.now c.args.next c.index-dones-next.result
    (cc (c.in-Kept.is, c.requires.1.1.0)) (c.requires.1.1.1.1.0 (cc (c.in-Kept.is, c.requires.1.1.0))) c.index-dones-next.is

pub returns-in-Ok-send_kept-clause-ok : goal.returns-in-Ok-send_kept-clause-ok
returns-in-Ok-send_kept-clause-ok g c =
    next_kept g.service _ _ _ c.args.message.now c.args.dones.now c.args.next c.index-dones-next.result _ _ _ (cc (c.in-Kept.is, c.requires.1.1.0))
    (c.requires.1.1.1.1.0 (cc (c.in-Kept.is, c.requires.1.1.0))) c.index-dones-next.is
    (ap (λ (x : Done). x.answer) (sym c.index-dones-next.is)) c.in-Ok-send_kept.ensures.ok

pub returns-in-Err-send_kept-clause-err : goal.returns-in-Err-send_kept-clause-err
returns-in-Err-send_kept-clause-err g c =
    fails_kept g.service c.in-Err-send_kept.fault _ _ _ c.args.message.now c.args.dones.now c.args.next c.index-dones-next.result _ (cc (c.in-Kept.is, c.requires.1.1.0))
    (c.requires.1.1.1.1.0 (cc (c.in-Kept.is, c.requires.1.1.0))) c.index-dones-next.is
    (ap (λ (x : Done). x.answer) (sym c.index-dones-next.is)) c.in-Err-send_kept.ensures.err

pub returns-in-Ok-send_seen-clause-left : goal.returns-in-Ok-send_seen-clause-left
returns-in-Ok-send_seen-clause-left g c = left_seen g.service c.args.message.now c.args.dones.now c.args.next
    c.index-dones-next-in-Seen.result
    (cc (c.in-Seen.is, c.requires.1.1.0)) (c.requires.1.1.1.1.0 (cc (c.in-Seen.is, c.requires.1.1.0))) c.index-dones-next-in-Seen.is

pub returns-in-Ok-send_seen-clause-ok : goal.returns-in-Ok-send_seen-clause-ok
returns-in-Ok-send_seen-clause-ok g c =
    next_seen g.service _ _ _ c.args.message.now _ c.args.dones.now c.args.next c.index-dones-next-in-Seen.result _ _ (cc
    (c.in-Seen.is, c.requires.1.1.0))
    (c.requires.1.1.1.1.0 (cc (c.in-Seen.is, c.requires.1.1.0))) c.index-dones-next-in-Seen.is
    (ap (λ (x : Done). x.answer) (sym c.index-dones-next-in-Seen.is)) c.in-Ok-send_seen.ensures.ok c.in-Ok-send_seen.ensures.hands

pub returns-in-Err-send_seen-clause-err : goal.returns-in-Err-send_seen-clause-err
returns-in-Err-send_seen-clause-err g c =
    fails_seen g.service c.in-Err-send_seen.fault _ _ _ c.args.message.now c.args.dones.now c.args.next
    c.index-dones-next-in-Seen.result _ (cc (c.in-Seen.is, c.requires.1.1.0))
    (c.requires.1.1.1.1.0 (cc (c.in-Seen.is, c.requires.1.1.0))) c.index-dones-next-in-Seen.is
    (ap (λ (x : Done). x.answer) (sym c.index-dones-next-in-Seen.is)) c.in-Err-send_seen.ensures.err
