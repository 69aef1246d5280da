use Rattle.fuse_session.specs.Processed.{unique_of}
use Rattle.fuse_session.specs.inner.Sending.{reports_gone}
use Rattle.fuse_session.proofs.Sends.{bare_sent, bare_hands, bare_fails, if_ok, if_err, on_ok}
use Rattle.fuse_session.proofs.answers.send_bare.Goals as goal

pub returns-clause-ok : goal.returns-clause-ok
returns-clause-ok g c = if_ok c.send_reply.result _ _ (λ passed s. bare_sent (g.P.Port.told c.args.port.now)
    (g.P.Port.told c.send_reply.new.port) c.refusal-answer.result c.args.errno c.unique_of.result (unique_of c.args.message.now)
    (reports_gone passed) c.refusal-answer.ensures c.unique_of.ensures s) c.send_reply.ensures.ok

pub returns-clause-err : goal.returns-clause-err
returns-clause-err g c = if_err c.send_reply.result _ _ (λ fault f. bare_fails fault (g.P.Port.became c.args.port.now c.send_reply.new.port) (g.P.Port.told c.args.port.now)
    (g.P.Port.told c.send_reply.new.port) c.refusal-answer.result c.args.errno c.unique_of.result (unique_of c.args.message.now) c.refusal-answer.ensures
    c.unique_of.ensures f) c.send_reply.ensures.err

pub returns-clause-hands : goal.returns-clause-hands
returns-clause-hands g c = on_ok c.send_reply.result _ _ (bare_hands (g.P.Port.became c.args.port.now c.send_reply.new.port) c.refusal-answer.result c.args.errno
    c.unique_of.result (unique_of c.args.message.now) c.refusal-answer.ensures c.unique_of.ensures) c.send_reply.ensures.hands
