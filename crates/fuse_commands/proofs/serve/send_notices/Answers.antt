use Rattle.fuse_commands.proofs.serve.send_notices.Goals as goal

pub returns-in-Ok-clause-still : goal.returns-in-Ok-clause-still
returns-in-Ok-clause-still g c = let sent = c.in-Ok.ensures.ok.sent in (sent.quiet.receives, sent.failures)
