use Rattle.fuse_session.proofs.answers.send_next.Given as goal

abbrev pub ghost-send_kept : goal.ghost-send_kept
ghost-send_kept g a = g.service
