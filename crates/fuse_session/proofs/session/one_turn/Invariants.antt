use Rattle.fuse_session.proofs.session.one_turn.Given as goal

abbrev pub ghost-serve_turn : goal.ghost-serve_turn
ghost-serve_turn g a = g.service
