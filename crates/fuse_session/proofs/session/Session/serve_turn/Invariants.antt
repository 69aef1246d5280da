use Rattle.fuse_session.proofs.session.Session.serve_turn.Given as goal

abbrev pub ghost-serve_messages : goal.ghost-serve_messages
ghost-serve_messages g a = g.service
