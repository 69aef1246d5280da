use Rattle.fuse_session.proofs.session.serve.Given as goal

abbrev pub ghost-serve_turns : goal.ghost-serve_turns
ghost-serve_turns g a = (g.K.Keeper.told a.keeper.now).service
