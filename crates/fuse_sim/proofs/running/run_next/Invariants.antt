use Rattle.fuse_sim.proofs.running.run_next.Given as goal

abbrev pub ghost-run_group : goal.ghost-run_group
ghost-run_group g a = g.service

abbrev pub ghost-end_group : goal.ghost-end_group
ghost-end_group g a = g.service
