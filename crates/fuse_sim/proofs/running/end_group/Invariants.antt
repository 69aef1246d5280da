use Rattle.fuse_sim.proofs.running.end_group.Given as goal

abbrev pub ghost-reopen : goal.ghost-reopen
ghost-reopen g a = g.service
