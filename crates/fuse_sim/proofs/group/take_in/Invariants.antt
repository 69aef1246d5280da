use Rattle.fuse_sim.proofs.group.take_in.Given as goal

abbrev pub ghost-read_one : goal.ghost-read_one
ghost-read_one g a = g.service
