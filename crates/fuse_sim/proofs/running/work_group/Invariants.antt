use Rattle.fuse_sim.proofs.running.work_group.Given as goal

abbrev pub ghost-perform_group : goal.ghost-perform_group
ghost-perform_group g a = g.service

abbrev pub ghost-answer_group : goal.ghost-answer_group
ghost-answer_group g a = g.service
