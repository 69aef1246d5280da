use Rattle.fuse_sim.proofs.running.run_group.Given as goal

abbrev pub ghost-gather : goal.ghost-gather
ghost-gather g a = g.service

abbrev pub ghost-work_group : goal.ghost-work_group
ghost-work_group g a = g.service

abbrev pub ghost-end_group : goal.ghost-end_group
ghost-end_group g a = g.service
