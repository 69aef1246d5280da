use Rattle.fuse_sim.specs.Driving.{told_in}
use Rattle.fuse_sim.proofs.driving.drive.Given as goal

abbrev pub ghost-run_all : goal.ghost-run_all
ghost-run_all g a = (told_in g.K.Keeper.told a.keeper.now).service
