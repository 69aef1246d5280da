use Rattle.fuse_sim.proofs.Removed.{settled_handed, handed_settled}
use Rattle.fuse_sim.proofs.handing.ids_are_handed_on.Goals as goal

pub returns-clause-in_time : goal.returns-clause-in_time
returns-clause-in_time c = λ V events i was. settled_handed V events i was

pub returns-clause-not_before : goal.returns-clause-not_before
returns-clause-not_before c = λ V events i there. handed_settled V events i there
