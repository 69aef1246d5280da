use Rattle.std.proofs.Common.{ap}
use Rattle.fuse_answer.specs.Said.{Said}
use Rattle.fuse_sim.proofs.Outcomes.{whole_answer}
use Rattle.fuse_sim.proofs.group.outcome_with.Goals as goal

pub returns : goal.returns
returns c = whole_answer c.args.answer c.args.unique c.head_of.result c.answer.inside.body c.head_of.ensures (ap (λ (a : Said). a.body) c.answer.view_is)
