use Rattle.fuse_request.specs.Act.{asked}
use Rattle.fuse_tree.specs.Rowed.{rowed}
use Rattle.std.proofs.Common.{rules}
use Rattle.fuse_plan.proofs.Agreeing.{answered, read, no_tree}
use Rattle.fuse_plan.proofs.Bounds.{is_rowed}
use Rattle.fuse_plan.proofs.planning.plan.Goals as goal

pub returns-clause-meets : goal.returns-clause-meets
returns-clause-meets g c =
    λ clean s tree sees. answered s (asked c.args.request.now) c.args.now c.plan_request.result tree
    (λ well. c.plan_request.ensures.reads well clean (rowed s) (is_rowed s tree) sees)

pub returns-clause-read : goal.returns-clause-read
returns-clause-read g c =
    λ clean s tree sees. read s (asked c.args.request.now) c.args.now c.plan_request.result c.answers_are_read.ensures tree
    (returns-clause-meets g c clean s tree sees)

pub returns-clause-not_a_tree : goal.returns-clause-not_a_tree
returns-clause-not_a_tree g c = search (rules, no_tree, is_rowed)
