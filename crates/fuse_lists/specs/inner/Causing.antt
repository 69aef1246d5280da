-- The faults of plans over lists as faults of a store (defined by this project).
use Rattle.std.specs.Prelude.{◌≡◌}
use Rattle.fuse_plan.specs.declared.planning.fault.PlanFault.{PlanFault}
use Rattle.fuse_plan.specs.declared.planning.fault.PlanFault.TheVariants as plans
use Rattle.fuse_keeper.specs.declared.fault.StoreFault.{StoreFault}
use Rattle.fuse_keeper.specs.declared.fault.StoreFault.TheVariants.{Memory, Damaged}

abbrev pub CausedByPlan : PlanFault → StoreFault → Type 0
CausedByPlan (plans.Look fault) f = f ≡ Memory
CausedByPlan plans.Memory f = f ≡ Memory
CausedByPlan plans.NotATree f = f ≡ Damaged
