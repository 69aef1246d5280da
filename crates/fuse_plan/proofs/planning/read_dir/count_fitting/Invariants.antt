use Rattle.std.proofs.Common.{◌≡◌, ◌+◌, take}
use Rattle.std.specs.List.{sum_by}
use Rattle.fuse_plan.specs.inner.PlanListing.{row_len_with}
use Rattle.fuse_plan.proofs.planning.read_dir.count_fitting.Given as goal

abbrev pub invariant-loop-child : goal.invariant-loop-child
invariant-loop-child l = record { same : l.count ≡ l.child-index; sum : sum_by (row_len_with l.extra) (take l.child-index l.children) + l.left ≡ l.fn.room }
