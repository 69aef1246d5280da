use Rattle.std.proofs.Common.{◌≡◌, ◌++◌, All, map, take}
use Rattle.fuse_answer.specs.Entries.{directory_entry_of, IsNamed}
use Rattle.fuse_plan.specs.inner.PlanListing.{listed_child}
use Rattle.fuse_plan.proofs.planning.read_dir.push_entries.Given as goal

abbrev pub invariant-loop-child : goal.invariant-loop-child
invariant-loop-child l = record {
  named : All (λ d. IsNamed (directory_entry_of d)) l.dirents.items;
  entries : map directory_entry_of l.dirents.items ≡ map directory_entry_of l.fn.dirents.items ++ map listed_child (take l.child-index l.children);
}
