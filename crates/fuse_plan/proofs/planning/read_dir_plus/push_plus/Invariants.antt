use Rattle.std.proofs.Common.{◌≡◌, ◌++◌, All, map, take}
use Rattle.fuse_answer.specs.Entries.{directory_entry_of, IsNamed}
use Rattle.fuse_answer.specs.PlusEntries.{plus_of}
use Rattle.fuse_plan.specs.inner.PlanPlus.{listed_plus}
use Rattle.fuse_plan.proofs.planning.read_dir_plus.push_plus.Given as goal

abbrev pub invariant-loop-child : goal.invariant-loop-child
invariant-loop-child l = record {
  named : All (λ d. IsNamed (directory_entry_of d.dirent)) l.dirents.items;
  entries : map plus_of l.dirents.items ≡ map plus_of l.fn.dirents.items ++ map (listed_plus l.fn.valid) (take l.child-index l.children);
}
