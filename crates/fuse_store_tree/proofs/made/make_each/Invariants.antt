use Rattle.std.proofs.Common.{◌≡◌, [], map, length}
use Rattle.fuse_data.specs.State.{state_of}
use Rattle.fuse_keeper.specs.Group.{entries_of}
use Rattle.fuse_store_tree.specs.inner.Preparing.{AreForEach, IsMadeAside, WritesAside}
use Rattle.fuse_store_tree.proofs.made.make_each.Given as goal

abbrev pub invariant-loop-one : goal.invariant-loop-one
invariant-loop-one g l = record {
  aside : WritesAside (state_of g.D.Disk l.fn.file) (state_of g.D.Disk l.file) l.fn.written.items l.written.items;
  idle : l.written.items ≡ [] → l.file ≡ l.fn.file;
  count : length l.made.items ≡ l.one-index;
  made : AreForEach (IsMadeAside (state_of g.D.Disk l.file) l.written.items) (entries_of l.group) (map (λ v. v.items) l.made.items);
}
