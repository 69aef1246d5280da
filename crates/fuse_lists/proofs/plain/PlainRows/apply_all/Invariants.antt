use Rattle.std.specs.Prelude.{◌≡◌}
use Rattle.std.specs.Vec.Iter.{into_iter_items}
use Rattle.fuse_rows.specs.Rows.{apply}
use Rattle.fuse_lists.specs.PlainRows.{rows_of, lists_fault}
use Rattle.fuse_lists.proofs.plain.PlainRows.apply_all.Given as goal

abbrev pub invariant-loop-change : goal.invariant-loop-change
invariant-loop-change l = record {
  rows : apply (rows_of l.self) (into_iter_items l.change-iterator) ≡ apply (rows_of l.fn.self) l.fn.changes;
  fault : lists_fault l.self ≡ lists_fault l.fn.self;
}
