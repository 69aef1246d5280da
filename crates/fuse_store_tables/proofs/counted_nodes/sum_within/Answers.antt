use Rattle.std.proofs.Common.{refl, arith, add-one}
use Rattle.fuse_store_tables.proofs.WrittenSums.{sum_beyond, sum_next}
use Rattle.fuse_store_tables.proofs.counted_nodes.sum_within.Goals as goal

pub returns-in-None-clause-beyond : goal.returns-in-None-clause-beyond
returns-in-None-clause-beyond c = λ none.
    sum_beyond c.args.all.now c.all.at c.all.sum c.all-test.true c.all.invariant.4 _ c.args.most c.in-None.ensures.value _ refl

pub all-preserved : goal.all-preserved
all-preserved c = (
  refl,
  refl,
  omega (arith, c.all-test.true),
  c.in-Some.ensures.small,
  rw add-one (sum_next c.args.all.now c.all.at c.all.sum c.all-test.true c.all.invariant.4 _ c.in-Some.next c.in-Some.ensures.value _ refl),
)
