use Rattle.std.proofs.Common.{◌+◌, ◌-◌, ◌++◌, ◌∙◌, ℕ, List, ap}
use Rattle.fuse_rows.specs.Blocks.{numbers_from}
use Rattle.fuse_rows.proofs.NumberLists.{numbers_next}
use Rattle.fuse_rows.proofs.blocks.push_numbers.Goals as goal

pub loop-next-preserved : goal.loop-next-preserved
loop-next-preserved c =
    ap (λ (xs : List ℕ). xs ++ numbers_from (c.loop-next.next + 1) (c.args.to - (c.loop-next.next + 1))) c.in_ok-push.ensures.items
    ∙ numbers_next c.loop-next.numbers.items c.loop-next.next c.args.to c.loop-next-test.true
    ∙ c.loop-next.invariant
