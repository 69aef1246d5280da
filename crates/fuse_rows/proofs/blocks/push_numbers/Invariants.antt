use Rattle.std.proofs.Common.{◌≡◌, ◌-◌, ◌++◌}
use Rattle.fuse_rows.specs.Blocks.{numbers_from}
use Rattle.fuse_rows.proofs.blocks.push_numbers.Given as goal

abbrev pub invariant-loop-next : goal.invariant-loop-next
invariant-loop-next l = l.numbers.items ++ numbers_from l.next (l.to - l.next) ≡ l.fn.numbers.items ++ numbers_from l.from (l.to - l.from)

abbrev pub decreases-loop-next : goal.decreases-loop-next
decreases-loop-next l = l.to - l.next
