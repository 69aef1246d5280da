use Rattle.std.proofs.Common.{◌≡◌, ◌+◌, ◌-◌, length, arith}
use Rattle.fuse_data.proofs.Tails.{empty_tail, no_tail, last_tail}
use Rattle.fuse_data.proofs.gaps.tail_of.Goals as goal

pub returns-then-is_empty : goal.returns-then-is_empty
returns-then-is_empty c = let none : length c.args.gaps.now ≡ 0 = grind arith in empty_tail c.args.gaps.now none

pub returns-then-last-lt-END : goal.returns-then-last-lt-END
returns-then-last-lt-END c =
    let size : (length c.args.gaps.now - 1) + 1 ≡ length c.args.gaps.now = grind arith in
    no_tail c.args.gaps.now _ _ c.requires size c.if-last-lt-END.true

pub returns : goal.returns
returns c =
    let size : (length c.args.gaps.now - 1) + 1 ≡ length c.args.gaps.now = grind arith in
    last_tail c.args.gaps.now _ _ c.requires size c.if-last-lt-END.false
