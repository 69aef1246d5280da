use Rattle.std.proofs.Common.{arith, refl}
use Rattle.fuse_store_tree.proofs.Splits.{zero_test}
use Rattle.fuse_store_tree.proofs.piece_splits.place_in.Goals as goal

pub returns-then-piece-eq0-clause-is : goal.returns-then-piece-eq0-clause-is
returns-then-piece-eq0-clause-is c = rw c.if-piece-eq0.true refl

pub returns-clause-is : goal.returns-clause-is
returns-clause-is c = rw (zero_test c.args.piece.place c.if-piece-eq0.false) refl

pub returns-clause-low : goal.returns-clause-low
returns-clause-low c =
    let placed = c.requires.placed (zero_test c.args.piece.place c.if-piece-eq0.false) in
    omega (arith, placed.low)
