use Rattle.std.proofs.Common.{sym, ap, ◌∙◌, length, arith}
use Rattle.fuse_rows.specs.Pieces.{pieces_of}
use Rattle.fuse_rows.proofs.Ranges.{pieces_none, next_piece}
use Rattle.fuse_rows.proofs.pieces.PiecesIterator.next.Goals as goal

pub returns-then-self-eq0-clause-steps : goal.returns-then-self-eq0-clause-steps
returns-then-self-eq0-clause-steps c =
    let none = sym c.self.view_is ∙ ap (pieces_of c.self.inside.at) c.if-self-eq0.true ∙ pieces_none c.self.inside.at in
    (none, none)

pub returns-clause-steps : goal.returns-clause-steps
returns-clause-steps c =
    next_piece c.self.inside.at c.self.inside.left c.from.result c.first_of-piece.result c.args.self.now c.if-self-eq0.false c.self.view_is
    c.first_of-piece.ensures c.from.ensures

pub returns-clause-goes : goal.returns-clause-goes
returns-clause-goes c =
    let some =
    next_piece c.self.inside.at c.self.inside.left c.from.result c.first_of-piece.result c.args.self.now c.if-self-eq0.false c.self.view_is
    c.first_of-piece.ensures c.from.ensures in
    record { on = λ _. (tt, tt, omega (arith, ap length some)); keeps = tt; rests = λ _. tt }
