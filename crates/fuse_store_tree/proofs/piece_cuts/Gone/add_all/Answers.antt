use Rattle.fuse_store_tree.proofs.Remembering.{remembers_none, loop_more}
use Rattle.fuse_store_tree.proofs.piece_cuts.Gone.add_all.Goals as goal

pub loop-piece-init : goal.loop-piece-init
loop-piece-init c = remembers_none c.args.self.now

pub loop-piece-preserved : goal.loop-piece-preserved
loop-piece-preserved c =
    loop_more c.args.pieces.now c.loop-piece.piece-index _ c.args.self.now c.loop-piece.self c.add.new.self c.loop-piece-test.true c.loop-piece.invariant
    c.in-Ok.ensures.remembers
