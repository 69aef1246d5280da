use Rattle.sqlite.specs.Held.{state}
use Rattle.fuse_store_tree.proofs.SplitSteps.{first_fails, last_fails, parts_put}
use Rattle.fuse_store_tree.proofs.piece_splits.put_parts.Goals as goal

pub returns-in-Err-clause-made : goal.returns-in-Err-clause-made
returns-in-Err-clause-made g c = record { stays = c.in-Err.ensures.stays; within = tt; turns = tt }

pub returns-in-Err-insert_piece-clause-made : goal.returns-in-Err-insert_piece-clause-made
returns-in-Err-insert_piece-clause-made g c = record {
  stays = first_fails c.args.piece c.part_of-front.result c.part_of-back.result (state g.S.Store c.args.conn.now) (state g.S.Store c.delete_pieces.new.conn)
      (state g.S.Store c.insert_piece.new.conn) (state g.S.Store c.insert_piece.new.conn) c.in-Ok.ensures c.in-Err-insert_piece.ensures.stays;
  within = tt;
  turns = tt;
}

pub returns-in-Ok-insert_piece-2-clause-made : goal.returns-in-Ok-insert_piece-2-clause-made
returns-in-Ok-insert_piece-2-clause-made g c =
    parts_put c.args.piece c.part_of-front.result c.part_of-back.result (state g.S.Store c.args.conn.now) (state g.S.Store c.delete_pieces.new.conn)
    (state g.S.Store c.insert_piece.new.conn) (state g.S.Store c.insert_piece-2.new.conn) c.in-Ok.ensures c.in-Ok-insert_piece.ensures _ _
    c.part_of-front.ensures.is c.part_of-back.ensures.is c.in-Ok-insert_piece-2.ensures

pub returns-in-Err-insert_piece-2-clause-made : goal.returns-in-Err-insert_piece-2-clause-made
returns-in-Err-insert_piece-2-clause-made g c = record {
  stays = last_fails c.args.piece c.part_of-front.result c.part_of-back.result (state g.S.Store c.args.conn.now) (state g.S.Store c.delete_pieces.new.conn)
      (state g.S.Store c.insert_piece.new.conn) (state g.S.Store c.insert_piece-2.new.conn) c.in-Ok.ensures c.in-Ok-insert_piece.ensures
      c.in-Err-insert_piece-2.ensures.stays;
  within = tt;
  turns = tt;
}
