use Rattle.sqlite.specs.Held.{state}
use Rattle.fuse_store_tables.specs.inner.Following.{makes_then}
use Rattle.fuse_store_tree.specs.inner.Knowing.{moved}
use Rattle.fuse_store_tree.proofs.moved_counters.move_ids.Goals as goal

pub returns : goal.returns
returns g c =
    makes_then (moved 2 c.args.old.now.next_node c.args.new.now.next_node) (moved 3 c.args.old.now.next_fh c.args.new.now.next_fh) (state g.S.Store c.args.conn.now)
    (state g.S.Store c.move_counter.new.conn) (state g.S.Store c.move_counter-2.new.conn) _ c.move_counter-2.result c.in_ok-move_counter.ensures
    c.move_counter-2.ensures
