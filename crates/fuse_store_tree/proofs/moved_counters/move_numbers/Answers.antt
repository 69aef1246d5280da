use Rattle.sqlite.specs.Held.{state}
use Rattle.fuse_store_tables.specs.inner.Following.{makes_then}
use Rattle.fuse_store_tree.specs.inner.Knowing.{moved, ids_moved}
use Rattle.fuse_store_tree.proofs.moved_counters.move_numbers.Goals as goal

pub returns : goal.returns
returns g c =
    makes_then (ids_moved c.args.old.now c.args.new.now) (moved 4 c.args.old.now.next_cookie c.args.new.now.next_cookie) (state g.S.Store c.args.conn.now)
    (state g.S.Store c.move_ids.new.conn) (state g.S.Store c.move_counter.new.conn) _ c.move_counter.result c.in_ok-move_ids.ensures c.move_counter.ensures
