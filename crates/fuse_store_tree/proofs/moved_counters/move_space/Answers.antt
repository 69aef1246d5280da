use Rattle.sqlite.specs.Held.{state}
use Rattle.fuse_store_tables.specs.inner.Following.{makes_then}
use Rattle.fuse_store_tree.specs.inner.Knowing.{used_moved, sums_moved}
use Rattle.fuse_store_tree.proofs.moved_counters.move_space.Goals as goal

pub returns : goal.returns
returns g c =
    makes_then (sums_moved c.args.old.now c.args.new.now) (used_moved c.args.old.now.room c.args.new.now.room) (state g.S.Store c.args.conn.now)
    (state g.S.Store c.move_sums.new.conn) (state g.S.Store c.move_used.new.conn) _ c.move_used.result c.in_ok-move_sums.ensures c.move_used.ensures
