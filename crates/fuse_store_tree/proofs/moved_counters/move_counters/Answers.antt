use Rattle.sqlite.specs.Held.{state}
use Rattle.fuse_store_tables.specs.inner.Following.{makes_then}
use Rattle.fuse_store_tree.specs.inner.Knowing.{numbers_moved, space_moved}
use Rattle.fuse_store_tree.proofs.moved_counters.move_counters.Goals as goal

pub returns : goal.returns
returns g c =
    makes_then (numbers_moved c.args.old.now c.args.new.now) (space_moved c.args.old.now c.args.new.now) (state g.S.Store c.args.conn.now)
    (state g.S.Store c.move_numbers.new.conn) (state g.S.Store c.move_space.new.conn) _ c.move_space.result c.in_ok-move_numbers.ensures
    c.move_space.ensures
