use Rattle.std.specs.Prelude.{◌+◌}
use Rattle.sqlite.specs.Held.{state}
use Rattle.fuse_store_tables.specs.Content.{set_counter}
use Rattle.fuse_store_tables.specs.inner.Following.{makes_then}
use Rattle.fuse_store_tree.proofs.updates.set_two.Goals as goal

pub returns : goal.returns
returns g c =
    makes_then (set_counter c.args.key c.args.first) (set_counter (c.args.key + 1) c.args.second) (state g.S.Store c.args.conn.now)
    (state g.S.Store c.update_counter.new.conn) (state g.S.Store c.update_counter-2.new.conn) _ c.update_counter-2.result
    c.in_ok-update_counter.ensures c.update_counter-2.ensures
