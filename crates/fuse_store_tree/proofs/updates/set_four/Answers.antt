use Rattle.std.specs.Prelude.{◌+◌}
use Rattle.sqlite.specs.Held.{state}
use Rattle.fuse_store_tables.specs.Content.{set_counter}
use Rattle.fuse_store_tables.specs.inner.Following.{makes_then}
use Rattle.fuse_store_tree.proofs.updates.set_four.Goals as goal

pub returns : goal.returns
returns g c =
    makes_then (λ k. set_counter (c.args.key + 1) c.args.second (set_counter c.args.key c.args.first k)) (λ k. set_counter (c.args.key + 2 + 1) c.args.fourth
    (set_counter (c.args.key + 2) c.args.third k)) (state g.S.Store c.args.conn.now) (state g.S.Store c.set_two.new.conn)
    (state g.S.Store c.set_two-2.new.conn) _ c.set_two-2.result c.in_ok-set_two.ensures c.set_two-2.ensures
