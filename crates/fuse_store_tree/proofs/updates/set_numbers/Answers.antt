use Rattle.std.specs.Prelude.{◌+◌}
use Rattle.sqlite.specs.Held.{state}
use Rattle.fuse_store_tables.specs.Content.{set_counter}
use Rattle.fuse_store_tables.specs.inner.Following.{makes_then}
use Rattle.fuse_store_tree.proofs.updates.set_numbers.Goals as goal

pub returns : goal.returns
returns g c =
    makes_then (λ k. set_counter (2 + 2 + 1) c.args.n.now.nodes (set_counter (2 + 2) c.args.n.now.next_cookie (set_counter (2 + 1) c.args.n.now.next_fh
    (set_counter 2 c.args.n.now.next_node k)))) (set_counter 6 c.args.n.now.handles) (state g.S.Store c.args.conn.now) (state g.S.Store c.set_four.new.conn)
    (state g.S.Store c.update_counter.new.conn) _ c.update_counter.result c.in_ok-set_four.ensures c.update_counter.ensures
