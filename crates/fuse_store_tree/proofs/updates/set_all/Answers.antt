use Rattle.sqlite.specs.Held.{state}
use Rattle.fuse_store_tables.specs.Content.{set_counter}
use Rattle.fuse_store_tables.specs.inner.Following.{makes_then}
use Rattle.fuse_store_tree.specs.inner.Writing.{with_used}
use Rattle.fuse_store_tree.proofs.updates.set_all.Goals as goal

pub returns : goal.returns
returns g c =
    let n = c.args.n.now in
    makes_then (λ k. set_counter 6 n.handles (set_counter 5 n.nodes (set_counter 4 n.next_cookie (set_counter 3 n.next_fh (set_counter 2 n.next_node k)))))
    (with_used n.room) (state g.S.Store c.args.conn.now) (state g.S.Store c.set_numbers.new.conn) (state g.S.Store c.set_used.new.conn) _ c.set_used.result
    c.in_ok-set_numbers.ensures c.set_used.ensures
