use Rattle.std.specs.Option.{is_some}
use Rattle.sqlite.specs.Held.{state}
use Rattle.fuse_store_tables.specs.Content.{with_node, set_node, at_by, node_key}
use Rattle.fuse_store_tables.proofs.Joining.{put_there, put_anew}
use Rattle.fuse_store_tables.proofs.NodeRows.{put_over, put_new}
use Rattle.fuse_store_tables.proofs.nodes.put_node.Goals as goal

pub returns-in-Ok-true : goal.returns-in-Ok-true
returns-in-Ok-true g c =
    let x = c.args.row.now in
    let a = state g.S.Store c.args.conn.now in
    put_there (set_node x) (with_node x) (with_node x) (λ k. is_some (at_by node_key x.node k.nodes)) a (state g.S.Store c.update_node.new.conn)
    c.in-Ok-true.field-0 c.in-Ok-true.ensures.made c.in-Ok-true.ensures.found tt c.in-Ok-true.field-0-test
    (λ k at is. put_over x k a.now at is)

pub returns-in-Ok-false : goal.returns-in-Ok-false
returns-in-Ok-false g c =
    let x = c.args.row.now in
    put_anew (set_node x) (with_node x) (with_node x) (λ k. is_some (at_by node_key x.node k.nodes)) (state g.S.Store c.args.conn.now)
    (state g.S.Store c.update_node.new.conn) c.in-Ok-false.field-0 c.in-Ok-false.ensures.made c.in-Ok-false.ensures.found
    (state g.S.Store c.insert_node.new.conn) c.insert_node.result c.in-Ok-false.field-0-test c.insert_node.ensures.made (λ k at is. put_new x k is)
