use Rattle.std.proofs.Common.{[], Err, Result}
use Rattle.sqlite.specs.Held.{state}
use Rattle.fuse_keeper.specs.declared.fault.StoreFault.{StoreFault}
use Rattle.fuse_store_tables.specs.inner.Following.{stays_then}
use Rattle.fuse_store_tree.proofs.GoneNodes.{node_goes}
use Rattle.fuse_store_tree.proofs.GoneSteps.{gives_node}
use Rattle.fuse_store_tree.proofs.Sure.{sure_held}
use Rattle.fuse_store_tree.proofs.removal.remove_node.Goals as goal

pub returns-in-Ok-delete_node-clause-changed : goal.returns-in-Ok-delete_node-clause-changed
returns-in-Ok-delete_node-clause-changed g c file =
    node_goes file (state g.S.Store c.args.conn.now) (state g.S.Store c.drop_content.new.conn) (state g.S.Store c.delete_node.new.conn) _ c.args.node
    (c.in-Ok.ensures.cut file) c.in-Ok-delete_node.ensures

pub returns-in-Ok-delete_node-clause-gone : goal.returns-in-Ok-delete_node-clause-gone
returns-in-Ok-delete_node-clause-gone g c file =
    gives_node _ file c.args.gone.now c.drop_content.new.gone (state g.S.Store c.args.conn.now) (state g.S.Store c.drop_content.new.conn)
    (state g.S.Store c.delete_node.new.conn) _ c.args.node (c.in-Ok.ensures.gone file) c.in-Ok-delete_node.ensures

pub returns-in-Err-clause-fails : goal.returns-in-Err-clause-fails
returns-in-Err-clause-fails g c = c.in-Err.ensures.fails

pub returns-in-Err-delete_node-clause-fails : goal.returns-in-Err-delete_node-clause-fails
returns-in-Err-delete_node-clause-fails g c =
    let cut = c.in-Ok.ensures.cut [] in
    stays_then (state g.S.Store c.args.conn.now) (state g.S.Store c.drop_content.new.conn) (state g.S.Store c.delete_node.new.conn) cut.stays cut.within
    c.in-Err-delete_node.ensures.stays

pub returns-in-Err-clause-fault : goal.returns-in-Err-clause-fault
returns-in-Err-clause-fault g c file =
    let failed : Result (Unit {0}) StoreFault = Err c.in-Err.fault in
    sure_held file (state g.S.Store c.args.conn.now) (state g.S.Store c.drop_content.new.conn) failed (c.in-Err.ensures.fault file)
