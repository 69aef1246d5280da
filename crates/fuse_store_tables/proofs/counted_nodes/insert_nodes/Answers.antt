use Rattle.std.proofs.Common.{suc, refl, arith, add-one, Ok, Err}
use Rattle.sqlite.specs.Held.{state}
use Rattle.fuse_store_tables.specs.inner.Copies.{NodesGiven, NodesPut}
use Rattle.fuse_store_tables.proofs.CopyRows.{NodesBefore, no_nodes_before, node_more, all_nodes}
use Rattle.fuse_store_tables.proofs.Joining.{fails_as}
use Rattle.fuse_store_tables.proofs.counted_nodes.insert_nodes.Goals as goal

pub returns-in-Err : goal.returns-in-Err
returns-in-Err g c =
    let rows = c.args.rows.now in
    let added = c.args.added.now in
    fails_as (NodesGiven rows added) (NodesBefore (suc c.rows.at)) NodesPut _ _ c.in-Err.error c.in-Err.error
    (node_more rows added c.rows.at c.index-rows-at.result c.rows-test.true c.index-rows-at.is
    (state g.S.Store c.args.conn.now) (state g.S.Store c.rows.conn) (state g.S.Store c.insert_counted.new.conn) c.rows.at (Err c.in-Err.error)
    c.rows.invariant.3 _ c.in-Err.ensures _ refl)

pub rows-preserved : goal.rows-preserved
rows-preserved g c =
    let rows = c.args.rows.now in
    let added = c.args.added.now in
    let more = node_more rows added c.rows.at c.index-rows-at.result c.rows-test.true c.index-rows-at.is
    (state g.S.Store c.args.conn.now) (state g.S.Store c.rows.conn) (state g.S.Store c.insert_counted.new.conn) c.rows.at (Ok _) c.rows.invariant.3 _
    c.in-Ok.ensures _ refl in
    (refl, refl, omega (arith, c.rows-test.true), rw add-one (record { stays = more.stays; within = more.within; turns = more.turns }))

pub returns : goal.returns
returns g c =
    all_nodes c.args.rows.now c.args.added.now c.rows.at c.rows-test.false (state g.S.Store c.args.conn.now) (state g.S.Store c.rows.conn) c.rows.at tt
    c.rows.invariant.3

pub rows-init : goal.rows-init
rows-init g c = (refl, refl, omega arith, no_nodes_before c.args.rows.now c.args.added.now (state g.S.Store c.args.conn.now))
