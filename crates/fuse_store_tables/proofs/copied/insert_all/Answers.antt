use Rattle.std.proofs.Common.{suc, refl, subst, arith, add-one, Ok, Err}
use Rattle.sqlite.specs.Held.{state}
use Rattle.fuse_store_tables.specs.inner.Copies.{RowsGiven, RowsPut}
use Rattle.fuse_store_tables.specs.Moves.{Takes}
use Rattle.fuse_store_tables.proofs.CopyRows.{RowsBefore, none_before, one_more, all_put}
use Rattle.fuse_store_tables.proofs.Joining.{fails_as}
use Rattle.fuse_store_tables.proofs.copied.insert_all.Goals as goal

pub returns-in-Err : goal.returns-in-Err
returns-in-Err g c =
    let k = c.args.table in
    let rows = c.args.rows.now in
    fails_as (RowsGiven k rows) (RowsBefore k (suc c.rows.at)) (RowsPut k) _ _ c.in-Err.error c.in-Err.error
    (one_more k rows c.rows.at c.index-rows-at.result c.rows-test.true c.index-rows-at.is (state g.S.Store c.args.conn.now) (state g.S.Store c.rows.conn)
    (state g.S.Store c.insert_copy.new.conn) c.rows.at (Err c.in-Err.error) c.rows.invariant.3 c.in-Err.ensures)

pub rows-preserved : goal.rows-preserved
rows-preserved g c =
    let k = c.args.table in
    let rows = c.args.rows.now in
    let more = one_more k rows c.rows.at c.index-rows-at.result c.rows-test.true c.index-rows-at.is (state g.S.Store c.args.conn.now)
    (state g.S.Store c.rows.conn) (state g.S.Store c.insert_copy.new.conn) c.rows.at (Ok _) c.rows.invariant.3 c.in-Ok.ensures in
    (refl, refl, omega (arith, c.rows-test.true), rw add-one (record { stays = more.stays; within = more.within; turns = more.turns }))

pub returns : goal.returns
returns g c =
    all_put c.args.table c.args.rows.now c.rows.at c.rows-test.false (state g.S.Store c.args.conn.now) (state g.S.Store c.rows.conn) c.rows.at tt c.rows.invariant.3

pub rows-init : goal.rows-init
rows-init g c = (refl, refl, omega arith, none_before c.args.table c.args.rows.now (state g.S.Store c.args.conn.now))
