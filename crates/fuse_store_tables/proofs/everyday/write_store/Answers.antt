use Rattle.sqlite.specs.Held.{state}
use Rattle.fuse_store_tables.proofs.Filling.{all_counted}
use Rattle.fuse_store_tables.proofs.everyday.write_store.Goals as goal

pub returns : goal.returns
returns g c =
    all_counted c.args.copies.now c.args.used c.args.number (state g.S.Store c.args.conn.now) (state g.S.Store c.refill.new.conn)
    (state g.S.Store c.mark_third.new.conn) _ c.mark_third.result c.in_ok-refill.ensures c.mark_third.ensures
