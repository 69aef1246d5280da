use Rattle.std.proofs.Common.{◌+◌}
use Rattle.sqlite.specs.Held.{state}
use Rattle.guest_tables.specs.Content.{next_lot_key, set_counter, with_lot}
use Rattle.guest_store.proofs.Tables.{makes_then}
use Rattle.guest_store.proofs.lots.add_lot.Goals as goal

pub returns : goal.returns
returns g c =
    makes_then (with_lot c.args.lot) (set_counter next_lot_key (c.args.lot + 1)) (state g.S.Store c.args.conn.now) (state g.S.Store c.insert_lot.new.conn)
    (state g.S.Store c.update_counter.new.conn) _ c.update_counter.result c.in_ok-insert_lot.ensures.made c.update_counter.ensures
