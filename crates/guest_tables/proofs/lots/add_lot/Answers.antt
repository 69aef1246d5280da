use Rattle.std.proofs.Common.{◌+◌}
use Rattle.guest_tables.specs.Content.{set_counter, with_lot}
use Rattle.guest_tables.proofs.Joining.{makes_then}
use Rattle.guest_tables.proofs.lots.add_lot.Goals as goal

pub returns : goal.returns
returns g c = makes_then (with_lot c.args.lot) (set_counter 11 (c.args.lot + 1)) _ _ _ _ _ c.in_ok-insert_lot.ensures.made c.update_counter.ensures
