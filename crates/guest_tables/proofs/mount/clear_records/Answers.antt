use Rattle.sqlite.specs.Held.{state}
use Rattle.guest_tables.specs.inner.Steps.{without_all_kept, without_lots}
use Rattle.guest_tables.proofs.Joining.{makes_then}
use Rattle.guest_tables.proofs.any_schema.Within.{within_then, within_failed}
use Rattle.guest_tables.proofs.mount.clear_records.Goals as goal

pub returns-clause-made : goal.returns-clause-made
returns-clause-made g c =
    makes_then without_all_kept without_lots (state g.S.Store c.args.conn.now) (state g.S.Store c.delete_all_kept.new.conn)
    (state g.S.Store c.delete_all_lots.new.conn) _ c.delete_all_lots.result
    c.in_ok-delete_all_kept.ensures.made c.delete_all_lots.ensures.made

pub returns-in_err-delete_all_kept-clause-within : goal.returns-in_err-delete_all_kept-clause-within
returns-in_err-delete_all_kept-clause-within g c = within_failed _ _ _ _ c.in_err-delete_all_kept.ensures.within c.from_residual.ensures.0

pub returns-clause-within : goal.returns-clause-within
returns-clause-within g c = within_then _ _ _ _ _ c.in_ok-delete_all_kept.ensures.within c.delete_all_lots.ensures.within
