use Rattle.std.proofs.Common.{◌∙◌}
use Rattle.sqlite.specs.Held.{state}
use Rattle.guest_tables.proofs.PairJoins.{look_told, look_untold, look_failed}
use Rattle.guest_tables.proofs.PairValues.{value_told, value_untold}
use Rattle.guest_tables.proofs.pairs.select_pair.Goals as goal

pub returns-clause-looks : goal.returns-clause-looks
returns-clause-looks g c =
    look_told (state g.S.Store c.args.conn.now) (state g.S.Store c.select_value.new.conn) c.in_ok-rows.rows c.value_in.result c.in_ok-rows.ensures.looks

pub returns-clause-fails : goal.returns-clause-fails
returns-clause-fails g c =
    look_untold (state g.S.Store c.args.conn.now) (state g.S.Store c.select_value.new.conn) c.in_ok-rows.rows c.value_in.result c.in_ok-rows.ensures.looks

pub returns-clause-value : goal.returns-clause-value
returns-clause-value g c clean =
    value_told (λ v. v.items) c.value_in.result c.as_slice.result.now (state g.S.Store c.args.conn.now) c.args.key.now
    (λ k at. c.as_slice.ensures.value ∙ c.in_ok-rows.ensures.found clean k at) c.value_in.ensures.value

pub returns-clause-fault : goal.returns-clause-fault
returns-clause-fault g c clean =
    value_untold c.value_in.result c.as_slice.result.now (state g.S.Store c.args.conn.now) c.args.key.now
    (λ k at. c.as_slice.ensures.value ∙ c.in_ok-rows.ensures.found clean k at) c.value_in.ensures.fault

pub returns-in_err-rows-clause-fails : goal.returns-in_err-rows-clause-fails
returns-in_err-rows-clause-fails g c =
    look_failed (state g.S.Store c.args.conn.now) (state g.S.Store c.select_value.new.conn) _ c.from_residual.result c.in_err-rows.ensures.looks
