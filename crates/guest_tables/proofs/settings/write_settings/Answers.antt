use Rattle.std.proofs.Common.{arith}
use Rattle.sqlite.specs.Held.{state}
use Rattle.guest_tables.specs.Settling.{with_settings}
use Rattle.guest_tables.proofs.Fitting.{fit_settings, stored_takes}
use Rattle.guest_tables.proofs.settings.write_settings.Goals as goal

pub returns-clause-made : goal.returns-clause-made
returns-clause-made g c = c.write_all.ensures.made

pub returns-clause-fit : goal.returns-clause-fit
returns-clause-fit g c =
    stored_takes (with_settings c.args.settings c.args.pledged)
    (fit_settings c.args.settings c.args.pledged (omega arith) (omega arith) (omega arith) (omega arith))
    (state g.S.Store c.args.conn.now) (state g.S.Store c.write_all.new.conn) c.write_all.result c.write_all.ensures.made
