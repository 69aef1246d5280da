use Rattle.sqlite.specs.Held.{state}
use Rattle.guest_tables.proofs.CounterRows.{sets, update_edit}
use Rattle.guest_tables.proofs.any_schema.Edits.{edits_within}
use Rattle.guest_tables.proofs.counters.write_counter.Goals as goal

pub returns-clause-made : goal.returns-clause-made
returns-clause-made g c =
    sets c.args.key c.args.value (state g.S.Store c.args.conn.now) (state g.S.Store c.run.new.conn) c.run.result (rw c.keyed_bits-values.ensures at
    c.run.ensures.runs)
    (rw c.keyed_bits-values.ensures at c.run.ensures.survives)

pub returns-clause-within : goal.returns-clause-within
returns-clause-within g c =
    edits_within _ _ update_edit (state g.S.Store c.args.conn.now) (state g.S.Store c.run.new.conn) c.run.result c.run.ensures.runs c.run.ensures.survives
