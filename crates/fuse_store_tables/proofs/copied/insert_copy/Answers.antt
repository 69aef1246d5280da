use Rattle.sqlite.specs.Held.{state}
use Rattle.sqlite.specs.Values.{bound}
use Rattle.fuse_store_tables.proofs.CopyRows.{puts_copy, same_one, same_two, same_three, same_four}
use Rattle.fuse_store_tables.proofs.copied.insert_copy.Goals as goal

pub returns-in-Counters : goal.returns-in-Counters
returns-in-Counters g c =
    puts_copy c.args.table c.put_text-text.result.now (bound c.two_values-values.result) c.args.row.now c.put_text-text.ensures
    (same_two c.args.row.now (bound c.two_values-values.result) c.two_values-values.ensures c.args.table c.in-Counters.is) (state g.S.Store c.args.conn.now)
    (state g.S.Store c.run.new.conn) c.run.result c.run.ensures.runs c.run.ensures.survives

pub returns-in-Handles : goal.returns-in-Handles
returns-in-Handles g c =
    puts_copy c.args.table c.put_text-text.result.now (bound c.three_values-values.result) c.args.row.now c.put_text-text.ensures
    (same_three c.args.row.now (bound c.three_values-values.result) c.three_values-values.ensures c.args.table c.in-Handles.is) (state g.S.Store c.args.conn.now)
    (state g.S.Store c.run-in-Handles.new.conn) c.run-in-Handles.result c.run-in-Handles.ensures.runs c.run-in-Handles.ensures.survives

pub returns-in-Lots : goal.returns-in-Lots
returns-in-Lots g c =
    puts_copy c.args.table c.put_text-text.result.now (bound c.one_value-values.result) c.args.row.now c.put_text-text.ensures
    (same_one c.args.row.now (bound c.one_value-values.result) c.one_value-values.ensures c.args.table c.in-Lots.is) (state g.S.Store c.args.conn.now)
    (state g.S.Store c.run-in-Lots.new.conn) c.run-in-Lots.result c.run-in-Lots.ensures.runs c.run-in-Lots.ensures.survives

pub returns-in-Entries : goal.returns-in-Entries
returns-in-Entries g c =
    puts_copy c.args.table c.put_text-text.result.now (bound c.four_values-values.result) c.args.row.now c.put_text-text.ensures
    (same_four c.args.row.now (bound c.four_values-values.result) c.four_values-values.ensures c.args.table c.in-Entries.is) (state g.S.Store c.args.conn.now)
    (state g.S.Store c.run-in-Entries.new.conn) c.run-in-Entries.result c.run-in-Entries.ensures.runs c.run-in-Entries.ensures.survives
