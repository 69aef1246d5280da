use Rattle.sqlite.specs.Held.{state}
use Rattle.sqlite.specs.Values.{bound}
use Rattle.fuse_store_tables.proofs.CopyRows.{puts_node}
use Rattle.fuse_store_tables.proofs.counted_nodes.insert_counted.Goals as goal

pub returns : goal.returns
returns g c =
    puts_node c.args.row.now c.args.added.now (bound c.added_values-values.result) c.added_values-values.ensures (state g.S.Store c.args.conn.now)
    (state g.S.Store c.run.new.conn) c.run.result c.run.ensures.runs c.run.ensures.survives
