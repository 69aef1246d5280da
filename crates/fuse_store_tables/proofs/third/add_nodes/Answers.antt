use Rattle.std.proofs.Common.{[]}
use Rattle.sqlite.specs.Held.{state}
use Rattle.fuse_store_tables.specs.Layout.{third_nodes, with_meta}
use Rattle.fuse_store_tables.proofs.SchemaLemmas.{creates, third_nodes_text, third_nodes_made, third_nodes_edit}
use Rattle.fuse_store_tables.proofs.Within.{edits_within}
use Rattle.fuse_store_tables.proofs.third.add_nodes.Goals as goal

pub returns-clause-made : goal.returns-clause-made
returns-clause-made g c =
    creates with_meta third_nodes third_nodes_text third_nodes_made (state g.S.Store c.args.conn.now) (state g.S.Store c.run.new.conn) c.run.result
    c.run.ensures.runs c.run.ensures.survives

pub returns-clause-within : goal.returns-clause-within
returns-clause-within g c =
    edits_within _ [] third_nodes_edit (state g.S.Store c.args.conn.now) (state g.S.Store c.run.new.conn) c.run.result c.run.ensures.runs c.run.ensures.survives
