use Rattle.std.proofs.Common.{[]}
use Rattle.sqlite.specs.Held.{state}
use Rattle.fuse_store_tables.specs.Layout.{with_meta, nodes}
use Rattle.fuse_store_tables.proofs.SchemaLemmas.{creates, nodes_text, nodes_made}
use Rattle.fuse_store_tables.proofs.Within.{edits_within, nodes_edit}
use Rattle.fuse_store_tables.proofs.creation.make_nodes.Goals as goal

pub returns-clause-made : goal.returns-clause-made
returns-clause-made g c = creates with_meta nodes nodes_text nodes_made (state g.S.Store c.args.conn.now) (state g.S.Store c.run.new.conn) c.run.result
    c.run.ensures.runs c.run.ensures.survives

pub returns-clause-within : goal.returns-clause-within
returns-clause-within g c =
    edits_within _ [] nodes_edit (state g.S.Store c.args.conn.now) (state g.S.Store c.run.new.conn) c.run.result c.run.ensures.runs c.run.ensures.survives
