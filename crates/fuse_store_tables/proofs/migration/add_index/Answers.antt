use Rattle.std.proofs.Common.{[]}
use Rattle.sqlite.specs.Held.{state}
use Rattle.fuse_store_tables.proofs.MigrationLemmas.{adds_index}
use Rattle.fuse_store_tables.proofs.Within.{edits_within, index_made_edit}
use Rattle.fuse_store_tables.proofs.migration.add_index.Goals as goal

pub returns-clause-made : goal.returns-clause-made
returns-clause-made g c = adds_index (state g.S.Store c.args.conn.now) (state g.S.Store c.run.new.conn) c.run.result c.run.ensures.runs
    c.run.ensures.survives

pub returns-clause-within : goal.returns-clause-within
returns-clause-within g c =
    edits_within _ [] index_made_edit (state g.S.Store c.args.conn.now) (state g.S.Store c.run.new.conn) c.run.result c.run.ensures.runs c.run.ensures.survives
