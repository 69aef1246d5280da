use Rattle.std.proofs.Common.{[]}
use Rattle.sqlite.specs.Held.{state}
use Rattle.fuse_store_tables.specs.Layout.{no_schema, meta}
use Rattle.fuse_store_tables.proofs.SchemaLemmas.{creates, meta_text, meta_made}
use Rattle.fuse_store_tables.proofs.Within.{edits_within, meta_edit}
use Rattle.fuse_store_tables.proofs.Taken.{meta_refused}
use Rattle.fuse_store_tables.proofs.creation.make_meta.Goals as goal

pub returns-clause-made : goal.returns-clause-made
returns-clause-made g c = creates no_schema meta meta_text meta_made (state g.S.Store c.args.conn.now) (state g.S.Store c.run.new.conn) c.run.result
    c.run.ensures.runs c.run.ensures.survives

pub returns-clause-within : goal.returns-clause-within
returns-clause-within g c =
    edits_within _ [] meta_edit (state g.S.Store c.args.conn.now) (state g.S.Store c.run.new.conn) c.run.result c.run.ensures.runs c.run.ensures.survives

pub returns-clause-taken : goal.returns-clause-taken
returns-clause-taken g c = λ clean has.
    meta_refused (state g.S.Store c.args.conn.now) (state g.S.Store c.run.new.conn) c.run.result has (c.run.ensures.runs clean)
