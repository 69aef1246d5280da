use Rattle.std.proofs.Common.{[]}
use Rattle.sqlite.specs.Held.{state}
use Rattle.fuse_store_tables.specs.Layout.{no_schema, meta}
use Rattle.guest_tables.proofs.any_schema.SchemaLemmas.{creates, meta_text, meta_made}
use Rattle.guest_tables.proofs.creation.make_meta.Goals as goal

pub returns : goal.returns
returns g c = creates no_schema meta meta_text meta_made (state g.S.Store c.args.conn.now) (state g.S.Store c.run.new.conn) c.run.result
    c.run.ensures.runs c.run.ensures.survives
