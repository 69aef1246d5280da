use Rattle.std.proofs.Common.{[]}
use Rattle.sqlite.specs.Held.{state}
use Rattle.fuse_store_tables.specs.Layout.{store_schema, kept}
use Rattle.fuse_store_tables.specs.inner.Dropping.{left_by_kept}
use Rattle.fuse_store_tables.proofs.Drops.{drops, kept_text, kept_dropped}
use Rattle.fuse_store_tables.proofs.dropping.drop_kept.Goals as goal

pub returns : goal.returns
returns g c =
    drops store_schema 7 kept left_by_kept kept_text kept_dropped (state g.S.Store c.args.conn.now) (state g.S.Store c.run.new.conn) c.run.result
    c.run.ensures.runs c.run.ensures.survives
