use Rattle.std.proofs.Common.{[]}
use Rattle.sqlite.specs.Held.{state}
use Rattle.fuse_store_tables.specs.Layout.{third_schema, third_with_pieces, with_meta, xattrs}
use Rattle.fuse_store_tables.specs.Making.{IsBare}
use Rattle.fuse_store_tables.proofs.SchemaLemmas.{creates, xattrs_text, xattrs_made, xattrs_edit}
use Rattle.fuse_store_tables.proofs.Joining.{then_as}
use Rattle.fuse_store_tables.proofs.Within.{within_then, within_failed, edits_within}
use Rattle.fuse_store_tables.proofs.third.add_xattrs.Goals as goal

pub returns-clause-made : goal.returns-clause-made
returns-clause-made g c =
    then_as (IsBare with_meta) (IsBare third_with_pieces) (IsBare third_schema) (state g.S.Store c.args.conn.now) (state g.S.Store c.add_pieces.new.conn)
    (state g.S.Store c.run.new.conn) _ c.run.result c.in_ok-add_pieces.ensures.made
    (creates third_with_pieces xattrs xattrs_text xattrs_made (state g.S.Store c.add_pieces.new.conn) (state g.S.Store c.run.new.conn) c.run.result
    c.run.ensures.runs c.run.ensures.survives)

pub returns-in_err-add_pieces-clause-within : goal.returns-in_err-add_pieces-clause-within
returns-in_err-add_pieces-clause-within g c = within_failed _ _ _ _ c.in_err-add_pieces.ensures.within c.from_residual.ensures.0

pub returns-clause-within : goal.returns-clause-within
returns-clause-within g c =
    within_then _ _ _ _ _ c.in_ok-add_pieces.ensures.within (edits_within _ [] xattrs_edit (state g.S.Store c.add_pieces.new.conn) (state g.S.Store c.run.new.conn)
    c.run.result
    c.run.ensures.runs c.run.ensures.survives)
