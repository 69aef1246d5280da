use Rattle.std.proofs.Common.{[]}
use Rattle.sqlite.specs.Held.{state}
use Rattle.fuse_store_tables.specs.Layout.{with_meta, with_blocks, handles, with_handles}
use Rattle.fuse_store_tables.specs.Making.{IsBare}
use Rattle.fuse_store_tables.proofs.SchemaLemmas.{creates, handles_text, handles_made}
use Rattle.fuse_store_tables.proofs.Joining.{then_as}
use Rattle.fuse_store_tables.proofs.Within.{within_then, within_failed, edits_within, handles_made_edit}
use Rattle.fuse_store_tables.proofs.creation.make_handles.Goals as goal

pub returns-clause-made : goal.returns-clause-made
returns-clause-made g c =
    then_as (IsBare with_meta) (IsBare with_blocks) (IsBare with_handles) (state g.S.Store c.args.conn.now) (state g.S.Store c.make_blocks.new.conn)
    (state g.S.Store c.run.new.conn) _ c.run.result c.in_ok-make_blocks.ensures.made
    (creates with_blocks handles handles_text handles_made (state g.S.Store c.make_blocks.new.conn) (state g.S.Store c.run.new.conn) c.run.result
    c.run.ensures.runs c.run.ensures.survives)

pub returns-in_err-make_blocks-clause-within : goal.returns-in_err-make_blocks-clause-within
returns-in_err-make_blocks-clause-within g c = within_failed _ _ _ _ c.in_err-make_blocks.ensures.within c.from_residual.ensures.0

pub returns-clause-within : goal.returns-clause-within
returns-clause-within g c =
    within_then _ _ _ _ _ c.in_ok-make_blocks.ensures.within (edits_within _ [] handles_made_edit (state g.S.Store c.make_blocks.new.conn) (state g.S.Store c.run.new.conn) c.run.result
    c.run.ensures.runs c.run.ensures.survives)
