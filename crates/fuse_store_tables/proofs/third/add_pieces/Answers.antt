use Rattle.std.proofs.Common.{[]}
use Rattle.sqlite.specs.Held.{state}
use Rattle.fuse_store_tables.specs.Layout.{pieces, third_with_kept, third_with_pieces, with_meta}
use Rattle.fuse_store_tables.specs.Making.{IsBare}
use Rattle.fuse_store_tables.proofs.SchemaLemmas.{creates, pieces_text, pieces_made, pieces_edit}
use Rattle.fuse_store_tables.proofs.Joining.{then_as}
use Rattle.fuse_store_tables.proofs.Within.{within_then, within_failed, edits_within}
use Rattle.fuse_store_tables.proofs.third.add_pieces.Goals as goal

pub returns-clause-made : goal.returns-clause-made
returns-clause-made g c =
    then_as (IsBare with_meta) (IsBare third_with_kept) (IsBare third_with_pieces) (state g.S.Store c.args.conn.now) (state g.S.Store c.add_kept.new.conn)
    (state g.S.Store c.run.new.conn) _ c.run.result c.in_ok-add_kept.ensures.made
    (creates third_with_kept pieces pieces_text pieces_made (state g.S.Store c.add_kept.new.conn) (state g.S.Store c.run.new.conn) c.run.result
    c.run.ensures.runs c.run.ensures.survives)

pub returns-in_err-add_kept-clause-within : goal.returns-in_err-add_kept-clause-within
returns-in_err-add_kept-clause-within g c = within_failed _ _ _ _ c.in_err-add_kept.ensures.within c.from_residual.ensures.0

pub returns-clause-within : goal.returns-clause-within
returns-clause-within g c =
    within_then _ _ _ _ _ c.in_ok-add_kept.ensures.within (edits_within _ [] pieces_edit (state g.S.Store c.add_kept.new.conn) (state g.S.Store c.run.new.conn)
    c.run.result
    c.run.ensures.runs c.run.ensures.survives)
