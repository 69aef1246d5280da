use Rattle.std.proofs.Common.{[]}
use Rattle.sqlite.specs.Held.{state}
use Rattle.fuse_store_tables.specs.Layout.{with_meta, with_answers, lots, with_lots}
use Rattle.fuse_store_tables.specs.Making.{IsBare}
use Rattle.fuse_store_tables.proofs.SchemaLemmas.{creates, lots_text, lots_made}
use Rattle.fuse_store_tables.proofs.Joining.{then_as}
use Rattle.fuse_store_tables.proofs.Within.{within_then, within_failed, edits_within, lots_made_edit}
use Rattle.fuse_store_tables.proofs.creation.make_lots.Goals as goal

pub returns-clause-made : goal.returns-clause-made
returns-clause-made g c =
    then_as (IsBare with_meta) (IsBare with_answers) (IsBare with_lots) (state g.S.Store c.args.conn.now) (state g.S.Store c.make_answers.new.conn)
    (state g.S.Store c.run.new.conn) _ c.run.result c.in_ok-make_answers.ensures.made
    (creates with_answers lots lots_text lots_made (state g.S.Store c.make_answers.new.conn) (state g.S.Store c.run.new.conn) c.run.result
    c.run.ensures.runs c.run.ensures.survives)

pub returns-in_err-make_answers-clause-within : goal.returns-in_err-make_answers-clause-within
returns-in_err-make_answers-clause-within g c = within_failed _ _ _ _ c.in_err-make_answers.ensures.within c.from_residual.ensures.0

pub returns-clause-within : goal.returns-clause-within
returns-clause-within g c =
    within_then _ _ _ _ _ c.in_ok-make_answers.ensures.within (edits_within _ [] lots_made_edit (state g.S.Store c.make_answers.new.conn) (state g.S.Store c.run.new.conn) c.run.result
    c.run.ensures.runs c.run.ensures.survives)
