use Rattle.std.proofs.Common.{[]}
use Rattle.sqlite.specs.Held.{state}
use Rattle.guest_tables.proofs.Emptied.{removes_all_kept, kept_edit}
use Rattle.guest_tables.proofs.any_schema.Edits.{edits_within}
use Rattle.guest_tables.proofs.records.delete_all_kept.Goals as goal

pub returns-clause-made : goal.returns-clause-made
returns-clause-made g c = removes_all_kept (state g.S.Store c.args.conn.now) (state g.S.Store c.run.new.conn) c.run.result c.run.ensures.runs
    c.run.ensures.survives

pub returns-clause-within : goal.returns-clause-within
returns-clause-within g c =
    edits_within _ [] kept_edit (state g.S.Store c.args.conn.now) (state g.S.Store c.run.new.conn) c.run.result c.run.ensures.runs c.run.ensures.survives
