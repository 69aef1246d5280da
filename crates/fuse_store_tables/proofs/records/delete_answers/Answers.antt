use Rattle.std.proofs.Common.{[]}
use Rattle.sqlite.specs.Held.{state}
use Rattle.fuse_store_tables.proofs.Emptied.{removes_answers}
use Rattle.fuse_store_tables.proofs.Within.{edits_within, answers_edit}
use Rattle.fuse_store_tables.proofs.records.delete_answers.Goals as goal

pub returns-clause-made : goal.returns-clause-made
returns-clause-made g c = removes_answers (state g.S.Store c.args.conn.now) (state g.S.Store c.run.new.conn) c.run.result c.run.ensures.runs
    c.run.ensures.survives

pub returns-clause-within : goal.returns-clause-within
returns-clause-within g c =
    edits_within _ [] answers_edit (state g.S.Store c.args.conn.now) (state g.S.Store c.run.new.conn) c.run.result c.run.ensures.runs c.run.ensures.survives
