use Rattle.std.proofs.Common.{◌≡◌, None, OnOk, sym, subst}
use Rattle.sqlite.specs.Held.{state}
use Rattle.fuse_store_tables.specs.declared.version.Layout.TheVariants.{Second, Third}
use Rattle.fuse_store_tables.specs.Content.{Content, Holds, at_by, node_key, with_node}
use Rattle.fuse_store_tables.specs.Moves.{InsideAs, Takes}
use Rattle.fuse_store_tables.specs.inner.Steps.{HoldsIn}
use Rattle.fuse_store_tables.proofs.NodeRows.{adds, adds_new, insert_edit}
use Rattle.fuse_store_tables.proofs.Within.{edits_within}
use Rattle.fuse_store_tables.proofs.nodes.insert_in.Goals as goal

pub returns-in-Second-clause-made : goal.returns-in-Second-clause-made
returns-in-Second-clause-made g c =
    subst (λ l. Takes (HoldsIn l) (λ k. Holds (with_node c.args.row.now k)) (state g.S.Store c.args.conn.now) (state g.S.Store c.run.new.conn) c.run.result)
    (sym c.in-Second.is)
    (adds Second c.args.row.now (state g.S.Store c.args.conn.now) (state g.S.Store c.run.new.conn) c.run.result
    (rw c.node_values-values.ensures at c.run.ensures.runs) (rw c.node_values-values.ensures at c.run.ensures.survives))

pub returns-in-Second-clause-fresh : goal.returns-in-Second-clause-fresh
returns-in-Second-clause-fresh g c = λ clean.
    subst (λ l. OnOk c.run.result ((k : Content) → InsideAs (HoldsIn l k) (state g.S.Store c.args.conn.now) → at_by node_key c.args.row.now.node k.nodes ≡ None))
    (sym c.in-Second.is)
    (adds_new Second c.args.row.now (state g.S.Store c.args.conn.now) (state g.S.Store c.run.new.conn) c.run.result
    (rw c.node_values-values.ensures at c.run.ensures.runs) clean)

pub returns-in-Second-clause-within : goal.returns-in-Second-clause-within
returns-in-Second-clause-within g c =
    edits_within _ _ (insert_edit Second) (state g.S.Store c.args.conn.now) (state g.S.Store c.run.new.conn) c.run.result c.run.ensures.runs
    c.run.ensures.survives

pub returns-in-Third-clause-made : goal.returns-in-Third-clause-made
returns-in-Third-clause-made g c =
    subst (λ l. Takes (HoldsIn l) (λ k. Holds (with_node c.args.row.now k)) (state g.S.Store c.args.conn.now) (state g.S.Store c.run-in-Third.new.conn) c.run-in-Third.result)
    (sym c.in-Third.is)
    (adds Third c.args.row.now (state g.S.Store c.args.conn.now) (state g.S.Store c.run-in-Third.new.conn) c.run-in-Third.result
    (rw c.third_values-values.ensures at c.run-in-Third.ensures.runs) (rw c.third_values-values.ensures at c.run-in-Third.ensures.survives))

pub returns-in-Third-clause-fresh : goal.returns-in-Third-clause-fresh
returns-in-Third-clause-fresh g c = λ clean.
    subst (λ l. OnOk c.run-in-Third.result ((k : Content) → InsideAs (HoldsIn l k) (state g.S.Store c.args.conn.now) → at_by node_key c.args.row.now.node k.nodes ≡ None))
    (sym c.in-Third.is)
    (adds_new Third c.args.row.now (state g.S.Store c.args.conn.now) (state g.S.Store c.run-in-Third.new.conn) c.run-in-Third.result
    (rw c.third_values-values.ensures at c.run-in-Third.ensures.runs) clean)

pub returns-in-Third-clause-within : goal.returns-in-Third-clause-within
returns-in-Third-clause-within g c =
    edits_within _ _ (insert_edit Third) (state g.S.Store c.args.conn.now) (state g.S.Store c.run-in-Third.new.conn) c.run-in-Third.result c.run-in-Third.ensures.runs
    c.run-in-Third.ensures.survives
