use Rattle.std.proofs.Common.{◌≡◌, IfOk, sym, subst}
use Rattle.std.specs.Option.{is_some}
use Rattle.sqlite.specs.Held.{state}
use Rattle.fuse_store_tables.specs.declared.version.Layout.TheVariants.{Second, Third}
use Rattle.fuse_store_tables.specs.Content.{Content, Holds, at_by, node_key, set_node}
use Rattle.fuse_store_tables.specs.Moves.{InsideAs, Takes}
use Rattle.fuse_store_tables.specs.inner.Steps.{HoldsIn}
use Rattle.fuse_store_tables.proofs.NodeRows.{sets, sets_some}
use Rattle.fuse_store_tables.proofs.nodes.update_in.Goals as goal

pub returns-in-Second-clause-made : goal.returns-in-Second-clause-made
returns-in-Second-clause-made g c =
    subst (λ l. Takes (HoldsIn l) (λ k. Holds (set_node c.args.row.now k)) (state g.S.Store c.args.conn.now) (state g.S.Store c.run_any.new.conn) c.run_any.result)
    (sym c.in-Second.is)
    (sets Second c.args.row.now (state g.S.Store c.args.conn.now) (state g.S.Store c.run_any.new.conn) c.run_any.result
    (rw c.node_values-values.ensures at c.run_any.ensures.runs) (rw c.node_values-values.ensures at c.run_any.ensures.survives))

pub returns-in-Second-clause-found : goal.returns-in-Second-clause-found
returns-in-Second-clause-found g c = λ clean.
    subst (λ l. IfOk c.run_any.result (λ found. (k : Content) → InsideAs (HoldsIn l k) (state g.S.Store c.args.conn.now)
    → found ≡ is_some (at_by node_key c.args.row.now.node k.nodes)))
    (sym c.in-Second.is)
    (sets_some Second c.args.row.now (state g.S.Store c.args.conn.now) (state g.S.Store c.run_any.new.conn) c.run_any.result
    (rw c.node_values-values.ensures at c.run_any.ensures.runs) clean)

pub returns-in-Third-clause-made : goal.returns-in-Third-clause-made
returns-in-Third-clause-made g c =
    subst (λ l. Takes (HoldsIn l) (λ k. Holds (set_node c.args.row.now k)) (state g.S.Store c.args.conn.now) (state g.S.Store c.run_any-in-Third.new.conn) c.run_any-in-Third.result)
    (sym c.in-Third.is)
    (sets Third c.args.row.now (state g.S.Store c.args.conn.now) (state g.S.Store c.run_any-in-Third.new.conn) c.run_any-in-Third.result
    (rw c.third_values-values.ensures at c.run_any-in-Third.ensures.runs) (rw c.third_values-values.ensures at c.run_any-in-Third.ensures.survives))

pub returns-in-Third-clause-found : goal.returns-in-Third-clause-found
returns-in-Third-clause-found g c = λ clean.
    subst (λ l. IfOk c.run_any-in-Third.result (λ found. (k : Content) → InsideAs (HoldsIn l k) (state g.S.Store c.args.conn.now)
    → found ≡ is_some (at_by node_key c.args.row.now.node k.nodes)))
    (sym c.in-Third.is)
    (sets_some Third c.args.row.now (state g.S.Store c.args.conn.now) (state g.S.Store c.run_any-in-Third.new.conn) c.run_any-in-Third.result
    (rw c.third_values-values.ensures at c.run_any-in-Third.ensures.runs) clean)
