use Rattle.std.proofs.Common.{◌≡◌, IfOk, map, sym, subst}
use Rattle.std.specs.Option.{option_to_list}
use Rattle.sqlite.specs.Held.{state}
use Rattle.fuse_store_tables.specs.declared.version.Layout.TheVariants.{Second, Third}
use Rattle.fuse_store_tables.specs.Content.{Content, at_by, node_key, node_columns}
use Rattle.fuse_store_tables.specs.Moves.{InsideAs, Takes}
use Rattle.fuse_store_tables.specs.inner.Steps.{HoldsIn}
use Rattle.fuse_store_tables.proofs.NodeRows.{look_makes, look_finds}
use Rattle.fuse_store_tables.proofs.nodes.select_in.Goals as goal

pub returns-in-Second-clause-made : goal.returns-in-Second-clause-made
returns-in-Second-clause-made g c =
    subst (λ l. Takes (HoldsIn l) (HoldsIn l) (state g.S.Store c.args.conn.now) (state g.S.Store c.query_all.new.self) c.query_all.result) (sym c.in-Second.is)
    (look_makes Second (λ rows. rows.items) c.args.number_of (state g.S.Store c.args.conn.now) (state g.S.Store c.query_all.new.self) c.query_all.result
    (rw c.number-values.ensures at c.query_all.ensures.ok) (rw c.number-values.ensures at c.query_all.ensures.err) (rw c.number-values.ensures at c.query_all.ensures.survives))

pub returns-in-Second-clause-found : goal.returns-in-Second-clause-found
returns-in-Second-clause-found g c = λ clean.
    subst (λ l. IfOk c.query_all.result (λ rows. (k : Content) → InsideAs (HoldsIn l k) (state g.S.Store c.args.conn.now)
    → rows.items ≡ map (node_columns l) (option_to_list (at_by node_key c.args.number_of k.nodes)))) (sym c.in-Second.is)
    (look_finds Second (λ rows. rows.items) c.args.number_of (state g.S.Store c.args.conn.now) (state g.S.Store c.query_all.new.self) c.query_all.result
    (rw c.number-values.ensures at c.query_all.ensures.ok) clean)

pub returns-in-Third-clause-made : goal.returns-in-Third-clause-made
returns-in-Third-clause-made g c =
    subst (λ l. Takes (HoldsIn l) (HoldsIn l) (state g.S.Store c.args.conn.now) (state g.S.Store c.query_all-in-Third.new.self) c.query_all-in-Third.result) (sym c.in-Third.is)
    (look_makes Third (λ rows. rows.items) c.args.number_of (state g.S.Store c.args.conn.now) (state g.S.Store c.query_all-in-Third.new.self) c.query_all-in-Third.result
    (rw c.number-values.ensures at c.query_all-in-Third.ensures.ok) (rw c.number-values.ensures at c.query_all-in-Third.ensures.err) (rw c.number-values.ensures at c.query_all-in-Third.ensures.survives))

pub returns-in-Third-clause-found : goal.returns-in-Third-clause-found
returns-in-Third-clause-found g c = λ clean.
    subst (λ l. IfOk c.query_all-in-Third.result (λ rows. (k : Content) → InsideAs (HoldsIn l k) (state g.S.Store c.args.conn.now)
    → rows.items ≡ map (node_columns l) (option_to_list (at_by node_key c.args.number_of k.nodes)))) (sym c.in-Third.is)
    (look_finds Third (λ rows. rows.items) c.args.number_of (state g.S.Store c.args.conn.now) (state g.S.Store c.query_all-in-Third.new.self) c.query_all-in-Third.result
    (rw c.number-values.ensures at c.query_all-in-Third.ensures.ok) clean)
