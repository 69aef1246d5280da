use Rattle.std.proofs.Common.{◌≡◌, [], IfOk, map, sym, subst}
use Rattle.sqlite.specs.Held.{state}
use Rattle.fuse_store_tables.specs.declared.version.Layout.TheVariants.{Second, Third}
use Rattle.fuse_store_tables.specs.Content.{Content}
use Rattle.fuse_store_tables.specs.Moves.{InsideAs, Takes}
use Rattle.fuse_store_tables.specs.inner.Columns.{shown_number}
use Rattle.fuse_store_tables.specs.inner.Steps.{HoldsIn, unnamed_extents}
use Rattle.fuse_store_tables.proofs.Queries.{reads_within}
use Rattle.fuse_store_tables.proofs.Unnamed.{extents_make, extents_find, extents_select}
use Rattle.fuse_store_tables.proofs.nodes.select_unnamed_extents.Goals as goal

pub returns-in-Second-clause-made : goal.returns-in-Second-clause-made
returns-in-Second-clause-made g c =
    subst (λ l. Takes (HoldsIn l) (HoldsIn l) (state g.S.Store c.args.conn.now) (state g.S.Store c.query_all.new.self) c.query_all.result) (sym c.in-Second.is)
    (extents_make Second (λ rows. rows.items) (state g.S.Store c.args.conn.now) (state g.S.Store c.query_all.new.self) c.query_all.result
    c.query_all.ensures.ok c.query_all.ensures.err c.query_all.ensures.survives)

pub returns-in-Second-clause-found : goal.returns-in-Second-clause-found
returns-in-Second-clause-found g c = λ clean.
    subst (λ l. IfOk c.query_all.result (λ rows. (k : Content) → InsideAs (HoldsIn l k) (state g.S.Store c.args.conn.now)
    → rows.items ≡ map shown_number (unnamed_extents l k.nodes))) (sym c.in-Second.is)
    (extents_find Second (λ rows. rows.items) (state g.S.Store c.args.conn.now) (state g.S.Store c.query_all.new.self) c.query_all.result c.query_all.ensures.ok clean)

pub returns-in-Second-clause-within : goal.returns-in-Second-clause-within
returns-in-Second-clause-within g c =
    reads_within _ [] (extents_select Second) (λ rows. rows.items) (state g.S.Store c.args.conn.now) (state g.S.Store c.query_all.new.self) c.query_all.result
    c.query_all.ensures.ok c.query_all.ensures.err c.query_all.ensures.survives

pub returns-in-Third-clause-made : goal.returns-in-Third-clause-made
returns-in-Third-clause-made g c =
    subst (λ l. Takes (HoldsIn l) (HoldsIn l) (state g.S.Store c.args.conn.now) (state g.S.Store c.query_all-in-Third.new.self) c.query_all-in-Third.result) (sym c.in-Third.is)
    (extents_make Third (λ rows. rows.items) (state g.S.Store c.args.conn.now) (state g.S.Store c.query_all-in-Third.new.self) c.query_all-in-Third.result
    c.query_all-in-Third.ensures.ok c.query_all-in-Third.ensures.err c.query_all-in-Third.ensures.survives)

pub returns-in-Third-clause-found : goal.returns-in-Third-clause-found
returns-in-Third-clause-found g c = λ clean.
    subst (λ l. IfOk c.query_all-in-Third.result (λ rows. (k : Content) → InsideAs (HoldsIn l k) (state g.S.Store c.args.conn.now)
    → rows.items ≡ map shown_number (unnamed_extents l k.nodes))) (sym c.in-Third.is)
    (extents_find Third (λ rows. rows.items) (state g.S.Store c.args.conn.now) (state g.S.Store c.query_all-in-Third.new.self) c.query_all-in-Third.result c.query_all-in-Third.ensures.ok clean)

pub returns-in-Third-clause-within : goal.returns-in-Third-clause-within
returns-in-Third-clause-within g c =
    reads_within _ [] (extents_select Third) (λ rows. rows.items) (state g.S.Store c.args.conn.now) (state g.S.Store c.query_all-in-Third.new.self) c.query_all-in-Third.result
    c.query_all-in-Third.ensures.ok c.query_all-in-Third.ensures.err c.query_all-in-Third.ensures.survives
