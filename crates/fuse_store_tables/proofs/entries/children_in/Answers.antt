use Rattle.std.proofs.Common.{◌≡◌, ℕ, IfOk, take, map, filter, sym, subst}
use Rattle.sqlite.specs.Held.{state}
use Rattle.fuse_store_tables.specs.declared.version.Layout.TheVariants.{Second, Third}
use Rattle.fuse_store_tables.specs.Content.{Content, shown_child, stands_after}
use Rattle.fuse_store_tables.specs.Moves.{InsideAs, Takes}
use Rattle.fuse_store_tables.specs.inner.Steps.{HoldsIn}
use Rattle.fuse_store_tables.proofs.ChildRows.{makes, shows}
use Rattle.fuse_store_tables.proofs.entries.children_in.Goals as goal

pub returns-in-Second-clause-made : goal.returns-in-Second-clause-made
returns-in-Second-clause-made g c = λ dir cookie limit bound.
    subst (λ l. Takes (HoldsIn l) (HoldsIn l) (state g.S.Store c.args.conn.now) (state g.S.Store c.query_all.new.self) c.query_all.result) (sym c.in-Second.is)
    (makes Second (λ rows. rows.items) dir cookie limit (state g.S.Store c.args.conn.now) (state g.S.Store c.query_all.new.self) c.query_all.result
    (rw bound at c.query_all.ensures.ok) (rw bound at c.query_all.ensures.err) (rw bound at c.query_all.ensures.survives))

pub returns-in-Second-clause-found : goal.returns-in-Second-clause-found
returns-in-Second-clause-found g c = λ dir cookie limit bound clean.
    subst (λ l. IfOk c.query_all.result (λ rows. (k : Content) → InsideAs (HoldsIn l k) (state g.S.Store c.args.conn.now)
    → rows.items ≡ take limit (map (shown_child k) (filter (stands_after dir cookie) k.entries)))) (sym c.in-Second.is)
    (shows Second (λ rows. rows.items) dir cookie limit (state g.S.Store c.args.conn.now) (state g.S.Store c.query_all.new.self) c.query_all.result
    (rw bound at c.query_all.ensures.ok) clean)

pub returns-in-Third-clause-made : goal.returns-in-Third-clause-made
returns-in-Third-clause-made g c = λ dir cookie limit bound.
    subst (λ l. Takes (HoldsIn l) (HoldsIn l) (state g.S.Store c.args.conn.now) (state g.S.Store c.query_all-in-Third.new.self) c.query_all-in-Third.result) (sym c.in-Third.is)
    (makes Third (λ rows. rows.items) dir cookie limit (state g.S.Store c.args.conn.now) (state g.S.Store c.query_all-in-Third.new.self) c.query_all-in-Third.result
    (rw bound at c.query_all-in-Third.ensures.ok) (rw bound at c.query_all-in-Third.ensures.err) (rw bound at c.query_all-in-Third.ensures.survives))

pub returns-in-Third-clause-found : goal.returns-in-Third-clause-found
returns-in-Third-clause-found g c = λ dir cookie limit bound clean.
    subst (λ l. IfOk c.query_all-in-Third.result (λ rows. (k : Content) → InsideAs (HoldsIn l k) (state g.S.Store c.args.conn.now)
    → rows.items ≡ take limit (map (shown_child k) (filter (stands_after dir cookie) k.entries)))) (sym c.in-Third.is)
    (shows Third (λ rows. rows.items) dir cookie limit (state g.S.Store c.args.conn.now) (state g.S.Store c.query_all-in-Third.new.self) c.query_all-in-Third.result
    (rw bound at c.query_all-in-Third.ensures.ok) clean)
