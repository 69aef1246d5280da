use Rattle.std.proofs.Common.{sym, subst}
use Rattle.sqlite.specs.Held.{state}
use Rattle.fuse_store_tables.specs.Layout.{no_schema}
use Rattle.fuse_store_tables.specs.Making.{IsBare, IsNew}
use Rattle.fuse_store_tables.specs.Moves.{Takes}
use Rattle.fuse_store_tables.proofs.creation.make_all.Goals as goal

pub returns-in-None-clause-made : goal.returns-in-None-clause-made
returns-in-None-clause-made g c =
    subst (λ volume. Takes (IsBare no_schema) (IsNew volume c.args.from) (state g.S.Store c.args.conn.now) (state g.S.Store c.make_plain.new.conn) c.make_plain.result)
    (sym c.in-None.is) c.make_plain.ensures.made

pub returns-in-Some-clause-made : goal.returns-in-Some-clause-made
returns-in-Some-clause-made g c =
    subst (λ volume. Takes (IsBare no_schema) (IsNew volume c.args.from) (state g.S.Store c.args.conn.now) (state g.S.Store c.make_everyday.new.conn)
    c.make_everyday.result)
    (sym c.in-Some.is) c.make_everyday.ensures.made
