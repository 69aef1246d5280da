use Rattle.std.proofs.Common.{inr, sym, subst}
use Rattle.sqlite.specs.Held.{state}
use Rattle.sqlite.specs.Effect.{Database}
use Rattle.fuse_store_tables.specs.Refusing.{HasMetaTable, IsNameTaken}
use Rattle.fuse_store_tables.specs.inner.Following.{earlier}
use Rattle.fuse_store_tables.proofs.Alone.{commits_then, begins_nothing}
use Rattle.fuse_store_tables.proofs.Within.{nothing_within}
use Rattle.fuse_store_tables.proofs.Taken.{passed_on}
use Rattle.fuse_store_tables.proofs.creation.attempt.Goals as goal

pub returns-in_err-begin_first-clause-nothing : goal.returns-in_err-begin_first-clause-nothing
returns-in_err-begin_first-clause-nothing g c = begins_nothing _ _ _ c.in_err-begin_first.ensures.begins

pub returns-clause-nothing : goal.returns-clause-nothing
returns-clause-nothing g c =
    commits_then (state g.S.Store c.args.conn.now) (state g.S.Store c.begin_first.new.conn) (state g.S.Store c.make_plain.new.conn)
    (begins_nothing _ _ _ c.in_ok-begin_first.ensures.begins) (nothing_within _ _ _ (λ clean. (c.in_ok-begin_first.ensures.begins.begun clean).1)
    c.make_plain.ensures.within)

pub returns-in_err-begin_first-clause-taken : goal.returns-in_err-begin_first-clause-taken
returns-in_err-begin_first-clause-taken g c = λ clean outside has.
    passed_on _ c.from_residual.result IsNameTaken c.from_residual.ensures.1 (inr (c.in_err-begin_first.ensures.fails clean outside))

pub returns-clause-taken : goal.returns-clause-taken
returns-clause-taken g c = λ clean outside has.
    let mid = earlier (state g.S.Store c.begin_first.new.conn) (state g.S.Store c.make_plain.new.conn) _ c.make_plain.ensures.within.survives clean in
    let same = (c.in_ok-begin_first.ensures.begins.begun mid).2 in
    c.make_plain.ensures.taken clean (subst (λ (d : Database). HasMetaTable d.schema) (sym same) has)
