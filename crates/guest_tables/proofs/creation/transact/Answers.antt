use Rattle.sqlite.specs.Held.{state}
use Rattle.fuse_store_tables.specs.Layout.{no_schema}
use Rattle.fuse_store_tables.specs.Making.{IsBare}
use Rattle.guest_tables.specs.Making.{IsNew}
use Rattle.fuse_store_tables.specs.inner.Performing.{TransactsAs}
use Rattle.guest_tables.proofs.any_schema.Joining.{failed_first, failed_inside, failed_commit, committed, on_err}
use Rattle.std.proofs.Common.{Ok, sym, refl}
use Rattle.sqlite.specs.State.{HasCleanDisk}
use Rattle.fuse_store_tables.specs.inner.Following.{earlier}
use Rattle.guest_tables.proofs.any_schema.Alone.{outside_is, begins_nothing, reads_never, alone_performs, was_empty}
use Rattle.guest_tables.proofs.creation.transact.Goals as goal

pub returns-in_err-begin-clause-performs : goal.returns-in_err-begin-clause-performs
returns-in_err-begin-clause-performs g c =
    let P = IsBare no_schema in
    let Q = IsNew c.args.number in
    on_err (TransactsAs P Q (state g.S.Store c.args.conn.now) (state g.S.Store c.begin.new.conn)) c.from_residual.result c.from_residual.ensures.0
    (λ e. failed_first P Q _ _ _ e c.in_err-begin.ensures)

pub returns-in_err-make_all-clause-performs : goal.returns-in_err-make_all-clause-performs
returns-in_err-make_all-clause-performs g c =
    let P = IsBare no_schema in
    let Q = IsNew c.args.number in
    on_err (TransactsAs P Q (state g.S.Store c.args.conn.now) (state g.S.Store c.make_all.new.conn)) c.from_residual-in_err-make_all.result
    c.from_residual-in_err-make_all.ensures.0
    (λ e. failed_inside P Q Q _ _ _ _ _ e c.in_ok-begin.ensures c.in_err-make_all.ensures)

pub returns-in_err-commit-clause-performs : goal.returns-in_err-commit-clause-performs
returns-in_err-commit-clause-performs g c =
    let P = IsBare no_schema in
    let Q = IsNew c.args.number in
    on_err (TransactsAs P Q (state g.S.Store c.args.conn.now) (state g.S.Store c.commit.new.conn)) c.from_residual-in_err-commit.result
    c.from_residual-in_err-commit.ensures.0
    (λ e. failed_commit P Q _ _ _ _ _ _ _ e c.in_ok-begin.ensures c.in_ok-make_all.ensures c.in_err-commit.ensures)

pub returns-clause-performs : goal.returns-clause-performs
returns-clause-performs g c =
    committed (IsBare no_schema) (IsNew c.args.number) _ _ _ _ _ _ _ _ c.in_ok-begin.ensures c.in_ok-make_all.ensures c.in_ok-commit.ensures

pub returns-clause-ended : goal.returns-clause-ended
returns-clause-ended g c = λ clean. let on = c.in_ok-commit.ensures.ended clean in (on.1, sym on.3)

-- ---- a database that has tables

pub returns-then-not-is_empty-clause-performs : goal.returns-then-not-is_empty-clause-performs
returns-then-not-is_empty-clause-performs g c =
    alone_performs (IsBare no_schema) (IsNew c.args.number) _ _ _ (begins_nothing _ _ _ c.in_ok-begin.ensures)

pub returns-in_err-begin-clause-alone : goal.returns-in_err-begin-clause-alone
returns-in_err-begin-clause-alone g c = λ other. begins_nothing _ _ _ c.in_err-begin.ensures

pub returns-then-not-is_empty-clause-alone : goal.returns-then-not-is_empty-clause-alone
returns-then-not-is_empty-clause-alone g c = λ other. begins_nothing _ _ _ c.in_ok-begin.ensures

pub returns-in_err-make_all-clause-alone : goal.returns-in_err-make_all-clause-alone
returns-in_err-make_all-clause-alone g c = λ other.
    let a = state g.S.Store c.args.conn.now in
    let b = state g.S.Store c.begin.new.conn in
    let d = state g.S.Store c.make_all.new.conn in
    (reads_never a d c.from_residual-in_err-make_all.result
    (λ clean. other (was_empty a.now b.now c.schema.result.now (c.in_ok-begin.ensures.begun (earlier b d _ c.in_err-make_all.ensures.stays.survives clean)).2
    c.schema.ensures.value (c.if-not-is_empty.ensures.0 refl)))
    (returns-in_err-make_all-clause-performs g c).survives).commits

pub returns-in_err-commit-clause-alone : goal.returns-in_err-commit-clause-alone
returns-in_err-commit-clause-alone g c = λ other.
    let a = state g.S.Store c.args.conn.now in
    let b = state g.S.Store c.begin.new.conn in
    let d = state g.S.Store c.make_all.new.conn in
    let e = state g.S.Store c.commit.new.conn in
    (reads_never a e c.from_residual-in_err-commit.result
    (λ clean. other (was_empty a.now b.now c.schema.result.now (c.in_ok-begin.ensures.begun
    (earlier b d _ c.in_ok-make_all.ensures.stays.survives (earlier d e _ c.in_err-commit.ensures.survives clean))).2
    c.schema.ensures.value (c.if-not-is_empty.ensures.0 refl)))
    (returns-in_err-commit-clause-performs g c).survives).commits

pub returns-clause-alone : goal.returns-clause-alone
returns-clause-alone g c = λ other.
    let a = state g.S.Store c.args.conn.now in
    let b = state g.S.Store c.begin.new.conn in
    let d = state g.S.Store c.make_all.new.conn in
    let e = state g.S.Store c.commit.new.conn in
    let never : HasCleanDisk e → ⊥ = λ clean.
    other (was_empty a.now b.now c.schema.result.now (c.in_ok-begin.ensures.begun
    (earlier b d _ c.in_ok-make_all.ensures.stays.survives (earlier d e _ c.in_ok-commit.ensures.survives clean))).2
    c.schema.ensures.value (c.if-not-is_empty.ensures.0 refl)) in
    (reads_never {X = Unit {0}} {E = Unit {0}} a e (Ok tt) never (returns-clause-performs g c).survives).commits

pub returns-in_err-begin-clause-outside : goal.returns-in_err-begin-clause-outside
returns-in_err-begin-clause-outside g c = outside_is _ c.from_residual.result c.from_residual.ensures.1

pub returns-in_err-make_all-clause-outside : goal.returns-in_err-make_all-clause-outside
returns-in_err-make_all-clause-outside g c = outside_is _ c.from_residual-in_err-make_all.result c.from_residual-in_err-make_all.ensures.1

pub returns-in_err-commit-clause-outside : goal.returns-in_err-commit-clause-outside
returns-in_err-commit-clause-outside g c = outside_is _ c.from_residual-in_err-commit.result c.from_residual-in_err-commit.ensures.1
