use Rattle.sqlite.specs.Held.{state}
use Rattle.std.proofs.Common.{◌≡◌, OnErr, subst, sym}
use Rattle.sqlite.specs.Effect.{Database}
use Rattle.fuse_store_tables.specs.Layout.{third_schema}
use Rattle.sqlite.specs.State.{HasCleanDisk, KeepsCommit, Survives}
use Rattle.fuse_store_tables.specs.inner.Following.{earlier}
use Rattle.fuse_store_tables.specs.Opening.{IsStored, IsOpened, IsLaid, IsWantedStore}
use Rattle.fuse_store_tables.specs.Saying.{IsTabled, IsToMigrate, Says}
use Rattle.fuse_store_tables.specs.Moves.{RestsAs, CommitsOnce}
use Rattle.fuse_store_tables.specs.inner.Performing.{TransactsAs}
use Rattle.fuse_store_tables.proofs.Alone.{commits_then, begins_nothing, failed_same, committed_same, on_refusal, outside_err, once_none, once_failed, once_committed}
use Rattle.fuse_store_tables.proofs.Joining.{failed_first, failed_inside, failed_commit, committed, on_err}
use Rattle.fuse_store_tables.proofs.Readied.{readied_none, readied_tested, readied_made}
use Rattle.fuse_store_tables.proofs.Within.{nothing_within, keeps_within, keeps_commit}
use Rattle.fuse_store_tables.proofs.setup.transact.Goals as goal

pub returns-in_err-begin-clause-performs : goal.returns-in_err-begin-clause-performs
returns-in_err-begin-clause-performs g c =
    on_err (TransactsAs IsStored (IsOpened c.args.number) (state g.S.Store c.args.conn.now) (state g.S.Store c.begin.new.conn)) c.from_residual.result c.from_residual.ensures.0
    (λ e. failed_first IsStored (IsOpened c.args.number) _ _ _ e c.in_err-begin.ensures)

pub returns-in-Err-clause-performs : goal.returns-in-Err-clause-performs
returns-in-Err-clause-performs g c =
    failed_inside IsStored (IsOpened c.args.number) (IsOpened c.args.number) _ _ _ _ _ c.in-Err.fault c.in_ok-begin.ensures c.in-Err.ensures.opened

pub returns-in_err-commit-in-Ok-clause-performs : goal.returns-in_err-commit-in-Ok-clause-performs
returns-in_err-commit-in-Ok-clause-performs g c =
    on_err (TransactsAs IsStored (IsOpened c.args.number) (state g.S.Store c.args.conn.now) (state g.S.Store c.commit.new.conn)) c.from_residual-in_err-commit-in-Ok.result
    c.from_residual-in_err-commit-in-Ok.ensures.0
    (λ e. failed_commit IsStored (IsOpened c.args.number) _ _ _ _ _ _ _ e c.in_ok-begin.ensures c.in-Ok.ensures.opened c.in_err-commit-in-Ok.ensures)

pub returns-in_ok-commit-in-Ok-clause-performs : goal.returns-in_ok-commit-in-Ok-clause-performs
returns-in_ok-commit-in-Ok-clause-performs g c = committed IsStored (IsOpened c.args.number) _ _ _ _ _ _ _ _ c.in_ok-begin.ensures c.in-Ok.ensures.opened c.in_ok-commit-in-Ok.ensures

pub returns-in_ok-commit-in-Ok-clause-tabled : goal.returns-in_ok-commit-in-Ok-clause-tabled
returns-in_ok-commit-in-Ok-clause-tabled g c = λ clean.
    let b = state g.S.Store c.begin.new.conn in
    let d = state g.S.Store c.work_for.new.conn in
    let late = earlier d (state g.S.Store c.commit.new.conn) _ c.in_ok-commit-in-Ok.ensures.survives clean in
    let mid = earlier b d _ c.in-Ok.ensures.opened.stays.survives late in
    subst IsTabled (c.in_ok-begin.ensures.begun mid).2 (c.in-Ok.ensures.tabled late)

pub returns-in-Err-clause-alone : goal.returns-in-Err-clause-alone
returns-in-Err-clause-alone g c = λ other.
    let a = state g.S.Store c.args.conn.now in
    let b = state g.S.Store c.begin.new.conn in
    let d = state g.S.Store c.work_for.new.conn in
    commits_then a b d (begins_nothing a b _ c.in_ok-begin.ensures)
    (c.in-Err.ensures.alone (λ clean same. other (subst IsToMigrate (c.in_ok-begin.ensures.begun (earlier b d _ c.in-Err.ensures.opened.stays.survives clean)).2 same))).commits

pub returns-in_err-begin-clause-alone : goal.returns-in_err-begin-clause-alone
returns-in_err-begin-clause-alone g c = λ other. begins_nothing _ _ _ c.in_err-begin.ensures

pub returns-in_err-begin-clause-refused : goal.returns-in_err-begin-clause-refused
returns-in_err-begin-clause-refused g c =
    on_refusal (state g.S.Store c.args.conn.now) (state g.S.Store c.begin.new.conn) c.from_residual.result (begins_nothing _ _ _ c.in_err-begin.ensures)

pub returns-in-Err-clause-refused : goal.returns-in-Err-clause-refused
returns-in-Err-clause-refused g c = λ refused.
    commits_then _ _ _ (begins_nothing _ _ _ c.in_ok-begin.ensures) (nothing_within _ _ _ (λ clean. (c.in_ok-begin.ensures.begun clean).1) c.in-Err.ensures.within)

pub returns-in_err-commit-in-Ok-clause-alone : goal.returns-in_err-commit-in-Ok-clause-alone
returns-in_err-commit-in-Ok-clause-alone g c = λ other.
    let a = state g.S.Store c.args.conn.now in
    let b = state g.S.Store c.begin.new.conn in
    let d = state g.S.Store c.work_for.new.conn in
    failed_same a b d (state g.S.Store c.commit.new.conn) _ _ (g.met.S.Store.stays c.args.conn.now.store) c.law_of_rest.ensures c.in_ok-begin.ensures
    (c.in-Ok.ensures.alone (λ clean same. other (subst IsToMigrate (c.in_ok-begin.ensures.begun (earlier b d _ c.in-Ok.ensures.opened.stays.survives clean)).2 same)))
    _ c.in_err-commit-in-Ok.ensures

pub returns-in_ok-commit-in-Ok-clause-alone : goal.returns-in_ok-commit-in-Ok-clause-alone
returns-in_ok-commit-in-Ok-clause-alone g c = λ other.
    let a = state g.S.Store c.args.conn.now in
    let b = state g.S.Store c.begin.new.conn in
    let d = state g.S.Store c.work_for.new.conn in
    committed_same a b d (state g.S.Store c.commit.new.conn) _ _ (g.met.S.Store.stays c.args.conn.now.store) c.law_of_rest.ensures c.in_ok-begin.ensures
    (c.in-Ok.ensures.alone (λ clean same. other (subst IsToMigrate (c.in_ok-begin.ensures.begun (earlier b d _ c.in-Ok.ensures.opened.stays.survives clean)).2 same)))
    _ c.in_ok-commit-in-Ok.ensures

pub returns-in_ok-commit-in-Ok-clause-ended : goal.returns-in_ok-commit-in-Ok-clause-ended
returns-in_ok-commit-in-Ok-clause-ended g c = λ clean. let on = c.in_ok-commit-in-Ok.ensures.ended clean in (on.1, sym on.3)

pub returns-in_err-commit-in-Ok-clause-fault : goal.returns-in_err-commit-in-Ok-clause-fault
returns-in_err-commit-in-Ok-clause-fault g c = λ clean.
    outside_err (λ k. RestsAs (IsWantedStore c.args.wanted k) (state g.S.Store c.args.conn.now)) _ c.from_residual-in_err-commit-in-Ok.result c.from_residual-in_err-commit-in-Ok.ensures.1

pub returns-in-Err-clause-says : goal.returns-in-Err-clause-says
returns-in-Err-clause-says g c = λ clean.
    let b = state g.S.Store c.begin.new.conn in
    let d = state g.S.Store c.work_for.new.conn in
    subst (λ db. Says db c.in-Err.fault) (c.in_ok-begin.ensures.begun (earlier b d _ c.in-Err.ensures.opened.stays.survives clean)).2 (c.in-Err.ensures.says clean)

pub returns-in-Err-clause-fault : goal.returns-in-Err-clause-fault
returns-in-Err-clause-fault g c = λ clean k at.
    let mid = earlier (state g.S.Store c.begin.new.conn) (state g.S.Store c.work_for.new.conn) _ c.in-Err.ensures.opened.stays.survives clean in
    let on = c.in_ok-begin.ensures.begun mid in
    c.in-Err.ensures.fault clean (k, record { is_open = on.0; in_transaction = on.1; holds = subst (IsWantedStore c.args.wanted k) (sym on.2) at.holds })

-- ---- what was committed is kept

pub returns-in_err-begin-clause-keeps : goal.returns-in_err-begin-clause-keeps
returns-in_err-begin-clause-keeps g c =
    on_err (λ r. OnErr r (HasCleanDisk (state g.S.Store c.begin.new.conn) → KeepsCommit (state g.S.Store c.args.conn.now) (state g.S.Store c.begin.new.conn)))
    c.from_residual.result c.from_residual.ensures.0 (λ e. c.in_err-begin.ensures.kept)

pub returns-in-Err-clause-keeps : goal.returns-in-Err-clause-keeps
returns-in-Err-clause-keeps g c = λ clean.
    keeps_within (state g.S.Store c.args.conn.now) (state g.S.Store c.begin.new.conn) (state g.S.Store c.work_for.new.conn) _ _ c.in_ok-begin.ensures
    c.in-Err.ensures.within clean

pub returns-in_err-commit-in-Ok-clause-keeps : goal.returns-in_err-commit-in-Ok-clause-keeps
returns-in_err-commit-in-Ok-clause-keeps g c =
    on_err (λ r. OnErr r (HasCleanDisk (state g.S.Store c.commit.new.conn) → KeepsCommit (state g.S.Store c.args.conn.now) (state g.S.Store c.commit.new.conn)))
    c.from_residual-in_err-commit-in-Ok.result c.from_residual-in_err-commit-in-Ok.ensures.0
    (λ e. keeps_commit (state g.S.Store c.args.conn.now) (state g.S.Store c.begin.new.conn) (state g.S.Store c.work_for.new.conn) (state g.S.Store c.commit.new.conn)
    _ _ _ c.in_ok-begin.ensures c.in-Ok.ensures.within c.in_err-commit-in-Ok.ensures)

-- ---- the profile

pub returns-in_ok-commit-in-Ok-clause-profile : goal.returns-in_ok-commit-in-Ok-clause-profile
returns-in_ok-commit-in-Ok-clause-profile g c = λ clean k at.
    let b = state g.S.Store c.begin.new.conn in
    let d = state g.S.Store c.work_for.new.conn in
    let late = earlier d (state g.S.Store c.commit.new.conn) _ c.in_ok-commit-in-Ok.ensures.survives clean in
    let on = c.in_ok-begin.ensures.begun (earlier b d _ c.in-Ok.ensures.opened.stays.survives late) in
    c.in-Ok.ensures.profile late k (record { is_open = on.0; in_transaction = on.1; holds = subst (IsLaid k) (sym on.2) at.holds })

-- ---- what a crash leaves

pub returns-in_err-begin-clause-once : goal.returns-in_err-begin-clause-once
returns-in_err-begin-clause-once g c =
    on_err (CommitsOnce (state g.S.Store c.args.conn.now) (state g.S.Store c.begin.new.conn)) c.from_residual.result c.from_residual.ensures.0
    (λ e. once_none _ _ e (begins_nothing _ _ _ c.in_err-begin.ensures))

pub returns-in-Err-clause-once : goal.returns-in-Err-clause-once
returns-in-Err-clause-once g c =
    once_none (state g.S.Store c.args.conn.now) (state g.S.Store c.work_for.new.conn) c.in-Err.fault
    (commits_then _ _ _ (begins_nothing _ _ _ c.in_ok-begin.ensures) (nothing_within _ _ _ (λ clean. (c.in_ok-begin.ensures.begun clean).1) c.in-Err.ensures.within))

pub returns-in_err-commit-in-Ok-clause-once : goal.returns-in_err-commit-in-Ok-clause-once
returns-in_err-commit-in-Ok-clause-once g c =
    on_err (CommitsOnce (state g.S.Store c.args.conn.now) (state g.S.Store c.commit.new.conn)) c.from_residual-in_err-commit-in-Ok.result
    c.from_residual-in_err-commit-in-Ok.ensures.0
    (λ e. once_failed (state g.S.Store c.args.conn.now) (state g.S.Store c.work_for.new.conn) (state g.S.Store c.commit.new.conn) _ e
    (commits_then _ _ _ (begins_nothing _ _ _ c.in_ok-begin.ensures) (nothing_within _ _ _ (λ clean. (c.in_ok-begin.ensures.begun clean).1) c.in-Ok.ensures.within))
    c.in_err-commit-in-Ok.ensures)

pub returns-in_ok-commit-in-Ok-clause-once : goal.returns-in_ok-commit-in-Ok-clause-once
returns-in_ok-commit-in-Ok-clause-once g c =
    once_committed (state g.S.Store c.args.conn.now) (state g.S.Store c.work_for.new.conn) (state g.S.Store c.commit.new.conn) _ _
    (commits_then _ _ _ (begins_nothing _ _ _ c.in_ok-begin.ensures) (nothing_within _ _ _ (λ clean. (c.in_ok-begin.ensures.begun clean).1) c.in-Ok.ensures.within))
    c.in_ok-commit-in-Ok.ensures

pub returns-in_ok-commit-in-Ok-clause-numbered : goal.returns-in_ok-commit-in-Ok-clause-numbered
returns-in_ok-commit-in-Ok-clause-numbered g c = λ clean none everyday.
    let b = state g.S.Store c.begin.new.conn in
    let d = state g.S.Store c.work_for.new.conn in
    let late = earlier d (state g.S.Store c.commit.new.conn) _ c.in_ok-commit-in-Ok.ensures.survives clean in
    subst (λ (e : Database). e.schema ≡ third_schema) (c.in_ok-begin.ensures.begun (earlier b d _ c.in-Ok.ensures.opened.stays.survives late)).2
    (c.in-Ok.ensures.numbered none everyday)

-- ---- what was made ready

pub returns-in_err-begin-clause-left_of : goal.returns-in_err-begin-clause-left_of
returns-in_err-begin-clause-left_of g c =
    readied_none g.B.BeforeCommit.makes g.B.BeforeCommit.leaves (Survives (state g.S.Store c.args.conn.now) (state g.S.Store c.begin.new.conn) (λ _. ⊥)) c.args.before.now
    c.from_residual.result (begins_nothing _ _ _ c.in_err-begin.ensures).survives

pub returns-in-Err-clause-left_of : goal.returns-in-Err-clause-left_of
returns-in-Err-clause-left_of g c =
    readied_tested g.B.BeforeCommit.makes g.B.BeforeCommit.leaves (Survives (state g.S.Store c.args.conn.now) (state g.S.Store c.work_for.new.conn) (λ _. ⊥))
    c.args.before.now c.work_for.new.before c.in-Err.fault
    (commits_then _ _ _ (begins_nothing _ _ _ c.in_ok-begin.ensures)
    (nothing_within _ _ _ (λ clean. (c.in_ok-begin.ensures.begun clean).1) c.in-Err.ensures.within)).survives c.in-Err.ensures.left_of

pub returns-in_err-commit-in-Ok-clause-left_of : goal.returns-in_err-commit-in-Ok-clause-left_of
returns-in_err-commit-in-Ok-clause-left_of g c =
    readied_made g.B.BeforeCommit.makes g.B.BeforeCommit.leaves (Survives (state g.S.Store c.args.conn.now) (state g.S.Store c.commit.new.conn) (λ _. ⊥))
    c.args.before.now c.work_for.new.before _ c.from_residual-in_err-commit-in-Ok.result c.from_residual-in_err-commit-in-Ok.ensures.1 c.in-Ok.ensures.made
