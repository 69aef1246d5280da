use Rattle.sqlite.specs.Held.{state}
use Rattle.std.proofs.Common.{OnErr, subst, sym}
use Rattle.sqlite.specs.State.{HasCleanDisk, KeepsCommit}
use Rattle.fuse_store_tables.specs.inner.Following.{earlier}
use Rattle.guest_tables.specs.Opening.{IsStored, IsLaid}
use Rattle.guest_tables.specs.Clearing.{cleared}
use Rattle.guest_tables.specs.Saying.{IsTabled, Says}
use Rattle.fuse_store_tables.specs.Moves.{RestsAs, CommitsOnce}
use Rattle.fuse_store_tables.specs.inner.Performing.{TransactsAs}
use Rattle.guest_tables.proofs.any_schema.Alone.{commits_then, begins_nothing, on_refusal, outside_err, once_none, once_failed, once_committed}
use Rattle.guest_tables.proofs.any_schema.Joining.{failed_first, failed_inside, failed_commit, committed, on_err}
use Rattle.guest_tables.proofs.any_schema.Within.{nothing_within, keeps_within, keeps_commit}
use Rattle.guest_tables.proofs.fresh.transact.Goals as goal

pub returns-in_err-begin-clause-performs : goal.returns-in_err-begin-clause-performs
returns-in_err-begin-clause-performs g c =
    on_err (TransactsAs IsStored (λ k. IsStored (cleared k)) (state g.S.Store c.args.conn.now) (state g.S.Store c.begin.new.conn)) c.from_residual.result c.from_residual.ensures.0
    (λ e. failed_first IsStored (λ k. IsStored (cleared k)) _ _ _ e c.in_err-begin.ensures)

pub returns-in-Err-clause-performs : goal.returns-in-Err-clause-performs
returns-in-Err-clause-performs g c =
    failed_inside IsStored (λ k. IsStored (cleared k)) (λ k. IsStored (cleared k)) _ _ _ _ _ c.in-Err.fault c.in_ok-begin.ensures c.in-Err.ensures.begun

pub returns-in_err-commit-in-Ok-clause-performs : goal.returns-in_err-commit-in-Ok-clause-performs
returns-in_err-commit-in-Ok-clause-performs g c =
    on_err (TransactsAs IsStored (λ k. IsStored (cleared k)) (state g.S.Store c.args.conn.now) (state g.S.Store c.commit.new.conn)) c.from_residual-in_err-commit-in-Ok.result
    c.from_residual-in_err-commit-in-Ok.ensures.0
    (λ e. failed_commit IsStored (λ k. IsStored (cleared k)) _ _ _ _ _ _ _ e c.in_ok-begin.ensures c.in-Ok.ensures.begun c.in_err-commit-in-Ok.ensures)

pub returns-in_ok-commit-in-Ok-clause-performs : goal.returns-in_ok-commit-in-Ok-clause-performs
returns-in_ok-commit-in-Ok-clause-performs g c = committed IsStored (λ k. IsStored (cleared k)) _ _ _ _ _ _ _ _ c.in_ok-begin.ensures c.in-Ok.ensures.begun c.in_ok-commit-in-Ok.ensures

pub returns-in_ok-commit-in-Ok-clause-tabled : goal.returns-in_ok-commit-in-Ok-clause-tabled
returns-in_ok-commit-in-Ok-clause-tabled g c = λ clean.
    let b = state g.S.Store c.begin.new.conn in
    let d = state g.S.Store c.renew.new.conn in
    let late = earlier d (state g.S.Store c.commit.new.conn) _ c.in_ok-commit-in-Ok.ensures.survives clean in
    let mid = earlier b d _ c.in-Ok.ensures.begun.stays.survives late in
    subst IsTabled (c.in_ok-begin.ensures.begun mid).2 (c.in-Ok.ensures.tabled late)

pub returns-in_err-begin-clause-refused : goal.returns-in_err-begin-clause-refused
returns-in_err-begin-clause-refused g c =
    on_refusal (state g.S.Store c.args.conn.now) (state g.S.Store c.begin.new.conn) c.from_residual.result (begins_nothing _ _ _ c.in_err-begin.ensures)

pub returns-in-Err-clause-refused : goal.returns-in-Err-clause-refused
returns-in-Err-clause-refused g c = λ refused.
    commits_then _ _ _ (begins_nothing _ _ _ c.in_ok-begin.ensures) (nothing_within _ _ _ (λ clean. (c.in_ok-begin.ensures.begun clean).1) c.in-Err.ensures.within)

pub returns-in_ok-commit-in-Ok-clause-ended : goal.returns-in_ok-commit-in-Ok-clause-ended
returns-in_ok-commit-in-Ok-clause-ended g c = λ clean. (c.in_ok-commit-in-Ok.ensures.ended clean).1

pub returns-in_err-commit-in-Ok-clause-fault : goal.returns-in_err-commit-in-Ok-clause-fault
returns-in_err-commit-in-Ok-clause-fault g c = λ clean.
    outside_err (λ k. RestsAs (IsStored k) (state g.S.Store c.args.conn.now)) _ c.from_residual-in_err-commit-in-Ok.result c.from_residual-in_err-commit-in-Ok.ensures.1

pub returns-in-Err-clause-says : goal.returns-in-Err-clause-says
returns-in-Err-clause-says g c = λ clean.
    let b = state g.S.Store c.begin.new.conn in
    let d = state g.S.Store c.renew.new.conn in
    subst (λ db. Says db c.in-Err.fault) (c.in_ok-begin.ensures.begun (earlier b d _ c.in-Err.ensures.begun.stays.survives clean)).2 (c.in-Err.ensures.says clean)

pub returns-in-Err-clause-fault : goal.returns-in-Err-clause-fault
returns-in-Err-clause-fault g c = λ clean k at.
    let mid = earlier (state g.S.Store c.begin.new.conn) (state g.S.Store c.renew.new.conn) _ c.in-Err.ensures.begun.stays.survives clean in
    let on = c.in_ok-begin.ensures.begun mid in
    c.in-Err.ensures.fault clean (k, record { is_open = on.0; in_transaction = on.1; holds = subst (IsStored k) (sym on.2) at.holds })

pub returns-in_err-begin-clause-keeps : goal.returns-in_err-begin-clause-keeps
returns-in_err-begin-clause-keeps g c =
    on_err (λ r. OnErr r (HasCleanDisk (state g.S.Store c.begin.new.conn) → KeepsCommit (state g.S.Store c.args.conn.now) (state g.S.Store c.begin.new.conn)))
    c.from_residual.result c.from_residual.ensures.0 (λ e. c.in_err-begin.ensures.kept)

pub returns-in-Err-clause-keeps : goal.returns-in-Err-clause-keeps
returns-in-Err-clause-keeps g c = λ clean.
    keeps_within (state g.S.Store c.args.conn.now) (state g.S.Store c.begin.new.conn) (state g.S.Store c.renew.new.conn) _ _ c.in_ok-begin.ensures
    c.in-Err.ensures.within clean

pub returns-in_err-commit-in-Ok-clause-keeps : goal.returns-in_err-commit-in-Ok-clause-keeps
returns-in_err-commit-in-Ok-clause-keeps g c =
    on_err (λ r. OnErr r (HasCleanDisk (state g.S.Store c.commit.new.conn) → KeepsCommit (state g.S.Store c.args.conn.now) (state g.S.Store c.commit.new.conn)))
    c.from_residual-in_err-commit-in-Ok.result c.from_residual-in_err-commit-in-Ok.ensures.0
    (λ e. keeps_commit (state g.S.Store c.args.conn.now) (state g.S.Store c.begin.new.conn) (state g.S.Store c.renew.new.conn) (state g.S.Store c.commit.new.conn)
    _ _ _ c.in_ok-begin.ensures c.in-Ok.ensures.within c.in_err-commit-in-Ok.ensures)

pub returns-in_err-begin-clause-once : goal.returns-in_err-begin-clause-once
returns-in_err-begin-clause-once g c =
    on_err (CommitsOnce (state g.S.Store c.args.conn.now) (state g.S.Store c.begin.new.conn)) c.from_residual.result c.from_residual.ensures.0
    (λ e. once_none _ _ e (begins_nothing _ _ _ c.in_err-begin.ensures))

pub returns-in-Err-clause-once : goal.returns-in-Err-clause-once
returns-in-Err-clause-once g c =
    once_none (state g.S.Store c.args.conn.now) (state g.S.Store c.renew.new.conn) c.in-Err.fault
    (commits_then _ _ _ (begins_nothing _ _ _ c.in_ok-begin.ensures) (nothing_within _ _ _ (λ clean. (c.in_ok-begin.ensures.begun clean).1) c.in-Err.ensures.within))

pub returns-in_err-commit-in-Ok-clause-once : goal.returns-in_err-commit-in-Ok-clause-once
returns-in_err-commit-in-Ok-clause-once g c =
    on_err (CommitsOnce (state g.S.Store c.args.conn.now) (state g.S.Store c.commit.new.conn)) c.from_residual-in_err-commit-in-Ok.result
    c.from_residual-in_err-commit-in-Ok.ensures.0
    (λ e. once_failed (state g.S.Store c.args.conn.now) (state g.S.Store c.renew.new.conn) (state g.S.Store c.commit.new.conn) _ e
    (commits_then _ _ _ (begins_nothing _ _ _ c.in_ok-begin.ensures) (nothing_within _ _ _ (λ clean. (c.in_ok-begin.ensures.begun clean).1) c.in-Ok.ensures.within))
    c.in_err-commit-in-Ok.ensures)

pub returns-in_ok-commit-in-Ok-clause-once : goal.returns-in_ok-commit-in-Ok-clause-once
returns-in_ok-commit-in-Ok-clause-once g c =
    once_committed (state g.S.Store c.args.conn.now) (state g.S.Store c.renew.new.conn) (state g.S.Store c.commit.new.conn) _ _
    (commits_then _ _ _ (begins_nothing _ _ _ c.in_ok-begin.ensures) (nothing_within _ _ _ (λ clean. (c.in_ok-begin.ensures.begun clean).1) c.in-Ok.ensures.within))
    c.in_ok-commit-in-Ok.ensures
