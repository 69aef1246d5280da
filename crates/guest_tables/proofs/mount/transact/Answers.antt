use Rattle.sqlite.specs.Held.{state}
use Rattle.std.proofs.Common.{OnErr}
use Rattle.sqlite.specs.State.{HasCleanDisk, KeepsCommit}
use Rattle.guest_tables.specs.Content.{Holds}
use Rattle.guest_tables.specs.Clearing.{cleared}
use Rattle.fuse_store_tables.specs.inner.Performing.{TransactsAs}
use Rattle.guest_tables.proofs.any_schema.Joining.{failed_first, failed_inside, failed_commit, committed, on_err}
use Rattle.fuse_store_tables.specs.Moves.{StaysOpen, CommitsOnce}
use Rattle.fuse_store_tables.specs.inner.Transaction.{open_first, open_inside, open_failed, open_committed}
use Rattle.guest_tables.proofs.any_schema.Alone.{commits_then, begins_nothing, once_none, once_failed, once_committed}
use Rattle.guest_tables.proofs.any_schema.Within.{nothing_within, keeps_within, keeps_commit}
use Rattle.guest_tables.proofs.mount.transact.Goals as goal

pub returns-in_err-begin-clause-performs : goal.returns-in_err-begin-clause-performs
returns-in_err-begin-clause-performs g c =
    on_err (TransactsAs Holds (λ k. Holds (cleared k)) (state g.S.Store c.args.conn.now) (state g.S.Store c.begin.new.conn)) c.from_residual.result c.from_residual.ensures.0
    (λ e. failed_first Holds (λ k. Holds (cleared k)) _ _ _ e c.in_err-begin.ensures)

pub returns-in-Err-clause-performs : goal.returns-in-Err-clause-performs
returns-in-Err-clause-performs g c =
    failed_inside Holds (λ k. Holds (cleared k)) (λ k. Holds (cleared k)) _ _ _ _ _ c.in-Err.error c.in_ok-begin.ensures c.in-Err.ensures.made

pub returns-in_err-commit-in-Ok-clause-performs : goal.returns-in_err-commit-in-Ok-clause-performs
returns-in_err-commit-in-Ok-clause-performs g c =
    on_err (TransactsAs Holds (λ k. Holds (cleared k)) (state g.S.Store c.args.conn.now) (state g.S.Store c.commit.new.conn)) c.from_residual-in_err-commit-in-Ok.result
    c.from_residual-in_err-commit-in-Ok.ensures.0
    (λ e. failed_commit Holds (λ k. Holds (cleared k)) _ _ _ _ _ _ _ e c.in_ok-begin.ensures c.in-Ok.ensures.made c.in_err-commit-in-Ok.ensures)

pub returns-in_ok-commit-in-Ok-clause-performs : goal.returns-in_ok-commit-in-Ok-clause-performs
returns-in_ok-commit-in-Ok-clause-performs g c = committed Holds (λ k. Holds (cleared k)) _ _ _ _ _ _ _ _ c.in_ok-begin.ensures c.in-Ok.ensures.made c.in_ok-commit-in-Ok.ensures

pub returns-in_err-begin-clause-open : goal.returns-in_err-begin-clause-open
returns-in_err-begin-clause-open g c =
    on_err (StaysOpen (state g.S.Store c.args.conn.now) (state g.S.Store c.begin.new.conn)) c.from_residual.result c.from_residual.ensures.0
    (λ e. open_first _ _ _ e c.in_err-begin.ensures)

pub returns-in-Err-clause-open : goal.returns-in-Err-clause-open
returns-in-Err-clause-open g c =
    open_inside _ _ _ _ c.in-Err.error c.in_ok-begin.ensures c.in-Err.ensures.made.stays.survives

pub returns-in_err-commit-in-Ok-clause-open : goal.returns-in_err-commit-in-Ok-clause-open
returns-in_err-commit-in-Ok-clause-open g c =
    on_err (StaysOpen (state g.S.Store c.args.conn.now) (state g.S.Store c.commit.new.conn)) c.from_residual-in_err-commit-in-Ok.result
    c.from_residual-in_err-commit-in-Ok.ensures.0
    (λ e. open_failed _ _ _ _ _ _ e c.in_ok-begin.ensures c.in-Ok.ensures.made.stays.survives c.in_err-commit-in-Ok.ensures)

pub returns-in_ok-commit-in-Ok-clause-open : goal.returns-in_ok-commit-in-Ok-clause-open
returns-in_ok-commit-in-Ok-clause-open g c = open_committed _ _ _ _ _ _ _ c.in_ok-begin.ensures c.in-Ok.ensures.made.stays.survives c.in_ok-commit-in-Ok.ensures

-- ---- of any database

pub returns-in_ok-commit-in-Ok-clause-ended : goal.returns-in_ok-commit-in-Ok-clause-ended
returns-in_ok-commit-in-Ok-clause-ended g c = λ clean. (c.in_ok-commit-in-Ok.ensures.ended clean).1

-- ---- what was committed is kept

pub returns-in_err-begin-clause-keeps : goal.returns-in_err-begin-clause-keeps
returns-in_err-begin-clause-keeps g c =
    on_err (λ r. OnErr r (HasCleanDisk (state g.S.Store c.begin.new.conn) → KeepsCommit (state g.S.Store c.args.conn.now) (state g.S.Store c.begin.new.conn)))
    c.from_residual.result c.from_residual.ensures.0 (λ e. c.in_err-begin.ensures.kept)

pub returns-in-Err-clause-keeps : goal.returns-in-Err-clause-keeps
returns-in-Err-clause-keeps g c = λ clean.
    keeps_within (state g.S.Store c.args.conn.now) (state g.S.Store c.begin.new.conn) (state g.S.Store c.clear.new.conn) _ _ c.in_ok-begin.ensures
    c.in-Err.ensures.within clean

pub returns-in_err-commit-in-Ok-clause-keeps : goal.returns-in_err-commit-in-Ok-clause-keeps
returns-in_err-commit-in-Ok-clause-keeps g c =
    on_err (λ r. OnErr r (HasCleanDisk (state g.S.Store c.commit.new.conn) → KeepsCommit (state g.S.Store c.args.conn.now) (state g.S.Store c.commit.new.conn)))
    c.from_residual-in_err-commit-in-Ok.result c.from_residual-in_err-commit-in-Ok.ensures.0
    (λ e. keeps_commit (state g.S.Store c.args.conn.now) (state g.S.Store c.begin.new.conn) (state g.S.Store c.clear.new.conn) (state g.S.Store c.commit.new.conn)
    _ _ _ c.in_ok-begin.ensures c.in-Ok.ensures.within c.in_err-commit-in-Ok.ensures)

-- ---- what a crash leaves

pub returns-in_err-begin-clause-once : goal.returns-in_err-begin-clause-once
returns-in_err-begin-clause-once g c =
    on_err (CommitsOnce (state g.S.Store c.args.conn.now) (state g.S.Store c.begin.new.conn)) c.from_residual.result c.from_residual.ensures.0
    (λ e. once_none _ _ e (begins_nothing _ _ _ c.in_err-begin.ensures))

pub returns-in-Err-clause-once : goal.returns-in-Err-clause-once
returns-in-Err-clause-once g c =
    once_none (state g.S.Store c.args.conn.now) (state g.S.Store c.clear.new.conn) c.in-Err.error
    (commits_then _ _ _ (begins_nothing _ _ _ c.in_ok-begin.ensures) (nothing_within _ _ _ (λ clean. (c.in_ok-begin.ensures.begun clean).1) c.in-Err.ensures.within))

pub returns-in_err-commit-in-Ok-clause-once : goal.returns-in_err-commit-in-Ok-clause-once
returns-in_err-commit-in-Ok-clause-once g c =
    on_err (CommitsOnce (state g.S.Store c.args.conn.now) (state g.S.Store c.commit.new.conn)) c.from_residual-in_err-commit-in-Ok.result
    c.from_residual-in_err-commit-in-Ok.ensures.0
    (λ e. once_failed (state g.S.Store c.args.conn.now) (state g.S.Store c.clear.new.conn) (state g.S.Store c.commit.new.conn) _ e
    (commits_then _ _ _ (begins_nothing _ _ _ c.in_ok-begin.ensures) (nothing_within _ _ _ (λ clean. (c.in_ok-begin.ensures.begun clean).1) c.in-Ok.ensures.within))
    c.in_err-commit-in-Ok.ensures)

pub returns-in_ok-commit-in-Ok-clause-once : goal.returns-in_ok-commit-in-Ok-clause-once
returns-in_ok-commit-in-Ok-clause-once g c =
    once_committed (state g.S.Store c.args.conn.now) (state g.S.Store c.clear.new.conn) (state g.S.Store c.commit.new.conn) _ _
    (commits_then _ _ _ (begins_nothing _ _ _ c.in_ok-begin.ensures) (nothing_within _ _ _ (λ clean. (c.in_ok-begin.ensures.begun clean).1) c.in-Ok.ensures.within))
    c.in_ok-commit-in-Ok.ensures
