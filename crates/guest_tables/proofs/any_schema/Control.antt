-- BEGIN, COMMIT and ROLLBACK.
use Rattle.std.proofs.Common.{inl, inr, ℕ, List, false, Some, None, Err}
use Rattle.std.proofs.lemmas.Bool.{cases_Bool}
use Rattle.sqlite.specs.Order.{Row}
use Rattle.sqlite.specs.declared.error.Error.{Error}
use Rattle.sqlite.specs.State.{State, KeepsCommit, Executes, ExecutesIn, IsUnchanged, IsRolledBack, Fails, IsNotRun}
use Rattle.sqlite.specs.State.{RunsCommand, shows_rows}
use Rattle.sqlite.specs.State.{FailsToQuery, FailsToShow}
use Rattle.sqlite.specs.Clock.{timed}

-- ---- nothing but a write or a commit moves what was committed

pub keeps_unchanged : (old new : State) → IsUnchanged old new → KeepsCommit old new
keeps_unchanged old new h = record { was_open = λ _. h.0.was_open; committed = λ _. h.0.committed_is }

pub keeps_back : (old new : State) → IsRolledBack old new → KeepsCommit old new
keeps_back old new h = record { was_open = h.was_open; committed = λ is. (h.undone is).1 }

pub keeps_fails : (old new : State) (U : Type 0) (e : Error) → Fails old new U e → KeepsCommit old new
keeps_fails old new U e h = keeps_back old new h.3

pub keeps_not_run : (old new : State) (sql : List ℕ) (params : Row) (e : Error) → IsNotRun old new sql params e → KeepsCommit old new
unfolding IsNotRun
keeps_not_run old new sql params e (inl h) = keeps_unchanged old new h.1
keeps_not_run old new sql params e (inr h) = keeps_fails old new _ e h

pub keeps_command : (old new : State) (sql : List ℕ) (params : Row) (e : Error) (c : _) → RunsCommand old new sql c params (Err e) → KeepsCommit old new
keeps_command old new sql params e c (inl h) = keeps_unchanged old new h.1
keeps_command old new sql params e c (inr h) = keeps_fails old new _ e h

-- a statement that failed
pub keeps_failed : (old new : State) (sql : List ℕ) (params : Row) (e : Error) → Executes sql params old new (Err e) → KeepsCommit old new
unfolding ExecutesIn
keeps_failed old new sql params e (inl h) = keeps_not_run old new sql params e h
keeps_failed old new sql params e (inr h) = elim (cases_Bool (shows_rows false h.0)) [
  | inl shows ↦ keeps_unchanged old new (rw shows at h.2).1
  | inr runs ↦ keeps_command old new sql _ e h.0 (rw runs at h.2)
]

-- a query that failed
pub keeps_query : (old new : State) (sql : List ℕ) (params : Row) (e : Error) → FailsToQuery sql params old new e → KeepsCommit old new
unfolding FailsToQuery
keeps_query old new sql params e (inl h) = keeps_not_run old new sql params e h
keeps_query old new sql params e (inr h) = shown h.0.returning h.2
  where
    shown : (r : _) → FailsToShow old new sql h.0 (timed params h.0.formats h.1.now) e r → KeepsCommit old new
    shown None it = keeps_unchanged old new it.3
    shown (Some what) it = keeps_command old new sql _ e h.0 it
