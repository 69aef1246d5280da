-- BEGIN, COMMIT and ROLLBACK.
use Rattle.std.proofs.Common.{◌≡◌, inl, inr, ℕ, List, [], ◌≤◌, length, arith, codes, true, false, Option, Some, None, Ok, Err, Result, IsTrue, refl, sym, ap}
use Rattle.std.proofs.Common.{subst, ◌∙◌}
use Rattle.std.proofs.lemmas.Bool.{cases_Bool}
use Rattle.sqlite.specs.Schema.{Schema}
use Rattle.sqlite.specs.Order.{Row}
use Rattle.sqlite.specs.Tree.{Trees}
use Rattle.sqlite.specs.declared.error.Error.{Error}
use Rattle.sqlite_schema.specs.declared.command.Command.{Command}
use Rattle.sqlite.specs.Command.TheVariants.{Begin, Commit, Rollback}
use Rattle.sqlite_tied.specs.Compute.{everything}
use Rattle.sqlite.specs.Listing.{understood}
use Rattle.sqlite.specs.State.{State, HasCleanDisk, Survives, KeepsCommit, Executes, ExecutesIn, CommitsBy, IsUnchanged, IsRolledBack, Fails, IsNotRun}
use Rattle.sqlite.specs.State.{RunsCommand, shows_rows, MayCommit, MayWrite, MayChange, IsMisplaced, IsNoStatement, text_of}
use Rattle.sqlite.specs.State.{FailsToQuery, FailsToShow}
use Rattle.sqlite.specs.Clock.{timed}
use Rattle.sqlite.specs.Calls.{IsWrite}
use Rattle.sqlite_resolve.specs.declared.compiled.Compiled.{Compiled}
use Rattle.sqlite_resolve.specs.declared.error.CompileError.{CompileError}
use Rattle.sqlite_schema.specs.declared.command.Returning.{Returning}
use Rattle.sqlite.proofs.StateLemmas.{survives_weaker, survives_then}
use Rattle.sqlite.proofs.InsideLemmas.{keeps_then}
use Rattle.sqlite.proofs.Callers.{IsPlain, command_of, runs_as}
use Rattle.fuse_store_tables.specs.Moves.{Begins, Ends, Undoes, IsEndedOrKept, CommitsNothing, GoesBack}
use Rattle.std.specs.Result.{IsErr}
use Rattle.fuse_store_tables.specs.inner.Following.{earlier}
use Rattle.fuse_store_tables.specs.inner.Performing.{Ran}

abbrev pub begin_text : List ℕ
begin_text = codes "BEGIN"

abbrev pub commit_text : List ℕ
commit_text = codes "COMMIT"

pub begin_is : (s : Schema) → command_of (understood s begin_text) ≡ Begin
unfolding understood everything
begin_is s = refl

pub begin_plain : (s : Schema) → IsPlain (understood s begin_text)
unfolding understood everything
begin_plain s = (refl, refl)

commit_is : (s : Schema) → command_of (understood s commit_text) ≡ Commit
unfolding understood everything
commit_is s = refl

commit_plain : (s : Schema) → IsPlain (understood s commit_text)
unfolding understood everything
commit_plain s = (refl, refl)

-- ---- nothing but a write or a commit moves what was committed

pub keeps_unchanged : (old new : State) → IsUnchanged old new → KeepsCommit old new
keeps_unchanged old new h = record { was_open = λ _. h.0.was_open; committed = λ _. h.0.committed_is }

pub keeps_back : (old new : State) → IsRolledBack old new → KeepsCommit old new
keeps_back old new h = record { was_open = h.was_open; committed = λ is. (h.undone is).1 }

pub keeps_fails : (old new : State) (U : Type 0) (e : Error) → Fails old new U e → KeepsCommit old new
keeps_fails old new U e h = keeps_back old new h.3

pub keeps_not_run : (old new : State) (sql : List ℕ) (params : Row) (e : Error) → IsNotRun old new sql params e → KeepsCommit old new
unfolding IsNotRun
keeps_not_run old new sql params e (inl h) = keeps_unchanged old new h.1
keeps_not_run old new sql params e (inr h) = keeps_fails old new _ e h

pub keeps_command : (old new : State) (sql : List ℕ) (params : Row) (e : Error) (c : _) → RunsCommand old new sql c params (Err e) → KeepsCommit old new
keeps_command old new sql params e c (inl h) = keeps_unchanged old new h.1
keeps_command old new sql params e c (inr h) = keeps_fails old new _ e h

-- a statement that failed
pub keeps_failed : (old new : State) (sql : List ℕ) (params : Row) (e : Error) → Executes sql params old new (Err e) → KeepsCommit old new
unfolding ExecutesIn
keeps_failed old new sql params e (inl h) = keeps_not_run old new sql params e h
keeps_failed old new sql params e (inr h) = elim (cases_Bool (shows_rows false h.0)) [
  | inl shows ↦ keeps_unchanged old new (rw shows at h.2).1
  | inr runs ↦ keeps_command old new sql _ e h.0 (rw runs at h.2)
]

-- a query that failed
pub keeps_query : (old new : State) (sql : List ℕ) (params : Row) (e : Error) → FailsToQuery sql params old new e → KeepsCommit old new
unfolding FailsToQuery
keeps_query old new sql params e (inl h) = keeps_not_run old new sql params e h
keeps_query old new sql params e (inr h) = shown h.0.returning h.2
  where
    shown : (r : _) → FailsToShow old new sql h.0 (timed params h.0.formats h.1.now) e r → KeepsCommit old new
    shown None it = keeps_unchanged old new it.3
    shown (Some what) it = keeps_command old new sql _ e h.0 it

-- ---- and what failed is undone, or was not begun

undone_unchanged : (old new : State) → IsUnchanged old new → IsEndedOrKept old new
undone_unchanged old new h = inr (h.0.mode, h.0.now_is)

undone_fails : (old new : State) (U : Type 0) (e : Error) → Fails old new U e → IsEndedOrKept old new
undone_fails old new U e h = inl h.3.autocommit

undone_not_run : (old new : State) (sql : List ℕ) (params : Row) (e : Error) → IsNotRun old new sql params e → IsEndedOrKept old new
unfolding IsNotRun
undone_not_run old new sql params e (inl h) = undone_unchanged old new h.1
undone_not_run old new sql params e (inr h) = undone_fails old new _ e h

undone_command : (old new : State) (sql : List ℕ) (params : Row) (e : Error) (c : _) → RunsCommand old new sql c params (Err e) → IsEndedOrKept old new
undone_command old new sql params e c (inl h) = undone_unchanged old new h.1
undone_command old new sql params e c (inr h) = undone_fails old new _ e h

undone_failed : (old new : State) (sql : List ℕ) (params : Row) (e : Error) → Executes sql params old new (Err e) → IsEndedOrKept old new
unfolding ExecutesIn
undone_failed old new sql params e (inl h) = undone_not_run old new sql params e h
undone_failed old new sql params e (inr h) = elim (cases_Bool (shows_rows false h.0)) [
  | inl shows ↦ undone_unchanged old new (rw shows at h.2).1
  | inr runs ↦ undone_command old new sql _ e h.0 (rw runs at h.2)
]

-- ---- the three texts

begins_ok : (old new : State) (n : ℕ) → Executes begin_text [] old new (Ok n) → IsTrue new.is_open × (new.in_transaction ≡ true) × (new.now ≡ old.now)
begins_ok old new n h =
    let ran = runs_as begin_text [] old new old.now.schema refl Begin (begin_is _) (begin_plain _) n h in
    let shown = ran.1 in
    (shown.is_open, shown.mode, shown.now_is)

begins_keeps : (old new : State) (n : ℕ) → Executes begin_text [] old new (Ok n) → KeepsCommit old new
begins_keeps old new n h =
    let ran = runs_as begin_text [] old new old.now.schema refl Begin (begin_is _) (begin_plain _) n h in
    record { was_open = λ _. ran.1.was_open; committed = λ _. ran.1.committed_is }

begins_outside : (old new : State) (n : ℕ) → Executes begin_text [] old new (Ok n) → old.in_transaction ≡ false
begins_outside old new n h = (runs_as begin_text [] old new old.now.schema refl Begin (begin_is _) (begin_plain _) n h).0

commits_was : (old new : State) (n : ℕ) → Executes commit_text [] old new (Ok n) → IsTrue old.is_open
commits_was old new n h = (runs_as commit_text [] old new old.now.schema refl Commit (commit_is _) (commit_plain _) n h).1.was_open

commits_ok : (old new : State) (n : ℕ) → Executes commit_text [] old new (Ok n) → IsTrue new.is_open × (new.in_transaction ≡ false) × (new.now ≡ old.now)
    × (new.committed ≡ new.now)
commits_ok old new n h =
    let ran = runs_as commit_text [] old new old.now.schema refl Commit (commit_is _) (commit_plain _) n h in
    let shown = ran.1 in
    (shown.is_open, shown.mode, shown.now_is, shown.committed_is ∙ sym shown.now_is)

pub command_from : (sql : List ℕ) (s : State) (c : _) (command : Command) → understood s.now.schema sql ≡ Ok c → command_of (understood s.now.schema sql) ≡ command
    → c.command ≡ command
command_from sql s c command is known = sym (ap command_of is) ∙ known

-- what a command that is no write makes of a database
writes_none : (s : State) (returning : Option Returning) (text : List ℕ) (params : Row) (db : Trees) → MayWrite s returning Begin text params db → ⊥
writes_none s None text params db h = let e = h.3 in absurd cc
writes_none s (Some x) text params db h = let e = h.3 in absurd cc

commits_write_none : (s : State) (returning : Option Returning) (text : List ℕ) (params : Row) (db : Trees) → MayWrite s returning Commit text params db → ⊥
commits_write_none s None text params db h = let e = h.3 in absurd cc
commits_write_none s (Some x) text params db h = let e = h.3 in absurd cc

begin_none : (s : State) (returning : Option Returning) (text : List ℕ) (params : Row) (db : Trees) → MayCommit s returning Begin text params db → ⊥
begin_none s returning text params db (inl (inl same, at)) = absurd cc
begin_none s returning text params db (inl (inr named, at)) = let e = named.2 in absurd cc
begin_none s returning text params db (inr wrote) = writes_none s returning text params db wrote

commit_one : (s : State) (returning : Option Returning) (text : List ℕ) (params : Row) (db : Trees) → MayCommit s returning Commit text params db
    → db ≡ s.now.trees
commit_one s returning text params db (inl m) = m.1
commit_one s returning text params db (inr wrote) = absurd (commits_write_none s returning text params db wrote)

begin_commits_none : (s : State) (db : Trees) → ¬ CommitsBy begin_text [] s db
unfolding CommitsBy
begin_commits_none s db h =
    let is = command_from begin_text s h.0 Begin h.1.is (begin_is _) in
    begin_none s h.0.returning (text_of begin_text h.0) (timed [] h.0.formats h.1.now) db (rw is at h.2)

commit_commits : (s : State) (db : Trees) → CommitsBy commit_text [] s db → db ≡ s.now.trees
unfolding CommitsBy
commit_commits s db h =
    let is = command_from commit_text s h.0 Commit h.1.is (commit_is _) in
    commit_one s h.0.returning (text_of commit_text h.0) (timed [] h.0.formats h.1.now) db (rw is at h.2)

rollback_writes_none : (s : State) (returning : Option Returning) (text : List ℕ) (params : Row) (db : Trees) → MayWrite s returning Rollback text params db → ⊥
rollback_writes_none s None text params db h = let e = h.3 in absurd cc
rollback_writes_none s (Some x) text params db h = let e = h.3 in absurd cc

rollback_none : (s : State) (returning : Option Returning) (text : List ℕ) (params : Row) (db : Trees) → MayCommit s returning Rollback text params db → ⊥
rollback_none s returning text params db (inl (inl same, at)) = absurd cc
rollback_none s returning text params db (inl (inr named, at)) = let e = named.2 in absurd cc
rollback_none s returning text params db (inr wrote) = rollback_writes_none s returning text params db wrote

pub begins : (old new : State) (r : Result (Unit {0}) Error) → (HasCleanDisk new → Ran begin_text [] old new r) → Survives old new (CommitsBy begin_text [] old)
    → Begins old new r
begins old new (Ok x) runs survives = record {
  survives = survives_weaker old new _ _ (λ _ db. begin_commits_none old db) survives;
  kept = λ clean. begins_keeps old new (runs clean).0 (runs clean).1;
  begun = λ clean. begins_ok old new (runs clean).0 (runs clean).1;
  outside = λ clean. begins_outside old new (runs clean).0 (runs clean).1;
  failed = tt;
}
begins old new (Err e) runs survives = record {
  survives = survives_weaker old new _ _ (λ _ db. begin_commits_none old db) survives;
  kept = λ clean. keeps_failed old new _ _ e (runs clean);
  begun = tt;
  outside = tt;
  failed = λ clean. undone_failed old new _ _ e (runs clean);
}

pub ends : (old new : State) (r : Result (Unit {0}) Error) → (HasCleanDisk new → Ran commit_text [] old new r) → Survives old new (CommitsBy commit_text [] old)
    → Ends old new r
ends old new (Ok x) runs survives = record {
  survives = survives_weaker old new _ _ (λ _ db. commit_commits old db) survives;
  kept = tt;
  was = λ clean. commits_was old new (runs clean).0 (runs clean).1;
  ended = λ clean. commits_ok old new (runs clean).0 (runs clean).1;
  failed = tt;
}
ends old new (Err e) runs survives = record {
  survives = survives_weaker old new _ _ (λ _ db. commit_commits old db) survives;
  kept = λ clean. keeps_failed old new _ _ e (runs clean);
  was = tt;
  ended = tt;
  failed = λ clean. undone_failed old new _ _ e (runs clean);
}

-- ---- ROLLBACK

abbrev pub rollback_text : List ℕ
rollback_text = codes "ROLLBACK"

rollback_is : (s : Schema) → command_of (understood s rollback_text) ≡ Rollback
unfolding understood everything
rollback_is s = refl

rollback_plain : (s : Schema) → IsPlain (understood s rollback_text)
unfolding understood everything
rollback_plain s = (refl, refl)

abbrev pub IsWhole : List ℕ → Result Compiled CompileError → Type 0
IsWhole sql (Ok c) = (length sql ≤ c.tail) × (c.names ≡ [])
IsWhole sql (Err e) = ⊥

rollback_whole : (s : Schema) → IsWhole rollback_text (understood s rollback_text)
unfolding understood everything
rollback_whole s = (omega arith, refl)

rollback_commits_none : (s : State) (db : Trees) → ¬ CommitsBy rollback_text [] s db
unfolding CommitsBy
rollback_commits_none s db h =
    let is = command_from rollback_text s h.0 Rollback h.1.is (rollback_is _) in
    rollback_none s h.0.returning (text_of rollback_text h.0) (timed [] h.0.formats h.1.now) db (rw is at h.2)

-- a whole text without parameters is a statement over every schema
pub never_unread : (sql : List ℕ) → ((s : Schema) → IsWhole sql (understood s sql)) → ((s : Schema) → IsPlain (understood s sql)) → (s : State) (e : Error)
    → ¬ IsNoStatement s sql [] e
never_unread sql whole plain s e (inl bad) = subst (IsWhole sql) bad.1 (whole s.now.schema)
never_unread sql whole plain s e (inr (c, is, inl (more, same))) = more (subst (IsWhole sql) is (whole s.now.schema)).0
never_unread sql whole plain s e (inr (c, is, inr (inl (wrong, same)))) = wrong (sym (ap length (subst (IsWhole sql) is (whole s.now.schema)).1))
never_unread sql whole plain s e (inr (c, is, inr (inr (late, same)))) = late (subst IsPlain is (plain s.now.schema)).1

misplaced_never : (s : State) (e : Error) → s.in_transaction ≡ true → IsMisplaced s Rollback e → ⊥
misplaced_never s e inside (inl (is, inl (same, at))) = absurd cc
misplaced_never s e inside (inl (is, inr (both, out))) = let no = sym inside ∙ out in absurd cc
misplaced_never s e inside (inr (is, name, inl same, at)) = absurd cc
misplaced_never s e inside (inr (is, name, inr same, at)) = absurd cc

-- a command that is no write changes nothing
pub changes_never : (command : Command) → (IsWrite command → ⊥) → (c : Compiled) → c.command ≡ command → c.returning ≡ None → MayChange c → ⊥
changes_never command never c is none (inl writes) = never (subst IsWrite is writes)
changes_never command never c is none (inr some) = let it = rw none at some in absurd cc

command_back : (old new : State) (e : Error) (c : Compiled) (text : List ℕ) (params : Row) → old.in_transaction ≡ true → c.command ≡ Rollback
    → c.returning ≡ None → RunsCommand old new text c params (Err e) → IsRolledBack old new
command_back old new e c text params inside is none (inl (inl misplaced, same)) = absurd (misplaced_never old e inside (rw is at misplaced))
command_back old new e c text params inside is none (inl (inr (may, does), same)) = absurd (changes_never Rollback (λ writes. writes) c is none may)
command_back old new e c text params inside is none (inr fails) = fails.3

rolls_back : (old new : State) (r : Result ℕ Error) → old.in_transaction ≡ true → Executes rollback_text [] old new r → IsRolledBack old new
unfolding ExecutesIn IsNotRun
rolls_back old new (Ok n) inside h = (runs_as rollback_text [] old new old.now.schema refl Rollback (rollback_is _) (rollback_plain _) n h).1
rolls_back old new (Err e) inside (inl (inl bad)) = absurd (never_unread rollback_text rollback_whole rollback_plain old e bad.0)
rolls_back old new (Err e) inside (inl (inr fails)) = fails.3
rolls_back old new (Err e) inside (inr (c, it, ran)) =
    let is = command_from rollback_text old c Rollback it.is (rollback_is _) in
    let bare = subst IsPlain it.is (rollback_plain old.now.schema) in
    let quiet : shows_rows false c ≡ false = rw (is, bare.0) in
    command_back old new e c rollback_text (timed [] c.formats it.now) inside is bare.0 (rw quiet at ran)

pub undoes : (old new : State) (r : Result ℕ Error) → old.in_transaction ≡ true → (HasCleanDisk new → Executes rollback_text [] old new r)
    → Survives old new (CommitsBy rollback_text [] old) → Undoes old new
undoes old new r inside runs survives = record {
  survives = survives_weaker old new _ _ (λ _ db. rollback_commits_none old db) survives;
  autocommit = λ clean. (rolls_back old new r inside (runs clean)).autocommit;
  undone = λ clean is_open. let back = rolls_back old new r inside (runs clean) in (back.was_open is_open, (back.undone is_open).0, (back.undone is_open).1);
}

-- what was undone is open where a text is compiled then

keeps_undone : (old new : State) → Undoes old new → HasCleanDisk new → KeepsCommit old new
keeps_undone old new u clean = record { was_open = λ is. (u.undone clean is).0; committed = λ is. (u.undone clean is).2 }

pub goes_back : {X Y : Type 0} (a b d : State) (x : X) (y : Y) → Undoes a b → (HasCleanDisk d → IsUnchanged b d) → Survives b d (λ _. ⊥)
    → GoesBack {E = Error} a d (Ok y)
goes_back a b d x y u same survives = record {
  commits = record {
    survives = survives_then a b d _ _ _ (λ _ db none. none) (λ _ db none. none) u.survives survives;
    kept = λ clean. keeps_then a b d (keeps_undone a b u (earlier b d _ survives clean)) (keeps_unchanged b d (same clean));
  };
  back = λ clean.
      let mid = earlier b d _ survives clean in
      let is = (same clean).0 in
      let was = u.undone mid is.was_open in
      (is.is_open, is.mode ∙ u.autocommit mid, is.now_is ∙ was.1, is.committed_is ∙ was.2);
}

pub goes_nowhere : {X F : Type 0} (a b d : State) (e : Error) (sql : List ℕ) (r : Result X F) → IsErr r → Undoes a b
    → (HasCleanDisk d → (params : Row) → IsNotRun b d sql params e) → Survives b d (λ _. ⊥) → GoesBack a d r
goes_nowhere a b d e sql (Ok x) is u failed survives = absurd (cc is)
goes_nowhere a b d e sql (Err f) is u failed survives = record {
  commits = record {
    survives = survives_then a b d _ _ _ (λ _ db none. none) (λ _ db none. none) u.survives survives;
    kept = λ clean. keeps_then a b d (keeps_undone a b u (earlier b d _ survives clean)) (keeps_not_run b d sql [] e (failed clean []));
  };
  back = tt;
}
