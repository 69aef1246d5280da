-- A query outside a transaction: it leaves what is there, and commits nothing.
use Rattle.std.proofs.Common.{◌≡◌, inl, inr, ℕ, List, Some, None, Ok, Err, Result, IfOk, IfErr, IsTrue, sym, ap, subst, ◌∙◌}
use Rattle.sqlite.specs.Schema.{Schema}
use Rattle.sqlite.specs.Order.{Row}
use Rattle.sqlite.specs.Tree.{Trees}
use Rattle.sqlite.specs.declared.error.Error.{Error}
use Rattle.sqlite.specs.Listing.{understood}
use Rattle.sqlite.specs.Effect.{Database}
use Rattle.sqlite.specs.State.{State, HasCleanDisk, Survives, Shown, FailsToQuery, FailsToShow, CommitsShowing, IsUnchanged, IsRolledBack}
use Rattle.sqlite.specs.State.{IsNotRun, RunsCommand, ShowsRows}
use Rattle.sqlite.specs.Clock.{timed}
use Rattle.sqlite.proofs.StateLemmas.{survives_weaker}
use Rattle.sqlite.proofs.Callers.{IsPlain, never_commits}
use Rattle.fuse_store_tables.specs.Moves.{RestsAs, ServesAs, StaysOpen}

-- ---- what rests stays

module _ (P : Database → Type 0) (old new : State) (at : RestsAs P old) where
  unchanged_rests : IsUnchanged old new → RestsAs P new
  unchanged_rests h =
      let is = h.0 in
      record {
        is_open = is.is_open;
        autocommit = is.mode ∙ at.autocommit;
        holds = subst P (sym is.now_is) at.holds;
        committed = is.committed_is
            ∙ at.committed ∙ sym is.now_is;
      }

  back_rests : IsTrue new.is_open → IsRolledBack old new → RestsAs P new
  back_rests is_open h =
      let back = h.undone is_open in
      record {
        is_open = is_open;
        autocommit = h.autocommit;
        holds = subst P (sym (back.0 ∙ at.committed)) at.holds;
        committed = back.1 ∙ sym back.0;
      }

  not_run_rests : (sql : List ℕ) (params : Row) (e : Error) → IsTrue new.is_open → IsNotRun old new sql params e → RestsAs P new
  unfolding IsNotRun
  not_run_rests sql params e is_open (inl h) = unchanged_rests h.1
  not_run_rests sql params e is_open (inr h) = back_rests is_open h.3

  command_rests : (sql : List ℕ) (params : Row) (e : Error) (c : _) → IsTrue new.is_open → RunsCommand old new sql c params (Err e) → RestsAs P new
  command_rests sql params e c is_open (inl h) = unchanged_rests h.1
  command_rests sql params e c is_open (inr h) = back_rests is_open h.3

  failed_rests : (sql : List ℕ) (params : Row) (e : Error) → IsTrue new.is_open → FailsToQuery sql params old new e → RestsAs P new
  unfolding FailsToQuery
  failed_rests sql params e is_open (inl h) = not_run_rests sql params e is_open h
  failed_rests sql params e is_open (inr h) = shown h.0.returning h.2
    where
      shown : (r : _) → FailsToShow old new sql h.0 (timed params h.0.formats h.1.now) e r → RestsAs P new
      shown None it = unchanged_rests it.3
      shown (Some what) it = command_rests sql _ e h.0 is_open it

-- ---- the connection

module _ (old new : State) where
  not_run_open : (sql : List ℕ) (params : Row) (e : Error) → IsTrue new.is_open → IsNotRun old new sql params e → IsTrue old.is_open
  unfolding IsNotRun
  not_run_open sql params e is_open (inl h) = h.1.0.was_open
  not_run_open sql params e is_open (inr h) = h.3.was_open is_open

  command_open : (sql : List ℕ) (params : Row) (e : Error) (c : _) → IsTrue new.is_open → RunsCommand old new sql c params (Err e) → IsTrue old.is_open
  command_open sql params e c is_open (inl h) = h.1.0.was_open
  command_open sql params e c is_open (inr h) = h.3.was_open is_open

  failed_open : (sql : List ℕ) (params : Row) (e : Error) → IsTrue new.is_open → FailsToQuery sql params old new e → IsTrue old.is_open
  unfolding FailsToQuery
  failed_open sql params e is_open (inl h) = not_run_open sql params e is_open h
  failed_open sql params e is_open (inr h) = shown h.0.returning h.2
    where
      shown : (r : _) → FailsToShow old new sql h.0 (timed params h.0.formats h.1.now) e r → IsTrue old.is_open
      shown None it = it.3.0.was_open
      shown (Some what) it = command_open sql _ e h.0 is_open it

  pub shown_open : (sql : List ℕ) (params : Row) (rows : List Row) → Shown sql params old new rows → IsTrue old.is_open × IsTrue new.is_open
  unfolding Shown
  shown_open sql params rows h = shown h.0.returning h.2
    where
      shown : (r : _) → ShowsRows old new sql h.0 (timed params h.0.formats h.1.now) rows r → IsTrue old.is_open × IsTrue new.is_open
      shown None it = (it.3.0.was_open, it.3.0.is_open)
      shown (Some what) it = (it.1.shown.was_open, it.1.shown.is_open)

pub peeks_open : (sql : List ℕ) (params : Row) {X : Type 0} (items : X → List Row) (old new : State) (r : Result X Error)
    → (HasCleanDisk new → IfOk r (λ x. Shown sql params old new (items x))) → (HasCleanDisk new → IfErr r (FailsToQuery sql params old new))
    → StaysOpen old new r
peeks_open sql params items old new (Ok x) ok err = record {
  was = λ clean is_open. (shown_open old new sql params (items x) (ok clean)).0;
  still = λ clean is_open. (shown_open old new sql params (items x) (ok clean)).1;
}
peeks_open sql params items old new (Err e) ok err = record { was = λ clean is_open. failed_open old new sql params e is_open (err clean); still = tt }

-- ---- a query

module _ {C : Type 0} (P : C → Database → Type 0) (layout : C → Schema) (known : (c : C) (d : Database) → P c d → d.schema ≡ layout c) (sql : List ℕ) (params : Row)
    (plain : (c : C) → IsPlain (understood (layout c) sql)) where
  same : (c : C) (old new : State) (rows : List Row) → P c old.now → Shown sql params old new rows → IsUnchanged old new
  unfolding Shown
  same c old new rows at h =
      let heard = sym h.1.is ∙ ap (λ (t : Schema). understood t sql) (known c old.now at) in
      let bare = subst IsPlain (sym heard) (plain c) in
      (rw (bare.0) at h.2).3

  none : (c : C) (s : State) (db : Trees) → P c s.now → ¬ CommitsShowing sql params s db
  none c s db at = never_commits sql params s db (subst (λ (t : Schema). IsPlain (understood t sql)) (sym (known c s.now at)) (plain c))

  pub peeks : {X : Type 0} (items : X → List Row) (old new : State) (r : Result X Error) → (HasCleanDisk new → IfOk r (λ x. Shown sql params old new (items x)))
      → (HasCleanDisk new → IfErr r (FailsToQuery sql params old new)) → Survives old new (CommitsShowing sql params old) → ServesAs P P old new r
  peeks items old new (Ok x) ok err survives = record {
    survives = survives_weaker old new _ _ (λ _ db commits c at. absurd (none c old db at.holds commits)) survives;
    kept = tt;
    done = λ clean c at. unchanged_rests (P c) old new at (same c old new (items x) at.holds (ok clean));
  }
  peeks items old new (Err e) ok err survives = record {
    survives = survives_weaker old new _ _ (λ _ db commits c at. absurd (none c old db at.holds commits)) survives;
    kept = λ clean is_open c at. failed_rests (P c) old new at sql params e is_open (err clean);
    done = tt;
  }
