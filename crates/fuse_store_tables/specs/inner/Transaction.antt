-- A whole transaction, of the steps between its begin and its end (defined by this project). The proofs are here because the crates
-- above cite them.
use Rattle.std.proofs.Common.{◌≡◌, sym, ap, subst, ◌∙◌}
use Rattle.std.specs.Prelude.{IsTrue, Result, Ok, Err}
use Rattle.sqlite.specs.Tree.{Trees}
use Rattle.sqlite.specs.Effect.{Database}
use Rattle.sqlite.specs.State.{State, HasCleanDisk, Survives, KeepsCommit}
use Rattle.sqlite.proofs.StateLemmas.{survives_weaker, survives_then}
use Rattle.sqlite.proofs.InsideLemmas.{keeps_then}
use Rattle.fuse_store_tables.specs.Content.{LeftAs}
use Rattle.fuse_store_tables.specs.Moves.{RestsAs, InsideAs, Takes, Begins, Ends, Undoes, ServesAs, StaysOpen, CommitsNothing, CommitsOnce}
use Rattle.fuse_store_tables.specs.inner.Performing.{TransactsAs}
use Rattle.fuse_store_tables.specs.inner.Following.{earlier}

-- ---- a whole transaction

module _ {C : Type 0} (P Q : C → Database → Type 0) where
  pub failed_first : {X Y E F : Type 0} (a b : State) (e : E) (d : F) → Begins {X = X} a b (Err e) → TransactsAs {X = Y} P Q a b (Err d)
  failed_first a b e d p = record { survives = survives_weaker a b _ _ (λ _ db none. absurd none) p.survives; kept = λ clean c at. p.kept clean; done = tt }

  begun : {X E : Type 0} (a b : State) (x : X) → Begins {E = E} a b (Ok x) → HasCleanDisk b → (c : C) → RestsAs (P c) a → InsideAs (P c) b
  begun a b x p clean c at = let on = p.begun clean in record { is_open = on.0; in_transaction = on.1; holds = subst (P c) (sym on.2) at.holds }

  pub failed_inside : {X Y Z E F G : Type 0} (R : C → Database → Type 0) (a b d : State) (x : X) (e : F) (h : G) → Begins {E = E} a b (Ok x)
      → Takes {X = Y} P R b d (Err e) → TransactsAs {X = Z} P Q a d (Err h)
  failed_inside R a b d x e h p q = record {
    survives = survives_then a b d _ _ _ (λ _ db none. absurd none) (λ clean db none c at. absurd (none (p.begun (earlier b d _ q.stays.survives clean)).1)) p.survives q.stays.survives;
    kept = λ clean c at. let mid = earlier b d _ q.stays.survives clean in keeps_then a b d (p.kept mid) (q.stays.kept clean (p.begun mid).1);
    done = tt;
  }

  -- the transaction as it stands before the commit
  within : (a b d : State) {X Y E F : Type 0} (x : X) (y : Y) → Begins {E = E} a b (Ok x) → Takes {E = F} P Q b d (Ok y) → HasCleanDisk d → (c : C)
      → RestsAs (P c) a → InsideAs (Q c) d
  within a b d x y p q clean c at = q.turns clean c (begun a b x p (earlier b d _ q.stays.survives clean) c at)

  inside_survives : (a b d : State) {X Y E F : Type 0} (x : X) (y : Y) → Begins {E = E} a b (Ok x) → Takes {E = F} P Q b d (Ok y) → Survives a d (λ db. (c : C)
      → RestsAs (P c) a → LeftAs (Q c) db)
  inside_survives a b d x y p q = survives_then a b d _ _ _ (λ _ db none. absurd none) (λ clean db none c at. absurd
      (none (p.begun (earlier b d _ q.stays.survives clean)).1)) p.survives q.stays.survives

  all_survives : (a b d e : State) {X Y Z E F G : Type 0} (x : X) (y : Y) (r : Result Z G) → Begins {E = E} a b (Ok x) → Takes {E = F} P Q b d (Ok y)
      → Ends d e r → Survives a e (λ db. (c : C) → RestsAs (P c) a → LeftAs (Q c) db)
  all_survives a b d e x y r p q t = survives_then a d e _ _ _ (λ _ db left. left)
      (λ clean db is c at. (d.now, (within a b d x y p q (earlier d e _ t.survives clean) c at).holds, sym is)) (inside_survives a b d x y p q) t.survives

  -- what came before the commit keeps what was committed
  kept_inside : (a b d : State) {X Y E F : Type 0} (x : X) (y : Y) → Begins {E = E} a b (Ok x) → Takes {E = F} P Q b d (Ok y) → HasCleanDisk d → (c : C)
      → RestsAs (P c) a → KeepsCommit a d
  kept_inside a b d x y p q clean c at = let mid = earlier b d _ q.stays.survives clean in keeps_then a b d (p.kept mid)
      (q.stays.kept clean (p.begun mid).1)

  pub committed : {X Y Z W E F G H : Type 0} (a b d e : State) (x : X) (y : Y) (z : Z) (w : W) → Begins {E = E} a b (Ok x) → Takes {E = F} P Q b d (Ok y)
      → Ends {E = G} d e (Ok z) → TransactsAs {E = H} P Q a e (Ok w)
  committed a b d e x y z w p q t = record {
    survives = all_survives a b d e x y (Ok z) p q t;
    kept = tt;
    done = λ clean c at.
        let on = t.ended clean in
        record {
          is_open = on.0;
          autocommit = on.1;
          holds = subst (Q c) (sym on.2) (within a b d x y p q (earlier d e _ t.survives clean) c at).holds;
          committed = on.3;
        };
  }

  pub failed_commit : {X Y Z W E F G H : Type 0} (a b d e : State) (x : X) (y : Y) (h : G) (i : H) → Begins {E = E} a b (Ok x) → Takes {E = F} P Q b d (Ok y)
      → Ends {X = Z} d e (Err h) → TransactsAs {X = W} P Q a e (Err i)
  failed_commit a b d e x y h i p q t = record {
    survives = all_survives a b d e x y (Err h) p q t;
    kept = λ clean c at. keeps_then a d e (kept_inside a b d x y p q (earlier d e _ t.survives clean) c at) (t.kept clean);
    done = tt;
  }

  -- ---- with the rollback after a call that failed

  pub served : {X Y E F : Type 0} (a b : State) (x : X) (y : Y) → TransactsAs {E = E} P Q a b (Ok x) → ServesAs {E = F} P Q a b (Ok y)
  served a b x y p = record { survives = p.survives; kept = tt; done = p.done }

  pub undone : {X Y E F : Type 0} (a b d : State) (e : E) (h : F) → TransactsAs {X = X} P Q a b (Err e) → Undoes b d → ServesAs {X = Y} P Q a d (Err h)
  undone a b d e h p u = record {
    survives = survives_then a b d _ _ _ (λ _ db left. left) (λ _ db none. absurd none) p.survives u.survives;
    kept = λ clean is_open c at.
        let back = u.undone clean is_open in
        let kept = p.kept (earlier b d _ u.survives clean) c at in
        let same : b.committed ≡ a.now = kept.committed back.0 ∙ at.committed in
        record {
          is_open = is_open;
          autocommit = u.autocommit clean;
          holds = subst (P c) (sym (back.1 ∙ same)) at.holds;
          committed = back.2 ∙ sym back.1;
        };
    done = tt;
  }

-- ---- the connection

-- a transaction that began had an open connection
was_open : {X E : Type 0} (a b d : State) (x : X) {K : Trees → Type 0} → Begins {E = E} a b (Ok x) → Survives b d K → HasCleanDisk d → IsTrue a.is_open
was_open a b d x p s clean = let mid = earlier b d _ s clean in (p.kept mid).was_open (p.begun mid).0

pub open_first : {X Y E F : Type 0} (a b : State) (e : E) (h : F) → Begins {X = X} a b (Err e) → StaysOpen {X = Y} a b (Err h)
open_first a b e h p = record { was = λ clean is_open. (p.kept clean).was_open is_open; still = tt }

pub open_inside : {X Y E F : Type 0} (a b d : State) (x : X) (h : F) {K : Trees → Type 0} → Begins {E = E} a b (Ok x) → Survives b d K
    → StaysOpen {X = Y} a d (Err h)
open_inside a b d x h p s = record { was = λ clean is_open. was_open a b d x p s clean; still = tt }

pub open_failed : {X Y Z E F G : Type 0} (a b d e : State) (x : X) (f : F) (h : G) {K : Trees → Type 0} → Begins {E = E} a b (Ok x) → Survives b d K
    → Ends {X = Z} d e (Err f) → StaysOpen {X = Y} a e (Err h)
open_failed a b d e x f h p s t = record { was = λ clean is_open. was_open a b d x p s (earlier d e _ t.survives clean); still = tt }

pub open_committed : {X Y Z E F G : Type 0} (a b d e : State) (x : X) (z : Z) (y : Y) {K : Trees → Type 0} → Begins {E = E} a b (Ok x) → Survives b d K
    → Ends {E = F} d e (Ok z) → StaysOpen {E = G} a e (Ok y)
open_committed a b d e x z y p s t = record {
  was = λ clean is_open. was_open a b d x p s (earlier d e _ t.survives clean);
  still = λ clean is_open. (t.ended clean).0;
}

pub open_undone : {X Y E F : Type 0} (a b d : State) (e : E) (h : F) → StaysOpen {X = X} a b (Err e) → Undoes b d → StaysOpen {X = Y} a d (Err h)
open_undone a b d e h p u = record { was = λ clean is_open. p.was (earlier b d _ u.survives clean) (u.undone clean is_open).0; still = tt }

-- ---- what a crash leaves of any database

pub begins_nothing : {X E : Type 0} (a b : State) (r : Result X E) → Begins a b r → CommitsNothing a b
begins_nothing a b r p = record { survives = survives_weaker a b _ _ (λ _ db none. none) p.survives; kept = p.kept }

-- what failed before the commit
pub once_none : {X E : Type 0} (a b : State) (e : E) → CommitsNothing a b → CommitsOnce {X = X} a b (Err e)
once_none a b e p = record { trees = a.now.trees; survives = survives_weaker a b _ _ (λ _ db none. absurd none) p.survives; made = tt }

-- a commit that failed
pub once_failed : {X Y E F : Type 0} (a d e : State) (f : F) (h : E) → CommitsNothing a d → Ends {X = Y} d e (Err f) → CommitsOnce {X = X} a e (Err h)
once_failed a d e f h p q =
    record { trees = d.now.trees; survives = survives_then a d e _ _ _ (λ _ db none. absurd none) (λ clean db is. is) p.survives q.survives; made = tt }

pub once_committed : {X Y E F : Type 0} (a d e : State) (y : Y) (x : X) → CommitsNothing a d → Ends {E = F} d e (Ok y) → CommitsOnce {E = E} a e (Ok x)
once_committed a d e y x p q = record {
  trees = d.now.trees;
  survives = survives_then a d e _ _ _ (λ _ db none. absurd none) (λ clean db is. is) p.survives q.survives;
  made = λ clean. ap (λ (k : Database). k.trees) (sym (q.ended clean).2);
}

pub once_undone : {X Y E F : Type 0} (a b d : State) (e : E) (f : F) → CommitsOnce {X = X} a b (Err e) → Undoes b d → CommitsOnce {X = Y} a d (Err f)
once_undone a b d e f p u =
    record { trees = p.trees; survives = survives_then a b d _ _ _ (λ _ db is. is) (λ _ db none. absurd none) p.survives u.survives; made = tt }
