-- Calls within a transaction, over any database, one after another.
use Rattle.std.proofs.Common.{◌≡◌, true, Ok, Err, Result}
use Rattle.std.specs.Result.{IsErr}
use Rattle.sqlite.specs.State.{State, HasCleanDisk, KeepsCommit}
use Rattle.sqlite.proofs.StateLemmas.{survives_weaker, survives_then}
use Rattle.sqlite.proofs.InsideLemmas.{keeps_then}
use Rattle.fuse_store_tables.specs.Moves.{Begins, Ends}
use Rattle.fuse_store_tables.specs.inner.Following.{earlier}
use Rattle.fuse_store_tables.specs.inner.Performing.{CommitsNothing, StaysWithin}

-- ---- one call after another

pub within_then : {X Y E F : Type 0} (a b d : State) (x : X) (r : Result Y F) → StaysWithin {E = E} a b (Ok x) → StaysWithin b d r → StaysWithin a d r
within_then a b d x (Ok y) p q = record {
  survives =
      survives_then a b d _ _ _ (λ _ db none. none) (λ clean db none inside. none (p.within (earlier b d _ q.survives clean) inside)) p.survives q.survives;
  kept = λ clean inside.
      let mid = earlier b d _ q.survives clean in
      keeps_then a b d (p.kept mid inside) (q.kept clean (p.within mid inside));
  within = λ clean inside. q.within clean (p.within (earlier b d _ q.survives clean) inside);
}
within_then a b d x (Err e) p q = record {
  survives =
      survives_then a b d _ _ _ (λ _ db none. none) (λ clean db none inside. none (p.within (earlier b d _ q.survives clean) inside)) p.survives q.survives;
  kept = λ clean inside.
      let mid = earlier b d _ q.survives clean in
      keeps_then a b d (p.kept mid inside) (q.kept clean (p.within mid inside));
  within = tt;
}

-- what `?` returns
pub within_failed : {X Y E F : Type 0} (a b : State) (e : E) (r : Result Y F) → StaysWithin {X = X} a b (Err e) → IsErr r → StaysWithin a b r
within_failed a b e (Ok y) p is = absurd cc
within_failed a b e (Err f) p is = record { survives = p.survives; kept = p.kept; within = tt }

-- after what went well, another call that failed
pub within_fails : {X Y Z E F G : Type 0} (a b d : State) (x : X) (e : F) (r : Result Z G) → StaysWithin {E = E} a b (Ok x) → StaysWithin {X = Y} b d (Err e) → IsErr r
    → StaysWithin a d r
within_fails a b d x e r p q is = within_failed a d e r (within_then a b d x (Err e) p q) is

-- the same call, and any value
pub within_told : {X Y E F : Type 0} (a b : State) (x : X) (r : Result Y F) → StaysWithin {E = E} a b (Ok x) → StaysWithin a b r
within_told a b x (Ok y) p = record { survives = p.survives; kept = p.kept; within = p.within }
within_told a b x (Err f) p = record { survives = p.survives; kept = p.kept; within = tt }

-- in a transaction that is open
pub nothing_within : {X E : Type 0} (b d : State) (r : Result X E) → (HasCleanDisk b → b.in_transaction ≡ true) → StaysWithin b d r → CommitsNothing b d
nothing_within b d r inside p = record {
  survives = survives_weaker b d _ _ (λ clean db none. none (inside (earlier b d _ p.survives clean))) p.survives;
  kept = λ clean. p.kept clean (inside (earlier b d _ p.survives clean));
}

-- what was committed before the transaction is kept
pub keeps_within : {X Y E F : Type 0} (a b d : State) (x : X) (r : Result Y F) → Begins {E = E} a b (Ok x) → StaysWithin b d r → HasCleanDisk d
    → KeepsCommit a d
keeps_within a b d x r p q clean =
    let mid = earlier b d _ q.survives clean in
    keeps_then a b d (p.kept mid) (q.kept clean (p.begun mid).1)

pub keeps_commit : {X Y Z E F G : Type 0} (a b d e : State) (x : X) (r : Result Y F) (f : G) → Begins {E = E} a b (Ok x) → StaysWithin b d r
    → Ends {X = Z} d e (Err f) → HasCleanDisk e → KeepsCommit a e
keeps_commit a b d e x r f p q t clean = keeps_then a d e (keeps_within a b d x r p q (earlier d e _ t.survives clean)) (t.kept clean)
