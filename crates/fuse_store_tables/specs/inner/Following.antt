-- One call after another: both make what each makes (defined by this project). The proofs are here because the crates above cite them.
use Rattle.std.proofs.Common.{subst}
use Rattle.std.specs.Prelude.{◌≤◌, Result, Ok, Err}
use Rattle.std.proofs.Math.Arith.{le-zero}
use Rattle.sqlite.specs.Tree.{Trees}
use Rattle.sqlite_trees.specs.View.{doubt}
use Rattle.sqlite.specs.Effect.{Database}
use Rattle.sqlite.specs.State.{State, HasCleanDisk, Survives}
use Rattle.sqlite.proofs.StateLemmas.{survives_then, survives_weaker}
use Rattle.sqlite.proofs.InsideLemmas.{keeps_then}
use Rattle.fuse_keeper.specs.declared.fault.StoreFault.{StoreFault}
use Rattle.fuse_store_tables.specs.Content.{Content, Holds, LeftAs}
use Rattle.std.specs.Result.{IsErr}
use Rattle.fuse_store_tables.specs.Moves.{RestsAs, Stays, StaysInside, Takes, Makes, ServesAs, IsSafe, StaysOpen}

-- a disk that is clean after a call was so before it
pub earlier : (a b : State) (P : Trees → Type 0) → Survives a b P → HasCleanDisk b → HasCleanDisk a
earlier a b P s clean = le-zero (subst (λ n. doubt a.is_clean ≤ n) clean s.clean)

pub inside_then : {P : Trees → Type 0} (a b d : State) → StaysInside a b → Survives b d P → StaysInside b d → StaysInside a d
inside_then a b d p s q clean inside = q clean (p (earlier b d _ s clean) inside)

pub stays_then : (a b d : State) → Stays a b → StaysInside a b → Stays b d → Stays a d
stays_then a b d p on q = record {
  survives =
      survives_then a b d _ _ _ (λ _ db none. none) (λ clean db none inside. none (on (earlier b d _ q.survives clean) inside))
      p.survives q.survives;
  kept = λ clean inside.
      let mid = earlier b d _ q.survives clean in
      keeps_then a b d (p.kept mid inside) (q.kept clean (on mid inside));
}

-- one step after another, where the second is ready for what the first makes
pub then_as : {C X Y E F : Type 0} (P Q R : C → Database → Type 0) (a b d : State) (x : X) (r : Result Y F) → Takes {X = X} {E = E} P Q a b (Ok x)
    → Takes Q R b d r → Takes P R a d r
then_as P Q R a b d x (Ok y) p q = record {
  stays = stays_then a b d p.stays p.within q.stays;
  within = inside_then a b d p.within q.stays.survives q.within;
  turns = λ clean c at. q.turns clean c (p.turns (earlier b d _ q.stays.survives clean) c at);
}
then_as P Q R a b d x (Err e) p q = record { stays = stays_then a b d p.stays p.within q.stays; within = tt; turns = tt }

-- the same step, begun with the databases of another family
pub taken_from : {C D X E : Type 0} (P Q : C → Database → Type 0) (f : D → C) (a b : State) (r : Result X E) → Takes P Q a b r
    → Takes (λ d. P (f d)) (λ d. Q (f d)) a b r
taken_from P Q f a b (Ok x) p = record { stays = p.stays; within = p.within; turns = λ clean d at. p.turns clean (f d) at }
taken_from P Q f a b (Err e) p = record { stays = p.stays; within = tt; turns = tt }

pub makes_then : {X Y E F : Type 0} (f g : Content → Content) (a b d : State) (x : X) (r : Result Y F) → Makes {X = X} {E = E} f a b (Ok x) → Makes g b d r
    → Makes (λ c. g (f c)) a d r
makes_then f g a b d x r p q = then_as Holds (λ c. Holds (f c)) (λ c. Holds (g (f c))) a b d x r p (taken_from Holds (λ c. Holds (g c)) f b d r q)

-- ---- the connection

-- the same, with what was read
pub open_told : {X Y E F : Type 0} (a b : State) (x : X) (r : Result Y F) → StaysOpen {E = E} a b (Ok x) → StaysOpen a b r
open_told a b x (Ok y) p = record { was = p.was; still = p.still }
open_told a b x (Err f) p = record { was = p.was; still = tt }

-- what `?` returns of a call that failed
pub open_fails : {X Y E F : Type 0} (a b : State) (e : E) (r : Result Y F) → IsErr r → StaysOpen {X = X} a b (Err e) → StaysOpen a b r
open_fails a b e (Ok y) is p = absurd cc
open_fails a b e (Err f) is p = record { was = p.was; still = tt }

-- one call after another
pub open_then : {X Y E F : Type 0} (a b d : State) (x : X) (r : Result Y F) → StaysOpen {E = E} a b (Ok x) → {K : Trees → Type 0} → Survives b d K
    → StaysOpen b d r → StaysOpen a d r
open_then a b d x (Ok y) p s q = record {
  was = λ clean is_open. p.was (earlier b d _ s clean) (q.was clean is_open);
  still = λ clean was_open. q.still clean (p.still (earlier b d _ s clean) was_open);
}
open_then a b d x (Err f) p s q = record { was = λ clean is_open. p.was (earlier b d _ s clean) (q.was clean is_open); still = tt }

-- ---- reads outside a transaction

-- the same, with what was read
pub rests_told : {C X Y E F : Type 0} (P : C → Database → Type 0) (a b : State) (x : X) (r : Result Y F) → ServesAs {X = X} {E = E} P P a b (Ok x)
    → ServesAs P P a b r
rests_told P a b x (Ok y) p = record { survives = p.survives; kept = tt; done = p.done }
rests_told P a b x (Err f) p = record { survives = p.survives; kept = λ clean is_open. p.done clean; done = tt }

-- a read that failed, with another fault
pub rests_failed : {C X Y E F : Type 0} (P : C → Database → Type 0) (a b : State) (e : E) (f : F) → ServesAs {X = X} P P a b (Err e)
    → ServesAs {X = Y} P P a b (Err f)
rests_failed P a b e f p = record { survives = p.survives; kept = p.kept; done = tt }

rests_survive : {C X E : Type 0} (P : C → Database → Type 0) (a b d : State) (x : X) → ServesAs {X = X} {E = E} P P a b (Ok x)
    → Survives b d (λ db. (c : C) → RestsAs (P c) b → LeftAs (P c) db) → Survives a d (λ db. (c : C) → RestsAs (P c) a → LeftAs (P c) db)
rests_survive P a b d x p s = survives_then a b d _ _ _ (λ _ db left. left)
    (λ clean db left c at. left c (p.done (earlier b d _ s clean) c at)) p.survives s

-- one read after another
pub rests_then : {C X Y E F : Type 0} (P : C → Database → Type 0) (a b d : State) (x : X) (r : Result Y F) → ServesAs {X = X} {E = E} P P a b (Ok x)
    → ServesAs P P b d r → ServesAs P P a d r
rests_then P a b d x (Ok y) p q = record {
  survives = rests_survive P a b d x p q.survives;
  kept = tt;
  done = λ clean c at. q.done clean c (p.done (earlier b d _ q.survives clean) c at);
}
rests_then P a b d x (Err f) p q = record {
  survives = rests_survive P a b d x p q.survives;
  kept = λ clean is_open c at. q.kept clean is_open c (p.done (earlier b d _ q.survives clean) c at);
  done = tt;
}

-- the same of databases of which more is known
module _ {C D : Type 0} (P : C → Database → Type 0) (Q : D → Database → Type 0)
    (has : (y : D) (d : Database) → Q y d → (c : C) × P c d × ((e : Database) → P c e → Q y e)) where
  pub rests_less : (s : State) (y : D) (at : RestsAs (Q y) s) → RestsAs (P (has y s.now at.holds).0) s
  rests_less s y at = record { is_open = at.is_open; autocommit = at.autocommit; holds = (has y s.now at.holds).1; committed = at.committed }

  back : (a b : State) (y : D) (at : RestsAs (Q y) a) → RestsAs (P (has y a.now at.holds).0) b → RestsAs (Q y) b
  back a b y at now = record {
    is_open = now.is_open;
    autocommit = now.autocommit;
    holds = (has y a.now at.holds).2 b.now now.holds;
    committed = now.committed;
  }

  survive : (a b : State) → Survives a b (λ db. (c : C) → RestsAs (P c) a → LeftAs (P c) db) → Survives a b (λ db. (y : D) → RestsAs (Q y) a → LeftAs (Q y) db)
  survive a b s = survives_weaker a b _ _ (λ _ db left y at.
      let is = left (has y a.now at.holds).0 (rests_less a y at) in
      (is.0, (has y a.now at.holds).2 is.0 is.1, is.2)) s

  pub rests_also : {X E : Type 0} (a b : State) (r : Result X E) → ServesAs P P a b r → ServesAs Q Q a b r
  rests_also a b (Ok x) p = record {
    survives = survive a b p.survives;
    kept = tt;
    done = λ clean y at. back a b y at (p.done clean (has y a.now at.holds).0 (rests_less a y at));
  }
  rests_also a b (Err e) p = record {
    survives = survive a b p.survives;
    kept = λ clean is_open y at. back a b y at (p.kept clean is_open (has y a.now at.holds).0 (rests_less a y at));
    done = tt;
  }

  pub safe_also : {X : Type 0} (a b : State) (r : Result X StoreFault) → IsSafe P a b r → IsSafe Q a b r
  safe_also a b (Ok x) p clean = tt
  safe_also a b (Err f) p clean = λ y at. p clean (has y a.now at.holds).0 (rests_less a y at)
