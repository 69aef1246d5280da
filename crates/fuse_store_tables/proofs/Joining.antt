-- Calls one after another.
use Rattle.std.proofs.Common.{◌≡◌, Bool, true, false, cond, Ok, Err, Result, IfErr, IsErrAnd, sym, subst, ◌∙◌}
use Rattle.std.specs.Result.{IsErr}
use Rattle.sqlite.specs.Effect.{Database}
use Rattle.sqlite.specs.State.{State, HasCleanDisk, Survives}
use Rattle.fuse_store_tables.specs.Content.{Content, Holds}
pub use Rattle.fuse_store_tables.specs.inner.Following.{earlier, stays_then, then_as, taken_from, makes_then}
pub use Rattle.fuse_store_tables.specs.inner.Transaction.{failed_first, failed_inside, failed_commit, committed, served, undone}
use Rattle.sqlite.specs.declared.error.Error.{Error}
use Rattle.sqlite.specs.Tree.{Trees}
use Rattle.fuse_keeper.specs.declared.fault.StoreFault.{StoreFault}
use Rattle.fuse_keeper.specs.declared.fault.StoreFault.TheVariants.{Memory, Sql}
use Rattle.fuse_store_tables.specs.Faults.{IsOutside}
use Rattle.fuse_keeper.specs.Faults.{fault_of, is_memory}
use Rattle.fuse_store_tables.specs.Moves.{InsideAs, Takes, Makes}
use Rattle.fuse_store_tables.specs.inner.Performing.{IsSure}

-- a call that failed makes nothing, so it may stand for any
pub fails_as : {C X Y E F : Type 0} (P Q R : C → Database → Type 0) (a b : State) (e : E) (d : F) → Takes {X = X} P Q a b (Err e)
    → Takes {X = Y} P R a b (Err d)
fails_as P Q R a b e d p = record { stays = p.stays; within = tt; turns = tt }

pub makes_none : {X Y E F : Type 0} (f g : Content → Content) (a b : State) (e : E) (d : F) → Makes {X = X} f a b (Err e) → Makes {X = Y} g a b (Err d)
makes_none f g a b e d p = record { stays = p.stays; within = tt; turns = tt }

-- a look that gave a value, and a fault that came of it
pub fails_looked : {X Y E F : Type 0} (f : Content → Content) (a b : State) (x : X) (r : Result Y F) → Makes {E = E} (λ c. c) a b (Ok x) → IsErr r
    → Makes f a b r
fails_looked f a b x (Ok y) p is = absurd cc
fails_looked f a b x (Err e) p is = record { stays = p.stays; within = tt; turns = tt }

-- what `?` returns of a fault that says nothing of the tables
pub outside_back : {Y : Type 0} (e : StoreFault) (r : Result Y StoreFault) → IsErrAnd r (λ f. f ≡ e) → IsOutside e → IfErr r IsOutside
outside_back e (Ok y) same out = absurd same
outside_back e (Err f) same out = subst IsOutside (sym same) out

-- a look that gave a value, and a call whose meaning is known by it
pub makes_as_too : {X Y E F : Type 0} (f g : Content → Content) (a b d : State) (x : X) (r : Result Y F) → Makes {E = E} (λ c. c) a b (Ok x)
    → ((c : Content) → HasCleanDisk b → InsideAs (Holds c) a → f c ≡ g c) → Makes f b d r → Makes g a d r
makes_as_too f g a b d x (Ok y) p same q =
    let both = makes_then (λ c. c) f a b d x (Ok y) p q in
    record {
      stays = both.stays;
      within = both.within;
      turns = λ clean c at. subst (λ k. InsideAs (Holds k) d) (same c (earlier b d _ q.stays.survives clean) at)
          (both.turns clean c at);
    }
makes_as_too f g a b d x (Err e) p same q = record { stays = (makes_then (λ c. c) f a b d x (Err e) p q).stays; within = tt; turns = tt }

-- a step that failed after one that succeeded, and what `?` returns
pub fails_next : {C X Y Z E F G : Type 0} (P Q R S : C → Database → Type 0) (a b d : State) (x : X) (e : F) (r : Result Z G)
    → Takes {X = X} {E = E} P Q a b (Ok x) → Takes {X = Y} Q R b d (Err e) → IsErr r → Takes P S a d r
fails_next P Q R S a b d x e (Ok z) p q is = absurd cc
fails_next P Q R S a b d x e (Err i) p q is = fails_as P R S a d e i (then_as P Q R a b d x (Err e) p q)

pub fails_alone : {C X Z F G : Type 0} (P Q S : C → Database → Type 0) (a b : State) (e : F) (r : Result Z G) → Takes {X = X} P Q a b (Err e) → IsErr r
    → Takes P S a b r
fails_alone P Q S a b e (Ok z) p is = absurd cc
fails_alone P Q S a b e (Err i) p is = fails_as P Q S a b e i p

-- `Makes` as a step from one content to the next, begun with what an earlier step makes
pub made_from : {X E : Type 0} (f g : Content → Content) (a b : State) (r : Result X E) → Makes g a b r → Takes (λ c. Holds (f c)) (λ c. Holds (g (f c))) a b r
made_from f g a b r p = taken_from Holds (λ c. Holds (g c)) f a b r p

-- ---- what the faults say

pub outside : (e : Error) → IsOutside (fault_of e)
outside e = told (is_memory e)
  where
    told : (b : Bool) → IsOutside (cond b Memory (Sql e))
    told true = tt
    told false = tt

-- after a step that succeeded
pub sure_then : {X Y E : Type 0} (f : Content → Content) (a b d : State) (x : X) (r : Result Y StoreFault) → Makes {X = X} {E = E} f a b (Ok x)
    → {K : Trees → Type 0} → Survives b d K → IsSure Holds b d r → IsSure Holds a d r
sure_then f a b d x (Ok y) p s q clean = tt
sure_then f a b d x (Err e) p s q clean = λ at. q clean (f at.0, p.turns (earlier b d _ s clean) at.0 at.1)

pub sure_after : {C X : Type 0} (P : C → Database → Type 0) (a b d : State) (r : Result X StoreFault) {K : Trees → Type 0} → Survives b d K
    → (HasCleanDisk b → (c : C) → InsideAs (P c) a → IfErr r IsOutside) → IsSure P a d r
sure_after P a b d (Ok y) s h clean = tt
sure_after P a b d (Err f) s h clean = λ at. h (earlier b d _ s clean) at.0 at.1

pub sure_here : {C X : Type 0} (P : C → Database → Type 0) (a b : State) (r : Result X StoreFault) → (HasCleanDisk b → (c : C) → InsideAs (P c) a
    → IfErr r IsOutside) → IsSure P a b r
sure_here P a b (Ok y) h clean = tt
sure_here P a b (Err f) h clean = λ at. h clean at.0 at.1

pub told_of_two : {X A : Type 0} (R S : A → Type 0) (r : Result X StoreFault) → IfErr r (λ f. (x : A) → R x → S x → IsOutside f) → (x : A) → R x → S x
    → IfErr r IsOutside
told_of_two R S (Ok y) h x small is = tt
told_of_two R S (Err f) h x small is = h x small is

pub told_of : {X A : Type 0} (S : A → Type 0) (r : Result X StoreFault) → IfErr r (λ f. (x : A) → S x → IsOutside f) → (x : A) → S x → IfErr r IsOutside
told_of S (Ok y) h x is = tt
told_of S (Err f) h x is = h x is

pub sure_next : {C X Y E : Type 0} (P Q : C → Database → Type 0) (a b d : State) (x : X) (r : Result Y StoreFault) → Takes {X = X} {E = E} P Q a b (Ok x)
    → {K : Trees → Type 0} → Survives b d K → IsSure Q b d r → IsSure P a d r
sure_next P Q a b d x (Ok y) p s q clean = tt
sure_next P Q a b d x (Err f) p s q clean = λ at. q clean (at.0, p.turns (earlier b d _ s clean) at.0 at.1)

-- what `?` returns
pub on_err : {X E : Type 0} (P : Result X E → Type 0) (r : Result X E) → IsErr r → ((e : E) → P (Err e)) → P r
on_err P (Ok x) is all = absurd cc
on_err P (Err e) is all = all e

-- the same meaning, and any value
pub makes_same : {X Y E F : Type 0} (f g : Content → Content) (a b : State) (x : X) (y : Y) → ((c : Content) → f c ≡ g c) → Makes {E = E} f a b (Ok x)
    → Makes {E = F} g a b (Ok y)
makes_same f g a b x y same p = record { stays = p.stays; within = p.within; turns = λ clean c at. subst (λ k. InsideAs (Holds k) b) (same c) (p.turns clean c at) }

-- a meaning that is the same for what was found
pub makes_known : {X Y E F : Type 0} (f g : Content → Content) (a b : State) (x : X) (y : Y) → Makes {E = E} f a b (Ok x) → ((c : Content) → HasCleanDisk b
    → InsideAs (Holds c) a → f c ≡ g c) → Makes {E = F} g a b (Ok y)
makes_known f g a b x y p same = record { stays = p.stays; within = p.within; turns = λ clean c at. subst (λ k. InsideAs (Holds k) b) (same c clean at) (p.turns clean c at) }

-- ---- a change that says whether there was a row, and an addition where there was none

module _ (f g h : Content → Content) (found : Content → Bool) (a b : State) (any : Bool) (p : Makes {X = Bool} {E = Error} f a b (Ok any))
    (says : HasCleanDisk b → (c : Content) → InsideAs (Holds c) a → any ≡ found c) where
  pub put_there : {X : Type 0} (x : X) → any ≡ true → ((c : Content) → Holds c a.now → found c ≡ true → f c ≡ h c) → Makes {E = Error} h a b (Ok x)
  put_there x is same = record {
    stays = p.stays;
    within = p.within;
    turns = λ clean c at. subst (λ k. InsideAs (Holds k) b) (same c at.holds (sym (says clean c at) ∙ is)) (p.turns clean c at);
  }

  pub put_anew : {X : Type 0} (d : State) (r : Result X Error) → any ≡ false → Makes g b d r → ((c : Content) → Holds c a.now → found c ≡ false
      → g (f c) ≡ h c) → Makes h a d r
  put_anew d (Ok x) is q same =
      let both = makes_then f g a b d any (Ok x) p q in
      record {
        stays = both.stays;
        within = both.within;
        turns = λ clean c at. subst (λ k. InsideAs (Holds k) d) (same c at.holds (sym (says (earlier b d _ q.stays.survives clean) c at) ∙ is))
            (both.turns clean c at);
      }
  put_anew d (Err e) is q same = record { stays = (makes_then f g a b d any (Err e) p q).stays; within = tt; turns = tt }
