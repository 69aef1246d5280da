-- A pair that is put: changed where there is one, and else added; and looks whose rows are then read.
use Rattle.std.proofs.Common.{◌≡◌, inl, Bool, true, false, ℕ, List, Ok, Err, Result, OnOk, OnErr, IfOk, IfErr, refl, sym, subst, arith, ◌∙◌}
use Rattle.std.specs.Result.{IsErr}
use Rattle.std.specs.Option.{is_some}
use Rattle.sqlite.specs.declared.error.Error.{Error}
use Rattle.sqlite.specs.Tree.{Trees}
use Rattle.sqlite.specs.State.{State, HasCleanDisk, Survives}
use Rattle.fuse_keeper.specs.declared.fault.StoreFault.{StoreFault}
use Rattle.fuse_store_tables.specs.Faults.{IsOutside}
use Rattle.fuse_store_tables.specs.Moves.{Stays}
use Rattle.fuse_store_tables.specs.inner.Following.{earlier, then_as, taken_from}
use Rattle.guest_tables.specs.Rows.{pair_at}
use Rattle.guest_tables.specs.Content.{GuestContent, Holds, with_pair, set_pair, put_value}
use Rattle.guest_tables.specs.Moves.{Inside, Makes, LookedInside}
use Rattle.guest_tables.proofs.PairUpdates.{put_over, put_new}

makes_then : {X Y E F : Type 0} (f g : GuestContent → GuestContent) (a b d : State) (x : X) (r : Result Y F) → Makes {X = X} {E = E} f a b (Ok x) → Makes g b d r
    → Makes (λ c. g (f c)) a d r
makes_then f g a b d x r p q = then_as Holds (λ c. Holds (f c)) (λ c. Holds (g (f c))) a b d x r p (taken_from Holds (λ c. Holds (g c)) f b d r q)

module _ (key value : List ℕ) (a b : State) (any : Bool) (p : Makes {X = Bool} {E = Error} (set_pair key value) a b (Ok any))
    (says : HasCleanDisk b → (c : GuestContent) → Inside c a → any ≡ is_some (pair_at key c.pairs)) where
  pub put_there : any ≡ true → Makes {X = Unit {0}} {E = Error} (put_value key value) a b (Ok tt)
  put_there is = record {
    stays = p.stays;
    within = p.within;
    turns = λ clean c at. subst (λ k. Inside k b) (put_over key value c (sym (says clean c at) ∙ is)) (p.turns clean c at);
  }

  pub put_anew : (d : State) (r : Result (Unit {0}) Error) → any ≡ false → Makes (with_pair key value) b d r → Makes (put_value key value) a d r
  put_anew d (Ok x) is q =
      let both = makes_then (set_pair key value) (with_pair key value) a b d any (Ok x) p q in
      record {
        stays = both.stays;
        within = both.within;
        turns = λ clean c at. subst (λ k. Inside k d)
            (put_new key value c (sym (says (earlier b d _ q.stays.survives clean) c at) ∙ is)) (both.turns clean c at);
      }
  put_anew d (Err e) is q = record { stays = (makes_then (set_pair key value) (with_pair key value) a b d any (Err e) p q).stays; within = tt; turns = tt }

-- ---- a look, and what was read

-- the same step with another result
pub made_told : {X Y E F : Type 0} (a b : State) (x : X) (r : Result Y F) → Makes {E = E} (λ c. c) a b (Ok x) → Makes (λ c. c) a b r
made_told a b x (Ok y) p = record { stays = p.stays; within = p.within; turns = p.turns }
made_told a b x (Err e) p = record { stays = p.stays; within = tt; turns = tt }

pub made_failed : {X Y E F : Type 0} (a b : State) (e : E) (r : Result Y F) → IsErr r → Makes {X = X} (λ c. c) a b (Err e) → Makes (λ c. c) a b r
made_failed a b e (Ok y) is p = absurd cc
made_failed a b e (Err f) is p = record { stays = p.stays; within = tt; turns = tt }

-- nothing was done
pub made_none : {E : Type 0} (a : State) → Makes {X = Unit {0}} {E = E} (λ c. c) a a (Ok tt)
made_none a = record {
  stays = record { survives = no_step a _; kept = λ clean inside. record { was_open = λ is. is; committed = λ is. refl } };
  within = λ clean inside. inside;
  turns = λ clean c at. at;
}
  where
    no_step : (a : State) (P : Trees → Type 0) → Survives a a P
    no_step a P = record {
      clean = omega arith;
      shield = λ is. is;
      counts = omega arith;
      limit = refl;
      closes = λ clean is_open. inl is_open;
      crash = λ clean db may. inl may;
    }

-- one look after another
pub made_then : {X Y E F : Type 0} (a b d : State) (x : X) (r : Result Y F) → Makes {E = E} (λ c. c) a b (Ok x) → Makes (λ c. c) b d r → Makes (λ c. c) a d r
made_then a b d x r p q = then_as Holds Holds Holds a b d x r p q

-- what is said where something else holds
pub when_there : {X C : Type 0} (I A : C → Type 0) (B : C → X → Type 0) (r : Result X StoreFault) → ((c : C) → I c → A c) → IfOk r (λ x. (c : C) → A c → B c x)
    → IfOk r (λ x. (c : C) → I c → B c x)
when_there I A B (Ok x) so told = λ c at. told c (so c at)
when_there I A B (Err f) so told = tt

pub unless_there : {X C : Type 0} (I A : C → Type 0) (r : Result X StoreFault) → ((c : C) → I c → A c) → IfErr r (λ f. (c : C) → A c → IsOutside f)
    → IfErr r (λ f. (c : C) → I c → IsOutside f)
unless_there I A (Ok x) so told = tt
unless_there I A (Err f) so told = λ c at. told c (so c at)

pub look_told : {X Y E F : Type 0} (a b : State) (x : X) (r : Result Y F) → Makes {E = E} (λ c. c) a b (Ok x) → OnOk r (LookedInside a b)
look_told a b x (Ok y) p = record { stays = p.stays; within = p.within; same = p.turns }
look_told a b x (Err e) p = tt

pub look_untold : {X Y E F : Type 0} (a b : State) (x : X) (r : Result Y F) → Makes {E = E} (λ c. c) a b (Ok x) → OnErr r (Stays a b)
look_untold a b x (Ok y) p = tt
look_untold a b x (Err e) p = p.stays

-- what `?` returns
pub look_failed : {X Y E F : Type 0} (a b : State) (e : E) (r : Result Y F) → Makes {X = X} (λ c. c) a b (Err e) → OnErr r (Stays a b)
look_failed a b e (Ok y) p = tt
look_failed a b e (Err f) p = p.stays
