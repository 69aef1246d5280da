-- Families of databases: two beside each other, and what is known of the one that a step began with.
use Rattle.std.proofs.Common.{◌⊎◌, inl, inr, Ok, Err, Result}
use Rattle.sqlite.specs.Effect.{Database}
use Rattle.sqlite.specs.Tree.{Trees}
use Rattle.sqlite.specs.State.{State, HasCleanDisk, Survives}
use Rattle.fuse_keeper.specs.declared.fault.StoreFault.{StoreFault}
use Rattle.fuse_store_tables.specs.inner.Following.{earlier}
use Rattle.fuse_store_tables.specs.Moves.{InsideAs, Takes}
use Rattle.fuse_store_tables.specs.inner.Performing.{IsSure}

module _ {C : Type 0} (P R : C → Database → Type 0) where
  abbrev pub Both : C → Database → Type 0
  Both c d = P c d ⊎ R c d

  inside_of : (c : C) (s : State) → InsideAs (Both c) s → InsideAs (P c) s ⊎ InsideAs (R c) s
  inside_of c s at = elim at.holds [
    | inl h ↦ inl (record { is_open = at.is_open; in_transaction = at.in_transaction; holds = h })
    | inr h ↦ inr (record { is_open = at.is_open; in_transaction = at.in_transaction; holds = h })
  ]

  -- a look in either family
  pub both_looks : {X E : Type 0} (a b : State) (r : Result X E) → Takes P P a b r → Takes R R a b r → Takes Both Both a b r
  both_looks a b (Ok x) p r = record {
    stays = p.stays;
    within = p.within;
    turns = λ clean c at. elim (inside_of c a at) [
      | inl h ↦ let on = p.turns clean c h in record { is_open = on.is_open; in_transaction = on.in_transaction; holds = inl on.holds }
      | inr h ↦ let on = r.turns clean c h in record { is_open = on.is_open; in_transaction = on.in_transaction; holds = inr on.holds }
    ];
  }
  both_looks a b (Err e) p r = record { stays = p.stays; within = tt; turns = tt }

-- more is known of what was made
pub narrowed : {C X Y E F : Type 0} (P Q R : C → Database → Type 0) (a b : State) (x : X) (y : Y) → Takes {E = E} P Q a b (Ok x) → (HasCleanDisk b → (c : C)
    → InsideAs (P c) a → InsideAs (Q c) b → InsideAs (R c) b) → Takes {E = F} P R a b (Ok y)
narrowed P Q R a b x y p more = record { stays = p.stays; within = p.within; turns = λ clean c at. more clean c at (p.turns clean c at) }

-- the same of a call that may fail
pub narrowed_if : {C X E : Type 0} (P Q R : C → Database → Type 0) (a b : State) (r : Result X E) → Takes P Q a b r → (HasCleanDisk b → (c : C)
    → InsideAs (P c) a → InsideAs (Q c) b → InsideAs (R c) b) → Takes P R a b r
narrowed_if P Q R a b (Ok x) p more = record { stays = p.stays; within = p.within; turns = λ clean c at. more clean c at (p.turns clean c at) }
narrowed_if P Q R a b (Err e) p more = record { stays = p.stays; within = tt; turns = tt }

-- a sure step after a read by which more is known
pub sure_known : {C Y : Type 0} (P R : C → Database → Type 0) (a b d : State) (r : Result Y StoreFault) → {K : Trees → Type 0} → Survives b d K
    → (HasCleanDisk b → (c : C) → InsideAs (P c) a → InsideAs (R c) b) → IsSure R b d r → IsSure P a d r
sure_known P R a b d (Ok y) s to q clean = tt
sure_known P R a b d (Err f) s to q clean = λ at. q clean (at.0, to (earlier b d _ s clean) at.0 at.1)

-- the same step, begun with fewer databases
pub sub_from : {C X E : Type 0} (S P Q : C → Database → Type 0) → ((c : C) (d : Database) → S c d → P c d) → (a b : State) (r : Result X E) → Takes P Q a b r
    → Takes S Q a b r
sub_from S P Q to a b (Ok x) p = record {
  stays = p.stays;
  within = p.within;
  turns = λ clean c at. p.turns clean c
      (record { is_open = at.is_open; in_transaction = at.in_transaction; holds = to c a.now at.holds });
}
sub_from S P Q to a b (Err e) p = record { stays = p.stays; within = tt; turns = tt }
