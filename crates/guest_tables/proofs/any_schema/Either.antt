-- Families of databases: two beside each other, and what is known of the one that a step began with.
use Rattle.std.proofs.Common.{Ok, Err, Result}
use Rattle.sqlite.specs.Effect.{Database}
use Rattle.sqlite.specs.State.{State, HasCleanDisk}
use Rattle.fuse_store_tables.specs.Moves.{InsideAs, Takes}

-- the same of a call that may fail
pub narrowed_if : {C X E : Type 0} (P Q R : C → Database → Type 0) (a b : State) (r : Result X E) → Takes P Q a b r → (HasCleanDisk b → (c : C)
    → InsideAs (P c) a → InsideAs (Q c) b → InsideAs (R c) b) → Takes P R a b r
narrowed_if P Q R a b (Ok x) p more = record { stays = p.stays; within = p.within; turns = λ clean c at. more clean c at (p.turns clean c at) }
narrowed_if P Q R a b (Err e) p more = record { stays = p.stays; within = tt; turns = tt }

-- the same step, begun with fewer databases
pub sub_from : {C X E : Type 0} (S P Q : C → Database → Type 0) → ((c : C) (d : Database) → S c d → P c d) → (a b : State) (r : Result X E) → Takes P Q a b r
    → Takes S Q a b r
sub_from S P Q to a b (Ok x) p = record {
  stays = p.stays;
  within = p.within;
  turns = λ clean c at. p.turns clean c
      (record { is_open = at.is_open; in_transaction = at.in_transaction; holds = to c a.now at.holds });
}
sub_from S P Q to a b (Err e) p = record { stays = p.stays; within = tt; turns = tt }
