-- A look as a step that makes nothing.
use Rattle.std.proofs.Common.{Ok, Err, Result, OnOk, OnErr}
use Rattle.sqlite.specs.State.{State}
use Rattle.sqlite.specs.declared.error.Error.{Error}
use Rattle.fuse_store_tables.specs.Moves.{Stays}
use Rattle.guest_tables.specs.Moves.{Makes, LookedInside}

pub looked : {X : Type 0} (a b : State) (r : Result X Error) → Makes (λ c. c) a b r → OnOk r (LookedInside a b)
looked a b (Ok x) p = record { stays = p.stays; within = p.within; same = p.turns }
looked a b (Err e) p = tt

pub failed : {X : Type 0} (a b : State) (r : Result X Error) → Makes (λ c. c) a b r → OnErr r (Stays a b)
failed a b (Ok x) p = tt
failed a b (Err e) p = p.stays
