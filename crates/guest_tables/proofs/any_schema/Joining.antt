-- Calls one after another.
use Rattle.std.proofs.Common.{Bool, true, false, cond, Ok, Err, Result}
use Rattle.std.specs.Result.{IsErr}
use Rattle.sqlite.specs.Effect.{Database}
use Rattle.sqlite.specs.State.{State}
pub use Rattle.fuse_store_tables.specs.inner.Following.{then_as}
pub use Rattle.fuse_store_tables.specs.inner.Transaction.{failed_first, failed_inside, failed_commit, committed, served, undone}
use Rattle.sqlite.specs.declared.error.Error.{Error}
use Rattle.fuse_keeper.specs.declared.fault.StoreFault.TheVariants.{Memory, Sql}
use Rattle.fuse_store_tables.specs.Faults.{IsOutside}
use Rattle.fuse_keeper.specs.Faults.{fault_of, is_memory}
use Rattle.fuse_store_tables.specs.Moves.{Takes}

-- a call that failed makes nothing, so it may stand for any
pub fails_as : {C X Y E F : Type 0} (P Q R : C → Database → Type 0) (a b : State) (e : E) (d : F) → Takes {X = X} P Q a b (Err e)
    → Takes {X = Y} P R a b (Err d)
fails_as P Q R a b e d p = record { stays = p.stays; within = tt; turns = tt }

-- a step that failed after one that succeeded, and what `?` returns
pub fails_next : {C X Y Z E F G : Type 0} (P Q R S : C → Database → Type 0) (a b d : State) (x : X) (e : F) (r : Result Z G)
    → Takes {X = X} {E = E} P Q a b (Ok x) → Takes {X = Y} Q R b d (Err e) → IsErr r → Takes P S a d r
fails_next P Q R S a b d x e (Ok z) p q is = absurd cc
fails_next P Q R S a b d x e (Err i) p q is = fails_as P R S a d e i (then_as P Q R a b d x (Err e) p q)

pub fails_alone : {C X Z F G : Type 0} (P Q S : C → Database → Type 0) (a b : State) (e : F) (r : Result Z G) → Takes {X = X} P Q a b (Err e) → IsErr r
    → Takes P S a b r
fails_alone P Q S a b e (Ok z) p is = absurd cc
fails_alone P Q S a b e (Err i) p is = fails_as P Q S a b e i p

-- ---- what the faults say

pub outside : (e : Error) → IsOutside (fault_of e)
outside e = told (is_memory e)
  where
    told : (b : Bool) → IsOutside (cond b Memory (Sql e))
    told true = tt
    told false = tt

-- what `?` returns
pub on_err : {X E : Type 0} (P : Result X E → Type 0) (r : Result X E) → IsErr r → ((e : E) → P (Err e)) → P r
on_err P (Ok x) is all = absurd cc
on_err P (Err e) is all = all e
