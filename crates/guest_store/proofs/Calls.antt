-- Whole calls, as the clauses of a keeper want them.
use Rattle.std.proofs.Common.{Result, Ok, Err}
use Rattle.fuse_keeper.specs.declared.fault.StoreFault.{StoreFault}
use Rattle.fuse_guest.specs.Talk.{Guest}
use Rattle.guest_store.specs.StoreState.{HeldOf, StoreState, ServesStore, StaysUsable}
use Rattle.guest_store.specs.inner.Stepping.{Effect}
use Rattle.guest_store.specs.inner.Transacting.{Serves}
use Rattle.guest_store.proofs.Serving.{Settled}
use Rattle.guest_store.proofs.Transacting.{store_done, store_failed}

module _ {A : Type 0} (G : Guest) (e : Effect G A) (a b : StoreState) (settled : Settled a.tables) where
  pub serves_store : (r : Result A StoreFault) → Serves G e a b r → ServesStore G e.made a b r
  serves_store (Ok x) p = store_done G e a b settled x p
  serves_store (Err s) p = store_failed G e a b settled s p

pub usable_still : {A : Type 0} (G : Guest) (e : Effect G A) (a b : StoreState) (r : Result A StoreFault) → Serves G e a b r → StaysUsable a b r
usable_still G e a b r p = record { was = p.open_still.was; still = p.open_still.still }

-- the same of another value
pub serves_ok : {A B : Type 0} (G : Guest) (f : HeldOf G → HeldOf G) (a b : StoreState) (x : A) (y : B) → ServesStore G f a b (Ok x) → ServesStore G f a b (Ok y)
serves_ok G f a b x y p = record { honest = p.honest; ready = p.ready; crash = p.crash; kept = tt; done = p.done }

pub serves_err : {A B : Type 0} (G : Guest) (f : HeldOf G → HeldOf G) (a b : StoreState) (s : StoreFault) → ServesStore {X = A} G f a b (Err s)
    → ServesStore {X = B} G f a b (Err s)
serves_err G f a b s p = record { honest = p.honest; ready = p.ready; crash = p.crash; kept = p.kept; done = tt }
