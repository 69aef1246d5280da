-- A group as a whole transaction of a guest's store (defined by this project).
use Rattle.std.specs.Prelude.{◌≡◌, ℕ, false, List, length, Option, Result, IfOk, IfErr, OnOk, OnErr}
use Rattle.sqlite.specs.State.{State, HasCleanDisk, KeepsCommit}
use Rattle.fuse_keeper.specs.History.{Entry}
use Rattle.fuse_keeper.specs.declared.fault.StoreFault.{StoreFault}
use Rattle.fuse_keeper.specs.declared.keeper.StoreCounts.{StoreCounts}
use Rattle.fuse_guest.specs.Talk.{Guest}
use Rattle.fuse_store_tables.specs.Moves.{ServesAs, StaysOpen, CommitsNothing, CommitsOnce}
use Rattle.fuse_store_tables.specs.Saying.{IsRefusal}
use Rattle.fuse_store_tables.specs.inner.Performing.{TransactsAs}
use Rattle.guest_store.specs.declared.group.Transacted.{Transacted}
use Rattle.guest_store.specs.declared.store.Deaths.{Deaths}
use Rattle.guest_store.specs.declared.transaction.Performed.{Performed}
use Rattle.guest_store.specs.Asks.{AskedBy, all_asks, asks_of}
use Rattle.guest_store.specs.Group.{HasLotLeft, all_dones, dones_of, lot_after, lot_for, performed, transacted, with_group}
use Rattle.guest_store.specs.StoreState.{HeldOf, StoreState, IsHonest, IsAtRest, IsPlain, SaysNothing}
use Rattle.guest_store.specs.inner.Stepping.{Effect, StoredAs, Spoke, asking_by, making}

-- ---- what a group is

-- its entries were taken under this lot
abbrev pub grouping : (G : Guest) → Option Deaths → ℕ → List Entry → Effect G Transacted
grouping G deaths lot es =
    asking_by G (asks_of G deaths lot es) (λ y. with_group lot es y) (λ y t. (t.lot ≡ lot) × (t.dones.items ≡ dones_of lot es y))

-- settled records were deleted before, and a lot was allocated where this opening had none
abbrev pub transacting : (G : Guest) → Option Deaths → Option ℕ → List ℕ → List Entry → Effect G Transacted
transacting G deaths lot ids es = record {
  made = λ y. transacted lot ids es y;
  told = λ y t. (t.lot ≡ lot_for lot y) × (t.dones.items ≡ all_dones lot ids es y);
  safe = λ y. HasLotLeft lot y;
  asks = λ y. all_asks G deaths lot ids es y;
}

-- its entries were seen, and nothing is changed
abbrev pub sighting : (G : Guest) → Option Deaths → List Entry → Effect G Transacted
sighting G deaths es = asking_by G (asks_of G deaths 0 es) (λ y. y) (λ y t. t.dones.items ≡ dones_of 0 es y)

-- one or the other, by whether something is to be kept
abbrev pub performing : (G : Guest) → Option Deaths → Option ℕ → List ℕ → List Entry → Effect G Performed
performing G deaths lot ids es = record {
  made = λ y. performed lot ids es y;
  told = λ y p. (p.lot ≡ lot_after lot ids es y) × (p.dones.items ≡ all_dones lot ids es y);
  safe = λ y. HasLotLeft lot y;
  asks = λ y. all_asks G deaths lot ids es y;
}

-- ---- how much is held

pub record Counted (G : Guest) (y : HeldOf G) (counts : StoreCounts) : Type 0 where
  pub nodes : counts.nodes ≡ length y.state.pairs
  pub handles : counts.handles ≡ 0
  pub records : counts.records ≡ length y.kept
  pub lots : counts.lots ≡ length y.lots

abbrev pub counting : (G : Guest) → Effect G StoreCounts
counting G = making G (λ y. y) (λ y counts. Counted G y counts)

-- ---- what its transaction is

-- A whole transaction. A fault may leave it open.
pub record Transacts {A : Type 0} (G : Guest) (e : Effect G A) (old new : StoreState) (r : Result A StoreFault) : Type 0 where
  pub performs : TransactsAs (StoredAs G new.talk (λ y. y)) (StoredAs G new.talk e.made) old.tables new.tables r
  pub spoke : Spoke old.talk new.talk
  pub value : IfOk r (λ x. IsHonest G new → (n : ℕ) (y : HeldOf G) → IsAtRest G n y old.tables → e.told y x)
  pub fault : IfErr r (λ f. IsHonest G new → (n : ℕ) (y : HeldOf G) → IsAtRest G n y old.tables → e.safe y → SaysNothing f)
  pub open_still : StaysOpen old.tables new.tables r
  pub keeps : OnErr r (HasCleanDisk new.tables → KeepsCommit old.tables new.tables)
  pub ended : OnOk r (HasCleanDisk new.tables → new.tables.in_transaction ≡ false)
  pub plain : IfErr r (λ f. IsHonest G new → (n : ℕ) (y : HeldOf G) → IsAtRest G n y old.tables → IsPlain f)
  pub asked : IsHonest G new → (n : ℕ) (y : HeldOf G) → IsAtRest G n y old.tables → AskedBy r (e.asks y) old.talk new.talk

-- the same of any database, whatever its tables are
pub record Tries {A : Type 0} (old new : State) (r : Result A StoreFault) : Type 0 where
  pub refused : IfErr r (λ f. IsRefusal f → CommitsNothing old new)
  pub once : CommitsOnce old new r

-- a whole transaction which leaves the store as it was where it fails
pub record Serves {A : Type 0} (G : Guest) (e : Effect G A) (old new : StoreState) (r : Result A StoreFault) : Type 0 where
  pub serves : ServesAs (StoredAs G new.talk (λ y. y)) (StoredAs G new.talk e.made) old.tables new.tables r
  pub spoke : Spoke old.talk new.talk
  pub value : IfOk r (λ x. IsHonest G new → (n : ℕ) (y : HeldOf G) → IsAtRest G n y old.tables → e.told y x)
  pub fault : IfErr r (λ f. IsHonest G new → (n : ℕ) (y : HeldOf G) → IsAtRest G n y old.tables → e.safe y → SaysNothing f)
  pub open_still : StaysOpen old.tables new.tables r
  pub plain : IfErr r (λ f. IsHonest G new → (n : ℕ) (y : HeldOf G) → IsAtRest G n y old.tables → IsPlain f)
  pub asked : IsHonest G new → (n : ℕ) (y : HeldOf G) → IsAtRest G n y old.tables → AskedBy r (e.asks y) old.talk new.talk
