-- A guest's store in its database, the talk with its guest, and what a call makes of both (defined by this project).
use Rattle.std.specs.Prelude.{◌≡◌, ◌⊎◌, ℕ, ⊤, false, IsTrue, Option, Result, OnOk, OnErr, IfErr}
use Rattle.sqlite.specs.Tree.{Trees}
use Rattle.sqlite.specs.Effect.{Database}
use Rattle.sqlite.specs.State.{State, HasCleanDisk}
use Rattle.fuse_keeper.specs.declared.fault.StoreFault.{StoreFault}
use Rattle.fuse_keeper.specs.declared.fault.StoreFault.TheVariants.{Memory, Sql, NotAStore, Version, Guest as GuestFailed}
use Rattle.fuse_guest.specs.Talk.{Guest}
use Rattle.fuse_guest.specs.GuestModel.{guest_model}
use Rattle.fuse_store_tables.specs.Content.{LeftAs}
use Rattle.fuse_store_tables.specs.Moves.{RestsAs, CommitsOnce, LeavesAlone, RollsBack}
use Rattle.fuse_store_tables.specs.Saying.{IsRefusal}
use Rattle.guest_tables.specs.Holding.{GuestHolding, HeldFor}
use Rattle.guest_tables.specs.Opening.{AreRecords}
use Rattle.guest_talk.specs.Events.{AgreesWithAll}
use Rattle.guest_talk.specs.TalkState.{TalkState}
use Rattle.guest_store.specs.Holding.{Holding}
use Rattle.guest_store.specs.Group.{HasLotLeft}

-- ---- the tables

abbrev pub HeldOf : Guest → Type 0
HeldOf G = Holding (guest_model G)

-- a holding, and the number of the store, which no call changes
abbrev pub held_as : (G : Guest) → ℕ → HeldOf G → GuestHolding
held_as G number y = record { state = y.state; kept = y.kept; lots = y.lots; next_lot = y.next_lot; number = number }

-- the same without the number
abbrev pub holding_of : (G : Guest) → GuestHolding → HeldOf G
holding_of G h = record { state = h.state; kept = h.kept; lots = h.lots; next_lot = h.next_lot }

-- a database of the tables that holds this
pub record StoredFor (G : Guest) (number : ℕ) (y : HeldOf G) (d : Database) : Type 0 where
  pub held : HeldFor (held_as G number y) d
  pub records : AreRecords y.kept

-- outside a transaction
abbrev pub IsAtRest : (G : Guest) → ℕ → HeldOf G → State → Type 0
IsAtRest G number y s = RestsAs (StoredFor G number y) s

-- a crash leaves these trees: they hold what was held before, or what was made of it
abbrev pub LeavesEither : (G : Guest) → (HeldOf G → HeldOf G) → ℕ → HeldOf G → Trees → Type 0
LeavesEither G made number y db = LeftAs (StoredFor G number y) db ⊎ LeftAs (StoredFor G number (made y)) db

-- ---- the talk

-- This guest has the READY that was taken, and it said what was said of requests since, whether the answers were committed or not.
pub record SaidAll (G : Guest) (t : TalkState) : Type 0 where
  pub ready : t.ready ≡ G.ready
  pub said : AgreesWithAll G t.events

-- ---- both

pub record StoreState : Type 1 where
  pub tables : State
  pub talk : TalkState

-- the disk has so far returned what was written, and this guest said what was said
abbrev pub IsHonest : Guest → StoreState → Type 0
IsHonest G s = HasCleanDisk s.tables × SaidAll G s.talk

-- a call that makes this of what is held, and nothing where it fails
pub record ServesStore {X : Type 0} (G : Guest) (made : HeldOf G → HeldOf G) (old new : StoreState) (r : Result X StoreFault) : Type 0 where
  pub honest : IsHonest G new → IsHonest G old
  pub ready : new.talk.ready ≡ old.talk.ready
  pub crash : IsHonest G new → (number : ℕ) (y : HeldOf G) → IsAtRest G number y old.tables → (db : Trees) → new.tables.may_leave db
      → LeavesEither G made number y db
  pub kept : OnErr r (IsHonest G new → IsTrue new.tables.is_open → (number : ℕ) (y : HeldOf G) → IsAtRest G number y old.tables
      → IsAtRest G number y new.tables)
  pub done : OnOk r (IsHonest G new → (number : ℕ) (y : HeldOf G) → IsAtRest G number y old.tables → IsAtRest G number (made y) new.tables)

-- a call never opens a connection, and where it succeeds one that was open is open
pub record StaysUsable {X : Type 0} (old new : StoreState) (r : Result X StoreFault) : Type 0 where
  pub was : HasCleanDisk new.tables → IsTrue new.tables.is_open → IsTrue old.tables.is_open
  pub still : OnOk r (HasCleanDisk new.tables → IsTrue old.tables.is_open → IsTrue new.tables.is_open)

-- of any database, whatever its tables are: no transaction is left open, a refusal leaves it alone, a fault leaves what was committed, and it
-- commits once at most
pub record EndsWhole {A : Type 0} (old new : State) (r : Result A StoreFault) : Type 0 where
  pub ended : HasCleanDisk new → new.in_transaction ≡ false
  pub refused : IfErr r (λ f. IsRefusal f → LeavesAlone old new)
  pub undone : OnErr r (RollsBack old new)
  pub once : CommitsOnce old new r

-- of what was held before
abbrev pub ReportsStore : (G : Guest) → StoreState → StoreState → (HeldOf G → Type 0) → Type 0
ReportsStore G old new P = IsHonest G new → (number : ℕ) (y : HeldOf G) → IsAtRest G number y old.tables → P y

-- ---- faults

-- out of memory, of SQL, or of the guest: it says nothing of what is stored
abbrev pub SaysNothing : StoreFault → Type 0
SaysNothing Memory = ⊤
SaysNothing (Sql e) = ⊤
SaysNothing GuestFailed = ⊤
SaysNothing _ = ⊥

-- a fault other than `NotAStore` and `Version`
abbrev pub IsPlain : StoreFault → Type 0
IsPlain NotAStore = ⊥
IsPlain (Version n) = ⊥
IsPlain _ = ⊤

-- where something was held, the fault says nothing of the store, unless no lot number is left
abbrev pub IsSafeStore : {X : Type 0} → (G : Guest) → Option ℕ → StoreState → StoreState → Result X StoreFault → Type 0
IsSafeStore G lot old new r = IsHonest G new → IfErr r (λ f. (number : ℕ) (y : HeldOf G) → IsAtRest G number y old.tables → HasLotLeft lot y → SaysNothing f)
