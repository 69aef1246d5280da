-- How a keeper of a guest begins (defined by this project).
use Rattle.std.specs.Prelude.{◌≡◌, ℕ, ⊤, false, [], IsTrue}
use Rattle.sqlite.specs.Tree.{Trees}
use Rattle.sqlite.specs.State.{State, HasCleanDisk}
use Rattle.fuse_keeper.specs.KeeperState.{KeeperState, StandsFor}
use Rattle.fuse_keeper.specs.Lots.{no_lots, SameLots}
use Rattle.fuse_keeper.specs.declared.fault.StoreFault.{StoreFault}
use Rattle.fuse_guest.specs.Talk.{Guest}
use Rattle.fuse_guest.specs.GuestModel.{guest_model, new_guest_store}
use Rattle.fuse_store_tables.specs.Layout.{no_schema}
use Rattle.fuse_store_tables.specs.Content.{LeftAs}
use Rattle.guest_tables.specs.Saying.{Says}
use Rattle.guest_talk.specs.declared.fault.GreetFault.{GreetFault}
use Rattle.guest_store.specs.declared.starting.StartFault.{StartFault}
use Rattle.guest_store.specs.declared.starting.StartFault.TheVariants.{Store, Guest as NotGreeted}
use Rattle.guest_store.specs.Mounting.{begun}
use Rattle.guest_store.specs.StoreState.{HeldOf, IsAtRest, StoredFor}

-- no transaction is open, and there is no table, no index and no view
abbrev pub IsBlank : State → Type 0
IsBlank s = IsTrue s.is_open × (s.in_transaction ≡ false) × (s.now.schema ≡ no_schema)

-- it stands for a new store, in no lots
pub record MakesGuest (G : Guest) (k : KeeperState (guest_model G)) : Type 0 where
  pub stands : StandsFor k new_guest_store [] []
  pub lots : SameLots no_lots k.lots

-- what a new store holds
abbrev pub new_held : (G : Guest) → HeldOf G
new_held G = record { state = new_guest_store; kept = []; lots = []; next_lot = 1 }

-- what a crash leaves of a making, and of an opening for a mount that begins, beside what it could leave before
abbrev pub LeavesMade : Guest → ℕ → State → Trees → Type 0
LeavesMade G number s db = IsBlank s → LeftAs (StoredFor G number (new_held G)) db

abbrev pub LeavesBegun : Guest → State → Trees → Type 0
LeavesBegun G s db = (n : ℕ) (y : HeldOf G) → IsAtRest G n y s → LeftAs (StoredFor G n (begun y)) db

-- ---- faults

-- what the fault says of a database is so
abbrev pub SaysOfStore : State → State → StartFault → Type 0
SaysOfStore old new (Store f) = HasCleanDisk new → Says old.now f
SaysOfStore old new (NotGreeted f) = ⊤

-- of a fault of the store
abbrev pub WhereStore : (StoreFault → Type 0) → StartFault → Type 0
WhereStore P (Store f) = P f
WhereStore P (NotGreeted f) = ⊤

-- where the guest wasn't greeted
abbrev pub WhereNotGreeted : Type 0 → StartFault → Type 0
WhereNotGreeted P (Store f) = ⊤
WhereNotGreeted P (NotGreeted f) = P

-- of why it wasn't
abbrev pub OfGreeting : (GreetFault → Type 0) → StartFault → Type 0
OfGreeting P (Store f) = ⊤
OfGreeting P (NotGreeted f) = P f
