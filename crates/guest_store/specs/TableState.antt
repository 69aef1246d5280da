-- The state of a keeper of a guest, by its database and the talk (defined by this project).
use Rattle.std.specs.Prelude.{◌≡◌, ◌≤◌, ◌^◌, ℕ, ⊤, Bool, IsTrue, Option, None}
use Rattle.sqlite.specs.Tree.{Trees}
use Rattle.sqlite.specs.Effect.{Database}
use Rattle.sqlite.specs.State.{State}
use Rattle.fuse_keeper.specs.Lots.{Lots}
use Rattle.fuse_keeper.specs.Stands.{Records}
use Rattle.fuse_keeper.specs.KeeperState.{KeeperState}
use Rattle.fuse_keeper.specs.declared.fault.StoreFault.{StoreFault}
use Rattle.fuse_keeper.specs.declared.fault.StoreFault.TheVariants.{Memory, Sql, Damaged, Guest as GuestFailed}
use Rattle.fuse_guest.specs.Service.{service_of}
use Rattle.fuse_guest.specs.Talk.{Guest}
use Rattle.fuse_guest.specs.GuestModel.{GuestState, guest_model}
use Rattle.fuse_store_tables.specs.Content.{LeftAs}
use Rattle.guest_tables.specs.Reading.{holding_read}
use Rattle.guest_store.specs.Holding.{records_of, lots_as}
use Rattle.guest_store.specs.StoreState.{HeldOf, StoreState, IsHonest, IsAtRest, StoredFor, held_as}

-- ---- what is held

-- these are the state and the records of this holding
pub record IsOf (G : Guest) (y : HeldOf G) (rows : GuestState) (records : Records) : Type 0 where
  pub rows_are : rows ≡ y.state
  pub records_are : (i : ℕ) → records i ≡ records_of y.kept i

-- outside a transaction, the tables hold this state and these records, which are what is read off them
pub record HoldsIn (G : Guest) (s : State) (rows : GuestState) (records : Records) : Type 0 where
  pub number : ℕ
  pub holding : HeldOf G
  pub rests : IsAtRest G number holding s
  pub is_of : IsOf G holding rows records
  pub read : holding_read s.now ≡ held_as G number holding

-- the lots of a database, and the one of this opening
abbrev pub lots_in : Option ℕ → Database → Lots
lots_in current d = lots_as current (holding_read d).lots (holding_read d).kept

-- ---- what a crash leaves

-- the trees of a database that holds something
pub record LeavesSome (G : Guest) (db : Trees) : Type 0 where
  pub number : ℕ
  pub holding : HeldOf G
  pub left : LeftAs (StoredFor G number holding) db

-- a crash now may leave this state and these records, where the store is honest
pub record MayLeave (G : Guest) (s : StoreState) (rows : GuestState) (records : Records) : Type 0 where
  pub clean : IsHonest G s
  pub trees : Trees
  pub may : s.tables.may_leave trees
  pub some : LeavesSome G trees
  pub is_of : IsOf G some.holding rows records

abbrev pub LeavesWhole : Guest → StoreState → Type 0
LeavesWhole G s = IsHonest G s → (db : Trees) → s.tables.may_leave db → LeavesSome G db

-- ---- faults

-- no lot was taken since the opening, and in what the store holds no number is left for one
pub record IsOutOfLots (G : Guest) (lot : Option ℕ) (s : State) : Type 0 where
  pub usable : IsTrue s.is_open
  pub none : lot ≡ None
  pub used_up : (number : ℕ) (y : HeldOf G) → IsAtRest G number y s → 2 ^ 62 ≤ y.next_lot

-- the faults of a call: out of memory, of SQL, of the guest, or damage where no lot is left
abbrev pub MayAnswer : Guest → Option ℕ → State → StoreFault → Type 0
MayAnswer G lot s Memory = ⊤
MayAnswer G lot s (Sql e) = ⊤
MayAnswer G lot s GuestFailed = ⊤
MayAnswer G lot s Damaged = IsOutOfLots G lot s
MayAnswer G lot s _ = ⊥

-- ---- all of it

-- No guest lies in memory: nothing makes it say what this one says.
abbrev pub guest_told : (G : Guest) → StoreState → Option ℕ → Bool → KeeperState (guest_model G)
guest_told G s lot failed = record {
  holds = HoldsIn G s.tables;
  is_honest = IsHonest G s;
  is_clean = IsHonest G s × IsTrue s.tables.is_open;
  in_memory = ⊥;
  has_failed = failed;
  leaves_whole = LeavesWhole G s;
  may_leave = MayLeave G s;
  may_answer = MayAnswer G lot s.tables;
  lots = lots_in lot s.tables.now;
  service = service_of s.talk.ready;
}
