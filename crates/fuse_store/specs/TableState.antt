-- The state of a keeper over tables and a data file, by the states of both (defined by this project).
use Rattle.std.specs.Prelude.{◌≡◌, ◌≤◌, ◌^◌, ℕ, ⊤, Bool, true, IsTrue, List, [], Option, None}
use Rattle.sqlite.specs.Tree.{Trees}
use Rattle.fuse_init.specs.declared.profile.Profile.{Profile}
use Rattle.fuse_init.specs.declared.profile.Profile.TheVariants.{Plain, Everyday}
use Rattle.fuse_data.specs.State.{DataState}
use Rattle.fuse_rows.specs.Rows.{Rows}
use Rattle.fuse_tree.specs.Rowed.{rowed}
use Rattle.fuse_tree.specs.State.{profile_of}
use Rattle.fuse_keeper.specs.Stands.{Records}
use Rattle.fuse_keeper.specs.KeeperState.{KeeperState}
use Rattle.fuse_keeper.specs.declared.fault.StoreFault.{StoreFault}
use Rattle.fuse_keeper.specs.declared.fault.StoreFault.TheVariants.{Memory, Sql, Damaged}
use Rattle.fuse_store_tables.specs.Content.{LeftAs}
use Rattle.fuse_store_tree.specs.Store.{records_of}
use Rattle.fuse_store_tree.specs.Holding.{Holding, HeldFor}
use Rattle.fuse_store_tree.specs.StoreState.{StoreState, IsHonest, IsUsable, IsAtRest}
use Rattle.fuse_store_tree.specs.Lots.{lots_in}
use Rattle.fuse_store_tree.specs.declared.meta.Meta.{Meta}
use Rattle.fuse_tree.specs.TheTree.{tree_of}

-- ---- by its profile

-- an empty data file, of which a crash leaves nothing else
abbrev pub no_data : DataState
no_data = record { seen = []; may_leave = λ file. file ≡ []; is_clean = true; is_usable = true; gaps = [] }

-- a plain store has no data file, whatever lies beside it
abbrev pub data_for : Profile → DataState → DataState
data_for Plain contents = no_data
data_for Everyday contents = contents

abbrev pub state_for : Profile → StoreState → StoreState
state_for p s = record { tables = s.tables; contents = data_for p s.contents }

-- ---- what is held

-- these are the rows and the records of this holding
pub record IsOf (y : Holding) (rows : Rows) (records : Records) : Type 0 where
  pub rows_are : rows ≡ rowed y.tree
  pub records_are : (i : ℕ) → records i ≡ records_of y.kept i

-- outside a transaction, the store holds these rows and these records, and nothing else, and they are of this profile
pub record HoldsIn (p : Profile) (known : Option Meta) (s : StoreState) (rows : Rows) (records : Records) : Type 0 where
  pub holding : Holding
  pub rests : IsAtRest known holding s
  pub alone : (z : Holding) → HeldFor s.contents.seen z s.tables.now → z ≡ holding
  pub is_of : IsOf holding rows records
  pub profile : profile_of holding.tree ≡ p

-- ---- what a crash leaves

-- the trees of a database and the content of a data file, which together hold something of this profile
pub record LeavesSome (p : Profile) (db : Trees) (file : List ℕ) : Type 0 where
  pub holding : Holding
  pub left : LeftAs (HeldFor file holding) db
  pub profile : profile_of holding.tree ≡ p

-- the same of these rows and records
pub record LeavesThese (p : Profile) (db : Trees) (file : List ℕ) (rows : Rows) (records : Records) : Type 0 where
  pub some : LeavesSome p db file
  pub is_of : IsOf some.holding rows records

-- A crash now may leave these, where both returned what was written. Any trees that it leaves may stand beside any content of the data file
-- that it leaves.
pub record MayLeave (p : Profile) (s : StoreState) (rows : Rows) (records : Records) : Type 0 where
  pub clean : IsHonest s
  pub trees : Trees
  pub may : s.tables.may_leave trees
  pub file : List ℕ
  pub may_file : s.contents.may_leave file
  pub these : LeavesThese p trees file rows records

abbrev pub LeavesWhole : Profile → StoreState → Type 0
LeavesWhole p s = IsHonest s → (db : Trees) → s.tables.may_leave db → (file : List ℕ) → s.contents.may_leave file → LeavesSome p db file

-- ---- faults

-- no lot was taken since the opening, and in what the store holds no number is left for one
pub record IsOutOfLots (known : Option Meta) (lot : Option ℕ) (s : StoreState) : Type 0 where
  pub usable : IsUsable s
  pub none : lot ≡ None
  pub used_up : (y : Holding) → IsAtRest known y s → 2 ^ 62 ≤ y.next_lot

-- the faults of a call: out of memory, of SQL, or damage where no lot is left
abbrev pub MayAnswer : Option Meta → Option ℕ → StoreState → StoreFault → Type 0
MayAnswer known lot s Memory = ⊤
MayAnswer known lot s (Sql e) = ⊤
MayAnswer known lot s Damaged = IsOutOfLots known lot s
MayAnswer known lot s _ = ⊥

-- ---- all of it

-- the store lies where its connection and its data file do, and is honest and clean as they are
abbrev pub table_told : (p : Profile) → Type 0 → Option Meta → StoreState → Option ℕ → Bool → KeeperState (tree_of p)
table_told p memory known s lot failed = record {
  holds = HoldsIn p known s;
  is_honest = IsHonest s;
  is_clean = IsHonest s × IsUsable s;
  in_memory = memory;
  has_failed = failed;
  leaves_whole = LeavesWhole p s;
  may_leave = MayLeave p s;
  may_answer = MayAnswer known lot s;
  lots = lots_in lot s.tables.now;
  service = (tree_of p).service;
}
