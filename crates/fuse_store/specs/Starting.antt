-- Any database after a start (defined by this project).
use Rattle.std.specs.Prelude.{◌≡◌, ℕ, List, [], IsTrue, false, Option, None}
use Rattle.sqlite.specs.Tree.{Trees}
use Rattle.sqlite.specs.Effect.{Database}
use Rattle.sqlite.specs.State.{State, HasCleanDisk, Survives}
use Rattle.fuse_init.specs.declared.profile.Profile.{Profile}
use Rattle.fuse_tree.specs.Rowed.{rowed}
use Rattle.fuse_keeper.specs.History.{History, after}
use Rattle.fuse_keeper.specs.Stands.{Stands}
use Rattle.fuse_keeper.specs.KeeperState.{KeeperState, StandsFor}
use Rattle.fuse_keeper.specs.declared.fault.StoreFault.{StoreFault}
use Rattle.fuse_store_tables.specs.Clearing.{IsBegun}
use Rattle.fuse_store_tables.specs.Content.{Content, LeftAs}
use Rattle.fuse_store_tables.specs.Moves.{RestsAs}
use Rattle.fuse_store_tables.specs.Opening.{IsStored}
use Rattle.fuse_store_tables.specs.Saying.{IsTabled}
use Rattle.fuse_store_tree.specs.Store.{records_of}
use Rattle.fuse_store_tree.specs.Holding.{Holding, HeldFor}
use Rattle.fuse_store_tree.specs.StoreState.{StoreState}
use Rattle.fuse_tree.specs.TheTree.{tree_of}
use Rattle.fuse_store.specs.declared.new_store.NewStore.{NewStore}
use Rattle.fuse_store.specs.Creating.{IsBlank, new_holding, origin_of}
use Rattle.fuse_store.specs.Mounting.{cleared_for}
use Rattle.fuse_store.specs.TableState.{data_for}
use Rattle.fuse_store.specs.Opening.{Stored, WasFor, LeavesOver, FailsToOpen, opened_for}

-- what a new store holds
abbrev pub holding_for : NewStore → Holding
holding_for new = new_holding new.kind.profile new.kind.capacity (origin_of new)

-- a crash now leaves a data file over which these trees are those of a new store
abbrev pub LeavesNewOver : NewStore → StoreState → Trees → Type 0
LeavesNewOver new s db = (file : List ℕ) → (data_for new.kind.profile s.contents).may_leave file → LeftAs (HeldFor file (holding_for new)) db

-- these trees are those of a new store, where the database was blank, and those of the opened store, where it had one
pub record LeavesStarted (new : NewStore) (old left : StoreState) (db : Trees) : Type 0 where
  pub made : IsBlank old.tables → IsTrue old.tables.is_open → LeavesNewOver new left db
  pub opened : (z : Stored) → WasFor z old → LeavesOver z left (opened_for z) db

-- ---- with a mount that begins

-- the opened store, after the begin of a mount
abbrev pub begun_for : Stored → Holding
begun_for z = cleared_for (opened_for z)

abbrev pub BegunFor : List ℕ → Stored → Database → Type 0
BegunFor file z = HeldFor file (begun_for z)

-- the opening and the begin of a mount are one transaction
abbrev pub FreshRefused : StoreState → StoreState → StoreFault → Type 0
FreshRefused = FailsToOpen begun_for IsTabled None

-- all rows are kept but those that the begin of a mount deletes
pub record KeepsNamed (number : Option ℕ) (old new : State) : Type 0 where
  pub begun : HasCleanDisk new → (c : Content) → RestsAs (IsStored c) old → RestsAs (IsBegun number c) new
  pub ended : HasCleanDisk new → new.in_transaction ≡ false
  -- a crash leaves what was there before, or what is seen now
  pub once : Survives old new (λ db. db ≡ new.now.trees)

-- these trees are those of a new store, where the database was blank, and those of the store after the begin of a mount, where it had one
pub record LeavesFresh (new : NewStore) (old left : StoreState) (db : Trees) : Type 0 where
  pub made : IsBlank old.tables → IsTrue old.tables.is_open → LeavesNewOver new left db
  pub begun : (z : Stored) → WasFor z old → LeavesOver z left (begun_for z) db

-- a mount began of the opened store, whatever history that stood for
abbrev pub BeginsAfter : (p : Profile) → Stored → KeeperState (tree_of p) → Type 0
BeginsAfter p z k = (s : (tree_of p).State) (h : History) (t : List ℕ)
    → Stands (tree_of p) (rowed (opened_for z).tree) (records_of (opened_for z).kept) s h t
    → StandsFor k ((tree_of p).cleared (after (tree_of p) s h)) [] []
