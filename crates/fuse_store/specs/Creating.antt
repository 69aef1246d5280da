-- A blank database, and a new store (defined by this project).
use Rattle.std.specs.Prelude.{◌≡◌, ℕ, ⊤, List, [], Option, Some, None, false, IsTrue}
use Rattle.sqlite.specs.Tree.{Trees}
use Rattle.sqlite.specs.State.{State}
use Rattle.fuse_rows.specs.declared.origin.Origin.{Origin}
use Rattle.fuse_data.specs.Header.{HasHeader}
use Rattle.fuse_init.specs.declared.profile.Profile.{Profile}
use Rattle.fuse_init.specs.declared.profile.Profile.TheVariants.{Plain, Everyday}
use Rattle.fuse_store_tables.specs.declared.version.Volume.{Volume}
use Rattle.fuse_store_tables.specs.Content.{LeftAs}
use Rattle.fuse_store_tables.specs.Layout.{no_schema}
use Rattle.sqlite.specs.declared.error.Error.{Error}
use Rattle.fuse_keeper.specs.declared.fault.StoreFault.{StoreFault}
use Rattle.fuse_keeper.specs.Faults.{fault_of}
use Rattle.fuse_store_tables.specs.Refusing.{IsNameTaken}
use Rattle.fuse_store_tree.specs.Holding.{Holding, HeldFor}
use Rattle.fuse_store_tree.specs.StoreState.{StoreState}
use Rattle.fuse_tree.specs.State.{new_store}
use Rattle.fuse_store.specs.declared.new_store.NewStore.{NewStore}
use Rattle.fuse_store.specs.TableState.{data_for}

-- no transaction is open, and there is no table, no index and no view
abbrev pub IsBlank : State → Type 0
IsBlank s = (s.in_transaction ≡ false) × (s.now.schema ≡ no_schema)

-- the owner of its root, and when it is made
abbrev pub origin_of : NewStore → Origin
origin_of new = record { owner = new.kind.owner; made = new.now }

abbrev pub new_holding : Profile → ℕ → Origin → Holding
new_holding p capacity from = record { tree = new_store p capacity from; kept = []; lots = []; next_lot = 1 }

-- this is the data file of the store with this number, where the profile has one
abbrev pub IsDataOf : Profile → ℕ → List ℕ → Type 0
IsDataOf Plain number file = ⊤
IsDataOf Everyday number file = HasHeader number file

-- how an everyday store is made
abbrev pub volume_for : Profile → Volume → Option Volume
volume_for Plain volume = None
volume_for Everyday volume = Some volume

-- the database was blank, and these trees are those of a new store, over its data file
pub record LeavesNewTables (p : Profile) (volume : Volume) (from : Origin) (s : State) (db : Trees) : Type 0 where
  pub blank : IsBlank s
  pub trees : IsTrue s.is_open → (file : List ℕ) → IsDataOf p volume.number file → LeftAs (HeldFor file (new_holding p volume.capacity from)) db

-- the database was blank, and these trees are those of a new store, beside whatever a crash leaves of the data file
abbrev pub LeavesNew : Profile → ℕ → Origin → StoreState → StoreState → Trees → Type 0
LeavesNew p capacity from old left db =
    IsBlank old.tables
    × (IsTrue old.tables.is_open → (file : List ℕ) → (data_for p left.contents).may_leave file → LeftAs (HeldFor file (new_holding p capacity from)) db)

-- the fault of an error that SQLite gave, as the name of a table is there, or the database failed
abbrev pub IsTakenFault : StoreFault → Type 0
IsTakenFault f = (e : Error) × (f ≡ fault_of e) × IsNameTaken e
