-- A store of any version, and the store after its opening (defined by this project).
use Rattle.std.specs.Prelude.{◌≡◌, ◌≤◌, ◌^◌, ◌%◌, ℕ, ⊤, false, IsTrue, List, [], ◌∷◌, map, Option, Some, None, option_map}
use Rattle.std.specs.List.{AllByRecursion}
use Rattle.sqlite.specs.Tree.{Trees}
use Rattle.sqlite.specs.Effect.{Database}
use Rattle.sqlite.specs.State.{State, HasCleanDisk, Survives}
use Rattle.sqlite_disk.specs.Disk.{Follows}
use Rattle.fuse_init.specs.declared.profile.Profile.{Profile}
use Rattle.fuse_init.specs.declared.settings.Settings.{Settings}
use Rattle.fuse_data.specs.State.{DataState}
use Rattle.fuse_rows.specs.declared.rows.Counters.{Counters as CountersRow}
use Rattle.fuse_rows.specs.Rows.{Rows}
use Rattle.fuse_tree.specs.State.{State as TreeState, Tree, profile_of}
use Rattle.fuse_tree.specs.Rowed.{rowed}
use Rattle.fuse_keeper.specs.declared.fault.StoreFault.{StoreFault}
use Rattle.fuse_store_tables.specs.declared.version.Layout.TheVariants as layouts
use Rattle.fuse_store_tables.specs.Layout.{with_answers, version_of}
use Rattle.fuse_store_tables.specs.Content.{Content, Counter, Answer, HoldsAs, LeftAs, stored, node_key, cookie_of, fh_of}
use Rattle.fuse_store_tables.specs.Faults.{IsOutside}
use Rattle.fuse_store_tables.specs.Moves.{RestsAs, LeavesAlone, RollsBack}
use Rattle.fuse_store_tables.specs.Opening.{HoldsUnindexed, IsStored, IsOpened, IsWanted, HasMeta, profile_in, under}
use Rattle.fuse_store_tables.specs.Saying.{Says, IsRefusal, IsToMigrate}
use Rattle.fuse_store_tree.specs.Fits.{Fits, KeepsRecord}
use Rattle.fuse_store_tree.specs.Pieces.{byte_in}
use Rattle.fuse_store_tree.specs.Store.{FitsSettings, in_order, counter, is_there, minor_of, readahead_of, flags_of, layout_for}
use Rattle.fuse_store_tree.specs.Store.{AreWithin, DescribesAs, HasNumber, bodies_of, rows_bytes, rows_ends}
use Rattle.fuse_store_tree.specs.Holding.{Holding, HeldFor, AreBelow, store_of}
use Rattle.fuse_store_tree.specs.StoreState.{StoreState}
use Rattle.fuse_store.specs.SecondVersion.{SecondEverydayFor}
use Rattle.fuse_store.specs.TableState.{data_for}

-- ---- version 1

-- the ten of its `meta`
abbrev pub first_meta_rows : CountersRow → Option Settings → List Counter
first_meta_rows c s =
    counter 1 1 ∷ counter 2 c.next_node ∷ counter 3 c.next_fh ∷ counter 4 c.next_cookie ∷ counter 5 c.nodes ∷ counter 6 c.handles ∷ counter 7 (is_there s)
    ∷ counter 8 (minor_of s) ∷ counter 9 (readahead_of s)
    ∷ counter 10 (flags_of s) ∷ []

-- its tables describe these rows of a tree, and these records, which have no lot
pub record DescribesFirst (rows : Rows) (records : List Answer) (c : Content) : Type 0 where
  pub layout : c.layout ≡ layouts.Second
  pub counters : c.counters ≡ first_meta_rows rows.counters rows.settings
  pub nodes : c.nodes ≡ in_order node_key (map (λ f. f.row) rows.nodes)
  pub entries : c.entries ≡ in_order cookie_of rows.entries
  pub handles : c.handles ≡ in_order fh_of rows.handles
  pub answers : c.answers ≡ records
  pub lots : c.lots ≡ []
  pub kept : c.kept ≡ []
  pub attributes : c.attributes ≡ []
  pub bytes : (node i : ℕ) → byte_in [] c node i ≡ rows_bytes rows node i
  pub within : AreWithin (rows_ends rows) c.blocks
  pub settings : FitsSettings rows.settings
  pub fits : Fits c
  pub keeps : AllByRecursion (λ a. KeepsRecord (under 0 a)) records

-- a database of version 1 that holds this, which is plain
pub record FirstFor (s : TreeState) (records : List Answer) (d : Database) : Type 0 where
  pub tree : Tree s
  pub plain : s.capacity ≡ None
  pub held : (c : Content) × HoldsAs with_answers (stored c) d × DescribesFirst (rowed s) records c

-- ---- version 2 of a plain store

-- a database of version 2 without the index that holds this
pub record UnindexedFor (y : Holding) (d : Database) : Type 0 where
  pub tree : Tree y.tree
  pub below : AreBelow y.next_lot y.lots
  pub next : y.next_lot ≤ 2 ^ 62
  pub held : (c : Content) × HoldsUnindexed c d × DescribesAs (store_of y) (bodies_of (rowed y.tree)) [] c

-- ---- any version

-- a tree and its records in version 1; a holding of version 2 without the index; one in the tables that a new store has; or one of version 2
-- that is everyday
pub data Stored : Type 0 where
  First : TreeState → List Answer → Stored
  Second : Holding → Stored
  Unindexed : Holding → Stored
  SecondEveryday : Holding → Stored

-- this database over this data file
abbrev pub StoredFor : List ℕ → Stored → Database → Type 0
StoredFor file (First s records) d = FirstFor s records d
StoredFor file (Second y) d = HeldFor file y d
StoredFor file (Unindexed y) d = UnindexedFor y d
StoredFor file (SecondEveryday y) d = SecondEverydayFor y d

-- the records of version 1 are under lot 0, and the next lot is 1
abbrev pub opened_for : Stored → Holding
opened_for (First s records) = record { tree = s; kept = map (under 0) records; lots = 0 ∷ []; next_lot = 1 }
opened_for (Second y) = y
opened_for (Unindexed y) = y
opened_for (SecondEveryday y) = y

-- the version in its `meta`
abbrev pub version_for : Stored → ℕ
version_for (First s records) = 1
version_for (Second y) = version_of (layout_for (rowed y.tree).counters.room)
version_for (Unindexed y) = 2
version_for (SecondEveryday y) = 2

abbrev pub OpenedFor : List ℕ → Stored → Database → Type 0
OpenedFor file z = HeldFor file (opened_for z)

-- the rows of a store that was opened, those too that no tree has: `meta` is whole, and of this profile
pub record IsWholeOf (p : Profile) (c : Content) : Type 0 where
  pub whole : HasMeta c
  pub profile : profile_in c ≡ p

-- it is of the profile that is wanted, if one is
abbrev pub IsWantedOf : Option Profile → Stored → Type 0
IsWantedOf wanted z = IsWanted wanted (profile_of (opened_for z).tree)

-- ---- the number of a store that becomes one of version 3

-- it has 63 bits
abbrev pub store_number : ℕ → ℕ
store_number n = n % 2 ^ 63

abbrev pub numbered : Option ℕ → Option ℕ
numbered = option_map store_number

-- this is the data file of the store with this number
abbrev pub HasFileFor : Option ℕ → List ℕ → Type 0
HasFileFor None file = ⊥
HasFileFor (Some number) file = HasNumber number file

-- an everyday store of version 2 has its data file before it is opened
abbrev pub IsReady : Option ℕ → List ℕ → Stored → Type 0
IsReady number file (SecondEveryday y) = HasFileFor number file
IsReady number file _ = ⊤

-- a store that can be opened
abbrev pub ReadyFor : Option ℕ → List ℕ → Stored → Database → Type 0
ReadyFor number file z d = StoredFor file z d × IsReady number file z

-- and is wanted
abbrev pub WantedFor : Option Profile → Option ℕ → List ℕ → Stored → Database → Type 0
WantedFor wanted number file z d = ReadyFor number file z d × IsWantedOf wanted z

-- ---- with its data file

-- what a store has of what lies beside its database
abbrev pub data_of : Stored → StoreState → DataState
data_of z s = data_for (profile_of (opened_for z).tree) s.contents

abbrev pub seen_of : Stored → StoreState → List ℕ
seen_of z s = (data_of z s).seen

-- a store over this data file that is open, outside a transaction, and was left so
abbrev pub WasOver : List ℕ → Stored → State → Type 0
WasOver file z s = IsTrue s.is_open × (s.in_transaction ≡ false) × LeftAs (StoredFor file z) s.committed.trees

abbrev pub WasFor : Stored → StoreState → Type 0
WasFor z s = WasOver (seen_of z s) z s.tables

-- both returned what was written, where the store has a data file
abbrev pub IsHonestFor : Stored → StoreState → Type 0
IsHonestFor z s = HasCleanDisk s.tables × IsTrue (data_of z s).is_clean

-- a crash now leaves a data file over which these trees hold this
abbrev pub LeavesOver : Stored → StoreState → Holding → Trees → Type 0
LeavesOver z s y db = (file : List ℕ) → (data_of z s).may_leave file → LeftAs (HeldFor file y) db

-- a store in these trees that the data file was part of before has it now
abbrev pub KeepsStored : Stored → Trees → List ℕ → List ℕ → Type 0
KeepsStored z db before after = LeftAs (StoredFor before z) db → LeftAs (StoredFor after z) db

-- of each store that the trees had which a crash could leave, a crash still leaves the data file
abbrev pub LeavesContents : StoreState → StoreState → Type 0
LeavesContents old left = HasCleanDisk left.tables → (z : Stored) (db : Trees) → old.tables.may_leave db
    → Follows (KeepsStored z db) (data_of z old).may_leave (data_of z left).may_leave

-- the data file reads as it did, and a crash leaves nothing of it but what it left before
pub record IsUntouched (old left : DataState) : Type 0 where
  pub seen : left.seen ≡ old.seen
  pub leaves : (c : List ℕ) → left.may_leave c → old.may_leave c

-- what was committed before is seen, and a crash leaves that or one database as a whole, whatever the database is
pub record IsUndone (old left : State) : Type 0 where
  pub seen : old.in_transaction ≡ false → RollsBack old left
  pub trees : Trees
  pub once : Survives old left (λ db. db ≡ trees)

-- an opening that failed, and what is left; where it succeeds, it makes this of a store of the profile that is wanted, and changes these
-- databases alone
pub record FailsToOpen (made : Stored → Holding) (Changes : Database → Type 0) (wanted : Option Profile) (old left : StoreState) (f : StoreFault) : Type 0 where
  -- a crash then leaves the same trees as before, or those of the opened store
  pub crash : Survives old.tables left.tables (λ db. (z : Stored) → WasFor z old → LeavesOver z left (made z) db)
  -- and of the data file what the store had of it
  pub contents : LeavesContents old left
  pub kept : HasCleanDisk left.tables → IsTrue left.tables.is_open → (z : Stored) → WasFor z old → RestsAs (StoredFor (seen_of z left) z) left.tables
  -- the fault says nothing of a sound store that is wanted, and else only what is so
  pub outside : (z : Stored) → IsHonestFor z left → WasFor z old → IsWantedOf wanted z → IsOutside f
  pub says : HasCleanDisk left.tables → Says old.tables.now f
  -- a database that is refused is left as it was, with what lies beside it; so is any other database that is not to be changed
  pub refused : IsRefusal f → LeavesAlone old.tables left.tables
  pub untouched : IsRefusal f → IsUntouched old.contents left.contents
  pub alone : old.tables.in_transaction ≡ false → (Changes old.tables.now → ⊥) → LeavesAlone old.tables left.tables
  pub ended : HasCleanDisk left.tables → old.tables.in_transaction ≡ false → left.tables.in_transaction ≡ false
  pub undone : IsUndone old.tables left.tables

abbrev pub OpenRefused : Option Profile → StoreState → StoreState → StoreFault → Type 0
OpenRefused = FailsToOpen opened_for IsToMigrate

-- an opening that succeeded keeps all rows, those too that no tree has; the number is for an everyday store of version 2
pub record KeepsRows (number : Option ℕ) (old new : State) : Type 0 where
  -- only a store that is to be migrated or lacks the index is changed
  pub alone : (IsToMigrate old.now → ⊥) → LeavesAlone old new
  pub opened : HasCleanDisk new → (c : Content) → RestsAs (IsStored c) old → RestsAs (IsOpened number c) new
  pub ended : HasCleanDisk new → new.in_transaction ≡ false
  -- a crash leaves what was there before, or what is seen now
  pub once : Survives old new (λ db. db ≡ new.now.trees)
