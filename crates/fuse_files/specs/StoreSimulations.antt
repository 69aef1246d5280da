-- A script that is run over a new store in files that crash (defined by this project).
use Rattle.std.specs.Prelude.{◌≡◌, ◌≤◌, ◌⊎◌, ℕ, true, false, List, [], Option, Some, None, IsSomeAnd}
use Rattle.std.specs.Io.KnownBytes.{Appends}
use Rattle.sqlite_disk.specs.declared.Disk.{Ghosts}
use Rattle.sqlite_disk.specs.declared.Files.{Files}
use Rattle.sqlite_store.specs.declared.store.FileStore.{FileStore}
use Rattle.sqlite_wal.specs.Recovery.{Image}
use Rattle.sqlite.specs.Effect.{Database, IsDatabase}
use Rattle.sqlite.specs.Files.{over_files, image_of}
use Rattle.fuse_init.specs.declared.profile.Profile.{Profile}
use Rattle.fuse_init.specs.declared.profile.Profile.TheVariants.{Plain, Everyday}
use Rattle.fuse_init.specs.declared.profile.PlainProfile.{PlainProfile}
use Rattle.fuse_init.specs.declared.profile.EverydayProfile.{EverydayProfile}
use Rattle.fuse_keeper.specs.declared.fault.StoreFault.{StoreFault}
use Rattle.fuse_keeper.specs.KeeperState.{StandsFor, IsFirm}
use Rattle.fuse_keeper.specs.Model.{Model}
use Rattle.fuse_tree.specs.State.{State, new_store}
use Rattle.fuse_tree.specs.TheTree.{tree_of}
use Rattle.fuse_sim.specs.Twice.{Seen}
use Rattle.fuse_store.specs.declared.new_store.StoreKind.{StoreKind}
use Rattle.fuse_store.specs.Creating.{origin_of}
use Rattle.fuse_store_files.specs.declared.crash_keeper.CrashKeeper.{CrashKeeper}
use Rattle.fuse_store_tables.specs.Layout.{no_schema}
use Rattle.fuse_store_files.specs.Files.{AreTheirs}
use Rattle.fuse_store_files.specs.Crashing.{crash_relations}
use Rattle.fuse_store_files.specs.Restarting.{crash_told, CrashRefuses}
use Rattle.fuse_commands.specs.declared.ending.Ending.{Ending}
use Rattle.fuse_commands.specs.Endings.{status_of, store_ending}
use Rattle.fuse_commands.specs.Simulating.{driven, Simulated, StoppedIn, LeftByScript, RefusedIn}
use Rattle.fuse_files.specs.StoreReplays.{Streams, made_then}
use Rattle.fuse_files.specs.StoreShown.{IsUnopened}

-- the new store of a simulation
abbrev pub new_state : Profile → StoreKind → State
new_state p kind = new_store p kind.capacity (origin_of (made_then kind 0))

-- how contracts see keepers whose files crash, all of one kind of disk, before they are opened again
abbrev pub crashing : {D : Type 0} → (P : Type 0) → (p : Profile) → (g : Ghosts D) → (D → D → Type 0) → Seen (tree_of p) (CrashKeeper P D D g)
crashing P p g crashed = driven (crash_told p g) (λ a b n. Unit {0}) (λ a b list. Unit {0}) (CrashRefuses g p (crash_relations crashed crashed))

-- the script was run over this keeper, and no other: the clauses of `run_simulate`
pub record SimulatesOver {M : Model} {K : Type 0} (k : Seen M K) (keeper : K) (streams : Streams) (ending : Ending) : Type 0 where
  pub keeper' : Option K
  pub simulated : status_of ending ≤ 1 → (script : List ℕ) → streams.input ≡ Some script
      → Simulated k (Some keeper) keeper' (Appends streams.written streams.written') script ending
  pub going : status_of ending ≤ 1 → IsSomeAnd keeper' (λ x. (k.told x).has_failed ≡ false)
  pub stopped : status_of ending ≡ 3 → (script : List ℕ) → streams.input ≡ Some script → StoppedIn k (Some keeper) keeper' script ending
  pub kept : (script : List ℕ) → streams.input ≡ Some script → (keeper' ≡ Some keeper) ⊎ LeftByScript k (Some keeper) keeper' script
  pub emptied : (script : List ℕ) → streams.input ≡ Some script → keeper' ≡ None → RefusedIn k (Some keeper) script ending

-- it was run over a keeper of a new store
pub record StoreSimulated {K : Type 0} (p : Profile) (kind : StoreKind) (k : Seen (tree_of p) K) (streams : Streams) (ending : Ending) : Type 0 where
  pub keeper : K
  pub stands : (k.told keeper).is_honest → StandsFor (k.told keeper) (new_state p kind) [] []
  pub firm : (k.told keeper).is_honest → IsFirm (k.told keeper)
  pub ran : SimulatesOver k keeper streams ending

-- so it was under this profile
abbrev pub IsSimulated : {D : Type 0} → Profile → StoreKind → Ghosts D → (D → D → Type 0) → Streams → Ending → Type 0
IsSimulated Plain kind g crashed streams ending = StoreSimulated Plain kind (crashing PlainProfile Plain g crashed) streams ending
IsSimulated Everyday kind g crashed streams ending = StoreSimulated Everyday kind (crashing EverydayProfile Everyday g crashed) streams ending

-- the disks always return what was written, as those in memory do
abbrev pub AreSure : {D : Type 0} → Ghosts D → Type 0
AreSure {D} g = (d : D) → g.is_clean d ≡ true

-- an open of the files finds a blank database
pub record FindsBlank (image : Image) : Type 0 where
  pub database : Database
  pub sound : IsDatabase database
  pub theirs : AreTheirs image database.trees
  pub blank : database.schema ≡ no_schema

-- if the disks are so, it did before the run
abbrev pub WereBlank : {D : Type 0} → Ghosts D → Files D → Type 0
WereBlank g files = AreSure g → FindsBlank (image_of g files)

-- no store was made, and nothing was written. If the disks are so, the ending says nothing, or the files hold neither a database nor nothing
pub record NotSimulated {D : Type 0} (g : Ghosts D) (files : Files D) (streams : Streams) (ending : Ending) : Type 0 where
  pub fault : StoreFault
  pub ending_is : ending ≡ store_ending fault
  pub unwritten : streams.written' ≡ streams.written
  pub sure : AreSure g → IsUnopened (image_of g files) ending
