-- A replay over the files of a store: what is opened, replayed and closed (defined by this project).
use Rattle.std.specs.Prelude.{◌≡◌, ◌⊎◌, ℕ, List, Option, Some, None, Result, IfSome}
use Rattle.sqlite_disk.specs.declared.Disk.{Ghosts}
use Rattle.sqlite_disk.specs.declared.Files.{Files}
use Rattle.sqlite_store.specs.declared.store.FileStore.{FileStore}
use Rattle.sqlite.specs.Files.{over_files}
use Rattle.fuse_wire.specs.declared.moment.Moment.{Moment}
use Rattle.fuse_init.specs.declared.profile.Profile.{Profile}
use Rattle.fuse_init.specs.declared.profile.Profile.TheVariants as profiles
use Rattle.fuse_init.specs.declared.profile.PlainProfile.{PlainProfile}
use Rattle.fuse_init.specs.declared.profile.EverydayProfile.{EverydayProfile}
use Rattle.fuse_keeper.specs.declared.fault.StoreFault.{StoreFault}
use Rattle.fuse_keeper.specs.KeeperState.{KeeperState}
use Rattle.fuse_tree.specs.TheTree.{tree_of}
use Rattle.fuse_store_tables.specs.Faults.{IsOutside}
use Rattle.fuse_store_tables.specs.Saying.{IsRefusal}
use Rattle.fuse_store.specs.declared.new_store.StoreKind.{StoreKind}
use Rattle.fuse_store.specs.declared.new_store.NewStore.{NewStore}
use Rattle.fuse_store.specs.Opening.{Stored}
use Rattle.fuse_store.specs.declared.table_keeper.TableKeeper.{TableKeeper}
use Rattle.fuse_store.specs.TableKeeper.{keeper_told}
use Rattle.fuse_store_files.specs.declared.files.Opening.TheVariants.{Any}
use Rattle.fuse_store_files.specs.Databases.{FailsOver, IsNeverOpened}
use Rattle.fuse_store_files.specs.declared.left.StoreLeft.{StoreLeft}
use Rattle.fuse_store_files.specs.Files.{StoreImage, FilesHold}
use Rattle.fuse_store_files.specs.Left.{Closes, AreCleanLeft, LeavesAsFound, LeavesOpening}
use Rattle.fuse_commands.specs.declared.ending.Ending.{Ending}
use Rattle.fuse_commands.specs.Endings.{status_of, store_ending, IsOfStream}
use Rattle.fuse_commands.specs.Output.{shows_seen}
use Rattle.fuse_commands.specs.Replaying.{Replayed, Faulted, StandsForPrefix, Prints, PrintsAnswers}
use Rattle.fuse_files.specs.StoreOpened.{OpenedFrom}
use Rattle.fuse_files.specs.StoreRuns.{left_closed}

-- the moment at which a replay makes a store: 1 January 1970, 0:00
abbrev pub start : Moment
start = record { secs = 0; nanos = 0 }

-- a store that was made then
abbrev pub made_then : StoreKind → ℕ → NewStore
made_then kind number = record { kind = kind; now = start; number = number }

-- what a replay finds and is to do: what the files held, the kind of a store that is made, with the number of an everyday one, and the
-- moment of all requests
pub record ReplayTask : Type 0 where
  pub first : StoreImage
  pub kind : StoreKind
  pub number : ℕ
  pub moment : Moment

-- the bytes that a reader will give, and those that a writer holds before and after, where they are known
pub record Streams : Type 0 where
  pub input : Option (List ℕ)
  pub written : Option (List ℕ)
  pub written' : Option (List ℕ)

abbrev pub streams : Option (List ℕ) → Option (List ℕ) → Option (List ℕ) → Streams
streams input written written' = record { input = input; written = written; written' = written' }

-- the stream was replayed over this keeper: the clauses of `run_replay`, with the line of counts of this profile
pub record ReplaysOver (p : Profile) (k k' : KeeperState (tree_of p)) (moment : Moment) (streams : Streams) (ending : Ending) : Type 0 where
  pub replayed : IsOfStream ending → (input : List ℕ) → streams.input ≡ Some input
      → Replayed k k' moment input ending (Prints (shows_seen p) streams.written streams.written')
  pub faulted : status_of ending ≡ 3 → (input : List ℕ) → streams.input ≡ Some input
      → Faulted k k' moment input ending (PrintsAnswers streams.written streams.written')
  pub kept : (input : List ℕ) → streams.input ≡ Some input → StandsForPrefix k k' (λ _. Unit {0}) moment input

-- the stream was replayed over this keeper, and no other; and then it was closed
pub record KeeperReplayed {P D E : Type 0} {g : Ghosts D} (h : Ghosts E) (p : Profile) (keeper : TableKeeper P (FileStore D g) E)
    (moment : Moment) (streams : Streams) (result : Ending × Option (StoreLeft D E g)) : Type 0 where
  pub keeper' : TableKeeper P (FileStore D g) E
  pub replays : ReplaysOver p (keeper_told p over_files h keeper) (keeper_told p over_files h keeper') moment streams result.0
  pub files : Result (Files D) (FileStore D g)
  pub disk : Option E
  pub closed : Closes h p keeper' files disk
  pub left_is : result.1 ≡ Some (left_closed files disk)

-- a keeper of the files was opened, or made where they held nothing; the stream was replayed over it
pub record StoreReplayed {D E : Type 0} {g : Ghosts D} (h : Ghosts E) (P : Type 0) (p : Profile) (task : ReplayTask) (streams : Streams)
    (result : Ending × Option (StoreLeft D E g)) : Type 0 where
  pub keeper : TableKeeper P (FileStore D g) E
  pub from : OpenedFrom h p (Any (made_then task.kind task.number)) task.first keeper
  pub ran : KeeperReplayed h p keeper task.moment streams result

-- so it was under one of the profiles
abbrev pub IsReplayed : {D E : Type 0} {g : Ghosts D} → Ghosts E → ReplayTask → Streams → Ending × Option (StoreLeft D E g) → Type 0
IsReplayed h task streams result =
    StoreReplayed h PlainProfile profiles.Plain task streams result ⊎ StoreReplayed h EverydayProfile profiles.Everyday task streams result

-- no keeper was opened, and nothing was written. A store that is refused is left as it was found; else a crash leaves what was
-- found, or what the opening makes of it; and the fault says nothing of a sound store, and of any other database what is so
pub record NotReplayed {D E : Type 0} {g : Ghosts D} (h : Ghosts E) (task : ReplayTask) (streams : Streams) (result : Ending × Option (StoreLeft D E g)) : Type 0 where
  pub fault : StoreFault
  pub ending_is : result.0 ≡ store_ending fault
  pub unwritten : streams.written' ≡ streams.written
  pub crash : IfSome result.1 (LeavesOpening h (Any (made_then task.kind task.number)) task.first)
  pub untouched : IsRefusal fault → IfSome result.1 (LeavesAsFound h task.first)
  pub fails : IfSome result.1 (λ it. FailsOver (Any (made_then task.kind task.number)) task.first.tables fault it.tables)
  pub unopened : result.1 ≡ None → IsNeverOpened fault
  pub outside : IfSome result.1 (λ it. AreCleanLeft h it → (z : Stored) → FilesHold task.first z → IsOutside fault)
