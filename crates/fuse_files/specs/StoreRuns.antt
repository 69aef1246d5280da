-- A run of a server over the files of a store: what is opened, served and closed (defined by this project).
use Rattle.std.specs.Prelude.{◌≡◌, ◌⊎◌, ℕ, List, [], ◌∷◌, Option, Some, None, Result, Ok, Err, IfSome}
use Rattle.sqlite_disk.specs.declared.Disk.{Ghosts}
use Rattle.sqlite_disk.specs.declared.Files.{Files}
use Rattle.sqlite_store.specs.declared.store.FileStore.{FileStore}
use Rattle.sqlite.specs.Files.{over_files}
use Rattle.sqlite.specs.declared.file.Leftover.TheVariants as leftover
use Rattle.fuse_wire.specs.declared.moment.Moment.{Moment}
use Rattle.fuse_init.specs.declared.profile.Profile.{Profile}
use Rattle.fuse_init.specs.declared.profile.Profile.TheVariants as profiles
use Rattle.fuse_init.specs.declared.profile.PlainProfile.{PlainProfile}
use Rattle.fuse_init.specs.declared.profile.EverydayProfile.{EverydayProfile}
use Rattle.fuse_keeper.specs.declared.fault.StoreFault.{StoreFault}
use Rattle.fuse_keeper.specs.declared.fault.StoreFault.TheVariants.{NotAStore}
use Rattle.fuse_session.specs.Port.{PortState}
use Rattle.fuse_session.specs.Transcript.{PortEvent}
use Rattle.fuse_store_tables.specs.Faults.{IsOutside}
use Rattle.fuse_store_tables.specs.Saying.{IsRefusal}
use Rattle.fuse_store.specs.declared.new_store.StoreKind.{StoreKind}
use Rattle.fuse_store.specs.Opening.{Stored}
use Rattle.fuse_store.specs.declared.table_keeper.TableKeeper.{TableKeeper}
use Rattle.fuse_store.specs.TableKeeper.{keeper_told}
use Rattle.fuse_store_files.specs.declared.files.Opening.{Opening}
use Rattle.fuse_store_files.specs.declared.files.Opening.TheVariants as opening
use Rattle.fuse_store_files.specs.Databases.{IsExisting, FailsOver, IsNeverOpened}
use Rattle.fuse_store_files.specs.declared.left.StoreLeft.{StoreLeft}
use Rattle.fuse_store_files.specs.Files.{StoreImage, FilesHold}
use Rattle.fuse_store_files.specs.Left.{Closes, AreCleanLeft, LeavesAsFound, LeavesOpening}
use Rattle.fuse_commands.specs.declared.serve.Begin.{Begin}
use Rattle.fuse_commands.specs.declared.serve.Begin.TheVariants.{Fresh, Resume}
use Rattle.fuse_commands.specs.Endings.{store_ending}
use Rattle.fuse_commands.specs.ServingRuns.{views, between, ServesPort}
use Rattle.fuse_files.specs.declared.serving.StoreRun.{StoreRun}
use Rattle.fuse_files.specs.StoreOpened.{OpenedFrom}

-- what a server finds and is to do: what the files held, how the mount begins, and the kind of a store that is made, with the number of an
-- everyday one
pub record Task : Type 0 where
  pub first : StoreImage
  pub begin : Begin
  pub kind : StoreKind
  pub number : ℕ

-- how contracts see a port and a clock
pub record AroundViews (O C : Type 0) : Type 1 where
  pub port : O → PortState
  pub became : O → O → List PortEvent → Type 0
  pub gave : C → C → List Moment → Type 0

abbrev pub around_views : {O C : Type 0} → (O → PortState) → (O → O → List PortEvent → Type 0) → (C → C → List Moment → Type 0) → AroundViews O C
around_views port became gave = record { port = port; became = became; gave = gave }

-- what is around a server: a port and a clock, before and after
pub record Around (O C : Type 0) : Type 0 where
  pub port : O
  pub port' : O
  pub clock : C
  pub clock' : C

abbrev pub around : {O C : Type 0} → O → O → C → C → Around O C
around port port' clock clock' = record { port = port; port' = port'; clock = clock; clock' = clock' }

-- how the files are opened: to resume a mount as they are, and to begin one at the first moment that the clock gives
abbrev pub OpensAt : {C : Type 0} → (C → C → List Moment → Type 0) → Task → Begin → C → C → Opening → Type 0
OpensAt gave task Resume clock mid how = (how ≡ opening.Existing task.number) × (mid ≡ clock)
OpensAt gave task Fresh clock mid how =
    (now : Moment) × (how ≡ opening.Fresh (record { kind = task.kind; now = now; number = task.number })) × gave clock mid (now ∷ [])

abbrev pub OpensBy : {C : Type 0} → (C → C → List Moment → Type 0) → Task → C → C → Opening → Type 0
OpensBy gave task = OpensAt gave task task.begin

-- what is left after a closing
abbrev pub left_closed : {D E : Type 0} {g : Ghosts D} → Result (Files D) (FileStore D g) → Option E → StoreLeft D E g
left_closed (Ok files) disk = record { tables = leftover.Files files; disk = disk }
left_closed (Err it) disk = record { tables = leftover.Store it; disk = disk }

module _ {E : Type 0} (h : Ghosts E) where
  -- the port was served over the keeper of this profile, and nothing else was done at it; and then the keeper was closed
  pub record KeeperServed {P D O C : Type 0} {g : Ghosts D} (p : Profile) (keeper : TableKeeper P (FileStore D g) E)
      (v : AroundViews O C) (x : Around O C) (begin : Begin) (run : StoreRun D E g) : Type 0 where
    pub keeper' : TableKeeper P (FileStore D g) E
    pub served : ServesPort (views (keeper_told p over_files h) (λ a b list. Unit {0}) v.port v.became) (v.gave x.clock x.clock')
        (between keeper keeper' x.port x.port') begin run.ending run.counts
    pub profile_is : run.profile ≡ Some p
    pub left : Result (Files D) (FileStore D g)
    pub disk : Option E
    pub closed : Closes h p keeper' left disk
    pub left_is : run.left ≡ Some (left_closed left disk)

  -- a keeper of the files was opened, under the profile of the store; the port was served over it, and then it was closed
  pub record StoreServed {D O C : Type 0} {g : Ghosts D} (P : Type 0) (p : Profile) (v : AroundViews O C) (x : Around O C) (task : Task)
      (run : StoreRun D E g) : Type 0 where
    pub keeper : TableKeeper P (FileStore D g) E
    pub mid : C
    pub how : Opening
    pub opens : OpensBy v.gave task x.clock mid how
    pub from : OpenedFrom h p how task.first keeper
    pub ran : KeeperServed p keeper v (around x.port x.port' mid x.clock') task.begin run

-- so it was under one of the profiles
abbrev pub IsServed : {D E O C : Type 0} {g : Ghosts D} → Ghosts E → AroundViews O C → Around O C → Task → StoreRun D E g → Type 0
IsServed h v x task run =
    StoreServed h PlainProfile profiles.Plain v x task run ⊎ StoreServed h EverydayProfile profiles.Everyday v x task run

-- no keeper was opened, and nothing was read from the port or sent to it. A store that is refused is left as it was found; else a crash
-- leaves what was found, or what the opening makes of it; and the fault says nothing of a sound store, and of any other database what is so
pub record StoreRefused {D E O C : Type 0} {g : Ghosts D} (h : Ghosts E) (v : AroundViews O C) (x : Around O C) (task : Task) (run : StoreRun D E g) : Type 0 where
  pub how : Opening
  pub opens : OpensBy v.gave task x.clock x.clock' how
  pub still : x.port' ≡ x.port
  pub fault : StoreFault
  pub ending_is : run.ending ≡ store_ending fault
  pub unprofiled : run.profile ≡ None
  pub uncounted : run.counts ≡ None
  pub crash : IfSome run.left (LeavesOpening h how task.first)
  pub untouched : IsRefusal fault → IfSome run.left (LeavesAsFound h task.first)
  pub fails : IfSome run.left (λ it. FailsOver how task.first.tables fault it.tables)
  pub unopened : run.left ≡ None → IsNeverOpened fault ⊎ (IsExisting how × (fault ≡ NotAStore))
  pub outside : IfSome run.left (λ it. AreCleanLeft h it → (z : Stored) → FilesHold task.first z → IsOutside fault)
