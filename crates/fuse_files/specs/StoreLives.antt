-- The runs of servers over the files of a store are lives (defined by this project).
use Rattle.std.proofs.Common.{◌⊎◌, inl, inr}
use Rattle.std.specs.Prelude.{◌≡◌, ℕ, List, [], Option, Some, None, Result, Ok, Err, IsTrue}
use Rattle.fuse_session.specs.declared.counts.SessionCounts.{SessionCounts}
use Rattle.sqlite_disk.specs.declared.Disk.{Ghosts}
use Rattle.sqlite_disk.specs.declared.Files.{Files}
use Rattle.sqlite_wal.specs.Recovery.{Image}
use Rattle.sqlite_wal.specs.Files.{outcomes}
use Rattle.sqlite_wal.specs.Reads.{AreClean}
use Rattle.sqlite_store.specs.declared.store.FileStore.{FileStore}
use Rattle.sqlite_store.specs.FileStore.{state, view}
use Rattle.sqlite_trees.specs.View.{IsClean}
use Rattle.sqlite.specs.Files.{over_files}
use Rattle.sqlite.specs.declared.file.Leftover.{Leftover}
use Rattle.sqlite.specs.declared.file.Leftover.TheVariants as leftover
use Rattle.fuse_init.specs.declared.profile.Profile.{Profile}
use Rattle.fuse_wire.specs.declared.moment.Moment.{Moment}
use Rattle.fuse_keeper.specs.Model.{Model}
use Rattle.fuse_keeper.specs.Stands.{Standing}
use Rattle.fuse_tree.specs.TheTree.{tree_of}
use Rattle.fuse_store.specs.declared.new_store.NewStore.{NewStore}
use Rattle.fuse_store.specs.Starting.{holding_for}
use Rattle.fuse_store.specs.declared.table_keeper.TableKeeper.{TableKeeper}
use Rattle.fuse_store.specs.TableKeeper.{disk_in}
use Rattle.fuse_sim.specs.FileLives.{FileRun, run_over, no_run, IsRunFrom}
use Rattle.fuse_store_files.specs.declared.files.Opening.{Opening}
use Rattle.fuse_store_files.specs.declared.files.Opening.TheVariants.{Existing, Any, Fresh}
use Rattle.fuse_store_files.specs.declared.left.StoreLeft.{StoreLeft}
use Rattle.fuse_store_files.specs.Files.{StoreImage, FilesStand, HoldNothing}
use Rattle.fuse_store_files.specs.Left.{own_store, lies_beside, data_left, Closes}
use Rattle.fuse_store_files.specs.Starting.{begun_at}
use Rattle.fuse_session.specs.Done.{life_of}
use Rattle.fuse_commands.specs.declared.serve.Begin.{Begin}
use Rattle.fuse_commands.specs.declared.ending.Ending.{Ending}
use Rattle.fuse_commands.specs.ServingRuns.{Views, Between, ServesPort}

-- the history of a new store
abbrev pub new_at : (p : Profile) → NewStore → Standing (tree_of p)
new_at p new = record { state = (holding_for new).tree; history = []; settled = [] }

-- the session that was served, with these files left; none where the resend notice could not be sent
abbrev pub file_run : {M : Model} {K P Image : Type 0} {v : Views M K P} {gave : List Moment → Type 0} {b : Between K P} {begin : Begin} {ending : Ending} {counts : Option SessionCounts}
    → ServesPort v gave b begin ending counts → Image → FileRun Image
file_run (inl served) image = run_over (life_of served.session) image
file_run (inr not) image = no_run image

-- a run over these files: a life of the mount that they held, of one that began of what they held, and of a new store
abbrev pub Resumes : Profile → StoreImage → FileRun StoreImage → Type 0
Resumes p first r = (at : Standing (tree_of p)) → FilesStand p first at → IsRunFrom (FilesStand p) at r

abbrev pub BeginsOf : Profile → StoreImage → FileRun StoreImage → Type 0
BeginsOf p first r = (at : Standing (tree_of p)) → FilesStand p first at → IsRunFrom (FilesStand p) (begun_at p at) r

abbrev pub BeginsNewly : Profile → StoreImage → NewStore → FileRun StoreImage → Type 0
BeginsNewly p first new r = HoldNothing first.tables → IsRunFrom (FilesStand p) (new_at p new) r

-- so it is by how they were opened
abbrev pub RunsOn : Profile → Opening → StoreImage → FileRun StoreImage → Type 0
RunsOn p (Existing n) first r = Resumes p first r
RunsOn p (Any new) first r = Resumes p first r × BeginsNewly p first new r
RunsOn p (Fresh new) first r = BeginsOf p first r × BeginsNewly p first new r

-- what a crash may leave of a store whose trees have their numbers, as those of one that is open do
abbrev pub LeftOpen : {D : Type 0} {g : Ghosts D} → FileStore D g → Image → Type 0
LeftOpen it image = IsTrue (view it).is_numbered × (state it).may_leave image

-- what a crash may leave of files that were closed, or of a store where that failed
abbrev pub LeftClosed : {D : Type 0} {g : Ghosts D} → Result (Files D) (FileStore D g) → Image → Type 0
LeftClosed {g = g} (Ok files) image = AreClean g files.log files.db × outcomes g files.log files.db image
LeftClosed (Err it) image = LeftOpen it image

-- what a crash may leave of the tables of a run: of the store as the session left it, if the disk returned what was written until its
-- log was to be copied; of the store that it then was; or of the files after the closing
abbrev pub TablesMayBeLeft : {P D E : Type 0} {g : Ghosts D} {h : Ghosts E} {p : Profile} {keeper : TableKeeper P (FileStore D g) E}
    {left : Result (Files D) (FileStore D g)} {disk : Option E} → Closes h p keeper left disk → Image → Type 0
TablesMayBeLeft {keeper = keeper} {left = left} closed image =
    (IsClean (view closed.ended) × (state (own_store keeper)).may_leave image) ⊎ ((state closed.ended).may_leave image ⊎ LeftClosed left image)

-- and beside them, of its data file, if that has returned what was written; beside a plain store anything may lie
abbrev pub MayBeLeft : {P D E : Type 0} {g : Ghosts D} {h : Ghosts E} {p : Profile} {keeper : TableKeeper P (FileStore D g) E}
    {left : Result (Files D) (FileStore D g)} {disk : Option E} → Closes h p keeper left disk → StoreImage → Type 0
MayBeLeft {h = h} {p = p} {disk = disk} closed it =
    TablesMayBeLeft closed it.tables × IsTrue (disk_in h disk).is_clean × lies_beside p (disk_in h disk) it.contents

-- ---- a run whose store is not opened

-- What a crash may leave of its tables: those that were not opened are as they were. What an opening leaves that failed within the library,
-- once it had begun to recover the files, is not here.
abbrev pub TablesMayLeaveUnopened : {D : Type 0} {g : Ghosts D} → Image → Leftover D g → Image → Type 0
TablesMayLeaveUnopened {g = g} first (leftover.Files files) image = AreClean g files.log files.db × outcomes g files.log files.db image
TablesMayLeaveUnopened first (leftover.Unopened it) image = ⊥
TablesMayLeaveUnopened first (leftover.Store it) image = LeftOpen it image

-- and beside them, of its data file
abbrev pub MayLeaveUnopened : {D E : Type 0} {g : Ghosts D} → Ghosts E → StoreImage → StoreLeft D E g → StoreImage → Type 0
MayLeaveUnopened h first left it = TablesMayLeaveUnopened first.tables left.tables it.tables × data_left h first.contents left.disk it.contents

abbrev pub MayBeLeftUnopened : {D E : Type 0} {g : Ghosts D} → Ghosts E → StoreImage → Option (StoreLeft D E g) → StoreImage → Type 0
MayBeLeftUnopened h first None it = it ≡ first
MayBeLeftUnopened h first (Some left) it = MayLeaveUnopened h first left it
