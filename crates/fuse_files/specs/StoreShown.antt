-- What is shown of the store in files that were read (defined by this project).
use Rattle.std.specs.Prelude.{◌≡◌, ◌⊎◌, ⊤, ℕ, List, length, Option, IsSome, Result, Ok, Err}
use Rattle.std.specs.List.{sum_by}
use Rattle.std.specs.Io.KnownBytes.{Appends}
use Rattle.std.specs.declared.io.Error.{Error}
use Rattle.sqlite_wal.specs.Recovery.{Image}
use Rattle.sqlite.specs.Tree.{Trees}
use Rattle.sqlite.specs.Effect.{Database, IsDatabase}
use Rattle.sqlite.specs.Files.{HoldsDatabase, IsNothing}
use Rattle.fuse_keeper.specs.declared.fault.StoreFault.TheVariants as fault
use Rattle.fuse_keeper.specs.Stands.{Records, CountsRecords}
use Rattle.fuse_rows.specs.Rows.{Rows}
use Rattle.fuse_tree.specs.Rowed.{rowed}
use Rattle.fuse_store_tables.specs.Saying.{Says, IsTabled}
use Rattle.fuse_store_tree.specs.Store.{HasNumber, records_of}
use Rattle.fuse_store_tree.specs.Holding.{Holding}
use Rattle.fuse_store.specs.Opening.{Stored, opened_for, version_for}
use Rattle.fuse_store.specs.Opening.Stored.{Second}
use Rattle.sqlite_disk.specs.declared.Disk.{Ghosts}
use Rattle.fuse_store.specs.TableKeeper.{disk_in}
use Rattle.fuse_store_files.specs.Files.{StoreImage, FilesHold, AreTheirs}
use Rattle.fuse_show.specs.declared.fault.ShowFault.{ShowFault}
use Rattle.fuse_show.specs.declared.fault.ShowFault.TheVariants.{Look, NotATree, NoSuchPath, NotDirectory, NotFile, Output}
use Rattle.fuse_show.specs.Paths.{names_of}
use Rattle.fuse_show.specs.Shown.{ShowsListing, ShowsContent}
use Rattle.fuse_show.specs.Listing.{AreLines}
use Rattle.fuse_show.specs.Sinks.{IsPartOf, Way, Flushed, Failed, Left, Outputs}
use Rattle.fuse_show.specs.Summary.{store_text}
use Rattle.fuse_show.specs.declared.summary.Summary.{Summary}
use Rattle.fuse_commands.specs.declared.ending.Ending.{Ending}
use Rattle.fuse_commands.specs.declared.ending.Ending.TheVariants as ending
use Rattle.fuse_files.specs.declared.showing.Show.{Show}
use Rattle.fuse_files.specs.declared.showing.Show.TheVariants as show
use Rattle.fuse_files.specs.declared.showing.StoreBytes.{StoreBytes}

abbrev pub image_in : StoreBytes → Image
image_in read = record { log = read.log.items; db = read.db.items }

-- with what a read returns of the data file beside them
abbrev pub store_read : {E : Type 0} → Ghosts E → StoreBytes → Option E → StoreImage
store_read h read disk = record { tables = image_in read; contents = (disk_in h disk).seen }

-- ---- of a store

-- its rows, once it is opened
abbrev pub rows_in : Stored → Rows
rows_in z = rowed (opened_for z).tree

-- the ending says nothing of the store: out of memory, or a fault of SQL
abbrev pub SaysNothing : Ending → Type 0
SaysNothing ending.Memory = ⊤
SaysNothing (ending.Sql _) = ⊤
SaysNothing _ = ⊥

-- the ending of what was shown
abbrev pub EndsAsShown : Result (Unit {0}) ShowFault → Ending → Type 0
EndsAsShown (Ok _) e = e ≡ ending.Done
EndsAsShown (Err (Look f)) e = SaysNothing e
EndsAsShown (Err NotATree) e = e ≡ ending.Damaged
EndsAsShown (Err NoSuchPath) e = e ≡ ending.NoSuchPath
EndsAsShown (Err NotDirectory) e = e ≡ ending.NotDirectory
EndsAsShown (Err NotFile) e = e ≡ ending.NotFile
EndsAsShown (Err Output) e = e ≡ ending.PortFailed

-- the listing of the directory at this path, or why there is none
pub record ListsDirectory (path : List ℕ) (z : Stored) (old new : Option (List ℕ)) (e : Ending) : Type 0 where
  pub shown : Result (Unit {0}) ShowFault
  pub bytes : List ℕ
  pub written : Appends old new bytes
  pub lists : ShowsListing (rows_in z) (names_of path) bytes shown
  pub ends : EndsAsShown shown e

-- the bytes of the file at this path, or why there are none
pub record PrintsFile (path : List ℕ) (z : Stored) (old new : Option (List ℕ)) (e : Ending) : Type 0 where
  pub shown : Result (Unit {0}) ShowFault
  pub bytes : List ℕ
  pub written : Appends old new bytes
  pub prints : ShowsContent (rows_in z) (names_of path) bytes shown
  pub ends : EndsAsShown shown e

-- the summary says what these rows and records hold, in so many lots
pub record SumsUp (x : Rows) (r : Records) (n : ℕ) (it : Summary) : Type 0 where
  pub nodes : it.counts.nodes ≡ x.counters.nodes
  pub handles : it.counts.handles ≡ x.counters.handles
  pub records : CountsRecords r it.counts.records
  pub lots : it.counts.lots ≡ n
  pub bytes : it.bytes ≡ sum_by (λ f. f.row.size) x.nodes
  pub room : it.room ≡ x.counters.room
  pub agreed : it.agreed ≡ x.settings

-- its summary is a text of which this is so
pub record IsSummed (z : Stored) (Written : List ℕ → Type 0) : Type 0 where
  pub summary : Summary
  pub version : summary.version ≡ version_for z
  pub so : SumsUp (rows_in z) (records_of (opened_for z).kept) (length (opened_for z).lots) summary
  pub written : Written (store_text summary.version summary.counts summary.bytes summary.room summary.agreed)

abbrev pub Sums : Stored → Option (List ℕ) → Option (List ℕ) → Ending → Type 0
Sums z old new ending.Done = IsSummed z (Appends old new)
Sums z old new ending.PortFailed = IsSummed z (λ text. (bytes : List ℕ) × Appends old new bytes × IsPartOf bytes text)
Sums z old new e = SaysNothing e × (new ≡ old)

abbrev pub Shows : Show → Stored → Option (List ℕ) → Option (List ℕ) → Ending → Type 0
Shows show.Summary z old new e = Sums z old new e
Shows (show.Directory path) z old new e = ListsDirectory path.now z old new e
Shows (show.File path) z old new e = PrintsFile path.now z old new e

-- ---- of any files

-- what the ending says of a database is so; only of a store of a version that is known something is shown
abbrev pub SaysSo : Database → Ending → Type 0
SaysSo d ending.Memory = ⊤
SaysSo d (ending.Sql _) = ⊤
SaysSo d ending.NotAStore = Says d fault.NotAStore
SaysSo d (ending.Version n) = Says d (fault.Version n)
SaysSo d ending.Damaged = Says d fault.Damaged
SaysSo d ending.Guest = Says d fault.Guest
SaysSo d _ = IsTabled d

-- an open of the files finds this database, and the ending says what is so of it
pub record SaysTrue (image : Image) (e : Ending) : Type 0 where
  pub database : Database
  pub sound : IsDatabase database
  pub theirs : AreTheirs image database.trees
  pub says : SaysSo database e

-- nothing is opened: the ending says nothing, or the files hold neither a database nor nothing
abbrev pub IsUnopened : Image → Ending → Type 0
IsUnopened image e =
    SaysNothing e ⊎ ((e ≡ ending.NotAStore) × ((db : Trees) → HoldsDatabase image db → ⊥) × (IsNothing image → ⊥))

-- the data file of an everyday store of version 3 with these tables has this number
abbrev pub IsStoreNumber : Image → ℕ → Type 0
IsStoreNumber image n = (y : Holding) (file : List ℕ) → IsSome y.tree.capacity
    → FilesHold (record { tables = image; contents = file }) (Second y) → HasNumber n file

-- an output that ended so wrote bytes of which this is so
abbrev pub OutputsAs : {W : Type 0} → (W → W → Result ℕ Error → List ℕ → Type 0) → (W → W → Result (Unit {0}) Error → Type 0) → W → W
    → (Way → List ℕ → Type 0) → Type 0
OutputsAs written flushed a b P = (way : Way) × Outputs written flushed a b way (P way)

-- the ending of what was not shown to its end, though no output failed
abbrev pub MayCutShort : Ending → Type 0
MayCutShort ending.Done = ⊥
MayCutShort ending.PortFailed = ⊥
MayCutShort _ = ⊤

-- the first bytes of a text of which this is so
abbrev pub IsPartOfOne : (List ℕ → Type 0) → List ℕ → Type 0
IsPartOfOne Is bytes = (text : List ℕ) × Is text × IsPartOf bytes text

-- a whole text and a flush, a part before output failed, or a part before something else did
abbrev pub ShowsText : (List ℕ → Type 0) → Ending → Way → List ℕ → Type 0
ShowsText Is e Flushed bytes = (e ≡ ending.Done) × Is bytes
ShowsText Is e Failed bytes = (e ≡ ending.PortFailed) × IsPartOfOne Is bytes
ShowsText Is e Left bytes = MayCutShort e × IsPartOfOne Is bytes

-- some summary
abbrev pub IsSummary : List ℕ → Type 0
IsSummary text = (s : Summary) × (text ≡ store_text s.version s.counts s.bytes s.room s.agreed)

-- a text of the form of what is asked for: a summary, lines of entries, or any bytes
abbrev pub IsTextOf : Show → List ℕ → Type 0
IsTextOf show.Summary = IsSummary
IsTextOf (show.Directory path) = AreLines
IsTextOf (show.File path) = λ _. ⊤

-- no store of a version that is known, or nothing at the path that can be shown
abbrev pub IsRefused : Ending → Type 0
IsRefused ending.NotAStore = ⊤
IsRefused (ending.Version n) = ⊤
IsRefused ending.NoSuchPath = ⊤
IsRefused ending.NotDirectory = ⊤
IsRefused ending.NotFile = ⊤
IsRefused _ = ⊥
