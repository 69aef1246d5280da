-- What an open finds in the files of a store, and what it makes of it.
use Rattle.std.proofs.Common.{◌≡◌, ◌≤◌, ◌⊎◌, ℕ, false, List, Option, Some, None, inl, inr, refl, sym, ap, ap₂, subst, arith, ◌∙◌}
use Rattle.std.proofs.Math.Logic.{∥∥₁_elim, ∥∥₁_map}
use Rattle.sqlite_disk.specs.declared.Disk.{Ghosts}
use Rattle.sqlite_disk.specs.declared.Files.{Files}
use Rattle.sqlite_disk.specs.Disk.{Follows, Only}
use Rattle.sqlite_wal.proofs.LogLemmas.{SeenMayStay}
use Rattle.sqlite_wal.specs.Recovery.{Image}
use Rattle.sqlite_pool.proofs.StateLemmas.{clean_if_left}
use Rattle.sqlite_trees.specs.Props.{Trees-set}
use Rattle.sqlite_trees.specs.Objects.{catalog_tree}
use Rattle.sqlite_trees.specs.View.{IsClean, doubt}
use Rattle.sqlite_trees.specs.declared.error.StoreError.{StoreError}
use Rattle.sqlite_trees.specs.declared.error.StoreError.TheVariants.{OutOfMemory, Io, Corrupt, Full, Broken, Unstorable}
use Rattle.sqlite_trees.proofs.Doubt.{no_doubt}
use Rattle.sqlite_catalog.proofs.ReadLemmas.{lists_once}
use Rattle.sqlite_store.specs.declared.store.FileStore.{FileStore}
use Rattle.sqlite_store.specs.FileStore.{view, recovers}
use Rattle.sqlite_store.specs.Laws.{settled_at}
use Rattle.sqlite.specs.Tree.{Trees}
use Rattle.sqlite.specs.Effect.{Database, IsDatabase}
use Rattle.sqlite.specs.Schema.{Schema}
use Rattle.sqlite_catalog.specs.Listing.{Lists, IsSound}
use Rattle.sqlite.specs.State.{State, HasCleanDisk, IsLive, Opens, Survives, store_error}
use Rattle.sqlite.specs.Held.{Held, AreDatabases}
use Rattle.sqlite.specs.Files.{file_state, IsOpened, IsEmpty, IsNothing, IsCleanLeft, LeavesFiles, AreFoundIn, FailsToOpenFiles, HoldsDatabase, image_of}
use Rattle.sqlite.specs.Start.{FindsIn}
use Rattle.sqlite.specs.declared.error.Error.{Error}
use Rattle.sqlite.specs.declared.file.Leftover.{Leftover}
use Rattle.sqlite.specs.declared.file.Leftover.TheVariants as left
use Rattle.sqlite.proofs.ListingLemmas.{empty_is_sound}
use Rattle.fuse_rows.specs.Rows.{Rows}
use Rattle.fuse_tree.specs.Rowed.{rowed}
use Rattle.fuse_init.specs.declared.profile.Profile.{Profile}
use Rattle.fuse_keeper.specs.Stands.{Records}
use Rattle.fuse_keeper.specs.KeeperState.{KeeperState}
use Rattle.fuse_keeper.specs.declared.fault.StoreFault.{StoreFault}
use Rattle.fuse_keeper.specs.declared.fault.StoreFault.TheVariants.{Memory, Sql}
use Rattle.fuse_store_tables.specs.Content.{Content, LeftAs}
use Rattle.fuse_store_tables.specs.Moves.{RestsAs, LeavesAlone}
use Rattle.fuse_store_tables.specs.Opening.{IsStored, IsLaid, HasMeta}
use Rattle.fuse_store_tables.specs.Saying.{Says, IsTabled}
use Rattle.fuse_store_tables.specs.Faults.{IsOutside}
use Rattle.fuse_store_tables.specs.Layout.{no_schema}
use Rattle.fuse_store_tree.specs.Store.{records_of}
use Rattle.fuse_tree.specs.TheTree.{tree_of}
use Rattle.fuse_tree.specs.State.{profile_of}
use Rattle.fuse_store.specs.Creating.{IsBlank}
use Rattle.fuse_store_tree.specs.Holding.{Holding, HeldFor}
use Rattle.fuse_store_tree.specs.StoreState.{StoreState}
use Rattle.fuse_store.specs.declared.new_store.NewStore.{NewStore}
use Rattle.fuse_store.specs.TableState.{data_for}
use Rattle.fuse_store.specs.TableKeeper.{disk_in}
use Rattle.fuse_store.specs.Starting.{LeavesNewOver, begun_for, holding_for}
use Rattle.fuse_store.specs.Opening.{Stored, StoredFor, WasFor, LeavesOver, KeepsStored, IsUndone, IsWholeOf, opened_for, data_of, seen_of}
use Rattle.fuse_store.specs.Storing.{opening_fault}
use Rattle.fuse_store_files.specs.declared.files.Opening.{Opening}
use Rattle.fuse_store_files.specs.declared.files.Opening.TheVariants.{Existing, Any, Fresh}
use Rattle.fuse_store_files.specs.Files.{StoreImage, HoldSome, FilesHold, HoldNothing, TreesTell, AreTheirs, AreFound}
use Rattle.fuse_store_files.specs.Starting.{OpensAs, KeepsStore, FilesHoldRows}
use Rattle.fuse_store_files.specs.Left.{Beside, TablesAsFound, LeavesTables, LeavesAsFound, LeavesOpening, LeavesStore, LeavesUnclosed, IsMadeBy, data_left}
use Rattle.fuse_store_files.specs.Databases.{FilesHave, IsToOpen, IsToMake, IsToChange, OpensOwn, KeepsFound, FilesHaveProfile, FailsOver, LeavesOnce}
use Rattle.fuse_store_files.specs.declared.left.CrashedFiles.{CrashedFiles}
use Rattle.fuse_store_files.specs.Crashing.{left_image}
use Rattle.fuse_store_files.specs.Restarting.{LeavesCrashed}
use Rattle.fuse_store_files.specs.inner.Opened.{OpensOver, LeavesMade, IsNotOpened}
use Rattle.fuse_store_files.proofs.Finding.{holds_one, holds_more}
use Rattle.fuse_store_files.proofs.Plain.{from_own, profile_is, stays_over}
use Rattle.fuse_store_files.proofs.Nothing.{found_nothing}

-- ---- of a database that an open found

module _ (image : Image) (s : State) (opens : Opens s) (live : IsLive s) (finds : FindsIn image s) where
  -- what the files hold is found
  pub same_trees : (P : Trees → Type 0) (held : HoldSome P image) → s.committed.trees ≡ held.trees
  same_trees P held = ∥∥₁_elim held.held (Trees-set _ _) (λ it. finds.holds held.trees it)

  empty : HoldNothing image → IsEmpty s.committed.trees
  empty (inl nothing) = found_nothing image s.committed.trees nothing finds.reads
  empty (inr held) = subst IsEmpty (sym (same_trees IsEmpty held)) held.so

  pub blank : HoldNothing image → IsBlank s
  blank nothing =
      let none = (empty nothing).1 in
      let sound = (live opens.is_open).1 in
      let listed = lists_once (s.committed.trees catalog_tree) s.committed.schema no_schema sound.lists (empty_is_sound s.committed.trees none).lists in
      (opens.autocommit, ap (λ (d : Database). d.schema) opens.clean ∙ listed)

  -- the rows that the files hold are found
  pub rests : (c : Content) → FilesHoldRows image c → RestsAs (IsStored c) s
  rests c held =
      let (d, at, same) = held.so in
      let found = same_trees _ held in
      let sound : IsDatabase d = elim at [
        | inl whole ↦ elim whole [ inl first ↦ first.holds.0.sound | inr second ↦ second.holds.sound ]
        | inr unindexed ↦ unindexed.holds.0.sound
      ] in
      let listed = lists_once (d.trees catalog_tree) d.schema s.committed.schema sound.lists
      (subst (λ (t : Trees). Lists (t catalog_tree) s.committed.schema) (found ∙ sym same) (live opens.is_open).1.lists) in
      let whole : d ≡ s.committed = ap₂ (λ (x : Schema) (t : Trees). let e : Database = record { schema = x; trees = t } in e) listed (same ∙ sym found) in
      record {
        is_open = opens.is_open;
        autocommit = opens.autocommit;
        holds = subst (IsStored c) (whole ∙ sym opens.clean) at;
        committed = sym opens.clean;
      }

  -- the database that they hold is the one that was opened
  pub found_now : (d : Database) → FilesHave image d → d ≡ s.now
  found_now d have =
      let found = same_trees (λ db. Unit {0}) (record { trees = d.trees; held = have.held; so = tt }) in
      let listed = lists_once (d.trees catalog_tree) d.schema s.committed.schema have.sound.lists
      (subst (λ (t : Trees). Lists (t catalog_tree) s.committed.schema) found (live opens.is_open).1.lists) in
      let whole : d ≡ s.committed = ap₂ (λ (x : Schema) (t : Trees). let e : Database = record { schema = x; trees = t } in e) listed (sym found) in
      whole ∙ sym opens.clean

  pub opens_own : (how : Opening) → (IsToOpen how s.now → IsTabled s.now) → (IsToOpen how s.now → (c : Content) → IsLaid c s.now → HasMeta c) → OpensOwn how image
  opens_own how tabled whole = record {
    db = s.committed;
    found = finds.reads;
    sound = (live opens.is_open).1;
    tabled = λ d have ours. let same = found_now d have in subst IsTabled (sym same) (tabled (subst (IsToOpen how) same ours));
    whole = λ d have ours c laid. let same = found_now d have in whole (subst (IsToOpen how) same ours) c (subst (IsLaid c) same laid);
  }

  pub has_profile : (how : Opening) (p : Profile) → (IsToOpen how s.now → (c : Content) → IsLaid c s.now → IsWholeOf p c) → FilesHaveProfile p how image
  has_profile how p whole d have ours c laid =
      let same = found_now d have in (whole (subst (IsToOpen how) same ours) c (subst (IsLaid c) same laid)).profile

  pub says_found : (how : Opening) (f : StoreFault) → (IsToOpen how s.now → Says s.now f) → (d : Database) → FilesHave image d → IsToOpen how d → Says d f
  says_found how f says d have ours =
      let same = found_now d have in subst (λ (x : Database). Says x f) (sym same) (says (subst (IsToOpen how) same ours))

  pub same_alone : {X : Type 0} (how : Opening) → (IsToOpen how s.now → ¬ (IsToChange how s.now) → X) → (d : Database) → FilesHave image d → IsToOpen how d
      → ¬ (IsToChange how d) → X
  same_alone how alone d have ours not =
      let same = found_now d have in alone (subst (IsToOpen how) same ours) (λ change. not (subst (IsToChange how) (sym same) change))

-- ---- of a store that an open found

-- the store has of its data file what was found beside the database
abbrev pub Sees : StoreImage → StoreState → Type 0
Sees it s = (z : Stored) → FilesHold it z → (db : Trees) → LeftAs (StoredFor it.contents z) db → LeftAs (StoredFor (seen_of z s) z) db

module _ (it : StoreImage) (s : StoreState) (opens : Opens s.tables) (live : IsLive s.tables) (finds : FindsIn it.tables s.tables) (sees : Sees it s) where
  pub was_for : (z : Stored) → FilesHold it z → WasFor z s
  was_for z held = (
    opens.is_open,
    opens.autocommit,
    subst (LeftAs (StoredFor (seen_of z s) z)) (sym (same_trees it.tables s.tables opens live finds _ held)) (sees z held held.trees held.so),
  )

  blank_now : HoldNothing it.tables → IsBlank s.tables
  blank_now = blank it.tables s.tables opens live finds

  -- the store that stands so
  stored : (P : Rows → Records → Type 0) (held : HoldSome (TreesTell P it.contents) it.tables) → FilesHold it held.so.store
  stored P held = record { trees = held.trees; held = held.held; so = held.so.left }

  pub keeps : (p : Profile) (how : Opening) (k : KeeperState (tree_of p)) → OpensOver p how s k → (z : Stored) → FilesHold it z → KeepsStore p how z k
  keeps p how k over z held = over.keeps z (was_for z held)

  pub opens_as : (p : Profile) (how : Opening) (k : KeeperState (tree_of p)) → OpensOver p how s k → OpensAs p how it k
  opens_as p (Existing n) k over = (
    λ at held.
        let z = held.so.store in
        record { rows = rowed (opened_for z).tree; records = records_of (opened_for z).kept; held = (keeps p (Existing n) k over z (stored _ held)).held; stands = held.so.so },
    λ nothing. over.makes (blank_now nothing) opens.is_open,
  )
  opens_as p (Any new) k over = (
    λ at held.
        let z = held.so.store in
        record { rows = rowed (opened_for z).tree; records = records_of (opened_for z).kept; held = (keeps p (Any new) k over z (stored _ held)).held; stands = held.so.so },
    λ nothing. over.makes (blank_now nothing) opens.is_open,
  )
  opens_as p (Fresh new) k over = (
    λ at held. over.begins held.so.store (was_for held.so.store (stored _ held)) at.state at.history at.settled held.so.so,
    λ nothing. over.makes (blank_now nothing) opens.is_open,
  )

  module _ {E : Type 0} (h : Ghosts E) (tables : State) (disk : Option E) where
    abbrev after : StoreState
    after = record { tables = tables; contents = disk_in h disk }

    over_left : (z : Stored) (y : Holding) (db : Trees) → profile_of y.tree ≡ profile_of (opened_for z).tree → LeavesOver z after y db
        → (file : List ℕ) → data_left h it.contents disk file → LeftAs (HeldFor file y) db
    over_left z y db is over = from_own h y db (profile_of (opened_for z).tree) is disk it.contents over

    new_left : (new : NewStore) (db : Trees) → LeavesNewOver new after db
        → (file : List ℕ) → data_left h it.contents disk file → LeftAs (HeldFor file (holding_for new)) db
    new_left new db over = from_own h (holding_for new) db new.kind.profile (profile_is new.kind.profile new.kind.capacity) disk it.contents over

    pub made_by : (how : Opening) (db : Trees) → LeavesMade how s after db → (file : List ℕ) → data_left h it.contents disk file → IsMadeBy how it file db
    made_by (Existing n) db made file may = λ z held. over_left z (opened_for z) db refl (made z (was_for z held)) file may
    made_by (Any new) db made file may = (
      λ z held. over_left z (opened_for z) db refl (made.opened z (was_for z held)) file may,
      λ nothing. new_left new db (made.made (blank_now nothing) opens.is_open) file may,
    )
    made_by (Fresh new) db made file may = (
      λ z held. over_left z (begun_for z) db refl (made.begun z (was_for z held)) file may,
      λ nothing. new_left new db (made.made (blank_now nothing) opens.is_open) file may,
    )

-- ---- of an opening that failed

-- such trees, and those of another kind too
leaves_more : {D : Type 0} {g : Ghosts D} (P Q : Trees → Type 0) (image : Image) (it : FileStore D g) → ((db : Trees) → P db → Q db) → LeavesStore P image it
    → LeavesStore Q image it
leaves_more P Q image it more all = record {
  each = λ db may. more db (all.each db may);
  holds = λ numbered some left may. holds_more P Q left more (all.holds numbered some left may);
}

-- what is known of each database that the store recovers to is known of the one that a crash leaves
leaves_each : {D : Type 0} {g : Ghosts D} (P : Trees → Type 0) (image : Image) (it : FileStore D g)
    → (IsClean (view it) → HoldSome (λ db. Unit {0}) image → ∥ AreDatabases (recovers it) ∥₁) → LeavesUnclosed P it → LeavesStore P image it
leaves_each P image it sound each = record {
  each = each;
  holds = λ numbered some left may.
      holds_more (recovers it) P left each (holds_one it left may numbered (sound (no_doubt _ (clean_if_left it.pool left may)) some));
}

-- a store that was not opened recovers to what the files recover to
their_own : {D : Type 0} {g : Ghosts D} (files : Files D) (it : FileStore D g) → (IsCleanLeft (left.Store it) → LeavesFiles files (left.Store it))
    → LeavesStore (AreTheirs (image_of g files)) (image_of g files) it
their_own {g = g} files it kept =
    let image = image_of g files in
    let found : (db : Trees) → recovers it db → AreTheirs image db = λ db may.
    let one = kept (clean_if_left it.pool may.0 may.2) db may in
    record { holds = one.1; reads = one.0 } in
    leaves_each _ image it
    (λ clean some.
    ∥∥₁_map some.held (λ h.
    let sound : AreDatabases (recovers it) = λ db may. (h.2.schema, subst (IsSound h.2.schema) (sym ((found db may).holds some.trees h)) h.2.sound) in
    sound))
    found

-- what is found in files that were not opened is what they held, over the data file that was found
found_same : (it : StoreImage) (db : Trees) → AreTheirs it.tables db → (file : List ℕ) → file ≡ it.contents → AreFound it file db
found_same it db theirs file same = record {
  theirs = theirs;
  contents = λ z held.
      let at = subst (LeftAs (StoredFor it.contents z)) (sym (∥∥₁_elim held.held (Trees-set _ _) (λ x. theirs.holds held.trees x))) held.so in
      subst (λ f. LeftAs (StoredFor f z) db) (sym same) at;
}

-- a crash leaves of a data file, of which nothing else is left, just that
pub left_settled : {E : Type 0} (h : Ghosts E) (disk : Option E) → Only (disk_in h disk).seen (disk_in h disk).may_leave → (file : List ℕ)
    → data_left h (disk_in h disk).seen disk file → file ≡ (disk_in h disk).seen
left_settled h None settled file may = may
left_settled h (Some disk) settled file may = settled file may

-- what is left of files that crashed, and were not opened
pub left_crashed : {D E : Type 0} {g : Ghosts D} (h : Ghosts E) (files : CrashedFiles D E) (it : Leftover D g) → (IsCleanLeft it → LeavesFiles files.tables it)
    → (file : List ℕ) → file ≡ (disk_in h files.disk).seen → LeavesCrashed h files file it
left_crashed h files (left.Files now) kept file same = kept
left_crashed h files (left.Unopened now) kept file same = kept
left_crashed {g = g} h files (left.Store it) kept file same =
    leaves_more _ _ (image_of g files.tables) it (λ db theirs. inl (found_same (left_image g h files) db theirs file same)) (their_own files.tables it kept)

-- the trees of a connection that was opened are those that were found, as long as nothing is committed
theirs_now : {D : Type 0} {g : Ghosts D} (image : Image) (conn : Held (FileStore D g)) → SeenMayStay g → IsOpened conn → FindsIn image (file_state conn)
    → (db : Trees) → (file_state conn).may_leave db → AreTheirs image db
theirs_now image conn stays live finds db old =
    subst (AreTheirs image) (sym (settled_at conn.store stays db live.0.is_open old)) (record { holds = finds.holds; reads = finds.reads })

-- A connection to the database that was found, and its data file before the opening and after it.
module _ {D E : Type 0} {g : Ghosts D} (h : Ghosts E) (it : StoreImage) (how : Opening) (conn : Held (FileStore D g)) (stays : SeenMayStay g)
    (opened : HasCleanDisk (file_state conn) → IsOpened conn) (found : HasCleanDisk (file_state conn) → FindsIn it.tables (file_state conn))
    (new : State) (store : FileStore D g) (later : doubt new.is_clean ≤ doubt (view store).is_clean)
    (outcomes : (db : Trees) → recovers store db → new.may_leave db) (sound : IsClean (view store) → AreDatabases (recovers store)) where
  abbrev state_with : State → Option E → StoreState
  state_with s disk = record { tables = s; contents = disk_in h disk }

  -- what the data file could leave before has what the store had of it
  abbrev IsAlone : Option E → Type 0
  IsAlone disk = (z : Stored) → FilesHold it z → (db : Trees) (file : List ℕ) → (data_of z (state_with (file_state conn) disk)).may_leave file
      → LeftAs (StoredFor it.contents z) db → LeftAs (StoredFor file z) db

  abbrev KeepsData : Option E → Option E → Type 0
  KeepsData before after = (z : Stored) → FilesHold it z → (db : Trees) → (file_state conn).may_leave db
      → Follows (KeepsStored z db) (data_of z (state_with (file_state conn) before)).may_leave (data_of z (state_with new after)).may_leave

  -- the trees as they were found, over what is left of the data file
  as_found : (before after : Option E) → IsAlone before → KeepsData before after → IsOpened conn → FindsIn it.tables (file_state conn)
      → (db : Trees) → (file_state conn).may_leave db → (file : List ℕ) → data_left h it.contents after file → AreFound it file db
  as_found before after alone kept live finds db old file may =
      let theirs = theirs_now it.tables conn stays live finds db old in
      record {
        theirs = theirs;
        contents = λ z held.
            let at = subst (LeftAs (StoredFor it.contents z)) (sym (∥∥₁_elim held.held (Trees-set _ _) (λ x. theirs.holds held.trees x))) held.so in
            stays_over h z db (profile_of (opened_for z).tree) refl after it.contents
            (λ f may_f. let (b, was, keeps) = kept z held db old f may_f in keeps (alone z held db b was at)) at file may;
      }

  pub left_open : (before after : Option E) → (HasCleanDisk (file_state conn) → Sees it (state_with (file_state conn) before))
      → (HasCleanDisk (file_state conn) → IsAlone before) → (HasCleanDisk (file_state conn) → HasCleanDisk new → KeepsData before after)
      → Survives (file_state conn) new (LeavesMade how (state_with (file_state conn) before) (state_with new after))
      → LeavesOpening h how it (record { tables = left.Store store; disk = after })
  left_open before after sees alone kept survives file may = leaves_each _ it.tables store (λ clean some. ∣ sound clean ∣₁) (λ db m.
      let last : IsClean (view store) = no_doubt _ (clean_if_left store.pool m.0 m.2) in
      let clean_new : HasCleanDisk new = omega (arith, last, later) in
      let clean : HasCleanDisk (file_state conn) = omega (arith, clean_new, survives.clean) in
      let live = opened clean in
      let finds = found clean in
      elim (survives.crash clean_new db (outcomes db m)) [
        | inl old ↦ inl (as_found before after (alone clean) (kept clean clean_new) live finds db old file may)
        | inr made ↦ inr (made_by it (state_with (file_state conn) before) live.0 live.1 finds (sees clean) h new after how db made file may)
      ])

  pub left_alone : (before after : Option E) → (HasCleanDisk (file_state conn) → IsAlone before) → (HasCleanDisk (file_state conn) → HasCleanDisk new → KeepsData before after) → LeavesAlone (file_state conn) new
      → LeavesAsFound h it (record { tables = left.Store store; disk = after })
  left_alone before after alone kept same file may = leaves_each _ it.tables store (λ clean some. ∣ sound clean ∣₁) (λ db m.
      let last : IsClean (view store) = no_doubt _ (clean_if_left store.pool m.0 m.2) in
      let clean_new : HasCleanDisk new = omega (arith, last, later) in
      let clean : HasCleanDisk (file_state conn) = omega (arith, clean_new, same.survives.clean) in
      elim (same.survives.crash clean_new db (outcomes db m)) [
        | inl old ↦ as_found before after (alone clean) (kept clean clean_new) (opened clean) (found clean) db old file may
        | inr none ↦ absurd none
      ])

module _ {D : Type 0} {g : Ghosts D} (image : Image) (how : Opening) where
  pub stays_found : (it : Leftover D g) (e : Error) → IsNotOpened image it e → TablesAsFound image it
  stays_found (left.Files files) e not = not.left
  stays_found (left.Unopened files) e not = not.left
  stays_found (left.Store it) e not =
      subst (λ (i : Image). LeavesStore (AreTheirs i) i it) not.left.held (their_own not.left.files it not.left.kept)

-- what is left where no data file was opened
abbrev Unopened : {D : Type 0} {g : Ghosts D} → (StoreImage → List ℕ → Trees → Type 0) → StoreImage → Leftover D g → Type 0
Unopened P it tables = Beside (λ file. file ≡ it.contents) (λ file. LeavesTables P it file tables)

pub not_opened : {D : Type 0} {g : Ghosts D} (it : StoreImage) (how : Opening) (tables : Leftover D g) (e : Error) → IsNotOpened it.tables tables e
    → Unopened (λ f x db. AreFound f x db ⊎ IsMadeBy how f x db) it tables
not_opened it how (left.Files files) e not file may = (not.left, may)
not_opened it how (left.Unopened files) e not file may = (not.left, may)
not_opened it how (left.Store store) e not file may =
    leaves_more _ _ it.tables store (λ db theirs. inl (found_same it db theirs file may)) (stays_found it.tables how (left.Store store) e not)

pub found_unopened : {D : Type 0} {g : Ghosts D} (it : StoreImage) (how : Opening) (tables : Leftover D g) (e : Error) → IsNotOpened it.tables tables e
    → Unopened AreFound it tables
found_unopened it how (left.Files files) e not file may = (not.left, may)
found_unopened it how (left.Unopened files) e not file may = (not.left, may)
found_unopened it how (left.Store store) e not file may =
    leaves_more _ _ it.tables store (λ db theirs. found_same it db theirs file may) (stays_found it.tables how (left.Store store) e not)

outside_says : (d : Database) (f : StoreFault) → IsOutside f → Says d f
outside_says d Memory so = tt
outside_says d (Sql e) so = tt
outside_says d _ so = absurd so

-- the data file couldn't be opened, and nothing was asked of the tables
module _ {D : Type 0} {g : Ghosts D} (it : StoreImage) (how : Opening) (conn : Held (FileStore D g)) (stays : SeenMayStay g)
    (opened : HasCleanDisk (file_state conn) → IsOpened conn) (found : HasCleanDisk (file_state conn) → FindsIn it.tables (file_state conn))
    (store : FileStore D g) (later : doubt (file_state conn).is_clean ≤ doubt (view store).is_clean)
    (outcomes : (db : Trees) → recovers store db → (file_state conn).may_leave db) (sound : IsClean (view store) → AreDatabases (recovers store)) where
  theirs_left : (db : Trees) → recovers store db → AreTheirs it.tables db
  theirs_left db m =
      let last : IsClean (view store) = no_doubt _ (clean_if_left store.pool m.0 m.2) in
      let clean : HasCleanDisk (file_state conn) = omega (arith, last, later) in
      theirs_now it.tables conn stays (opened clean) (found clean) db (outcomes db m)

  pub left_unasked : Unopened AreFound it (left.Store store)
  left_unasked file may = leaves_each _ it.tables store (λ clean some. ∣ sound clean ∣₁) (λ db m. found_same it db (theirs_left db m) file may)

  pub opening_unasked : Unopened (λ f x db. AreFound f x db ⊎ IsMadeBy how f x db) it (left.Store store)
  opening_unasked file may =
      leaves_each _ it.tables store (λ clean some. ∣ sound clean ∣₁) (λ db m. inl (found_same it db (theirs_left db m) file may))

  pub fails_unasked : (f : StoreFault) → IsOutside f → FailsOver how it.tables f (left.Store store)
  fails_unasked f outside = record {
    says = λ clean d have ours. outside_says d f outside;
    alone = λ d have ours same. leaves_each _ it.tables store (λ clean some. ∣ sound clean ∣₁) theirs_left;
    once = λ d have ours a b may other. inl (theirs_left a may);
    blank = λ clean made nothing. outside;
  }

store_outside : (kind : StoreError) → IsOutside (opening_fault (store_error kind))
store_outside OutOfMemory = tt
store_outside Io = tt
store_outside Corrupt = tt
store_outside Full = tt
store_outside Broken = tt
store_outside Unstorable = tt

-- files that hold a database, or nothing, are not taken for others
pub wanting : {D : Type 0} {g : Ghosts D} (files : Files D) (it : Leftover D g) (e : Error) → FailsToOpenFiles files it e
    → ¬ ¬ (((db : Trees) × HoldsDatabase (image_of g files) db) ⊎ IsNothing (image_of g files)) → IsOutside (opening_fault e)
wanting files it e fails some = elim fails [
  | inl memory ↦ subst (λ (x : Error). IsOutside (opening_fault x)) (sym memory) tt
  | inr other ↦ elim other [
    | inl refused ↦ absurd (some refused.1)
    | inr fault ↦ elim fault [
      | inl named ↦ subst (λ (x : Error). IsOutside (opening_fault x)) (sym named.0) (store_outside _)
      | inr full ↦ subst (λ (x : Error). IsOutside (opening_fault x)) (sym full.0) tt
    ]
  ]
]

pub has_some : (image : Image) (P : Trees → Type 0) → HoldSome P image → ¬ ¬ (((db : Trees) × HoldsDatabase image db) ⊎ IsNothing image)
has_some image P held none = ∥∥₁_elim held.held (λ x. absurd x) (λ it. none (inl (held.trees, it)))

has_none : (image : Image) → HoldNothing image → ¬ ¬ (((db : Trees) × HoldsDatabase image db) ⊎ IsNothing image)
has_none image (inl nothing) none = none (inr nothing)
has_none image (inr held) none = has_some image IsEmpty held none

pub not_wanting : {D : Type 0} {g : Ghosts D} (image : Image) (it : Leftover D g) (e : Error) → IsNotOpened image it e → IsCleanLeft it
    → (P : Trees → Type 0) → HoldSome P image → IsOutside (opening_fault e)
not_wanting image it e not clean P held =
    wanting not.left.files it e (not.cause clean) (has_some _ P (subst (HoldSome P) (sym not.left.held) held))

-- ---- of any database

module _ {D : Type 0} {g : Ghosts D} (image : Image) (how : Opening) where
  unopened_once : (it : Leftover D g) (e : Error) → IsNotOpened image it e → LeavesOnce image it
  unopened_once (left.Files files) e not = not.left
  unopened_once (left.Unopened files) e not = not.left
  unopened_once (left.Store it) e not = λ a b may other. inl ((stays_found image how (left.Store it) e not).each a may)

  pub fails_unopened : (it : Leftover D g) (e : Error) → IsNotOpened image it e → FailsOver how image (opening_fault e) it
  fails_unopened it e not = record {
    says = λ clean d have ours.
        outside_says d (opening_fault e) (not_wanting image it e not clean (λ db. Unit {0}) (record { trees = d.trees; held = have.held; so = tt }));
    alone = λ d have ours same. stays_found image how it e not;
    once = λ d have ours. unopened_once it e not;
    blank = λ clean made nothing.
        wanting not.left.files it e (not.cause clean) (has_none _ (subst HoldNothing (sym not.left.held) nothing));
  }

  -- of a database that was opened, and is what the files hold
  once_left : (conn : Held (FileStore D g)) → SeenMayStay g → (HasCleanDisk (file_state conn) → IsOpened conn)
      → (HasCleanDisk (file_state conn) → FindsIn image (file_state conn)) → (new : State) (it : FileStore D g)
      → doubt (file_state conn).is_clean ≤ doubt new.is_clean → doubt new.is_clean ≤ doubt (view it).is_clean
      → ((db : Trees) → recovers it db → new.may_leave db) → (IsToOpen how (file_state conn).now → IsUndone (file_state conn) new)
      → (d : Database) → FilesHave image d → IsToOpen how d → LeavesOnce image (left.Store it)
  once_left conn stays opened found new it before later outcomes undone d have ours = λ a b may other.
      let last : IsClean (view it) = no_doubt _ (clean_if_left it.pool may.0 may.2) in
      let clean_new : HasCleanDisk new = omega (arith, last, later) in
      let clean : HasCleanDisk (file_state conn) = omega (arith, clean_new, before) in
      let live = opened clean in
      let finds = found clean in
      let theirs : (db : Trees) → (file_state conn).may_leave db → AreTheirs image db = λ db old.
      subst (AreTheirs image) (sym (settled_at conn.store stays db live.0.is_open old)) (record { holds = finds.holds; reads = finds.reads }) in
      let once = (undone (subst (IsToOpen how) (found_now image (file_state conn) live.0 live.1 finds d have) ours)).once in
      elim (once.crash clean_new a (outcomes a may)) [
        | inl old ↦ inl (theirs a old)
        | inr is ↦ elim (once.crash clean_new b (outcomes b other)) [
          | inl old ↦ inr (inl (theirs b old))
          | inr too ↦ inr (inr (is ∙ sym too))
        ]
      ]

  pub keeps_found : (conn : Held (FileStore D g)) → SeenMayStay g → IsOpened conn → FindsIn image (file_state conn) → (new : State) → HasCleanDisk new
      → (IsToOpen how (file_state conn).now → ¬ (IsToChange how (file_state conn).now) → LeavesAlone (file_state conn) new) → KeepsFound how image new
  keeps_found conn stays live finds new clean alone d have ours other db may =
      let left = same_alone image (file_state conn) live.0 live.1 finds how alone d have ours other in
      elim (left.survives.crash clean db may) [
        | inl old ↦
            settled_at conn.store stays db live.0.is_open old
            ∙ same_trees image (file_state conn) live.0 live.1 finds (λ t. Unit {0}) (record { trees = d.trees; held = have.held; so = tt })
        | inr none ↦ absurd none
      ]

  pub fails_open : (conn : Held (FileStore D g)) → SeenMayStay g → (HasCleanDisk (file_state conn) → IsOpened conn)
      → (HasCleanDisk (file_state conn) → FindsIn image (file_state conn)) → (new : State) (it : FileStore D g) (f : StoreFault)
      → doubt (file_state conn).is_clean ≤ doubt new.is_clean → doubt new.is_clean ≤ doubt (view it).is_clean
      → ((db : Trees) → recovers it db → new.may_leave db) → (IsClean (view it) → AreDatabases (recovers it))
      → (HasCleanDisk new → IsToOpen how (file_state conn).now → Says (file_state conn).now f)
      → ((file_state conn).in_transaction ≡ false → IsToOpen how (file_state conn).now → ¬ (IsToChange how (file_state conn).now) → LeavesAlone (file_state conn) new)
      → (IsToOpen how (file_state conn).now → IsUndone (file_state conn) new)
      → (IsToMake how → IsBlank (file_state conn) → IsOutside f) → FailsOver how image f (left.Store it)
  fails_open conn stays opened found new it f before later outcomes sound says alone undone outside = record {
    says = λ is_clean d have ours.
        let last = no_doubt _ is_clean in
        let clean_new : HasCleanDisk new = omega (arith, last, later) in
        let clean : HasCleanDisk (file_state conn) = omega (arith, clean_new, before) in
        let live = opened clean in
        says_found image (file_state conn) live.0 live.1 (found clean) how f (says clean_new) d have ours;
    alone = λ d have ours same. leaves_each _ image it (λ clean some. ∣ sound clean ∣₁) (λ db may.
        let last : IsClean (view it) = no_doubt _ (clean_if_left it.pool may.0 may.2) in
        let clean_new : HasCleanDisk new = omega (arith, last, later) in
        let clean : HasCleanDisk (file_state conn) = omega (arith, clean_new, before) in
        let live = opened clean in
        let finds = found clean in
        let left = same_alone image (file_state conn) live.0 live.1 finds how (alone live.0.autocommit) d have ours same in
        elim (left.survives.crash clean_new db (outcomes db may)) [
          | inl old ↦
              let committed = settled_at conn.store stays db live.0.is_open old in
              subst (AreTheirs image) (sym committed) (record { holds = finds.holds; reads = finds.reads })
          | inr none ↦ absurd none
        ]);
    once = once_left conn stays opened found new it before later outcomes undone;
    blank = λ is_clean made nothing.
        let last = no_doubt _ is_clean in
        let clean_new : HasCleanDisk new = omega (arith, last, later) in
        let clean : HasCleanDisk (file_state conn) = omega (arith, clean_new, before) in
        let live = opened clean in
        outside made (blank image (file_state conn) live.0 live.1 (found clean) nothing);
  }
