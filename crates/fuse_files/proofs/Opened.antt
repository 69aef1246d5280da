-- Bytes that were read are opened as files in memory.
use Rattle.std.proofs.Common.{◌≡◌, ◌∙◌, ℕ, List, [], Option, Some, None, IsSome, option_map, Bool, true, false, inl, inr, refl, sym, ap, subst, ap₂}
use Rattle.std.specs.Prelude.{Result, Ok, Err, IfErr, IsErrAnd}
use Rattle.std.proofs.Math.Logic.{∥∥₁_elim}
use Rattle.std.proofs.KnownBytes.{Appends-nil}
use Rattle.sqlite_disk.specs.declared.Disk.{Ghosts}
use Rattle.sqlite_disk.specs.declared.Files.{Files}
use Rattle.sqlite_pool.specs.Pool.{state}
use Rattle.sqlite_trees.specs.Props.{Trees-set}
use Rattle.sqlite_trees.specs.View.{doubt}
use Rattle.sqlite_trees.specs.declared.error.StoreError.{StoreError}
use Rattle.sqlite_trees.specs.declared.error.StoreError.TheVariants.{OutOfMemory, Io, Corrupt, Full, Broken, Unstorable}
use Rattle.sqlite_wal.specs.Recovery.{Image}
use Rattle.sqlite_store.specs.declared.store.FileStore.{FileStore}
use Rattle.sqlite.specs.Effect.{Database}
use Rattle.sqlite.specs.Tree.{Trees}
use Rattle.sqlite.specs.State.{State, HasCleanDisk, IsLive, Opens, store_error}
use Rattle.sqlite.specs.Held.{Held}
use Rattle.sqlite.specs.Files.{file_state, image_of, IsCleanLeft, FailsToOpenFiles}
use Rattle.sqlite.specs.declared.error.Error.{Error}
use Rattle.sqlite.specs.declared.file.Leftover.{Leftover}
use Rattle.sqlite.specs.declared.file.Leftover.TheVariants as left
use Rattle.fuse_init.specs.declared.profile.Profile.{Profile}
use Rattle.fuse_init.specs.declared.profile.Profile.TheVariants.{Plain, Everyday}
use Rattle.fuse_init.specs.Profile.{terms}
use Rattle.fuse_data.specs.State.{DataState}
use Rattle.fuse_tree.specs.State.{State as TreeState, profile_of, used_of}
use Rattle.fuse_tree.specs.Rowed.{rowed}
use Rattle.fuse_tree.specs.Space.{room_of}
use Rattle.fuse_rows.specs.Rows.{profile_for}
use Rattle.fuse_store_tables.specs.declared.version.Layout.{Layout}
use Rattle.fuse_store_tables.specs.declared.version.Layout.TheVariants.{Third}
use Rattle.fuse_store_tables.specs.Content.{Content, Holds, LeftAs}
use Rattle.fuse_store_tree.specs.Holding.{HeldFor}
use Rattle.fuse_store_tree.specs.Store.{layout_for}
use Rattle.fuse_store_tree.specs.StoreState.{StoreState}
use Rattle.fuse_store.specs.TableState.{data_for}
use Rattle.fuse_store.specs.Opening.Stored.{First, Second, SecondEveryday, Unindexed}
use Rattle.fuse_store.specs.inner.Leaving.{stored_left}
use Rattle.fuse_files.specs.inner.Showing.{is_third, WasInside}
use Rattle.fuse_store.specs.Creating.{IsBlank}
use Rattle.fuse_store.specs.Opening.{Stored, StoredFor, WasFor, opened_for}
use Rattle.fuse_store.specs.Storing.{opening_fault}
use Rattle.fuse_store_files.specs.Files.{StoreImage, FilesHold, PlainOverAny, AreTheirs}
use Rattle.fuse_tree.specs.declared.look.LookFault.TheVariants.{Failed}
use Rattle.fuse_show.specs.declared.fault.ShowFault.TheVariants.{Look}
use Rattle.fuse_commands.specs.declared.ending.Ending.{Ending}
use Rattle.fuse_commands.specs.Endings.{store_ending}
use Rattle.fuse_files.specs.StoreSimulations.{FindsBlank}
use Rattle.fuse_files.specs.StoreShown.{SaysNothing, SaysSo, Shows, SaysTrue, IsUnopened}
use Rattle.fuse_files.proofs.Summed.{nothing_summed}
use Rattle.fuse_files.specs.declared.showing.Show.{Show}
use Rattle.fuse_files.specs.declared.showing.Show.TheVariants as show

-- ---- on disks that always return what was written

module _ {D : Type 0} {g : Ghosts D} (clean : (m : D) → g.is_clean m ≡ true) where
  pub clean_left : (it : Leftover D g) → IsCleanLeft it
  unfolding state
  clean_left (left.Files files) = rw (clean files.log, clean files.db) refl
  clean_left (left.Unopened files) = rw (clean _, clean _) refl
  clean_left (left.Store it) = rw (clean _, clean _) refl

  pub clean_conn : (conn : Held (FileStore D g)) → HasCleanDisk (file_state conn)
  unfolding doubt state
  clean_conn conn = rw (clean _, clean _) refl

-- ---- files that are not opened

store_nothing : (kind : StoreError) → SaysNothing (store_ending (opening_fault (store_error kind)))
store_nothing OutOfMemory = tt
store_nothing Io = tt
store_nothing Corrupt = tt
store_nothing Full = tt
store_nothing Broken = tt
store_nothing Unstorable = tt

says_of : (e x : Error) → e ≡ x → SaysNothing (store_ending (opening_fault x)) → SaysNothing (store_ending (opening_fault e))
says_of e x same so = subst (λ (y : Error). SaysNothing (store_ending (opening_fault y))) (sym same) so

not_opened : {D : Type 0} {g : Ghosts D} (files : Files D) (it : Leftover D g) (e : Error) → FailsToOpenFiles files it e
    → IsUnopened (image_of g files) (store_ending (opening_fault e))
not_opened {g = g} files it e fails = elim fails [
  | inl memory ↦ inl (says_of e _ memory tt)
  | inr other ↦ elim other [
    | inl refused ↦ elim refused.0 [
      | inl odd ↦
          subst (λ (y : Error). IsUnopened (image_of g files) (store_ending (opening_fault y))) (sym odd)
          (inr (refl, (λ db it. refused.1 (inl (db, it))), λ none. refused.1 (inr none)))
      | inr corrupt ↦ inl (says_of e _ corrupt tt)
    ]
    | inr fault ↦ elim fault [ inl named ↦ inl (says_of e _ named.0 (store_nothing _)) | inr full ↦ inl (says_of e _ full.0 tt) ]
  ]
]

pub not_opened_in : {D X : Type 0} {g : Ghosts D} → ((m : D) → g.is_clean m ≡ true) → (files : Files D) (r : Result X (Error × Leftover D g)) (e : Error)
    → IfErr r (λ p. IsCleanLeft p.1 → FailsToOpenFiles files p.1 p.0) → IsErrAnd r (λ p. p.0 ≡ e)
    → IsUnopened (image_of g files) (store_ending (opening_fault e))
not_opened_in clean files (Ok x) e fails is = absurd is
not_opened_in {g = g} clean files (Err p) e fails is =
    subst (λ (y : Error). IsUnopened (image_of g files) (store_ending (opening_fault y))) is (not_opened files p.1 p.0 (fails (clean_left clean p.1)))

pub same_image : (log log' db db' : List ℕ) → log ≡ log' → db ≡ db'
    → (let i : Image = record { log = log; db = db } in i) ≡ (let i : Image = record { log = log'; db = db' } in i)
same_image log log' db db' p q = ap₂ (λ (l d : List ℕ). let i : Image = record { log = l; db = d } in i) p q

-- ---- files that hold a store

-- an everyday store has the tables of version 3
some_mapped : {A B : Type 0} (f : A → B) (bound : Option A) → profile_for bound ≡ Everyday → IsSome (option_map f bound)
some_mapped f None everyday = let e : Plain ≡ Everyday = everyday in absurd (cc)
some_mapped f (Some a) everyday = refl

third_of : (s : TreeState) (bound : _) → bound ≡ room_of s → IsSome bound → layout_for bound ≡ Third
third_of s None is some = let e : false ≡ true = some in absurd (cc)
third_of s (Some r) is some = refl

everyday_third : (s : TreeState) → profile_of s ≡ Everyday → layout_for (rowed s).counters.room ≡ Third
unfolding rowed
everyday_third s everyday = third_of s (room_of s) refl (some_mapped (λ k. record { capacity = k; used = used_of s }) s.capacity everyday)

-- what lies beside the database is the data file of the store that the files hold: a plain one is the same over any
own_data : PlainOverAny → (p : Profile) (c : DataState) (z : Stored) (db : Trees) → profile_of (opened_for z).tree ≡ p → LeftAs (StoredFor c.seen z) db
    → LeftAs (StoredFor (data_for p c).seen z) db
own_data plain Plain c z db is (d, at, same) = (d, plain c.seen [] z d is at, same)
own_data plain Everyday c z db is left = left

-- one whose contents lie in its tables is the same over any data file
any_data : PlainOverAny → (z : Stored) (d : Database) (old new : List ℕ) → ((c : Content) → Holds c d → is_third c.layout ≡ false) → StoredFor old z d
    → StoredFor new z d
any_data plain (First s records) d old new inside at = at
any_data plain (Unindexed y) d old new inside at = at
any_data plain (SecondEveryday y) d old new inside at = at
any_data plain (Second y) d old new inside at = by (profile_of y.tree) refl
  where
    by : (p : Profile) → profile_of y.tree ≡ p → HeldFor new y d
    by Plain is = plain old new (Second y) d is at
    by Everyday is =
        let (c, holds, described) = at.held in
        let third = ap is_third (described.layout ∙ everyday_third y.tree is) in
        let e : true ≡ false = sym third ∙ inside c holds in
        absurd (cc)

module _ (it : StoreImage) (z : Stored) (held : FilesHold it z) where
  -- it is found
  pub found_left : (s : State) → AreTheirs it.tables s.committed.trees → LeftAs (StoredFor it.contents z) s.committed.trees
  found_left s theirs =
      let same = ∥∥₁_elim held.held (Trees-set _ _) (λ x. theirs.holds held.trees x) in
      subst (LeftAs (StoredFor it.contents z)) (sym same) held.so

  pub was_for : PlainOverAny → (s : StoreState) → Opens s.tables → AreTheirs it.tables s.tables.committed.trees → it.contents ≡ s.contents.seen → WasFor z s
  was_for plain s opens theirs same = (
    opens.is_open,
    opens.autocommit,
    own_data plain (profile_of (opened_for z).tree) s.contents z s.tables.committed.trees refl
        (subst (λ f. LeftAs (StoredFor f z) s.tables.committed.trees) same (found_left s.tables theirs)),
  )

  -- over any data file, where its contents lie in its tables
  pub was_inside : PlainOverAny → (s : State) → Opens s → IsLive s → AreTheirs it.tables s.committed.trees
      → ((c : Content) → Holds c s.now → is_third c.layout ≡ false) → WasInside z s
  was_inside plain s opens live theirs inside =
      let at = stored_left it.contents z s.committed (live opens.is_open).1 (found_left s theirs) in
      let told = subst (λ (d : Database). (c : Content) → Holds c d → is_third c.layout ≡ false) opens.clean inside in
      (opens.is_open, opens.autocommit, λ file. (s.committed, any_data plain z s.committed it.contents file told at, refl))

  -- or the ending says nothing of it
  pub says_nothing : (e : Ending) → IsUnopened it.tables e → SaysNothing e
  says_nothing e (inl so) = so
  says_nothing e (inr none) = absurd (∥∥₁_elim held.held (λ x. absurd x) (λ x. none.1 held.trees x))

-- the test whether contents lie beside the tables
pub inside_of : (d : Database) (b : Bool) → ((c : Content) → Holds c d → b ≡ is_third c.layout) → b ≡ false → (c : Content) → Holds c d → is_third c.layout ≡ false
inside_of d b told is c holds = sym (told c holds) ∙ is

-- an ending that says nothing of the store is that of a look that failed
pub stopped : (what : Show) (z : Stored) (now : Option (List ℕ)) (e : Ending) → SaysNothing e → Shows what z now now e
stopped show.Summary z now e so = nothing_summed z now e so
stopped (show.Directory path) z now e so = record { shown = Err (Look Failed); bytes = []; written = Appends-nil now; lists = inl refl; ends = so }
stopped (show.File path) z now e so = record { shown = Err (Look Failed); bytes = []; written = Appends-nil now; prints = inl refl; ends = so }

-- what is said of the database is said of the files
pub says_true : (image : Image) (s : State) (e : Ending) → Opens s → IsLive s → AreTheirs image s.committed.trees → SaysSo s.now e → SaysTrue image e
says_true image s e opens live theirs says = record {
  database = s.now;
  sound = (live opens.is_open).0;
  theirs = subst (λ (d : Database). AreTheirs image d.trees) (sym opens.clean) theirs;
  says = says;
}

-- and of a blank one
pub finds_blank : (image : Image) (s : State) → Opens s → IsLive s → AreTheirs image s.committed.trees → IsBlank s → FindsBlank image
finds_blank image s opens live theirs blank = record {
  database = s.now;
  sound = (live opens.is_open).0;
  theirs = subst (λ (d : Database). AreTheirs image d.trees) (sym opens.clean) theirs;
  blank = blank.1;
}
