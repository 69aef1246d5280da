-- What a store has of the data file that was opened beside it, or of none.
use Rattle.std.proofs.Common.{◌≡◌, inl, inr, ℕ, Bool, true, false, List, Option, Some, None, IfSome, IsSome, IsTrue, refl, sym, ap, subst, ◌∙◌}
use Rattle.sqlite_disk.specs.declared.Disk.{Ghosts}
use Rattle.sqlite_disk.specs.Disk.{Only}
use Rattle.sqlite_wal.specs.Recovery.{Image}
use Rattle.sqlite_tied.specs.Compute.{everything}
use Rattle.sqlite.specs.Tree.{Trees}
use Rattle.sqlite.specs.Schema.{Schema}
use Rattle.sqlite.specs.Effect.{Database}
use Rattle.sqlite.specs.State.{State, IsLive, Opens}
use Rattle.sqlite.specs.Start.{FindsIn}
use Rattle.sqlite.specs.Files.{HoldsDatabase}
use Rattle.fuse_data.specs.State.{DataState}
use Rattle.fuse_data_host.specs.Found.{IsFound}
use Rattle.fuse_init.specs.declared.profile.Profile.{Profile}
use Rattle.fuse_init.specs.declared.profile.Profile.TheVariants.{Plain, Everyday}
use Rattle.fuse_rows.specs.declared.rows.Room.{Room}
use Rattle.fuse_tree.specs.State.{profile_of}
use Rattle.fuse_tree.specs.Rowed.{rowed}
use Rattle.fuse_store_tables.specs.declared.version.Layout.{Layout}
use Rattle.fuse_store_tables.specs.declared.version.Layout.TheVariants.{Third}
use Rattle.fuse_store_tables.specs.Layout.{schema_for, with_answers, with_kept}
use Rattle.fuse_store_tables.specs.Content.{LeftAs}
use Rattle.fuse_store_tree.specs.Store.{layout_for}
use Rattle.fuse_store_tree.specs.Holding.{Holding, HeldFor}
use Rattle.fuse_store_tree.specs.StoreState.{StoreState}
use Rattle.fuse_store.specs.TableState.{data_for}
use Rattle.fuse_store.specs.TableKeeper.{disk_in}
use Rattle.fuse_store.specs.Opening.{Stored, StoredFor, opened_for, data_of}
use Rattle.fuse_store.specs.Opening.Stored.{First, Second, SecondEveryday, Unindexed}
use Rattle.fuse_store_files.specs.Files.{StoreImage, FilesHold}
use Rattle.fuse_store_files.specs.declared.files.Opening.{Opening}
use Rattle.fuse_store_files.specs.declared.files.Opening.TheVariants.{Existing, Any, Fresh}
use Rattle.fuse_store_files.specs.Databases.{FilesHave, IsToOpen}
use Rattle.fuse_store_files.proofs.Opened.{has_meta, meta_is_there, not_blank}
use Rattle.fuse_store_files.specs.inner.Opened.{has_pieces}
use Rattle.fuse_store_files.proofs.Plain.{plain_left, own_left, everyday_room, room_is, stored_is_sound}
use Rattle.fuse_store_files.proofs.Found.{Sees, found_now}

third_has : has_pieces (schema_for Third) ≡ true
unfolding everything
third_has = refl

layout_third : (room : Option Room) → IsSome room → layout_for room ≡ Third
layout_third None some = let e : false ≡ true = some in absurd (cc)
layout_third (Some r) some = refl

-- a database that holds a store of version 3 has the table of pieces
second_has : (file : List ℕ) (d : Database) (y : Holding) → profile_of y.tree ≡ Everyday → HeldFor file y d → has_pieces d.schema ≡ true
second_has file d y everyday at =
    let (c, holds, described) = at.held in
    let layout = described.layout ∙ layout_third (rowed y.tree).counters.room (subst IsSome (sym (room_is y.tree)) (everyday_room y.tree everyday)) in
    ap has_pieces (holds.schema ∙ ap schema_for layout) ∙ third_has

first_has : has_meta with_answers ≡ true
unfolding everything
first_has = refl

unindexed_has : has_meta with_kept ≡ true
unfolding everything
unindexed_has = refl

-- a database that holds a store has the table `meta`
stored_has : (file : List ℕ) (z : Stored) (d : Database) → StoredFor file z d → has_meta d.schema ≡ true
stored_has file (First t records) d at = ap has_meta at.held.1.schema ∙ first_has
stored_has file (Second y) d at = let (c, holds, described) = at.held in ap has_meta holds.schema ∙ meta_is_there c.layout
stored_has file (SecondEveryday y) d at = elim at.held.1 [
  | inl holds ↦ ap has_meta holds.0.schema ∙ meta_is_there at.held.0.layout
  | inr unindexed ↦ ap has_meta unindexed.0.schema ∙ unindexed_has
]
stored_has file (Unindexed y) d at = ap has_meta at.held.1.0.schema ∙ unindexed_has

module _ (it : StoreImage) (s : State) (opens : Opens s) (live : IsLive s) (finds : FindsIn it.tables s) where
  -- the database of what the files hold is the one that was opened
  its_schema : (z : Stored) (held : FilesHold it z) → held.so.0.schema ≡ s.now.schema
  its_schema z held =
      let (d, at, same) = held.so in
      let have : FilesHave it.tables d = record { sound = stored_is_sound it.contents z d at; held = subst (λ (t : Trees). ∥ HoldsDatabase it.tables t ∥₁) (sym same) held.held } in
      ap (λ (x : Database). x.schema) (found_now it.tables s opens live finds d have)

  -- so it is to be opened, however that is asked
  pub is_to_open : (how : Opening) (z : Stored) → FilesHold it z → IsToOpen how s.now
  is_to_open (Existing n) z held = tt
  is_to_open (Any new) z held = not_blank s.now.schema (ap has_meta (sym (its_schema z held)) ∙ stored_has it.contents z held.so.0 held.so.1)
  is_to_open (Fresh new) z held = not_blank s.now.schema (ap has_meta (sym (its_schema z held)) ∙ stored_has it.contents z held.so.0 held.so.1)

  -- without the table of pieces, a store is the same over any data file
  any_file : has_pieces s.now.schema ≡ false → (z : Stored) → FilesHold it z → profile_of (opened_for z).tree ≡ Everyday → (file : List ℕ) (db : Trees)
      → LeftAs (StoredFor it.contents z) db → LeftAs (StoredFor file z) db
  any_file none (First t records) held everyday file db left = left
  any_file none (SecondEveryday y) held everyday file db left = left
  any_file none (Unindexed y) held everyday file db left = left
  any_file none (Second y) held everyday file db left =
      let has = second_has it.contents held.so.0 y everyday held.so.1 in
      let e : true ≡ false = sym has ∙ ap has_pieces (its_schema (Second y) held) ∙ none in
      absurd (cc)

  module _ {E : Type 0} (h : Ghosts E) where
    over_for : (p : Profile) (disk : Option E) → IfSome disk (IsFound h it.contents) → (disk ≡ None → has_pieces s.now.schema ≡ false)
        → (z : Stored) → FilesHold it z → profile_of (opened_for z).tree ≡ p → (file : List ℕ) → (data_for p (disk_in h disk)).may_leave file → (db : Trees)
        → LeftAs (StoredFor it.contents z) db → LeftAs (StoredFor file z) db
    over_for Plain disk found none z held is file may db left = plain_left it.contents file z db is left
    over_for Everyday None found none z held is file may db left = any_file (none refl) z held is file db left
    over_for Everyday (Some disk) found none z held is file may db left = subst (λ f. LeftAs (StoredFor f z) db) (sym (found.alone file may)) left

    pub alone_found : (disk : Option E) → IfSome disk (IsFound h it.contents) → (disk ≡ None → has_pieces s.now.schema ≡ false)
        → (z : Stored) → FilesHold it z → (db : Trees) (file : List ℕ) → (data_of z (record { tables = s; contents = disk_in h disk })).may_leave file
        → LeftAs (StoredFor it.contents z) db → LeftAs (StoredFor file z) db
    alone_found disk found none z held db file may left = over_for (profile_of (opened_for z).tree) disk found none z held refl file may db left

    sees_for : (disk : Option E) → IfSome disk (IsFound h it.contents) → (disk ≡ None → has_pieces s.now.schema ≡ false)
        → (p : Profile) → (z : Stored) → FilesHold it z → profile_of (opened_for z).tree ≡ p → (db : Trees)
        → LeftAs (StoredFor it.contents z) db → LeftAs (StoredFor (data_for p (disk_in h disk)).seen z) db
    sees_for None found none Plain z held is db left = plain_left it.contents _ z db is left
    sees_for None found none Everyday z held is db left = any_file (none refl) z held is _ db left
    sees_for (Some disk) found none p z held is db left =
        own_left z p is (disk_in h (Some disk)) db (subst (λ f. LeftAs (StoredFor f z) db) (sym found.seen) left)

    pub sees_found : (disk : Option E) → IfSome disk (IsFound h it.contents) → (disk ≡ None → has_pieces s.now.schema ≡ false)
        → Sees it (record { tables = s; contents = disk_in h disk })
    sees_found disk found none z held db left = sees_for disk found none (profile_of (opened_for z).tree) z held refl db left

-- the store has of a data file that crashed what a read returns of it
pub sees_left : {E : Type 0} (h : Ghosts E) (image : Image) (s : State) (disk : Option E)
    → Sees (record { tables = image; contents = (disk_in h disk).seen }) (record { tables = s; contents = disk_in h disk })
sees_left h image s disk z held db left = own_left z (profile_of (opened_for z).tree) refl (disk_in h disk) db left

settled_for : (p : Profile) (s : DataState) → Only s.seen s.may_leave → (z : Stored) → profile_of (opened_for z).tree ≡ p → (db : Trees) (file : List ℕ)
    → (data_for p s).may_leave file → LeftAs (StoredFor s.seen z) db → LeftAs (StoredFor file z) db
settled_for Plain s settled z is db file may left = plain_left s.seen file z db is left
settled_for Everyday s settled z is db file may left = subst (λ f. LeftAs (StoredFor f z) db) (sym (settled file may)) left

-- and a crash leaves nothing else
pub alone_left : {E : Type 0} (h : Ghosts E) (s : State) (disk : Option E) → Only (disk_in h disk).seen (disk_in h disk).may_leave → (z : Stored) (db : Trees) (file : List ℕ)
    → (data_of z (record { tables = s; contents = disk_in h disk })).may_leave file → LeftAs (StoredFor (disk_in h disk).seen z) db → LeftAs (StoredFor file z) db
alone_left h s disk settled z db file may left = settled_for (profile_of (opened_for z).tree) (disk_in h disk) settled z refl db file may left

-- how contracts see the disk that was found, for an answer that can't name it
abbrev pub found_ghosts : {E : Type 0} (h : Ghosts E) (held : List ℕ) (disk : Option E) → IfSome disk (IsFound h held) → Ghosts E
found_ghosts h held disk found = h

-- a disk that has returned what was written has done so for each store
clean_by : (p : Profile) (s : DataState) → IsTrue s.is_clean → IsTrue (data_for p s).is_clean
clean_by Plain s clean = refl
clean_by Everyday s clean = clean

pub clean_for : {E : Type 0} (h : Ghosts E) (z : Stored) (t : State) (disk : Option E) → IsTrue (disk_in h disk).is_clean
    → IsTrue (data_of z (record { tables = t; contents = disk_in h disk })).is_clean
clean_for h z t disk clean = clean_by (profile_of (opened_for z).tree) (disk_in h disk) clean
