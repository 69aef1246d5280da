-- A new store holds a new tree.
use Rattle.std.proofs.Common.{◌≡◌, ◌<◌, ◌^◌, ℕ, List, [], Option, option_map, Bool, true, false, not, cond, Some, None, Ok, Err, Result, OnOk, IsTrue, refl, sym, subst, arith, ◌∙◌, ◌==◌, ◌%◌}
use Rattle.std.specs.Prelude.{⊤}
use Rattle.sqlite.specs.Effect.{Database}
use Rattle.sqlite.specs.Schema.{Schema}
use Rattle.sqlite.specs.State.{State, HasCleanDisk, IsLive, Survives}
use Rattle.sqlite.specs.declared.error.Error.{Error}
use Rattle.sqlite.proofs.StateLemmas.{survives_weaker}
use Rattle.fuse_keeper.specs.declared.fault.StoreFault.{StoreFault}
use Rattle.fuse_keeper.specs.Faults.{fault_of}
use Rattle.fuse_rows.specs.declared.origin.Origin.{Origin}
use Rattle.fuse_init.specs.declared.profile.Profile.{Profile}
use Rattle.fuse_init.specs.declared.profile.Profile.TheVariants.{Plain, Everyday}
use Rattle.fuse_rows.specs.Bounds.{block_bytes}
use Rattle.fuse_rows.specs.declared.rows.Full.{Full}
use Rattle.fuse_tree.specs.State.{root_node, new_store as new_tree, capacity_for, profile_of}
use Rattle.fuse_rows.specs.Rows.{content_of}
use Rattle.fuse_tree.specs.Rowed.{rowed, full_of}
use Rattle.fuse_tree.specs.Laws.{NewStoreIsTree}
use Rattle.fuse_store_tables.specs.Layout.{no_schema}
use Rattle.fuse_store_tables.specs.Content.{HasWidths}
use Rattle.fuse_store_tables.specs.declared.version.Volume.{Volume}
use Rattle.fuse_store_tables.specs.Making.{IsBare, IsNew, IsVolume, layout_for, new_content, root}
use Rattle.fuse_store_tables.specs.Moves.{RestsAs, ServesAs, LeavesAlone}
use Rattle.fuse_store_tables.specs.Refusing.{HasMetaTable, IsNameTaken}
use Rattle.fuse_store_tree.specs.Pieces.{byte_at}
use Rattle.fuse_store_tree.specs.Store.{IsWrittenAs, blocks_counted, is_among}
use Rattle.fuse_store_tree.specs.inner.Reading.{Describes}
use Rattle.fuse_store_tree.specs.Holding.{HeldFor, store_of}
use Rattle.fuse_store.specs.Creating.{IsBlank, IsDataOf, IsTakenFault, LeavesNew, LeavesNewTables, new_holding, volume_for}
use Rattle.fuse_store.specs.TableKeeper.{disk_in}
use Rattle.fuse_store.specs.TableState.{data_for}
use Rattle.fuse_store.proofs.PlainFiles.{no_pieces_are}
use Rattle.fuse_store.proofs.Mounted.{pieces_once}
use Rattle.std.specs.List.{AllByRecursion}
use Rattle.std.proofs.lemmas.List.Elements.{All-nil}
use Rattle.sqlite_disk.specs.Disk.{Only}
use Rattle.sqlite_disk.specs.declared.Disk.{Ghosts as DiskGhosts}
use Rattle.fuse_data.specs.declared.data_file.DataFile.{DataFile}
use Rattle.fuse_data.specs.declared.gaps.Gap.{Gap}
use Rattle.fuse_data.specs.Header.{HasHeader}
use Rattle.fuse_data.specs.State.{state_in}
use Rattle.fuse_data.specs.Space.{InUse, AllInUse}
use Rattle.fuse_store_tables.specs.Content.{Content, Holds}
use Rattle.fuse_store_tree.specs.Fits.{KeepsPiece}
use Rattle.fuse_store_tree.specs.Leaving.{ListsInUse}
use Rattle.fuse_store_tree.specs.Pieces.{extents_of}
use Rattle.fuse_store_tree.specs.StoreState.{StoreState, IsAtRest}
use Rattle.fuse_store.proofs.Retelling.{Retold}

no_bytes : (f : Full) (i j : ℕ) → f.content.bytes ≡ [] → (b : Bool) → byte_at [] i ≡ byte_at (content_of (cond b (Some f) None)) j
no_bytes f i j none true = rw none refl
no_bytes f i j none false = refl

-- a node without written blocks, or one that counts none
none_written : (f : Full) (k : ℕ) → IsWrittenAs false (option_map is_among f.content.blocks) k → (b : Bool)
    → IsWrittenAs false (option_map is_among (blocks_counted (cond b (Some f) None))) k
none_written f k told true = told
none_written f k told false = tt

new_told : (p : Profile) (volume : Volume) (from : Origin) (file : List ℕ) → IsVolume volume → HasWidths (root (layout_for (volume_for p volume)) from)
    → IsDataOf p volume.number file
    → Describes (store_of (new_holding p volume.capacity from)) file (new_content (volume_for p volume) from)
unfolding rowed
new_told Plain volume from file fits low has = record {
  number = 0;
  layout = refl;
  counters = refl;
  nodes = refl;
  entries = refl;
  handles = refl;
  answers = refl;
  lots = refl;
  kept = refl;
  attributes = refl;
  bytes = λ node i. no_bytes (full_of (new_tree Plain volume.capacity from) (root_node (capacity_for Plain volume.capacity) from)) (i % block_bytes) i refl (1 == node);
  within = tt;
  written = λ node k. none_written (full_of (new_tree Plain volume.capacity from) (root_node (capacity_for Plain volume.capacity) from)) k tt (1 == node);
  pieces_within = tt;
  pieces = no_pieces_are file;
  owned = tt;
  header = λ some. absurd (let e = some in cc);
  settings = record { minor = omega arith; readahead = omega arith; flags = omega arith };
  fits = record {
    nodes = (record { node = omega arith; widths = low; count = refl }, tt);
    entries = tt;
    handles = tt;
    blocks = tt;
    kept = tt;
    pieces = tt;
    no_pieces = λ is. refl;
  };
}
new_told Everyday volume from file fits low has = record {
  number = volume.number;
  layout = refl;
  counters = refl;
  nodes = refl;
  entries = refl;
  handles = refl;
  answers = refl;
  lots = refl;
  kept = refl;
  attributes = refl;
  bytes = λ node i. no_bytes (full_of (new_tree Everyday volume.capacity from) (root_node (capacity_for Everyday volume.capacity) from)) (i % block_bytes) i refl (1 == node);
  within = tt;
  written = λ node k. none_written (full_of (new_tree Everyday volume.capacity from) (root_node (capacity_for Everyday volume.capacity) from)) k refl (1 == node);
  pieces_within = tt;
  pieces = no_pieces_are file;
  owned = tt;
  header = λ some. (has, fits.number);
  settings = record { minor = omega arith; readahead = omega arith; flags = omega arith };
  fits = record {
    nodes = (record { node = omega arith; widths = low; count = refl }, tt);
    entries = tt;
    handles = tt;
    blocks = tt;
    kept = tt;
    pieces = tt;
    no_pieces = λ is. refl;
  };
}

pub made_new : NewStoreIsTree → (p : Profile) (volume : Volume) (from : Origin) (file : List ℕ) → IsVolume volume
    → HasWidths (root (layout_for (volume_for p volume)) from) → IsDataOf p volume.number file → (z : ⊤) (d : Database) → IsBare no_schema z d
    → Retold (IsBare no_schema) (IsNew (volume_for p volume) from) (IsBare no_schema) (λ _. HeldFor file (new_holding p volume.capacity from)) z d
made_new is_tree p volume from file fits low has z d at = record {
  content = z;
  holds = at;
  same = λ e k. k;
  made = λ e k. record {
    tree = is_tree p volume.capacity from fits.capacity;
    below = tt;
    next = omega arith;
    held = (new_content (volume_for p volume) from, k.holds, new_told p volume from file fits low has);
  };
}

-- it is of its profile
pub new_profile : (p : Profile) (capacity : ℕ) (from : Origin) → profile_of (new_tree p capacity from) ≡ p
new_profile Plain capacity from = refl
new_profile Everyday capacity from = refl

pub no_transaction : (m : Bool) → true ≡ not m → m ≡ false
no_transaction false value = refl
no_transaction true value = absurd cc

-- nothing was made in it
pub is_blank : (s : State) (schema : Schema) → true ≡ not s.in_transaction → schema ≡ s.now.schema → schema ≡ no_schema → IsBlank s
is_blank s schema outside is empty = (no_transaction s.in_transaction outside, sym is ∙ empty)

pub known_ok : {X E P : Type 0} (r : Result X E) → P → OnOk r P
known_ok (Ok x) known = known
known_ok (Err e) known = tt

pub in_one : {X : Type 0} (m : Bool) → false ≡ not m → m ≡ false → X
in_one false value none = absurd cc
in_one true value none = absurd cc

-- an open database without a transaction, whose schema is empty
pub was_bare : (s : State) (schema : Schema) → true ≡ not s.in_transaction → (IsTrue s.is_open → s.now ≡ s.committed) → IsLive s → schema ≡ s.now.schema
    → schema ≡ no_schema → IsTrue s.is_open → RestsAs (IsBare no_schema tt) s
was_bare s schema outside settled live is empty is_open = record {
  is_open = is_open;
  autocommit = no_transaction s.in_transaction outside;
  holds = record { schema = sym is ∙ empty; sound = (live is_open).0; rows = tt };
  committed = sym (settled is_open);
}

-- what went well made this of a database that was open, over any such data file
pub made_over : {X E : Type 0} (N : List ℕ → Type 0) (Q : List ℕ → Database → Type 0) (a b : State) (r : Result X E)
    → ((file : List ℕ) → N file → ServesAs (IsBare no_schema) (λ _. Q file) a b r) → (IsTrue a.is_open → RestsAs (IsBare no_schema tt) a) → HasCleanDisk b
    → OnOk r (IsTrue a.is_open → (file : List ℕ) → N file → RestsAs (Q file) b)
made_over N Q a b (Ok x) p bare clean = λ is_open file n. (p file n).done clean tt (bare is_open)
made_over N Q a b (Err e) p bare clean = tt

-- ---- a database that is not blank

-- what was left alone serves, as nothing was made
pub alone_serves : {X : Type 0} (P Q : ⊤ → Database → Type 0) (a b : State) (f : StoreFault) → LeavesAlone a b → ServesAs {X = X} P Q a b (Err f)
alone_serves P Q a b f left = record {
  survives = survives_weaker a b _ _ (λ _ db none. absurd none) left.survives;
  kept = λ clean is_open z at.
      let same = left.same clean is_open in
      record {
        is_open = is_open;
        autocommit = left.autocommit clean;
        holds = subst (P z) (sym (same.2 ∙ same.1 ∙ at.committed)) at.holds;
        committed = sym same.2;
      };
  done = tt;
}

-- an empty schema has no table
pub none_there : {X : Type 0} (s : Schema) → s ≡ no_schema → HasMetaTable s → X
none_there s is has = absurd (let there = (subst HasMetaTable is has).table in cc)

-- a fault that SQLite gave
pub gave : (e : Error) (f : StoreFault) → f ≡ fault_of e → IsNameTaken e → IsTakenFault f
gave e f is taken = (e, is, taken)

-- ---- with its data file

-- a content without pieces lists none
pub lists_none : (gaps : List Gap) (c : Content) (d : Database) → Holds c d → c.pieces ≡ [] → ListsInUse gaps d
lists_none gaps c d at none = λ k held fits.
    let same = pieces_once c k d at held (subst (AllByRecursion KeepsPiece) (sym none) tt) fits.pieces (λ second. none) fits.no_pieces in
    subst (λ ps. AllInUse gaps (extents_of ps)) (sym none ∙ same) (All-nil (InUse gaps))

no_pieces_new : (volume : Option Volume) (from : Origin) → (new_content volume from).pieces ≡ []
no_pieces_new None from = refl
no_pieces_new (Some volume) from = refl

-- a new store lists none
pub lists_new : {X E : Type 0} (volume : Option Volume) (from : Origin) (a b : State) (r : Result X E) → ServesAs (IsBare no_schema) (IsNew volume from) a b r
    → (IsTrue a.is_open → RestsAs (IsBare no_schema tt) a) → HasCleanDisk b → OnOk r (IsTrue a.is_open → (gaps : List Gap) → ListsInUse gaps b.now)
lists_new volume from a b (Ok x) serves bare clean = λ is_open gaps.
    let now = serves.done clean tt (bare is_open) in
    lists_none gaps (new_content volume from) b.now now.holds.holds (no_pieces_new volume from)
lists_new volume from a b (Err e) serves bare clean = tt

pub new_at_rest : (p : Profile) (volume : Volume) (from : Origin) (s : StoreState)
    → RestsAs (HeldFor s.contents.seen (new_holding p volume.capacity from)) s.tables → IsTrue s.contents.is_usable → Only s.contents.seen s.contents.may_leave
    → ListsInUse s.contents.gaps s.tables.now → IsAtRest None (new_holding p volume.capacity from) s
new_at_rest p volume from s at usable synced in_use = record {
  rests = record { is_open = at.is_open; autocommit = at.autocommit; holds = (at.holds, tt); committed = at.committed };
  usable = usable;
  in_use = in_use;
  synced = synced;
}

-- a crash leaves of a data file that was made and synced nothing but the data file of this store
data_left : {D : Type 0} (h : DiskGhosts D) (p : Profile) (number : ℕ) (file : Option (DataFile D)) → IsDataOf p number (state_in h file).seen
    → Only (state_in h file).seen (state_in h file).may_leave → (content : List ℕ)
    → (data_for p (disk_in h (option_map (λ f. f.disk) file))).may_leave content → IsDataOf p number content
data_left h Plain number file made only content may = tt
data_left h Everyday number None made only content may = subst (HasHeader number) (sym may) made
data_left h Everyday number (Some f) made only content may = subst (HasHeader number) (sym (only content may)) made

-- of a store that was not made, over that data file
pub left_new : {D : Type 0} (h : DiskGhosts D) (p : Profile) (volume : Volume) (from : Origin) (a : StoreState) (b : State) (file : Option (DataFile D)) (disk : Option D)
    → disk ≡ option_map (λ f. f.disk) file → IsDataOf p volume.number (state_in h file).seen → Only (state_in h file).seen (state_in h file).may_leave
    → Survives a.tables b (LeavesNewTables p volume from a.tables)
    → Survives a.tables b (LeavesNew p volume.capacity from a (record { tables = b; contents = disk_in h disk }))
left_new h p volume from a b file disk is made only crash =
    survives_weaker a.tables b _ _
    (λ clean db left. (
      left.blank,
      λ is_open content may.
          left.trees is_open content (data_left h p volume.number file made only content (subst (λ d. (data_for p (disk_in h d)).may_leave content) is may)),
    )) crash
