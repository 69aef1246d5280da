-- A store at rest over a database and a data file, and what a transaction of a group leaves of it.
use Rattle.std.proofs.Common.{◌≡◌, ◌⊎◌, ◌≤◌, ℕ, List, [], Bool, true, false, Option, None, Result, Ok, Err, IfOk, OnOk, OnErr, inl, inr, refl, sym, ap, subst, arith, ◌∙◌}
use Rattle.std.specs.Prelude.{◌||◌, IsTrue, length}
use Rattle.std.specs.List.{All}
use Rattle.sqlite.specs.Tree.{Trees}
use Rattle.sqlite.specs.Effect.{Database}
use Rattle.sqlite.specs.State.{State, HasCleanDisk, Survives}
use Rattle.sqlite.proofs.StateLemmas.{survives_weaker}
use Rattle.sqlite_disk.specs.Disk.{Follows, Only}
use Rattle.fuse_data.specs.declared.extent.Extent.{Extent}
use Rattle.fuse_data.specs.declared.gaps.Gap.{Gap}
use Rattle.fuse_data.specs.Extents.{IsWhole, IsKept}
use Rattle.fuse_data.specs.Space.{InUse, AllInUse}
use Rattle.fuse_data.specs.Leaving.{KeepsInUse}
use Rattle.fuse_data.specs.State.{DataState}
use Rattle.fuse_tree.specs.Rowed.{rowed}
use Rattle.fuse_keeper.specs.declared.fault.StoreFault.{StoreFault}
use Rattle.fuse_store_tables.specs.declared.version.Layout.{Layout}
use Rattle.fuse_store_tables.specs.declared.version.Layout.TheVariants.{Second, Third}
use Rattle.fuse_store_tables.specs.Layout.{schema_for}
use Rattle.fuse_store_tables.specs.Pieces.{Piece}
use Rattle.fuse_store_tables.specs.Content.{Content, Holds, LeftAs}
use Rattle.fuse_store_tables.specs.Moves.{RestsAs, ServesAs, Undoes, Takes, Stays, StaysOpen, LeavesAlone, IsSafe}
use Rattle.fuse_store_tables.specs.inner.Following.{earlier}
use Rattle.fuse_store_tables.specs.inner.Performing.{CommitsNothing, TransactsAs}
use Rattle.fuse_store_tables.specs.inner.Transaction.{undone}
use Rattle.fuse_store_tree.specs.declared.meta.Meta.{Meta}
use Rattle.fuse_store_tree.specs.declared.store_data.Written.{Written}
use Rattle.fuse_store_tree.specs.Fits.{Fits}
use Rattle.fuse_store_tree.specs.Pieces.{File, ReadsData, extents_of}
use Rattle.fuse_store_tree.specs.Holding.{Holding, HeldFor}
use Rattle.fuse_store_tree.specs.Knowing.{Knows, HeldForKnown, ReportsKnown, IsSafeKnown}
use Rattle.fuse_store_tree.specs.Leaving.{ListsInUse}
use Rattle.fuse_store_tree.specs.StoreState.{StoreState, IsHonest, IsUsable, IsAtRest, LeavesEither, ServesStore, ReportsStore, IsSafeStore, IsSoundStore, StaysUsable}
use Rattle.fuse_store_tree.specs.Viewing.{is_hidden, shown}
use Rattle.fuse_store_tree.specs.inner.Preparing.{WritesAside, SyncsData, SyncsOnce}
use Rattle.fuse_store_tree.specs.inner.Moving.{AddsTo}
use Rattle.fuse_store_tree.specs.inner.Over.{TurnedOver}
use Rattle.fuse_store_tree.specs.inner.Transacting.{HeldForSynced, HeldForStill, SyncedIf, TransactsAside, WritesOn}
use Rattle.fuse_store_tree.proofs.Asides.{aside_view, kept_itself, kept_then}
use Rattle.fuse_store_tree.proofs.Decoding.{same_pieces}
use Rattle.fuse_store_tree.proofs.Tabled.{pieces_stored}
use Rattle.fuse_store_tree.proofs.FreeBlocks.{holds_nothing}
use Rattle.fuse_store_tree.proofs.Views.{IsOpen, whole_view, view_whole, view_same, open_same, header_shown, header_there, in_use_open, whole_in_use, first_open}

-- ---- what may be listed of the data file

-- where nothing is held back, what is in use may be listed
pub view_keeps : (gaps : List Gap) (file : List ℕ) → KeepsInUse gaps file (shown gaps [] file)
view_keeps gaps file = record {
  header = λ store had. header_shown (is_hidden gaps []) file (first_open gaps []) store had;
  extents = λ e used whole.
      let reach = in_use_open gaps e used in
      record { whole = whole_view (is_hidden gaps []) file e reach whole; same = open_same (is_hidden gaps []) file e reach whole.within };
}

-- what may be listed is there
pub seen_keeps : (gaps : List Gap) (written : List Written) (file : List ℕ) → KeepsInUse [] (shown gaps written file) file
seen_keeps gaps written file = record {
  header = λ store had. header_there (is_hidden gaps written) file (first_open gaps written) store had;
  extents = λ e used whole. record {
    whole = view_whole (is_hidden gaps written) file e whole;
    same = sym (view_same (is_hidden gaps written) file e whole);
  };
}

none_free : (d : Database) → ListsInUse [] d
none_free d c holds fits k e low b block free = free

-- over the data file as it may be listed, and back
pub held_shown : (gaps : List Gap) (file : List ℕ) (y : Holding) (d : Database) → ListsInUse gaps d → HeldFor file y d → HeldFor (shown gaps [] file) y d
held_shown gaps file y d listed held = holds_nothing gaps file (shown gaps [] file) y d (view_keeps gaps file) listed held

pub held_more : (old new : List ℕ) (y : Holding) (d : Database) → KeepsInUse [] old new → HeldFor old y d → HeldFor new y d
held_more old new y d keeps held = holds_nothing [] old new y d keeps (none_free d) held

pub held_seen : (gaps : List Gap) (written : List Written) (file : List ℕ) (y : Holding) (d : Database) → HeldFor (shown gaps written file) y d → HeldFor file y d
held_seen gaps written file y d held = held_more (shown gaps written file) file y d (seen_keeps gaps written file) held

-- ---- the list of a database

other_schema : schema_for Second ≡ schema_for Third → ⊥
other_schema is = let long = ap (λ s. length s.tables) is in absurd (omega (arith, long))

-- all contents of a database list the same
one_list : (c k : Content) (d : Database) → Holds c d → Holds k d → Fits c → Fits k → c.pieces ≡ k.pieces
one_list c k d one two fits also = by c.layout k.layout refl refl
  where
    schemas : schema_for c.layout ≡ schema_for k.layout
    schemas = sym one.schema ∙ two.schema

    by : (l n : Layout) → c.layout ≡ l → k.layout ≡ n → c.pieces ≡ k.pieces
    by Second Second is are = fits.no_pieces is ∙ sym (also.no_pieces are)
    by Third Third is are = same_pieces c.pieces k.pieces fits.pieces also.pieces (sym (pieces_stored c d one is).0 ∙ (pieces_stored k d two are).0)
    by Second Third is are = absurd (other_schema (sym (ap schema_for is) ∙ schemas ∙ ap schema_for are))
    by Third Second is are = absurd (other_schema (sym (ap schema_for are) ∙ sym schemas ∙ ap schema_for is))

all_used : (gaps : List Gap) (written : List Written) (file : List ℕ) (es : List Extent) → All (IsWhole (shown gaps written file)) es → AllInUse gaps es
all_used gaps written file es all k e low = whole_in_use gaps written file _ (all k e low)

-- where it holds something that may be listed, no block that it lists is free
pub list_used : (gaps : List Gap) (written : List Written) (file : List ℕ) (y : Holding) (d : Database) → HeldFor (shown gaps written file) y d → ListsInUse gaps d
list_used gaps written file y d held c holds fits =
    subst (λ ps. AllInUse gaps (extents_of ps)) (one_list held.held.0 c d held.held.1 holds held.held.2.fits fits)
    (all_used gaps written file (extents_of held.held.0.pieces) held.held.2.pieces.whole)

-- ---- at rest

rests_over : (old new : List ℕ) (m : Option Meta) (y : Holding) (s : State) → KeepsInUse [] old new → RestsAs (HeldForKnown old m y) s → RestsAs (HeldForKnown new m y) s
rests_over old new m y s keeps at = record {
  is_open = at.is_open;
  autocommit = at.autocommit;
  holds = (held_more old new y s.now keeps at.holds.0, at.holds.1);
  committed = at.committed;
}

-- with what may be listed then
pub rests_shown : (m : Option Meta) (y : Holding) (s : StoreState) → IsAtRest m y s → RestsAs (HeldForKnown (shown s.contents.gaps [] s.contents.seen) m y) s.tables
rests_shown m y s at = record {
  is_open = at.rests.is_open;
  autocommit = at.rests.autocommit;
  holds = (held_shown s.contents.gaps s.contents.seen y s.tables.now at.in_use at.rests.holds.0, at.rests.holds.1);
  committed = at.rests.committed;
}

pub is_at_rest : (m : Option Meta) (y : Holding) (s : StoreState) (written : List Written) → RestsAs (HeldForKnown (shown s.contents.gaps written s.contents.seen) m y) s.tables
    → IsTrue s.contents.is_usable → Only s.contents.seen s.contents.may_leave → IsAtRest m y s
is_at_rest m y s written at usable synced = record {
  rests = rests_over (shown s.contents.gaps written s.contents.seen) s.contents.seen m y s.tables (seen_keeps s.contents.gaps written s.contents.seen) at;
  usable = usable;
  in_use = list_used s.contents.gaps written s.contents.seen y s.tables.now at.holds.0;
  synced = synced;
}

-- ---- a whole call

-- while the connection is open, a crash leaves what was committed
abbrev pub IsSettled : State → Type 0
IsSettled s = (db : Trees) → IsTrue s.is_open → s.may_leave db → db ≡ s.committed.trees

-- what was held is held over whatever a crash leaves of the data file, after free blocks of it were written
pub held_after : (m : Option Meta) (y : Holding) (old : StoreState) (now : List ℕ → Type 0) → IsAtRest m y old → Follows (KeepsInUse old.contents.gaps) old.contents.may_leave now
    → (file : List ℕ) → now file → HeldFor file y old.tables.now
held_after m y old now at follows file may =
    let (was, could, keeps) = follows file may in
    let same : was ≡ old.contents.seen = at.synced was could in
    holds_nothing old.contents.gaps old.contents.seen file y old.tables.now (subst (λ f. KeepsInUse old.contents.gaps f file) same keeps) at.in_use at.rests.holds.0

module _ (m n : Option Meta) (made : Holding → Holding) (old mid : StoreState) (first : List ℕ) (now : List Written) where
  abbrev last : List ℕ
  last = shown mid.contents.gaps now mid.contents.seen

  abbrev Before : Holding → Database → Type 0
  Before = HeldForKnown first m

  abbrev After : Holding → Database → Type 0
  After y = HeldForStill old.contents mid.contents (HeldForKnown last n (made y))

  pub begun_at : KeepsInUse [] (shown old.contents.gaps [] old.contents.seen) first → (y : Holding) → IsAtRest m y old → RestsAs (Before y) old.tables
  begun_at keeps y at = rests_over (shown old.contents.gaps [] old.contents.seen) first m y old.tables keeps (rests_shown m y old at)

  -- a crash leaves what was held, or what was made of it
  pub leaves : IsSettled old.tables → KeepsInUse [] (shown old.contents.gaps [] old.contents.seen) first
      → Follows (KeepsInUse old.contents.gaps) old.contents.may_leave mid.contents.may_leave → (b : State)
      → Survives old.tables b (λ db. (y : Holding) → RestsAs (Before y) old.tables → LeftAs (After y) db) → HasCleanDisk b
      → (y : Holding) → IsAtRest m y old → (db : Trees) → b.may_leave db → (file : List ℕ) → mid.contents.may_leave file → LeavesEither made y db file
  leaves settled keeps follows b survives clean y at db may file could = elim (survives.crash clean db may) [
    | inl before ↦ inl (
      old.tables.now,
      held_after m y old mid.contents.may_leave at follows file could,
      sym (settled db at.rests.is_open before ∙ ap (λ d. d.trees) at.rests.committed),
    )
    | inr after ↦
        let (d, (held, synced), is) = after y (begun_at keeps y at) in
        let same : file ≡ mid.contents.seen = synced at.synced file could in
        inr (d, subst (λ f. HeldFor f (made y) d) (sym same) (held_seen mid.contents.gaps now mid.contents.seen (made y) d held.0), is)
  ]

-- a call that succeeded
pub store_served : {X Y : Type 0} (m n : Option Meta) (made : Holding → Holding) (old new : StoreState) (now : List Written) (x : X) (z : Y) → IsSettled old.tables
    → TransactsAside m n made old new now (Ok x) → ServesStore {E = StoreFault} m n made old new (Ok z)
store_served m n made old new now x z settled p = record {
  honest = λ (clean, read). (earlier old.tables new.tables _ (p.performs read).survives clean, p.clean read);
  crash = λ (clean, read) y at db may file could. leaves m n made old new p.first now settled p.kept p.crash new.tables (p.performs read).survives clean y at db may file could;
  kept = tt;
  done = λ (clean, read) y at.
      let rests = (p.performs read).done clean y (begun_at m n made old new p.first now p.kept y at) in
      is_at_rest n (made y) new now (record { is_open = rests.is_open; autocommit = rests.autocommit; holds = rests.holds.0; committed = rests.committed })
      (subst IsTrue (sym p.still) at.usable) (rests.holds.1 at.synced);
}

-- one that failed, where what was begun is rolled back and the data file is synced
pub store_undone : {X Y : Type 0} (m n : Option Meta) (made : Holding → Holding) (old mid new : StoreState) (now : List Written) (e f : StoreFault) → IsSettled old.tables
    → TransactsAside {X = X} m n made old mid now (Err e) → Undoes mid.tables new.tables → SyncsOnce mid.contents new.contents
    → (IsTrue new.contents.is_usable → Only new.contents.seen new.contents.may_leave) → ServesStore {X = Y} m None made old new (Err f)
store_undone {Y = Y} m n made old mid new now e f settled p u more synced = record {
  honest = λ (clean, read). (earlier old.tables new.tables _ (serves (more.clean read)).survives clean, p.clean (more.clean read));
  crash = λ (clean, read) y at db may file could.
      leaves m n made old mid p.first now settled p.kept p.crash new.tables (serves (more.clean read)).survives clean y at db may file (more.crash file could);
  kept = λ (clean, read) (is_open, usable) y at.
      let rests = (serves (more.clean read)).kept clean is_open y (begun_at m n made old mid p.first now p.kept y at) in
      is_at_rest m y new now (subst (λ g. RestsAs (HeldForKnown (shown g now new.contents.seen) m y) new.tables) (sym more.gaps)
      (subst (λ b. RestsAs (HeldForKnown (shown mid.contents.gaps now b) m y) new.tables) (sym more.seen)
      (rests_over p.first (shown mid.contents.gaps now mid.contents.seen) m y new.tables p.grows rests))) usable (synced usable);
  done = tt;
} where
  serves : IsTrue mid.contents.is_clean → ServesAs {X = Y} {E = StoreFault} (Before m n made old mid p.first now) (After m n made old mid p.first now) old.tables new.tables (Err f)
  serves read = undone (Before m n made old mid p.first now) (After m n made old mid p.first now) old.tables mid.tables new.tables e f (p.performs read) u

-- ---- the parts of a call

transacts_weaker : {X : Type 0} (P Q R : Holding → Database → Type 0) (a b : State) (r : Result X StoreFault) → ((y : Holding) (d : Database) → Q y d → R y d)
    → TransactsAs P Q a b r → TransactsAs P R a b r
transacts_weaker P Q R a b (Ok x) f p = record {
  survives = survives_weaker a b _ _ (λ _ db left y at. let (d, held, is) = left y at in (d, f y d held, is)) p.survives;
  kept = tt;
  done = λ clean y at.
      let now = p.done clean y at in
      record { is_open = now.is_open; autocommit = now.autocommit; holds = f y b.now now.holds; committed = now.committed };
}
transacts_weaker P Q R a b (Err e) f p = record {
  survives = survives_weaker a b _ _ (λ _ db left y at. let (d, held, is) = left y at in (d, f y d held, is)) p.survives;
  kept = p.kept;
  done = tt;
}

still_of : {X : Type 0} (r : Result X StoreFault) (a b d : Bool) → b ≡ a → OnOk r (d ≡ b) → OnOk r (d ≡ a)
still_of (Ok x) a b d p q = q ∙ p
still_of (Err e) a b d p q = tt

reads_only : (old new : DataState) → ReadsData old new → Only old.seen old.may_leave → Only new.seen new.may_leave
reads_only old new p only file may = only file (p.crash file may) ∙ sym p.seen

-- a crash leaves what is read, where something was written and synced, or nothing was written
only_then : (wrote : Bool) (old begun new : DataState) → (wrote ≡ false → ReadsData old begun) → SyncedIf wrote begun new → Only old.seen old.may_leave
    → Only new.seen new.may_leave
only_then true old begun new idle only was = only.now refl
only_then false old begun new idle only was = only.still (reads_only old begun (idle refl) was)

-- what was written aside before a transaction that could write more of it and list it
pub transacts_aside : {X : Type 0} (m n : Option Meta) (made : Holding → Holding) (old new : StoreState) (begun : DataState) (was now : List Written) (wrote : Bool) (r : Result X StoreFault)
    → WritesAside old.contents begun [] was → WritesOn begun new.contents was now r → (wrote ≡ false → ReadsData old.contents begun)
    → (IsTrue new.contents.is_clean → TransactsAs (HeldForKnown (shown begun.gaps was begun.seen) m)
    (λ y. HeldForSynced wrote begun new.contents (HeldForKnown (shown new.contents.gaps now new.contents.seen) n (made y))) old.tables new.tables r)
    → TransactsAside m n made old new now r
transacts_aside m n made old new begun was now wrote r aside more idle performs = record {
  first = shown begun.gaps was begun.seen;
  kept = aside_view old.contents begun [] was aside;
  grows = more.view;
  crash = λ file may.
      let mid = more.crash file may in
      let start = aside.crash mid.0 mid.1 in
      (start.0, start.1, kept_then old.contents.gaps begun.gaps start.0 mid.0 file aside.free start.2 mid.2);
  clean = λ read. subst IsTrue aside.clean (more.clean read);
  usable = λ usable. subst IsTrue aside.usable (more.usable usable);
  still = still_of r old.contents.is_usable begun.is_usable new.contents.is_usable aside.usable more.still;
  performs = λ read. transacts_weaker (HeldForKnown (shown begun.gaps was begun.seen) m) Synced Still old.tables new.tables r
      (λ y d (held, only). (held, only_then wrote old.contents begun new.contents idle only)) (performs read);
} where
  Synced : Holding → Database → Type 0
  Synced y = HeldForSynced wrote begun new.contents (HeldForKnown (shown new.contents.gaps now new.contents.seen) n (made y))

  Still : Holding → Database → Type 0
  Still y = HeldForStill old.contents new.contents (HeldForKnown (shown new.contents.gaps now new.contents.seen) n (made y))

-- ---- facts of what was held

-- what is said of the holding before the transaction, with what may be listed when it began
pub told_store : (m : Option Meta) (old new : StoreState) (was : List Written) (P : Holding → Type 0)
    → KeepsInUse [] (shown old.contents.gaps [] old.contents.seen) (shown new.contents.gaps was new.contents.seen)
    → (IsTrue new.contents.is_clean → ReportsKnown (shown new.contents.gaps was new.contents.seen) m old.tables new.tables P) → ReportsStore m old new P
told_store m old new was P keeps told (clean, read) y at =
    told read clean y (rests_over (shown old.contents.gaps [] old.contents.seen) (shown new.contents.gaps was new.contents.seen) m y old.tables keeps (rests_shown m y old at))

-- ---- the data file within a transaction

pub shown_same : (s t : DataState) (ws us : List Written) → t.gaps ≡ s.gaps → t.seen ≡ s.seen → us ≡ ws → shown t.gaps us t.seen ≡ shown s.gaps ws s.seen
shown_same s t ws us gaps seen written = ap (λ g. shown g us t.seen) gaps ∙ ap (λ b. shown s.gaps us b) seen ∙ ap (λ l. shown s.gaps l s.seen) written

on_any : {X E : Type 0} {P : Type 0} (r : Result X E) → P → OnOk r P
on_any (Ok x) p = p
on_any (Err e) p = tt

pub syncs_read : {X E : Type 0} (a b : DataState) (r : Result X E) → ReadsData a b → SyncsData a b r
syncs_read a b r p = record {
  seen = p.seen;
  gaps = p.gaps;
  clean = p.clean;
  crash = p.crash;
  usable = λ usable. subst IsTrue p.usable usable;
  still = on_any r p.usable;
}

pub syncs_then : {X Y E F : Type 0} (a b d : DataState) (x : X) (y : Y) → ReadsData a b → SyncsData {E = E} b d (Ok x) → SyncsData {E = F} a d (Ok y)
syncs_then a b d x y p q = record {
  seen = q.seen ∙ p.seen;
  gaps = q.gaps ∙ p.gaps;
  clean = λ clean. p.clean (q.clean clean);
  crash = λ file may. p.crash file (q.crash file may);
  usable = λ usable. subst IsTrue p.usable (q.usable usable);
  still = q.still ∙ p.usable;
}

pub syncs_failed : {X Y E F : Type 0} (a b d : DataState) (r : Result X E) (f : F) → ReadsData a b → SyncsData b d r → SyncsData {X = Y} a d (Err f)
syncs_failed a b d r f p q = record {
  seen = q.seen ∙ p.seen;
  gaps = q.gaps ∙ p.gaps;
  clean = λ clean. p.clean (q.clean clean);
  crash = λ file may. p.crash file (q.crash file may);
  usable = λ usable. subst IsTrue p.usable (q.usable usable);
  still = tt;
}

-- what was made, synced if it was to be, as a call within a transaction
pub takes_synced : {X : Type 0} (f g : File) (m n : Option Meta) (made : Holding → Holding) (a b : State) (x : X) (wrote : Bool) (s t : DataState) (last : List ℕ) → IsTrue g.is_clean
    → last ≡ g.bytes → SyncedIf wrote s t → TurnedOver f g m n made a b
    → Takes {E = StoreFault} (HeldForKnown f.bytes m) (λ y. HeldForSynced wrote s t (HeldForKnown last n (made y))) a b (Ok x)
takes_synced f g m n made a b x wrote s t last read same only p = record {
  stays = p.stays;
  within = p.within;
  turns = λ clean y at.
      let now = p.turns read clean y at in
      record { is_open = now.is_open; in_transaction = now.in_transaction; holds = (subst (λ v. HeldForKnown v n (made y) b.now) (sym same) now.holds, only) };
}

pub takes_failed : {X : Type 0} (P Q : Holding → Database → Type 0) (a b : State) (e : StoreFault) → Stays a b → Takes {X = X} P Q a b (Err e)
takes_failed P Q a b e stays = record { stays = stays; within = tt; turns = tt }

-- ---- a call that only sees

module _ (m n : Option Meta) (f : Holding → Holding) (old new : StoreState) (v : List ℕ) (settled : IsSettled old.tables) (reads : ReadsData old.contents new.contents)
    (view : v ≡ shown old.contents.gaps [] old.contents.seen) (alone : LeavesAlone old.tables new.tables) (same : (y : Holding) → f y ≡ y) where
  now_view : v ≡ shown new.contents.gaps [] new.contents.seen
  now_view = view ∙ sym (shown_same old.contents new.contents [] [] reads.gaps reads.seen refl)

  seen_before : (y : Holding) → IsAtRest m y old → RestsAs (HeldForKnown v m y) old.tables
  seen_before y at = subst (λ w. RestsAs (HeldForKnown w m y) old.tables) (sym view) (rests_shown m y old at)

  seen_after : (o : Option Meta) (y : Holding) → IsAtRest m y old → IsTrue new.contents.is_usable → RestsAs (HeldForKnown v o y) new.tables → IsAtRest o y new
  seen_after o y at usable rests = is_at_rest o y new [] (subst (λ w. RestsAs (HeldForKnown w o y) new.tables) now_view rests) usable (reads_only old.contents new.contents reads at.synced)

  seen_leaves : HasCleanDisk new.tables → (y : Holding) → IsAtRest m y old → (db : Trees) → new.tables.may_leave db → (file : List ℕ) → new.contents.may_leave file → LeavesEither f y db file
  seen_leaves clean y at db may file could = elim (alone.survives.crash clean db may) [
    | inl before ↦
        let is : file ≡ old.contents.seen = at.synced file (reads.crash file could) in
        inl (
          old.tables.now,
          subst (λ b. HeldFor b y old.tables.now) (sym is) at.rests.holds.0,
          sym (settled db at.rests.is_open before ∙ ap (λ d. d.trees) at.rests.committed),
        )
    | inr none ↦ absurd none
  ]

  pub seen_served : {X Y : Type 0} (x : X) (z : Y)
      → (IsTrue new.contents.is_clean → ServesAs {E = StoreFault} (HeldForKnown v m) (HeldForKnown v n) old.tables new.tables (Ok x)) → ServesStore {E = StoreFault} m n f old new (Ok z)
  seen_served x z p = record {
    honest = λ (clean, read). (earlier old.tables new.tables _ alone.survives clean, reads.clean read);
    crash = λ (clean, read) y at db may file could. seen_leaves clean y at db may file could;
    kept = tt;
    done = λ (clean, read) y at. subst (λ z. IsAtRest n z new) (sym (same y))
        (seen_after n y at (subst IsTrue (sym reads.usable) at.usable) ((p read).done clean y (seen_before y at)));
  }

  pub seen_failed : {X Y : Type 0} (e h : StoreFault)
      → (IsTrue new.contents.is_clean → ServesAs {X = X} (HeldForKnown v m) (HeldForKnown v n) old.tables new.tables (Err e)) → ServesStore {X = Y} m n f old new (Err h)
  seen_failed e h p = record {
    honest = λ (clean, read). (earlier old.tables new.tables _ alone.survives clean, reads.clean read);
    crash = λ (clean, read) y at db may file could. seen_leaves clean y at db may file could;
    kept = λ (clean, read) (is_open, usable) y at. seen_after m y at usable ((p read).kept clean is_open y (seen_before y at));
    done = tt;
  }

  pub seen_told : (P : Holding → Type 0) → (IsTrue new.contents.is_clean → ReportsKnown v m old.tables new.tables P) → ReportsStore m old new P
  seen_told P told (clean, read) y at = told read clean y (seen_before y at)

  pub seen_sound : (e : StoreFault) → (IsTrue new.contents.is_clean → IsSafe {X = Unit {0}} (HeldForKnown v m) old.tables new.tables (Err e))
      → IsSoundStore {X = Unit {0}} m old new (Err e)
  seen_sound e safe (clean, read) = λ y at. safe read clean y (seen_before y at)

-- ---- what may be used

pub usable_ok : {X Y : Type 0} (m n : Option Meta) (made : Holding → Holding) (old new : StoreState) (now : List Written) (x : X) (y : Y)
    → TransactsAside m n made old new now (Ok x) → StaysOpen {E = StoreFault} old.tables new.tables (Ok x) → StaysUsable {E = StoreFault} old new (Ok y)
usable_ok m n made old new now x y p stays = record {
  was = λ (clean, read) (is_open, usable). (stays.was clean is_open, p.usable usable);
  still = λ (clean, read) (is_open, usable). (stays.still clean is_open, subst IsTrue (sym p.still) usable);
}

pub usable_err : {X Y : Type 0} (m n : Option Meta) (made : Holding → Holding) (old mid new : StoreState) (now : List Written) (e f : StoreFault)
    → TransactsAside {X = X} m n made old mid now (Err e) → SyncsOnce mid.contents new.contents → StaysOpen {X = X} {E = StoreFault} old.tables new.tables (Err f)
    → StaysUsable {X = Y} {E = StoreFault} old new (Err f)
usable_err m n made old mid new now e f p more stays = record {
  was = λ (clean, read) (is_open, usable). (stays.was clean is_open, p.usable (more.usable usable));
  still = tt;
}

-- ---- before the transaction

pub nothing_still : (a : State) → CommitsNothing a a
nothing_still a = record {
  survives = record {
    clean = omega arith;
    shield = λ shielded. shielded;
    counts = omega arith;
    limit = refl;
    closes = λ clean is_open. inl is_open;
    crash = λ clean db may. inl may;
  };
  kept = λ clean. record { was_open = λ is_open. is_open; committed = λ is_open. refl };
}

-- what was to be written failed
pub aside_failed_store : {X : Type 0} (m n : Option Meta) (made : Holding → Holding) (old new : StoreState) (was : List Written) (e : StoreFault)
    → WritesAside old.contents new.contents [] was → CommitsNothing old.tables new.tables → TransactsAside {X = X} m n made old new was (Err e)
aside_failed_store m n made old new was e aside nothing = record {
  first = shown new.contents.gaps was new.contents.seen;
  kept = aside_view old.contents new.contents [] was aside;
  grows = kept_itself [] (shown new.contents.gaps was new.contents.seen);
  crash = aside.crash;
  clean = λ read. subst IsTrue aside.clean read;
  usable = λ usable. subst IsTrue aside.usable usable;
  still = tt;
  performs = λ read. record {
    survives = survives_weaker old.tables new.tables _ _ (λ _ db none. absurd none) nothing.survives;
    kept = λ clean y at. nothing.kept clean;
    done = tt;
  };
}

module _ (m : Option Meta) (old new : StoreState) (begun : DataState) (was : List Written) (aside : WritesAside old.contents begun [] was) where
  begun_rests : (y : Holding) → IsAtRest m y old → RestsAs (HeldForKnown (shown begun.gaps was begun.seen) m y) old.tables
  begun_rests y at = rests_over (shown old.contents.gaps [] old.contents.seen) (shown begun.gaps was begun.seen) m y old.tables
      (aside_view old.contents begun [] was aside) (rests_shown m y old at)

  pub told_if : {X : Type 0} (r : Result X StoreFault) (P : X → Holding → Type 0)
      → (IsTrue new.contents.is_clean → IfOk r (λ x. ReportsKnown (shown begun.gaps was begun.seen) m old.tables new.tables (P x))) → IfOk r (λ x. ReportsStore m old new (P x))
  told_if (Ok x) P told = λ (clean, read) y at. told read clean y (begun_rests y at)
  told_if (Err e) P told = tt

  pub fault_if : {X : Type 0} (lot : Option ℕ) (r : Result X StoreFault) → (IsTrue new.contents.is_clean → IsSafeKnown (shown begun.gaps was begun.seen) m lot old.tables new.tables r)
      → IsSafeStore m lot old new r
  fault_if lot (Ok x) safe honest = tt
  fault_if lot (Err e) safe (clean, read) = λ y at left. safe read clean y (begun_rests y at) left

-- ---- what is made, in other words

pub store_as : {X Y : Type 0} (m n : Option Meta) (f g : Holding → Holding) (old new : StoreState) (x : X) (y : Y) → ((z : Holding) → f z ≡ g z)
    → ServesStore {E = StoreFault} m n f old new (Ok x) → ServesStore {E = StoreFault} m n g old new (Ok y)
store_as m n f g old new x y same p = record {
  honest = p.honest;
  crash = λ honest z at db may file could.
      subst (λ (u : Holding). LeftAs (HeldFor file z) db ⊎ LeftAs (HeldFor file u) db) (same z) (p.crash honest z at db may file could);
  kept = tt;
  done = λ honest z at. subst (λ (u : Holding). IsAtRest n u new) (same z) (p.done honest z at);
}

pub store_fails_as : {X Y : Type 0} (m n : Option Meta) (f g : Holding → Holding) (old new : StoreState) (e : StoreFault) → ((z : Holding) → f z ≡ g z)
    → ServesStore {X = X} m n f old new (Err e) → ServesStore {X = Y} m n g old new (Err e)
store_fails_as m n f g old new e same p = record {
  honest = p.honest;
  crash = λ honest z at db may file could.
      subst (λ (u : Holding). LeftAs (HeldFor file z) db ⊎ LeftAs (HeldFor file u) db) (same z) (p.crash honest z at db may file could);
  kept = p.kept;
  done = tt;
}

pub usable_seen : {X Y : Type 0} (old new : StoreState) (x : X) (y : Y) → ReadsData old.contents new.contents → StaysOpen {E = StoreFault} old.tables new.tables (Ok x)
    → StaysUsable {E = StoreFault} old new (Ok y)
usable_seen old new x y reads stays = record {
  was = λ (clean, read) (is_open, usable). (stays.was clean is_open, subst IsTrue reads.usable usable);
  still = λ (clean, read) (is_open, usable). (stays.still clean is_open, subst IsTrue (sym reads.usable) usable);
}

pub unusable_seen : {X Y : Type 0} (old new : StoreState) (e f : StoreFault) → ReadsData old.contents new.contents → StaysOpen {X = X} {E = StoreFault} old.tables new.tables (Err e)
    → StaysUsable {X = Y} {E = StoreFault} old new (Err f)
unusable_seen old new e f reads stays = record { was = λ (clean, read) (is_open, usable). (stays.was clean is_open, subst IsTrue reads.usable usable); still = tt }

-- ---- what is written within the transaction

pub writes_adds : {X E : Type 0} (a b : DataState) (ws us : List Written) (r : Result X E) → AddsTo a b ws us → WritesOn a b ws us r
writes_adds a b ws us r p = record {
  view = p.view;
  crash = p.crash;
  clean = p.clean;
  usable = λ usable. subst IsTrue p.usable usable;
  still = on_any r p.usable;
}

pub writes_synced : {X Y F : Type 0} (a b d : DataState) (ws us vs : List Written) (q : Result Y F) (r : Result X StoreFault) → AddsTo a b ws us → SyncsData b d q → vs ≡ us
    → OnOk r (d.is_usable ≡ b.is_usable) → WritesOn a d ws vs r
writes_synced a b d ws us vs q r p more same still = record {
  view = subst (λ v. KeepsInUse [] (shown a.gaps ws a.seen) v) (sym (shown_same b d us vs more.gaps more.seen same)) p.view;
  crash = λ file may. p.crash file (more.crash file may);
  clean = λ clean. p.clean (more.clean clean);
  usable = λ usable. subst IsTrue p.usable (more.usable usable);
  still = still_of r a.is_usable b.is_usable d.is_usable p.usable still;
}

-- what the transaction has synced
pub synced_if : {X E : Type 0} (wrote moved : Bool) (a b d : DataState) (r : Result X E) → (moved ≡ false → ReadsData a b) → SyncsData b d r
    → ((wrote || moved) ≡ true → Only d.seen d.may_leave) → SyncedIf wrote a d
synced_if true moved a b d r idle more only = record { now = λ is. only refl; still = λ was. only refl }
synced_if false true a b d r idle more only = record { now = λ is. only refl; still = λ was. only refl }
synced_if false false a b d r idle more only = record {
  now = λ is. absurd cc;
  still = λ was file may. let none = idle refl in was file (none.crash file (more.crash file may)) ∙ sym (more.seen ∙ none.seen);
}
