-- An opening that succeeded, by its calls of the tables and its data file.
use Rattle.std.proofs.Common.{◌≡◌, ℕ, List, [], Bool, true, false, Option, None, Ok, Result, IfOk, OnOk, refl, sym, ap, subst, ◌∙◌, IsTrue}
use Rattle.std.specs.Option.{is_some}
use Rattle.std.proofs.lemmas.List.Elements.{All-nil}
use Rattle.std.specs.List.{All}
use Rattle.sqlite.specs.Tree.{Trees}
use Rattle.sqlite.specs.Effect.{Database}
use Rattle.sqlite.specs.State.{State, HasCleanDisk, Survives}
use Rattle.sqlite.specs.Held.{Held}
use Rattle.sqlite.proofs.StateLemmas.{survives_weaker, survives_then}
use Rattle.sqlite_disk.specs.Disk.{Only}
use Rattle.fuse_data.specs.State.{DataState}
use Rattle.fuse_data.specs.declared.data_file.DataFile.{DataFile}
use Rattle.fuse_data.specs.declared.extent.Extent.{Extent}
use Rattle.fuse_data.specs.Space.{AllInUse, InUse}
use Rattle.fuse_init.specs.declared.profile.Profile.{Profile}
use Rattle.fuse_init.specs.declared.profile.Profile.TheVariants.{Plain, Everyday}
use Rattle.fuse_tree.specs.State.{profile_of}
use Rattle.fuse_store_tables.specs.Content.{Content}
use Rattle.fuse_store_tables.specs.Moves.{RestsAs, LeavesAlone, OnlyReads, StaysOpen}
use Rattle.fuse_store_tables.specs.Opening.{IsLaid, IsStored}
use Rattle.fuse_store_tables.specs.Saying.{IsTabled, IsToMigrate}
use Rattle.fuse_store_tables.specs.ToCount.{SeesTheSame}
use Rattle.fuse_store_tables.specs.inner.Following.{earlier}
use Rattle.fuse_store_tree.specs.declared.meta.Meta.{Meta}
use Rattle.fuse_store_tree.specs.Holding.{Holding, HeldFor}
use Rattle.fuse_store_tree.specs.Leaving.{ListsInUse}
use Rattle.sqlite_trees.specs.declared.store.Store.{Ghosts}
use Rattle.sqlite_disk.specs.declared.Disk.{Ghosts as DiskGhosts}
use Rattle.fuse_store_tree.specs.StoreState.{StoreState, IsHonest, IsAtRest, store_in}
use Rattle.fuse_store.specs.TableState.{data_for}
use Rattle.fuse_store.specs.Opening.{Stored, StoredFor, WasFor, WasOver, IsReady, IsWholeOf, KeepsRows, opened_for, seen_of}
use Rattle.fuse_store.specs.Starting.{KeepsNamed}
use Rattle.fuse_store.specs.inner.Opened.{Finds, Opens}
use Rattle.fuse_store.proofs.FailedOpenings.{alone_after, was_later}
use Rattle.fuse_store.proofs.StoresFound.{plain_ready}
use Rattle.fuse_store.proofs.TablesAlone.{with_data}

-- what the tables say of a transaction that made this of a store
pub record SetsUp (p : Profile) (made : Stored → Holding) (number : Option ℕ) (a b : State) : Type 0 where
  pub ok : HasCleanDisk b → (file : List ℕ) (z : Stored) → WasOver file z a → IsReady number file z → RestsAs (HeldFor file (made z)) b
  pub profile : HasCleanDisk b → (file : List ℕ) (z : Stored) → WasOver file z a → p ≡ profile_of (opened_for z).tree
  pub was : HasCleanDisk b → IsTrue a.is_open × (a.in_transaction ≡ false)
  pub whole : HasCleanDisk b → (c : Content) → IsLaid c a.now → IsWholeOf p c
  pub tabled : HasCleanDisk b → IsTabled a.now
  pub clean : HasCleanDisk b → HasCleanDisk a

-- ---- reads after it

pub rests_read : {X E : Type 0} (P : Database → Type 0) (b d : State) (x : X) → OnlyReads {E = E} b d (Ok x) → StaysOpen {E = E} b d (Ok x) → HasCleanDisk d
    → RestsAs P b → RestsAs P d
rests_read P b d x reads connection clean at =
    let is_open = connection.still clean at.is_open in
    record {
      is_open = is_open;
      autocommit = reads.outside clean at.autocommit;
      holds = subst P (sym (reads.same clean)) at.holds;
      committed = (reads.commits.kept clean).committed is_open ∙ at.committed ∙ sym (reads.same clean);
    }

pub sets_up_read : {X E : Type 0} (p : Profile) (made : Stored → Holding) (number : Option ℕ) (a b d : State) (x : X) → SetsUp p made number a b
    → OnlyReads {E = E} b d (Ok x) → StaysOpen {E = E} b d (Ok x) → SetsUp p made number a d
sets_up_read p made number a b d x s reads connection = record {
  ok = λ clean file z was ready. rests_read (HeldFor file (made z)) b d x reads connection clean (s.ok (mid clean) file z was ready);
  profile = λ clean. s.profile (mid clean);
  was = λ clean. s.was (mid clean);
  whole = λ clean. s.whole (mid clean);
  tabled = λ clean. s.tabled (mid clean);
  clean = λ clean. s.clean (mid clean);
}
  where
    mid : HasCleanDisk d → HasCleanDisk b
    mid clean = earlier b d _ reads.commits.survives clean

-- ---- with its data file

module _ (p : Profile) (made : Stored → Holding) (number : Option ℕ) (a b : State) (old new : DataState) (s : SetsUp p made number a b) where
  pub opens_by : (IsTrue new.is_clean → IsTrue (data_for p old).is_clean)
      → (HasCleanDisk b → (z : Stored) → WasFor z (with_data a old) → WasOver new.seen z a × IsReady number new.seen z)
      → (IsHonest (with_data b new) → (z : Stored) → WasFor z (with_data a old) → ListsInUse new.gaps b.now) → IsTrue new.is_usable
      → Only new.seen new.may_leave → Opens p made None (with_data a old) (with_data b new)
  opens_by clean seen lists usable synced = record {
    held = λ honest z was.
        let r = seen honest.0 z was in
        let at = s.ok honest.0 new.seen z r.0 r.1 in
        record {
          rests = record { is_open = at.is_open; autocommit = at.autocommit; holds = (at.holds, tt); committed = at.committed };
          usable = usable;
          in_use = lists honest z was;
          synced = synced;
        };
    profile = λ honest z was. sym (s.profile honest.0 (seen_of z (with_data a old)) z was);
    was = λ honest. s.was honest.0;
    honest = λ honest. (s.clean honest.0, clean honest.1);
    whole = λ honest. s.whole honest.0;
    tabled = λ honest. s.tabled honest.0;
  }

-- there is no data file
abbrev pub no_file : DataState
no_file = record { seen = []; may_leave = λ c. c ≡ []; is_clean = true; is_usable = true; gaps = [] }

-- nothing is free where nothing is known to be
pub none_free : (d : Database) → ListsInUse [] d
none_free d c held fits = all_used _
  where
    all_used : (ps : List Extent) → AllInUse [] ps
    all_used ps = λ i x low block is free. free

-- ---- a plain store has no data file

pub plain_was : (p : Profile) (old : DataState) → p ≡ Plain → (data_for p old).seen ≡ []
plain_was Plain old plain = refl
plain_was Everyday old plain = absurd cc

pub everyday_was : (p : Profile) (old : DataState) → p ≡ Everyday → (data_for p old).seen ≡ old.seen
everyday_was Plain old is = absurd cc
everyday_was Everyday old is = refl

-- ---- after a look that changes nothing

module _ (p : Profile) (made : Stored → Holding) (known : Option Meta) (a b : State) (old : DataState) (new : StoreState)
    (first : Survives a b (λ _. ⊥)) (same : SeesTheSame a b) (was : HasCleanDisk b → IsTrue b.is_open → IsTrue a.is_open)
    (still : HasCleanDisk b → IsTrue a.is_open → IsTrue b.is_open) (it : Opens p made known (with_data b old) new) where
  mid : IsHonest new → HasCleanDisk b
  mid honest = (it.honest honest).0

  later : (honest : IsHonest new) (z : Stored) → WasFor z (with_data a old) → WasFor z (with_data b old)
  later honest z at = was_later a b (mid honest) same (still (mid honest)) (seen_of z (with_data a old)) z at

  pub opens_after : Opens p made known (with_data a old) new
  opens_after = record {
    held = λ honest z at. it.held honest z (later honest z at);
    profile = λ honest z at. it.profile honest z (later honest z at);
    was = λ honest.
        let now = it.was honest in
        (was (mid honest) now.0, sym (same.mode (mid honest)) ∙ now.1);
    honest = λ honest. (earlier a b _ first (mid honest), (it.honest honest).1);
    whole = λ honest c at. it.whole honest c (subst (λ (d : Database). IsLaid c d) (sym (same.now (mid honest))) at);
    tabled = λ honest. subst (λ (d : Database). IsTabled d) (same.now (mid honest)) (it.tabled honest);
  }

module _ (number : Option ℕ) (a b d : State) (first : Survives a b (λ _. ⊥)) (same : SeesTheSame a b) (was : HasCleanDisk b → IsTrue b.is_open → IsTrue a.is_open)
    (still : HasCleanDisk b → IsTrue a.is_open → IsTrue b.is_open) where
  rests_later : (P : Database → Type 0) → HasCleanDisk b → RestsAs P a → RestsAs P b
  rests_later P clean at = record {
    is_open = still clean at.is_open;
    autocommit = same.mode clean ∙ at.autocommit;
    holds = subst P (sym (same.now clean)) at.holds;
    committed = same.committed clean ∙ at.committed ∙ sym (same.now clean);
  }

  pub rows_after : KeepsRows number b d → KeepsRows number a d
  rows_after it = record {
    alone = λ other.
        alone_after a b d first same was it.once (λ clean.
        let mid = earlier b d _ it.once clean in
        it.alone (λ changes. other (subst (λ (e : Database). IsToMigrate e) (same.now mid) changes)));
    opened = λ clean c at. it.opened clean c (rests_later (IsStored c) (earlier b d _ it.once clean) at);
    ended = it.ended;
    once = survives_then a b d _ _ _ (λ _ db none. absurd none) (λ _ db is. is) first it.once;
  }

  pub named_after : KeepsNamed number b d → KeepsNamed number a d
  named_after it = record {
    begun = λ clean c at. it.begun clean c (rests_later (IsStored c) (earlier b d _ it.once clean) at);
    ended = it.ended;
    once = survives_then a b d _ _ _ (λ _ db none. absurd none) (λ _ db is. is) first it.once;
  }

-- ---- with what looks over it

pub looked : {S D : Type 0} (g : Ghosts S) (h : DiskGhosts D) (p : Profile) (made : Stored → Holding) (old : StoreState) (known : Option Meta) (conn c : Held S)
    (file f : Option (DataFile D)) → known ≡ None → conn ≡ c → file ≡ f → Opens p made None old (store_in g h c f) → Opens p made known old (store_in g h conn file)
looked {S = S} {D = D} g h p made old known conn c file f none same is it =
    subst (λ m. Opens p made m old (store_in g h conn file)) (sym none)
    (subst (λ (k : Held S). Opens p made None old (store_in g h k file)) (sym same)
    (subst (λ (d : Option (DataFile D)). Opens p made None old (store_in g h c d)) (sym is) it))

pub looked_finds : {S D : Type 0} (g : Ghosts S) (h : DiskGhosts D) (p : Profile) (old : StoreState) (conn c : Held S) (file f : Option (DataFile D)) → conn ≡ c → file ≡ f
    → Finds p old (store_in g h c f) → Finds p old (store_in g h conn file)
looked_finds {S = S} {D = D} g h p old conn c file f same is it =
    subst (λ (k : Held S). Finds p old (store_in g h k file)) (sym same) (subst (λ (d : Option (DataFile D)). Finds p old (store_in g h c d)) (sym is) it)

-- ---- a plain store

module _ (made : Stored → Holding) (number : Option ℕ) (a b : State) (old : DataState) (s : SetsUp Plain made number a b)
    (rests : (file : List ℕ) (z : Stored) → WasOver file z a → RestsAs (StoredFor file z) a) where
  plain_over : (clean : HasCleanDisk b) (z : Stored) → WasFor z (with_data a old) → WasOver [] z a × IsReady number [] z
  plain_over clean z was =
      let file = seen_of z (with_data a old) in
      let plain = sym (s.profile clean file z was) in (
        subst (λ f. WasOver f z a) (plain_was (profile_of (opened_for z).tree) old plain) was,
        plain_ready file z a.now (rests file z was).holds plain number [],
      )

  pub opens_plain : Opens Plain made None (with_data a old) (with_data b no_file)
  opens_plain =
      opens_by Plain made number a b old no_file s (λ clean. refl) plain_over (λ honest z was. none_free b.now) refl (λ c is. is)

  pub finds_plain : ((z : Stored) → made z ≡ opened_for z) → Finds Plain (with_data a old) (with_data b no_file)
  finds_plain is = record {
    tables = λ clean z was.
        let r = plain_over clean z was in
        subst (λ (y : Holding). RestsAs (HeldFor [] y) b) (is z) (s.ok clean [] z r.0 r.1);
    profile = λ clean z was. sym (s.profile clean (seen_of z (with_data a old)) z was);
    tabled = s.tabled;
    synced = λ c is. is;
    seen = λ e. absurd cc;
    leaves = λ e. absurd cc;
  }

-- ---- an everyday store

module _ (number : Option ℕ) (a b : State) (old new : DataState) (s : SetsUp Everyday opened_for number a b) (same : new.seen ≡ old.seen)
    (ready : HasCleanDisk b → (z : Stored) → WasFor z (with_data a old) → IsReady number new.seen z) where
  pub over_everyday : HasCleanDisk b → (z : Stored) → WasFor z (with_data a old) → WasOver new.seen z a × IsReady number new.seen z
  over_everyday clean z was =
      let p = sym (s.profile clean (seen_of z (with_data a old)) z was) in (
        subst (λ f. WasOver f z a) (everyday_was (profile_of (opened_for z).tree) old p ∙ sym same) was,
        ready clean z was,
      )

  pub finds_everyday : Only new.seen new.may_leave → ((c : List ℕ) → new.may_leave c → old.may_leave c) → Finds Everyday (with_data a old) (with_data b new)
  finds_everyday synced leaves = record {
    tables = λ clean z was.
        let r = over_everyday clean z was in
        s.ok clean new.seen z r.0 r.1;
    profile = λ clean z was. sym (s.profile clean (seen_of z (with_data a old)) z was);
    tabled = s.tabled;
    synced = synced;
    seen = λ _. same;
    leaves = λ _. leaves;
  }

-- ---- where there is no data file

pub opens_less : (p : Profile) (made : Stored → Holding) (number : Option ℕ) (a b : State) (old : DataState) → SetsUp p made number a b
    → ((file : List ℕ) (z : Stored) → WasOver file z a → RestsAs (StoredFor file z) a) → (HasCleanDisk b → p ≡ Plain)
    → Opens p made None (with_data a old) (with_data b no_file)
opens_less Plain made number a b old s rests plain = opens_plain made number a b old s rests
opens_less Everyday made number a b old s rests plain = record {
  held = λ honest. absurd (let e = plain honest.0 in cc);
  profile = λ honest. absurd (let e = plain honest.0 in cc);
  was = λ honest. absurd (let e = plain honest.0 in cc);
  honest = λ honest. absurd (let e = plain honest.0 in cc);
  whole = λ honest. absurd (let e = plain honest.0 in cc);
  tabled = λ honest. absurd (let e = plain honest.0 in cc);
}
