-- A mount that begins of a store of version 3, which its opening left as it was.
use Rattle.std.proofs.Common.{◌≡◌, ◌⊎◌, ℕ, List, [], ◌∷◌, Bool, true, false, Option, None, Some, option_map, Ok, Err, Result, IfErr, OnOk, OnErr, inl, inr, refl, sym, ap, subst, ◌∙◌, IsTrue}
use Rattle.std.proofs.lemmas.Bool.{cases_Bool}
use Rattle.sqlite.specs.Tree.{Trees}
use Rattle.sqlite.specs.Effect.{Database}
use Rattle.sqlite.specs.State.{State, HasCleanDisk, Survives}
use Rattle.sqlite.proofs.StateLemmas.{survives_weaker, survives_then}
use Rattle.sqlite_disk.specs.Disk.{Only}
use Rattle.fuse_data.specs.State.{DataState, state_in}
use Rattle.fuse_data.specs.declared.gaps.Gap.{Gap}
use Rattle.fuse_init.specs.declared.profile.Profile.{Profile}
use Rattle.fuse_init.specs.declared.profile.Profile.TheVariants.{Plain, Everyday}
use Rattle.fuse_keeper.specs.declared.fault.StoreFault.{StoreFault}
use Rattle.fuse_keeper.specs.declared.fault.StoreFault.TheVariants.{Memory, Sql, NotAStore, Version, Damaged, Guest}
use Rattle.fuse_tree.specs.State.{profile_of}
use Rattle.fuse_store_tables.specs.Clearing.{cleared}
use Rattle.fuse_store_tables.specs.Content.{Content, LeftAs}
use Rattle.fuse_store_tables.specs.Faults.{IsOutside, IsPlain}
use Rattle.fuse_store_tables.specs.Moves.{RestsAs, LeavesAlone, RollsBack, CommitsOnce, ServesAs, IsSafe}
use Rattle.fuse_store_tables.specs.Opening.{IsSecond, IsStored, opened}
use Rattle.fuse_store_tables.specs.Saying.{HasFirst, HasOwn, IsOwn, IsRefusal, IsTabled, IsToMigrate, Says}
use Rattle.sqlite.specs.Order.{Row}
use Rattle.fuse_store_tables.specs.inner.Following.{earlier}
use Rattle.fuse_store_tree.specs.Holding.{Holding, HeldFor}
use Rattle.fuse_store_tree.specs.Leaving.{ListsInUse}
use Rattle.fuse_store_tree.specs.StoreState.{StoreState, IsHonest}
use Rattle.fuse_store.specs.Mounting.{cleared_for}
use Rattle.fuse_store.specs.Opening.{Stored, StoredFor, FailsToOpen, KeepsRows, OpenRefused, WasFor, WasOver, data_of, opened_for, seen_of}
use Rattle.fuse_store.specs.Starting.{FreshRefused, KeepsNamed, begun_for}
use Rattle.sqlite_disk.specs.declared.Disk.{Ghosts as DiskGhosts}
use Rattle.fuse_data.specs.declared.data_file.DataFile.{DataFile}
use Rattle.fuse_store.specs.TableKeeper.{disk_in}
use Rattle.fuse_store.specs.TableState.{data_for}
use Rattle.fuse_store.specs.inner.Opened.{Finds, Opens, has_nine}
use Rattle.fuse_store.proofs.CurrentOpenings.{alone_failed}
use Rattle.fuse_store.proofs.DoneOpenings.{everyday_was}
use Rattle.fuse_store.proofs.FailedOpenings.{alone_by, contents_same, survives_by}
use Rattle.fuse_store.proofs.StoresFound.{nine_everyday, not_to_migrate}
use Rattle.fuse_store.proofs.TablesAlone.{with_data}

-- ---- damage is said of a store alone

own_first : (rows : List Row) → HasFirst 1 rows → HasOwn rows
own_first [] is = absurd is
own_first (row ∷ rows) is = subst IsOwn (sym is) (inl refl)

own_second : (rows : List Row) → HasFirst 2 rows → HasOwn rows
own_second [] is = absurd is
own_second (row ∷ rows) is = subst IsOwn (sym is) (inr (inl refl))

own_third : (rows : List Row) → HasFirst 3 rows → HasOwn rows
own_third [] is = absurd is
own_third (row ∷ rows) is = subst IsOwn (sym is) (inr (inr refl))

says_damaged : (d : Database) → IsTabled d → Says d Damaged
says_damaged d (inl first) = let r = first.0 in (r.0, r.1, own_first r.0 r.2)
says_damaged d (inr (inl second)) = let r = second.0 in (r.0, r.1, own_second r.0 r.2)
says_damaged d (inr (inr third)) = let r = third.0 in (r.0, r.1, own_third r.0 r.2)

pub says_plain : (d : Database) (f : StoreFault) → IsPlain f → IsTabled d → Says d f
says_plain d Memory plain tabled = tt
says_plain d (Sql e) plain tabled = tt
says_plain d NotAStore plain tabled = absurd plain
says_plain d (Version n) plain tabled = absurd plain
says_plain d Damaged plain tabled = says_damaged d tabled
says_plain d Guest plain tabled = absurd plain

-- ---- the opening of a store with nine tables

module _ (a : State) (old : DataState) (many : has_nine a.now.schema ≡ true)
    (rests : (file : List ℕ) (z : Stored) → WasOver file z a → RestsAs (StoredFor file z) a) where
  everyday_here : (z : Stored) → WasFor z (with_data a old) → profile_of (opened_for z).tree ≡ Everyday
  everyday_here z was =
      let file = seen_of z (with_data a old) in
      nine_everyday file z a.now (rests file z was).holds many

  alone_here : (left : StoreState) (f : StoreFault) → OpenRefused (Some Everyday) (with_data a old) left f → a.in_transaction ≡ false → LeavesAlone a left.tables
  alone_here left f it none = it.alone none (not_to_migrate a.now many)

  -- it failed, outside a transaction
  pub opening_failed : (left : StoreState) (f : StoreFault) → OpenRefused (Some Everyday) (with_data a old) left f
      → (HasCleanDisk left.tables → (db : Trees) → left.tables.may_leave db → a.may_leave db) → FreshRefused (with_data a old) left f
  opening_failed left f it before = record {
    crash = survives_by _ a left.tables it.crash before;
    contents = it.contents;
    kept = it.kept;
    outside = λ z honest was is. it.outside z honest was (everyday_here z was);
    says = it.says;
    refused = it.refused;
    untouched = it.untouched;
    alone = λ none other. alone_here left f it none;
    ended = it.ended;
    undone = it.undone;
  }

  -- what a crash leaves, by whether a transaction is open
  pub opening_left : (left : StoreState) (f : StoreFault) → OpenRefused (Some Everyday) (with_data a old) left f
      → (a.in_transaction ≡ true → (db : Trees) → left.tables.may_leave db → a.may_leave db)
      → HasCleanDisk left.tables → (db : Trees) → left.tables.may_leave db → a.may_leave db
  opening_left left f it busy clean db may = elim (cases_Bool a.in_transaction) [
    | inl open_one ↦ busy open_one db may
    | inr none ↦ elim ((alone_here left f it none).survives.crash clean db may) [
      | inl first ↦ first
      | inr never ↦ absurd never
    ]
  ]

  -- ---- then the mount begins

  module _ (b d : State) (new : DataState) (found : Finds Everyday (with_data a old) (with_data b new)) (alone : LeavesAlone a b) where
    before : HasCleanDisk b → (db : Trees) → b.may_leave db → a.may_leave db
    before clean db may = elim (alone.survives.crash clean db may) [
      | inl first ↦ first
      | inr never ↦ absurd never
    ]

    same_seen : (z : Stored) → WasFor z (with_data a old) → (left : DataState) → left.seen ≡ new.seen → seen_of z (with_data d left) ≡ seen_of z (with_data a old)
    same_seen z was left is =
        let p = everyday_here z was in
        everyday_was (profile_of (opened_for z).tree) left p ∙ is ∙ found.seen refl ∙ sym (everyday_was (profile_of (opened_for z).tree) old p)

    leaves_everyday : (p : Profile) (left : DataState) → p ≡ Everyday → (file : List ℕ) → (data_for p left).may_leave file → left.may_leave file
    leaves_everyday Plain left is file may = absurd cc
    leaves_everyday Everyday left is file may = may

    module _ (f : StoreFault) (left : DataState) (seen : left.seen ≡ new.seen) (leaves : (c : List ℕ) → left.may_leave c → new.may_leave c)
        (survives : (file : List ℕ) → Survives b d (λ db. (y : Holding) → RestsAs (HeldFor file y) b → LeftAs (HeldFor file (cleared_for y)) db))
        (refused : IsRefusal f → LeavesAlone b d) (ended : HasCleanDisk d → d.in_transaction ≡ false) (back : RollsBack b d) {X : Type 0}
        (once : CommitsOnce {X = X} b d (Err f)) (plain : IsPlain f)
        (safe : (file : List ℕ) → HasCleanDisk d → (y : Holding) → RestsAs (HeldFor file y) b → IsOutside f) where
      mid : HasCleanDisk d → HasCleanDisk b
      mid clean = earlier b d _ once.survives clean

      rolled : (clean : HasCleanDisk d) → IsTrue d.is_open → IsTrue b.is_open → (d.now ≡ a.committed) × (d.committed ≡ a.committed)
      rolled clean is_open was =
          let it = back clean is_open in
          let first = alone.same (mid clean) was in
          (it.0 ∙ first.1, it.1 ∙ first.1)

      pub mount_failed : (HasCleanDisk d → IsTrue d.is_open → IsTrue b.is_open) → FreshRefused (with_data a old) (with_data d left) f
      mount_failed was_open = record {
        crash = survives_then a b d _ _ _ (λ _ db none. absurd none) (λ clean db made z was file may.
            let p = everyday_here z was in
            let same = found.synced file (leaves file (leaves_everyday (profile_of (opened_for z).tree) left p file may)) in
            subst (λ x. LeftAs (HeldFor x (begun_for z)) db) (sym same) (made (opened_for z) (found.tables (mid clean) z was))) alone.survives
            (survives new.seen);
        contents = contents_same a d old left (λ c may. found.leaves refl c (leaves c may));
        kept = λ clean is_open z was.
            let at = rests (seen_of z (with_data a old)) z was in
            let it = rolled clean is_open (was_open clean is_open) in
            record {
              is_open = is_open;
              autocommit = ended clean;
              holds = subst (λ x. StoredFor x z d.now) (sym (same_seen z was left seen))
                  (subst (StoredFor (seen_of z (with_data a old)) z) (sym (it.0 ∙ at.committed)) at.holds);
              committed = it.1 ∙ sym it.0;
            };
        outside = λ z honest was is. safe new.seen honest.0 (opened_for z) (found.tables (mid honest.0) z was);
        says = λ clean. says_plain a.now f plain (found.tabled (mid clean));
        refused = λ refusal. alone_then (refused refusal);
        untouched = λ _. record { seen = seen ∙ found.seen refl; leaves = λ c may. found.leaves refl c (leaves c may) };
        alone = λ none other. alone_by a d through (λ clean. absurd (other (found.tabled (mid clean))));
        ended = λ clean none. ended clean;
        undone = record {
          seen = λ none clean is_open. rolled clean is_open (was_open clean is_open);
          trees = once.trees;
          once = survives_then a b d _ _ _ (λ _ db none. absurd none) (λ _ db is. is) alone.survives once.survives;
        };
      }
        where
          through : Survives a d (λ db. db ≡ once.trees)
          through = survives_then a b d _ _ _ (λ _ db none. absurd none) (λ _ db is. is) alone.survives once.survives

          alone_then : LeavesAlone b d → LeavesAlone a d
          alone_then second = record {
            survives = survives_then a b d _ _ _ (λ _ db none. none) (λ _ db none. none) alone.survives second.survives;
            autocommit = second.autocommit;
            same = λ clean is_open.
                let it = second.same clean is_open in
                let first = alone.same (mid clean) it.0 in
                (first.0, it.1 ∙ first.1, it.2);
          }

-- ---- it began

module _ (p : Profile) (a b d : State) (old new : DataState) (it : Opens p opened_for None (with_data a old) (with_data b new)) (before : HasCleanDisk d → HasCleanDisk b)
    (done : HasCleanDisk d → (y : Holding) → RestsAs (HeldFor new.seen y) b → RestsAs (HeldFor new.seen (cleared_for y)) d)
    (lists : HasCleanDisk d → (y : Holding) → RestsAs (HeldFor new.seen y) b → ListsInUse new.gaps b.now → ListsInUse new.gaps d.now) where
  was : IsHonest (with_data d new) → IsHonest (with_data b new)
  was honest = (before honest.0, honest.1)

  pub mount_opens : Opens p begun_for None (with_data a old) (with_data d new)
  mount_opens = record {
    held = λ honest z over.
        let at = it.held (was honest) z over in
        let held : RestsAs (HeldFor new.seen (opened_for z)) b = record { is_open = at.rests.is_open; autocommit = at.rests.autocommit; holds = at.rests.holds.0; committed = at.rests.committed } in
        let now = done honest.0 (opened_for z) held in
        record {
          rests = record { is_open = now.is_open; autocommit = now.autocommit; holds = (now.holds, tt); committed = now.committed };
          usable = at.usable;
          in_use = lists honest.0 (opened_for z) held at.in_use;
          synced = at.synced;
        };
    profile = λ honest. it.profile (was honest);
    was = λ honest. it.was (was honest);
    honest = λ honest. it.honest (was honest);
    whole = λ honest. it.whole (was honest);
    tabled = λ honest. it.tabled (was honest);
  }

-- its rows
pub mount_rows : {X E : Type 0} (number : Option ℕ) (a b d : State) (x : X) → KeepsRows number a b → (many : has_nine a.now.schema ≡ true)
    → ServesAs {E = E} IsSecond (λ c. IsSecond (cleared c)) b d (Ok x) → (HasCleanDisk d → d.in_transaction ≡ false) → CommitsOnce {E = E} b d (Ok x)
    → KeepsNamed number a d
mount_rows number a b d x rows many fit ended once = record {
  begun = λ clean c at. fit.done clean (opened number c) (rows.opened (earlier b d _ once.survives clean) c at);
  ended = ended;
  once = survives_then a b d _ _ _ (λ _ db none. absurd none) (λ clean db is. is ∙ once.made clean) (rows.alone (not_to_migrate a.now many)).survives once.survives;
}

-- ---- the data file is handed back as it is

pub handed_seen : {D : Type 0} (h : DiskGhosts D) (file : Option (DataFile D)) (disk : Option D) → disk ≡ option_map (λ f. f.disk) file
    → (disk_in h disk).seen ≡ (state_in h file).seen
handed_seen h None disk is = ap (λ o. (disk_in h o).seen) is
handed_seen h (Some f) disk is = ap (λ o. (disk_in h o).seen) is

pub handed_leaves : {D : Type 0} (h : DiskGhosts D) (file : Option (DataFile D)) (disk : Option D) → disk ≡ option_map (λ f. f.disk) file
    → (c : List ℕ) → (disk_in h disk).may_leave c → (state_in h file).may_leave c
handed_leaves {D = D} h None disk is c may = subst (λ (o : Option D). (disk_in h o).may_leave c) is may
handed_leaves {D = D} h (Some f) disk is c may = subst (λ (o : Option D). (disk_in h o).may_leave c) is may
