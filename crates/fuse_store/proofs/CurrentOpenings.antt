-- An opening of a store that is no everyday one of version 2.
use Rattle.std.proofs.Common.{◌≡◌, ℕ, List, [], Bool, true, false, Option, None, Some, Ok, Err, Result, IfOk, IfErr, OnOk, inl, inr, refl, sym, ap, subst, ◌∙◌, IsTrue}
use Rattle.std.proofs.lemmas.Bool.{cases_Bool}
use Rattle.sqlite.specs.Tree.{Trees}
use Rattle.sqlite.specs.Effect.{Database}
use Rattle.sqlite.specs.State.{State, HasCleanDisk, Survives}
use Rattle.sqlite.proofs.StateLemmas.{survives_weaker, survives_then}
use Rattle.fuse_data.specs.State.{DataState}
use Rattle.fuse_init.specs.declared.profile.Profile.{Profile}
use Rattle.fuse_init.specs.declared.profile.Profile.TheVariants.{Plain, Everyday}
use Rattle.fuse_keeper.specs.declared.fault.StoreFault.{StoreFault}
use Rattle.fuse_tree.specs.State.{profile_of}
use Rattle.fuse_store_tables.specs.declared.version.Layout.TheVariants as layouts
use Rattle.fuse_store_tables.specs.Layout.{version_of}
use Rattle.fuse_store_tables.specs.Content.{Content, value_at}
use Rattle.fuse_store_tables.specs.Faults.{IsOutside}
use Rattle.fuse_store_tables.specs.Moves.{RestsAs, LeavesAlone, OnlyReads, CommitsOnce}
use Rattle.fuse_store_tables.specs.Opening.{IsOpened, IsSecond, IsStored, opened, profile_in}
use Rattle.fuse_store_tables.specs.Saying.{Says, IsRefusal, IsToMigrate}
use Rattle.fuse_store_tables.specs.ToCount.{HoldsOfSecond}
use Rattle.fuse_store_tables.specs.inner.Following.{earlier}
use Rattle.fuse_store_tree.specs.Holding.{Holding, HeldFor}
use Rattle.fuse_store.specs.Opening.{KeepsRows, Stored, StoredFor, WasFor, WasOver, FailsToOpen, IsReady, IsWantedOf, LeavesOver, data_of, opened_for, seen_of}
use Rattle.fuse_store_tables.specs.Clearing.{IsBegun, cleared}
use Rattle.std.specs.Option.{is_some}
use Rattle.fuse_rows.specs.Rows.{profile_for}
use Rattle.fuse_store.specs.TableState.{data_for}
use Rattle.fuse_store.specs.Starting.{KeepsNamed}
use Rattle.fuse_store.specs.inner.Opened.{has_nine}
use Rattle.fuse_store.proofs.FailedOpenings.{FailsToSetUp, alone_by, contents_same, crash_over, fails_by, outside_over, plain_seen, survives_by, untouched_same}
use Rattle.fuse_store.proofs.Reopening.{opened_first, opened_second}
use Rattle.fuse_store.proofs.StoresFound.{current_plain, current_ready, nine_found, not_to_migrate}
use Rattle.fuse_store.proofs.TablesAlone.{with_data}

-- ---- the number is not asked for

first_any : (c : Content) → value_at 1 c ≡ 1 → (m n : Option ℕ) → opened m c ≡ opened n c
first_any c is m n = opened_first m c is ∙ sym (opened_first n c is)

second_any : (c : Content) → value_at 1 c ≡ version_of c.layout → (c.layout ≡ layouts.Second → profile_in c ≡ Plain) → (m n : Option ℕ) → opened m c ≡ opened n c
second_any c is plain m n = opened_second m c is plain ∙ sym (opened_second n c is plain)

pub opened_any : (c : Content) (d : Database) → IsStored c d → (HoldsOfSecond c d → profile_in c ≡ Plain) → (m n : Option ℕ) → opened m c ≡ opened n c
opened_any c d (inl (inl first)) plain = first_any c first.old.version
opened_any c d (inl (inr second)) plain = second_any c second.fit.version (λ is. plain (inl (second.holds, is)))
opened_any c d (inr unindexed) plain = second_any c unindexed.fit.version (λ is. plain (inr unindexed.holds))

-- ---- everything is as it was

module _ {K : Trees → Type 0} (made : Stored → Holding) (Changes : Database → Type 0) (wanted : Option Profile) (number : Option ℕ) (a d : State) (f : StoreFault)
    (s : Survives a d K) (so : HasCleanDisk d → LeavesAlone a d) (rests : (file : List ℕ) (z : Stored) → WasOver file z a → RestsAs (StoredFor file z) a) where
  pub still_left : HasCleanDisk d → (db : Trees) → d.may_leave db → a.may_leave db
  still_left clean db may = elim ((so clean).survives.crash clean db may) [
    | inl before ↦ before
    | inr none ↦ absurd none
  ]

  pub alone_failed : (HasCleanDisk d → Says a.now f) → FailsToSetUp made Changes wanted number a d f
  alone_failed says = record {
    crash = survives_by _ a d s still_left;
    kept = λ file clean is_open z was.
        let at = rests file z was in
        let it = (so clean).same clean is_open in
        let same = it.2 ∙ it.1 ∙ at.committed in
        record { is_open = is_open; autocommit = (so clean).autocommit clean; holds = subst (StoredFor file z) (sym same) at.holds; committed = sym it.2 };
    says = says;
    refused = λ refused. alone_by a d s so;
    alone = λ none other. alone_by a d s so;
    ended = λ clean none. (so clean).autocommit clean;
    undone = record {
      seen = λ none clean is_open.
          let it = (so clean).same clean is_open in
          (it.2 ∙ it.1, it.1);
      trees = a.now.trees;
      once = survives_by _ a d s still_left;
    };
  }

-- ---- a read after it

pub alone_read : {X E : Type 0} (a b d : State) (r : Result X E) → LeavesAlone a b → OnlyReads b d r → LeavesAlone a d
alone_read a b d r alone reads = record {
  survives = survives_then a b d _ _ _ (λ _ db none. none) (λ _ db none. none) alone.survives reads.commits.survives;
  autocommit = λ clean.
      let mid = earlier b d _ reads.commits.survives clean in
      reads.outside clean (alone.autocommit mid);
  same = λ clean is_open.
      let mid = earlier b d _ reads.commits.survives clean in
      let was = (reads.commits.kept clean).was_open is_open in
      let same = (reads.commits.kept clean).committed is_open in
      let it = alone.same mid was in
      (it.0, same ∙ it.1, now clean is_open it.2 ∙ sym same);
}
  where
    now : HasCleanDisk d → IsTrue d.is_open → b.now ≡ b.committed → d.now ≡ b.committed
    now clean is_open is = elim (reads.seen clean is_open) [
      | inl same ↦ same ∙ is
      | inr back ↦ back
    ]

pub once_read : {X Y E F : Type 0} (a b d : State) (x : X) (y : Y) → CommitsOnce {E = E} a b (Ok x) → OnlyReads {E = F} b d (Ok y) → Survives a d (λ db. db ≡ d.now.trees)
once_read a b d x y once reads =
    survives_then a b d _ _ _
    (λ clean db is. is ∙ once.made (earlier b d _ reads.commits.survives clean) ∙ sym (ap (λ (e : Database). e.trees) (reads.same clean)))
    (λ _ db none. absurd none) once.survives reads.commits.survives

-- ---- a fault of the tables

module _ (made : Stored → Holding) (Changes : Database → Type 0) (wanted : Option Profile) (number : Option ℕ) (a b : State) (old : DataState) (f : StoreFault)
    (s : FailsToSetUp made Changes wanted number a b f) (rests : (file : List ℕ) (z : Stored) → WasOver file z a → RestsAs (StoredFor file z) a)
    (current : HasCleanDisk b → a.in_transaction ≡ false → (c : Content) → HoldsOfSecond c a.now → profile_in c ≡ Plain)
    (out : HasCleanDisk b → (file : List ℕ) (z : Stored) → WasOver file z a → IsReady number file z → IsWantedOf wanted z → IsOutside f)
    (nine : has_nine a.now.schema ≡ true → HasCleanDisk b → (db : Trees) → b.may_leave db → a.may_leave db) where
  pub ready_now : HasCleanDisk b → (z : Stored) → WasFor z (with_data a old) → IsReady number (seen_of z (with_data b old)) z
  ready_now clean z was =
      let file = seen_of z (with_data a old) in
      current_ready file z a.now (rests file z was).holds (current clean was.1) number (seen_of z (with_data b old))

  -- a store with fewer tables is plain
  reached_now : has_nine a.now.schema ≡ false → HasCleanDisk b → (z : Stored) → WasFor z (with_data a old) → (file : List ℕ)
      → (data_of z (with_data b old)).may_leave file → WasOver file z a × IsReady number file z
  reached_now few clean z was file may =
      let over = seen_of z (with_data a old) in
      let at = (rests over z was).holds in
      let plain = current_plain over z a.now at (current clean was.1) few in (
        subst (λ f. WasOver f z a) (sym (plain_seen (profile_of (opened_for z).tree) old old plain file may)) was,
        current_ready over z a.now at (current clean was.1) number file,
      )

  pub crash_now : Survives a b (λ db. (z : Stored) → WasFor z (with_data a old) → LeavesOver z (with_data b old) (made z) db)
  crash_now = elim (cases_Bool (has_nine a.now.schema)) [
    | inl many ↦ survives_by _ a b s.crash (nine many)
    | inr few ↦ crash_over made Changes wanted number a b old old f s (reached_now few)
  ]

  pub fails_now : FailsToOpen made Changes wanted (with_data a old) (with_data b old) f
  fails_now =
      let seen : HasCleanDisk b → (z : Stored) → WasFor z (with_data a old) → WasOver (seen_of z (with_data b old)) z a = λ clean z was. was in
      fails_by made Changes wanted number a b old old f s crash_now (contents_same a b old old (λ c may. may)) seen
      (outside_over made Changes wanted number a b old old f s out seen ready_now) (λ _. untouched_same old)

-- ---- its rows

pub rows_now : (number : Option ℕ) (a b : State) → (HasCleanDisk b → (c : Content) → HoldsOfSecond c a.now → profile_in c ≡ Plain)
    → ((IsToMigrate a.now → ⊥) → LeavesAlone a b) → (HasCleanDisk b → (c : Content) → RestsAs (IsStored c) a → RestsAs (IsOpened None c) b)
    → (HasCleanDisk b → b.in_transaction ≡ false) → Survives a b (λ db. db ≡ b.now.trees) → KeepsRows number a b
rows_now number a b current alone done ended once = record {
  alone = alone;
  opened = λ clean c at.
      let now = done clean c at in
      record {
        is_open = now.is_open;
        autocommit = now.autocommit;
        holds = subst (λ k. IsSecond k b.now) (opened_any c a.now at.holds (current clean c) None number) now.holds;
        committed = now.committed;
      };
  ended = ended;
  once = once;
}

pub named_now : (number : Option ℕ) (a b : State) → (HasCleanDisk b → (c : Content) → HoldsOfSecond c a.now → profile_in c ≡ Plain)
    → (HasCleanDisk b → (c : Content) → RestsAs (IsStored c) a → RestsAs (IsBegun None c) b) → (HasCleanDisk b → b.in_transaction ≡ false)
    → Survives a b (λ db. db ≡ b.now.trees) → KeepsNamed number a b
named_now number a b current done ended once = record {
  begun = λ clean c at.
      let now = done clean c at in
      record {
        is_open = now.is_open;
        autocommit = now.autocommit;
        holds = subst (λ k. IsSecond (cleared k) b.now) (opened_any c a.now at.holds (current clean c) None number) now.holds;
        committed = now.committed;
      };
  ended = ended;
  once = once;
}

-- ---- the data file that was seen

pub data_same : (p : Profile) (old left : DataState) → left.seen ≡ old.seen → (data_for p left).seen ≡ (data_for p old).seen
data_same Plain old left is = refl
data_same Everyday old left is = is

pub data_clean : (p : Profile) (left : DataState) → p ≡ Everyday → IsTrue (data_for p left).is_clean → IsTrue left.is_clean
data_clean Plain left is clean = absurd cc
data_clean Everyday left is clean = clean

pub some_capacity : (o : Option ℕ) → profile_for o ≡ Everyday → IsTrue (is_some o)
some_capacity None is = absurd cc
some_capacity (Some k) is = refl
