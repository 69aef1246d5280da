-- An opening that failed, by its calls of the tables and what is left of the data file.
use Rattle.std.proofs.Common.{◌≡◌, ℕ, List, Bool, true, false, Option, None, Result, inl, inr, refl, sym, ap, subst, ◌∙◌, IsTrue}
use Rattle.std.proofs.lemmas.Bool.{cases_Bool}
use Rattle.sqlite.specs.Tree.{Trees}
use Rattle.sqlite.specs.Effect.{Database}
use Rattle.sqlite.specs.State.{State, HasCleanDisk, Survives}
use Rattle.sqlite.proofs.StateLemmas.{survives_weaker, survives_then}
use Rattle.fuse_data.specs.State.{DataState}
use Rattle.fuse_init.specs.declared.profile.Profile.{Profile}
use Rattle.fuse_init.specs.declared.profile.Profile.TheVariants.{Plain, Everyday}
use Rattle.fuse_keeper.specs.declared.fault.StoreFault.{StoreFault}
use Rattle.fuse_keeper.specs.declared.fault.StoreFault.TheVariants.{Memory, Sql, NotAStore, Version, Damaged, Guest}
use Rattle.fuse_tree.specs.State.{profile_of}
use Rattle.fuse_store_tables.specs.Content.{LeftAs}
use Rattle.fuse_store_tables.specs.Faults.{IsOutside}
use Rattle.fuse_store_tables.specs.Moves.{RestsAs, LeavesAlone, OnlyReads, RollsBack}
use Rattle.fuse_store_tables.specs.Saying.{Says, IsRefusal}
use Rattle.fuse_store_tables.specs.ToCount.{SeesTheSame}
use Rattle.fuse_store_tables.specs.inner.Following.{earlier}
use Rattle.fuse_store_tree.specs.Holding.{Holding, HeldFor}
use Rattle.fuse_store_tree.specs.StoreState.{StoreState}
use Rattle.fuse_store.specs.TableState.{data_for}
use Rattle.fuse_store.specs.Opening.{Stored, StoredFor, WasFor, WasOver, IsHonestFor, IsReady, IsUndone, IsWantedOf, FailsToOpen, IsUntouched, LeavesContents, LeavesOver, KeepsStored, data_of, opened_for, seen_of}
use Rattle.fuse_store_tree.specs.inner.Laws.{still_survives}
use Rattle.fuse_store.proofs.Reopening.{back_here, left_here}
use Rattle.fuse_store.proofs.TablesAlone.{with_data}

-- what the tables say of a transaction that failed
pub record FailsToSetUp (made : Stored → Holding) (Changes : Database → Type 0) (wanted : Option Profile) (number : Option ℕ) (a b : State) (f : StoreFault) : Type 0 where
  pub crash : Survives a b (λ db. (file : List ℕ) (z : Stored) → WasOver file z a → IsReady number file z → LeftAs (HeldFor file (made z)) db)
  pub kept : (file : List ℕ) → HasCleanDisk b → IsTrue b.is_open → (z : Stored) → WasOver file z a → RestsAs (StoredFor file z) b
  pub says : HasCleanDisk b → Says a.now f
  pub refused : IsRefusal f → LeavesAlone a b
  pub alone : a.in_transaction ≡ false → (Changes a.now → ⊥) → LeavesAlone a b
  pub ended : HasCleanDisk b → a.in_transaction ≡ false → b.in_transaction ≡ false
  pub undone : IsUndone a b

-- ---- the data file

pub untouched_same : (s : DataState) → IsUntouched s s
untouched_same s = record { seen = refl; leaves = λ c may. may }

-- nothing of it is written
pub contents_same : (a b : State) (old left : DataState) → ((c : List ℕ) → left.may_leave c → old.may_leave c) → LeavesContents (with_data a old) (with_data b left)
contents_same a b old left crash clean z db may = by (profile_of (opened_for z).tree)
  where
    by : (p : Profile) → (c : List ℕ) → (data_for p left).may_leave c → (d : List ℕ) × (data_for p old).may_leave d × KeepsStored z db d c
    by Plain c is = (c, is, λ at. at)
    by Everyday c is = (c, crash c is, λ at. at)

-- a plain store has an empty one
pub plain_seen : (p : Profile) (old left : DataState) → p ≡ Plain → (file : List ℕ) → (data_for p left).may_leave file → file ≡ (data_for p old).seen
plain_seen Plain old left plain file is = is
plain_seen Everyday old left plain file is = absurd cc

pub plain_same : (p : Profile) (old left : DataState) → p ≡ Plain → (data_for p left).seen ≡ (data_for p old).seen
plain_same Plain old left plain = refl
plain_same Everyday old left plain = absurd cc

module _ (made : Stored → Holding) (Changes : Database → Type 0) (wanted : Option Profile) (number : Option ℕ) (a b : State) (old left : DataState) (f : StoreFault)
    (s : FailsToSetUp made Changes wanted number a b f) where
  -- what is seen of the data file then is that of the store
  abbrev Seen : Type 0
  Seen = HasCleanDisk b → (z : Stored) → WasFor z (with_data a old) → WasOver (seen_of z (with_data b left)) z a

  -- and so is what a crash leaves
  abbrev Reached : Type 0
  Reached = HasCleanDisk b → (z : Stored) → WasFor z (with_data a old) → (file : List ℕ) → (data_of z (with_data b left)).may_leave file
      → WasOver file z a × IsReady number file z

  abbrev Crash : Type 0
  Crash = Survives a b (λ db. (z : Stored) → WasFor z (with_data a old) → LeavesOver z (with_data b left) (made z) db)

  abbrev Outside : Type 0
  Outside = (z : Stored) → IsHonestFor z (with_data b left) → WasFor z (with_data a old) → IsWantedOf wanted z → IsOutside f

  pub crash_over : Reached → Crash
  crash_over reached = survives_weaker a b _ _ (λ clean db over z was file may.
      let r = reached clean z was file may in
      over file z r.0 r.1) s.crash

  pub outside_over : (HasCleanDisk b → (file : List ℕ) (z : Stored) → WasOver file z a → IsReady number file z → IsWantedOf wanted z → IsOutside f) → Seen
      → (HasCleanDisk b → (z : Stored) → WasFor z (with_data a old) → IsReady number (seen_of z (with_data b left)) z) → Outside
  outside_over out seen ready = λ z honest was is. out honest.0 (seen_of z (with_data b left)) z (seen honest.0 z was) (ready honest.0 z was) is

  pub fails_by : Crash → LeavesContents (with_data a old) (with_data b left) → Seen → Outside → (IsRefusal f → IsUntouched old left)
      → FailsToOpen made Changes wanted (with_data a old) (with_data b left) f
  fails_by crash contents seen outside untouched = record {
    crash = crash;
    contents = contents;
    kept = λ clean is_open z was. s.kept (seen_of z (with_data b left)) clean is_open z (seen clean z was);
    outside = outside;
    says = s.says;
    refused = s.refused;
    untouched = untouched;
    alone = s.alone;
    ended = s.ended;
    undone = s.undone;
  }

-- ---- calls that only read

-- what a clean disk shows is so whatever else is
pub alone_by : {K : Trees → Type 0} (a b : State) → Survives a b K → (HasCleanDisk b → LeavesAlone a b) → LeavesAlone a b
alone_by a b s so = record {
  survives = record {
    clean = s.clean;
    shield = s.shield;
    counts = s.counts;
    limit = s.limit;
    closes = s.closes;
    crash = λ clean db may. (so clean).survives.crash clean db may;
  };
  autocommit = λ clean. (so clean).autocommit clean;
  same = λ clean is_open. (so clean).same clean is_open;
}

pub survives_by : {K : Trees → Type 0} (P : Trees → Type 0) (a b : State) → Survives a b K → (HasCleanDisk b → (db : Trees) → b.may_leave db → a.may_leave db) → Survives a b P
survives_by P a b s so = record {
  clean = s.clean;
  shield = s.shield;
  counts = s.counts;
  limit = s.limit;
  closes = s.closes;
  crash = λ clean db may. inl (so clean db may);
}

-- a fault from outside says nothing, and refuses nothing
pub says_outside : (d : Database) (f : StoreFault) → IsOutside f → Says d f
says_outside d Memory outside = tt
says_outside d (Sql e) outside = tt
says_outside d NotAStore outside = absurd outside
says_outside d (Version n) outside = absurd outside
says_outside d Damaged outside = absurd outside
says_outside d Guest outside = absurd outside

pub refuses_none : {X : Type 0} (f : StoreFault) → IsOutside f → IsRefusal f → X
refuses_none Memory outside refused = absurd refused
refuses_none (Sql e) outside refused = absurd refused
refuses_none NotAStore outside refused = absurd outside
refuses_none (Version n) outside refused = absurd outside
refuses_none Damaged outside refused = absurd outside
refuses_none Guest outside refused = absurd outside

module _ (made : Stored → Holding) (Changes : Database → Type 0) (wanted : Option Profile) (number : Option ℕ) (a b : State) (f : StoreFault)
    (rests : (file : List ℕ) (z : Stored) → WasOver file z a → RestsAs (StoredFor file z) a)
    (settled : a.in_transaction ≡ false → IsTrue a.is_open → a.now ≡ a.committed) (outside : IsOutside f) where
  -- a read failed
  module _ {X E : Type 0} (r : Result X E) (reads : OnlyReads a b r) where
    now : HasCleanDisk b → IsTrue b.is_open → IsTrue a.is_open → a.in_transaction ≡ false → b.now ≡ a.committed
    now clean is_open was none = elim (reads.seen clean is_open) [
      | inl is ↦ is ∙ settled none was
      | inr back ↦ back
    ]

    pub read_alone : a.in_transaction ≡ false → LeavesAlone a b
    read_alone none = record {
      survives = reads.commits.survives;
      autocommit = λ clean. reads.outside clean none;
      same = λ clean is_open.
          let was = (reads.commits.kept clean).was_open is_open in
          let same = (reads.commits.kept clean).committed is_open in
          (was, same, now clean is_open was none ∙ sym same);
    }

    pub read_failed : FailsToSetUp made Changes wanted number a b f
    read_failed = record {
      crash = survives_weaker a b _ _ (λ _ db none. absurd none) reads.commits.survives;
      kept = λ file clean is_open z was.
          let at = rests file z was in
          let same = (reads.commits.kept clean).committed is_open in
          let is = now clean is_open at.is_open at.autocommit in
          record {
            is_open = is_open;
            autocommit = reads.outside clean at.autocommit;
            holds = subst (StoredFor file z) (sym (is ∙ at.committed)) at.holds;
            committed = same ∙ sym is;
          };
      says = λ clean. says_outside a.now f outside;
      refused = λ refused. refuses_none f outside refused;
      alone = λ none other. read_alone none;
      ended = λ clean none. reads.outside clean none;
      undone = record {
        seen = λ none clean is_open.
            let was = (reads.commits.kept clean).was_open is_open in
            (now clean is_open was none, (reads.commits.kept clean).committed is_open);
        trees = a.now.trees;
        once = survives_weaker a b _ _ (λ _ db none. absurd none) reads.commits.survives;
      };
    }

  -- nothing was asked
  pub nothing_failed : FailsToSetUp made Changes wanted number a a f
  nothing_failed = record {
    crash = still_survives a _;
    kept = λ file clean is_open z was. rests file z was;
    says = λ clean. says_outside a.now f outside;
    refused = λ refused. refuses_none f outside refused;
    alone = λ none other. left_here a none (settled none);
    ended = λ clean none. none;
    undone = record { seen = λ none. back_here a (settled none); trees = a.now.trees; once = still_survives a _ };
  }

-- ---- after a look that changes nothing

pub was_later : (a b : State) → HasCleanDisk b → SeesTheSame a b → (IsTrue a.is_open → IsTrue b.is_open) → (file : List ℕ) (z : Stored) → WasOver file z a → WasOver file z b
was_later a b clean same still file z was =
    (still was.0, same.mode clean ∙ was.1, subst (λ (d : Database). LeftAs (StoredFor file z) d.trees) (sym (same.committed clean)) was.2)

pub alone_after : {K : Trees → Type 0} (a b d : State) → Survives a b (λ _. ⊥) → SeesTheSame a b → (HasCleanDisk b → IsTrue b.is_open → IsTrue a.is_open) → Survives b d K
    → (HasCleanDisk d → LeavesAlone b d) → LeavesAlone a d
alone_after a b d first same was second alone =
    alone_by a d (survives_then a b d _ _ (λ _. Unit {0}) (λ _ db none. tt) (λ _ db k. tt) first second) (λ clean.
    let mid = earlier b d _ second clean in
    let on = alone clean in
    record {
      survives = survives_then a b d _ _ _ (λ _ db none. none) (λ _ db none. none) first on.survives;
      autocommit = on.autocommit;
      same = λ now is_open.
          let it = on.same now is_open in
          (was mid it.0, it.1 ∙ same.committed mid, it.2);
    })

pub undone_after : (a b d : State) → Survives a b (λ _. ⊥) → SeesTheSame a b → IsUndone b d → IsUndone a d
undone_after a b d first same u = record {
  seen = λ outside clean is_open.
      let mid = earlier b d _ u.once clean in
      let back = u.seen (same.mode mid ∙ outside) clean is_open in
      (back.0 ∙ same.committed mid, back.1 ∙ same.committed mid);
  trees = u.trees;
  once = survives_then a b d _ _ _ (λ _ db none. absurd none) (λ _ db is. is) first u.once;
}

module _ (made : Stored → Holding) (Changes : Database → Type 0) (wanted : Option Profile) (a b : State) (old : DataState) (left : StoreState) (f : StoreFault)
    (first : Survives a b (λ _. ⊥)) (same : SeesTheSame a b) (was : HasCleanDisk b → IsTrue b.is_open → IsTrue a.is_open)
    (still : HasCleanDisk b → IsTrue a.is_open → IsTrue b.is_open) (it : FailsToOpen made Changes wanted (with_data b old) left f) where
  mid : HasCleanDisk left.tables → HasCleanDisk b
  mid clean = earlier b left.tables _ it.crash clean

  later : (clean : HasCleanDisk left.tables) (z : Stored) → WasFor z (with_data a old) → WasFor z (with_data b old)
  later clean z at = was_later a b (mid clean) same (still (mid clean)) (seen_of z (with_data a old)) z at

  pub fails_after : FailsToOpen made Changes wanted (with_data a old) left f
  fails_after = record {
    crash = survives_then a b left.tables _ _ _ (λ _ db none. absurd none) (λ clean db over z at. over z (later clean z at)) first it.crash;
    contents = λ clean z db may. it.contents clean z db (same.leaves (mid clean) db may);
    kept = λ clean is_open z at. it.kept clean is_open z (later clean z at);
    outside = λ z honest at is. it.outside z honest (later honest.0 z at) is;
    says = λ clean. subst (λ (d : Database). Says d f) (same.now (mid clean)) (it.says clean);
    refused = λ refusal. alone_after a b left.tables first same was it.crash (λ clean. it.refused refusal);
    untouched = it.untouched;
    alone = λ outside other.
        alone_after a b left.tables first same was it.crash (λ clean.
        it.alone (same.mode (mid clean) ∙ outside) (λ changes. other (subst (λ (d : Database). Changes d) (same.now (mid clean)) changes)));
    ended = λ clean outside. it.ended clean (same.mode (mid clean) ∙ outside);
    undone = undone_after a b left.tables first same it.undone;
  }

-- ---- a transaction, or none

-- what was left before, by whether a transaction is open
pub left_before : (a b : State) → (a.in_transaction ≡ true → (db : Trees) → b.may_leave db → a.may_leave db) → (a.in_transaction ≡ false → LeavesAlone a b) → HasCleanDisk b
    → (db : Trees) → b.may_leave db → a.may_leave db
left_before a b busy alone clean db may = elim (cases_Bool a.in_transaction) [
  | inl inside ↦ busy inside db may
  | inr none ↦ elim ((alone none).survives.crash clean db may) [
    | inl first ↦ first
    | inr never ↦ absurd never
  ]
]

pub read_left : (a b : State) → Survives a b (λ _. ⊥) → HasCleanDisk b → (db : Trees) → b.may_leave db → a.may_leave db
read_left a b survives clean db may = elim (survives.crash clean db may) [
  | inl first ↦ first
  | inr never ↦ absurd never
]
