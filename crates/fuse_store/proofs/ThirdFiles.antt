-- An opening of an everyday store of version 2 that failed, by what is left of its data file.
use Rattle.std.proofs.Common.{arith, ◌≡◌, ℕ, List, [], true, false, Option, None, Some, inl, inr, refl, sym, subst, ◌∙◌, IsTrue, ◌+◌, ap, slice_index}
use Rattle.std.specs.Prelude.{◌<◌, ◌^◌}
use Rattle.sqlite.specs.Tree.{Trees}
use Rattle.sqlite.specs.Effect.{Database}
use Rattle.sqlite.specs.State.{State, HasCleanDisk, Survives}
use Rattle.sqlite.proofs.StateLemmas.{survives_weaker}
use Rattle.sqlite_disk.specs.Disk.{Only}
use Rattle.sqlite_disk.specs.declared.Disk.{Ghosts as DiskGhosts}
use Rattle.fuse_data.specs.State.{DataState}
use Rattle.fuse_data.specs.Header.{header_of}
use Rattle.fuse_data.specs.declared.data_file.DataFile.{DataFile}
use Rattle.fuse_init.specs.declared.profile.Profile.{Profile}
use Rattle.fuse_keeper.specs.declared.fault.StoreFault.{StoreFault}
use Rattle.fuse_store_tables.specs.Faults.{IsOutside}
use Rattle.fuse_store_tables.specs.Moves.{RestsAs}
use Rattle.fuse_store_tables.specs.Readying.{LeavesReadied}
use Rattle.fuse_store_tables.specs.ToCount.{IsOfSecond}
use Rattle.fuse_store_tree.specs.Holding.{Holding}
use Rattle.fuse_store.specs.declared.third_data.ThirdData.{ThirdData}
use Rattle.fuse_store.specs.TableKeeper.{disk_in}
use Rattle.fuse_store.specs.inner.Opened.{FollowsAny}
use Rattle.fuse_store.specs.inner.ThirdData.{MakesThird, LeavesThird, disk_or, left_disk}
use Rattle.fuse_store.specs.Opening.{Stored, StoredFor, FailsToOpen, HasFileFor, IsReady, IsWantedOf, WasFor, WasOver, seen_of}
use Rattle.fuse_store.proofs.FailedOpenings.{FailsToSetUp, contents_same, crash_over, fails_by, outside_over, refuses_none, untouched_same}
use Rattle.fuse_store.proofs.SecondOpenings.{contents_second, reached_second, seen_second, was_seen}
use Rattle.fuse_store.proofs.TablesAlone.{with_data}

-- a file with the header of a store
pub some_file : (n : ℕ) → n < 2 ^ 63 → (file : List ℕ) × HasFileFor (Some n) file
some_file n low = (header_of n, (record { within = omega arith; each = λ i within. let same : 0 + i ≡ i = omega arith in ap (slice_index (header_of n)) same }, low))

module _ (made : Stored → Holding) (Changes : Database → Type 0) (wanted : Option Profile) (number : Option ℕ) (a b : State) (f : StoreFault)
    (s : FailsToSetUp made Changes wanted number a b f) (rests : (file : List ℕ) (z : Stored) → WasOver file z a → RestsAs (StoredFor file z) a)
    (second : HasCleanDisk a → IsOfSecond a.now.schema) (before : HasCleanDisk b → HasCleanDisk a)
    (was : HasCleanDisk a → IsTrue a.is_open × (a.in_transaction ≡ false)) (settled : (db : Trees) → IsTrue a.is_open → a.may_leave db → db ≡ a.committed.trees)
    (out : HasCleanDisk b → (file : List ℕ) (z : Stored) → WasOver file z a → IsReady number file z → IsWantedOf wanted z → IsOutside f) (old : DataState) where
  abbrev Fails : DataState → Type 0
  Fails left = FailsToOpen made Changes wanted (with_data a old) (with_data b left) f

  -- a test failed, and nothing was written
  second_refused : Survives a b (λ _. ⊥) → (file : List ℕ) × HasFileFor number file → Fails old
  second_refused alone some =
      let other : DataState = record { seen = some.0; may_leave = λ c. ⊥; is_clean = true; is_usable = true; gaps = [] } in
      fails_by made Changes wanted number a b old old f s (survives_weaker a b _ _ (λ _ db none. absurd none) alone) (contents_same a b old old (λ c may. may))
      (λ clean z at. at)
      (λ z honest at is.
      let r = seen_second a rests second old number b other some.1 (before honest.0) z at in
      out honest.0 (seen_of z (with_data b other)) z r.0 r.1 is) (λ _. untouched_same old)

  -- it could not be made
  second_unmade : (left : DataState) → IsOutside f → FollowsAny old.may_leave left.may_leave → Survives a b (λ _. ⊥) → Fails left
  second_unmade left outside follows alone =
      fails_by made Changes wanted number a b old left f s (survives_weaker a b _ _ (λ _ db none. absurd none) alone)
      (contents_second a rests second old b left before was settled follows) (λ clean z at. was_seen a rests second old (before clean) b left z at)
      (λ z honest at is. outside) (λ refused. refuses_none f outside refused)

  -- it was made, and the commit failed
  second_made : (new : DataState) → IsOutside f → HasFileFor number new.seen → Only new.seen new.may_leave → FollowsAny old.may_leave new.may_leave → Fails new
  second_made new outside header synced follows =
      let seen : HasCleanDisk b → (z : Stored) → WasFor z (with_data a old)
      → WasOver (seen_of z (with_data b new)) z a × IsReady number (seen_of z (with_data b new)) z =
      λ clean z at. seen_second a rests second old number b new header (before clean) z at in
      fails_by made Changes wanted number a b old new f s
      (crash_over made Changes wanted number a b old new f s
      (λ clean z at. reached_second a rests second old number b new header (before clean) synced z at))
      (contents_second a rests second old b new before was settled follows) (λ clean z at. (seen clean z at).0) (λ z honest at is. outside)
      (λ refused. refuses_none f outside refused)

module _ {D : Type 0} (h : DiskGhosts D) (x y : ThirdData D) (made : Stored → Holding) (Changes : Database → Type 0) (wanted : Option Profile) (a b : State) (f : StoreFault)
    (s : FailsToSetUp made Changes wanted (Some x.number.value) a b f) (rests : (file : List ℕ) (z : Stored) → WasOver file z a → RestsAs (StoredFor file z) a)
    (second : HasCleanDisk a → IsOfSecond a.now.schema) (before : HasCleanDisk b → HasCleanDisk a)
    (was : HasCleanDisk a → IsTrue a.is_open × (a.in_transaction ≡ false)) (settled : (db : Trees) → IsTrue a.is_open → a.may_leave db → db ≡ a.committed.trees)
    (out : HasCleanDisk b → (file : List ℕ) (z : Stored) → WasOver file z a → IsReady (Some x.number.value) file z → IsWantedOf wanted z → IsOutside f) where
  abbrev FailsOn : Option D → Type 0
  FailsOn disk = FailsToOpen made Changes wanted (with_data a (disk_in h x.disk)) (with_data b (disk_in h disk)) f

  pub second_left : x.file ≡ None → (file : List ℕ) × HasFileFor (Some x.number.value) file → LeavesReadied (MakesThird h) (LeavesThird h) (Survives a b (λ _. ⊥)) x y f
      → FailsOn (left_disk y)
  second_left none some (inl same) =
      subst (λ (w : ThirdData D). FailsOn (left_disk w)) (sym same.0)
      (subst (λ (o : Option (DataFile D)). FailsOn (disk_or o x.disk)) (sym none)
      (second_refused made Changes wanted (Some x.number.value) a b f s rests second before was settled out (disk_in h x.disk) same.1 some))
  second_left none some (inr (outside, inl (left, alone))) =
      subst (λ (o : Option (DataFile D)). FailsOn (disk_or o y.disk)) (sym (left.file ∙ none))
      (second_unmade made Changes wanted (Some x.number.value) a b f s rests second before was settled out (disk_in h x.disk) (disk_in h y.disk) outside left.follows alone)
  second_left none some (inr (outside, inr (file, is, it))) =
      subst (λ (o : Option (DataFile D)). FailsOn (disk_or o y.disk)) (sym is)
      (second_made made Changes wanted (Some x.number.value) a b f s rests second before was settled out (disk_in h x.disk) (disk_in h (Some file.disk)) outside it.header it.synced
      it.follows)

-- begun with this number and this disk
pub second_of : {D : Type 0} (h : DiskGhosts D) (x y : ThirdData D) (number : Option ℕ) (disk : Option D) → Some x.number.value ≡ number → x.disk ≡ disk → x.file ≡ None
    → (made : Stored → Holding) (Changes : Database → Type 0) (wanted : Option Profile) (a b : State) (f : StoreFault)
    → FailsToSetUp made Changes wanted number a b f → ((file : List ℕ) (z : Stored) → WasOver file z a → RestsAs (StoredFor file z) a)
    → (HasCleanDisk a → IsOfSecond a.now.schema) → (HasCleanDisk b → HasCleanDisk a) → (HasCleanDisk a → IsTrue a.is_open × (a.in_transaction ≡ false))
    → ((db : Trees) → IsTrue a.is_open → a.may_leave db → db ≡ a.committed.trees)
    → (HasCleanDisk b → (file : List ℕ) (z : Stored) → WasOver file z a → IsReady number file z → IsWantedOf wanted z → IsOutside f)
    → (file : List ℕ) × HasFileFor number file → LeavesReadied (MakesThird h) (LeavesThird h) (Survives a b (λ _. ⊥)) x y f
    → FailsToOpen made Changes wanted (with_data a (disk_in h disk)) (with_data b (disk_in h (left_disk y))) f
second_of {D = D} h x y number disk number_is disk_is none made Changes wanted a b f s rests second before was settled out some left =
    subst (λ (o : Option D). FailsToOpen made Changes wanted (with_data a (disk_in h o)) (with_data b (disk_in h (left_disk y))) f) disk_is
    (second_left h x y made Changes wanted a b f (subst (λ n. FailsToSetUp made Changes wanted n a b f) (sym number_is) s) rests second before was settled
    (subst (λ n. HasCleanDisk b → (file : List ℕ) (z : Stored) → WasOver file z a → IsReady n file z → IsWantedOf wanted z → IsOutside f) (sym number_is) out) none
    (subst (λ n. (file : List ℕ) × HasFileFor n file) (sym number_is) some) left)
