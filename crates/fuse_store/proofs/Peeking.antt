-- A look at what a keeper holds, and a fault of any call.
use Rattle.std.proofs.Common.{◌≡◌, ◌≢◌, ◌≤◌, ◌⊎◌, ◌^◌, ℕ, Bool, true, false, Option, Some, None, Ok, Err, Result, inl, inr, refl, sym, ap, List, ◌∙◌}
use Rattle.std.proofs.lemmas.Bool.{cases_lt}
use Rattle.std.proofs.Common.{subst, IsTrue}
use Rattle.std.specs.Prelude.{◌||◌}
use Rattle.sqlite.specs.Tree.{Trees}
use Rattle.sqlite.specs.State.{State, HasCleanDisk}
use Rattle.fuse_init.specs.declared.profile.Profile.{Profile}
use Rattle.fuse_rows.specs.Rows.{Rows}
use Rattle.fuse_tree.specs.Rowed.{rowed}
use Rattle.fuse_keeper.specs.Stands.{Records}
use Rattle.fuse_keeper.specs.KeeperState.{Called, Looked, AnswersNoMore}
use Rattle.fuse_keeper.specs.declared.fault.StoreFault.{StoreFault}
use Rattle.fuse_data.specs.State.{DataState}
use Rattle.fuse_store_tables.specs.Content.{LeftAs}
use Rattle.fuse_keeper.specs.declared.fault.StoreFault.TheVariants.{Memory, Sql, NotAStore, Version, Damaged, Guest}
use Rattle.fuse_store_tables.specs.Faults.{IsPlain, IsOutside}
use Rattle.fuse_store_tables.specs.Moves.{RestsAs}
use Rattle.fuse_store_tree.specs.Holding.{Holding, HeldFor, lots_of}
use Rattle.fuse_store_tree.specs.Lots.{lots_in, LotsAreSame}
use Rattle.fuse_store_tree.specs.declared.meta.Meta.{Meta}
use Rattle.fuse_store_tree.specs.Performing.{OneHolding}
use Rattle.fuse_store_tree.specs.Pieces.{ReadsData}
use Rattle.fuse_store_tree.specs.Group.{HasLotLeft}
use Rattle.fuse_store_tree.specs.StoreState.{StoreState, IsHonest, IsUsable, IsAtRest, ServesStore, StaysUsable, IsSafeStore}
use Rattle.fuse_store.specs.TableState.{IsOf, HoldsIn, LeavesSome, LeavesWhole, MayLeave, MayAnswer, table_told}
use Rattle.fuse_store.proofs.Serving.{Settled, KnowsStill, knowing_so, lasts, one_left, kept_held, holds_at, same_both}

or_true : (b : Bool) → (b || true) ≡ true
or_true true = refl
or_true false = refl

or_false : (b : Bool) → (b || false) ≡ b
or_false true = refl
or_false false = refl

-- ---- any call

-- where it held something, and what was known of it was right, the fault is one that it may answer
abbrev pub MayWhere : Option Meta → Option ℕ → StoreState → StoreState → StoreFault → Type 0
MayWhere m lot a b e = IsHonest b → (y : Holding) → IsAtRest m y a → MayAnswer m lot a e

outside_may : (m : Option Meta) (lot : Option ℕ) (s : StoreState) (e : StoreFault) → IsOutside e → MayAnswer m lot s e
outside_may m lot s Memory is = tt
outside_may m lot s (Sql e) is = tt
outside_may m lot s NotAStore is = absurd is
outside_may m lot s (Version n) is = absurd is
outside_may m lot s Damaged is = absurd is
outside_may m lot s Guest is = absurd is

pub held_rests : (m : Option Meta) (y : Holding) (s : StoreState) → IsAtRest m y s → RestsAs (HeldFor s.contents.seen y) s.tables
held_rests m y s at =
    record { is_open = at.rests.is_open; autocommit = at.rests.autocommit; holds = at.rests.holds.0; committed = at.rests.committed }

pub may_where : (m : Option Meta) (lot : Option ℕ) (a b : StoreState) (e : StoreFault)
    → (HasCleanDisk b.tables → (y : Holding) → RestsAs (HeldFor a.contents.seen y) a.tables → IsOutside e) → MayWhere m lot a b e
may_where m lot a b e safe clean y at = outside_may m lot a e (safe clean.0 y (held_rests m y a at))

-- a lot is left, or none was taken and no number is left
is_left : (lot : Option ℕ) (y : Holding) → HasLotLeft lot y ⊎ ((lot ≡ None) × (2 ^ 62 ≤ y.next_lot))
is_left (Some n) y = inl (λ none. absurd cc)
is_left None y = elim (cases_lt y.next_lot (2 ^ 62)) [
  | inl low ↦ inl (λ none. low)
  | inr high ↦ inr (refl, high)
]

-- the fault of a group: where a lot is left it says nothing of the store
pub lot_may : OneHolding → (m : Option Meta) (lot : Option ℕ) (a b : StoreState) (e : StoreFault) → IsPlain e
    → (IsHonest b → (y : Holding) → IsAtRest m y a → HasLotLeft lot y → IsOutside e) → MayWhere m lot a b e
lot_may one m lot a b Memory plain safe clean y at = tt
lot_may one m lot a b (Sql e) plain safe clean y at = tt
lot_may one m lot a b NotAStore plain safe clean y at = absurd plain
lot_may one m lot a b (Version n) plain safe clean y at = absurd plain
lot_may one m lot a b Guest plain safe clean y at = absurd plain
lot_may one m lot a b Damaged plain safe clean y at = elim (is_left lot y) [
  | inl left ↦ absurd (safe clean y at left)
  | inr used ↦ record {
    usable = (at.rests.is_open, at.usable);
    none = used.0;
    used_up = λ z there. subst (λ w. 2 ^ 62 ≤ w.next_lot) (one a.contents.seen y z a.tables.now at.rests.holds.0 there.rests.holds.0) used.1;
  }
]

-- what may be answered later could be answered before
still_may : (m n : Option Meta) (lot : Option ℕ) (a b : StoreState) → (IsUsable b → IsUsable a)
    → (IsUsable b → (y : Holding) → IsAtRest m y a → IsAtRest n y b) → (f : StoreFault) → MayAnswer n lot b f
    → MayAnswer m lot a f
still_may m n lot a b was kept Memory may = tt
still_may m n lot a b was kept (Sql e) may = tt
still_may m n lot a b was kept NotAStore may = absurd may
still_may m n lot a b was kept (Version v) may = absurd may
still_may m n lot a b was kept Guest may = absurd may
still_may m n lot a b was kept Damaged may =
    record { usable = was may.usable; none = may.none; used_up = λ y at. may.used_up y (kept may.usable y at) }

-- with a lot, damage is no answer
lotted_may : (m n : Option Meta) (now lot : Option ℕ) (a b : StoreState) (f : StoreFault) → now ≢ None → MayAnswer n now b f → MayAnswer m lot a f
lotted_may m n now lot a b Memory some may = tt
lotted_may m n now lot a b (Sql e) some may = tt
lotted_may m n now lot a b NotAStore some may = absurd may
lotted_may m n now lot a b (Version v) some may = absurd may
lotted_may m n now lot a b Guest some may = absurd may
lotted_may m n now lot a b Damaged some may = absurd (some may.none)

-- a call that changes nothing, or has a lot then
pub took_may : {X : Type 0} (p : Profile) (m n : Option Meta) (f : Holding → Holding) (nothing : Bool) (now lot : Option ℕ) (a b : StoreState) (x : X)
    → (nothing ≡ true → (now ≡ lot) × ((y : Holding) → f y ≡ y)) → (nothing ≡ false → now ≢ None)
    → ServesStore {E = StoreFault} m n f a b (Ok x) → StaysUsable {E = StoreFault} a b (Ok x) → (was is : Bool)
    → AnswersNoMore (table_told p ⊥ m a lot was) (table_told p ⊥ n b now is)
took_may p m n f false now lot a b x same some serves stays was is clean fault may = lotted_may m n now lot a b fault (some refl) may
took_may p m n f true now lot a b x same some serves stays was is clean fault may =
    still_may m n lot a b (stays.was clean)
    (λ usable y at. subst (λ (z : Holding). IsAtRest n z b) ((same refl).1 y) (serves.done clean y at)) fault
    (subst (λ (o : Option ℕ). MayAnswer n o b fault) (same refl).0 may)

pub failed_may : {X : Type 0} (p : Profile) (m n : Option Meta) (f : Holding → Holding) (a b : StoreState) (e : StoreFault) → KnowsStill m n
    → ServesStore {X = X} m n f a b (Err e) → StaysUsable {X = X} a b (Err e) → (lot : Option ℕ) (was is : Bool)
    → AnswersNoMore (table_told p ⊥ m a lot was) (table_told p ⊥ n b lot is)
failed_may p m n f a b e still serves stays lot was is clean fault may =
    still_may m n lot a b (stays.was clean) (λ usable y at. knowing_so m n y b (still y) (serves.kept clean usable y at)) fault may

-- a mount that began has no lot, and where none was taken before, no more is answered
pub begun_may : {X : Type 0} (p : Profile) (m n : Option Meta) (f : Holding → Holding) (a b : StoreState) (x : X) → ((y : Holding) → (f y).next_lot ≡ y.next_lot)
    → ServesStore {E = StoreFault} m n f a b (Ok x) → StaysUsable {E = StoreFault} a b (Ok x)
    → (lot now : Option ℕ) (was is : Bool) → lot ≡ None → AnswersNoMore (table_told p ⊥ m a lot was) (table_told p ⊥ n b now is)
begun_may p m n f a b x same serves stays lot now was is none clean Memory may = tt
begun_may p m n f a b x same serves stays lot now was is none clean (Sql e) may = tt
begun_may p m n f a b x same serves stays lot now was is none clean NotAStore may = absurd may
begun_may p m n f a b x same serves stays lot now was is none clean (Version v) may = absurd may
begun_may p m n f a b x same serves stays lot now was is none clean Guest may = absurd may
begun_may p m n f a b x same serves stays lot now was is none clean Damaged may = record {
  usable = stays.was clean may.usable;
  none = none;
  used_up = λ y at. subst (λ k. 2 ^ 62 ≤ k) (same y) (may.used_up (f y) (serves.done clean y at));
}

pub went_well : {memory : Type 0} {A X : Type 0} → (p : Profile) (m n : Option Meta) (f : Holding → Holding) (a b : StoreState) (x : X) (y : A)
    → ServesStore {E = StoreFault} m n f a b (Ok x)
    → StaysUsable {E = StoreFault} a b (Ok x) → (lot now : Option ℕ) (failed : Bool)
    → Called {A = A} (table_told p memory m a lot failed) (table_told p memory n b now failed) (Ok y)
went_well p m n f a b x y serves stays lot now failed = record {
  failed = sym (or_false failed);
  honest = serves.honest;
  medium = λ memory. memory;
  service = refl;
  clean = λ was clean. (clean, stays.still clean was.1);
  err = tt;
  err_lots = tt;
  fault = λ clean s h t so. tt;
}

pub went_wrong : {memory : Type 0} {A X : Type 0} → (p : Profile) → OneHolding → LotsAreSame → (m n : Option Meta) (f : Holding → Holding) (a b : StoreState) (e : StoreFault)
    → KnowsStill m n → ServesStore {X = X} m n f a b (Err e) → (lot : Option ℕ) → MayWhere m lot a b e → (failed : Bool)
    → Called {A = A} (table_told p memory m a lot failed) (table_told p memory n b lot true) (Err e)
went_wrong p one told m n f a b e still serves lot may failed = record {
  failed = sym (or_true failed);
  honest = serves.honest;
  medium = λ memory. memory;
  service = refl;
  clean = tt;
  err = λ clean rows records at. kept_held one m n f a b e rows records still serves clean.0 clean.1 at;
  err_lots = λ clean rows records at.
      let y = at.holding in
      same_both (lots_of lot y) (lots_in lot a.tables.now) (lots_in lot b.tables.now) (told lot a.contents.seen y a.tables.now at.rests.rests.holds.0)
      (told lot b.contents.seen y b.tables.now (serves.kept clean.0 clean.1 y at.rests).rests.holds.0);
  fault = λ clean s h t so. may clean.0 so.held.holding so.held.rests;
}

-- ---- a look

-- after a call that only reads, a crash leaves the data file as it might before
abbrev pub LeavesFiles : StoreState → StoreState → Type 0
LeavesFiles a b = (file : List ℕ) → b.contents.may_leave file → a.contents.may_leave file

module _ (p : Profile) (one : OneHolding) (m n : Option Meta) (a b : StoreState) (settled : Settled a.tables) (stays : IsTrue a.tables.is_open
    → a.tables.may_leave a.tables.committed.trees) (files : LeavesFiles a b) {X : Type 0} (r : Result X StoreFault)
    (serves : ServesStore m n (λ y. y) a b r) where
  -- what a crash may leave after it
  left_same : (y : Holding) → IsAtRest m y a → IsHonest b → (db : Trees) → b.tables.may_leave db → (file : List ℕ) → b.contents.may_leave file
      → LeftAs (HeldFor file y) db
  left_same y rests clean db may file may_file = elim (serves.crash clean y rests db may file may_file) [
    | inl old ↦ old
    | inr new ↦ new
  ]

  pub whole_still : (rows : Rows) (records : Records) → HoldsIn p m a rows records → LeavesWhole p b
  whole_still rows records at clean db may file may_file =
      record { holding = at.holding; left = left_same at.holding at.rests clean db may file may_file; profile = at.profile }

  -- it might have left that before
  pub left_before : (x : Rows) (q : Records) (rows : Rows) (records : Records) → HoldsIn p m a rows records → MayLeave p b x q → MayLeave p a x q
  left_before x q rows records at left =
      let y = at.holding in
      let same = one_left one left.file left.these.some.holding y left.trees left.these.some.left
      (left_same y at.rests left.clean left.trees left.may left.file left.may_file) in
      record {
        clean = serves.honest left.clean;
        trees = a.tables.committed.trees;
        may = stays at.rests.rests.is_open;
        file = left.file;
        may_file = files left.file left.may_file;
        these = record {
          some = record {
            holding = y;
            left = (a.tables.now, lasts m y a at.rests left.file (files left.file left.may_file), sym (ap (λ d. d.trees) at.rests.rests.committed));
            profile = at.profile;
          };
          is_of = subst (λ z. IsOf z x q) same left.these.is_of;
        };
      }

  pub still_held : (f : X) → r ≡ Ok f → IsHonest b → (rows : Rows) (records : Records) → HoldsIn p m a rows records → HoldsIn p n b rows records
  still_held f is clean rows records at =
      let well : ServesStore {E = StoreFault} m n (λ y. y) a b (Ok f) = subst (λ q. ServesStore m n (λ y. y) a b q) is serves in
      holds_at one n b at.holding rows records at.profile (well.done clean at.holding at.rests) at.is_of

module _ (p : Profile) (one : OneHolding) (told : LotsAreSame) (m : Option Meta) (a b : StoreState) (settled : Settled a.tables)
    (stays : IsTrue a.tables.is_open → a.tables.may_leave a.tables.committed.trees) (files : LeavesFiles a b) where
  -- a call that changes nothing, but may know more then
  pub seen_well : {memory : Type 0} {A X : Type 0} → (n : Option Meta) (x : X) (y : A) → ServesStore {E = StoreFault} m n (λ y. y) a b (Ok x)
      → StaysUsable {E = StoreFault} a b (Ok x) → (lot : Option ℕ) (failed : Bool)
      → Looked {A = A} (table_told p memory m a lot failed) (table_told p memory n b lot failed) (Ok y)
  seen_well n x y serves connection lot failed = record {
    called = went_well p m n (λ z. z) a b x y serves connection lot lot failed;
    may = λ clean f is. still_may m n lot a b (connection.was clean) (λ usable y at. serves.done clean y at) f is;
    same = λ clean rows records at. still_held p one m n a b settled stays files (Ok x) serves x refl clean rows records at;
    lots = λ clean rows records at.
        let y = at.holding in
        same_both (lots_of lot y) (lots_in lot a.tables.now) (lots_in lot b.tables.now) (told lot a.contents.seen y a.tables.now at.rests.rests.holds.0)
        (told lot b.contents.seen y b.tables.now (serves.done clean y at.rests).rests.holds.0);
    whole = λ rows records at was. whole_still p one m n a b settled stays files (Ok x) serves rows records at;
    crash = λ x' q rows records at left. left_before p one m n a b settled stays files (Ok x) serves x' q rows records at left;
  }

  pub seen_wrong : {memory : Type 0} {A X : Type 0} → (n : Option Meta) (e : StoreFault) → KnowsStill m n
      → ServesStore {X = X} m n (λ y. y) a b (Err e) → StaysUsable {X = X} a b (Err e) → (lot : Option ℕ) → MayWhere m lot a b e
      → (failed : Bool) → Looked {A = A} (table_told p memory m a lot failed) (table_told p memory n b lot true) (Err e)
  seen_wrong n e still serves connection lot may failed = record {
    called = went_wrong p one told m n (λ z. z) a b e still serves lot may failed;
    may = failed_may p m n (λ z. z) a b e still serves connection lot failed true;
    same = tt;
    lots = tt;
    whole = λ rows records at was. whole_still p one m n a b settled stays files (Err e) serves rows records at;
    crash = λ x' q rows records at left. left_before p one m n a b settled stays files (Err e) serves x' q rows records at left;
  }
