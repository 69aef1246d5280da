-- What a call that is a whole transaction does to a keeper over tables.
use Rattle.std.proofs.Common.{◌≡◌, ◌⊎◌, ℕ, Bool, List, Option, None, Result, Ok, Err, OnOk, OnErr, inl, inr, sym, ap, subst, ◌∙◌, IsTrue}
use Rattle.sqlite.specs.Tree.{Trees}
use Rattle.sqlite.specs.State.{State}
use Rattle.fuse_tree.specs.State.{State as TreeState, profile_of}
use Rattle.fuse_rows.specs.Rows.{Rows}
use Rattle.fuse_tree.specs.Rowed.{rowed}
use Rattle.fuse_keeper.specs.History.{History}
use Rattle.fuse_keeper.specs.Stands.{Records, Stands, StandsForEither}
use Rattle.fuse_keeper.specs.KeeperState.{IsFirm, Leaves}
use Rattle.fuse_keeper.specs.Lots.{Lots, SameLots}
use Rattle.fuse_init.specs.declared.profile.Profile.{Profile}
use Rattle.fuse_store_tables.specs.Content.{LeftAs}
use Rattle.fuse_store_tree.specs.Store.{records_of}
use Rattle.fuse_store_tree.specs.Holding.{Holding, HeldFor}
use Rattle.fuse_store_tree.specs.declared.meta.Meta.{Meta}
use Rattle.fuse_store_tree.specs.Knowing.{Knows}
use Rattle.fuse_store_tree.specs.Performing.{OneHolding, HoldingStands}
use Rattle.fuse_store_tree.specs.StoreState.{StoreState, IsHonest, IsUsable, IsAtRest, LeavesEither, ServesStore}
use Rattle.fuse_tree.specs.TheTree.{tree_of}
use Rattle.fuse_store.specs.TableState.{IsOf, HoldsIn, LeavesSome, table_told}
use Rattle.fuse_store.specs.Opening.Stored.{Second}
use Rattle.fuse_store.specs.inner.Leaving.{stored_left}

-- while the connection is open, a crash leaves what was committed
abbrev pub Settled : State → Type 0
Settled s = (db : Trees) → IsTrue s.is_open → s.may_leave db → db ≡ s.committed.trees

-- ---- one thing

pub one_left : OneHolding → (file : List ℕ) (x y : Holding) (db : Trees) → LeftAs (HeldFor file x) db → LeftAs (HeldFor file y) db → x ≡ y
one_left one file x y db (d, held, is) (e, kept, are) = one file x y d held (stored_left file (Second y) d held.held.1.sound (e, kept, are ∙ sym is))

-- where what is known now is right of what was held
abbrev pub KnowsStill : Option Meta → Option Meta → Type 0
KnowsStill m n = (y : Holding) → Knows m (rowed y.tree) → Knows n (rowed y.tree)

pub knowing_so : (m n : Option Meta) (y : Holding) (s : StoreState) → (Knows m (rowed y.tree) → Knows n (rowed y.tree)) → IsAtRest m y s → IsAtRest n y s
knowing_so m n y s knows at = record {
  rests = record {
    is_open = at.rests.is_open;
    autocommit = at.rests.autocommit;
    holds = (at.rests.holds.0, knows at.rests.holds.1);
    committed = at.rests.committed;
  };
  usable = at.usable;
  in_use = at.in_use;
  synced = at.synced;
}

pub holds_at : {p : Profile} → OneHolding → (m : Option Meta) (s : StoreState) (y : Holding) (rows : Rows) (records : Records) → profile_of y.tree ≡ p
    → IsAtRest m y s → IsOf y rows records → HoldsIn p m s rows records
holds_at one m s y rows records own rests is = record {
  holding = y;
  rests = rests;
  alone = λ z held. one s.contents.seen z y s.tables.now held rests.rests.holds.0;
  is_of = is;
  profile = own;
}

-- ---- what stands for a history

pub moved : (p : Profile) (rows x : Rows) (records r : Records) (s : TreeState) (h : History) (t : List ℕ) → x ≡ rows → ((i : ℕ) → r i ≡ records i)
    → Stands (tree_of p) rows records s h t → Stands (tree_of p) x r s h t
moved p rows x records r s h t is are so = record {
  tree = so.tree;
  distinct = so.distinct;
  rows_are = is ∙ so.rows_are;
  right = λ i a found. so.right i a (sym (are i) ∙ found);
  kept = λ i off. are i ∙ so.kept i off;
}

pub stands_on : (p : Profile) (y : Holding) (rows : Rows) (records : Records) (s : TreeState) (h : History) (t : List ℕ) → IsOf y rows records
    → Stands (tree_of p) rows records s h t
    → HoldingStands p y s h t
stands_on p y rows records s h t is so = moved p rows (rowed y.tree) records (records_of y.kept) s h t (sym is.rows_are) (λ i. sym (is.records_are i)) so

pub stands_of : (p : Profile) (y : Holding) (rows : Rows) (records : Records) (s : TreeState) (h : History) (t : List ℕ) → IsOf y rows records → HoldingStands p y s h t
    → Stands (tree_of p) rows records s h t
stands_of p y rows records s h t is so = moved p (rowed y.tree) rows (records_of y.kept) records s h t is.rows_are is.records_are so

-- ---- what a crash leaves

-- the same is held over what a crash leaves of the data file
pub lasts : (m : Option Meta) (y : Holding) (s : StoreState) → IsAtRest m y s → (file : List ℕ) → s.contents.may_leave file → HeldFor file y s.tables.now
lasts m y s at file may = subst (λ f. HeldFor f y s.tables.now) (sym (at.synced file may)) at.rests.holds.0

-- of a store at rest, just what it holds
pub left_now : (m : Option Meta) (s : StoreState) (y : Holding) (db : Trees) (file : List ℕ) → Settled s.tables → IsAtRest m y s → s.tables.may_leave db
    → s.contents.may_leave file → LeftAs (HeldFor file y) db
left_now m s y db file settled at may may_file =
    (s.tables.now, lasts m y s at file may_file, sym (settled db at.rests.is_open may ∙ ap (λ d. d.trees) at.rests.committed))

-- what holds without a condition holds under one
pub under_any : {X E : Type 0} (A B C : Type 0) (r : Result X E) → OnOk r (A → B) → OnOk r (A → C → B)
under_any A B C (Ok x) so = λ a c. so a
under_any A B C (Err e) so = tt

pub firm : (p : Profile) → OneHolding → (m : Option Meta) (s : StoreState) (lot : Option ℕ) (failed : Bool) → Settled s.tables
    → IsFirm (table_told p ⊥ m s lot failed)
firm p one m s lot failed settled rows records at = (
  λ clean db may file may_file.
      record { holding = at.holding; left = left_now m s at.holding db file settled at.rests may may_file; profile = at.profile },
  λ x r left.
      let z = left.these.some.holding in
      let same : z ≡ at.holding = one_left one left.file z at.holding left.trees left.these.some.left
      (left_now m s at.holding left.trees left.file settled at.rests left.may left.may_file) in (
        left.these.is_of.rows_are ∙ ap (λ y. rowed y.tree) same ∙ sym at.is_of.rows_are,
        λ i. left.these.is_of.records_are i ∙ ap (λ y. records_of y.kept i) same ∙ sym (at.is_of.records_are i),
      ),
)

-- what a crash leaves after a call
abbrev pub LeavesMade : Option Meta → (Holding → Holding) → StoreState → StoreState → Type 0
LeavesMade m f a b = IsHonest b → (y : Holding) → IsAtRest m y a → (db : Trees) → b.tables.may_leave db → (file : List ℕ) → b.contents.may_leave file
    → LeavesEither f y db file

-- a call over what is held leaves that, or what it makes of it
module _ (one : OneHolding) (m n : Option Meta) (f : Holding → Holding) (a b : StoreState) (crash : LeavesMade m f a b) (y : Holding) (rests : IsAtRest m y a) where
  whole : (p : Profile) → profile_of y.tree ≡ p → profile_of (f y).tree ≡ p → IsHonest b → (db : Trees) → b.tables.may_leave db → (file : List ℕ)
      → b.contents.may_leave file → LeavesSome p db file
  whole p own made_own clean db may file may_file = elim (crash clean y rests db may file may_file) [
    | inl old ↦ record { holding = y; left = old; profile = own }
    | inr new ↦ record { holding = f y; left = new; profile = made_own }
  ]

  -- what is so of both is so of whatever it leaves
  pub leaves_both : (p : Profile) → profile_of y.tree ≡ p → profile_of (f y).tree ≡ p → (lot : Option ℕ) (failed : Bool) (P : Rows → Records → Type 0) → ((x : Rows) (r : Records) → IsOf y x r → P x r)
      → ((x : Rows) (r : Records) → IsOf (f y) x r → P x r) → Leaves (table_told p ⊥ n b lot failed) P
  leaves_both p own made_own lot failed P before after = (
    whole p own made_own,
    λ x r left.
        let z = left.these.some.holding in
        elim (crash left.clean y rests left.trees left.may left.file left.may_file) [
          | inl old ↦ before x r (subst (λ w. IsOf w x r) (one_left one left.file z y left.trees left.these.some.left old) left.these.is_of)
          | inr new ↦ after x r (subst (λ w. IsOf w x r) (one_left one left.file z (f y) left.trees left.these.some.left new) left.these.is_of)
        ],
  )

  pub leaves_either : (p : Profile) → profile_of y.tree ≡ p → profile_of (f y).tree ≡ p → (lot : Option ℕ) (failed : Bool) (s s' : TreeState) (h h' : History) (t t' : List ℕ) → HoldingStands p y s h t
      → HoldingStands p (f y) s' h' t'
      → Leaves (table_told p ⊥ n b lot failed) (StandsForEither (tree_of p) (record { state = s; history = h; settled = t })
      (record { state = s'; history = h'; settled = t' }))
  leaves_either p own made_own lot failed s s' h h' t t' before after =
      leaves_both p own made_own lot failed (StandsForEither (tree_of p) (record { state = s; history = h; settled = t }) (record { state = s'; history = h'; settled = t' }))
      (λ x r is. inl (stands_of p y x r s h t is before)) (λ x r is. inr (stands_of p (f y) x r s' h' t' is after))

-- ---- what is held after a call

pub kept_held : {p : Profile} {X E : Type 0} → OneHolding → (m n : Option Meta) (f : Holding → Holding) (a b : StoreState) (e : E) (rows : Rows) (records : Records)
    → KnowsStill m n → ServesStore {X = X} m n f a b (Err e) → IsHonest b → IsUsable b → HoldsIn p m a rows records → HoldsIn p n b rows records
kept_held one m n f a b e rows records knows serves clean usable at =
    let y = at.holding in
    holds_at one n b y rows records at.profile (knowing_so m n y b (knows y) (serves.kept clean usable y at.rests)) at.is_of

-- ---- lots

pub same_both : (x a b : Lots) → SameLots x a → SameLots x b → SameLots a b
same_both x a b p q = record {
  numbers = q.numbers ∙ sym p.numbers;
  current = q.current ∙ sym p.current;
  under = λ i. q.under i ∙ sym (p.under i);
}

-- ---- of another value

pub serves_ok : {X Y E : Type 0} (m n : Option Meta) (f : Holding → Holding) (a b : StoreState) (x : X) (y : Y) → ServesStore {E = E} m n f a b (Ok x)
    → ServesStore {E = E} m n f a b (Ok y)
serves_ok m n f a b x y serves = record { honest = serves.honest; crash = serves.crash; kept = tt; done = serves.done }

pub serves_err : {X Y E : Type 0} (m n : Option Meta) (f : Holding → Holding) (a b : StoreState) (e : E) → ServesStore {X = X} m n f a b (Err e)
    → ServesStore {X = Y} m n f a b (Err e)
serves_err m n f a b e serves = record { honest = serves.honest; crash = serves.crash; kept = serves.kept; done = tt }
