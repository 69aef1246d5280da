-- What a call that is a whole transaction does to a keeper of a guest.
use Rattle.std.proofs.Common.{◌≡◌, ℕ, Bool, map, Option, Result, Ok, Err, OnOk, inl, inr, refl, sym, ap, subst, ◌∙◌, IsTrue}
use Rattle.sqlite.specs.Tree.{Trees}
use Rattle.sqlite.specs.Effect.{Database}
use Rattle.sqlite.specs.State.{State}
use Rattle.fuse_keeper.specs.Stands.{Records, Standing, Stands, StandsAt, StandsForEither}
use Rattle.fuse_keeper.specs.KeeperState.{IsFirm, Leaves}
use Rattle.fuse_keeper.specs.Lots.{Lots, SameLots}
use Rattle.fuse_keeper.specs.declared.fault.StoreFault.{StoreFault}
use Rattle.fuse_guest.specs.Talk.{Guest}
use Rattle.fuse_guest.specs.Pairs.{ArePairs}
use Rattle.fuse_guest.specs.GuestModel.{GuestState, guest_model}
use Rattle.fuse_store_tables.specs.Content.{LeftAs}
use Rattle.guest_tables.specs.Holding.{GuestHolding, holding_in}
use Rattle.guest_tables.specs.PairSteps.{StepsFit}
use Rattle.guest_tables.specs.Reading.{HoldingsAreRead, holding_read, counter_in, pair_in, lot_in, kept_in}
use Rattle.guest_store.specs.Holding.{records_of, content_of, lots_as, lots_of, AreBelow}
use Rattle.guest_store.specs.StoreState.{HeldOf, StoreState, IsHonest, IsAtRest, StoredFor, LeavesEither, ServesStore, held_as, holding_of}
use Rattle.guest_store.specs.TableState.{IsOf, HoldsIn, LeavesWhole, lots_in, guest_told}

-- while the connection is open, a crash leaves what was committed
abbrev pub Settled : State → Type 0
Settled s = (db : Trees) → IsTrue s.is_open → s.may_leave db → db ≡ s.committed.trees

-- ---- one thing

-- what is read off the trees of a database
abbrev read_of : Trees → GuestHolding
read_of trees =
    holding_in (record { counters = map counter_in (trees 0); pairs = map pair_in (trees 1); lots = map lot_in (trees 3); kept = map kept_in (trees 4) })

pub one_left : HoldingsAreRead → (G : Guest) (m n : ℕ) (x y : HeldOf G) (db : Trees) → LeftAs (StoredFor G m x) db → LeftAs (StoredFor G n y) db → x ≡ y
one_left read G m n x y db (d, held, is) (e, kept, are) =
    ap (holding_of G) (sym (read (held_as G m x) d held.held) ∙ ap read_of (is ∙ sym are) ∙ read (held_as G n y) e kept.held)

pub holds_at : HoldingsAreRead → (G : Guest) (s : State) (n : ℕ) (y : HeldOf G) (rows : GuestState) (records : Records) → IsAtRest G n y s
    → IsOf G y rows records → HoldsIn G s rows records
holds_at read G s n y rows records rests is =
    record { number = n; holding = y; rests = rests; is_of = is; read = read (held_as G n y) s.now rests.holds.held }

pub its_own : (G : Guest) (y : HeldOf G) → IsOf G y y.state (records_of y.kept)
its_own G y = record { rows_are = refl; records_are = λ i. refl }

-- what is held is of a good state, and its lots are below the next one
pub good_held : StepsFit → (G : Guest) (n : ℕ) (y : HeldOf G) (d : Database) → StoredFor G n y d → ArePairs y.state.pairs
good_held fits G n y d at =
    let (c, held, fit, is) = at.held in
    subst (λ (h : GuestHolding). ArePairs h.state.pairs) is (fits.pairs c fit)

pub below_held : (G : Guest) (n : ℕ) (y : HeldOf G) (d : Database) → StoredFor G n y d → AreBelow y.next_lot y.lots
below_held G n y d at =
    let (c, held, fit, is) = at.held in
    subst (λ (h : GuestHolding). AreBelow h.next_lot h.lots) is fit.meta.lots

-- ---- what stands for a history

pub moved : (G : Guest) (rows x : GuestState) (records r : Records) (at : Standing (guest_model G)) → x ≡ rows → ((i : ℕ) → r i ≡ records i)
    → Stands (guest_model G) rows records at.state at.history at.settled → Stands (guest_model G) x r at.state at.history at.settled
moved G rows x records r at is are so = record {
  tree = so.tree;
  distinct = so.distinct;
  rows_are = is ∙ so.rows_are;
  right = λ i a found. so.right i a (sym (are i) ∙ found);
  kept = λ i off. are i ∙ so.kept i off;
}

-- the holding stands for it
abbrev pub HoldingStands : (G : Guest) → HeldOf G → Standing (guest_model G) → Type 0
HoldingStands G y at = StandsAt (guest_model G) (content_of (guest_model G) y) at

pub stands_on : (G : Guest) (y : HeldOf G) (rows : GuestState) (records : Records) (at : Standing (guest_model G)) → IsOf G y rows records
    → Stands (guest_model G) rows records at.state at.history at.settled → HoldingStands G y at
stands_on G y rows records at is so = moved G rows y.state records (records_of y.kept) at (sym is.rows_are) (λ i. sym (is.records_are i)) so

pub stands_of : (G : Guest) (y : HeldOf G) (rows : GuestState) (records : Records) (at : Standing (guest_model G)) → IsOf G y rows records
    → HoldingStands G y at → Stands (guest_model G) rows records at.state at.history at.settled
stands_of G y rows records at is so = moved G y.state rows (records_of y.kept) records at is.rows_are is.records_are so

-- ---- what a crash leaves

-- of a store at rest, just what it holds
pub left_now : (G : Guest) (s : State) (n : ℕ) (y : HeldOf G) (db : Trees) → Settled s → IsAtRest G n y s → s.may_leave db → LeftAs (StoredFor G n y) db
left_now G s n y db settled at may = (s.now, at.holds, sym (settled db at.is_open may ∙ ap (λ d. d.trees) at.committed))

-- what holds without a condition holds under one
pub under_any : {X E : Type 0} (A B C : Type 0) (r : Result X E) → OnOk r (A → B) → OnOk r (A → C → B)
under_any A B C (Ok x) so = λ a c. so a
under_any A B C (Err e) so = tt

pub firm : HoldingsAreRead → (G : Guest) (s : StoreState) (lot : Option ℕ) (failed : Bool) → Settled s.tables → IsFirm (guest_told G s lot failed)
firm read G s lot failed settled rows records at = (
  λ clean db may. record { number = at.number; holding = at.holding; left = left_now G s.tables at.number at.holding db settled at.rests may },
  λ x r left.
      let same : left.some.holding ≡ at.holding = one_left read G left.some.number at.number left.some.holding at.holding left.trees left.some.left
      (left_now G s.tables at.number at.holding left.trees settled at.rests left.may) in (
        left.is_of.rows_are ∙ ap (λ (y : HeldOf G). y.state) same ∙ sym at.is_of.rows_are,
        λ i. left.is_of.records_are i ∙ ap (λ (y : HeldOf G). records_of y.kept i) same ∙ sym (at.is_of.records_are i),
      ),
)

-- what a crash leaves after a call
abbrev pub LeavesMade : (G : Guest) → (HeldOf G → HeldOf G) → StoreState → StoreState → Type 0
LeavesMade G f a b = IsHonest G b → (n : ℕ) (y : HeldOf G) → IsAtRest G n y a.tables → (db : Trees) → b.tables.may_leave db → LeavesEither G f n y db

-- a call over what is held leaves that, or what it makes of it
module _ (read : HoldingsAreRead) (G : Guest) (f : HeldOf G → HeldOf G) (a b : StoreState) (crash : LeavesMade G f a b) (n : ℕ) (y : HeldOf G) (rests : IsAtRest G n y a.tables) where
  whole : LeavesWhole G b
  whole clean db may = elim (crash clean n y rests db may) [
    | inl old ↦ record { number = n; holding = y; left = old }
    | inr new ↦ record { number = n; holding = f y; left = new }
  ]

  -- what is so of both is so of whatever it leaves
  pub leaves_both : (lot : Option ℕ) (failed : Bool) (P : GuestState → Records → Type 0) → (IsHonest G b → (x : GuestState) (r : Records) → IsOf G y x r → P x r)
      → (IsHonest G b → (x : GuestState) (r : Records) → IsOf G (f y) x r → P x r) → Leaves (guest_told G b lot failed) P
  leaves_both lot failed P before after = (
    whole,
    λ x r left.
        let z = left.some.holding in
        elim (crash left.clean n y rests left.trees left.may) [
          | inl old ↦ before left.clean x r (subst (λ (w : HeldOf G). IsOf G w x r) (one_left read G left.some.number n z y left.trees left.some.left old) left.is_of)
          | inr new ↦ after left.clean x r (subst (λ (w : HeldOf G). IsOf G w x r) (one_left read G left.some.number n z (f y) left.trees left.some.left new) left.is_of)
        ],
  )

  pub leaves_either : (lot : Option ℕ) (failed : Bool) (first second : Standing (guest_model G)) → HoldingStands G y first
      → (IsHonest G b → HoldingStands G (f y) second)
      → Leaves (guest_told G b lot failed) (StandsForEither (guest_model G) first second)
  leaves_either lot failed first second before after =
      leaves_both lot failed (StandsForEither (guest_model G) first second)
      (λ clean x r is. inl (stands_of G y x r first is before)) (λ clean x r is. inr (stands_of G (f y) x r second is (after clean)))

-- ---- what is held after a call

pub kept_held : {X : Type 0} → HoldingsAreRead → (G : Guest) (f : HeldOf G → HeldOf G) (a b : StoreState) (e : StoreFault) (rows : GuestState) (records : Records)
    → ServesStore {X = X} G f a b (Err e) → IsHonest G b → IsTrue b.tables.is_open → HoldsIn G a.tables rows records → HoldsIn G b.tables rows records
kept_held read G f a b e rows records serves clean usable at =
    holds_at read G b.tables at.number at.holding rows records (serves.kept clean usable at.number at.holding at.rests) at.is_of

-- ---- lots

pub lots_same : HoldingsAreRead → (G : Guest) (lot : Option ℕ) (n : ℕ) (y : HeldOf G) (d : Database) → StoredFor G n y d → SameLots (lots_of lot y) (lots_in lot d)
lots_same read G lot n y d at =
    let same : holding_read d ≡ held_as G n y = read (held_as G n y) d at.held in
    record {
      numbers = ap (λ (h : GuestHolding). h.lots) same;
      current = refl;
      under = λ i. ap (λ (h : GuestHolding). (lots_as lot h.lots h.kept).under i) same;
    }

pub same_both : (x a b : Lots) → SameLots x a → SameLots x b → SameLots a b
same_both x a b p q = record {
  numbers = q.numbers ∙ sym p.numbers;
  current = q.current ∙ sym p.current;
  under = λ i. q.under i ∙ sym (p.under i);
}
