-- The lots under which a call leaves the records.
use Rattle.std.proofs.Common.{◌≡◌, ◌<◌, ◌⊎◌, ℕ, ◌==◌, List, [], ◌∷◌, ◌++◌, Bool, true, false, cond, Option, Some, None, inl, inr, Less, ◌||◌}
use Rattle.std.proofs.Common.{refl, sym, ap, arith, ◌∙◌}
use Rattle.std.specs.Ordering.{nat_cmp, match_ordering}
use Rattle.std.proofs.lemmas.Bool.{cases_Bool}
use Rattle.std.proofs.lemmas.Bool.Decides.{nat_tests}
use Rattle.fuse_keeper.specs.Model.{Model}
use Rattle.fuse_answer.specs.Said.{Said}
use Rattle.fuse_keeper.specs.History.{Entry, entry_id, is_seen, unless_seen, kept_of, is_in, ids_in}
use Rattle.fuse_keeper.specs.Lots.{RecordsUnder, TakesLot}
use Rattle.fuse_store_tables.specs.Content.{put_by}
use Rattle.guest_store.specs.Holding.{Holding, records_of, AreBelow, lots_of}
use Rattle.guest_store.specs.Group.{said_of, acted_on, taken, taken_if, taken_by, with_group, without_record, without_settled, with_lot_for, lot_for, prepared}
use Rattle.guest_store.specs.Group.{keeps_nothing, transacted, lot_after, performed}
use Rattle.guest_store.proofs.Finds.{at_id, found_put, found_settled}
use Rattle.guest_store.proofs.Took.{other_by, kept_for}

-- ---- numbers and choices

less : (a b : ℕ) → a < b → nat_cmp a b ≡ Less
less a b low = grind (arith, nat_tests)

put_last : (n : ℕ) (lots : List ℕ) → AreBelow n lots → put_by (λ m. m) n lots ≡ lots ++ n ∷ []
put_last n [] below = refl
put_last n (x ∷ xs) below =
    ap (λ o. match_ordering o (x ∷ put_by (λ m. m) n xs) (n ∷ xs) (n ∷ x ∷ xs)) (less x n below.0) ∙ ap (λ more. x ∷ more) (put_last n xs below.1)

number_is : (a b : ℕ) → (a == b) ≡ true → a ≡ b
number_is a b is = grind (arith, nat_tests)

left_over : (b c : Bool) → b ≡ false → (b || c) ≡ true → c ≡ true
left_over true c off is = absurd cc
left_over false c off is = is

not_this : (a b : ℕ) → a < b → (a == b) ≡ false
not_this a b low = grind (arith, nat_tests)

fresh : (n : ℕ) (lots : List ℕ) → AreBelow n lots → is_in lots n ≡ false
fresh n [] below = refl
fresh n (x ∷ lots) below = ap (λ b. b || is_in lots n) (not_this x n below.0) ∙ fresh n lots below.1

free_then : (b : Bool) (r : Option Said) → (r ≡ None) ⊎ (b ≡ true) → cond b None r ≡ None
free_then true r free = refl
free_then false r (inl none) = none
free_then false r (inr on) = absurd cc

module _ {M : Model} where
  abbrev under : Holding M → ℕ → Option ℕ
  under y i = at_id (λ k. k.lot) y.kept i

  -- ---- a record that is there stays under its lot

  still_by : (r : Option Said) (lot : ℕ) (e : Entry) (y : Holding M) (i : ℕ) (a : Said) → records_of y.kept (entry_id e) ≡ r → records_of y.kept i ≡ Some a
      → (under (taken_by r lot e y).holding i ≡ under y i) × (records_of (taken_by r lot e y).holding.kept i ≡ Some a)
  still_by (Some known) lot e y i a found there = (refl, there)
  still_by None lot e y i a found there = elim (cases_Bool (entry_id e == i)) [
    | inl here ↦ absurd (let none = ap (records_of y.kept) (sym (number_is (entry_id e) i here)) ∙ found in let clash = sym there ∙ none in cc)
    | inr off ↦ (
      found_put (λ k. k.lot) (record { id = entry_id e; lot = lot; said = said_of e y }) y.kept i ∙ ap (λ b. cond b (Some lot) (under y i)) off,
      other_by None lot e y i off ∙ there,
    )
  ]

  still_if : (b : Bool) (lot : ℕ) (e : Entry) (y : Holding M) (i : ℕ) (a : Said) → records_of y.kept i ≡ Some a
      → (under (taken_if b lot e y).holding i ≡ under y i) × (records_of (taken_if b lot e y).holding.kept i ≡ Some a)
  still_if true lot e y i a there = (refl, there)
  still_if false lot e y i a there = still_by (records_of y.kept (entry_id e)) lot e y i a refl there

  group_still : (lot : ℕ) (es : List Entry) (y : Holding M) (i : ℕ) (a : Said) → records_of y.kept i ≡ Some a
      → under (with_group lot es y) i ≡ under y i
  group_still lot [] y i a there = refl
  group_still lot (e ∷ es) y i a there =
      let one = still_if (is_seen M.service e) lot e y i a there in
      group_still lot es (taken lot e y).holding i a one.1 ∙ one.0

  -- ---- a record that comes is under the lot of this start

  -- it is there then, or it is one of those that come later
  abbrev AddsOne : ℕ → Holding M → List Entry → ℕ → Type 0
  AddsOne lot z rest i =
      ((a : Said) × (records_of z.kept i ≡ Some a) × (under z i ≡ Some lot)) ⊎ ((records_of z.kept i ≡ None) × (is_in (ids_in rest) i ≡ true))

  added_if : (b : Bool) (lot : ℕ) (e : Entry) (y : Holding M) (rest : List Entry) (i : ℕ) → is_in (ids_in (unless_seen b e ++ rest)) i ≡ true
      → records_of y.kept i ≡ None → AddsOne lot (taken_if b lot e y).holding rest i
  added_if true lot e y rest i is none = inr (none, is)
  added_if false lot e y rest i is none = elim (cases_Bool (entry_id e == i)) [
    | inl here ↦
        let free : records_of y.kept (entry_id e) ≡ None = ap (records_of y.kept) (number_is (entry_id e) i here) ∙ none in
        let z = acted_on lot e y in
        inl (
          said_of e y,
          ap (λ r. records_of (taken_by r lot e y).holding.kept i) free
              ∙ found_put (λ k. k.said) (record { id = entry_id e; lot = lot; said = said_of e y }) y.kept i
              ∙ ap (λ b. cond b (Some (said_of e y)) (records_of y.kept i)) here,
          ap (λ r. under (taken_by r lot e y).holding i) free
              ∙ found_put (λ k. k.lot) (record { id = entry_id e; lot = lot; said = said_of e y }) y.kept i ∙ ap (λ b. cond b (Some lot) (under y i)) here,
        )
    | inr off ↦ inr (other_by (records_of y.kept (entry_id e)) lot e y i off ∙ none, left_over (entry_id e == i) (is_in (ids_in rest) i) off is)
  ]

  group_added : (lot : ℕ) (es : List Entry) (y : Holding M) (i : ℕ) → is_in (ids_in (kept_of M.service es)) i ≡ true → records_of y.kept i ≡ None
      → under (with_group lot es y) i ≡ Some lot
  group_added lot [] y i is none = absurd cc
  group_added lot (e ∷ es) y i is none = elim (added_if (is_seen M.service e) lot e y (kept_of M.service es) i is none) [
    | inl (a, there, so) ↦ group_still lot es (taken lot e y).holding i a there ∙ so
    | inr (still, later) ↦ group_added lot es (taken lot e y).holding i later still
  ]

  -- ---- the lots that there are

  lots_by : (r : Option Said) (lot : ℕ) (e : Entry) (y : Holding M) → (taken_by r lot e y).holding.lots ≡ y.lots
  lots_by (Some known) lot e y = refl
  lots_by None lot e y = refl

  lots_if : (b : Bool) (lot : ℕ) (e : Entry) (y : Holding M) → (taken_if b lot e y).holding.lots ≡ y.lots
  lots_if true lot e y = refl
  lots_if false lot e y = lots_by (records_of y.kept (entry_id e)) lot e y

  group_lots : (lot : ℕ) (es : List Entry) (y : Holding M) → (with_group lot es y).lots ≡ y.lots
  group_lots lot [] y = refl
  group_lots lot (e ∷ es) y = group_lots lot es (taken lot e y).holding ∙ lots_if (is_seen M.service e) lot e y

  settled_lots : (ids : List ℕ) (y : Holding M) → (without_settled ids y).lots ≡ y.lots
  settled_lots [] y = refl
  settled_lots (id ∷ ids) y = settled_lots ids (without_record id y)

  settled_next : (ids : List ℕ) (y : Holding M) → (without_settled ids y).next_lot ≡ y.next_lot
  settled_next [] y = refl
  settled_next (id ∷ ids) y = settled_next ids (without_record id y)

  all_lots : (lot : Option ℕ) (ids : List ℕ) (es : List Entry) (y : Holding M)
      → (transacted lot ids es y).lots ≡ (with_lot_for lot (without_settled ids y)).lots
  all_lots lot ids es y = group_lots (lot_for lot y) es (prepared lot ids y)

  stays_so : (lot : Option ℕ) (n : ℕ) (ids : List ℕ) (es : List Entry) (y : Holding M) → lot ≡ Some n
      → (◌≡◌ {A = Option ℕ} (Some (lot_for lot y)) (Some n)) × ((transacted lot ids es y).lots ≡ y.lots)
  stays_so None n ids es y is = absurd cc
  stays_so (Some m) n ids es y is = (is, all_lots (Some m) ids es y ∙ settled_lots ids y)

  takes_so : (lot : Option ℕ) (ids : List ℕ) (es : List Entry) (y : Holding M) → AreBelow y.next_lot y.lots → lot ≡ None
      → TakesLot (lots_of lot y) (lots_of (Some (lot_for lot y)) (transacted lot ids es y))
  takes_so (Some m) ids es y below is = absurd cc
  takes_so None ids es y below is = record {
    lot = y.next_lot;
    is_new = fresh y.next_lot y.lots below;
    numbers = all_lots None ids es y ∙ ap (λ n. put_by (λ m. m) n (without_settled ids y).lots) (settled_next ids y)
        ∙ ap (put_by (λ m. m) y.next_lot) (settled_lots ids y) ∙ put_last y.next_lot y.lots below;
    current = refl;
  }

  -- ---- the whole call

  prepared_records : (lot : Option ℕ) (ids : List ℕ) (y : Holding M) (i : ℕ)
      → records_of (prepared lot ids y).kept i ≡ cond (is_in ids i) None (records_of y.kept i)
  prepared_records lot ids y i = ap (λ ks. records_of ks i) (kept_for lot (without_settled ids y)) ∙ found_settled (λ k. k.said) ids y i

  transacted_under : (lot : Option ℕ) (ids : List ℕ) (es : List Entry) (y : Holding M) → AreBelow y.next_lot y.lots
      → RecordsUnder (lots_of lot y) (lots_of (Some (lot_for lot y)) (transacted lot ids es y)) (records_of y.kept) ids (kept_of M.service es)
  transacted_under lot ids es y below = record {
    kept = λ n is. stays_so lot n ids es y is;
    taken = λ is. inl (takes_so lot ids es y below is);
    added = λ i is free. group_added (lot_for lot y) es (prepared lot ids y) i is
        (prepared_records lot ids y i ∙ free_then (is_in ids i) (records_of y.kept i) free);
    others = λ i a there off. group_still (lot_for lot y) es (prepared lot ids y) i a
        (prepared_records lot ids y i ∙ ap (λ b. cond b None (records_of y.kept i)) off ∙ there)
        ∙ ap (λ ks. at_id (λ k. k.lot) ks i) (kept_for lot (without_settled ids y)) ∙ found_settled (λ k. k.lot) ids y i
        ∙ ap (λ b. cond b None (under y i)) off;
  }

  -- where nothing is to be kept, no lot is taken
  nothing_under : (lot : Option ℕ) (y : Holding M) (ids : List ℕ) → RecordsUnder (lots_of lot y) (lots_of lot y) (records_of y.kept) ids []
  nothing_under lot y ids = record {
    kept = λ n is. (is, refl);
    taken = λ is. inr (is, refl);
    added = λ i is free. absurd (cc is);
    others = λ i a there off. refl;
  }

  pub records_under : (lot : Option ℕ) (ids : List ℕ) (es : List Entry) (y : Holding M) → AreBelow y.next_lot y.lots
      → RecordsUnder (lots_of lot y) (lots_of (lot_after lot ids es y) (performed lot ids es y)) (records_of y.kept) ids (kept_of M.service es)
  records_under lot ids es y below = by (kept_of M.service es) ids (transacted_under lot ids es y below)
    where
      by : (kept : List Entry) (settled : List ℕ)
          → RecordsUnder (lots_of lot y) (lots_of (Some (lot_for lot y)) (transacted lot ids es y)) (records_of y.kept) settled kept
          → RecordsUnder (lots_of lot y)
          (lots_of (cond (keeps_nothing kept settled) lot (Some (lot_for lot y))) (cond (keeps_nothing kept settled) y (transacted lot ids es y)))
          (records_of y.kept) settled kept
      by [] [] so = nothing_under lot y []
      by [] (id ∷ settled) so = so
      by (e ∷ kept) settled so = so
