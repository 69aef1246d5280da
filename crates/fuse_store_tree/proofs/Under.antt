-- The lots under which a call leaves the records.
use Rattle.std.proofs.Common.{◌≡◌, ◌<◌, ◌⊎◌, ℕ, ◌==◌, List, [], ◌∷◌, ◌++◌, Bool, true, false, cond, Option, Some, None, inl, inr, ◌||◌}
use Rattle.std.proofs.Common.{refl, sym, ap, arith, ◌∙◌}
use Rattle.std.proofs.lemmas.Bool.{cases_Bool}
use Rattle.std.proofs.lemmas.Bool.Decides.{nat_tests}
use Rattle.fuse_request.specs.Opcodes.{Service}
use Rattle.fuse_answer.specs.Said.{Said}
use Rattle.fuse_keeper.specs.History.{Entry, entry_id, is_seen, unless_seen, kept_of, is_in, ids_in}
use Rattle.fuse_keeper.specs.Lots.{RecordsUnder, TakesLot}
use Rattle.fuse_store_tables.specs.Content.{put_by}
use Rattle.fuse_store_tree.specs.Store.{records_of}
use Rattle.fuse_store_tree.proofs.Described.{put_last}
use Rattle.fuse_store_tree.specs.Holding.{Holding, AreBelow, lots_of}
use Rattle.fuse_store_tree.specs.Group.{said_of, acted_on, taken, taken_if, taken_by, with_group, without_record, without_settled, with_lot_for, lot_for, prepared}
use Rattle.fuse_store_tree.specs.Group.{keeps_nothing, transacted, lot_after, performed}
use Rattle.fuse_store_tree.proofs.Finds.{at_id, found_put, found_settled}
use Rattle.fuse_store_tree.proofs.Took.{other_by, kept_for}

abbrev under : Holding → ℕ → Option ℕ
under y i = at_id (λ k. k.lot) y.kept i

number_is : (a b : ℕ) → (a == b) ≡ true → a ≡ b
number_is a b is = grind (arith, nat_tests)

-- ---- a record that is there stays under its lot

still_by : (r : Option Said) (lot : ℕ) (e : Entry) (y : Holding) (i : ℕ) (a : Said) → records_of y.kept (entry_id e) ≡ r → records_of y.kept i ≡ Some a
    → (under (taken_by r lot e y).holding i ≡ under y i) × (records_of (taken_by r lot e y).holding.kept i ≡ Some a)
still_by (Some known) lot e y i a found there = (refl, there)
still_by None lot e y i a found there = elim (cases_Bool (entry_id e == i)) [
  | inl here ↦ absurd (let none = ap (records_of y.kept) (sym (number_is (entry_id e) i here)) ∙ found in let clash = sym there ∙ none in cc)
  | inr off ↦ (
    found_put (λ k. k.lot) (record { id = entry_id e; lot = lot; said = said_of e y }) y.kept i ∙ ap (λ b. cond b (Some lot) (under y i)) off,
    other_by None lot e y i off ∙ there,
  )
]

still_if : (b : Bool) (lot : ℕ) (e : Entry) (y : Holding) (i : ℕ) (a : Said) → records_of y.kept i ≡ Some a
    → (under (taken_if b lot e y).holding i ≡ under y i) × (records_of (taken_if b lot e y).holding.kept i ≡ Some a)
still_if true lot e y i a there = (refl, there)
still_if false lot e y i a there = still_by (records_of y.kept (entry_id e)) lot e y i a refl there

group_still : (V : Service) (lot : ℕ) (es : List Entry) (y : Holding) (i : ℕ) (a : Said) → records_of y.kept i ≡ Some a
    → under (with_group V lot es y) i ≡ under y i
group_still V lot [] y i a there = refl
group_still V lot (e ∷ es) y i a there =
    let one = still_if (is_seen V e) lot e y i a there in
    group_still V lot es (taken V lot e y).holding i a one.1 ∙ one.0

-- ---- a record that comes is under the lot of this start

left_over : (b c : Bool) → b ≡ false → (b || c) ≡ true → c ≡ true
left_over true c off is = absurd cc
left_over false c off is = is

-- it is there then, or it is one of those that come later
abbrev AddsOne : ℕ → Holding → List Entry → ℕ → Type 0
AddsOne lot z rest i =
    ((a : Said) × (records_of z.kept i ≡ Some a) × (under z i ≡ Some lot)) ⊎ ((records_of z.kept i ≡ None) × (is_in (ids_in rest) i ≡ true))

added_if : (b : Bool) (lot : ℕ) (e : Entry) (y : Holding) (rest : List Entry) (i : ℕ) → is_in (ids_in (unless_seen b e ++ rest)) i ≡ true
    → records_of y.kept i ≡ None → AddsOne lot (taken_if b lot e y).holding rest i
added_if true lot e y rest i is none = inr (none, is)
added_if false lot e y rest i is none = elim (cases_Bool (entry_id e == i)) [
  | inl here ↦
      let free : records_of y.kept (entry_id e) ≡ None = ap (records_of y.kept) (number_is (entry_id e) i here) ∙ none in
      let z = acted_on lot e y in
      inl (
        said_of e y,
        ap (λ r. records_of (taken_by r lot e y).holding.kept i) free
            ∙ found_put (λ k. k.said) (record { id = entry_id e; lot = lot; said = said_of e y }) y.kept i
            ∙ ap (λ b. cond b (Some (said_of e y)) (records_of y.kept i)) here,
        ap (λ r. under (taken_by r lot e y).holding i) free
            ∙ found_put (λ k. k.lot) (record { id = entry_id e; lot = lot; said = said_of e y }) y.kept i ∙ ap (λ b. cond b (Some lot) (under y i)) here,
      )
  | inr off ↦ inr (other_by (records_of y.kept (entry_id e)) lot e y i off ∙ none, left_over (entry_id e == i) (is_in (ids_in rest) i) off is)
]

group_added : (V : Service) (lot : ℕ) (es : List Entry) (y : Holding) (i : ℕ) → is_in (ids_in (kept_of V es)) i ≡ true → records_of y.kept i ≡ None
    → under (with_group V lot es y) i ≡ Some lot
group_added V lot [] y i is none = absurd cc
group_added V lot (e ∷ es) y i is none = elim (added_if (is_seen V e) lot e y (kept_of V es) i is none) [
  | inl (a, there, so) ↦ group_still V lot es (taken V lot e y).holding i a there ∙ so
  | inr (still, later) ↦ group_added V lot es (taken V lot e y).holding i later still
]

-- ---- the lots that there are

lots_by : (r : Option Said) (lot : ℕ) (e : Entry) (y : Holding) → (taken_by r lot e y).holding.lots ≡ y.lots
lots_by (Some known) lot e y = refl
lots_by None lot e y = refl

lots_if : (b : Bool) (lot : ℕ) (e : Entry) (y : Holding) → (taken_if b lot e y).holding.lots ≡ y.lots
lots_if true lot e y = refl
lots_if false lot e y = lots_by (records_of y.kept (entry_id e)) lot e y

group_lots : (V : Service) (lot : ℕ) (es : List Entry) (y : Holding) → (with_group V lot es y).lots ≡ y.lots
group_lots V lot [] y = refl
group_lots V lot (e ∷ es) y = group_lots V lot es (taken V lot e y).holding ∙ lots_if (is_seen V e) lot e y

settled_lots : (ids : List ℕ) (y : Holding) → (without_settled ids y).lots ≡ y.lots
settled_lots [] y = refl
settled_lots (id ∷ ids) y = settled_lots ids (without_record id y)

settled_next : (ids : List ℕ) (y : Holding) → (without_settled ids y).next_lot ≡ y.next_lot
settled_next [] y = refl
settled_next (id ∷ ids) y = settled_next ids (without_record id y)

not_this : (a b : ℕ) → a < b → (a == b) ≡ false
not_this a b low = grind (arith, nat_tests)

fresh : (n : ℕ) (lots : List ℕ) → AreBelow n lots → is_in lots n ≡ false
fresh n [] below = refl
fresh n (x ∷ lots) below = ap (λ b. b || is_in lots n) (not_this x n below.0) ∙ fresh n lots below.1

all_lots : (V : Service) (lot : Option ℕ) (ids : List ℕ) (es : List Entry) (y : Holding)
    → (transacted V lot ids es y).lots ≡ (with_lot_for lot (without_settled ids y)).lots
all_lots V lot ids es y = group_lots V (lot_for lot y) es (prepared lot ids y)

stays_so : (V : Service) (lot : Option ℕ) (n : ℕ) (ids : List ℕ) (es : List Entry) (y : Holding) → lot ≡ Some n
    → (◌≡◌ {A = Option ℕ} (Some (lot_for lot y)) (Some n)) × ((transacted V lot ids es y).lots ≡ y.lots)
stays_so V None n ids es y is = absurd cc
stays_so V (Some m) n ids es y is = (is, all_lots V (Some m) ids es y ∙ settled_lots ids y)

takes_so : (V : Service) (lot : Option ℕ) (ids : List ℕ) (es : List Entry) (y : Holding) → AreBelow y.next_lot y.lots → lot ≡ None
    → TakesLot (lots_of lot y) (lots_of (Some (lot_for lot y)) (transacted V lot ids es y))
takes_so V (Some m) ids es y below is = absurd cc
takes_so V None ids es y below is = record {
  lot = y.next_lot;
  is_new = fresh y.next_lot y.lots below;
  numbers = all_lots V None ids es y ∙ ap (λ n. put_by (λ m. m) n (without_settled ids y).lots) (settled_next ids y)
      ∙ ap (put_by (λ m. m) y.next_lot) (settled_lots ids y) ∙ put_last (λ m. m) y.next_lot y.lots below;
  current = refl;
}

-- ---- the whole call

free_then : (b : Bool) (r : Option Said) → (r ≡ None) ⊎ (b ≡ true) → cond b None r ≡ None
free_then true r free = refl
free_then false r (inl none) = none
free_then false r (inr on) = absurd cc

prepared_records : (lot : Option ℕ) (ids : List ℕ) (y : Holding) (i : ℕ)
    → records_of (prepared lot ids y).kept i ≡ cond (is_in ids i) None (records_of y.kept i)
prepared_records lot ids y i = ap (λ ks. records_of ks i) (kept_for lot (without_settled ids y)) ∙ found_settled (λ k. k.said) ids y i

transacted_under : (V : Service) (lot : Option ℕ) (ids : List ℕ) (es : List Entry) (y : Holding) → AreBelow y.next_lot y.lots
    → RecordsUnder (lots_of lot y) (lots_of (Some (lot_for lot y)) (transacted V lot ids es y)) (records_of y.kept) ids (kept_of V es)
transacted_under V lot ids es y below = record {
  kept = λ n is. stays_so V lot n ids es y is;
  taken = λ is. inl (takes_so V lot ids es y below is);
  added = λ i is free. group_added V (lot_for lot y) es (prepared lot ids y) i is
      (prepared_records lot ids y i ∙ free_then (is_in ids i) (records_of y.kept i) free);
  others = λ i a there off. group_still V (lot_for lot y) es (prepared lot ids y) i a
      (prepared_records lot ids y i ∙ ap (λ b. cond b None (records_of y.kept i)) off ∙ there)
      ∙ ap (λ ks. at_id (λ k. k.lot) ks i) (kept_for lot (without_settled ids y)) ∙ found_settled (λ k. k.lot) ids y i
      ∙ ap (λ b. cond b None (under y i)) off;
}

-- where nothing is to be kept, no lot is taken
nothing_under : (lot : Option ℕ) (y : Holding) (ids : List ℕ) → RecordsUnder (lots_of lot y) (lots_of lot y) (records_of y.kept) ids []
nothing_under lot y ids = record {
  kept = λ n is. (is, refl);
  taken = λ is. inr (is, refl);
  added = λ i is free. absurd (cc is);
  others = λ i a there off. refl;
}

pub records_under : (V : Service) (lot : Option ℕ) (ids : List ℕ) (es : List Entry) (y : Holding) → AreBelow y.next_lot y.lots
    → RecordsUnder (lots_of lot y) (lots_of (lot_after V lot ids es y) (performed V lot ids es y)) (records_of y.kept) ids (kept_of V es)
records_under V lot ids es y below = by (kept_of V es) ids (transacted_under V lot ids es y below)
  where
    by : (kept : List Entry) (settled : List ℕ)
        → RecordsUnder (lots_of lot y) (lots_of (Some (lot_for lot y)) (transacted V lot ids es y)) (records_of y.kept) settled kept
        → RecordsUnder (lots_of lot y)
        (lots_of (cond (keeps_nothing kept settled) lot (Some (lot_for lot y))) (cond (keeps_nothing kept settled) y (transacted V lot ids es y)))
        (records_of y.kept) settled kept
    by [] [] so = nothing_under lot y []
    by [] (id ∷ settled) so = so
    by (e ∷ kept) settled so = so
