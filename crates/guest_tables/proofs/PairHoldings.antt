-- What the steps of pairs make of what a store holds.
use Rattle.std.proofs.Common.{◌≡◌, inl, inr, ℕ, Bool, true, false, not, cond, List, [], ◌∷◌, ◌++◌, map, filter, Ok, Err, Result, refl, sym, ap, subst, ◌∙◌}
use Rattle.std.specs.List.{AllByRecursion}
use Rattle.std.specs.Option.{is_some}
use Rattle.std.proofs.lemmas.Bool.{cases_Bool}
use Rattle.sqlite_trees.proofs.ListLemmas.{all_weaker, all-filter, all-permutation, ascending-append, ascending-filter, all-append}
use Rattle.sqlite.specs.Effect.{Database}
use Rattle.sqlite.specs.State.{State}
use Rattle.guest_frames.specs.Frames.{IsPair, IsValue}
use Rattle.fuse_guest.specs.Pairs.{Pairs, ArePairs, is_same_key, put_pair, without_key, without_range}
use Rattle.guest_tables.specs.Rows.{PairRow, pair_of, IsFitPair, AreApart, has_key, has_key_within, pair_at, new_pair, revalued, set_at}
use Rattle.guest_tables.specs.Content.{GuestContent, Holds, with_pair, set_pair, put_value, without_pair, without_pairs_within}
use Rattle.guest_tables.specs.Opening.{IsFitContent}
use Rattle.guest_tables.specs.Holding.{GuestHolding, holding_in, pairs_in}
use Rattle.guest_tables.specs.Moves.{Makes}
use Rattle.guest_tables.specs.PairSteps.{pair_with, with_pairs_by, Changes, StepsAreOfPairs, StepsFit}
use Rattle.guest_tables.proofs.PairOrder.{Rises}
use Rattle.guest_tables.proofs.PairTables.{pairs_apart, slots_rise}
use Rattle.guest_tables.proofs.PairsOfRows.{RisesBySlot, apart_set, new_last, pairs_added, pairs_are, pairs_cleared, pairs_rise, pairs_set, pairs_without, value_is}

-- ---- of the pairs

abbrev held_with : GuestContent → Pairs → GuestHolding
held_with c ps = with_pairs_by (λ _. ps) (holding_in c)

put_holds_by : (b : Bool) (key value : List ℕ) (c : GuestContent) → is_some (pair_at key c.pairs) ≡ b → AreApart c.pairs → RisesBySlot c.pairs
    → holding_in (cond b (set_pair key value c) (with_pair key value c)) ≡ with_pairs_by (put_pair (pair_with key value)) (holding_in c)
put_holds_by true key value c some apart up = ap (held_with c) (pairs_set key value c.pairs apart some)
put_holds_by false key value c some apart up = ap (held_with c) (pairs_added key value c.pairs up)

put_holds : (c : GuestContent) (d : Database) (key value : List ℕ) → Holds c d
    → holding_in (put_value key value c) ≡ with_pairs_by (put_pair (pair_with key value)) (holding_in c)
put_holds c d key value at = put_holds_by (is_some (pair_at key c.pairs)) key value c refl (pairs_apart c d at) (slots_rise c d at)

pub steps : StepsAreOfPairs
steps = record {
  value = λ c d key at. value_is key c.pairs (pairs_apart c d at);
  put = put_holds;
  delete = λ c d key at. ap (held_with c) (pairs_without key c.pairs (pairs_apart c d at));
  clear = λ c d from to at. ap (held_with c) (pairs_cleared from to c.pairs (pairs_apart c d at));
}

-- ---- in order

right_all : (rows : List PairRow) → AllByRecursion IsFitPair rows → AllByRecursion IsPair (map pair_of rows)
right_all [] fit = tt
right_all (r ∷ rows) fit = (fit.0.pair, right_all rows fit.1)

are_pairs : (ps : Pairs) → Rises ps → AllByRecursion IsPair ps → ArePairs ps
unfolding ArePairs
are_pairs [] up right = tt
are_pairs (p ∷ ps) up right = (right.0, up.0, are_pairs ps up.1 right.1)

pairs_right : (c : GuestContent) → IsFitContent c → ArePairs (pairs_in c)
pairs_right c fit =
    are_pairs (pairs_in c) (pairs_rise c.pairs)
    (all-permutation IsPair (map pair_of c.pairs) (pairs_in c) (pairs_are c.pairs fit.apart) (right_all c.pairs fit.pairs))

with_rows : (c : GuestContent) (rows : List PairRow) → IsFitContent c → AllByRecursion IsFitPair rows → AreApart rows → IsFitContent (record c { pairs = rows })
with_rows c rows fit right apart = record { meta = record { version = fit.meta.version; meta = fit.meta.meta; lots = fit.meta.lots }; records = fit.records; pairs = right; apart = apart }

set_fit : (key value : List ℕ) (rows : List PairRow) → IsValue value → AllByRecursion IsFitPair rows → AllByRecursion IsFitPair (set_at key value rows)
set_fit key value [] short fit = tt
set_fit key value (r ∷ rows) short fit = (one (has_key key r), set_fit key value rows short fit.1)
  where
    one : (b : Bool) → IsFitPair (cond b (revalued value r) r)
    one true = record { pair = (fit.0.pair.0, short); place = refl; len = refl; sum = refl }
    one false = fit.0

-- no row has a key that isn't found
all_other : (key : List ℕ) (rows : List PairRow) → is_some (pair_at key rows) ≡ false → AllByRecursion (λ r. has_key key r ≡ false) rows
all_other key [] none = tt
all_other key (r ∷ rows) none = elim (cases_Bool (has_key key r)) [
  | inl here ↦ absurd (let e = rw here at none in cc)
  | inr not_here ↦ (not_here, all_other key rows (rw not_here at none))
]

put_fits_by : (b : Bool) (key value : List ℕ) (c : GuestContent) → is_some (pair_at key c.pairs) ≡ b → RisesBySlot c.pairs → IsPair (pair_with key value)
    → IsFitContent c → IsFitContent (cond b (set_pair key value c) (with_pair key value c))
put_fits_by true key value c some up right fit =
    with_rows c (set_at key value c.pairs) fit (set_fit key value c.pairs right.1 fit.pairs) (apart_set key value c.pairs fit.apart)
put_fits_by false key value c some up right fit =
    let new = new_pair key value c.pairs in
    let one : IsFitPair new = record { pair = right; place = refl; len = refl; sum = refl } in
    let across = all_weaker (λ r. has_key key r ≡ false) (λ r. AllByRecursion (λ s. is_same_key r.key s.key ≡ false) (new ∷ [])) (λ r other. (other, tt)) c.pairs
    (all_other key c.pairs some) in
    subst (λ rows. IsFitContent (record c { pairs = rows })) (sym (new_last key value c.pairs up))
    (with_rows c (c.pairs ++ new ∷ []) fit (all-append IsFitPair c.pairs (new ∷ []) fit.pairs (one, tt))
    (ascending-append (λ a b. is_same_key a.key b.key ≡ false) c.pairs (new ∷ []) fit.apart (tt, tt) across))

put_fits : (c : GuestContent) (d : Database) (key value : List ℕ) → Holds c d → IsPair (pair_with key value) → IsFitContent c
    → IsFitContent (put_value key value c)
put_fits c d key value at right fit = put_fits_by (is_some (pair_at key c.pairs)) key value c refl (slots_rise c d at) right fit

filtered_fits : (c : GuestContent) (p : PairRow → Bool) → IsFitContent c → IsFitContent (record c { pairs = filter p c.pairs })
filtered_fits c p fit = with_rows c (filter p c.pairs) fit (all-filter IsFitPair p c.pairs fit.pairs) (ascending-filter _ p c.pairs fit.apart)

pub stay_fit : StepsFit
stay_fit = record {
  pairs = pairs_right;
  put = put_fits;
  delete = λ c key fit. filtered_fits c (λ p. not (has_key key p)) fit;
  clear = λ c from to fit. filtered_fits c (λ p. not (has_key_within from to p)) fit;
}

-- ---- a step of the tables is one of what is held

lifted : {X E : Type 0} (f : Pairs → Pairs) (g : GuestContent → GuestContent) (a b : State) (r : Result X E)
    → ((c : GuestContent) (d : Database) → Holds c d → holding_in (g c) ≡ with_pairs_by f (holding_in c))
    → ((c : GuestContent) (d : Database) → Holds c d → IsFitContent c → IsFitContent (g c)) → Makes g a b r → Changes f a b r
lifted f g a b (Ok x) holds fits p = record {
  stays = p.stays;
  within = p.within;
  turns = λ clean y at.
      let c = at.holds.0 in
      let on = p.turns clean c (record { is_open = at.is_open; in_transaction = at.in_transaction; holds = at.holds.1 }) in
      record {
        is_open = on.is_open;
        in_transaction = on.in_transaction;
        holds = (g c, on.holds, fits c a.now at.holds.1 at.holds.2, holds c a.now at.holds.1 ∙ ap (with_pairs_by f) at.holds.3);
      };
}
lifted f g a b (Err e) holds fits p = record { stays = p.stays; within = tt; turns = tt }

pub put_changes : {X E : Type 0} (key value : List ℕ) (a b : State) (r : Result X E) → IsPair (pair_with key value) → Makes (put_value key value) a b r
    → Changes (put_pair (pair_with key value)) a b r
put_changes key value a b r right =
    lifted (put_pair (pair_with key value)) (put_value key value) a b r (λ c d. steps.put c d key value) (λ c d at. stay_fit.put c d key value at right)

pub delete_changes : {X E : Type 0} (key : List ℕ) (a b : State) (r : Result X E) → Makes (without_pair key) a b r → Changes (without_key key) a b r
delete_changes key a b r = lifted (without_key key) (without_pair key) a b r (λ c d. steps.delete c d key) (λ c d at. stay_fit.delete c key)

pub clear_changes : {X E : Type 0} (from to : List ℕ) (a b : State) (r : Result X E) → Makes (without_pairs_within from to) a b r
    → Changes (without_range from to) a b r
clear_changes from to a b r = lifted (without_range from to) (without_pairs_within from to) a b r (λ c d. steps.clear c d from to)
    (λ c d at. stay_fit.clear c from to)
