-- A look whose rows are then read: what it leaves, and the value that was read.
use Rattle.std.proofs.Common.{◌≡◌, ℕ, zero, suc, Bool, List, [], ◌∷◌, filter, take, Ok, Err, Result, OnOk, OnErr, IfOk, IfErr, refl, sym, ap, subst, ◌∙◌}
use Rattle.std.specs.List.Sorted.{IsPermutation}
use Rattle.std.proofs.lemmas.List.Sorted.{IsPermutation-refl}
use Rattle.sqlite.specs.Effect.{Database}
use Rattle.sqlite.specs.Order.{Row}
use Rattle.sqlite.specs.State.{State}
use Rattle.fuse_store_tables.specs.declared.version.Layout.TheVariants.{Second, Third}
use Rattle.fuse_store_tables.specs.Pieces.{Piece, ShowsInOrder}
use Rattle.fuse_store_tables.specs.Ranges.{held_pieces, pieces_in}
use Rattle.fuse_keeper.specs.declared.fault.StoreFault.{StoreFault}
use Rattle.fuse_store_tables.specs.Content.{Content, Holds, HoldsIn}
use Rattle.fuse_store_tables.specs.Faults.{IsOutside}
use Rattle.fuse_store_tables.specs.Moves.{Inside, InsideAs, Takes, Makes, LookedInside, Stays}
use Rattle.fuse_store_tables.specs.inner.Columns.{shown_number}
use Rattle.fuse_store_tables.proofs.Laid.{known_inside}
use Rattle.fuse_store_tables.proofs.Nothing.{no_step, still}

-- the rows were read, or not
pub look_told : {X Y E F : Type 0} (a b : State) (x : X) (r : Result Y F) → Makes {E = E} (λ c. c) a b (Ok x) → OnOk r (LookedInside a b)
look_told a b x (Ok y) p = record { stays = p.stays; within = p.within; same = p.turns }
look_told a b x (Err e) p = tt

pub look_untold : {X Y E F : Type 0} (a b : State) (x : X) (r : Result Y F) → Makes {E = E} (λ c. c) a b (Ok x) → OnErr r (Stays a b)
look_untold a b x (Ok y) p = tt
look_untold a b x (Err e) p = p.stays

-- what `?` returns
pub look_failed : {X Y E F : Type 0} (a b : State) (e : E) (r : Result Y F) → Makes {X = X} (λ c. c) a b (Err e) → OnErr r (Stays a b)
look_failed a b e (Ok y) p = tt
look_failed a b e (Err f) p = p.stays

-- ---- of any results

pub looked_as : {X E : Type 0} (a b : State) (r : Result X E) → Makes (λ c. c) a b r → OnOk r (LookedInside a b)
looked_as a b (Ok x) p = record { stays = p.stays; within = p.within; same = p.turns }
looked_as a b (Err e) p = tt

pub failed_as : {X E : Type 0} (a b : State) (r : Result X E) → Makes (λ c. c) a b r → OnErr r (Stays a b)
failed_as a b (Ok x) p = tt
failed_as a b (Err e) p = p.stays

-- the same step with another result
pub takes_told : {C X Y E F : Type 0} (P Q : C → Database → Type 0) (a b : State) (x : X) (r : Result Y F) → Takes {E = E} P Q a b (Ok x) → Takes P Q a b r
takes_told P Q a b x (Ok y) p = record { stays = p.stays; within = p.within; turns = p.turns }
takes_told P Q a b x (Err e) p = record { stays = p.stays; within = tt; turns = tt }

pub takes_failed : {C X Y E F : Type 0} (P Q : C → Database → Type 0) (a b : State) (e : E) (r : Result Y F) → Takes {X = X} P Q a b (Err e) → OnErr r (Takes P Q a b r)
takes_failed P Q a b e (Ok y) p = tt
takes_failed P Q a b e (Err f) p = record { stays = p.stays; within = tt; turns = tt }

-- ---- without a statement

pub looked_still : (a : State) → LookedInside a a
looked_still a = record {
  stays = record { survives = no_step a _; kept = λ clean inside. still a };
  within = λ clean inside. inside;
  same = λ clean c at. at;
}

-- version 2 has no pieces
pub none_held : (p : Piece → Bool) (c : Content) → c.layout ≡ Second → filter p (held_pieces c) ≡ []
none_held p c second = ap (λ l. filter p (pieces_in l c.pieces)) second

take_nil : (n : ℕ) → ◌≡◌ {A = List Row} [] (take n [])
take_nil zero = refl
take_nil (suc n) = refl

pub none_shown : (limit : ℕ) (ps : List Piece) (rows : List Row) → ps ≡ [] → rows ≡ [] → ShowsInOrder limit ps rows
none_shown limit ps rows none is =
    record { ordered = []; same = subst (λ l. IsPermutation l []) (sym none) (IsPermutation-refl []); rise = tt; shown = is ∙ take_nil limit }

-- ---- what is said of tables of version 3

pub found_held : {X E : Type 0} (Q : List Piece → X → Type 0) (a : State) (r : Result X E) → ((c : Content) → Holds c a.now → Third ≡ c.layout)
    → IfOk r (λ x. (c : Content) → InsideAs (HoldsIn Third c) a → Q c.pieces x) → IfOk r (λ x. (c : Content) → Inside c a → Q (held_pieces c) x)
found_held Q a (Ok x) third found = λ c at.
    subst (λ ps. Q ps x) (ap (λ l. pieces_in l c.pieces) (third c at.holds)) (found c (known_inside Third a third c at))
found_held Q a (Err e) third found = tt

pub faults_held : {X : Type 0} (a : State) (r : Result X StoreFault) → ((c : Content) → Holds c a.now → Third ≡ c.layout)
    → IfErr r (λ f. (c : Content) → InsideAs (HoldsIn Third c) a → IsOutside f) → IfErr r (λ f. (c : Content) → Inside c a → IsOutside f)
faults_held a (Ok x) third faults = tt
faults_held a (Err f) third faults = λ c at. faults c (known_inside Third a third c at)

-- ---- the number in the only row

module _ (r : Result ℕ StoreFault) (rows : List Row) (IsThere : Content → Type 0) (number : Content → ℕ)
    (is : (c : Content) → IsThere c → rows ≡ shown_number (number c) ∷ []) where
  pub number_told : IfOk r (λ n. (m : ℕ) → rows ≡ shown_number m ∷ [] → n ≡ m) → IfOk r (λ n. (c : Content) → IsThere c → n ≡ number c)
  number_told told = by_case r told
    where
      by_case : (r : Result ℕ StoreFault) → IfOk r (λ n. (m : ℕ) → rows ≡ shown_number m ∷ [] → n ≡ m)
          → IfOk r (λ n. (c : Content) → IsThere c → n ≡ number c)
      by_case (Ok n) told = λ c at. told (number c) (is c at)
      by_case (Err f) told = tt

  pub number_untold : IfErr r (λ f. (m : ℕ) → rows ≡ shown_number m ∷ [] → IsOutside f) → IfErr r (λ f. (c : Content) → IsThere c → IsOutside f)
  number_untold told = by_case r told
    where
      by_case : (r : Result ℕ StoreFault) → IfErr r (λ f. (m : ℕ) → rows ≡ shown_number m ∷ [] → IsOutside f)
          → IfErr r (λ f. (c : Content) → IsThere c → IsOutside f)
      by_case (Ok n) told = tt
      by_case (Err f) told = λ c at. told (number c) (is c at)
