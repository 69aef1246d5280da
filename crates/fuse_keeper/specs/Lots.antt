-- The lots that records are kept in (defined by this project). A keeper allocates at most one after it is opened or a mount begins, and
-- puts all later records under that lot; so the records of different openings are in different lots.
use Rattle.std.specs.Prelude.{◌≡◌, ◌⊎◌, ℕ, true, false, List, [], ◌∷◌, ◌++◌, Option, Some, None}
use Rattle.fuse_answer.specs.Said.{Said}
use Rattle.fuse_keeper.specs.History.{Entry, is_in, ids_in}

pub record Lots : Type 0 where
  -- the lots that there are
  pub numbers : List ℕ
  -- the one that was taken since it was opened or a mount began
  pub current : Option ℕ
  -- the one under which the record of an id stands
  pub under : ℕ → Option ℕ

-- of a keeper that has none
abbrev pub no_lots : Lots
no_lots = record { numbers = []; current = None; under = λ i. None }

pub record SameLots (old new : Lots) : Type 0 where
  pub numbers : new.numbers ≡ old.numbers
  pub current : new.current ≡ old.current
  pub under : (i : ℕ) → new.under i ≡ old.under i

-- a lot that wasn't there is taken
pub record TakesLot (old new : Lots) : Type 0 where
  pub lot : ℕ
  pub is_new : is_in old.numbers lot ≡ false
  pub numbers : new.numbers ≡ old.numbers ++ lot ∷ []
  pub current : new.current ≡ Some lot

-- this id has no record, or it is settled
abbrev pub IsFree : (ℕ → Option Said) → List ℕ → ℕ → Type 0
IsFree records settled i = (records i ≡ None) ⊎ (is_in settled i ≡ true)

-- kept entries were performed: at most one lot was taken, where there was none, and under it alone records were added
pub record RecordsUnder (old new : Lots) (records : ℕ → Option Said) (settled : List ℕ) (group : List Entry) : Type 0 where
  pub kept : (lot : ℕ) → old.current ≡ Some lot → (new.current ≡ Some lot) × (new.numbers ≡ old.numbers)
  pub taken : old.current ≡ None → TakesLot old new ⊎ ((new.current ≡ None) × (new.numbers ≡ old.numbers))
  pub added : (i : ℕ) → is_in (ids_in group) i ≡ true → IsFree records settled i → new.under i ≡ new.current
  pub others : (i : ℕ) (a : Said) → records i ≡ Some a → is_in settled i ≡ false → new.under i ≡ old.under i

-- there is none left
pub record AreGone (new : Lots) : Type 0 where
  pub numbers : new.numbers ≡ []
  pub current : new.current ≡ None

-- those of before, and none is taken yet
pub record AreReopened (old new : Lots) : Type 0 where
  pub numbers : new.numbers ≡ old.numbers
  pub current : new.current ≡ None
  pub under : (i : ℕ) → new.under i ≡ old.under i
