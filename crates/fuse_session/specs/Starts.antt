-- The lots of records: over a session, and over starts (defined by this project).
use Rattle.std.specs.Prelude.{◌≡◌, ◌⊎◌, ◌≤◌, ℕ, true, List, [], ◌∷◌, length, Some, None, is_some}
use Rattle.std.specs.List.{AllByRecursion}
use Rattle.fuse_keeper.specs.History.{is_in}
use Rattle.fuse_keeper.specs.Lots.{Lots, TakesLot, AreGone, AreReopened}
use Rattle.fuse_keeper.specs.Model.{Model, IsOfGoodState}
use Rattle.fuse_keeper.specs.Stands.{Records, Standing}
use Rattle.fuse_keeper.specs.KeeperState.{KeeperState, OfHeld, StandsFor, Reopened, BeginsMount, DropsLots}
use Rattle.fuse_session.specs.Settling.{SomeAndMore}

-- records, and the lots that they are in
pub record KeptRecords : Type 0 where
  pub records : Records
  pub lots : Lots

-- at most one lot is taken, where there is none
pub record TakesAtMostOne (old new : Lots) : Type 0 where
  pub kept : (lot : ℕ) → old.current ≡ Some lot → (new.current ≡ Some lot) × (new.numbers ≡ old.numbers)
  pub taken : old.current ≡ None → TakesLot old new ⊎ ((new.current ≡ None) × (new.numbers ≡ old.numbers))

-- the id had a record before, under the same lot
abbrev pub WasThere : KeptRecords → KeptRecords → ℕ → Type 0
WasThere old new i = (is_some (old.records i) ≡ true) × (new.lots.under i ≡ old.lots.under i)

-- at most one lot is taken. Under the current lot are the records of at most 16 ids more than before; all others are some of those
-- of before, under the lots of before
pub record UnderAtMostMore (old new : KeptRecords) : Type 0 where
  pub more : List ℕ
  pub few : length more ≤ 16
  pub some : SomeAndMore old.records more new.records
  pub takes : TakesAtMostOne old.lots new.lots
  pub each : (i : ℕ) → is_some (new.records i) ≡ true
      → WasThere old new i ⊎ ((is_in more i ≡ true) × (new.lots.under i ≡ new.lots.current))

-- records under the lots of a keeper
abbrev pub records_kept_by : {M : Model} → KeeperState M → Records → KeptRecords
records_kept_by k records = record { records = records; lots = k.lots }

-- it holds something of a good state, of whose records and lots this is so
pub record HoldsKept {M : Model} (k : KeeperState M) (P : KeptRecords → Type 0) : Type 0 where
  pub rows : M.Rows
  pub records : Records
  pub held : k.holds rows records
  pub rowed : IsOfGoodState M rows
  pub so : P (records_kept_by k records)

abbrev pub HoldsUnder : {M : Model} → KeptRecords → KeeperState M → Type 0
HoldsUnder before k = HoldsKept k (UnderAtMostMore before)

-- a session on a port that confirms: so it is of what was held before
abbrev pub AddsFew : {M : Model} → KeeperState M → KeeperState M → Type 0
AddsFew old new = OfHeld old (λ rows records. HoldsUnder (records_kept_by old records) new)

-- the store was opened again: the records are the same, or some of them, under their lots
pub record OpenedAgain (old new : KeptRecords) : Type 0 where
  pub lots : AreReopened old.lots new.lots
  pub some : (i : ℕ) → is_some (new.records i) ≡ true → is_some (old.records i) ≡ true

-- a mount began: there is no record and no lot
pub record BeganMount (new : KeptRecords) : Type 0 where
  pub lots : AreGone new.lots
  pub none : (i : ℕ) → new.records i ≡ None

-- a start: the store is opened again, or a mount begins
abbrev pub Starts : KeptRecords → KeptRecords → Type 0
Starts old new = OpenedAgain old new ⊎ BeganMount new

-- a start, and what one session on a port that confirms leaves
pub record Start : Type 0 where
  pub begun : KeptRecords
  pub left : KeptRecords

-- starts, one after the other, each over what the one before left
abbrev pub AreStarts : KeptRecords → List Start → Type 0
AreStarts kept [] = Unit {0}
AreStarts kept (x ∷ starts) = Starts kept x.begun × UnderAtMostMore x.begun x.left × AreStarts x.left starts

-- the records are under lots that there are, and each lot but 0 has those of at most 16 ids
pub record HasFewEach (kept : KeptRecords) : Type 0 where
  pub there : (i lot : ℕ) → is_some (kept.records i) ≡ true → kept.lots.under i ≡ Some lot → is_in kept.lots.numbers lot ≡ true
  pub few : (lot : ℕ) → (lot ≡ 0 → ⊥) → (ids : List ℕ) × (length ids ≤ 16)
      × ((i : ℕ) → is_some (kept.records i) ≡ true → kept.lots.under i ≡ Some lot → is_in ids i ≡ true)

-- if it is so at first, it is so after each start
abbrev pub LotsOverStarts : Type 0
LotsOverStarts = (kept : KeptRecords) (starts : List Start) → HasFewEach kept → AreStarts kept starts → AllByRecursion (λ (x : Start). HasFewEach x.left) starts

-- ---- the starts of a keeper

-- a mount began on a keeper that stood for a history
pub record BeganOn {M : Model} {K : Type 0} (told : K → KeeperState M) (begun : K) : Type 0 where
  pub old : K
  pub at : Standing M
  pub stood : StandsFor (told old) at.state at.history at.settled
  pub begins : BeginsMount (told old) (told begun)
  pub drops : DropsLots (told old) (told begun)

-- a keeper was opened again, or a mount began, and then one session was served on a port that confirms
pub record StartsOnce {M : Model} {K : Type 0} (told : K → KeeperState M) (old left : K) : Type 0 where
  pub begun : K
  pub begins : Reopened (told old) (told begun) ⊎ BeganOn told begun
  pub honest : (told begun).is_honest
  pub served : AddsFew (told begun) (told left)

-- so it was again and again: these were left, one after the other
abbrev pub StartsOften : {M : Model} {K : Type 0} → (K → KeeperState M) → K → List K → Type 0
StartsOften told old [] = Unit {0}
StartsOften told old (left ∷ more) = StartsOnce told old left × StartsOften told left more

-- what one start makes of records and lots
abbrev pub IsStart : KeptRecords → KeptRecords → Type 0
IsStart old left = (begun : KeptRecords) × Starts old begun × UnderAtMostMore begun left
