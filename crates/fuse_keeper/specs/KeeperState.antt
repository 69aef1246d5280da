-- The state of a keeper, and how a call changes it (defined by this project).
use Rattle.std.specs.Prelude.{◌≡◌, ◌||◌, ◌⊎◌, ℕ, ◌+◌, Bool, false, List, [], All, Result, is_err, IfErr, OnOk, OnErr}
use Rattle.fuse_request.specs.Opcodes.{Service}
use Rattle.fuse_keeper.specs.declared.fault.StoreFault.{StoreFault}
use Rattle.fuse_keeper.specs.declared.keeper.Done.{Done}
use Rattle.fuse_keeper.specs.Model.{Model, serving, IsOfGoodState}
use Rattle.fuse_keeper.specs.History.{Entry, History, after, grown, kept_of, Includes, IsUnsettled}
use Rattle.fuse_keeper.specs.Lots.{Lots, SameLots, RecordsUnder, AreGone, AreReopened}
use Rattle.fuse_keeper.specs.Taking.{TakesAll}
use Rattle.fuse_keeper.specs.Stands.{Records, KeeperContent, AreThese, without, StandsBy, PerformedBy, LeavesBy, IsFirmBy, KeepsHeldBy, StandsForEither, OthersStay}

pub record KeeperState (M : Model) : Type 1 where
  -- it holds these rows and these records now
  pub holds : M.Rows → Records → Type 0
  -- its store has so far given back what was written
  pub is_honest : Type 0
  -- it is honest, and no write is open or half done
  pub is_clean : Type 0
  -- it lies in memory alone, which always gives back what was written
  pub in_memory : Type 0
  -- a call has failed since it was made or opened
  pub has_failed : Bool
  -- whatever a crash now leaves holds some rows and records
  pub leaves_whole : Type 0
  -- a crash now may leave these rows and records
  pub may_leave : M.Rows → Records → Type 0
  -- the faults that a call may answer where the keeper stands and its store stays clean
  pub may_answer : StoreFault → Type 0
  -- the lots that its records are in
  pub lots : Lots
  -- the opcodes that it serves and sees, known once it runs. Of a keeper whose file system is known before, they are the model's
  pub service : Service

-- the same keeper, as one of the model that has this service
abbrev pub of_service : {M : Model} → (V : Service) → KeeperState M → KeeperState (serving V M)
of_service V k = record {
  holds = k.holds;
  is_honest = k.is_honest;
  is_clean = k.is_clean;
  in_memory = k.in_memory;
  has_failed = k.has_failed;
  leaves_whole = k.leaves_whole;
  may_leave = k.may_leave;
  may_answer = k.may_answer;
  lots = k.lots;
  service = k.service;
}

-- what it holds stands for the history
abbrev pub StandsFor : {M : Model} → KeeperState M → M.State → History → List ℕ → Type 0
StandsFor {M} k s h t = StandsBy M k.holds s h t

-- a group was performed: the history grew by its kept entries, and each answer is the one at its place
abbrev pub Performed : {M : Model} → KeeperState M → M.State → History → List ℕ → List Entry → List Done → Type 0
Performed {M} k s h t group dones = PerformedBy M k.holds (record { state = s; history = h; settled = t }) group dones

-- whatever a crash leaves is whole, and of this kind
abbrev pub Leaves : {M : Model} → KeeperState M → (M.Rows → Records → Type 0) → Type 0
Leaves {M} k P = LeavesBy M k.leaves_whole k.may_leave P

-- a crash now could leave nothing but what is held
abbrev pub IsFirm : {M : Model} → KeeperState M → Type 0
IsFirm {M} k = IsFirmBy M k.holds k.leaves_whole k.may_leave

-- all that was held is still held
abbrev pub KeepsHeld : {M : Model} → KeeperState M → KeeperState M → Type 0
KeepsHeld {M} old new = KeepsHeldBy M old.holds new.holds

-- it holds just one thing, where it is clean it is honest, and where it is honest it gives the service of the model
pub record IsSound {M : Model} (k : KeeperState M) : Type 0 where
  pub one_holding : (x y : M.Rows) (p q : Records) → k.holds x p → k.holds y q → (x ≡ y) × ((i : ℕ) → p i ≡ q i)
  pub clean_is_honest : k.is_clean → k.is_honest
  pub service : k.is_honest → k.service ≡ M.service

-- this is so where it holds something
abbrev pub WhereHeld : {M : Model} → KeeperState M → Type 0 → Type 0
WhereHeld {M} k P = (rows : M.Rows) (records : Records) → k.holds rows records → P

-- this is so of what it holds, where that is of a good state
abbrev pub OfHeld : {M : Model} → KeeperState M → (M.Rows → Records → Type 0) → Type 0
OfHeld {M} k P = (rows : M.Rows) (records : Records) → k.holds rows records → IsOfGoodState M rows → P rows records

-- no fault may come now that couldn't before, where the store is honest
abbrev pub AnswersNoMore : {M : Model} → KeeperState M → KeeperState M → Type 0
AnswersNoMore old new = new.is_honest → (f : StoreFault) → new.may_answer f → old.may_answer f

-- of any call: its medium and its service stay; an Ok leaves it clean; a fault keeps what is held, and is one that it may answer
pub record Called {M : Model} {A : Type 0} (old new : KeeperState M) (result : Result A StoreFault) : Type 0 where
  pub failed : new.has_failed ≡ (old.has_failed || is_err result)
  pub honest : new.is_honest → old.is_honest
  pub medium : old.in_memory → new.in_memory
  pub service : new.service ≡ old.service
  pub clean : OnOk result (old.is_clean → new.is_honest → new.is_clean)
  pub err : OnErr result (new.is_clean → KeepsHeld old new)
  pub err_lots : OnErr result (new.is_clean → WhereHeld old (SameLots old.lots new.lots))
  pub fault : new.is_clean → (s : M.State) (h : History) (t : List ℕ) → StandsFor old s h t → IfErr result old.may_answer

-- a call that only looks
pub record Looked {M : Model} {A : Type 0} (old new : KeeperState M) (result : Result A StoreFault) : Type 0 where
  pub called : Called old new result
  pub may : AnswersNoMore old new
  pub same : OnOk result (new.is_honest → KeepsHeld old new)
  pub lots : OnOk result (new.is_honest → WhereHeld old (SameLots old.lots new.lots))
  pub whole : WhereHeld old (old.leaves_whole → new.leaves_whole)
  pub crash : (x : M.Rows) (r : Records) → WhereHeld old (new.may_leave x r → old.may_leave x r)

-- a look reports this of rows and records that are held, and known to be of a good state, where the store is honest
abbrev pub Reports : {M : Model} → KeeperState M → KeeperState M → (M.Rows → Records → Type 0) → Type 0
Reports old new P = new.is_honest → OfHeld old P

-- a group is performed, whichever history it stands for, where `t` are ids settled before and in this call
abbrev pub Performs : {M : Model} → KeeperState M → KeeperState M → List ℕ → List Entry → List Done → Type 0
Performs {M} old new settled group dones = new.is_honest → (s : M.State) (h : History) (t : List ℕ) → StandsFor old s h t
    → Includes t settled → All (IsUnsettled t) (kept_of M.service group) → Performed new s h t group dones

-- it holds rows and records to which the group leads over these, entry after entry
pub record HoldsTaken {M : Model} (k : KeeperState M) (before : M.Rows) (others : Records) (group : List Entry) (dones : List Done) : Type 0 where
  pub rows : M.Rows
  pub records : Records
  pub held : k.holds rows records
  pub taken : TakesAll M (record { rows = before; records = others }) group (record { rows = rows; records = records }) dones

-- the settled records go first, then the entries act or repeat in order, whatever history it stands for
abbrev pub ActsOn : {M : Model} → KeeperState M → KeeperState M → List ℕ → List Entry → List Done → Type 0
ActsOn old new settled group dones = Reports old new (λ rows records. HoldsTaken new rows (without settled records) group dones)

-- it holds something of a good state, and the records of other ids are those of before, without the settled ones
pub record HoldsOthers {M : Model} (k : KeeperState M) (before : Records) (settled : List ℕ) (group : List Entry) : Type 0 where
  pub rows : M.Rows
  pub records : Records
  pub held : k.holds rows records
  pub rowed : IsOfGoodState M rows
  pub others : OthersStay before settled (kept_of M.service group) records

abbrev pub KeepsOthers : {M : Model} → KeeperState M → KeeperState M → List ℕ → List Entry → Type 0
KeepsOthers old new settled group = Reports old new (λ rows records. HoldsOthers new records settled group)

-- which lot the records of a group's kept entries go under
abbrev pub KeepsLots : {M : Model} → KeeperState M → KeeperState M → List ℕ → List Entry → Type 0
KeepsLots {M} old new settled group = Reports old new (λ rows records. RecordsUnder old.lots new.lots records settled (kept_of M.service group))

-- a crash leaves the group out or in
abbrev pub LeavesGroup : {M : Model} → KeeperState M → KeeperState M → List ℕ → List Entry → Type 0
LeavesGroup {M} old new settled group = (s : M.State) (h : History) (t : List ℕ) → StandsFor old s h t
    → Includes t settled → All (IsUnsettled t) (kept_of M.service group) → IsFirm old
    → Leaves new (StandsForEither M (record { state = s; history = h; settled = t }) (record { state = s; history = grown h (kept_of M.service group); settled = t }))

-- these are what was held, or what the group leads to from there without the settled records
abbrev pub AreHeldOrTaken : (M : Model) → KeeperContent M → List ℕ → List Entry → M.Rows → Records → Type 0
AreHeldOrTaken M before settled group x r = AreThese M before.rows before.records x r
    ⊎ ((dones : List Done) × TakesAll M (record before { records = without settled before.records }) group (record { rows = x; records = r }) dones)

-- the same where ids of the group are settled, whatever history it stands for
abbrev pub LeavesActed : {M : Model} → KeeperState M → KeeperState M → List ℕ → List Entry → Type 0
LeavesActed {M} old new settled group =
    IsFirm old → OfHeld old (λ rows records. Leaves new (AreHeldOrTaken M (record { rows = rows; records = records }) settled group))

-- a mount begins
abbrev pub BeginsMount : {M : Model} → KeeperState M → KeeperState M → Type 0
BeginsMount {M} old new = new.is_honest → (s : M.State) (h : History) (t : List ℕ) → StandsFor old s h t → StandsFor new (M.cleared (after M s h)) [] []

-- and no lot is left
abbrev pub DropsLots : {M : Model} → KeeperState M → KeeperState M → Type 0
DropsLots old new = new.is_honest → WhereHeld old (AreGone new.lots)

-- a crash leaves the mount of before, or the one that begins
abbrev pub LeavesMount : {M : Model} → KeeperState M → KeeperState M → Type 0
LeavesMount {M} old new = (s : M.State) (h : History) (t : List ℕ) → StandsFor old s h t → IsFirm old
    → Leaves new (StandsForEither M (record { state = s; history = h; settled = t })
    (record { state = M.cleared (after M s h); history = []; settled = [] }))

-- a keeper that was opened again over the store of the old one
pub record Reopened {M : Model} (old new : KeeperState M) : Type 0 where
  pub same : new.is_honest → KeepsHeld old new
  -- it holds something, where whatever a crash could have left holds something
  pub held : new.is_honest → old.leaves_whole → (rows : M.Rows) × (records : Records) × new.holds rows records
  -- it holds rows and records that a crash could have left
  pub left : new.is_honest → old.leaves_whole → (rows : M.Rows) (records : Records) → new.holds rows records → old.may_leave rows records
  pub firm : new.is_honest → IsFirm new
  pub lots : new.is_honest → WhereHeld old (AreReopened old.lots new.lots)
  pub honest : new.is_honest → old.is_honest
  pub medium : old.in_memory → new.in_memory
  -- one that would give another service refuses to be opened, so that what is asked of both is read by one
  pub service : new.service ≡ old.service
  pub going : new.has_failed ≡ false

-- `became a b n`: b is a later state of a, which was opened again n times on the way
pub record IsCount {K : Type 0} (became : K → K → ℕ → Type 0) : Type 0 where
  pub none : (k : K) → became k k 0
  pub then : (a b c : K) (m n : ℕ) → became a b m → became b c n → became a c (m + n)
