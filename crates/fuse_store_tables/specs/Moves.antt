-- The effect of a call on a store, by the state of the connection before and after it (defined by this project).
use Rattle.std.specs.Prelude.{◌≡◌, ◌≢◌, ◌⊎◌, true, false, IsTrue, Result, OnOk, OnErr, IfErr}
use Rattle.sqlite.specs.Tree.{Trees}
use Rattle.sqlite.specs.Effect.{Database}
use Rattle.sqlite.specs.State.{State, HasCleanDisk, Survives, KeepsCommit}
use Rattle.fuse_store_tables.specs.Content.{Content, Holds, LeftAs}
use Rattle.fuse_keeper.specs.declared.fault.StoreFault.{StoreFault}
use Rattle.fuse_store_tables.specs.Faults.{IsOutside}

-- no transaction is open
pub record RestsAs (P : Database → Type 0) (s : State) : Type 0 where
  pub is_open : IsTrue s.is_open
  pub autocommit : s.in_transaction ≡ false
  pub holds : P s.now
  pub committed : s.committed ≡ s.now

-- a transaction is open, and its database is so
pub record InsideAs (P : Database → Type 0) (s : State) : Type 0 where
  pub is_open : IsTrue s.is_open
  pub in_transaction : s.in_transaction ≡ true
  pub holds : P s.now

abbrev pub Rests : Content → State → Type 0
Rests c = RestsAs (Holds c)

abbrev pub Inside : Content → State → Type 0
Inside c = InsideAs (Holds c)

-- ready for a step that begins with one of these
abbrev pub IsReady : {C : Type 0} → (C → Database → Type 0) → State → Type 0
IsReady {C} P s = (c : C) × InsideAs (P c) s

-- nothing is committed of a transaction that is open, whatever its tables are, and whether the call succeeded or not
pub record Stays (old new : State) : Type 0 where
  pub survives : Survives old new (λ _. old.in_transaction ≢ true)
  pub kept : HasCleanDisk new → old.in_transaction ≡ true → KeepsCommit old new

-- the transaction stays open
abbrev pub StaysInside : State → State → Type 0
StaysInside old new = HasCleanDisk new → old.in_transaction ≡ true → new.in_transaction ≡ true

abbrev pub TurnsTo : {C : Type 0} → (P Q : C → Database → Type 0) → State → State → Type 0
TurnsTo {C} P Q old new = HasCleanDisk new → (c : C) → InsideAs (P c) old → InsideAs (Q c) new

abbrev pub Turns : (Content → Content) → State → State → Type 0
Turns f = TurnsTo Holds (λ c. Holds (f c))

-- a call within a transaction
pub record Takes {C X E : Type 0} (P Q : C → Database → Type 0) (old new : State) (result : Result X E) : Type 0 where
  pub stays : Stays old new
  pub within : OnOk result (StaysInside old new)
  pub turns : OnOk result (TurnsTo P Q old new)

abbrev pub Makes : {X E : Type 0} → (Content → Content) → State → State → Result X E → Type 0
Makes f = Takes Holds (λ c. Holds (f c))

-- no transaction is open, or the one that was, with what it made
abbrev pub IsEndedOrKept : State → State → Type 0
IsEndedOrKept old new = (new.in_transaction ≡ false) ⊎ ((new.in_transaction ≡ old.in_transaction) × (new.now ≡ old.now))

pub record Begins {X E : Type 0} (old new : State) (result : Result X E) : Type 0 where
  pub survives : Survives old new (λ _. ⊥)
  pub kept : HasCleanDisk new → KeepsCommit old new
  pub begun : OnOk result (HasCleanDisk new → IsTrue new.is_open × (new.in_transaction ≡ true) × (new.now ≡ old.now))
  pub outside : OnOk result (HasCleanDisk new → old.in_transaction ≡ false)
  pub failed : OnErr result (HasCleanDisk new → IsEndedOrKept old new)

pub record Ends {X E : Type 0} (old new : State) (result : Result X E) : Type 0 where
  pub survives : Survives old new (λ db. db ≡ old.now.trees)
  pub kept : OnErr result (HasCleanDisk new → KeepsCommit old new)
  pub was : OnOk result (HasCleanDisk new → IsTrue old.is_open)
  pub ended : OnOk result (HasCleanDisk new → IsTrue new.is_open × (new.in_transaction ≡ false) × (new.now ≡ old.now) × (new.committed ≡ new.now))
  pub failed : OnErr result (HasCleanDisk new → IsEndedOrKept old new)

-- the transaction, if one is open, is rolled back
pub record Undoes (old new : State) : Type 0 where
  pub survives : Survives old new (λ _. ⊥)
  pub autocommit : HasCleanDisk new → new.in_transaction ≡ false
  pub undone : HasCleanDisk new → IsTrue new.is_open → IsTrue old.is_open × (new.now ≡ old.committed) × (new.committed ≡ old.committed)

-- nothing was changed that the connection or a crash could see, and no transaction is open
pub record LeavesAlone (old new : State) : Type 0 where
  pub survives : Survives old new (λ _. ⊥)
  pub autocommit : HasCleanDisk new → new.in_transaction ≡ false
  pub same : HasCleanDisk new → IsTrue new.is_open → IsTrue old.is_open × (new.committed ≡ old.committed) × (new.now ≡ new.committed)

-- what was committed before is seen, whatever the database is
abbrev pub RollsBack : State → State → Type 0
RollsBack old new = HasCleanDisk new → IsTrue new.is_open → (new.now ≡ old.committed) × (new.committed ≡ old.committed)

-- nothing is committed, whatever the database is
pub record CommitsNothing (old new : State) : Type 0 where
  pub survives : Survives old new (λ _. ⊥)
  pub kept : HasCleanDisk new → KeepsCommit old new

-- the transaction, if one is open, is rolled back, and the connection is open where the call succeeds
pub record GoesBack {X E : Type 0} (old new : State) (result : Result X E) : Type 0 where
  pub commits : CommitsNothing old new
  pub back : OnOk result (HasCleanDisk new → IsTrue new.is_open × (new.in_transaction ≡ false) × (new.now ≡ old.committed) × (new.committed ≡ old.committed))

-- A call that only reads. It begins no transaction; one that is open may be rolled back where the call fails.
pub record OnlyReads {X E : Type 0} (old new : State) (result : Result X E) : Type 0 where
  pub commits : CommitsNothing old new
  pub same : OnOk result (HasCleanDisk new → new.now ≡ old.now)
  pub outside : HasCleanDisk new → old.in_transaction ≡ false → new.in_transaction ≡ false
  pub seen : HasCleanDisk new → IsTrue new.is_open → (new.now ≡ old.now) ⊎ (new.now ≡ old.committed)

-- a crash leaves what was committed before, or one database as a whole: the one that is seen after, where the call succeeded
pub record CommitsOnce {X E : Type 0} (old new : State) (result : Result X E) : Type 0 where
  pub trees : Trees
  pub survives : Survives old new (λ db. db ≡ trees)
  pub made : OnOk result (HasCleanDisk new → trees ≡ new.now.trees)

-- a whole transaction that leaves the store as it was where it fails
pub record ServesAs {C X E : Type 0} (P Q : C → Database → Type 0) (old new : State) (result : Result X E) : Type 0 where
  pub survives : Survives old new (λ db. (c : C) → RestsAs (P c) old → LeftAs (Q c) db)
  pub kept : OnErr result (HasCleanDisk new → IsTrue new.is_open → (c : C) → RestsAs (P c) old → RestsAs (P c) new)
  pub done : OnOk result (HasCleanDisk new → (c : C) → RestsAs (P c) old → RestsAs (Q c) new)

abbrev pub Serves : {X E : Type 0} → (Content → Content) → State → State → Result X E → Type 0
Serves f = ServesAs Holds (λ c. Holds (f c))

-- only reads that succeeded lie between the two states
pub record LookedInside (old new : State) : Type 0 where
  pub stays : Stays old new
  pub within : StaysInside old new
  pub same : Turns (λ c. c) old new

-- a call never opens a connection, and where it succeeds one that was open is open
pub record StaysOpen {X E : Type 0} (old new : State) (result : Result X E) : Type 0 where
  pub was : HasCleanDisk new → IsTrue new.is_open → IsTrue old.is_open
  pub still : OnOk result (HasCleanDisk new → IsTrue old.is_open → IsTrue new.is_open)

-- the same of a whole transaction
abbrev pub IsSafe : {C X : Type 0} → (C → Database → Type 0) → State → State → Result X StoreFault → Type 0
IsSafe {C} P old new r = HasCleanDisk new → IfErr r (λ f. (c : C) → RestsAs (P c) old → IsOutside f)
