-- A statement, and a whole transaction whose rollback is the caller's (defined by this project).
use Rattle.std.specs.Prelude.{◌≡◌, ◌≢◌, Bool, true, ℕ, nat_lt, List, Result, Ok, Err, OnOk, OnErr, IfErr}
use Rattle.sqlite.specs.Order.{Row}
use Rattle.sqlite.specs.Effect.{Database}
use Rattle.sqlite.specs.declared.error.Error.{Error}
use Rattle.sqlite.specs.State.{State, HasCleanDisk, Survives, KeepsCommit, Executes}
use Rattle.fuse_store_tables.specs.Content.{Content, Holds, LeftAs}
use Rattle.fuse_keeper.specs.declared.fault.StoreFault.{StoreFault}
use Rattle.fuse_store_tables.specs.Faults.{IsOutside}
use Rattle.fuse_store_tables.specs.Moves.{IsReady, RestsAs}
pub use Rattle.fuse_store_tables.specs.Moves.{CommitsNothing, OnlyReads}

-- the statement was run with these values
abbrev pub Ran : List ℕ → Row → State → State → Result (Unit {0}) Error → Type 0
Ran sql values old new (Ok _) = (changed : ℕ) × Executes sql values old new (Ok changed)
Ran sql values old new (Err e) = Executes sql values old new (Err e)

-- the same, and this says whether a row was changed
abbrev pub RanAny : List ℕ → Row → State → State → Result Bool Error → Type 0
RanAny sql values old new (Ok any) = (changed : ℕ) × Executes sql values old new (Ok changed) × (any ≡ nat_lt 0 changed)
RanAny sql values old new (Err e) = Executes sql values old new (Err e)

-- a call that is a whole transaction
pub record TransactsAs {C X E : Type 0} (P Q : C → Database → Type 0) (old new : State) (result : Result X E) : Type 0 where
  pub survives : Survives old new (λ db. (c : C) → RestsAs (P c) old → LeftAs (Q c) db)
  pub kept : OnErr result (HasCleanDisk new → (c : C) → RestsAs (P c) old → KeepsCommit old new)
  pub done : OnOk result (HasCleanDisk new → (c : C) → RestsAs (P c) old → RestsAs (Q c) new)

abbrev pub Transacts : {X E : Type 0} → (Content → Content) → State → State → Result X E → Type 0
Transacts f = TransactsAs Holds (λ c. Holds (f c))

-- of a call that began with one of these databases, a fault says nothing of the store
abbrev pub IsSure : {C X : Type 0} → (C → Database → Type 0) → State → State → Result X StoreFault → Type 0
IsSure P old new r = HasCleanDisk new → IfErr r (λ f. IsReady P old → IsOutside f)

-- ---- of any database, whatever its tables

-- a call within a transaction: it commits nothing, and the transaction stays open where the call succeeded
pub record StaysWithin {X E : Type 0} (old new : State) (result : Result X E) : Type 0 where
  pub survives : Survives old new (λ _. old.in_transaction ≢ true)
  pub kept : HasCleanDisk new → old.in_transaction ≡ true → KeepsCommit old new
  pub within : OnOk result (HasCleanDisk new → old.in_transaction ≡ true → new.in_transaction ≡ true)
