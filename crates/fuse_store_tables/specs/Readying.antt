-- What an opening makes ready before its commit, and what is left of it where the opening fails (defined by this project).
use Rattle.std.specs.Prelude.{◌≡◌, ◌⊎◌}
use Rattle.fuse_keeper.specs.declared.fault.StoreFault.{StoreFault}
use Rattle.fuse_store_tables.specs.Faults.{IsOutside}

-- whatever became of it
abbrev pub IsAny : {T : Type 0} → T → T → Type 0
IsAny old new = Unit {0}

-- The tests of the opening found the fault, and it is as it was. Or the fault came later, and says nothing of the store: it could not be made
-- ready, or it was, and the commit failed. Where nothing can have been committed, `Alone` is so.
abbrev pub LeavesReadied : {T : Type 0} → (makes leaves : T → T → Type 0) → Type 0 → (old new : T) → StoreFault → Type 0
LeavesReadied makes leaves Alone old new f = ((new ≡ old) × Alone) ⊎ (IsOutside f × ((leaves old new × Alone) ⊎ makes old new))
