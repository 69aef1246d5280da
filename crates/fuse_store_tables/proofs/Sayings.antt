-- What the tables say.
use Rattle.std.proofs.Common.{◌≡◌, ◌≢◌, ◌<◌, ℕ, List, [], ◌∷◌, length, Bool, true, false, cond, Ok, Err, Result, IfOk, IfErr, refl, subst, arith}
use Rattle.sqlite.specs.declared.types.Value.{Value}
use Rattle.sqlite.specs.declared.types.Value.TheVariants.{Int}
use Rattle.sqlite.specs.Values.{IsInt}
use Rattle.sqlite.specs.Order.{Row, column}
use Rattle.sqlite.specs.Effect.{Database}
use Rattle.sqlite.specs.declared.error.Error.{Error}
use Rattle.sqlite.specs.declared.error.Error.TheVariants.{SqliteFailure}
use Rattle.sqlite.specs.declared.error.ErrorCode.TheVariants.{OutOfMemory}
use Rattle.sqlite.specs.State.{State, HasCleanDisk, Shown}
use Rattle.fuse_keeper.specs.declared.fault.StoreFault.{StoreFault}
use Rattle.fuse_keeper.specs.declared.fault.StoreFault.TheVariants.{Memory, Sql, Damaged}
use Rattle.fuse_keeper.specs.Faults.{fault_of, is_memory}
use Rattle.fuse_store_tables.specs.Faults.{IsPlain, IsMisread}
use Rattle.fuse_store_tables.specs.inner.Columns.{misread_as}
use Rattle.fuse_store_tables.specs.Saying.{version_text, meta_text, Shows, ShowsVersion, IsOwn, Says}
use Rattle.fuse_store_tables.specs.inner.Versions.{plain_says}
use Rattle.fuse_store_tables.proofs.Selects.{IsSelectText, returns_none, version_select, meta_select}
use Rattle.sqlite_resolve.specs.Compile.{first}

pub plain_fault : (e : Error) → IsPlain (fault_of e)
plain_fault e = told (is_memory e)
  where
    told : (b : Bool) → IsPlain (cond b Memory (Sql e))
    told true = tt
    told false = tt

pub plain_misread : (e : Error) → IsPlain (misread_as e)
plain_misread e = told (is_memory e)
  where
    told : (b : Bool) → IsPlain (cond b Memory Damaged)
    told true = tt
    told false = tt

pub misread_so : (e : Error) → IsMisread (misread_as e)
misread_so e = told (is_memory e)
  where
    told : (b : Bool) → IsMisread (cond b Memory Damaged)
    told true = tt
    told false = tt

shows : (text : List ℕ) → IsSelectText (first text) → (old new : State) (rows : List Row) → Shown text [] old new rows → Shows text old.now rows
unfolding Shown
shows text selects old new rows h =
    let none = returns_none text selects old.now.schema h.0 h.1.is in
    let it = rw none at h.2 in
    (h.0, h.1.is, h.1.now, it.0, it.1, it.2)

pub says_meta : {X : Type 0} (items : X → List Row) (old new : State) (r : Result X Error)
    → (HasCleanDisk new → IfOk r (λ x. Shown meta_text [] old new (items x))) → HasCleanDisk new → IfOk r (λ x. Shows meta_text old.now (items x))
says_meta items old new (Ok x) ok clean = shows meta_text meta_select old new (items x) (ok clean)
says_meta items old new (Err e) ok clean = tt

pub says_version : {X : Type 0} (items : X → List Row) (old new : State) (r : Result X Error)
    → (HasCleanDisk new → IfOk r (λ x. Shown version_text [] old new (items x))) → HasCleanDisk new → IfOk r (λ x. ShowsVersion old.now (items x))
says_version items old new (Ok x) ok clean = shows version_text version_select old new (items x) (ok clean)
says_version items old new (Err e) ok clean = tt

-- ---- a value that is no version

no_integer : (v : Value) → ¬ IsInt v → IsOwn v
no_integer (Int n) none = absurd (none (n, refl))
no_integer _ none = tt

spared : (e : Error) → misread_as e ≡ Damaged → e ≢ SqliteFailure OutOfMemory
spared e damaged memory = let clash = subst (λ x. misread_as x ≡ Damaged) memory damaged in absurd cc

pub odd_own : (row : Row) (e : Error) → (e ≢ SqliteFailure OutOfMemory → 0 < length row → ¬ IsInt (column row 0)) → misread_as e ≡ Damaged → IsOwn (column row 0)
odd_own [] e kind damaged = tt
odd_own (v ∷ row) e kind damaged = no_integer v (kind (spared e damaged) (omega arith))

pub says_if : {X : Type 0} (d : Database) (r : Result X StoreFault) → Says d Damaged → IfErr r IsPlain → IfErr r (Says d)
says_if d (Ok x) damaged plain = tt
says_if d (Err f) damaged plain = plain_says d f damaged plain
