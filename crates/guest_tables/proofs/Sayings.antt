-- What the tables say.
use Rattle.std.proofs.Common.{◌≡◌, ◌≢◌, ◌<◌, List, [], ◌∷◌, length, Bool, true, false, cond, Ok, Err, Result, IfErr, refl, subst, arith}
use Rattle.sqlite.specs.declared.types.Value.{Value}
use Rattle.sqlite.specs.declared.types.Value.TheVariants.{Int}
use Rattle.sqlite.specs.Values.{IsInt}
use Rattle.sqlite.specs.Order.{Row, column}
use Rattle.sqlite.specs.Effect.{Database}
use Rattle.sqlite.specs.declared.error.Error.{Error}
use Rattle.sqlite.specs.declared.error.Error.TheVariants.{SqliteFailure}
use Rattle.sqlite.specs.declared.error.ErrorCode.TheVariants.{OutOfMemory}
use Rattle.fuse_keeper.specs.declared.fault.StoreFault.{StoreFault}
use Rattle.fuse_keeper.specs.declared.fault.StoreFault.TheVariants.{Memory, Sql, NotAStore, Version, Damaged, Guest}
use Rattle.fuse_keeper.specs.Faults.{is_memory}
use Rattle.fuse_store_tables.specs.Faults.{IsPlain, IsMisread}
use Rattle.fuse_store_tables.specs.inner.Columns.{misread_as}
use Rattle.guest_tables.specs.Saying.{IsOwn, Says}

pub plain_misread : (e : Error) → IsPlain (misread_as e)
plain_misread e = told (is_memory e)
  where
    told : (b : Bool) → IsPlain (cond b Memory Damaged)
    told true = tt
    told false = tt

pub misread_so : (e : Error) → IsMisread (misread_as e)
misread_so e = told (is_memory e)
  where
    told : (b : Bool) → IsMisread (cond b Memory Damaged)
    told true = tt
    told false = tt

-- ---- a value that is no version

no_integer : (v : Value) → ¬ IsInt v → IsOwn v
no_integer (Int n) none = absurd (none (n, refl))
no_integer _ none = tt

spared : (e : Error) → misread_as e ≡ Damaged → e ≢ SqliteFailure OutOfMemory
spared e damaged memory = let clash = subst (λ x. misread_as x ≡ Damaged) memory damaged in absurd cc

pub odd_own : (row : Row) (e : Error) → (e ≢ SqliteFailure OutOfMemory → 0 < length row → ¬ IsInt (column row 0)) → misread_as e ≡ Damaged → IsOwn (column row 0)
odd_own [] e kind damaged = tt
odd_own (v ∷ row) e kind damaged = no_integer v (kind (spared e damaged) (omega arith))

-- ---- a fault that names no version

plain_says : (d : Database) (f : StoreFault) → Says d Damaged → IsPlain f → Says d f
plain_says d Memory damaged plain = tt
plain_says d (Sql e) damaged plain = tt
plain_says d NotAStore damaged plain = absurd plain
plain_says d (Version n) damaged plain = absurd plain
plain_says d Damaged damaged plain = damaged
plain_says d Guest damaged plain = absurd plain

pub says_if : {X : Type 0} (d : Database) (r : Result X StoreFault) → Says d Damaged → IfErr r IsPlain → IfErr r (Says d)
says_if d (Ok x) damaged plain = tt
says_if d (Err f) damaged plain = plain_says d f damaged plain
