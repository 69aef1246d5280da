-- What a fault says of a database whose version is known (defined by this project). The proofs are here because the crates above cite them.
use Rattle.std.proofs.Common.{subst}
use Rattle.std.specs.Prelude.{◌≡◌, ◌⊎◌, ℕ, List, [], ◌∷◌}
use Rattle.std.proofs.Common.{inl, inr, refl, sym}
use Rattle.std.specs.Int.{w64, cast_signed}
use Rattle.sqlite.specs.declared.types.Value.TheVariants.{Int}
use Rattle.sqlite.specs.Order.{Row}
use Rattle.sqlite.specs.Effect.{Database}
use Rattle.fuse_keeper.specs.declared.fault.StoreFault.{StoreFault}
use Rattle.fuse_keeper.specs.declared.fault.StoreFault.TheVariants.{Memory, Sql, NotAStore, Version, Damaged, Guest}
use Rattle.fuse_store_tables.specs.Faults.{IsPlain}
use Rattle.fuse_store_tables.specs.Saying.{HasFirst, HasOwn, IsOwn, ReportsVersion, Says, IsTabled}

-- one of the versions
abbrev pub IsKnown : ℕ → Type 0
IsKnown n = (n ≡ 1) ⊎ ((n ≡ 2) ⊎ (n ≡ 3))

known_own : (n : ℕ) → IsKnown n → IsOwn (Int (cast_signed w64 n))
known_own n (inl one) = subst (λ m. IsOwn (Int (cast_signed w64 m))) (sym one) (inl refl)
known_own n (inr (inl two)) = subst (λ m. IsOwn (Int (cast_signed w64 m))) (sym two) (inr (inl refl))
known_own n (inr (inr three)) = subst (λ m. IsOwn (Int (cast_signed w64 m))) (sym three) (inr (inr refl))

own_rows : (n : ℕ) (rows : List Row) → HasFirst n rows → IsKnown n → HasOwn rows
own_rows n [] first own = absurd first
own_rows n (row ∷ rows) first own = subst IsOwn (sym first) (known_own n own)

pub reported_damaged : (d : Database) (n : ℕ) → ReportsVersion d n → IsKnown n → Says d Damaged
reported_damaged d n reports own = (reports.0, reports.1, own_rows n reports.0 reports.2 own)

-- a fault that names no version
pub plain_says : (d : Database) (f : StoreFault) → Says d Damaged → IsPlain f → Says d f
plain_says d Memory damaged plain = tt
plain_says d (Sql e) damaged plain = tt
plain_says d NotAStore damaged plain = absurd plain
plain_says d (Version n) damaged plain = absurd plain
plain_says d Damaged damaged plain = damaged
plain_says d Guest damaged plain = absurd plain

pub tabled_says : (d : Database) (f : StoreFault) → IsTabled d → IsPlain f → Says d f
tabled_says d f (inl first) plain = plain_says d f (reported_damaged d 1 first.0 (inl refl)) plain
tabled_says d f (inr (inl second)) plain = plain_says d f (reported_damaged d 2 second.0 (inr (inl refl))) plain
tabled_says d f (inr (inr third)) plain = plain_says d f (reported_damaged d 3 third.0 (inr (inr refl))) plain
