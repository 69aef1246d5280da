-- An opening and the begin of a mount, in one transaction.
use Rattle.std.specs.Prelude.{⊤}
use Rattle.std.proofs.Common.{◌≡◌, ℕ, Option, Ok, Err, Result, IfErr, IsErrAnd, sym, subst}
use Rattle.sqlite.specs.Effect.{Database}
use Rattle.sqlite.specs.State.{State}
use Rattle.fuse_init.specs.declared.profile.Profile.{Profile}
use Rattle.fuse_keeper.specs.declared.fault.StoreFault.{StoreFault}
use Rattle.fuse_store_tables.specs.Content.{Content, Holds}
use Rattle.fuse_store_tables.specs.Clearing.{cleared, IsBegun}
use Rattle.fuse_store_tables.specs.Faults.{IsOutside, IsPlain}
use Rattle.fuse_store_tables.specs.Moves.{InsideAs, IsReady, Takes, Makes}
use Rattle.fuse_store_tables.specs.Opening.{IsSecond, IsOpened, HasSecondMeta, opened}
use Rattle.fuse_store_tables.specs.Saying.{Says, IsTabled}
use Rattle.fuse_store_tables.specs.inner.Checking.{ChecksIf}
use Rattle.fuse_store_tables.specs.inner.Following.{taken_from}
use Rattle.fuse_store_tables.specs.inner.Performing.{IsSure}
use Rattle.fuse_store_tables.specs.inner.Versions.{tabled_says}
use Rattle.fuse_store_tables.proofs.Checks.{checks_keep, checks_sure, second_laid, second_passes}
use Rattle.fuse_store_tables.proofs.Joining.{made_from}
use Rattle.fuse_store_tables.proofs.Either.{sub_from, narrowed_if}
use Rattle.fuse_store_tables.proofs.Fitting.{fit_cleared}

pub clears_opened : {X E : Type 0} (number : Option ℕ) (a b : State) (r : Result X E) → Makes cleared a b r → Takes (IsOpened number) (IsBegun number) a b r
clears_opened number a b r p =
    narrowed_if (IsOpened number) (λ k. Holds (cleared (opened number k))) (IsBegun number) a b r
    (sub_from (IsOpened number) (λ k. Holds (opened number k)) (λ k. Holds (cleared (opened number k))) (λ k d h. h.holds) a b r
    (made_from (opened number) cleared a b r p))
    (λ clean k at on. record {
      is_open = on.is_open;
      in_transaction = on.in_transaction;
      holds = record { holds = on.holds; fit = fit_cleared (opened number k) at.holds.fit };
    })

held : (number : Option ℕ) (c : Content) (s : State) → InsideAs (IsOpened number c) s → InsideAs (Holds (opened number c)) s
held number c s at = record { is_open = at.is_open; in_transaction = at.in_transaction; holds = at.holds.holds }

pub sure_cleared : {X : Type 0} (number : Option ℕ) (a b : State) (r : Result X StoreFault) → IsSure Holds a b r → IsSure (IsOpened number) a b r
sure_cleared number a b (Ok x) q clean = tt
sure_cleared number a b (Err f) q clean = λ at. q clean (opened number at.0, held number at.0 a at.1)

-- ---- the test of what is left

module _ (number : Option ℕ) (a b : State) (r : Result Profile StoreFault) (p : ChecksIf (λ _. ⊤) HasSecondMeta a b r) where
  pub begun_keeps : Takes (IsBegun number) (IsBegun number) a b r
  begun_keeps = taken_from IsSecond IsSecond (λ k. cleared (opened number k)) a b r (checks_keep IsSecond second_laid HasSecondMeta a b r p)

  pub begun_sure : IsSure (IsBegun number) a b r
  begun_sure clean = told r (checks_sure IsSecond second_laid HasSecondMeta a b r p second_passes clean)
    where
      told : (r : Result Profile StoreFault) → IfErr r (λ f. IsReady IsSecond a → IsOutside f) → IfErr r (λ f. IsReady (IsBegun number) a → IsOutside f)
      told (Ok x) all = tt
      told (Err f) all = λ at. all (cleared (opened number at.0), at.1)

-- ---- what `?` returns of it

pub plain_back : {Y : Type 0} (e : StoreFault) (r : Result Y StoreFault) → IsErrAnd r (λ f. f ≡ e) → IsPlain e → IfErr r IsPlain
plain_back e (Ok y) same plain = absurd same
plain_back e (Err f) same plain = subst IsPlain (sym same) plain

pub same_sure : {C Y : Type 0} (P : C → Database → Type 0) (a b : State) (e : StoreFault) (r : Result Y StoreFault) → IsErrAnd r (λ f. f ≡ e)
    → IsSure {X = Unit {0}} P a b (Err e) → IsSure P a b r
same_sure P a b e (Ok y) same sure clean = absurd same
same_sure P a b e (Err f) same sure clean = λ at. subst IsOutside (sym same) (sure clean at)

pub cleared_says : {X : Type 0} (d : Database) (e : StoreFault) (r : Result X StoreFault) → IsErrAnd r (λ f. f ≡ e) → IsTabled d → IsPlain e → IfErr r (Says d)
cleared_says d e (Ok x) same tabled plain = tt
cleared_says d e (Err f) same tabled plain = tabled_says d f tabled (subst IsPlain (sym same) plain)
