-- The tests of an opening, one after another.
use Rattle.std.proofs.Common.{◌≡◌, ◌≢◌, ℕ, Ok, Err, Result, IfOk, IfErr, OnOk, IsErrAnd, sym, subst, ◌∙◌}
use Rattle.std.specs.Prelude.{⊤}
use Rattle.std.specs.Result.{IsErr}
use Rattle.sqlite.specs.Effect.{Database}
use Rattle.sqlite.specs.Schema.{Schema}
use Rattle.sqlite.specs.State.{State, HasCleanDisk}
use Rattle.fuse_keeper.specs.declared.fault.StoreFault.{StoreFault}
use Rattle.fuse_keeper.specs.declared.fault.StoreFault.TheVariants.{Memory, Sql, NotAStore, Version, Damaged, Guest}
use Rattle.fuse_keeper.specs.Faults.{fault_of}
use Rattle.sqlite.specs.declared.error.Error.{Error}
use Rattle.guest_tables.proofs.any_schema.Joining.{outside}
use Rattle.fuse_store_tables.specs.Faults.{IsOutside}
use Rattle.fuse_store_tables.specs.Moves.{InsideAs, IsReady, Takes}
use Rattle.fuse_store_tables.specs.inner.Following.{earlier, then_as}
use Rattle.fuse_store_tables.specs.inner.Performing.{IsSure, OnlyReads, StaysWithin}
use Rattle.guest_tables.proofs.any_schema.Alone.{reads_then, reads_told}
use Rattle.guest_tables.proofs.any_schema.Indexed.{stays_as}
use Rattle.guest_tables.specs.Layout.{guest_schema}
use Rattle.guest_tables.specs.Content.{GuestContent, value_at}
use Rattle.guest_tables.specs.Opening.{IsLaid, IsMeta, IsStored, IsTested, meta_keys}
use Rattle.guest_tables.specs.Saying.{ReportsVersion, Says, IsTabled}
use Rattle.guest_tables.specs.inner.Checking.{ChecksIf, HasRowsInOrder, Tests}
use Rattle.guest_tables.proofs.MetaLemmas.{meta_bits}
use Rattle.guest_tables.proofs.Sayings.{says_if}
use Rattle.guest_tables.proofs.Versions.{reported_damaged}

pub stored_laid : (c : GuestContent) (d : Database) → IsStored c d → IsLaid c d
stored_laid c d at = record { holds = at.holds; bits = meta_bits meta_keys c.counters at.fit.meta.meta }

pub laid_inside : (c : GuestContent) (s : State) → InsideAs (IsStored c) s → InsideAs (IsLaid c) s
laid_inside c s at = record { is_open = at.is_open; in_transaction = at.in_transaction; holds = stored_laid c s.now at.holds }

-- what only reads keeps a store in order
pub stored_stays : {X E : Type 0} (a b : State) (r : Result X E) → Takes IsLaid IsLaid a b r → OnlyReads a b r → Takes IsStored IsStored a b r
stored_stays a b r laid reads = stays_as IsStored IsLaid stored_laid a b r laid reads

-- what `?` returns
pub fails_so : {C X Y E F : Type 0} (P : C → Database → Type 0) (a b : State) (e : E) (r : Result Y F) → Takes {X = X} P P a b (Err e) → IsErr r → Takes P P a b r
fails_so P a b e (Ok y) p is = absurd cc
fails_so P a b e (Err f) p is = record { stays = p.stays; within = tt; turns = tt }

pub found_not : {C X Y E F : Type 0} (P : C → Database → Type 0) (a b : State) (x : X) (f : F) → Takes {E = E} P P a b (Ok x) → Takes {X = Y} P P a b (Err f)
found_not P a b x f p = record { stays = p.stays; within = tt; turns = tt }

pub sure_back : {X : Type 0} (a b : State) (e : StoreFault) (r : Result X StoreFault) → IsErrAnd r (λ f. f ≡ e)
    → (HasCleanDisk b → (c : GuestContent) → InsideAs (IsLaid c) a → IsMeta c → IsOutside e) → IsSure IsStored a b r
sure_back a b e (Ok x) same out clean = tt
sure_back a b e (Err f) same out clean = λ at. subst IsOutside (sym same) (out clean at.0 (laid_inside at.0 a at.1) at.1.holds.fit.meta.meta)

pub says_back : {X : Type 0} (d : Database) (e : StoreFault) (r : Result X StoreFault) → IsErrAnd r (λ f. f ≡ e) → Says d e → IfErr r (Says d)
says_back d e (Ok x) same says = tt
says_back d e (Err f) same says = subst (Says d) (sym same) says

pub same_sure : {C Y : Type 0} (P : C → Database → Type 0) (a b : State) (e : StoreFault) (r : Result Y StoreFault) → IsErrAnd r (λ f. f ≡ e)
    → IsSure {X = Unit {0}} P a b (Err e) → IsSure P a b r
same_sure P a b e (Ok y) same sure clean = absurd same
same_sure P a b e (Err f) same sure clean = λ at. subst IsOutside (sym same) (sure clean at)

-- a statement failed
pub sure_outside : {C Y : Type 0} (P : C → Database → Type 0) (a b : State) (e : Error) (r : Result Y StoreFault) → IsErrAnd r (λ f. f ≡ fault_of e) → IsSure P a b r
sure_outside P a b e (Ok y) same clean = tt
sure_outside P a b e (Err f) same clean = λ at. subst IsOutside (sym same) (outside e)

outside_says : (d : Database) (f : StoreFault) → IsOutside f → Says d f
outside_says d Memory out = tt
outside_says d (Sql e) out = tt
outside_says d NotAStore out = absurd out
outside_says d (Version n) out = absurd out
outside_says d Damaged out = absurd out
outside_says d Guest out = absurd out

pub says_outside : {Y : Type 0} (d : Database) (e : Error) (r : Result Y StoreFault) → IsErrAnd r (λ f. f ≡ fault_of e) → IfErr r (Says d)
says_outside d e (Ok y) same = tt
says_outside d e (Err f) same = outside_says d f (subst IsOutside (sym same) (outside e))

-- ---- once the version is known

module _ (a b : State) (v : ℕ) (laid : Takes {E = StoreFault} IsLaid IsLaid a b (Ok v))
    (value : HasCleanDisk b → (c : GuestContent) → InsideAs (IsLaid c) a → v ≡ value_at 16 c) where
  pub sure_version : v ≢ 1 → IsSure {X = Unit {0}} IsStored a b (Err (Version v))
  sure_version other clean = λ at. absurd (other (value clean at.0 (laid_inside at.0 a at.1) ∙ at.1.holds.fit.meta.version))

  pub sure_tables : (s : Schema) → s ≡ a.now.schema → (s ≡ guest_schema → ⊥) → IsSure {X = Unit {0}} IsStored a b (Err Damaged)
  sure_tables s same other clean = λ at. absurd (other (same ∙ at.1.holds.holds.schema))

  module _ (is : v ≡ 1) (d : State) {X : Type 0} (r : Result X StoreFault) (checks : ChecksIf (λ _. ⊤) HasRowsInOrder b d r) where
    pub sure_checked : IsSure IsStored a d r
    sure_checked clean = told r (checks.fault clean)
      where
        told : (r : Result X StoreFault) → IfErr r (λ f. (c : GuestContent) → InsideAs (IsLaid c) b → ⊤ → HasRowsInOrder c → IsOutside f)
            → IfErr r (λ f. IsReady IsStored a → IsOutside f)
        told (Ok x) all = tt
        told (Err f) all = λ at.
            let mid = earlier b d _ checks.reads.commits.survives clean in
            all at.0 (laid.turns mid at.0 (laid_inside at.0 a at.1)) tt ((at.1.holds.fit.meta.meta, at.1.holds.fit.meta.lots), at.1.holds.fit.records)

    pub tested : Tests IsTested a d r
    tested clean = told r (checks.whole clean)
      where
        told : (r : Result X StoreFault) → OnOk r ((c : GuestContent) → InsideAs (IsLaid c) b → ⊤ → HasRowsInOrder c) → OnOk r ((c : GuestContent) → InsideAs (IsLaid c) a → IsTested c)
        told (Err f) all = tt
        told (Ok x) all = λ c at.
            let mid = earlier b d _ checks.reads.commits.survives clean in
            let found = all c (laid.turns mid c at) tt in
            record { meta = record { version = sym (value mid c at) ∙ is; meta = found.0.0; lots = found.0.1 }; records = found.1 }

    module _ (reports : HasCleanDisk b → ReportsVersion a.now v) where
      one : HasCleanDisk d → ReportsVersion a.now 1
      one clean = subst (ReportsVersion a.now) is (reports (earlier b d _ checks.reads.commits.survives clean))

      pub says_checked : HasCleanDisk d → IfErr r (Says a.now)
      says_checked clean = says_if a.now r (reported_damaged a.now (one clean)) checks.plain

      pub tabled_checked : (s : Schema) → s ≡ a.now.schema → s ≡ guest_schema → HasCleanDisk d → OnOk r (IsTabled a.now)
      tabled_checked s same guest clean = told r
        where
          told : (r : Result X StoreFault) → OnOk r (IsTabled a.now)
          told (Err f) = tt
          told (Ok x) = (one clean, sym same ∙ guest)
