-- The schema that an open finds.
use Rattle.std.proofs.Common.{◌≡◌, ◌⊎◌, inl, inr, ℕ, Ok, Err, Result, OnOk, refl, sym, ap, subst, arith, ◌∙◌}
use Rattle.sqlite.specs.Schema.{Schema}
use Rattle.sqlite.specs.Effect.{Database}
use Rattle.sqlite.specs.Tree.{Trees}
use Rattle.sqlite.specs.State.{State, HasCleanDisk, Survives}
use Rattle.fuse_keeper.specs.declared.fault.StoreFault.TheVariants.{Damaged}
use Rattle.fuse_store_tables.specs.Layout.{with_answers, with_kept, store_schema, third_schema, schema_for, version_of}
use Rattle.fuse_store_tables.specs.declared.version.Layout.{Layout}
use Rattle.fuse_store_tables.specs.declared.version.Layout.TheVariants.{Second, Third}
use Rattle.fuse_store_tables.specs.Content.{Content, value_at}
use Rattle.fuse_store_tables.specs.inner.Following.{earlier}
use Rattle.fuse_store_tables.specs.Faults.{IsOutside}
use Rattle.fuse_store_tables.specs.Opening.{IsStored}
use Rattle.fuse_store_tables.specs.Moves.{InsideAs, IsReady}
use Rattle.fuse_store_tables.specs.Saying.{ReportsVersion, ShowsMore, IsTabled, IsToMigrate}
use Rattle.fuse_store_tables.proofs.MigrationLemmas.{not_both, not_old}

-- ---- a store has it

unlike : {X : Type 0} (v : ℕ) → v ≡ 3 → v ≡ 2 → X
unlike v three two = absurd (omega (arith, three, two))

second_is : (l : Layout) → 2 ≡ version_of l → l ≡ Second
second_is Second is = refl
second_is Third is = absurd (omega (arith, is))

third_is : (l : Layout) → 3 ≡ version_of l → l ≡ Third
third_is Second is = absurd (omega (arith, is))
third_is Third is = refl

not_three : {X : Type 0} (v : ℕ) → v ≡ 1 → v ≡ 3 → X
not_three v one three = absurd (omega (arith, one, three))

first_there : (c : Content) (d : Database) → value_at 1 c ≡ 1 → IsStored c d → d.schema ≡ with_answers
first_there c d one (inl (inl h)) = h.holds.0.schema
first_there c d one (inl (inr h)) = not_old (value_at 1 c) c.layout one h.fit.version
first_there c d one (inr h) = not_old (value_at 1 c) c.layout one h.fit.version

second_there : (c : Content) (d : Database) → value_at 1 c ≡ 2 → IsStored c d → (d.schema ≡ store_schema) ⊎ (d.schema ≡ with_kept)
second_there c d two (inl (inl h)) = not_both (value_at 1 c) h.old.version two
second_there c d two (inl (inr h)) = inl (h.holds.schema ∙ ap schema_for (second_is c.layout (sym two ∙ h.fit.version)))
second_there c d two (inr h) = inr h.holds.0.schema

third_there : (c : Content) (d : Database) → value_at 1 c ≡ 3 → IsStored c d → d.schema ≡ third_schema
third_there c d three (inl (inl h)) = not_three (value_at 1 c) h.old.version three
third_there c d three (inl (inr h)) = h.holds.schema ∙ ap schema_for (third_is c.layout (sym three ∙ h.fit.version))
third_there c d three (inr h) = unlike (value_at 1 c) three (h.fit.version ∙ ap version_of h.holds.1)

-- what has another is no store
module _ (a b : State) (s : Schema) (same : s ≡ a.now.schema) (n : ℕ) (value : HasCleanDisk b → (c : Content) → InsideAs (IsStored c) a → n ≡ value_at 1 c) where
  pub refused_first : ¬ (s ≡ with_answers) → n ≡ 1 → HasCleanDisk b → IsReady IsStored a → IsOutside Damaged
  refused_first other one clean ready = absurd (other (same ∙ first_there ready.0 a.now (sym (value clean ready.0 ready.1) ∙ one) ready.1.holds))

  pub refused_second : ¬ (s ≡ store_schema) → ¬ (s ≡ with_kept) → n ≡ 2 → HasCleanDisk b → IsReady IsStored a → IsOutside Damaged
  refused_second other lacks two clean ready =
      elim (second_there ready.0 a.now (sym (value clean ready.0 ready.1) ∙ two) ready.1.holds) [
        | inl is ↦ absurd (other (same ∙ is))
        | inr is ↦ absurd (lacks (same ∙ is))
      ]

  pub refused_third : ¬ (s ≡ third_schema) → n ≡ 3 → HasCleanDisk b → IsReady IsStored a → IsOutside Damaged
  refused_third other three clean ready = absurd (other (same ∙ third_there ready.0 a.now (sym (value clean ready.0 ready.1) ∙ three) ready.1.holds))

-- ---- what went well found it

module _ (a b d : State) (s : Schema) (same : s ≡ a.now.schema) (n : ℕ) (tells : HasCleanDisk b → ReportsVersion a.now n) {K : Trees → Type 0}
    (survives : Survives b d K) where
  pub to_migrate : n ≡ 1 → s ≡ with_answers → HasCleanDisk d → IsToMigrate a.now
  to_migrate one is clean = inl (subst (ReportsVersion a.now) one (tells (earlier b d _ survives clean)), sym same ∙ is)

  pub to_index : n ≡ 2 → s ≡ with_kept → HasCleanDisk d → IsToMigrate a.now
  to_index two is clean = inr (inl (subst (ReportsVersion a.now) two (tells (earlier b d _ survives clean)), sym same ∙ is))

  pub to_count : n ≡ 2 → s ≡ store_schema → HasCleanDisk d → ShowsMore a.now → IsToMigrate a.now
  to_count two is clean more = inr (inr (subst (ReportsVersion a.now) two (tells (earlier b d _ survives clean)), sym same ∙ is, more))

  pub tabled_first : n ≡ 1 → s ≡ with_answers → HasCleanDisk d → IsTabled a.now
  tabled_first one is clean = inl (subst (ReportsVersion a.now) one (tells (earlier b d _ survives clean)), sym same ∙ is)

  pub tabled_second : {X E : Type 0} (r : Result X E) → n ≡ 2 → (s ≡ store_schema) ⊎ (s ≡ with_kept) → HasCleanDisk d → OnOk r (IsTabled a.now)
  tabled_second (Err e) two is clean = tt
  tabled_second (Ok x) two is clean =
      inr (inl (subst (ReportsVersion a.now) two (tells (earlier b d _ survives clean)), subst (λ (t : Schema). (t ≡ store_schema) ⊎ (t ≡ with_kept)) same is))

  pub tabled_third : {X E : Type 0} (r : Result X E) → n ≡ 3 → s ≡ third_schema → HasCleanDisk d → OnOk r (IsTabled a.now)
  tabled_third (Err e) three is clean = tt
  tabled_third (Ok x) three is clean = inr (inr (subst (ReportsVersion a.now) three (tells (earlier b d _ survives clean)), sym same ∙ is))

-- what is to be migrated is tabled
pub migrated_tabled : (d : Database) → IsToMigrate d → IsTabled d
migrated_tabled d (inl first) = inl first
migrated_tabled d (inr (inl second)) = inr (inl (second.0, inr second.1))
migrated_tabled d (inr (inr second)) = inr (inl (second.0, inl second.1))
