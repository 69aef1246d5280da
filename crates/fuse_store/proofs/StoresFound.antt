-- Which store an opening finds, by the schema of the tables.
use Rattle.std.proofs.Common.{◌≡◌, ◌⊎◌, ◌==◌, ℕ, List, [], Bool, true, false, length, Option, Some, None, inl, inr, refl, sym, ap, subst, ◌∙◌, IsTrue}
use Rattle.std.proofs.lemmas.Bool.{cases_Bool}
use Rattle.sqlite.specs.Effect.{Database}
use Rattle.sqlite.specs.Schema.{Schema}
use Rattle.sqlite_tied.specs.Compute.{everything}
use Rattle.fuse_init.specs.declared.profile.Profile.{Profile}
use Rattle.fuse_init.specs.declared.profile.Profile.TheVariants.{Plain, Everyday}
use Rattle.fuse_rows.specs.Rows.{profile_for}
use Rattle.fuse_tree.specs.State.{profile_of}
use Rattle.fuse_store_tables.specs.declared.version.Layout.{Layout}
use Rattle.fuse_store_tables.specs.declared.version.Layout.TheVariants as layouts
use Rattle.fuse_store_tables.specs.Content.{Content}
use Rattle.fuse_store_tables.specs.Layout.{schema_for, store_schema, third_schema, with_answers, with_kept}
use Rattle.fuse_store_tables.specs.Opening.{profile_in}
use Rattle.fuse_store_tables.specs.Saying.{IsToMigrate}
use Rattle.fuse_store_tables.specs.ToCount.{HoldsOfSecond, IsOfSecond}
use Rattle.fuse_store_tree.specs.Holding.{Holding, HeldFor}
use Rattle.fuse_store.specs.Opening.{Stored, First, Second, Unindexed, SecondEveryday, StoredFor, IsReady, opened_for}
use Rattle.fuse_store.specs.SecondVersion.{SecondEverydayFor}
use Rattle.fuse_store.specs.inner.Opened.{has_nine}
use Rattle.fuse_store.proofs.EverydayFit.{of_everyday, profile_second}
use Rattle.fuse_tree.specs.Rowed.{rowed}
use Rattle.fuse_store_tree.specs.Store.{layout_for}
use Rattle.fuse_store.proofs.Fitting.{Told, room_with}
use Rattle.fuse_store.proofs.Reopening.{plain_second}

-- ---- how many tables there are

pub third_nine : has_nine third_schema ≡ true
unfolding everything
third_nine = refl

pub second_few : has_nine store_schema ≡ false
unfolding everything
second_few = refl

pub kept_few : has_nine with_kept ≡ false
unfolding everything
kept_few = refl

pub answers_few : has_nine with_answers ≡ false
unfolding everything
answers_few = refl

-- a schema has not both so many and fewer
clash : {X : Type 0} (s t : Schema) → s ≡ t → has_nine s ≡ true → has_nine t ≡ false → X
clash s t is many few = absurd (let e = sym many ∙ ap has_nine is ∙ few in cc)

pub few_of_second : (s : Schema) → IsOfSecond s → has_nine s ≡ false
few_of_second s (inl is) = ap has_nine is ∙ second_few
few_of_second s (inr is) = ap has_nine is ∙ kept_few

-- version 3 is not migrated
pub not_to_migrate : (d : Database) → has_nine d.schema ≡ true → IsToMigrate d → ⊥
not_to_migrate d many (inl first) = clash d.schema with_answers first.1 many answers_few
not_to_migrate d many (inr (inl kept)) = clash d.schema with_kept kept.1 many kept_few
not_to_migrate d many (inr (inr second)) = clash d.schema store_schema second.1 many second_few

-- ---- by a store

third_everyday : (y : Holding) (c : Content) (file : List ℕ) → c.layout ≡ layouts.Third → Told y file c → profile_of y.tree ≡ Everyday
unfolding rowed
third_everyday y c file is told = by y.tree.capacity (sym told.layout ∙ is)
  where
    by : (o : Option ℕ) → layout_for (room_with o y.tree) ≡ layouts.Third → profile_for o ≡ Everyday
    by None is = absurd cc
    by (Some k) is = refl

no_version_three : {X : Type 0} (file : List ℕ) (y : Holding) (d : Database) → HeldFor file y d → has_nine d.schema ≡ false → (layout : Layout) → layouts.Third ≡ layout
    → schema_for layout ≡ d.schema → X
no_version_three file y d at few layout third is =
    clash third_schema d.schema (ap schema_for third ∙ is) third_nine few

-- a store is plain and needs no number, or is one of version 2 that is everyday, where there are fewer tables
pub few_found : (file : List ℕ) (z : Stored) (d : Database) → StoredFor file z d → has_nine d.schema ≡ false
    → ((profile_of (opened_for z).tree ≡ Plain) × ((number : Option ℕ) (other : List ℕ) → IsReady number other z)) ⊎ ((y : Holding) × (z ≡ SecondEveryday y))
few_found file (First tree answers) d at few = inl (ap (λ (o : Option ℕ). profile_for o) at.plain, λ number other. tt)
few_found file (Second y) d at few = by at.held.0.layout refl
  where
    by : (l : Layout) → at.held.0.layout ≡ l
        → ((profile_of y.tree ≡ Plain) × ((number : Option ℕ) (other : List ℕ) → IsReady number other (Second y))) ⊎ ((x : Holding) × (Second y ≡ SecondEveryday x))
    by layouts.Second is = inl (plain_second y file at.held.0 is at.held.2, λ number other. tt)
    by layouts.Third is = no_version_three file y d at few at.held.0.layout (sym is) (sym at.held.1.schema)
few_found file (Unindexed y) d at few = inl (plain_second y [] at.held.0 at.held.1.1 at.held.2, λ number other. tt)
few_found file (SecondEveryday y) d at few = inr (y, refl)

pub everyday_profile : (y : Holding) (d : Database) → SecondEverydayFor y d → profile_of y.tree ≡ Everyday
everyday_profile y d at = of_everyday y at.held.0 at.tree at.everyday at.held.2

everyday_clash : (y : Holding) (d : Database) → SecondEverydayFor y d → ((c : Content) → HoldsOfSecond c d → profile_in c ≡ Plain) → ⊥
everyday_clash y d at current =
    let e = sym (profile_second y at.held.0 at.tree at.everyday at.held.2) ∙ current at.held.0 at.held.1 in cc

-- where none of version 2 is everyday, a store needs no number
pub current_ready : (file : List ℕ) (z : Stored) (d : Database) → StoredFor file z d → ((c : Content) → HoldsOfSecond c d → profile_in c ≡ Plain)
    → (number : Option ℕ) (other : List ℕ) → IsReady number other z
current_ready file (First tree answers) d at current number other = tt
current_ready file (Second y) d at current number other = tt
current_ready file (Unindexed y) d at current number other = tt
current_ready file (SecondEveryday y) d at current number other = absurd (everyday_clash y d at current)

-- and is plain where there are fewer tables
pub current_plain : (file : List ℕ) (z : Stored) (d : Database) → StoredFor file z d → ((c : Content) → HoldsOfSecond c d → profile_in c ≡ Plain)
    → has_nine d.schema ≡ false → profile_of (opened_for z).tree ≡ Plain
current_plain file z d at current few = elim (few_found file z d at few) [
  | inl plain ↦ plain.0
  | inr everyday ↦ absurd (everyday_clash everyday.0 d (subst (λ (x : Stored). StoredFor file x d) everyday.1 at) current)
]

-- a store of version 3 is everyday, and needs no number
pub nine_found : (file : List ℕ) (z : Stored) (d : Database) → StoredFor file z d → has_nine d.schema ≡ true → (number : Option ℕ) (other : List ℕ) → IsReady number other z
nine_found file (First tree answers) d at many number other = tt
nine_found file (Second y) d at many number other = tt
nine_found file (Unindexed y) d at many number other = tt
nine_found file (SecondEveryday y) d at many number other = by at.held.1
  where
    by : HoldsOfSecond at.held.0 d → IsReady number other (SecondEveryday y)
    by (inl h) = clash d.schema store_schema (h.0.schema ∙ ap schema_for h.1) many second_few
    by (inr h) = clash d.schema with_kept h.0.schema many kept_few

-- a plain store needs none
pub plain_ready : (file : List ℕ) (z : Stored) (d : Database) → StoredFor file z d → profile_of (opened_for z).tree ≡ Plain → (number : Option ℕ) (other : List ℕ)
    → IsReady number other z
plain_ready file (First tree answers) d at plain number other = tt
plain_ready file (Second y) d at plain number other = tt
plain_ready file (Unindexed y) d at plain number other = tt
plain_ready file (SecondEveryday y) d at plain number other = absurd (let e = sym plain ∙ everyday_profile y d at in cc)

-- a store of version 3 is everyday
pub nine_everyday : (file : List ℕ) (z : Stored) (d : Database) → StoredFor file z d → has_nine d.schema ≡ true → profile_of (opened_for z).tree ≡ Everyday
nine_everyday file (First tree answers) d at many = clash d.schema with_answers at.held.1.schema many answers_few
nine_everyday file (Second y) d at many = by at.held.0.layout refl
  where
    by : (l : Layout) → at.held.0.layout ≡ l → profile_of y.tree ≡ Everyday
    by layouts.Second is = clash d.schema store_schema (at.held.1.schema ∙ ap schema_for is) many second_few
    by layouts.Third is = third_everyday y at.held.0 file is at.held.2
nine_everyday file (Unindexed y) d at many = clash d.schema with_kept at.held.1.0.schema many kept_few
nine_everyday file (SecondEveryday y) d at many = everyday_profile y d at

-- the profile that was found, where there are fewer tables
pub few_plain : (p : Profile) (s : Schema) → has_nine s ≡ false → (p ≡ Everyday → s ≡ third_schema) → p ≡ Plain
few_plain Plain s few third = refl
few_plain Everyday s few third = clash third_schema s (sym (third refl)) third_nine few

-- it has not both so many tables and fewer
pub not_both : {X : Type 0} (s : Schema) → has_nine s ≡ true → has_nine s ≡ false → X
not_both s many few = clash s s refl many few
