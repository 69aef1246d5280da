-- The layout of the tables, by their number.
use Rattle.std.proofs.Common.{◌≡◌, ℕ, Bool, true, false, length, ◌==◌, if◌then◌else◌, cond, inl, inr, refl, sym, ap, ◌∙◌}
use Rattle.std.proofs.lemmas.Bool.{cases_Bool, eqb-true}
use Rattle.sqlite.specs.Schema.{Schema}
use Rattle.sqlite.specs.Effect.{Database}
use Rattle.sqlite_tied.specs.Compute.{everything}
use Rattle.fuse_store_tables.specs.declared.version.Layout.{Layout}
use Rattle.fuse_store_tables.specs.declared.version.Layout.TheVariants.{Second, Third}
use Rattle.fuse_store_tables.specs.Layout.{schema_for, with_answers, with_kept, version_of, store_schema, third_schema}
use Rattle.fuse_store_tables.specs.Content.{Content, Holds, value_at}
use Rattle.fuse_store_tables.specs.Opening.{IsLaid}

abbrev has_nine : Schema → Bool
has_nine s = length s.tables == 9

abbrev pub layout_by : Bool → Layout
layout_by b = cond b Third Second

nine : (l : Layout) → layout_by (has_nine (schema_for l)) ≡ l
unfolding everything
nine Second = refl
nine Third = refl

few_first : layout_by (has_nine with_answers) ≡ Second
unfolding everything
few_first = refl

few_kept : layout_by (has_nine with_kept) ≡ Second
unfolding everything
few_kept = refl

abbrev by_tables : Schema → Layout
by_tables s = layout_by (has_nine s)

pub layout_is : (c : Content) (d : Database) → IsLaid c d → by_tables d.schema ≡ c.layout
layout_is c d laid = elim laid [
  | inl whole ↦ elim whole [
    | inl h ↦ ap by_tables h.0.schema ∙ few_first ∙ sym h.1
    | inr h ↦ ap by_tables h.schema ∙ nine c.layout
  ]
  | inr h ↦ ap by_tables h.0.schema ∙ few_kept ∙ sym h.1
]

-- the tables of a layout are those of no other
pub one_layout : (l : Layout) (c : Content) (d : Database) → d.schema ≡ schema_for l → IsLaid c d → l ≡ c.layout
one_layout l c d is laid = sym (nine l) ∙ ap by_tables (sym is) ∙ layout_is c d laid

pub kept_layout : (c : Content) (d : Database) → d.schema ≡ with_kept → IsLaid c d → Second ≡ c.layout
kept_layout c d is laid = sym few_kept ∙ ap by_tables (sym is) ∙ layout_is c d laid

is_nine : (n : ℕ) → n ≡ 9 → (n == 9) ≡ true
is_nine n is = ap (λ m. m == 9) is

not_nine : (n : ℕ) → ¬ (n ≡ 9) → (n == 9) ≡ false
not_nine n other = elim (cases_Bool (n == 9)) [
  | inl here ↦ absurd (other (eqb-true n 9 here))
  | inr off ↦ off
]

-- what a test of their number says
module _ (s : Schema) (d : Database) (n : ℕ) (same : s ≡ d.schema) (long : n ≡ length s.tables) where
  by_number : (b : Bool) → (n == 9) ≡ b → (c : Content) → IsLaid c d → layout_by b ≡ c.layout
  by_number b is c laid = ap layout_by (sym (ap (λ m. m == 9) (sym (long ∙ ap (λ (k : Schema). length k.tables) same)) ∙ is)) ∙ layout_is c d laid

  pub told_third : n ≡ 9 → (c : Content) → IsLaid c d → Third ≡ c.layout
  told_third is = by_number true (is_nine n is)

  pub told_second : ¬ (n ≡ 9) → (c : Content) → IsLaid c d → Second ≡ c.layout
  told_second other = by_number false (not_nine n other)
