-- A statement on one table, as a step from some rows of all tables to others.
use Rattle.std.proofs.Common.{◌≡◌, ◌≢◌, inl, inr, ℕ, List, [], ◌∷◌, ◌==◌, length, Bool, true, false, None, refl, sym, ap, subst, arith, ◌∙◌}
use Rattle.std.specs.List.{AllByRecursion, filter_map, flat_map}
use Rattle.std.proofs.lemmas.Bool.{cases_Bool}
use Rattle.std.proofs.lemmas.Bool.Decides.{nat_tests}
use Rattle.sqlite.specs.Schema.{Schema}
use Rattle.sqlite.specs.Table.{Table}
use Rattle.sqlite.specs.Order.{Row}
use Rattle.sqlite.specs.Tree.{Trees}
use Rattle.sqlite_trees.specs.Tree.{IsTable}
use Rattle.sqlite_schema.specs.declared.schema.Reference.{Reference}
use Rattle.sqlite_schema.specs.declared.schema.Action.TheVariants.{NoAction}
use Rattle.sqlite_schema.specs.declared.schema.Keys.{Keys}
use Rattle.sqlite_schema.specs.declared.schema.Keys.TheVariants.{Enforced, Deferred, Off}
use Rattle.sqlite_schema.specs.Rules.{parent_key}
use Rattle.sqlite_rules.specs.Action.{work_for, work_by, pairs, deed_for, deed_of}
use Rattle.sqlite.specs.Effect.{Database, IsDatabase}
use Rattle.fuse_store_tables.specs.Content.{HasRows, HoldsAs}
use Rattle.fuse_store_tables.specs.inner.Rows.{Spares}

-- ---- the other tables

same_tree : (a b : ℕ) → (a == b) ≡ true → a ≡ b
same_tree a b is = grind (arith, nat_tests)

other_tree : (a b : ℕ) → (a == b) ≡ false → a ≢ b
other_tree a b is same = grind (arith, nat_tests)

module _ (n : ℕ) (old new held after : Trees) (is : new n ≡ after n) (rise : IsTable (new n)) where
  one : (t : Table) → (t.tree ≢ n → new t.tree ≡ old t.tree) → (t.tree ≢ n → after t.tree ≡ held t.tree) → HasRows held old t → HasRows after new t
  one t same alike rows = elim (cases_Bool (t.tree == n)) [
    | inl here ↦ let at = sym (same_tree t.tree n here) in (subst (λ k. new k ≡ after k) at is, subst (λ k. IsTable (new k)) at rise)
    | inr not_here ↦
        let other = other_tree t.tree n not_here in
        (same other ∙ rows.0 ∙ sym (alike other), subst IsTable (sym (same other)) rows.1)
  ]

  pub spares : (tables : List Table) → AllByRecursion (λ t. t.tree ≢ n → new t.tree ≡ old t.tree) tables → AllByRecursion (λ t. t.tree ≢ n
      → after t.tree ≡ held t.tree) tables
      → AllByRecursion (HasRows held old) tables → AllByRecursion (HasRows after new) tables
  spares [] same alike rows = tt
  spares (t ∷ ts) same alike rows = (one t same.0 alike.0 rows.0, spares ts same.1 alike.1 rows.1)

-- one table has other rows now, and each other table is as it was
pub wrote : (layout : Schema) (held after : Trees) (table : Table) (old new : Database) → HoldsAs layout held old → Spares table old new → IsDatabase new
    → AllByRecursion (λ t. t.tree ≢ table.tree → after t.tree ≡ held t.tree) layout.tables → new.trees table.tree ≡ after table.tree
    → IsTable (new.trees table.tree) → HoldsAs layout after new
wrote layout held after table old new at same sound alike is rise = record {
  schema = same.0 ∙ at.schema;
  sound = sound;
  rows = spares table.tree old.trees new.trees held after is rise layout.tables
      (subst (λ (s : Schema). AllByRecursion (λ t. t.tree ≢ table.tree → new.trees t.tree ≡ old.trees t.tree) s.tables) at.schema same.1) alike at.rows;
}

-- ---- a key without an action sets nothing off

abbrev IsStill : Reference → Type 0
IsStill r = (r.on_delete ≡ NoAction) × (r.on_update ≡ NoAction)

no_deed : (keys : Keys) (deletes : Bool) (r : Reference) → IsStill r → deed_for keys deletes r ≡ None
no_deed Off deletes r still = refl
no_deed Enforced true r still = ap (deed_of Enforced true) still.0
no_deed Enforced false r still = ap (deed_of Enforced false) still.1
no_deed Deferred true r still = ap (deed_of Deferred true) still.0
no_deed Deferred false r still = ap (deed_of Deferred false) still.1

module _ (s : Schema) (keys : Keys) (tree : ℕ) (olds news : List Row) where
  no_work : (child : Table) (r : Reference) → IsStill r → work_for s keys 0 tree olds news child r ≡ None
  no_work child r still = ap (λ d. work_by 0 tree (pairs olds news) child r d (parent_key s.tables r)) (no_deed keys (length news == 0) r still)

  no_works : (child : Table) (rs : List Reference) → AllByRecursion IsStill rs → filter_map (work_for s keys 0 tree olds news child) rs ≡ []
  no_works child [] still = refl
  no_works child (r ∷ rs) still = rw (no_work child r still.0) (no_works child rs still.1)

  pub quiet_tables : (tables : List Table) → AllByRecursion (λ t. AllByRecursion IsStill t.references) tables
      → flat_map (λ child. filter_map (work_for s keys 0 tree olds news child) child.references) tables ≡ []
  quiet_tables [] still = refl
  quiet_tables (t ∷ ts) still = rw (no_works t t.references still.0) (quiet_tables ts still.1)
