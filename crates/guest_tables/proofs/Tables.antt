-- The tables of a guest's store, one by one.
use Rattle.std.proofs.Common.{◌≡◌, ◌≢◌, ℕ, List, [], slice_get, Some, refl}
use Rattle.std.specs.List.{AllByRecursion}
use Rattle.sqlite.specs.Order.{Row}
use Rattle.sqlite_trees.specs.Tree.{IsTable}
use Rattle.sqlite_schema.specs.declared.schema.Keys.{Keys}
use Rattle.sqlite_rules.specs.Action.{works}
use Rattle.sqlite.specs.Effect.{Database}
use Rattle.fuse_store_tables.specs.Layout.{meta}
use Rattle.fuse_store_tables.specs.Content.{Counter, Kept}
use Rattle.guest_tables.proofs.any_schema.Tables.{quiet_tables}
use Rattle.guest_tables.specs.Layout.{guest_schema, pair_table, lot_table, kept_table}
use Rattle.guest_tables.specs.Rows.{PairRow}
use Rattle.guest_tables.specs.Content.{GuestContent, Holds, stored}

-- ---- what each table's rows say of the others

pub only_counters : (c : GuestContent) (rows : List Counter)
    → AllByRecursion (λ t. t.tree ≢ 0 → stored (record c { counters = rows }) t.tree ≡ stored c t.tree) guest_schema.tables
only_counters c rows = (λ e. absurd (e refl), (λ _. refl, (λ _. refl, (λ _. refl, tt))))

pub only_pairs : (c : GuestContent) (rows : List PairRow)
    → AllByRecursion (λ t. t.tree ≢ 1 → stored (record c { pairs = rows }) t.tree ≡ stored c t.tree) guest_schema.tables
only_pairs c rows = (λ _. refl, (λ e. absurd (e refl), (λ _. refl, (λ _. refl, tt))))

pub only_lots : (c : GuestContent) (rows : List ℕ)
    → AllByRecursion (λ t. t.tree ≢ 3 → stored (record c { lots = rows }) t.tree ≡ stored c t.tree) guest_schema.tables
only_lots c rows = (λ _. refl, (λ _. refl, (λ e. absurd (e refl), (λ _. refl, tt))))

pub only_kept : (c : GuestContent) (rows : List Kept)
    → AllByRecursion (λ t. t.tree ≢ 4 → stored (record c { kept = rows }) t.tree ≡ stored c t.tree) guest_schema.tables
only_kept c rows = (λ _. refl, (λ _. refl, (λ _. refl, (λ e. absurd (e refl), tt))))

-- ---- the rows of each

abbrev pub HasIn : GuestContent → Database → ℕ → Type 0
HasIn c d tree = (d.trees tree ≡ stored c tree) × IsTable (d.trees tree)

pub record Laid (c : GuestContent) (d : Database) : Type 0 where
  pub counters : HasIn c d 0
  pub pairs : HasIn c d 1
  pub lots : HasIn c d 3
  pub kept : HasIn c d 4

pub laid : (c : GuestContent) (d : Database) → Holds c d → Laid c d
laid c d h = let r = h.rows in record { counters = r.0; pairs = r.1.0; lots = r.1.1.0; kept = r.1.1.1.0 }

-- ---- where each stands in the schema

pub meta_listed : slice_get guest_schema.tables 0 ≡ Some meta
meta_listed = refl

pub pairs_listed : slice_get guest_schema.tables 1 ≡ Some pair_table
pairs_listed = refl

pub lots_listed : slice_get guest_schema.tables 2 ≡ Some lot_table
lots_listed = refl

pub kept_listed : slice_get guest_schema.tables 3 ≡ Some kept_table
kept_listed = refl

-- no key sets anything off
pub quiet : (keys : Keys) (tree : ℕ) (olds news : List Row) → works guest_schema keys 0 tree olds news ≡ []
quiet keys tree olds news = quiet_tables guest_schema keys tree olds news guest_schema.tables (tt, (tt, (tt, (((refl, refl), tt), tt))))
