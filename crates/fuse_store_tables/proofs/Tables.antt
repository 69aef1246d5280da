-- A statement on one table, as a step from some rows of all tables to others.
use Rattle.std.proofs.Common.{◌≡◌, ◌≢◌, inl, inr, ℕ, List, [], ◌∷◌, ◌==◌, length, slice_get, codes, Bool, true, false, Some, None, refl, sym, ap, subst, arith, ◌∙◌}
use Rattle.std.specs.List.{AllByRecursion, filter_map, flat_map}
use Rattle.std.proofs.lemmas.Bool.{cases_Bool}
use Rattle.std.proofs.lemmas.Bool.Decides.{nat_tests}
use Rattle.sqlite.specs.Schema.{Schema}
use Rattle.sqlite.specs.Table.{Table}
use Rattle.sqlite.specs.Order.{Row}
use Rattle.sqlite.specs.Tree.{Trees}
use Rattle.sqlite_trees.specs.Tree.{IsTable}
use Rattle.sqlite_schema.specs.declared.schema.Reference.{Reference}
use Rattle.sqlite_schema.specs.declared.schema.Action.TheVariants.{NoAction}
use Rattle.sqlite_schema.specs.declared.schema.Keys.{Keys}
use Rattle.sqlite_schema.specs.declared.schema.Keys.TheVariants.{Enforced, Deferred, Off}
use Rattle.sqlite_schema.specs.Rules.{parent_key}
use Rattle.sqlite_rules.specs.Action.{works, work_for, work_by, pairs, deed_for, deed_of}
use Rattle.sqlite.specs.Effect.{Database, IsDatabase}
use Rattle.fuse_store_tables.specs.declared.version.Layout.{Layout}
use Rattle.fuse_store_tables.specs.declared.version.Layout.TheVariants.{Second, Third}
use Rattle.fuse_store_tables.specs.Layout.{store_schema, third_schema, schema_for, meta, blocks, handle_table, lots, kept}
use Rattle.fuse_store_tables.specs.Layout.{node_table, later_columns, keyed_table, entry_columns, to_nodes}
use Rattle.sqlite_value.specs.declared.keys.Order.{Order}
use Rattle.sqlite_value.specs.Keys.{plain}
use Rattle.sqlite_schema.specs.declared.schema.Column.{Column}
use Rattle.fuse_store_tables.specs.Pieces.{Piece}
use Rattle.fuse_rows.specs.declared.rows.NodeRow.{NodeRow}
use Rattle.fuse_rows.specs.declared.rows.EntryRow.{EntryRow}
use Rattle.fuse_rows.specs.declared.rows.HandleRow.{HandleRow}
use Rattle.fuse_store_tables.specs.Content.{Content, Counter, Answer, Kept, HasRows, HoldsAs, Holds, stored}
use Rattle.fuse_store_tables.specs.Blocks.{Block}
use Rattle.fuse_store_tables.specs.inner.Rows.{Spares}

-- ---- the other tables

same_tree : (a b : ℕ) → (a == b) ≡ true → a ≡ b
same_tree a b is = grind (arith, nat_tests)

other_tree : (a b : ℕ) → (a == b) ≡ false → a ≢ b
other_tree a b is same = grind (arith, nat_tests)

module _ (n : ℕ) (old new held after : Trees) (is : new n ≡ after n) (rise : IsTable (new n)) where
  one : (t : Table) → (t.tree ≢ n → new t.tree ≡ old t.tree) → (t.tree ≢ n → after t.tree ≡ held t.tree) → HasRows held old t → HasRows after new t
  one t same alike rows = elim (cases_Bool (t.tree == n)) [
    | inl here ↦ let at = sym (same_tree t.tree n here) in (subst (λ k. new k ≡ after k) at is, subst (λ k. IsTable (new k)) at rise)
    | inr not_here ↦
        let other = other_tree t.tree n not_here in
        (same other ∙ rows.0 ∙ sym (alike other), subst IsTable (sym (same other)) rows.1)
  ]

  pub spares : (tables : List Table) → AllByRecursion (λ t. t.tree ≢ n → new t.tree ≡ old t.tree) tables → AllByRecursion (λ t. t.tree ≢ n
      → after t.tree ≡ held t.tree) tables
      → AllByRecursion (HasRows held old) tables → AllByRecursion (HasRows after new) tables
  spares [] same alike rows = tt
  spares (t ∷ ts) same alike rows = (one t same.0 alike.0 rows.0, spares ts same.1 alike.1 rows.1)

-- one table has other rows now, and each other table is as it was
pub wrote : (layout : Schema) (held after : Trees) (table : Table) (old new : Database) → HoldsAs layout held old → Spares table old new → IsDatabase new
    → AllByRecursion (λ t. t.tree ≢ table.tree → after t.tree ≡ held t.tree) layout.tables → new.trees table.tree ≡ after table.tree
    → IsTable (new.trees table.tree) → HoldsAs layout after new
wrote layout held after table old new at same sound alike is rise = record {
  schema = same.0 ∙ at.schema;
  sound = sound;
  rows = spares table.tree old.trees new.trees held after is rise layout.tables
      (subst (λ (s : Schema). AllByRecursion (λ t. t.tree ≢ table.tree → new.trees t.tree ≡ old.trees t.tree) s.tables) at.schema same.1) alike at.rows;
}

-- what each table's rows say of the others
pub only_counters_in : (l : Layout) (c : Content) (rows : List Counter) → AllByRecursion (λ t. t.tree ≢ 0 → stored (record c { counters = rows }) t.tree ≡ stored c t.tree)
    (schema_for l).tables
only_counters_in Second c rows = (λ e. absurd (e refl), (λ _. refl, (λ _. refl, (λ _. refl, (λ _. refl, (λ _. refl, (λ _. refl, (λ _. refl, tt))))))))
only_counters_in Third c rows = (λ e. absurd (e refl), (λ _. refl, (λ _. refl, (λ _. refl, (λ _. refl, (λ _. refl, (λ _. refl, (λ _. refl, (λ _. refl, tt)))))))))

pub only_counters : (c : Content) (rows : List Counter) → AllByRecursion (λ t. t.tree ≢ 0 → stored (record c { counters = rows }) t.tree ≡ stored c t.tree)
    (schema_for c.layout).tables
only_counters c rows = only_counters_in c.layout c rows

pub only_nodes_in : (l : Layout) (c : Content) (rows : List NodeRow) → AllByRecursion (λ t. t.tree ≢ 1 → stored (record c { nodes = rows }) t.tree ≡ stored c t.tree)
    (schema_for l).tables
only_nodes_in Second c rows = (λ _. refl, (λ e. absurd (e refl), (λ _. refl, (λ _. refl, (λ _. refl, (λ _. refl, (λ _. refl, (λ _. refl, tt))))))))
only_nodes_in Third c rows = (λ _. refl, (λ e. absurd (e refl), (λ _. refl, (λ _. refl, (λ _. refl, (λ _. refl, (λ _. refl, (λ _. refl, (λ _. refl, tt)))))))))

pub only_nodes : (c : Content) (rows : List NodeRow) → AllByRecursion (λ t. t.tree ≢ 1 → stored (record c { nodes = rows }) t.tree ≡ stored c t.tree)
    (schema_for c.layout).tables
only_nodes c rows = only_nodes_in c.layout c rows

pub only_entries_in : (l : Layout) (c : Content) (rows : List EntryRow) → AllByRecursion (λ t. t.tree ≢ 2 → stored (record c { entries = rows }) t.tree ≡ stored c t.tree)
    (schema_for l).tables
only_entries_in Second c rows = (λ _. refl, (λ _. refl, (λ e. absurd (e refl), (λ _. refl, (λ _. refl, (λ _. refl, (λ _. refl, (λ _. refl, tt))))))))
only_entries_in Third c rows = (λ _. refl, (λ _. refl, (λ e. absurd (e refl), (λ _. refl, (λ _. refl, (λ _. refl, (λ _. refl, (λ _. refl, (λ _. refl, tt)))))))))

pub only_entries : (c : Content) (rows : List EntryRow) → AllByRecursion (λ t. t.tree ≢ 2 → stored (record c { entries = rows }) t.tree ≡ stored c t.tree)
    (schema_for c.layout).tables
only_entries c rows = only_entries_in c.layout c rows

pub only_blocks_in : (l : Layout) (c : Content) (rows : List Block) → AllByRecursion (λ t. t.tree ≢ 5 → stored (record c { blocks = rows }) t.tree ≡ stored c t.tree)
    (schema_for l).tables
only_blocks_in Second c rows = (λ _. refl, (λ _. refl, (λ _. refl, (λ e. absurd (e refl), (λ _. refl, (λ _. refl, (λ _. refl, (λ _. refl, tt))))))))
only_blocks_in Third c rows = (λ _. refl, (λ _. refl, (λ _. refl, (λ e. absurd (e refl), (λ _. refl, (λ _. refl, (λ _. refl, (λ _. refl, (λ _. refl, tt)))))))))

pub only_blocks : (c : Content) (rows : List Block) → AllByRecursion (λ t. t.tree ≢ 5 → stored (record c { blocks = rows }) t.tree ≡ stored c t.tree)
    (schema_for c.layout).tables
only_blocks c rows = only_blocks_in c.layout c rows

pub only_handles_in : (l : Layout) (c : Content) (rows : List HandleRow) → AllByRecursion (λ t. t.tree ≢ 7 → stored (record c { handles = rows }) t.tree ≡ stored c t.tree)
    (schema_for l).tables
only_handles_in Second c rows = (λ _. refl, (λ _. refl, (λ _. refl, (λ _. refl, (λ e. absurd (e refl), (λ _. refl, (λ _. refl, (λ _. refl, tt))))))))
only_handles_in Third c rows = (λ _. refl, (λ _. refl, (λ _. refl, (λ _. refl, (λ e. absurd (e refl), (λ _. refl, (λ _. refl, (λ _. refl, (λ _. refl, tt)))))))))

pub only_handles : (c : Content) (rows : List HandleRow) → AllByRecursion (λ t. t.tree ≢ 7 → stored (record c { handles = rows }) t.tree ≡ stored c t.tree)
    (schema_for c.layout).tables
only_handles c rows = only_handles_in c.layout c rows

pub only_lots_in : (l : Layout) (c : Content) (rows : List ℕ) → AllByRecursion (λ t. t.tree ≢ 9 → stored (record c { lots = rows }) t.tree ≡ stored c t.tree)
    (schema_for l).tables
only_lots_in Second c rows = (λ _. refl, (λ _. refl, (λ _. refl, (λ _. refl, (λ _. refl, (λ _. refl, (λ e. absurd (e refl), (λ _. refl, tt))))))))
only_lots_in Third c rows = (λ _. refl, (λ _. refl, (λ _. refl, (λ _. refl, (λ _. refl, (λ e. absurd (e refl), (λ _. refl, (λ _. refl, (λ _. refl, tt)))))))))

pub only_lots : (c : Content) (rows : List ℕ) → AllByRecursion (λ t. t.tree ≢ 9 → stored (record c { lots = rows }) t.tree ≡ stored c t.tree)
    (schema_for c.layout).tables
only_lots c rows = only_lots_in c.layout c rows

pub only_kept_in : (l : Layout) (c : Content) (rows : List Kept) → AllByRecursion (λ t. t.tree ≢ 10 → stored (record c { kept = rows }) t.tree ≡ stored c t.tree)
    (schema_for l).tables
only_kept_in Second c rows = (λ _. refl, (λ _. refl, (λ _. refl, (λ _. refl, (λ _. refl, (λ _. refl, (λ _. refl, (λ e. absurd (e refl), tt))))))))
only_kept_in Third c rows = (λ _. refl, (λ _. refl, (λ _. refl, (λ _. refl, (λ _. refl, (λ _. refl, (λ e. absurd (e refl), (λ _. refl, (λ _. refl, tt)))))))))

pub only_kept : (c : Content) (rows : List Kept) → AllByRecursion (λ t. t.tree ≢ 10 → stored (record c { kept = rows }) t.tree ≡ stored c t.tree)
    (schema_for c.layout).tables
only_kept c rows = only_kept_in c.layout c rows

pub only_pieces_in : (l : Layout) (c : Content) (rows : List Piece) → AllByRecursion (λ t. t.tree ≢ 11 → stored (record c { pieces = rows }) t.tree ≡ stored c t.tree)
    (schema_for l).tables
only_pieces_in Second c rows = (λ _. refl, (λ _. refl, (λ _. refl, (λ _. refl, (λ _. refl, (λ _. refl, (λ _. refl, (λ _. refl, tt))))))))
only_pieces_in Third c rows = (λ _. refl, (λ _. refl, (λ _. refl, (λ _. refl, (λ _. refl, (λ _. refl, (λ _. refl, (λ e. absurd (e refl), (λ _. refl, tt)))))))))

pub only_pieces : (c : Content) (rows : List Piece) → AllByRecursion (λ t. t.tree ≢ 11 → stored (record c { pieces = rows }) t.tree ≡ stored c t.tree)
    (schema_for c.layout).tables
only_pieces c rows = only_pieces_in c.layout c rows

pub only_answers_in : (l : Layout) (c : Content) (rows : List Answer) → AllByRecursion (λ t. t.tree ≢ 8 → stored (record c { answers = rows }) t.tree ≡ stored c t.tree)
    (schema_for l).tables
only_answers_in Second c rows = (λ _. refl, (λ _. refl, (λ _. refl, (λ _. refl, (λ _. refl, (λ e. absurd (e refl), (λ _. refl, (λ _. refl, tt))))))))
only_answers_in Third c rows = (λ _. refl, (λ _. refl, (λ _. refl, (λ _. refl, (λ _. refl, (λ _. refl, (λ _. refl, (λ _. refl, (λ _. refl, tt)))))))))

pub only_answers : (c : Content) (rows : List Answer) → AllByRecursion (λ t. t.tree ≢ 8 → stored (record c { answers = rows }) t.tree ≡ stored c t.tree)
    (schema_for c.layout).tables
only_answers c rows = only_answers_in c.layout c rows

-- the rows of the tables that both layouts have
abbrev HasIn : Content → Database → ℕ → Type 0
HasIn c d tree = (d.trees tree ≡ stored c tree) × IsTable (d.trees tree)

pub record Laid (c : Content) (d : Database) : Type 0 where
  pub counters : HasIn c d 0
  pub nodes : HasIn c d 1
  pub entries : HasIn c d 2
  pub blocks : HasIn c d 5
  pub handles : HasIn c d 7
  pub lots : HasIn c d 9
  pub kept : HasIn c d 10

pub laid : (c : Content) (d : Database) → Holds c d → Laid c d
laid c d h = by_layout c.layout h.rows
  where
    by_layout : (l : Layout) → AllByRecursion (HasRows (stored c) d.trees) (schema_for l).tables → Laid c d
    by_layout Second r = record {
      counters = r.0;
      nodes = r.1.0;
      entries = r.1.1.0;
      blocks = r.1.1.1.0;
      handles = r.1.1.1.1.0;
      lots = r.1.1.1.1.1.1.0;
      kept = r.1.1.1.1.1.1.1.0;
    }
    by_layout Third r = record {
      counters = r.0;
      nodes = r.1.0;
      entries = r.1.1.0;
      blocks = r.1.1.1.0;
      handles = r.1.1.1.1.0;
      lots = r.1.1.1.1.1.0;
      kept = r.1.1.1.1.1.1.0;
    }

-- the answers, of version 2 alone
pub answers_laid : (c : Content) (d : Database) → Holds c d → c.layout ≡ Second → HasIn c d 8
answers_laid c d h second =
    (subst (λ (l : Layout). AllByRecursion (HasRows (stored c) d.trees) (schema_for l).tables) second h.rows).1.1.1.1.1.0

-- the pieces, of version 3 alone
pub pieces_laid : (c : Content) (d : Database) → Holds c d → c.layout ≡ Third → HasIn c d 11
pieces_laid c d h third =
    (subst (λ (l : Layout). AllByRecursion (HasRows (stored c) d.trees) (schema_for l).tables) third h.rows).1.1.1.1.1.1.1.0

-- ---- where each table stands in the schema

abbrev later_for : Layout → List Column
later_for Second = []
later_for Third = later_columns

abbrev pub nodes_for : Layout → Table
nodes_for l = node_table (later_for l)

abbrev uniques_for : Layout → List (List ℕ)
uniques_for Second = (4 ∷ []) ∷ (2 ∷ 3 ∷ []) ∷ []
uniques_for Third = (2 ∷ 3 ∷ []) ∷ (2 ∷ 0 ∷ []) ∷ []

abbrev references_for : Layout → List Reference
references_for Second = to_nodes 2 ∷ to_nodes 4 ∷ []
references_for Third = []

abbrev pub entries_for : Layout → Table
entries_for l = keyed_table (codes "entries") 2 entry_columns (uniques_for l) (plain ∷ plain ∷ []) (references_for l)

abbrev handle_uniques_for : Layout → List (List ℕ)
handle_uniques_for Second = []
handle_uniques_for Third = (2 ∷ 0 ∷ []) ∷ []

abbrev handle_orders_for : Layout → List Order
handle_orders_for Second = []
handle_orders_for Third = plain ∷ []

abbrev pub handles_for : Layout → Table
handles_for l = handle_table (handle_uniques_for l) (handle_orders_for l)

abbrev pub lots_at : Layout → ℕ
lots_at Second = 6
lots_at Third = 5

abbrev pub kept_at : Layout → ℕ
kept_at Second = 7
kept_at Third = 6

pub meta_listed : (l : Layout) → slice_get (schema_for l).tables 0 ≡ Some meta
meta_listed Second = refl
meta_listed Third = refl

pub nodes_listed : (l : Layout) → slice_get (schema_for l).tables 1 ≡ Some (nodes_for l)
nodes_listed Second = refl
nodes_listed Third = refl

pub entries_listed : (l : Layout) → slice_get (schema_for l).tables 2 ≡ Some (entries_for l)
entries_listed Second = refl
entries_listed Third = refl

pub blocks_listed : (l : Layout) → slice_get (schema_for l).tables 3 ≡ Some blocks
blocks_listed Second = refl
blocks_listed Third = refl

pub handles_listed : (l : Layout) → slice_get (schema_for l).tables 4 ≡ Some (handles_for l)
handles_listed Second = refl
handles_listed Third = refl

pub lots_listed : (l : Layout) → slice_get (schema_for l).tables (lots_at l) ≡ Some lots
lots_listed Second = refl
lots_listed Third = refl

pub kept_listed : (l : Layout) → slice_get (schema_for l).tables (kept_at l) ≡ Some kept
kept_listed Second = refl
kept_listed Third = refl

-- ---- a key without an action sets nothing off

abbrev IsStill : Reference → Type 0
IsStill r = (r.on_delete ≡ NoAction) × (r.on_update ≡ NoAction)

no_deed : (keys : Keys) (deletes : Bool) (r : Reference) → IsStill r → deed_for keys deletes r ≡ None
no_deed Off deletes r still = refl
no_deed Enforced true r still = ap (deed_of Enforced true) still.0
no_deed Enforced false r still = ap (deed_of Enforced false) still.1
no_deed Deferred true r still = ap (deed_of Deferred true) still.0
no_deed Deferred false r still = ap (deed_of Deferred false) still.1

module _ (s : Schema) (keys : Keys) (tree : ℕ) (olds news : List Row) where
  no_work : (child : Table) (r : Reference) → IsStill r → work_for s keys 0 tree olds news child r ≡ None
  no_work child r still = ap (λ d. work_by 0 tree (pairs olds news) child r d (parent_key s.tables r)) (no_deed keys (length news == 0) r still)

  no_works : (child : Table) (rs : List Reference) → AllByRecursion IsStill rs → filter_map (work_for s keys 0 tree olds news child) rs ≡ []
  no_works child [] still = refl
  no_works child (r ∷ rs) still = rw (no_work child r still.0) (no_works child rs still.1)

  pub quiet_tables : (tables : List Table) → AllByRecursion (λ t. AllByRecursion IsStill t.references) tables
      → flat_map (λ child. filter_map (work_for s keys 0 tree olds news child) child.references) tables ≡ []
  quiet_tables [] still = refl
  quiet_tables (t ∷ ts) still = rw (no_works t t.references still.0) (quiet_tables ts still.1)

pub quiet : (l : Layout) (keys : Keys) (tree : ℕ) (olds news : List Row) → works (schema_for l) keys 0 tree olds news ≡ []
quiet Second keys tree olds news = quiet_tables store_schema keys tree olds news store_schema.tables
    (tt, (tt, (((refl, refl), ((refl, refl), tt)), (((refl, refl), tt), (((refl, refl), tt), (tt, (tt, (((refl, refl), tt), tt))))))))
quiet Third keys tree olds news = quiet_tables third_schema keys tree olds news third_schema.tables
    (tt, (tt, (tt, (((refl, refl), tt), (((refl, refl), tt), (tt, (((refl, refl), tt), (tt, (tt, tt)))))))))
