-- What CREATE TABLE and CREATE INDEX make of a database.
use Rattle.std.proofs.Common.{◌≡◌, ℕ, List, [], ◌∷◌, ◌++◌, codes, false, None, Ok, Result, refl, sym, ap, subst, ◌∙◌}
use Rattle.std.specs.List.{AllByRecursion}
use Rattle.sqlite.specs.Schema.{Schema}
use Rattle.sqlite.specs.Table.{Table}
use Rattle.sqlite.specs.Order.{Row}
use Rattle.sqlite.specs.Command.TheVariants.{CreateTable}
use Rattle.sqlite.specs.Change.{created, next_tree}
use Rattle.sqlite_catalog.specs.Change.{KeepsRows}
use Rattle.sqlite.specs.Compile.{table_defined_by}
use Rattle.sqlite.specs.Does.{Tally, Does, lacks_sequence}
use Rattle.sqlite_tied.specs.Compute.{everything}
use Rattle.sqlite.specs.Listing.{understood}
use Rattle.sqlite.specs.Effect.{Database}
use Rattle.sqlite.specs.State.{State, HasCleanDisk, Survives, CommitsBy, Writes, mode_of}
use Rattle.sqlite.proofs.Callers.{IsPlain, command_of, statement_of}
use Rattle.fuse_store_tables.specs.Layout.{no_schema, meta}
use Rattle.fuse_store_tables.specs.Layout.{lots, kept}
use Rattle.sqlite_trees.specs.Tree.{IsTable, no_trees}
use Rattle.sqlite.specs.declared.error.Error.{Error}
use Rattle.sqlite.specs.Tree.{Trees}
use Rattle.fuse_store_tables.specs.Content.{HasRows, HoldsAs}
use Rattle.fuse_store_tables.specs.Making.{IsBare}
use Rattle.fuse_store_tables.specs.Moves.{Takes}
use Rattle.fuse_store_tables.specs.inner.Performing.{Ran}
use Rattle.guest_tables.proofs.any_schema.RowLemmas.{went, same_value}
use Rattle.guest_tables.proofs.any_schema.Writing.{makes}
use Rattle.sqlite_resolve.specs.Compile.{first}
use Rattle.guest_tables.proofs.any_schema.Edits.{IsEditText}

same_table : {E : Type 0} {a b : Table} → ◌≡◌ {A = Result Table E} (Ok a) (Ok b) → a ≡ b
same_table e = cc

pub created_as : (s : Schema) (sql : List ℕ) (t : Table) → table_defined_by sql ≡ Ok t → lacks_sequence (created s t) ≡ false
    → (old new : State) (params : Row) (n : ℕ) → old.now.schema ≡ s
    → Writes old new None CreateTable sql params n → (new.now.schema ≡ created s t) × (new.now.trees (next_tree s) ≡ [])
    × KeepsRows s.tables old.now.trees new.now.trees
created_as s sql t is lacks old new params n has w =
    let all = went (subst (λ (k : Schema). Does old.step_limit (mode_of old) params (record old.now { schema = k }) sql None CreateTable
    (Ok (w.tally, new.now))) has w.changed) in
    let first = went all.1 in
    let made = first.1 in
    let same : made.table ≡ t = same_table (sym made.defined ∙ is) in
    let schema : first.0.schema ≡ created s t = made.is ∙ ap (created s) same in
    let plain : lacks_sequence first.0.schema ≡ false = ap lacks_sequence schema ∙ lacks in
    let now : new.now ≡ first.0 = ap (λ (p : Tally × Database). p.1) (same_value all.2) ∙ same_value (rw plain at first.2) in (
      ap (λ (d : Database). d.schema) now ∙ schema,
      ap (λ (d : Database). d.trees (next_tree s)) now ∙ made.empty,
      subst (λ (d : Database). KeepsRows s.tables old.now.trees d.trees) (sym now) made.others,
    )

abbrev pub meta_text : List ℕ
meta_text = codes "CREATE TABLE meta (k INTEGER PRIMARY KEY, v INTEGER NOT NULL) STRICT"

abbrev pub lots_text : List ℕ
lots_text = codes "CREATE TABLE lots (lot INTEGER PRIMARY KEY) STRICT"

abbrev pub kept_text : List ℕ
kept_text = codes "CREATE TABLE kept (id INTEGER PRIMARY KEY, lot INTEGER NOT NULL REFERENCES lots (lot), errno INTEGER NOT NULL, body BLOB NOT NULL) STRICT"

-- the text makes this table, beside those of the schema
pub record IsTextOf (s : Schema) (table : Table) (text : List ℕ) : Type 0 where
  pub defines : table_defined_by text ≡ Ok (record table { tree = 0 })
  pub statement : statement_of text (understood s text) ≡ text
  pub command : command_of (understood s text) ≡ CreateTable
  pub plain : IsPlain (understood s text)
  pub lacks : lacks_sequence (created s table) ≡ false
  pub edit : IsEditText (first text)

same_rows : (held old new : Trees) (tables : List Table) → AllByRecursion (HasRows held old) tables → KeepsRows tables old new
    → AllByRecursion (HasRows held new) tables
same_rows held old new [] rows same = tt
same_rows held old new (t ∷ ts) rows same =
    ((same.0 ∙ rows.0.0, subst IsTable (sym same.0) rows.0.1), same_rows held old new ts rows.1 same.1)

more_rows : (held new : Trees) (tables : List Table) (t : Table) → AllByRecursion (HasRows held new) tables → HasRows held new t
    → AllByRecursion (HasRows held new) (tables ++ t ∷ [])
more_rows held new [] t rows last = (last, tt)
more_rows held new (x ∷ xs) t rows last = (rows.0, more_rows held new xs t rows.1 last)

-- a table more, without a row, beside those of the schema, whatever they hold
pub table_more : (s : Schema) (table : Table) (text : List ℕ) → IsTextOf s table text → (held : Trees) → held (next_tree s) ≡ []
    → (old new : State) (n : ℕ) → HoldsAs s held old.now → Writes old new None CreateTable (statement_of text (understood s text)) [] n
    → HoldsAs (created s table) held new.now
table_more s table text made held empty old new n at w =
    let wrote = subst (λ sql. Writes old new None CreateTable sql [] n) made.statement w in
    let all = created_as s text (record table { tree = 0 }) made.defines made.lacks old new [] n at.schema wrote in
    let others = same_rows held old.now.trees new.now.trees s.tables at.rows all.2 in
    record {
      schema = all.0;
      sound = w.sound;
      rows = more_rows held new.now.trees s.tables _ others (all.1 ∙ sym empty, subst IsTable (sym all.1) tt);
    }

pub creates : (s : Schema) (table : Table) (text : List ℕ) → IsTextOf s table text → (old new : State) (r : Result (Unit {0}) Error)
    → (HasCleanDisk new → Ran text [] old new r) → Survives old new (CommitsBy text [] old)
    → Takes (IsBare s) (IsBare (created s table)) old new r
creates s table text made =
    makes (IsBare s) s (λ c d h. h.schema) text [] CreateTable made.command made.plain refl made.edit (IsBare (created s table))
    (λ c. table_more s table text made no_trees refl)

pub meta_edit : IsEditText (first meta_text)
unfolding first everything
meta_edit = tt

pub meta_made : IsTextOf no_schema meta meta_text
unfolding understood everything
meta_made = record { defines = refl; statement = refl; command = refl; plain = (refl, refl); lacks = refl; edit = meta_edit }

pub lots_edit : IsEditText (first lots_text)
unfolding first everything
lots_edit = tt

pub kept_edit : IsEditText (first kept_text)
unfolding first everything
kept_edit = tt
