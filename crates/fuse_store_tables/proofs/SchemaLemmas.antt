-- What CREATE TABLE and CREATE INDEX make of a database.
use Rattle.std.proofs.Common.{◌≡◌, ℕ, List, [], ◌∷◌, ◌++◌, codes, false, Some, None, slice_get, Ok, Result, refl, sym, ap, subst, ◌∙◌}
use Rattle.std.specs.List.{AllByRecursion}
use Rattle.sqlite.specs.Schema.{Schema}
use Rattle.sqlite.specs.Table.{Table}
use Rattle.sqlite_schema.specs.declared.schema.Index.{Index}
use Rattle.sqlite.specs.Order.{Row}
use Rattle.sqlite.specs.Command.TheVariants.{CreateTable, CreateIndex}
use Rattle.sqlite.specs.Change.{created, indexed, next_tree}
use Rattle.sqlite_catalog.specs.Change.{KeepsRows}
use Rattle.sqlite.specs.Compile.{table_defined_by, index_defined_by}
use Rattle.sqlite.specs.Does.{Tally, Does, Defines, MakesIndex, lacks_sequence}
use Rattle.sqlite_tied.specs.Compute.{everything}
use Rattle.sqlite.specs.Listing.{understood}
use Rattle.sqlite.specs.Effect.{Database}
use Rattle.sqlite.specs.State.{State, HasCleanDisk, Survives, CommitsBy, Writes, mode_of}
use Rattle.sqlite.proofs.Callers.{IsPlain, command_of, statement_of}
use Rattle.fuse_store_tables.specs.Layout.{no_schema, with_meta, with_nodes, with_entries, with_blocks, with_handles, with_answers, with_lots, with_kept, meta, nodes}
use Rattle.fuse_store_tables.specs.Layout.{entries, blocks, handles, answers, lots, kept, entries_in_order, store_schema}
use Rattle.fuse_store_tables.specs.Layout.{third_nodes, third_entries, third_handles, pieces, xattrs}
use Rattle.fuse_store_tables.specs.Layout.{third_with_nodes, third_with_entries, third_with_blocks, third_with_handles}
use Rattle.fuse_store_tables.specs.Layout.{third_with_lots, third_with_kept, third_with_pieces}
use Rattle.sqlite_trees.specs.Tree.{IsTable, no_trees}
use Rattle.sqlite.specs.declared.error.Error.{Error}
use Rattle.sqlite.specs.Tree.{Trees}
use Rattle.fuse_store_tables.specs.Content.{HasRows, HoldsAs}
use Rattle.fuse_store_tables.specs.Making.{IsBare}
use Rattle.fuse_store_tables.specs.Moves.{Takes}
use Rattle.fuse_store_tables.specs.inner.Performing.{Ran}
use Rattle.fuse_store_tables.proofs.RowLemmas.{went, same_value}
use Rattle.fuse_store_tables.proofs.Writing.{makes}
use Rattle.sqlite_resolve.specs.Compile.{first}
use Rattle.fuse_store_tables.proofs.Edits.{IsEditText}

same_table : {E : Type 0} {a b : Table} → ◌≡◌ {A = Result Table E} (Ok a) (Ok b) → a ≡ b
same_table e = cc

pub created_as : (s : Schema) (sql : List ℕ) (t : Table) → table_defined_by sql ≡ Ok t → lacks_sequence (created s t) ≡ false
    → (old new : State) (params : Row) (n : ℕ) → old.now.schema ≡ s
    → Writes old new None CreateTable sql params n → (new.now.schema ≡ created s t) × (new.now.trees (next_tree s) ≡ [])
    × KeepsRows s.tables old.now.trees new.now.trees
created_as s sql t is lacks old new params n has w =
    let all = went (subst (λ (k : Schema). Does old.step_limit (mode_of old) params (record old.now { schema = k }) sql None CreateTable
    (Ok (w.tally, new.now))) has w.changed) in
    let first = went all.1 in
    let made = first.1 in
    let same : made.table ≡ t = same_table (sym made.defined ∙ is) in
    let schema : first.0.schema ≡ created s t = made.is ∙ ap (created s) same in
    let plain : lacks_sequence first.0.schema ≡ false = ap lacks_sequence schema ∙ lacks in
    let now : new.now ≡ first.0 = ap (λ (p : Tally × Database). p.1) (same_value all.2) ∙ same_value (rw plain at first.2) in (
      ap (λ (d : Database). d.schema) now ∙ schema,
      ap (λ (d : Database). d.trees (next_tree s)) now ∙ made.empty,
      subst (λ (d : Database). KeepsRows s.tables old.now.trees d.trees) (sym now) made.others,
    )

abbrev pub meta_text : List ℕ
meta_text = codes "CREATE TABLE meta (k INTEGER PRIMARY KEY, v INTEGER NOT NULL) STRICT"

abbrev pub nodes_text : List ℕ
nodes_text =
    codes "CREATE TABLE nodes (node INTEGER PRIMARY KEY, mode INTEGER NOT NULL, uid INTEGER NOT NULL, gid INTEGER NOT NULL, "
    ++ codes "rdev INTEGER NOT NULL, size INTEGER NOT NULL, atime INTEGER NOT NULL, atimensec INTEGER NOT NULL, mtime INTEGER "
    ++ codes "NOT NULL, mtimensec INTEGER NOT NULL, ctime INTEGER NOT NULL, ctimensec INTEGER NOT NULL, up INTEGER NOT NULL, "
    ++ codes "subdirs INTEGER NOT NULL) STRICT"

abbrev pub entries_text : List ℕ
entries_text =
    codes "CREATE TABLE entries (cookie INTEGER PRIMARY KEY, dir INTEGER NOT NULL REFERENCES nodes (node), name BLOB NOT "
    ++ codes "NULL, child INTEGER NOT NULL UNIQUE REFERENCES nodes (node), UNIQUE (dir, name)) STRICT"

abbrev pub blocks_text : List ℕ
blocks_text =
    codes "CREATE TABLE blocks (node INTEGER NOT NULL REFERENCES nodes (node), block INTEGER NOT NULL, bytes BLOB NOT NULL, "
    ++ codes "PRIMARY KEY (node, block)) STRICT"

abbrev pub handles_text : List ℕ
handles_text = codes "CREATE TABLE handles (fh INTEGER PRIMARY KEY, node INTEGER NOT NULL REFERENCES nodes (node), access INTEGER NOT NULL) STRICT"

abbrev pub answers_text : List ℕ
answers_text = codes "CREATE TABLE answers (id INTEGER PRIMARY KEY, errno INTEGER NOT NULL, body BLOB NOT NULL) STRICT"

abbrev pub lots_text : List ℕ
lots_text = codes "CREATE TABLE lots (lot INTEGER PRIMARY KEY) STRICT"

abbrev pub kept_text : List ℕ
kept_text = codes "CREATE TABLE kept (id INTEGER PRIMARY KEY, lot INTEGER NOT NULL REFERENCES lots (lot), errno INTEGER NOT NULL, body BLOB NOT NULL) STRICT"

-- the text makes this table, beside those of the schema
pub record IsTextOf (s : Schema) (table : Table) (text : List ℕ) : Type 0 where
  pub defines : table_defined_by text ≡ Ok (record table { tree = 0 })
  pub statement : statement_of text (understood s text) ≡ text
  pub command : command_of (understood s text) ≡ CreateTable
  pub plain : IsPlain (understood s text)
  pub lacks : lacks_sequence (created s table) ≡ false
  pub edit : IsEditText (first text)

same_rows : (held old new : Trees) (tables : List Table) → AllByRecursion (HasRows held old) tables → KeepsRows tables old new
    → AllByRecursion (HasRows held new) tables
same_rows held old new [] rows same = tt
same_rows held old new (t ∷ ts) rows same =
    ((same.0 ∙ rows.0.0, subst IsTable (sym same.0) rows.0.1), same_rows held old new ts rows.1 same.1)

more_rows : (held new : Trees) (tables : List Table) (t : Table) → AllByRecursion (HasRows held new) tables → HasRows held new t
    → AllByRecursion (HasRows held new) (tables ++ t ∷ [])
more_rows held new [] t rows last = (last, tt)
more_rows held new (x ∷ xs) t rows last = (rows.0, more_rows held new xs t rows.1 last)

-- a table more, without a row, beside those of the schema, whatever they hold
pub table_more : (s : Schema) (table : Table) (text : List ℕ) → IsTextOf s table text → (held : Trees) → held (next_tree s) ≡ []
    → (old new : State) (n : ℕ) → HoldsAs s held old.now → Writes old new None CreateTable (statement_of text (understood s text)) [] n
    → HoldsAs (created s table) held new.now
table_more s table text made held empty old new n at w =
    let wrote = subst (λ sql. Writes old new None CreateTable sql [] n) made.statement w in
    let all = created_as s text (record table { tree = 0 }) made.defines made.lacks old new [] n at.schema wrote in
    let others = same_rows held old.now.trees new.now.trees s.tables at.rows all.2 in
    record {
      schema = all.0;
      sound = w.sound;
      rows = more_rows held new.now.trees s.tables _ others (all.1 ∙ sym empty, subst IsTable (sym all.1) tt);
    }

pub creates : (s : Schema) (table : Table) (text : List ℕ) → IsTextOf s table text → (old new : State) (r : Result (Unit {0}) Error)
    → (HasCleanDisk new → Ran text [] old new r) → Survives old new (CommitsBy text [] old)
    → Takes (IsBare s) (IsBare (created s table)) old new r
creates s table text made =
    makes (IsBare s) s (λ c d h. h.schema) text [] CreateTable made.command made.plain refl made.edit (IsBare (created s table))
    (λ c. table_more s table text made no_trees refl)

pub meta_edit : IsEditText (first meta_text)
unfolding first everything
meta_edit = tt

pub meta_made : IsTextOf no_schema meta meta_text
unfolding understood everything
meta_made = record { defines = refl; statement = refl; command = refl; plain = (refl, refl); lacks = refl; edit = meta_edit }

pub nodes_edit : IsEditText (first nodes_text)
unfolding first everything
nodes_edit = tt

pub nodes_made : IsTextOf with_meta nodes nodes_text
unfolding understood everything
nodes_made = record { defines = refl; statement = refl; command = refl; plain = (refl, refl); lacks = refl; edit = nodes_edit }

pub entries_edit : IsEditText (first entries_text)
unfolding first everything
entries_edit = tt

pub entries_made : IsTextOf with_nodes entries entries_text
unfolding understood everything
entries_made = record { defines = refl; statement = refl; command = refl; plain = (refl, refl); lacks = refl; edit = entries_edit }

pub blocks_edit : IsEditText (first blocks_text)
unfolding first everything
blocks_edit = tt

pub blocks_made : IsTextOf with_entries blocks blocks_text
unfolding understood everything
blocks_made = record { defines = refl; statement = refl; command = refl; plain = (refl, refl); lacks = refl; edit = blocks_edit }

pub handles_edit : IsEditText (first handles_text)
unfolding first everything
handles_edit = tt

pub handles_made : IsTextOf with_blocks handles handles_text
unfolding understood everything
handles_made = record { defines = refl; statement = refl; command = refl; plain = (refl, refl); lacks = refl; edit = handles_edit }

pub answers_edit : IsEditText (first answers_text)
unfolding first everything
answers_edit = tt

pub answers_made : IsTextOf with_handles answers answers_text
unfolding understood everything
answers_made = record { defines = refl; statement = refl; command = refl; plain = (refl, refl); lacks = refl; edit = answers_edit }

pub lots_edit : IsEditText (first lots_text)
unfolding first everything
lots_edit = tt

pub lots_made : IsTextOf with_answers lots lots_text
unfolding understood everything
lots_made = record { defines = refl; statement = refl; command = refl; plain = (refl, refl); lacks = refl; edit = lots_edit }

pub kept_edit : IsEditText (first kept_text)
unfolding first everything
kept_edit = tt

pub kept_made : IsTextOf with_lots kept kept_text
unfolding understood everything
kept_made = record { defines = refl; statement = refl; command = refl; plain = (refl, refl); lacks = refl; edit = kept_edit }

-- ---- an index

same_index : {E : Type 0} {a b : Index} → ◌≡◌ {A = Result Index E} (Ok a) (Ok b) → a ≡ b
same_index e = cc

pub indexed_as : (s : Schema) (sql : List ℕ) (at : ℕ) (t : Table) (i : Index) → slice_get s.tables at ≡ Some t → index_defined_by t sql ≡ Ok i
    → (old new : State) (params : Row) (n : ℕ) → old.now.schema ≡ s → Writes old new None (CreateIndex at) sql params n
    → (new.now.schema ≡ indexed s t i) × KeepsRows s.tables old.now.trees new.now.trees
indexed_as s sql at t i listed is old new params n has w =
    let ran = subst (λ (k : Schema). Does old.step_limit (mode_of old) params (record old.now { schema = k }) sql None (CreateIndex at) (Ok (w.tally, new.now)))
    has w.changed in
    let on : Defines (mode_of old) (MakesIndex sql (record old.now { schema = s }) t) (Ok (w.tally, new.now)) = rw listed at ran in
    let all = went on in
    let same : all.1.index ≡ i = same_index (sym all.1.defined ∙ is) in
    let now : new.now ≡ all.0 = ap (λ (p : Tally × Database). p.1) (same_value all.2) in (
      ap (λ (d : Database). d.schema) now ∙ all.1.is ∙ ap (indexed s t) same,
      subst (λ (d : Database). KeepsRows s.tables old.now.trees d.trees) (sym now) all.1.rows,
    )

abbrev pub entries_in_order_text : List ℕ
entries_in_order_text = codes "CREATE INDEX entries_in_order ON entries (dir, cookie)"

-- the text makes this index of the table at this place of the schema
pub record IsIndexTextOf (s : Schema) (at : ℕ) (table : Table) (index : Index) (text : List ℕ) : Type 0 where
  pub listed : slice_get s.tables at ≡ Some table
  pub defines : index_defined_by table text ≡ Ok (record index { tree = 0 })
  pub statement : statement_of text (understood s text) ≡ text
  pub command : command_of (understood s text) ≡ CreateIndex at
  pub plain : IsPlain (understood s text)
  pub edit : IsEditText (first text)

-- the tables keep their rows, whatever they are
pub index_more : (s : Schema) (at : ℕ) (table : Table) (index : Index) (text : List ℕ) → IsIndexTextOf s at table index text → (held : Trees)
    → (old new : State) (n : ℕ) → HoldsAs s held old.now → Writes old new None (CreateIndex at) (statement_of text (understood s text)) [] n
    → HoldsAs (indexed s table index) held new.now
index_more s at table index text made held old new n was w =
    let wrote = subst (λ sql. Writes old new None (CreateIndex at) sql [] n) made.statement w in
    let all = indexed_as s text at table (record index { tree = 0 }) made.listed made.defines old new [] n was.schema wrote in
    record { schema = all.0; sound = w.sound; rows = same_rows held old.now.trees new.now.trees s.tables was.rows all.1 }

pub entries_in_order_edit : IsEditText (first entries_in_order_text)
unfolding first everything
entries_in_order_edit = tt

pub entries_in_order_made : IsIndexTextOf with_kept 2 entries entries_in_order entries_in_order_text
unfolding understood everything
entries_in_order_made = record { listed = refl; defines = refl; statement = refl; command = refl; plain = (refl, refl); edit = entries_in_order_edit }

-- the index, in a store without a row
pub orders : (old new : State) (r : Result (Unit {0}) Error) → (HasCleanDisk new → Ran entries_in_order_text [] old new r)
    → Survives old new (CommitsBy entries_in_order_text [] old) → Takes (IsBare with_kept) (IsBare store_schema) old new r
orders =
    makes (IsBare with_kept) with_kept (λ c d h. h.schema) entries_in_order_text [] (CreateIndex 2) entries_in_order_made.command entries_in_order_made.plain
    refl entries_in_order_edit
    (IsBare store_schema) (λ c. index_more with_kept 2 entries entries_in_order entries_in_order_text entries_in_order_made no_trees)

-- ---- version 3

abbrev pub third_nodes_text : List ℕ
third_nodes_text =
    codes "CREATE TABLE nodes (node INTEGER PRIMARY KEY, mode INTEGER NOT NULL, uid INTEGER NOT NULL, gid INTEGER NOT NULL, "
    ++ codes "rdev INTEGER NOT NULL, size INTEGER NOT NULL, atime INTEGER NOT NULL, atimensec INTEGER NOT NULL, mtime INTEGER "
    ++ codes "NOT NULL, mtimensec INTEGER NOT NULL, ctime INTEGER NOT NULL, ctimensec INTEGER NOT NULL, up INTEGER NOT NULL, "
    ++ codes "subdirs INTEGER NOT NULL, links INTEGER NOT NULL, written INTEGER NOT NULL, attributes INTEGER NOT NULL) STRICT"

abbrev pub third_entries_text : List ℕ
third_entries_text =
    codes "CREATE TABLE entries (cookie INTEGER PRIMARY KEY, dir INTEGER NOT NULL, name BLOB NOT NULL, child INTEGER NOT NULL, "
    ++ codes "UNIQUE (dir, name), UNIQUE (dir, cookie)) STRICT"

abbrev pub third_handles_text : List ℕ
third_handles_text =
    codes "CREATE TABLE handles (fh INTEGER PRIMARY KEY, node INTEGER NOT NULL REFERENCES nodes (node), access INTEGER NOT NULL, "
    ++ codes "UNIQUE (node, fh)) STRICT"

abbrev pub pieces_text : List ℕ
pieces_text =
    codes "CREATE TABLE pieces (node INTEGER NOT NULL, first INTEGER NOT NULL, count INTEGER NOT NULL, place INTEGER NOT NULL, "
    ++ codes "sum INTEGER NOT NULL, PRIMARY KEY (node, first)) STRICT"

abbrev pub xattrs_text : List ℕ
xattrs_text =
    codes "CREATE TABLE xattrs (node INTEGER NOT NULL, name BLOB NOT NULL, value BLOB NOT NULL, PRIMARY KEY (node, name)) STRICT"

pub third_nodes_edit : IsEditText (first third_nodes_text)
unfolding first everything
third_nodes_edit = tt

pub third_nodes_made : IsTextOf with_meta third_nodes third_nodes_text
unfolding understood everything
third_nodes_made = record { defines = refl; statement = refl; command = refl; plain = (refl, refl); lacks = refl; edit = third_nodes_edit }

pub third_entries_edit : IsEditText (first third_entries_text)
unfolding first everything
third_entries_edit = tt

pub third_entries_made : IsTextOf third_with_nodes third_entries third_entries_text
unfolding understood everything
third_entries_made = record { defines = refl; statement = refl; command = refl; plain = (refl, refl); lacks = refl; edit = third_entries_edit }

pub third_blocks_made : IsTextOf third_with_entries blocks blocks_text
unfolding understood everything
third_blocks_made = record { defines = refl; statement = refl; command = refl; plain = (refl, refl); lacks = refl; edit = blocks_edit }

pub third_handles_edit : IsEditText (first third_handles_text)
unfolding first everything
third_handles_edit = tt

pub third_handles_made : IsTextOf third_with_blocks third_handles third_handles_text
unfolding understood everything
third_handles_made = record { defines = refl; statement = refl; command = refl; plain = (refl, refl); lacks = refl; edit = third_handles_edit }

pub third_lots_made : IsTextOf third_with_handles lots lots_text
unfolding understood everything
third_lots_made = record { defines = refl; statement = refl; command = refl; plain = (refl, refl); lacks = refl; edit = lots_edit }

pub third_kept_made : IsTextOf third_with_lots kept kept_text
unfolding understood everything
third_kept_made = record { defines = refl; statement = refl; command = refl; plain = (refl, refl); lacks = refl; edit = kept_edit }

pub pieces_edit : IsEditText (first pieces_text)
unfolding first everything
pieces_edit = tt

pub pieces_made : IsTextOf third_with_kept pieces pieces_text
unfolding understood everything
pieces_made = record { defines = refl; statement = refl; command = refl; plain = (refl, refl); lacks = refl; edit = pieces_edit }

pub xattrs_edit : IsEditText (first xattrs_text)
unfolding first everything
xattrs_edit = tt

pub xattrs_made : IsTextOf third_with_pieces xattrs xattrs_text
unfolding understood everything
xattrs_made = record { defines = refl; statement = refl; command = refl; plain = (refl, refl); lacks = refl; edit = xattrs_edit }
