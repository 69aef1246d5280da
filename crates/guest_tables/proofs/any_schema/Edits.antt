-- A statement within a transaction commits nothing and ends nothing, over any database.
use Rattle.std.proofs.Common.{◌≡◌, ◌+◌, inl, inr, ℕ, Option, Some, None, is_some, List, [], length, ◌==◌, Bool, true, false, cond, not, ◌&&◌, Ok, Err, Result, subst}
use Rattle.sqlite.specs.Tree.{Trees}
use Rattle.sqlite.specs.Order.{Row}
use Rattle.sqlite.specs.Schema.{Schema}
use Rattle.sqlite_ast.specs.declared.Statement.{Statement}
use Rattle.sqlite_ast.specs.declared.Statement.TheVariants as written
use Rattle.sqlite_ast.specs.declared.Conflict.TheVariants as conflict
use Rattle.sqlite_ast.specs.declared.Rows.{Rows}
use Rattle.sqlite_ast.specs.declared.Upsert.{Upsert}
use Rattle.sqlite_syntax.specs.declared.statement.Parsed.{Parsed}
use Rattle.sqlite_schema.specs.declared.command.Command.{Command}
use Rattle.sqlite_schema.specs.declared.command.Command.TheVariants.{Insert, InsertOr, Update, Delete, CreateTable, CreateIndex, DropTable, Nothing}
use Rattle.sqlite_schema.specs.declared.command.Conflict.{Conflict}
use Rattle.sqlite_schema.specs.declared.command.Conflict.TheVariants as how
use Rattle.sqlite_schema.specs.declared.command.Returning.{Returning}
use Rattle.sqlite_resolve.specs.declared.compiled.Compiled.{Compiled}
use Rattle.sqlite_resolve.specs.declared.error.CompileError.{CompileError}
use Rattle.sqlite_resolve.specs.declared.error.CompileError.TheVariants.{NoSuchTable, Misuse, Unsupported}
use Rattle.sqlite_resolve.specs.Lowering.{Checked, and_then}
use Rattle.sqlite_resolve.specs.Scope.{Name}
use Rattle.sqlite_resolve.specs.Body.{table_at}
use Rattle.sqlite_resolve.specs.Program.{program}
use Rattle.sqlite_resolve.specs.Write.{updated, deleted}
use Rattle.sqlite_resolve.specs.Given.{upserts}
use Rattle.sqlite_resolve.specs.Compile.{first, compiled, planned, meaning, returning, command, target, new_rows, insert, insert_or, insert_or_abort, update, delete}
use Rattle.sqlite_resolve.specs.Compile.{create_table, create_index, drop_table, dropped, creates, is_attached, is_reserved}
use Rattle.sqlite_resolve.specs.Define as define
use Rattle.sqlite_schema.specs.Names.{table_named, index_named, view_named}
use Rattle.std.specs.Option.{option_or}
use Rattle.sqlite_ast.specs.declared.CreateTable.{CreateTable as WrittenTable}
use Rattle.sqlite_ast.specs.declared.CreateIndex.{CreateIndex as WrittenIndex}
use Rattle.sqlite_resolve.specs.Compile.{timed as formats_at, small, with_command}
use Rattle.sqlite.specs.declared.error.Error.{Error}
use Rattle.sqlite.specs.Listing.{understood, reads_listing, if_select, is_select, listing_schema}
use Rattle.sqlite.specs.State.{State, HasCleanDisk, Survives, KeepsCommit, CommitsBy, Executes, ExecutesIn, Escapes}
use Rattle.sqlite.proofs.StateLemmas.{survives_weaker}
use Rattle.sqlite.proofs.InsideLemmas.{executes_inside, commits_nothing, inside_keeps}
use Rattle.fuse_store_tables.specs.inner.Performing.{Ran, StaysWithin}
use Rattle.guest_tables.proofs.any_schema.Control.{keeps_failed}

-- ---- a text that changes rows, makes a table or an index, or drops a table, whatever the schema

abbrev pub IsEdit : Command → Type 0
IsEdit (Insert at from) = Unit {0}
IsEdit (InsertOr at way from clauses) = Unit {0}
IsEdit (Update at q) = Unit {0}
IsEdit (Delete at q) = Unit {0}
IsEdit CreateTable = Unit {0}
IsEdit (CreateIndex at) = Unit {0}
IsEdit (DropTable at) = Unit {0}
IsEdit Nothing = Unit {0}
IsEdit _ = ⊥

abbrev IsWritten : Statement → Type 0
IsWritten (written.Insert way name columns rows clauses shown) = Unit {0}
IsWritten (written.Update name sets test shown) = Unit {0}
IsWritten (written.Delete name test shown) = Unit {0}
IsWritten (written.CreateTable def) = Unit {0}
IsWritten (written.CreateIndex def) = Unit {0}
IsWritten (written.DropTable if_exists name) = Unit {0}
IsWritten _ = ⊥

abbrev pub IsEditText : Checked Parsed → Type 0
IsEditText (Ok p) = IsWritten p.statement
IsEditText (Err e) = ⊥

abbrev Every : {X : Type 0} (P : X → Type 0) → Checked X → Type 0
Every P (Ok x) = P x
Every P (Err e) = Unit {0}

every_then : {X Y : Type 0} (P : Y → Type 0) (r : Checked X) (f : X → Checked Y) → ((x : X) → Every P (f x)) → Every P (and_then r f)
every_then P (Ok x) f all = all x
every_then P (Err e) f all = tt

every_from : {X Y : Type 0} (Q : X → Type 0) (P : Y → Type 0) (r : Checked X) (f : X → Checked Y) → Every Q r → ((x : X) → Q x → Every P (f x))
    → Every P (and_then r f)
every_from Q P (Ok x) f is all = all x is
every_from Q P (Err e) f is all = tt

either : {X : Type 0} (P : X → Type 0) (b : Bool) (r q : Checked X) → Every P r → Every P q → Every P (cond b r q)
either P true r q x y = x
either P false r q x y = y

edits_insert : (schema : Schema) (base : ℕ) (name : Name) (columns : List Name) (rows : Rows) → Every IsEdit (insert schema base name columns rows)
unfolding insert
edits_insert schema base name columns rows =
    every_then IsEdit (target schema name) _ (λ at. every_then IsEdit (table_at schema at) _ (λ table.
    every_then IsEdit (new_rows schema table base columns rows) _ (λ s. tt)))

edits_insert_or : (schema : Schema) (base : ℕ) (way : Conflict) (name : Name) (columns : List Name) (rows : Rows) (clauses : List Upsert)
    → Every IsEdit (insert_or schema base way name columns rows clauses)
unfolding insert_or
edits_insert_or schema base way name columns rows clauses =
    every_then IsEdit (target schema name) _ (λ at. every_then IsEdit (table_at schema at) _ (λ table.
    every_then IsEdit (new_rows schema table base columns rows) _ (λ s. every_then IsEdit (upserts schema at table base clauses) _ (λ found. tt))))

edits_insert_or_abort : (schema : Schema) (base : ℕ) (name : Name) (columns : List Name) (rows : Rows) (clauses : List Upsert)
    → Every IsEdit (insert_or_abort schema base name columns rows clauses)
unfolding insert_or_abort
edits_insert_or_abort schema base name columns rows clauses =
    either IsEdit (length clauses == 0) (insert schema base name columns rows) (insert_or schema base how.Abort name columns rows clauses)
    (edits_insert schema base name columns rows) (edits_insert_or schema base how.Abort name columns rows clauses)

edits_update : (schema : Schema) (name : Name) (sets : _) (test : _) → Every IsEdit (update schema name sets test)
unfolding update
edits_update schema name sets test =
    every_then IsEdit (target schema name) _ (λ at. every_then IsEdit (table_at schema at) _ (λ table.
    every_then IsEdit (updated schema at table sets test) _ (λ d. every_then IsEdit (program schema [] d) _ (λ p. tt))))

edits_delete : (schema : Schema) (name : Name) (test : _) → Every IsEdit (delete schema name test)
unfolding delete
edits_delete schema name test =
    every_then IsEdit (target schema name) _ (λ at. every_then IsEdit (table_at schema at) _ (λ table.
    every_then IsEdit (deleted schema at table test) _ (λ d. every_then IsEdit (program schema [] d) _ (λ p. tt))))

edits_create_table : (schema : Schema) (formats : List Name) (def : WrittenTable) → Every IsEdit (create_table schema formats def)
unfolding create_table
edits_create_table schema formats def =
    either IsEdit (is_attached schema def.name) (Err Unsupported) _ tt (every_then IsEdit (creates def.if_missing def.name (option_or (table_named schema def.name)
    (view_named schema def.name)) (index_named schema def.name)) _ (λ is_new. either IsEdit is_new _ (Ok Nothing) (every_then IsEdit (define.table formats def) _
    (λ t. either IsEdit (length t.computed == length t.stamps.places && not def.resolves) (Ok CreateTable) (Err Unsupported) tt tt)) tt))

edits_create_index : (schema : Schema) (def : WrittenIndex) → Every IsEdit (create_index schema def)
unfolding create_index
edits_create_index schema def =
    either IsEdit (is_reserved def.table) (Err Misuse) _ tt (every_then IsEdit (target schema def.table) _ (λ at. every_then IsEdit (table_at schema at) _
    (λ table. every_then IsEdit (creates def.if_missing def.name (index_named schema def.name) (option_or (table_named schema def.name)
    (view_named schema def.name))) _ (λ is_new. either IsEdit is_new _ (Ok Nothing) (every_then IsEdit (define.index table def) _ (λ _. tt)) tt))))

edits_dropped : (if_exists : Bool) (o : Option ℕ) → Every IsEdit (dropped DropTable NoSuchTable if_exists o)
edits_dropped if_exists (Some at) = tt
edits_dropped true None = tt
edits_dropped false None = tt

edits_drop_table : (schema : Schema) (if_exists : Bool) (name : Name) → Every IsEdit (drop_table schema if_exists name)
unfolding drop_table
edits_drop_table schema if_exists name =
    either IsEdit (is_reserved name) (Err Misuse) _ tt (either IsEdit (is_some (view_named schema name)) (Err Misuse)
    (dropped DropTable NoSuchTable if_exists (table_named schema name)) tt (edits_dropped if_exists (table_named schema name)))

edits_command : (schema : Schema) (formats : List Name) (base : ℕ) (st : Statement) → IsWritten st → Every IsEdit (command schema formats base st)
unfolding command
edits_command schema formats base (written.Insert conflict.Abort name columns rows clauses shown) is = edits_insert_or_abort schema base name columns rows clauses
edits_command schema formats base (written.Insert conflict.Ignore name columns rows clauses shown) is =
    edits_insert_or schema base how.Ignore name columns rows clauses
edits_command schema formats base (written.Insert conflict.Replace name columns rows clauses shown) is =
    edits_insert_or schema base how.Replace name columns rows clauses
edits_command schema formats base (written.Update name sets test shown) is = edits_update schema name sets test
edits_command schema formats base (written.Delete name test shown) is = edits_delete schema name test
edits_command schema formats base (written.CreateTable def) is = edits_create_table schema formats def
edits_command schema formats base (written.CreateIndex def) is = edits_create_index schema def
edits_command schema formats base (written.DropTable if_exists name) is = edits_drop_table schema if_exists name
edits_command schema formats base _ is = absurd is

abbrev Found : Command × Option Returning → Type 0
Found found = IsEdit found.0

edits_meaning : (schema : Schema) (p : Parsed) (base : ℕ) → IsWritten p.statement → Every Found (meaning schema p base)
unfolding meaning
edits_meaning schema p base is =
    every_then Found (returning schema base p.statement) _ (λ shown. every_from IsEdit Found (command schema p.formats base p.statement) _
    (edits_command schema p.formats base p.statement is) (λ c edit. edit))

abbrev Planned : List Name × (Command × Option Returning) → Type 0
Planned plan = IsEdit plan.1.0

edits_planned : (schema : Schema) (p : Parsed) → IsWritten p.statement → Every Planned (planned schema p)
unfolding planned
edits_planned schema p is =
    let base = small p.names + small (formats_at schema p.formats p.statement) in
    every_from Found Planned (meaning schema p base) _ (edits_meaning schema p base is) (λ found edit. edit)

abbrev Edits : Compiled → Type 0
Edits c = IsEdit c.command

edits_parsed : (schema : Schema) (r : Checked Parsed) → IsEditText r → Every Edits (and_then r (λ p. and_then (planned schema p) (λ plan. Ok (with_command p plan))))
edits_parsed schema (Ok p) is = every_from Planned Edits (planned schema p) _ (edits_planned schema p is) (λ plan edit. edit)
edits_parsed schema (Err e) is = tt

edits_compiled : (schema : Schema) (text : List ℕ) → IsEditText (first text) → Every Edits (compiled schema text)
unfolding compiled
edits_compiled schema text is = edits_parsed schema (first text) is

edits_select : (r : Result Compiled CompileError) → Every Edits r → Every Edits (if_select r)
edits_select (Ok c) edit = either Edits (is_select c.command) (Ok c) (Err NoSuchTable) edit tt
edits_select (Err e) edit = tt

edits_understood : (schema : Schema) (text : List ℕ) → IsEditText (first text) → Every Edits (understood schema text)
unfolding understood
edits_understood schema text is =
    either Edits (reads_listing schema text) (if_select (compiled listing_schema text)) (compiled schema text)
    (edits_select (compiled listing_schema text) (edits_compiled listing_schema text is)) (edits_compiled schema text is)

edits : (text : List ℕ) → IsEditText (first text) → (schema : Schema) (c : Compiled) → understood schema text ≡ Ok c → IsEdit c.command
edits text is schema c known = subst (Every Edits) known (edits_understood schema text is)

none_escapes : (s : State) (c : Command) → IsEdit c → ¬ Escapes 0 s c
none_escapes s c is (inl (inl e)) = subst IsEdit e is
none_escapes s c is (inl (inr e)) = subst IsEdit e is
none_escapes s c is (inr (name, inl e, at)) = subst IsEdit e is
none_escapes s c is (inr (name, inr e, at)) = subst IsEdit e is

-- ---- so it stays within

module _ (sql : List ℕ) (params : Row) (is : IsEditText (first sql)) where
  nothing : (s : State) → s.in_transaction ≡ true → (db : Trees) → ¬ CommitsBy sql params s db
  unfolding CommitsBy
  nothing s inside db h =
      commits_nothing s s 0 inside sql params h.0 h.1 (none_escapes s h.0.command (edits sql is s.now.schema h.0 h.1.is)) db h

  kept : (old new : State) (n : ℕ) → old.in_transaction ≡ true → Executes sql params old new (Ok n) → new.in_transaction ≡ true
  unfolding ExecutesIn
  kept old new n inside h =
      (executes_inside old new 0 inside sql params h.0 h.1 (none_escapes old h.0.command (edits sql is old.now.schema h.0 h.1.is)) false (Ok n) h).1.mode

  keeps : (old new : State) (n : ℕ) → old.in_transaction ≡ true → Executes sql params old new (Ok n) → KeepsCommit old new
  unfolding ExecutesIn
  keeps old new n inside h =
      inside_keeps old new 0 false sql params (Ok n)
      (executes_inside old new 0 inside sql params h.0 h.1 (none_escapes old h.0.command (edits sql is old.now.schema h.0 h.1.is)) false (Ok n) h)

  pub edits_within : (old new : State) (r : Result (Unit {0}) Error) → (HasCleanDisk new → Ran sql params old new r) → Survives old new (CommitsBy sql params old)
      → StaysWithin old new r
  edits_within old new (Ok x) runs survives = record {
    survives = survives_weaker old new _ _ (λ _ db commits inside. nothing old inside db commits) survives;
    kept = λ clean inside. keeps old new (runs clean).0 inside (runs clean).1;
    within = λ clean inside. kept old new (runs clean).0 inside (runs clean).1;
  }
  edits_within old new (Err e) runs survives = record {
    survives = survives_weaker old new _ _ (λ _ db commits inside. nothing old inside db commits) survives;
    kept = λ clean inside. keeps_failed old new sql params e (runs clean);
    within = tt;
  }
