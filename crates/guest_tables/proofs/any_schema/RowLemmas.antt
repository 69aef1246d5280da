-- What the commands on rows come to, for any schema in which no key acts.
use Rattle.std.proofs.Common.{◌≡◌, ◌≢◌, ◌⊎◌, inl, inr, ℕ, ℤ, ◌/◌, length, List, [], ◌∷◌, map, Bool, true, false, not, ◌&&◌, cond, Some, None, Ok, Err, Result}
use Rattle.std.proofs.Common.{slice_get, refl, sym, ap, subst, ◌∙◌, suc, drop, unwrap_or}
use Rattle.std.specs.List.{AllByRecursion}
use Rattle.sqlite.specs.declared.types.Value.{Value}
use Rattle.sqlite.specs.declared.types.Value.TheVariants.{Null, Int}
use Rattle.sqlite.specs.Schema.{Schema}
use Rattle.sqlite.specs.Table.{Table}
use Rattle.sqlite.specs.Order.{Row}
use Rattle.sqlite.specs.Tree.{Trees}
use Rattle.sqlite_trees.specs.Tree.{put_row}
use Rattle.sqlite_rules.specs.declared.error.Rowids.{Rowids}
use Rattle.sqlite.specs.Term.{Term}
use Rattle.sqlite.specs.Ops.{unary}
use Rattle.sqlite.specs.Kind.TheVariants.{Integer}
use Rattle.sqlite.specs.Source.TheVariants.{Values, Query}
use Rattle.sqlite.specs.Command.TheVariants.{Insert, Update, Delete}
use Rattle.sqlite_schema.specs.declared.program.Program.{Program}
use Rattle.sqlite_schema.specs.declared.schema.Keys.TheVariants.{Enforced}
use Rattle.sqlite_rules.specs.Calls.{ids_of}
use Rattle.sqlite.specs.Edit.{edit_of, edited}
use Rattle.sqlite_rules.specs.Edit.{is_taken, without_all, numbered, with_rowid, taken_by, are_fresh, put_all}
use Rattle.sqlite_rules.specs.Action.{works}
use Rattle.sqlite.specs.Cast.{cast}
use Rattle.sqlite_rules.specs.Cast.{cast_row}
use Rattle.sqlite.specs.Rowids.TheVariants.{Chosen, Given}
use Rattle.sqlite_schema.specs.declared.schema.Keys.{Keys}
use Rattle.sqlite.specs.Does.{Tally, Does, OnRows}
use Rattle.sqlite.specs.Rows.{Written, stamped, Task}
use Rattle.sqlite.specs.Effect.{Database, Answers, value_rows}
use Rattle.sqlite.specs.State.{State, Writes, mode_of}
use Rattle.sqlite.proofs.Callers.{one_step}
use Rattle.fuse_store_tables.specs.inner.Rows.{PutsRow, PutsAll, Edits, Removes}

either : (b : Bool) (x : Value) → cond b x x ≡ x
either true x = refl
either false x = refl

pub cast_int : (n : ℤ) → cast Integer (Int n) ≡ Int n
unfolding unary
cast_int n = either _ (Int n)

pub cast_null : cast Integer Null ≡ Null
unfolding unary
cast_null = either _ Null

-- a part that gave a value did not stop on the way
pub went : {B E R : Type 0} {b : B} {Stops : E → Type 0} → ((stop : E) × Stops stop × (Ok b ≡ Err stop)) ⊎ R → R
went (inl stopped) = absurd (let e = stopped.2 in cc)
went (inr on) = on

pub same_value : {B E : Type 0} {a b : B} → ◌≡◌ {A = Result B E} (Ok a) (Ok b) → a ≡ b
same_value e = cc

fresh_one : (rows : List Row) (row : Row) → are_fresh rows (row ∷ []) ≡ true → is_taken rows row ≡ false
fresh_one rows row h = taken (is_taken rows row) h
  where
    taken : (b : Bool) → (not b && true) ≡ true → b ≡ false
    taken true e = absurd cc
    taken false e = refl

numbered_length : (ids : Rowids) (rows news : List Row) → length (numbered ids rows news) ≡ length news
numbered_length ids rows [] = refl
numbered_length ids rows (r ∷ news) = ap suc (numbered_length ids (put_row (with_rowid ids rows r) rows) news)

cast_length : (table : Table) (sources : List Row) → length (map (λ s. cast_row table (drop 1 s)) sources) ≡ length sources
cast_length table [] = refl
cast_length table (s ∷ sources) = ap suc (cast_length table sources)

-- AUTOINCREMENT is no part of the tables here
abbrev pub uncounted : Table → Table
uncounted table = record table { is_counted = false }

module _ (schema : Schema) (at : ℕ) (table : Table) (listed : slice_get schema.tables at ≡ Some (uncounted table)) where
  -- an INSERT of rows, whose rowids are chosen where they have none
  pub inserted_all : (terms : List Term) (width : ℕ) (old new : State) (text : List ℕ) (params : Row) (n : ℕ) (rows : List Row)
      → ((keys : Keys) (news : List Row) → works schema keys 0 table.tree [] news ≡ [])
      → map (λ s. cast_row table s) (value_rows (stamped table params) width (length terms / width) terms) ≡ rows
      → old.now.schema ≡ schema → Writes old new None (Insert at (Values terms width)) text params n
      → PutsAll table (numbered Chosen (old.now.trees table.tree) rows) old.now new.now
  inserted_all terms width old new text params n rows quiet given has w =
      let db = old.now.trees in
      let command = Insert at (Values terms width) in
      let task : Task = record { limit = old.step_limit; keys = (mode_of old).keys; schema = schema; table = uncounted table; params = params } in
      let ran = subst (λ s. Does old.step_limit (mode_of old) params (record old.now { schema = s }) text None command (Ok (w.tally, new.now))) has w.changed in
      let on : OnRows task (mode_of old) None command db (Ok (w.tally, new.now)) = rw listed at ran in
      let done = went on in
      let now : new.now ≡ record { schema = schema; trees = done.0.trees } = ap (λ (p : Tally × Database). p.1) (same_value (went (went done.2).2).2) in
      let from = went done.1 in
      let wrote = went (went from.2).2 in
      let counted = went wrote.2 in
      let trees : done.0.trees ≡ wrote.0 = ap (λ (it : Written). it.trees) (same_value counted.2) ∙ same_value counted.1 in
      let edit = edit_of db (uncounted table) [] Chosen 0 from.0 in
      let news : edit.news ≡ numbered Chosen (db table.tree) rows = ap (λ all. numbered Chosen (db table.tree) (map (λ s. cast_row table s) all)) from.1.1
      ∙ ap (numbered Chosen (db table.tree)) given in
      let applied = one_step schema _ db wrote.0 edit (quiet (mode_of old).keys edit.news) wrote.1 in
      let trees_now : new.now.trees ≡ wrote.0 = ap (λ (d : Database). d.trees) now ∙ trees in
      record {
        fresh = subst (λ all. are_fresh (db table.tree) all ≡ true) news applied.fresh;
        rows = ap (λ (t : Trees). t table.tree) trees_now ∙ applied.rows ∙ ap (put_all (db table.tree)) news;
        spares = (
          ap (λ (d : Database). d.schema) now ∙ sym has,
          subst (λ (s : Schema). AllByRecursion (λ t. t.tree ≢ table.tree → new.now.trees t.tree ≡ db t.tree) s.tables) (sym has)
              (subst (λ (all : Trees). AllByRecursion (λ t. t.tree ≢ table.tree → all t.tree ≡ db t.tree) schema.tables) (sym trees_now) applied.tables),
        );
      }

  -- an INSERT of the rows that a query shows
  pub inserted_from : (q : Program) (old new : State) (text : List ℕ) (params : Row) (n : ℕ) (rows : List Row)
      → ((keys : Keys) (news : List Row) → works schema keys 0 table.tree [] news ≡ [])
      → ((given : List Row) → Answers (record old.now { schema = schema }) q (stamped table params) given → map (λ s. cast_row table s) given ≡ rows)
      → old.now.schema ≡ schema → Writes old new None (Insert at (Query q)) text params n → PutsAll table (numbered Chosen (old.now.trees table.tree) rows)
      old.now new.now
  inserted_from q old new text params n rows quiet reads has w =
      let db = old.now.trees in
      let command = Insert at (Query q) in
      let task : Task = record { limit = old.step_limit; keys = (mode_of old).keys; schema = schema; table = uncounted table; params = params } in
      let ran = subst (λ s. Does old.step_limit (mode_of old) params (record old.now { schema = s }) text None command (Ok (w.tally, new.now))) has w.changed in
      let on : OnRows task (mode_of old) None command db (Ok (w.tally, new.now)) = rw listed at ran in
      let done = went on in
      let now : new.now ≡ record { schema = schema; trees = done.0.trees } = ap (λ (p : Tally × Database). p.1) (same_value (went (went done.2).2).2) in
      let from = went done.1 in
      let wrote = went (went from.2).2 in
      let counted = went wrote.2 in
      let trees : done.0.trees ≡ wrote.0 = ap (λ (it : Written). it.trees) (same_value counted.2) ∙ same_value counted.1 in
      let edit = edit_of db (uncounted table) [] Chosen 0 from.0 in
      let news : edit.news ≡ numbered Chosen (db table.tree) rows = ap (numbered Chosen (db table.tree)) (reads from.0 from.1) in
      let applied = one_step schema _ db wrote.0 edit (quiet (mode_of old).keys edit.news) wrote.1 in
      let trees_now : new.now.trees ≡ wrote.0 = ap (λ (d : Database). d.trees) now ∙ trees in
      record {
        fresh = subst (λ all. are_fresh (db table.tree) all ≡ true) news applied.fresh;
        rows = ap (λ (t : Trees). t table.tree) trees_now ∙ applied.rows ∙ ap (put_all (db table.tree)) news;
        spares = (
          ap (λ (d : Database). d.schema) now ∙ sym has,
          subst (λ (s : Schema). AllByRecursion (λ t. t.tree ≢ table.tree → new.now.trees t.tree ≡ db t.tree) s.tables) (sym has)
              (subst (λ (all : Trees). AllByRecursion (λ t. t.tree ≢ table.tree → all t.tree ≡ db t.tree) schema.tables) (sym trees_now) applied.tables),
        );
      }

  -- one row
  pub inserted : (terms : List Term) (width : ℕ) (old new : State) (text : List ℕ) (params : Row) (n : ℕ) (row : Row)
      → ((keys : Keys) (news : List Row) → works schema keys 0 table.tree [] news ≡ [])
      → map (λ s. cast_row table s) (value_rows (stamped table params) width (length terms / width) terms) ≡ row ∷ []
      → old.now.schema ≡ schema → Writes old new None (Insert at (Values terms width)) text params n
      → PutsRow table (with_rowid Chosen (old.now.trees table.tree) row) old.now new.now
  inserted terms width old new text params n row quiet given has w =
      let all = inserted_all terms width old new text params n (row ∷ []) quiet given has w in
      record { free = fresh_one (old.now.trees table.tree) (with_rowid Chosen (old.now.trees table.tree) row) all.fresh; rows = all.rows; spares = all.spares }

  module _ (q : Program) (old new : State) (text : List ℕ) (params : Row) (n : ℕ) (given : List Row) (has : old.now.schema ≡ schema)
      (reads : (rows : List Row) → Answers (record old.now { schema = schema }) q params rows → rows ≡ given) (quiet : (olds news : List Row)
      → works schema Enforced 0 table.tree olds news ≡ []) where
    abbrev task_now : Task
    task_now = record { limit = old.step_limit; keys = (mode_of old).keys; schema = schema; table = uncounted table; params = params }

    spared : (trees : Trees) → new.now.trees ≡ trees → AllByRecursion (λ t. t.tree ≢ table.tree → trees t.tree ≡ old.now.trees t.tree) schema.tables
        → AllByRecursion (λ t. t.tree ≢ table.tree → new.now.trees t.tree ≡ old.now.trees t.tree) old.now.schema.tables
    spared trees is same = subst (λ (s : Schema). AllByRecursion (λ t. t.tree ≢ table.tree → new.now.trees t.tree ≡ old.now.trees t.tree) s.tables) (sym has)
        (subst (λ (all : Trees). AllByRecursion (λ t. t.tree ≢ table.tree → all t.tree ≡ old.now.trees t.tree) schema.tables) (sym is) same)

    -- an UPDATE whose query shows these rows
    pub updated : Writes old new None (Update at q) text params n → Edits table 1 given given old.now new.now
    updated w =
        let db = old.now.trees in
        let ran = subst (λ s. Does old.step_limit (mode_of old) params (record old.now { schema = s }) text None (Update at q) (Ok (w.tally, new.now))) has
        w.changed in
        let on : OnRows task_now (mode_of old) None (Update at q) db (Ok (w.tally, new.now)) = rw listed at ran in
        let done = went on in
        let now : new.now ≡ record { schema = schema; trees = done.0.trees } = ap (λ (p : Tally × Database). p.1) (same_value (went (went done.2).2).2) in
        let from = went done.1 in
        let wrote = went from.2 in
        let trees : done.0.trees ≡ wrote.0 = ap (λ (it : Written). it.trees) (same_value wrote.2) in
        let edit = edit_of db (uncounted table) (ids_of from.0) Given 1 from.0 in
        let applied = one_step schema Enforced db wrote.0 edit (quiet (taken_by db edit) edit.news) wrote.1 in
        let trees_now : new.now.trees ≡ wrote.0 = ap (λ (d : Database). d.trees) now ∙ trees in
        record {
          rows = ap (λ (t : Trees). t table.tree) trees_now ∙ applied.rows ∙ ap (λ rows. edited db (edit_of db table (ids_of rows) Given 1 rows))
              (reads from.0 from.1);
          spares = (ap (λ (d : Database). d.schema) now ∙ sym has, spared wrote.0 trees_now applied.tables);
        }

    -- how many rows it says that it changed
    pub counted : Writes old new None (Update at q) text params n → n ≡ length given
    counted w =
        let db = old.now.trees in
        let ran = subst (λ s. Does old.step_limit (mode_of old) params (record old.now { schema = s }) text None (Update at q) (Ok (w.tally, new.now))) has
        w.changed in
        let on : OnRows task_now (mode_of old) None (Update at q) db (Ok (w.tally, new.now)) = rw listed at ran in
        let done = went on in
        let rows : w.tally.rows ≡ Some (length done.0.rows) = ap (λ (p : Tally × Database). p.0.rows) (same_value (went (went done.2).2).2) in
        let from = went done.1 in
        let wrote = went from.2 in
        let news : done.0.rows ≡ (edit_of db (uncounted table) (ids_of from.0) Given 1 from.0).news = ap (λ (it : Written). it.rows) (same_value wrote.2) in
        w.counted ∙ ap (λ o. unwrap_or o 0) rows ∙ ap length news
        ∙ numbered_length Given (without_all (db table.tree) (ids_of from.0)) (map (λ s. cast_row table (drop 1 s)) from.0) ∙ cast_length table from.0 ∙ ap length (reads from.0 from.1)

  -- a DELETE takes out the rows that its query shows
  pub deleted : (q : Program) (old new : State) (text : List ℕ) (params : Row) (n : ℕ) → old.now.schema ≡ schema → ((olds news : List Row)
      → works schema Enforced 0 table.tree olds news ≡ [])
      → Writes old new None (Delete at q) text params n → Removes table schema q params old.now new.now
  deleted q old new text params n has quiet w =
      let db = old.now.trees in
      let task : Task = record { limit = old.step_limit; keys = (mode_of old).keys; schema = schema; table = uncounted table; params = params } in
      let ran = subst (λ s. Does old.step_limit (mode_of old) params (record old.now { schema = s }) text None (Delete at q) (Ok (w.tally, new.now))) has
      w.changed in
      let on : OnRows task (mode_of old) None (Delete at q) db (Ok (w.tally, new.now)) = rw listed at ran in
      let done = went on in
      let now : new.now ≡ record { schema = schema; trees = done.0.trees } = ap (λ (p : Tally × Database). p.1) (same_value (went (went done.2).2).2) in
      let from = went done.1 in
      let wrote = went from.2 in
      let trees : done.0.trees ≡ wrote.0 = ap (λ (it : Written). it.trees) (same_value wrote.2) in
      let edit = edit_of db (uncounted table) (ids_of from.0) Given 0 [] in
      let applied = one_step schema Enforced db wrote.0 edit (quiet (taken_by db edit) edit.news) wrote.1 in
      let trees_now : new.now.trees ≡ wrote.0 = ap (λ (d : Database). d.trees) now ∙ trees in
      record {
        gone = from.0;
        shown = from.1;
        rows = ap (λ (t : Trees). t table.tree) trees_now ∙ applied.rows;
        spares = (
          ap (λ (d : Database). d.schema) now ∙ sym has,
          subst (λ (s : Schema). AllByRecursion (λ t. t.tree ≢ table.tree → new.now.trees t.tree ≡ db t.tree) s.tables) (sym has)
              (subst (λ (all : Trees). AllByRecursion (λ t. t.tree ≢ table.tree → all t.tree ≡ db t.tree) schema.tables) (sym trees_now) applied.tables),
        );
      }
