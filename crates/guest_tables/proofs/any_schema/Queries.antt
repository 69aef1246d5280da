-- A SELECT over any database changes nothing and commits nothing.
use Rattle.std.proofs.Common.{◌≡◌, ◌⊎◌, inl, inr, IsTrue, ◌+◌, ℕ, List, Ok, Err, None, Option, Result, IfOk, IfErr, true, false, Bool, cond, refl, sym, subst, ◌∙◌}
use Rattle.sqlite.specs.Tree.{Trees}
use Rattle.sqlite.specs.Order.{Row}
use Rattle.sqlite.specs.Schema.{Schema}
use Rattle.sqlite_ast.specs.declared.Select.{Select as Written}
use Rattle.sqlite_ast.specs.declared.Statement.{Statement}
use Rattle.sqlite_ast.specs.declared.Statement.TheVariants as written
use Rattle.sqlite_syntax.specs.declared.statement.Parsed.{Parsed}
use Rattle.sqlite_schema.specs.declared.command.Command.{Command}
use Rattle.sqlite_schema.specs.declared.command.Returning.{Returning}
use Rattle.sqlite_resolve.specs.declared.compiled.Compiled.{Compiled}
use Rattle.sqlite_resolve.specs.declared.error.CompileError.{CompileError}
use Rattle.sqlite_resolve.specs.declared.error.CompileError.TheVariants.{NoSuchTable}
use Rattle.sqlite_resolve.specs.Lowering.{Checked, and_then}
use Rattle.sqlite_resolve.specs.Compile.{first, compiled, planned, meaning, returning, command, timed as formats_at, small, with_command}
use Rattle.sqlite.specs.declared.error.Error.{Error}
use Rattle.sqlite.specs.Listing.{understood, reads_listing, if_select, is_select, listing_schema}
use Rattle.sqlite.specs.State.{State, HasCleanDisk, Survives, Shown, FailsToQuery, CommitsShowing, IsUnchanged, IsRolledBack, IsNotRun}
use Rattle.sqlite.proofs.StateLemmas.{survives_weaker}
use Rattle.fuse_store_tables.specs.inner.Performing.{OnlyReads, StaysWithin}
use Rattle.guest_tables.proofs.any_schema.Control.{keeps_unchanged, keeps_query}

-- ---- it has no RETURNING, whatever the schema

-- the text is a SELECT
abbrev pub IsSelectText : Checked Parsed → Type 0
IsSelectText (Ok p) = (s : Written) × (p.statement ≡ written.Select s)
IsSelectText (Err e) = ⊥

abbrev Bare : Result Compiled CompileError → Type 0
Bare (Ok c) = c.returning ≡ None
Bare (Err e) = Unit {0}

abbrev unshown : Command → Checked (Command × Option Returning)
unshown c = Ok (c, None)

bare_command : (p : Parsed) (formats : List (List ℕ)) (r : Checked Command)
    → Bare (and_then (and_then (and_then r unshown) (λ found. Ok (formats, found))) (λ plan. Ok (with_command p plan)))
bare_command p formats (Ok c) = refl
bare_command p formats (Err e) = tt

-- the plan of a statement that was parsed so
abbrev plan_of : Schema → Parsed → Statement → Result Compiled CompileError
plan_of schema p st =
    let formats = formats_at schema p.formats st in
    let base = small p.names + small formats in
    and_then (and_then (and_then (returning schema base st) (λ shown. and_then (command schema p.formats base st) (λ c. Ok (c, shown))))
    (λ found. Ok (formats, found))) (λ plan. Ok (with_command p plan))

bare_plan : (schema : Schema) (p : Parsed) (s : Written) → Bare (plan_of schema p (written.Select s))
unfolding returning
bare_plan schema p s =
    let formats = formats_at schema p.formats (written.Select s) in
    bare_command p formats (command schema p.formats (small p.names + small formats) (written.Select s))

bare_parsed : (schema : Schema) (r : Checked Parsed) → IsSelectText r → Bare (and_then r (λ p. and_then (planned schema p) (λ plan. Ok (with_command p plan))))
unfolding planned meaning
bare_parsed schema (Ok p) is = subst (λ (st : Statement). Bare (plan_of schema p st)) (sym is.1) (bare_plan schema p is.0)
bare_parsed schema (Err e) is = tt

bare_compiled : (schema : Schema) (text : List ℕ) → IsSelectText (first text) → Bare (compiled schema text)
unfolding compiled
bare_compiled schema text is = bare_parsed schema (first text) is

bare_query : (b : Bool) (c : Compiled) → c.returning ≡ None → Bare (cond b (Ok c) (Err NoSuchTable))
bare_query true c none = none
bare_query false c none = tt

bare_select : (r : Result Compiled CompileError) → Bare r → Bare (if_select r)
bare_select (Ok c) none = bare_query (is_select c.command) c none
bare_select (Err e) none = tt

bare_either : (b : Bool) (r q : Result Compiled CompileError) → Bare r → Bare q → Bare (cond b r q)
bare_either true r q x y = x
bare_either false r q x y = y

bare_understood : (schema : Schema) (text : List ℕ) → IsSelectText (first text) → Bare (understood schema text)
unfolding understood
bare_understood schema text is =
    bare_either (reads_listing schema text) (if_select (compiled listing_schema text)) (compiled schema text)
    (bare_select (compiled listing_schema text) (bare_compiled listing_schema text is)) (bare_compiled schema text is)

pub returns_none : (text : List ℕ) → IsSelectText (first text) → (schema : Schema) (c : Compiled) → understood schema text ≡ Ok c → c.returning ≡ None
returns_none text is schema c known = subst Bare known (bare_understood schema text is)

-- ---- so it only reads

module _ (sql : List ℕ) (params : Row) (is : IsSelectText (first sql)) where
  unchanged : (old new : State) (rows : List Row) → Shown sql params old new rows → IsUnchanged old new
  unfolding Shown
  unchanged old new rows h =
      let none = returns_none sql is old.now.schema h.0 h.1.is in
      (rw none at h.2).3

  none : (s : State) (db : Trees) → CommitsShowing sql params s db → ⊥
  unfolding CommitsShowing
  none s db h = let bare = returns_none sql is s.now.schema h.0 h.1.is in let some = rw bare at h.2 in absurd cc

  -- one that failed changed nothing, or the transaction was rolled back
  whole : (old new : State) (e : Error) → FailsToQuery sql params old new e → IsUnchanged old new ⊎ IsRolledBack old new
  unfolding FailsToQuery IsNotRun
  whole old new e (inl (inl h)) = inl h.1
  whole old new e (inl (inr h)) = inr h.3
  whole old new e (inr h) =
      let none = returns_none sql is old.now.schema h.0 h.1.is in
      inl (rw none at h.2).3

  ended : (old new : State) (e : Error) → FailsToQuery sql params old new e → old.in_transaction ≡ false → new.in_transaction ≡ false
  ended old new e h rests = elim (whole old new e h) [
    | inl same ↦ same.0.mode ∙ rests
    | inr back ↦ back.autocommit
  ]

  seen_after : (old new : State) (e : Error) → FailsToQuery sql params old new e → IsTrue new.is_open → (new.now ≡ old.now) ⊎ (new.now ≡ old.committed)
  seen_after old new e h is_open = elim (whole old new e h) [
    | inl same ↦ inl same.0.now_is
    | inr back ↦ inr (back.undone is_open).0
  ]

  pub only_reads : {X : Type 0} (items : X → List Row) (old new : State) (r : Result X Error)
      → (HasCleanDisk new → IfOk r (λ x. Shown sql params old new (items x)))
      → (HasCleanDisk new → IfErr r (FailsToQuery sql params old new)) → Survives old new (CommitsShowing sql params old) → OnlyReads old new r
  only_reads items old new (Ok x) ok err survives = record {
    commits = record {
      survives = survives_weaker old new _ _ (λ _ db. none old db) survives;
      kept = λ clean. keeps_unchanged old new (unchanged old new (items x) (ok clean));
    };
    same = λ clean. (unchanged old new (items x) (ok clean)).0.now_is;
    outside = λ clean rests. (unchanged old new (items x) (ok clean)).0.mode ∙ rests;
    seen = λ clean is_open. inl (unchanged old new (items x) (ok clean)).0.now_is;
  }
  only_reads items old new (Err e) ok err survives = record {
    commits = record {
      survives = survives_weaker old new _ _ (λ _ db. none old db) survives;
      kept = λ clean. keeps_query old new sql params e (err clean);
    };
    same = tt;
    outside = λ clean rests. ended old new e (err clean) rests;
    seen = λ clean is_open. seen_after old new e (err clean) is_open;
  }

  pub reads_within : {X : Type 0} (items : X → List Row) (old new : State) (r : Result X Error)
      → (HasCleanDisk new → IfOk r (λ x. Shown sql params old new (items x)))
      → (HasCleanDisk new → IfErr r (FailsToQuery sql params old new)) → Survives old new (CommitsShowing sql params old) → StaysWithin old new r
  reads_within items old new (Ok x) ok err survives = record {
    survives = survives_weaker old new _ _ (λ _ db commits. absurd (none old db commits)) survives;
    kept = λ clean inside. keeps_unchanged old new (unchanged old new (items x) (ok clean));
    within = λ clean inside. (unchanged old new (items x) (ok clean)).0.mode ∙ inside;
  }
  reads_within items old new (Err e) ok err survives = record {
    survives = survives_weaker old new _ _ (λ _ db commits. absurd (none old db commits)) survives;
    kept = λ clean inside. keeps_query old new sql params e (err clean);
    within = tt;
  }
