-- The first statements of a new store, in a database that has a table `meta`.
use Rattle.std.proofs.Common.{◌≡◌, ◌+◌, ℕ, List, [], codes, Ok, Err, None, Some, Option, Result, IsErrAnd, true, false, Bool, cond, inl, inr, refl, sym, ap, subst, arith, ◌∙◌}
use Rattle.std.specs.Option.{is_some, option_map, unwrap_or}
use Rattle.sqlite.specs.Schema.{Schema}
use Rattle.sqlite.specs.Command.TheVariants.{Begin}
use Rattle.sqlite_ast.specs.declared.CreateTable.{CreateTable as WrittenTable}
use Rattle.sqlite_ast.specs.declared.Statement.{Statement}
use Rattle.sqlite_ast.specs.declared.Statement.TheVariants as written
use Rattle.sqlite_syntax.specs.declared.statement.Parsed.{Parsed}
use Rattle.sqlite_schema.specs.declared.command.Command.{Command}
use Rattle.sqlite_schema.specs.declared.command.Returning.{Returning}
use Rattle.sqlite_schema.specs.Names.{table_named, view_named, index_named}
use Rattle.sqlite_resolve.specs.declared.compiled.Compiled.{Compiled}
use Rattle.sqlite_resolve.specs.declared.error.CompileError.{CompileError}
use Rattle.sqlite_resolve.specs.declared.error.CompileError.TheVariants.{Exists, Misuse, Unsupported}
use Rattle.sqlite_resolve.specs.Lowering.{Checked, and_then}
use Rattle.sqlite_resolve.specs.Compile.{first, compiled, planned, meaning, returning, command, timed as formats_at, small, with_command, creates, create_table, is_reserved}
use Rattle.sqlite_resolve.specs.Compile.{is_attached, stands_on_other}
use Rattle.sqlite.specs.declared.error.Error.{Error}
use Rattle.sqlite.specs.declared.error.Error.TheVariants.{SqlInputError}
use Rattle.sqlite.specs.Listing.{understood, misses_table, if_select, listing_schema}
use Rattle.sqlite.specs.Order.{Row}
use Rattle.sqlite.specs.State.{State, HasCleanDisk, ExecutesIn, Executes, IsNotRun, IsNoStatement, IsMisplaced, RunsCommand, shows_rows, IsStatement}
use Rattle.sqlite.specs.Clock.{timed}
use Rattle.sqlite.proofs.Callers.{IsPlain}
use Rattle.sqlite_tied.specs.Compute.{everything}
use Rattle.fuse_store_tables.specs.Refusing.{HasMetaTable, IsOfStore, IsNameTaken}
use Rattle.fuse_store_tables.specs.inner.Performing.{Ran}
use Rattle.fuse_store_tables.proofs.Control.{begin_text, begin_is, begin_plain, IsWhole, never_unread, command_from, changes_never}
use Rattle.fuse_store_tables.proofs.SchemaLemmas.{meta_text}

-- ---- what the text of `meta` is over such a schema

abbrev meta_name : List ℕ
meta_name = codes "meta"

-- the text makes a table of this name
abbrev MakesMeta : Checked Parsed → Type 0
MakesMeta (Ok p) = (def : WrittenTable) × (p.statement ≡ written.CreateTable def) × (def.name ≡ meta_name) × (def.if_missing ≡ false)
MakesMeta (Err e) = ⊥

meta_makes : MakesMeta (first meta_text)
unfolding first everything
meta_makes = (_, refl, refl, refl)

meta_free : is_reserved meta_name ≡ false
unfolding is_reserved everything
meta_free = refl

unattached : (s : Schema) → view_named s meta_name ≡ None → is_attached s meta_name ≡ false
unfolding is_attached
unattached s none =
    ap (λ (o : Option ℕ). unwrap_or (option_map (λ v. stands_on_other meta_name v.foreign) (Rattle.std.specs.Option.option_and_then
    (Rattle.std.specs.Prelude.slice_get s.views) o)) false) none

taken_by : (reserved other same : Bool) → reserved ≡ false → same ≡ true
    → cond reserved (Err Misuse) (cond other (Err Exists) (cond same (cond false (Ok false) (Err Exists)) (Ok true))) ≡ Err Exists
taken_by true other same free there = absurd cc
taken_by false true same free there = refl
taken_by false false true free there = refl
taken_by false false false free there = absurd cc

creates_taken : (name : List ℕ) (same other : Option ℕ) → is_reserved name ≡ false → is_some same ≡ true → creates false name same other ≡ Err Exists
unfolding creates
creates_taken name same other free there = taken_by (is_reserved name) (is_some other) (is_some same) free there

some_or : (a b : Option ℕ) → is_some a ≡ true → is_some (Rattle.std.specs.Option.option_or a b) ≡ true
some_or (Some n) b there = refl
some_or None b there = absurd cc

chained : {X : Type 0} (b : Bool) (r : Checked Bool) (f : Bool → Checked X) → b ≡ false → r ≡ Err Exists → cond b (Err Unsupported) (and_then r f) ≡ Err Exists
chained b r f off is = ap (λ c. cond c (Err Unsupported) (and_then r f)) off ∙ ap (λ q. and_then q f) is

module _ (schema : Schema) (has : HasMetaTable schema) where
  named_taken : (missing : Bool) (name : List ℕ) → name ≡ meta_name → missing ≡ false
      → creates missing name (Rattle.std.specs.Option.option_or (table_named schema name) (view_named schema name)) (index_named schema name) ≡ Err Exists
  named_taken missing name is not =
      ap (λ m. creates m name (Rattle.std.specs.Option.option_or (table_named schema name) (view_named schema name)) (index_named schema name)) not
      ∙ ap (λ n. creates false n (Rattle.std.specs.Option.option_or (table_named schema n) (view_named schema n)) (index_named schema n)) is
      ∙ creates_taken meta_name _ _ meta_free (some_or (table_named schema meta_name) (view_named schema meta_name) has.table)

  table_taken : (formats : List (List ℕ)) (def : WrittenTable) → def.name ≡ meta_name → def.if_missing ≡ false → create_table schema formats def ≡ Err Exists
  unfolding create_table
  table_taken formats def is not =
      chained (is_attached schema def.name) (creates def.if_missing def.name (Rattle.std.specs.Option.option_or (table_named schema def.name)
      (view_named schema def.name)) (index_named schema def.name)) _
      (subst (λ n. is_attached schema n ≡ false) (sym is) (unattached schema has.view)) (named_taken def.if_missing def.name is not)

  abbrev plan_of : Parsed → Statement → Result Compiled CompileError
  plan_of p st =
      let formats = formats_at schema p.formats st in
      let base = small p.names + small formats in
      and_then (and_then (and_then (returning schema base st) (λ shown. and_then (command schema p.formats base st) (λ c. Ok (c, shown))))
      (λ found. Ok (formats, found))) (λ plan. Ok (with_command p plan))

  abbrev unshown : Command → Checked (Command × Option Returning)
  unshown c = Ok (c, None)

  plan_taken : (p : Parsed) (def : WrittenTable) → def.name ≡ meta_name → def.if_missing ≡ false → plan_of p (written.CreateTable def) ≡ Err Exists
  unfolding returning command
  plan_taken p def is not =
      ap (λ (r : Checked Command). and_then (and_then (and_then r unshown) (λ found. Ok (formats_at schema p.formats (written.CreateTable def), found)))
      (λ plan. Ok (with_command p plan))) (table_taken p.formats def is not)

  parsed_taken : (r : Checked Parsed) → MakesMeta r → and_then r (λ p. and_then (planned schema p) (λ plan. Ok (with_command p plan))) ≡ Err Exists
  unfolding planned meaning
  parsed_taken (Ok p) is = subst (λ (st : Statement). plan_of p st ≡ Err Exists) (sym is.1) (plan_taken p is.0 is.2 is.3)
  parsed_taken (Err e) is = absurd is

  compiled_taken : compiled schema meta_text ≡ Err Exists
  unfolding compiled
  compiled_taken = parsed_taken (first meta_text) meta_makes

  meta_taken : understood schema meta_text ≡ Err Exists
  unfolding understood
  meta_taken = ap (λ (r : Result Compiled CompileError). cond (misses_table r) (if_select (compiled listing_schema meta_text)) r) compiled_taken

-- ---- so it is refused

no_statement : (s : State) (e : Error) → HasMetaTable s.now.schema → IsNoStatement s meta_text [] e → IsNameTaken e
no_statement s e has (inl bad) =
    let same = sym bad.1 ∙ meta_taken s.now.schema has in
    let is : bad.0 ≡ Exists = cc in
    inl (bad.2 ∙ ap SqlInputError is)
no_statement s e has (inr (c, is, more)) = absurd (let same = sym is ∙ meta_taken s.now.schema has in cc)

no_compiled : {X : Type 0} (s : State) (c : Compiled) → HasMetaTable s.now.schema → IsStatement s meta_text [] c → X
no_compiled s c has it = absurd (let same = sym it.is ∙ meta_taken s.now.schema has in cc)

pub meta_refused : (old new : State) (r : Result (Unit {0}) Error) → HasMetaTable old.now.schema → Ran meta_text [] old new r → IsErrAnd r IsNameTaken
unfolding ExecutesIn IsNotRun
meta_refused old new (Ok x) has h = no_compiled old h.1.0 has h.1.1
meta_refused old new (Err e) has (inl (inl bad)) = no_statement old e has bad.0
meta_refused old new (Err e) has (inl (inr fails)) = inr (fails.0, fails.1)
meta_refused old new (Err e) has (inr (c, it, ran)) = no_compiled old c has it

-- ---- BEGIN outside a transaction

begin_whole : (s : Schema) → IsWhole begin_text (understood s begin_text)
unfolding understood everything
begin_whole s = (omega arith, refl)

misplaced_never : (s : State) (e : Error) → s.in_transaction ≡ false → IsMisplaced s Begin e → ⊥
misplaced_never s e outside (inl (is, inl (same, inside))) = absurd (let clash = sym outside ∙ inside in cc)
misplaced_never s e outside (inl (is, inr (inl same, out))) = absurd cc
misplaced_never s e outside (inl (is, inr (inr same, out))) = absurd cc
misplaced_never s e outside (inr (is, name, inl same, at)) = absurd cc
misplaced_never s e outside (inr (is, name, inr same, at)) = absurd cc

command_fails : (old new : State) (e : Error) (c : Compiled) (text : List ℕ) (params : Row) → old.in_transaction ≡ false → c.command ≡ Begin
    → c.returning ≡ None → RunsCommand old new text c params (Err e) → IsOfStore e
command_fails old new e c text params outside is none (inl (inl misplaced, same)) = absurd (misplaced_never old e outside (rw is at misplaced))
command_fails old new e c text params outside is none (inl (inr (may, does), same)) = absurd (changes_never Begin (λ writes. writes) c is none may)
command_fails old new e c text params outside is none (inr fails) = (fails.0, fails.1)

begin_failed : (old new : State) (e : Error) → old.in_transaction ≡ false → Executes begin_text [] old new (Err e) → IsOfStore e
unfolding ExecutesIn IsNotRun
begin_failed old new e outside (inl (inl bad)) = absurd (never_unread begin_text begin_whole begin_plain old e bad.0)
begin_failed old new e outside (inl (inr fails)) = (fails.0, fails.1)
begin_failed old new e outside (inr (c, it, ran)) =
    let is = command_from begin_text old c Begin it.is (begin_is _) in
    let bare = subst IsPlain it.is (begin_plain old.now.schema) in
    let quiet : shows_rows false c ≡ false = rw (is, bare.0) in
    command_fails old new e c begin_text (timed [] c.formats it.now) outside is bare.0 (rw quiet at ran)

pub begin_fails : (old new : State) (r : Result (Unit {0}) Error) → (HasCleanDisk new → Ran begin_text [] old new r) → HasCleanDisk new
    → old.in_transaction ≡ false → Rattle.std.specs.Prelude.IfErr r IsOfStore
begin_fails old new (Ok x) runs clean outside = tt
begin_fails old new (Err e) runs clean outside = begin_failed old new e outside (runs clean)

-- ---- the steps after it

-- what `?` returns
pub passed_on : {Y : Type 0} (e : Error) (r : Result Y Error) (P : Error → Type 0) → IsErrAnd r (λ f. f ≡ e) → P e → IsErrAnd r P
passed_on e (Ok y) P is so = absurd is
passed_on e (Err f) P is so = subst P (sym is) so
