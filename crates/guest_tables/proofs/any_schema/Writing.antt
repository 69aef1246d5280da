-- Statements that write within a transaction.
use Rattle.std.proofs.Common.{◌≡◌, ℕ, List, Bool, true, false, None, Ok, Err, Result, IfOk, OnOk, nat_lt, sym, ◌∙◌}
use Rattle.sqlite.specs.Schema.{Schema}
use Rattle.sqlite_resolve.specs.Compile.{first}
use Rattle.sqlite.specs.Order.{Row}
use Rattle.sqlite.specs.declared.error.Error.{Error}
use Rattle.sqlite_schema.specs.declared.command.Command.{Command}
use Rattle.sqlite.specs.Command.TheVariants.{Insert, InsertOr, Update, Delete, CreateTable, CreateIndex, DropTable}
use Rattle.sqlite.specs.Listing.{understood}
use Rattle.sqlite.specs.Effect.{Database}
use Rattle.sqlite.specs.State.{State, HasCleanDisk, Survives, Executes, CommitsBy, Runs, Writes}
use Rattle.sqlite.proofs.Callers.{IsPlain, command_of, statement_of, runs_as}
use Rattle.fuse_store_tables.specs.Moves.{InsideAs, IsReady, Takes}
use Rattle.fuse_store_tables.specs.inner.Performing.{Ran, RanAny}
use Rattle.guest_tables.proofs.any_schema.Edits.{IsEditText, edits_within}

abbrev pub writes : Command → Bool
writes (Insert at from) = true
writes (InsertOr at how from clauses) = true
writes (Update at q) = true
writes (Delete at q) = true
writes CreateTable = true
writes (CreateIndex at) = true
writes (DropTable at) = true
writes _ = false

true_is_not_false : {X : Type 0} → true ≡ false → X
true_is_not_false e = absurd cc

runs_write : (old new : State) (command : Command) (text : List ℕ) (params : Row) (n : ℕ) → writes command ≡ true → Runs old new None command text params n
    → Writes old new None command text params n
runs_write old new (Insert at from) text params n is h = h
runs_write old new (InsertOr at how from clauses) text params n is h = h
runs_write old new (Update at q) text params n is h = h
runs_write old new (Delete at q) text params n is h = h
runs_write old new CreateTable text params n is h = h
runs_write old new (CreateIndex at) text params n is h = h
runs_write old new (DropTable at) text params n is h = h
runs_write old new _ text params n is h = true_is_not_false (sym is)

-- `layout` is the schema that each readiness fixes
module _ {C : Type 0} (P : C → Database → Type 0) (layout : Schema) (known : (c : C) (d : Database) → P c d → d.schema ≡ layout) (sql : List ℕ) (params : Row)
    (command : Command)
    (is : command_of (understood layout sql) ≡ command) (plain : IsPlain (understood layout sql)) (rows : writes command ≡ true) where
  pub written : (old new : State) (n : ℕ) → IsReady P old → Executes sql params old new (Ok n)
      → Writes old new None command (statement_of sql (understood layout sql)) params n
  written old new n at h = runs_write old new command _ params n rows (runs_as sql params old new layout (known at.0 old.now at.1.holds) command is plain n h)

  -- what is left to show of a statement: what it makes of the database
  pub makes : IsEditText (first sql) → (Q : C → Database → Type 0) → ((c : C) (old new : State) (n : ℕ) → P c old.now
      → Writes old new None command (statement_of sql (understood layout sql)) params n → Q c new.now)
      → (old new : State) (r : Result (Unit {0}) Error) → (HasCleanDisk new → Ran sql params old new r) → Survives old new (CommitsBy sql params old)
      → Takes P Q old new r
  makes edit Q does old new (Ok x) runs survives =
      let within = edits_within sql params edit old new (Ok x) runs survives in
      record {
        stays = record { survives = within.survives; kept = within.kept };
        within = within.within;
        turns = λ clean c at.
            let n = (runs clean).0 in
            let w = written old new n (c, at) (runs clean).1 in
            record { is_open = w.shown.is_open; in_transaction = w.shown.mode ∙ at.in_transaction; holds = does c old new n at.holds w };
      }
  makes edit Q does old new (Err e) runs survives =
      let within = edits_within sql params edit old new (Err e) runs survives in
      record { stays = record { survives = within.survives; kept = within.kept }; within = tt; turns = tt }

  -- the same of a statement that says whether it changed a row
  pub makes_any : IsEditText (first sql) → (Q : C → Database → Type 0) → ((c : C) (old new : State) (n : ℕ) → P c old.now
      → Writes old new None command (statement_of sql (understood layout sql)) params n → Q c new.now)
      → (old new : State) (r : Result Bool Error) → (HasCleanDisk new → RanAny sql params old new r) → Survives old new (CommitsBy sql params old)
      → Takes P Q old new r
  makes_any edit Q does old new (Ok any) runs survives =
      let it = makes edit Q does old new (Ok tt) (λ clean. ((runs clean).0, (runs clean).1)) survives in
      record { stays = it.stays; within = it.within; turns = it.turns }
  makes_any edit Q does old new (Err e) runs survives =
      let it = makes edit Q does old new (Err e) runs survives in
      record { stays = it.stays; within = tt; turns = tt }

  -- what it says
  pub says_any : (found : C → Bool) → ((c : C) (old new : State) (n : ℕ) → P c old.now
      → Writes old new None command (statement_of sql (understood layout sql)) params n → nat_lt 0 n ≡ found c)
      → (old new : State) (r : Result Bool Error) → (HasCleanDisk new → RanAny sql params old new r)
      → HasCleanDisk new → IfOk r (λ any. (c : C) → InsideAs (P c) old → any ≡ found c)
  says_any found does old new (Ok any) runs clean = λ c at.
      let ran = runs clean in
      ran.2 ∙ does c old new ran.0 at.holds (written old new ran.0 (c, at) ran.1)
  says_any found does old new (Err e) runs clean = tt

  -- what is so of the content before a statement that wrote
  pub told_before : (Q : C → Type 0) → ((c : C) (old new : State) (n : ℕ) → P c old.now
      → Writes old new None command (statement_of sql (understood layout sql)) params n → Q c)
      → (old new : State) (r : Result (Unit {0}) Error) → (HasCleanDisk new → Ran sql params old new r)
      → HasCleanDisk new → OnOk r ((c : C) → InsideAs (P c) old → Q c)
  told_before Q does old new (Ok x) runs clean = λ c at.
      let ran = runs clean in
      does c old new ran.0 at.holds (written old new ran.0 (c, at) ran.1)
  told_before Q does old new (Err e) runs clean = tt
