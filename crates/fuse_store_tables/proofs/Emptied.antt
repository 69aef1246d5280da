-- The statements that take all rows out of a table.
use Rattle.std.proofs.Common.{◌≡◌, ℕ, List, [], ◌∷◌, map, filter, codes, true, not, None, Result, refl, ap, ◌∙◌}
use Rattle.sqlite.specs.Command.TheVariants.{Delete}
use Rattle.sqlite_tied.specs.Compute.{everything}
use Rattle.sqlite.specs.declared.error.Error.{Error}
use Rattle.sqlite.specs.Listing.{understood}
use Rattle.sqlite.specs.State.{State, HasCleanDisk, Survives, CommitsBy, Writes}
use Rattle.sqlite.proofs.Callers.{IsPlain, command_of, statement_of}
use Rattle.fuse_store_tables.specs.Layout.{answers, lots, kept, schema_for, store_schema}
use Rattle.fuse_store_tables.specs.Content.{Content, Answer, Holds, stored, fh_of, handle_row, answer_row, lot_row, kept_row}
use Rattle.fuse_store_tables.specs.inner.Steps.{HoldsIn, without_handles, without_answers, without_lots, without_all_kept}
use Rattle.fuse_store_tables.specs.Moves.{Makes, Takes}
use Rattle.fuse_store_tables.specs.inner.Performing.{Ran}
use Rattle.fuse_store_tables.proofs.Tables.{wrote, only_handles, only_answers_in, only_lots, only_kept}
use Rattle.fuse_store_tables.proofs.Deletes.{picking, picks}
use Rattle.sqlite_resolve.specs.Compile.{first}
use Rattle.fuse_store_tables.proofs.Edits.{IsEditText}
use Rattle.fuse_store_tables.specs.declared.version.Layout.{Layout}
use Rattle.fuse_store_tables.specs.declared.version.Layout.TheVariants.{Second, Third}
use Rattle.fuse_store_tables.proofs.Writing.{makes}
use Rattle.fuse_store_tables.proofs.Laid.{held_in, in_layout, schema_known, makes_laid}
use Rattle.fuse_store_tables.proofs.Tables.{lots_at, kept_at, handles_for, handles_listed, kept_listed, laid, lots_listed}

none_left : {X : Type 0} (xs : List X) → filter (λ x. not true) xs ≡ []
none_left [] = refl
none_left (x ∷ xs) = none_left xs

-- ---- every record

abbrev pub all_kept_text : List ℕ
all_kept_text = codes "DELETE FROM kept"

all_kept_is : (l : Layout) → command_of (understood (schema_for l) all_kept_text) ≡ Delete (kept_at l) (picking 10 [])
unfolding understood everything
all_kept_is Second = refl
all_kept_is Third = refl

all_kept_plain : (l : Layout) → IsPlain (understood (schema_for l) all_kept_text)
unfolding understood everything
all_kept_plain Second = (refl, refl)
all_kept_plain Third = (refl, refl)

pub all_kept_edit : IsEditText (first all_kept_text)
unfolding first everything
all_kept_edit = tt

all_kept_gone : (c : Content) (old new : State) (n : ℕ) → Holds c old.now → Writes old new None (Delete (kept_at c.layout) (picking 10 [])) (statement_of all_kept_text
    (understood (schema_for c.layout) all_kept_text)) [] n → Holds (without_all_kept c) new.now
all_kept_gone c old new n at w =
    let was = (laid c old.now at).kept in
    let now = picks c.layout (λ k. k.id) kept_row (λ _. refl) (λ _. true) (kept_at c.layout) kept (kept_listed c.layout) [] [] (λ _. refl) (λ _. refl) c.kept old new _ n at.schema was.0 was.1 w in
    wrote (schema_for c.layout) (stored c) (stored (without_all_kept c)) kept old.now new.now at now.2 w.sound (only_kept c []) (now.0
    ∙ ap (map kept_row) (none_left c.kept)) now.1

pub removes_all_kept : (old new : State) (r : Result (Unit {0}) Error) → (HasCleanDisk new → Ran all_kept_text [] old new r)
    → Survives old new (CommitsBy all_kept_text [] old) → Makes without_all_kept old new r
removes_all_kept = makes_laid all_kept_text [] (λ l. Delete (kept_at l) (picking 10 [])) all_kept_is all_kept_plain (λ _. refl) all_kept_edit
    (λ c. Holds (without_all_kept c)) all_kept_gone

-- ---- every lot

abbrev pub lots_text : List ℕ
lots_text = codes "DELETE FROM lots"

lots_is : (l : Layout) → command_of (understood (schema_for l) lots_text) ≡ Delete (lots_at l) (picking 9 [])
unfolding understood everything
lots_is Second = refl
lots_is Third = refl

lots_plain : (l : Layout) → IsPlain (understood (schema_for l) lots_text)
unfolding understood everything
lots_plain Second = (refl, refl)
lots_plain Third = (refl, refl)

pub lots_edit : IsEditText (first lots_text)
unfolding first everything
lots_edit = tt

lots_gone : (c : Content) (old new : State) (n : ℕ) → Holds c old.now → Writes old new None (Delete (lots_at c.layout) (picking 9 []))
    (statement_of lots_text (understood (schema_for c.layout) lots_text)) [] n → Holds (without_lots c) new.now
lots_gone c old new n at w =
    let was = (laid c old.now at).lots in
    let now = picks c.layout (λ l. l) lot_row (λ _. refl) (λ _. true) (lots_at c.layout) lots (lots_listed c.layout) [] [] (λ _. refl) (λ _. refl) c.lots old new _ n at.schema was.0 was.1 w in
    wrote (schema_for c.layout) (stored c) (stored (without_lots c)) lots old.now new.now at now.2 w.sound (only_lots c []) (now.0 ∙ ap (map lot_row) (none_left c.lots))
    now.1

pub removes_all_lots : (old new : State) (r : Result (Unit {0}) Error) → (HasCleanDisk new → Ran lots_text [] old new r)
    → Survives old new (CommitsBy lots_text [] old) → Makes without_lots old new r
removes_all_lots = makes_laid lots_text [] (λ l. Delete (lots_at l) (picking 9 [])) lots_is lots_plain (λ _. refl) lots_edit (λ c. Holds (without_lots c))
    lots_gone

-- ---- every handle

abbrev pub handles_text : List ℕ
handles_text = codes "DELETE FROM handles"

handles_is : (l : Layout) → command_of (understood (schema_for l) handles_text) ≡ Delete 4 (picking 7 [])
unfolding understood everything
handles_is Second = refl
handles_is Third = refl

handles_plain : (l : Layout) → IsPlain (understood (schema_for l) handles_text)
unfolding understood everything
handles_plain Second = (refl, refl)
handles_plain Third = (refl, refl)

pub handles_edit : IsEditText (first handles_text)
unfolding first everything
handles_edit = tt

handles_gone : (c : Content) (old new : State) (n : ℕ) → Holds c old.now → Writes old new None (Delete 4 (picking 7 [])) (statement_of handles_text
    (understood (schema_for c.layout) handles_text)) [] n → Holds (without_handles c) new.now
handles_gone c old new n at w =
    let was = (laid c old.now at).handles in
    let now = picks c.layout (fh_of) handle_row (λ _. refl) (λ _. true) 4 (handles_for c.layout) (handles_listed c.layout) [] [] (λ _. refl) (λ _. refl) c.handles old new _ n at.schema was.0 was.1 w in
    wrote (schema_for c.layout) (stored c) (stored (without_handles c)) (handles_for c.layout) old.now new.now at now.2 w.sound (only_handles c []) (now.0
    ∙ ap (map handle_row) (none_left c.handles)) now.1

pub removes_all_handles : (old new : State) (r : Result (Unit {0}) Error) → (HasCleanDisk new → Ran handles_text [] old new r)
    → Survives old new (CommitsBy handles_text [] old) → Makes without_handles old new r
removes_all_handles = makes_laid handles_text [] (λ _. Delete 4 (picking 7 [])) handles_is handles_plain (λ _. refl) handles_edit
    (λ c. Holds (without_handles c)) handles_gone

-- ---- the records of version 1

abbrev pub answers_text : List ℕ
answers_text = codes "DELETE FROM answers"

answers_is : command_of (understood store_schema answers_text) ≡ Delete 5 (picking 8 [])
unfolding understood everything
answers_is = refl

answers_plain : IsPlain (understood store_schema answers_text)
unfolding understood everything
answers_plain = (refl, refl)

pub answers_edit : IsEditText (first answers_text)
unfolding first everything
answers_edit = tt

answers_gone : (c : Content) (old new : State) (n : ℕ) → HoldsIn Second c old.now → Writes old new None (Delete 5 (picking 8 [])) (statement_of answers_text
    (understood store_schema answers_text)) [] n → HoldsIn Second (without_answers c) new.now
answers_gone c old new n at w =
    let held = held_in Second c old.now at in
    let was = held.rows.1.1.1.1.1.0 in
    let now = picks Second (λ (a : Answer). a.id) answer_row (λ _. refl) (λ _. true) 5 answers refl [] [] (λ _. refl) (λ _. refl) c.answers old new _ n held.schema was.0
    was.1 w in
    in_layout Second (without_answers c) new.now at.1
    (wrote store_schema (stored c) (stored (without_answers c)) answers old.now new.now held now.2 w.sound (only_answers_in Second c []) (now.0
    ∙ ap (map answer_row) (none_left c.answers)) now.1)

pub removes_answers : (old new : State) (r : Result (Unit {0}) Error) → (HasCleanDisk new → Ran answers_text [] old new r)
    → Survives old new (CommitsBy answers_text [] old) → Takes (HoldsIn Second) (λ c. HoldsIn Second (without_answers c)) old new r
removes_answers = makes (HoldsIn Second) store_schema (schema_known Second) answers_text [] (Delete 5 (picking 8 [])) answers_is answers_plain refl answers_edit
    (λ c. HoldsIn Second (without_answers c)) answers_gone
