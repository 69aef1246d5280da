-- The statements that take all rows out of a table.
use Rattle.std.proofs.Common.{◌≡◌, ℕ, List, [], ◌∷◌, map, filter, codes, true, not, None, Result, refl, ap, ◌∙◌}
use Rattle.sqlite.specs.Command.TheVariants.{Delete}
use Rattle.sqlite_tied.specs.Compute.{everything}
use Rattle.sqlite.specs.declared.error.Error.{Error}
use Rattle.sqlite.specs.Listing.{understood}
use Rattle.sqlite.specs.State.{State, HasCleanDisk, Survives, CommitsBy, Writes}
use Rattle.sqlite.proofs.Callers.{IsPlain, command_of, statement_of}
use Rattle.sqlite_resolve.specs.Compile.{first}
use Rattle.fuse_store_tables.specs.Content.{kept_key, lot_row, kept_row}
use Rattle.fuse_store_tables.specs.inner.Performing.{Ran}
use Rattle.guest_tables.proofs.any_schema.Edits.{IsEditText}
use Rattle.guest_tables.proofs.any_schema.Tables.{wrote}
use Rattle.guest_tables.proofs.any_schema.Writing.{makes}
use Rattle.guest_tables.specs.Layout.{guest_schema, lot_table, kept_table}
use Rattle.guest_tables.specs.Content.{GuestContent, Holds, stored}
use Rattle.guest_tables.specs.Moves.{Makes}
use Rattle.guest_tables.specs.inner.Steps.{without_lots, without_all_kept}
use Rattle.guest_tables.proofs.Deletes.{picking, picks}
use Rattle.guest_tables.proofs.Tables.{laid, kept_listed, lots_listed, only_kept, only_lots}

none_left : {X : Type 0} (xs : List X) → filter (λ x. not true) xs ≡ []
none_left [] = refl
none_left (x ∷ xs) = none_left xs

-- ---- every record

abbrev pub kept_text : List ℕ
kept_text = codes "DELETE FROM kept"

kept_is : command_of (understood guest_schema kept_text) ≡ Delete 3 (picking 4 [])
unfolding understood everything
kept_is = refl

kept_plain : IsPlain (understood guest_schema kept_text)
unfolding understood everything
kept_plain = (refl, refl)

pub kept_edit : IsEditText (first kept_text)
unfolding first everything
kept_edit = tt

kept_gone : (c : GuestContent) (old new : State) (n : ℕ) → Holds c old.now → Writes old new None (Delete 3 (picking 4 [])) (statement_of kept_text
    (understood guest_schema kept_text)) [] n → Holds (without_all_kept c) new.now
kept_gone c old new n at w =
    let was = (laid c old.now at).kept in
    let now = picks kept_key kept_row (λ _. refl) (λ _. true) 3 kept_table kept_listed [] [] (λ _. refl) (λ _. refl) c.kept old new _ n at.schema was.0 was.1 w in
    wrote guest_schema (stored c) (stored (without_all_kept c)) kept_table old.now new.now at now.2 w.sound (only_kept c []) (now.0
    ∙ ap (map kept_row) (none_left c.kept)) now.1

pub removes_all_kept : (old new : State) (r : Result (Unit {0}) Error) → (HasCleanDisk new → Ran kept_text [] old new r)
    → Survives old new (CommitsBy kept_text [] old) → Makes without_all_kept old new r
removes_all_kept = makes Holds guest_schema (λ c d h. h.schema) kept_text [] (Delete 3 (picking 4 [])) kept_is kept_plain refl kept_edit
    (λ c. Holds (without_all_kept c)) kept_gone

-- ---- every lot

abbrev pub lots_text : List ℕ
lots_text = codes "DELETE FROM lots"

lots_is : command_of (understood guest_schema lots_text) ≡ Delete 2 (picking 3 [])
unfolding understood everything
lots_is = refl

lots_plain : IsPlain (understood guest_schema lots_text)
unfolding understood everything
lots_plain = (refl, refl)

pub lots_edit : IsEditText (first lots_text)
unfolding first everything
lots_edit = tt

lots_gone : (c : GuestContent) (old new : State) (n : ℕ) → Holds c old.now → Writes old new None (Delete 2 (picking 3 []))
    (statement_of lots_text (understood guest_schema lots_text)) [] n → Holds (without_lots c) new.now
lots_gone c old new n at w =
    let was = (laid c old.now at).lots in
    let now = picks (λ l. l) lot_row (λ _. refl) (λ _. true) 2 lot_table lots_listed [] [] (λ _. refl) (λ _. refl) c.lots old new _ n at.schema was.0 was.1 w in
    wrote guest_schema (stored c) (stored (without_lots c)) lot_table old.now new.now at now.2 w.sound (only_lots c []) (now.0 ∙ ap (map lot_row) (none_left c.lots))
    now.1

pub removes_all_lots : (old new : State) (r : Result (Unit {0}) Error) → (HasCleanDisk new → Ran lots_text [] old new r)
    → Survives old new (CommitsBy lots_text [] old) → Makes without_lots old new r
removes_all_lots = makes Holds guest_schema (λ c d h. h.schema) lots_text [] (Delete 2 (picking 3 [])) lots_is lots_plain refl lots_edit (λ c. Holds (without_lots c))
    lots_gone
