-- The statements on the table of lots.
use Rattle.std.proofs.Common.{◌≡◌, ℕ, pos, List, [], ◌∷◌, codes, None, Result}
use Rattle.std.proofs.Common.{false, OnOk, refl, sym, ap, subst, ◌∙◌}
use Rattle.sqlite.specs.declared.types.Value.TheVariants.{Null, Int}
use Rattle.sqlite.specs.Order.{Row}
use Rattle.sqlite_trees.specs.Tree.{IsTable, put_row}
use Rattle.sqlite_trees.proofs.TreeLemmas.{IsTable-put_row}
use Rattle.sqlite.specs.Term.{Term, lit, col}
use Rattle.sqlite.specs.Source.TheVariants.{Values}
use Rattle.sqlite.specs.Command.TheVariants.{Insert}
use Rattle.sqlite_rules.specs.Cast.{cast_row}
use Rattle.sqlite_tied.specs.Compute.{everything}
use Rattle.sqlite.specs.declared.error.Error.{Error}
use Rattle.sqlite_rules.specs.Edit.{is_taken}
use Rattle.sqlite.specs.Listing.{understood}
use Rattle.sqlite.specs.State.{State, HasCleanDisk, Survives, CommitsBy, Writes}
use Rattle.sqlite.proofs.Callers.{IsPlain, command_of, statement_of}
use Rattle.fuse_store_tables.specs.Content.{put_by, at_by, lot_row}
use Rattle.fuse_store_tables.specs.inner.Performing.{Ran}
use Rattle.guest_tables.proofs.any_schema.Tables.{wrote}
use Rattle.guest_tables.proofs.any_schema.Keyed.{put_rows, none_taken}
use Rattle.guest_tables.proofs.any_schema.RowLemmas.{cast_int, cast_null, inserted}
use Rattle.sqlite_resolve.specs.Compile.{first}
use Rattle.guest_tables.proofs.any_schema.Edits.{IsEditText}
use Rattle.guest_tables.proofs.any_schema.Writing.{makes, told_before}
use Rattle.guest_tables.specs.Layout.{guest_schema, lot_table}
use Rattle.guest_tables.specs.Content.{GuestContent, Holds, stored, with_lot}
use Rattle.guest_tables.specs.Moves.{Inside, Makes}
use Rattle.guest_tables.proofs.Tables.{laid, lots_listed, only_lots, quiet}

-- ---- a new row

abbrev pub insert_text : List ℕ
insert_text = codes "INSERT INTO lots (lot) VALUES (?1)"

abbrev insert_terms : List Term
insert_terms = col 0 0 ∷ lit Null ∷ []

insert_is : command_of (understood guest_schema insert_text) ≡ Insert 2 (Values insert_terms 2)
unfolding understood everything
insert_is = refl

insert_plain : IsPlain (understood guest_schema insert_text)
unfolding understood everything
insert_plain = (refl, refl)

pub insert_edit : IsEditText (first insert_text)
unfolding first everything
insert_edit = tt

abbrev pub given : ℕ → Row
given x = Int (pos x) ∷ []

pub cast_as : (x : ℕ) → cast_row lot_table (lot_row x) ≡ lot_row x
cast_as x = rw (cast_int (pos x), cast_null)

inserts : (x : ℕ) (c : GuestContent) (old new : State) (n : ℕ) → Holds c old.now → Writes old new None (Insert 2 (Values insert_terms 2)) (statement_of insert_text
    (understood guest_schema insert_text)) (given x) n
    → Holds (with_lot x c) new.now
inserts x c old new n at w =
    let put = inserted guest_schema 2 lot_table lots_listed insert_terms 2 old new _ (given x) n (lot_row x) (λ keys news. quiet keys 3 [] news) (ap (λ r. r
    ∷ []) (cast_as x)) at.schema w in
    let was = (laid c old.now at).lots in
    wrote guest_schema (stored c) (stored (with_lot x c)) lot_table old.now new.now at put.spares w.sound (only_lots c (put_by (λ n. n) x c.lots))
    (put.rows ∙ ap (put_row (lot_row x)) was.0 ∙ put_rows (λ n. n) lot_row (λ _. refl) x c.lots)
    (subst IsTable (sym put.rows) (IsTable-put_row (lot_row x) (old.now.trees 3) was.1))

pub adds : (x : ℕ) (old new : State) (r : Result (Unit {0}) Error) → (HasCleanDisk new → Ran insert_text (given x) old new r)
    → Survives old new (CommitsBy insert_text (given x) old) → Makes (with_lot x) old new r
adds x = makes Holds guest_schema (λ c d h. h.schema) insert_text (given x) (Insert 2 (Values insert_terms 2)) insert_is insert_plain refl insert_edit
    (λ c. Holds (with_lot x c)) (inserts x)

-- its key was not there
fresh : (x : ℕ) (c : GuestContent) (old new : State) (n : ℕ) → Holds c old.now → Writes old new None (Insert 2 (Values insert_terms 2))
    (statement_of insert_text (understood guest_schema insert_text)) (given x) n
    → at_by (λ n. n) x c.lots ≡ None
fresh x c old new n at w =
    let put = inserted guest_schema 2 lot_table lots_listed insert_terms 2 old new _ (given x) n (lot_row x) (λ keys news. quiet keys 3 [] news) (ap (λ r. r
    ∷ []) (cast_as x)) at.schema w in
    none_taken (λ n. n) lot_row (λ _. refl) x c.lots (subst (λ rows. is_taken rows (lot_row x) ≡ false) (laid c old.now at).lots.0 put.free)

pub adds_new : (x : ℕ) (old new : State) (r : Result (Unit {0}) Error) → (HasCleanDisk new → Ran insert_text (given x) old new r) → HasCleanDisk new
    → OnOk r ((c : GuestContent) → Inside c old → at_by (λ n. n) x c.lots ≡ None)
adds_new x = told_before Holds guest_schema (λ c d h. h.schema) insert_text (given x) (Insert 2 (Values insert_terms 2)) insert_is insert_plain refl
    (λ c. at_by (λ n. n) x c.lots ≡ None) (fresh x)
