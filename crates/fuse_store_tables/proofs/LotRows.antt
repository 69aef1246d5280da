-- The statements on the table of lots.
use Rattle.std.proofs.Common.{◌≡◌, ℕ, pos, List, [], ◌∷◌, codes, None, Result}
use Rattle.std.proofs.Common.{false, OnOk, refl, sym, ap, subst, ◌∙◌}
use Rattle.sqlite.specs.declared.types.Value.TheVariants.{Null, Int}
use Rattle.sqlite.specs.Order.{Row}
use Rattle.sqlite_trees.specs.Tree.{IsTable, put_row}
use Rattle.sqlite_trees.proofs.TreeLemmas.{IsTable-put_row}
use Rattle.sqlite.specs.Term.{Term, lit, col}
use Rattle.sqlite.specs.Source.TheVariants.{Values}
use Rattle.sqlite.specs.Command.TheVariants.{Insert}
use Rattle.sqlite_rules.specs.Cast.{cast_row}
use Rattle.sqlite_tied.specs.Compute.{everything}
use Rattle.sqlite.specs.declared.error.Error.{Error}
use Rattle.sqlite_rules.specs.Edit.{is_taken}
use Rattle.sqlite.specs.Listing.{understood}
use Rattle.sqlite.specs.State.{State, HasCleanDisk, Survives, CommitsBy, Writes}
use Rattle.sqlite.proofs.Callers.{IsPlain, command_of, statement_of}
use Rattle.fuse_store_tables.specs.Layout.{lots, schema_for}
use Rattle.fuse_store_tables.specs.Content.{Content, Holds, stored, put_by, at_by, lot_row, with_lot}
use Rattle.fuse_store_tables.specs.Moves.{Inside, Makes}
use Rattle.fuse_store_tables.specs.inner.Performing.{Ran}
use Rattle.fuse_store_tables.proofs.Tables.{wrote, quiet, only_lots}
use Rattle.fuse_store_tables.proofs.Keyed.{put_rows, none_taken}
use Rattle.fuse_store_tables.proofs.RowLemmas.{cast_int, cast_null, inserted}
use Rattle.sqlite_resolve.specs.Compile.{first}
use Rattle.fuse_store_tables.proofs.Edits.{IsEditText}
use Rattle.fuse_store_tables.specs.declared.version.Layout.{Layout}
use Rattle.fuse_store_tables.specs.declared.version.Layout.TheVariants.{Second, Third}
use Rattle.fuse_store_tables.proofs.Laid.{makes_laid, told_before_laid}
use Rattle.fuse_store_tables.proofs.Tables.{lots_at, laid, lots_listed}

-- ---- a new row

abbrev pub insert_text : List ℕ
insert_text = codes "INSERT INTO lots (lot) VALUES (?1)"

abbrev insert_terms : List Term
insert_terms = col 0 0 ∷ lit Null ∷ []

insert_is : (l : Layout) → command_of (understood (schema_for l) insert_text) ≡ Insert (lots_at l) (Values insert_terms 2)
unfolding understood everything
insert_is Second = refl
insert_is Third = refl

insert_plain : (l : Layout) → IsPlain (understood (schema_for l) insert_text)
unfolding understood everything
insert_plain Second = (refl, refl)
insert_plain Third = (refl, refl)

pub insert_edit : IsEditText (first insert_text)
unfolding first everything
insert_edit = tt

abbrev pub given : ℕ → Row
given x = Int (pos x) ∷ []

pub cast_as : (x : ℕ) → cast_row lots (lot_row x) ≡ lot_row x
cast_as x = rw (cast_int (pos x), cast_null)

inserts : (x : ℕ) (c : Content) (old new : State) (n : ℕ) → Holds c old.now → Writes old new None (Insert (lots_at c.layout) (Values insert_terms 2)) (statement_of insert_text
    (understood (schema_for c.layout) insert_text)) (given x) n
    → Holds (with_lot x c) new.now
inserts x c old new n at w =
    let put = inserted (schema_for c.layout) (lots_at c.layout) lots (lots_listed c.layout) insert_terms 2 old new _ (given x) n (lot_row x) (λ keys news. quiet c.layout keys 9 [] news) (ap (λ r. r
    ∷ []) (cast_as x)) at.schema w in
    let was = (laid c old.now at).lots in
    wrote (schema_for c.layout) (stored c) (stored (with_lot x c)) lots old.now new.now at put.spares w.sound (only_lots c (put_by (λ n. n) x c.lots))
    (put.rows ∙ ap (put_row (lot_row x)) was.0 ∙ put_rows (λ n. n) lot_row (λ _. refl) x c.lots)
    (subst IsTable (sym put.rows) (IsTable-put_row (lot_row x) (old.now.trees 9) was.1))

pub adds : (x : ℕ) (old new : State) (r : Result (Unit {0}) Error) → (HasCleanDisk new → Ran insert_text (given x) old new r)
    → Survives old new (CommitsBy insert_text (given x) old) → Makes (with_lot x) old new r
adds x = makes_laid insert_text (given x) (λ l. Insert (lots_at l) (Values insert_terms 2)) insert_is insert_plain (λ _. refl) insert_edit
    (λ c. Holds (with_lot x c)) (inserts x)

-- its key was not there
fresh : (x : ℕ) (c : Content) (old new : State) (n : ℕ) → Holds c old.now → Writes old new None (Insert (lots_at c.layout) (Values insert_terms 2))
    (statement_of insert_text (understood (schema_for c.layout) insert_text)) (given x) n
    → at_by (λ n. n) x c.lots ≡ None
fresh x c old new n at w =
    let put = inserted (schema_for c.layout) (lots_at c.layout) lots (lots_listed c.layout) insert_terms 2 old new _ (given x) n (lot_row x) (λ keys news. quiet c.layout keys 9 [] news) (ap (λ r. r
    ∷ []) (cast_as x)) at.schema w in
    none_taken (λ n. n) lot_row (λ _. refl) x c.lots (subst (λ rows. is_taken rows (lot_row x) ≡ false) (laid c old.now at).lots.0 put.free)

pub adds_new : (x : ℕ) (old new : State) (r : Result (Unit {0}) Error) → (HasCleanDisk new → Ran insert_text (given x) old new r) → HasCleanDisk new
    → OnOk r ((c : Content) → Inside c old → at_by (λ n. n) x c.lots ≡ None)
adds_new x = told_before_laid insert_text (given x) (λ l. Insert (lots_at l) (Values insert_terms 2)) insert_is insert_plain (λ _. refl)
    (λ c. at_by (λ n. n) x c.lots ≡ None) (fresh x)
