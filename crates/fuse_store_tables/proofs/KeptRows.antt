-- The statements on the table of records.
use Rattle.std.proofs.Common.{◌≡◌, ℕ, pos, List, [], ◌∷◌, map, codes, true, false, ◌&&◌, Some, None, Ok, Err, Result}
use Rattle.std.proofs.Common.{OnOk, IfOk, IfErr, refl, sym, ap, subst, ◌∙◌}
use Rattle.std.specs.List.{list_all}
use Rattle.std.specs.Option.{option_to_list}
use Rattle.std.specs.Ordering.{is_eq}
use Rattle.std.specs.List.Sorted.{IsPermutation}
use Rattle.sqlite.specs.declared.types.Value.TheVariants.{Null, Int, Blob}
use Rattle.sqlite.specs.Order.{Row}
use Rattle.sqlite_trees.specs.Tree.{IsTable, put_row}
use Rattle.sqlite_trees.proofs.TreeLemmas.{IsTable-put_row}
use Rattle.sqlite_value.specs.declared.keys.Collation.TheVariants.{Binary}
use Rattle.sqlite_sql.specs.declared.ops.BinaryOp.TheVariants.{Compare}
use Rattle.sqlite_sql.specs.declared.ops.CompareOp.TheVariants.{Eq}
use Rattle.sqlite_sql.specs.Ops.{binary, is_true, from_truth}
use Rattle.sqlite.specs.Term.{Term, lit, col, op2, holds}
use Rattle.sqlite.specs.Program.{overlay}
use Rattle.sqlite.specs.Source.TheVariants.{Values}
use Rattle.sqlite.specs.Command.TheVariants.{Insert, Delete, Select}
use Rattle.sqlite_rules.specs.Cast.{cast_row}
use Rattle.sqlite_tied.specs.Compute.{everything}
use Rattle.sqlite.specs.declared.error.Error.{Error}
use Rattle.sqlite_rules.specs.Edit.{is_taken}
use Rattle.sqlite.specs.Listing.{understood, reads_listing}
use Rattle.sqlite.specs.State.{State, HasCleanDisk, Survives, CommitsBy, Writes, Shown, FailsToQuery, CommitsShowing}
use Rattle.sqlite.proofs.Callers.{IsPlain, command_of, statement_of}
use Rattle.fuse_store_tables.specs.Layout.{kept, schema_for}
use Rattle.fuse_store_tables.specs.Content.{Content, Kept, Holds, stored, put_by, has_by, at_by, kept_key, kept_row, shown_kept, put_kept, without_kept}
use Rattle.fuse_store_tables.specs.Moves.{Inside, Rests, Makes, Serves}
use Rattle.fuse_store_tables.specs.inner.Performing.{Ran}
use Rattle.fuse_store_tables.proofs.Tables.{wrote, quiet, only_kept}
use Rattle.fuse_store_tables.proofs.Keyed.{put_rows, row_cmp_nat, found_rows, none_taken}
use Rattle.fuse_store_tables.proofs.RowLemmas.{cast_int, cast_null, inserted}
use Rattle.fuse_store_tables.proofs.Reading.{plain_query, answered, only, truth_of}
use Rattle.fuse_store_tables.proofs.Deletes.{picking, picks}
use Rattle.sqlite_resolve.specs.Compile.{first}
use Rattle.fuse_store_tables.proofs.Edits.{IsEditText}
use Rattle.fuse_store_tables.proofs.Queries.{IsSelectText}
use Rattle.fuse_store_tables.specs.declared.version.Layout.{Layout}
use Rattle.fuse_store_tables.specs.declared.version.Layout.TheVariants.{Second, Third}
use Rattle.fuse_store_tables.proofs.Laid.{looks_laid, makes_laid, peeks_laid, read_held_laid, told_before_laid}
use Rattle.fuse_store_tables.proofs.Tables.{kept_at, kept_listed, laid}

-- ---- a new row

abbrev pub insert_text : List ℕ
insert_text = codes "INSERT INTO kept (id, lot, errno, body) VALUES (?1, ?2, ?3, ?4)"

abbrev insert_terms : List Term
insert_terms = col 0 0 ∷ lit Null ∷ col 0 1 ∷ col 0 2 ∷ col 0 3 ∷ []

insert_is : (l : Layout) → command_of (understood (schema_for l) insert_text) ≡ Insert (kept_at l) (Values insert_terms 5)
unfolding understood everything
insert_is Second = refl
insert_is Third = refl

insert_plain : (l : Layout) → IsPlain (understood (schema_for l) insert_text)
unfolding understood everything
insert_plain Second = (refl, refl)
insert_plain Third = (refl, refl)

pub insert_edit : IsEditText (first insert_text)
unfolding first everything
insert_edit = tt

abbrev pub given : Kept → Row
given x = Int (pos x.id) ∷ Int (pos x.lot) ∷ Int (pos x.said.errno) ∷ Blob x.said.body ∷ []

pub cast_as : (x : Kept) → cast_row kept (kept_row x) ≡ kept_row x
cast_as x = rw (cast_int (pos x.id), cast_int (pos x.lot), cast_int (pos x.said.errno), cast_null)

inserts : (x : Kept) (c : Content) (old new : State) (n : ℕ) → Holds c old.now → Writes old new None (Insert (kept_at c.layout) (Values insert_terms 5))
    (statement_of insert_text (understood (schema_for c.layout) insert_text)) (given x) n
    → Holds (put_kept x c) new.now
inserts x c old new n at w =
    let put = inserted (schema_for c.layout) (kept_at c.layout) kept (kept_listed c.layout) insert_terms 5 old new _ (given x) n (kept_row x) (λ keys news. quiet c.layout keys 10 [] news) (ap (λ r. r
    ∷ []) (cast_as x)) at.schema w in
    let was = (laid c old.now at).kept in
    wrote (schema_for c.layout) (stored c) (stored (put_kept x c)) kept old.now new.now at put.spares w.sound (only_kept c (put_by kept_key x c.kept))
    (put.rows ∙ ap (put_row (kept_row x)) was.0 ∙ put_rows kept_key kept_row (λ _. refl) x c.kept)
    (subst IsTable (sym put.rows) (IsTable-put_row (kept_row x) (old.now.trees 10) was.1))

pub adds : (x : Kept) (old new : State) (r : Result (Unit {0}) Error) → (HasCleanDisk new → Ran insert_text (given x) old new r)
    → Survives old new (CommitsBy insert_text (given x) old) → Makes (put_kept x) old new r
adds x = makes_laid insert_text (given x) (λ l. Insert (kept_at l) (Values insert_terms 5)) insert_is insert_plain (λ _. refl) insert_edit
    (λ c. Holds (put_kept x c)) (inserts x)

-- its key was not there
fresh : (x : Kept) (c : Content) (old new : State) (n : ℕ) → Holds c old.now → Writes old new None (Insert (kept_at c.layout) (Values insert_terms 5))
    (statement_of insert_text (understood (schema_for c.layout) insert_text)) (given x) n
    → at_by kept_key x.id c.kept ≡ None
fresh x c old new n at w =
    let put = inserted (schema_for c.layout) (kept_at c.layout) kept (kept_listed c.layout) insert_terms 5 old new _ (given x) n (kept_row x) (λ keys news. quiet c.layout keys 10 [] news) (ap (λ r. r
    ∷ []) (cast_as x)) at.schema w in
    none_taken kept_key kept_row (λ _. refl) x c.kept (subst (λ rows. is_taken rows (kept_row x) ≡ false) (laid c old.now at).kept.0 put.free)

pub adds_new : (x : Kept) (old new : State) (r : Result (Unit {0}) Error) → (HasCleanDisk new → Ran insert_text (given x) old new r) → HasCleanDisk new
    → OnOk r ((c : Content) → Inside c old → at_by kept_key x.id c.kept ≡ None)
adds_new x = told_before_laid insert_text (given x) (λ l. Insert (kept_at l) (Values insert_terms 5)) insert_is insert_plain (λ _. refl)
    (λ c. at_by kept_key x.id c.kept ≡ None) (fresh x)

-- ---- by the key

abbrev pub key_terms : List Term
key_terms = op2 (Compare Eq Binary) (col 1 0) (col 0 0) ∷ []

pub key_tests : (k : ℕ) (params : Row) (x : Kept) → list_all (holds ((Int (pos k) ∷ params) ∷ kept_row x ∷ [])) key_terms ≡ has_by kept_key k x
unfolding binary
key_tests k params x = ap (λ o. is_true (from_truth (Some (is_eq o))) && true) (row_cmp_nat (kept_key x) k) ∙ truth_of (has_by kept_key k x)

-- ---- a row gone

abbrev pub delete_text : List ℕ
delete_text = codes "DELETE FROM kept WHERE id = ?1"

delete_is : (l : Layout) → command_of (understood (schema_for l) delete_text) ≡ Delete (kept_at l) (picking 10 key_terms)
unfolding understood everything
delete_is Second = refl
delete_is Third = refl

delete_plain : (l : Layout) → IsPlain (understood (schema_for l) delete_text)
unfolding understood everything
delete_plain Second = (refl, refl)
delete_plain Third = (refl, refl)

pub delete_edit : IsEditText (first delete_text)
unfolding first everything
delete_edit = tt

gone : (k : ℕ) (c : Content) (old new : State) (n : ℕ) → Holds c old.now → Writes old new None (Delete (kept_at c.layout) (picking 10 key_terms)) (statement_of delete_text
    (understood (schema_for c.layout) delete_text)) (Int (pos k) ∷ []) n
    → Holds (without_kept k c) new.now
gone k c old new n at w =
    let was = (laid c old.now at).kept in
    let now = picks c.layout kept_key kept_row (λ _. refl) (has_by kept_key k) (kept_at c.layout) kept (kept_listed c.layout) key_terms (Int (pos k) ∷ []) (key_tests k []) (λ _. refl) c.kept old new _ n
    at.schema was.0 was.1 w in
    wrote (schema_for c.layout) (stored c) (stored (without_kept k c)) kept old.now new.now at now.2 w.sound (only_kept c _) now.0 now.1

pub removes : (k : ℕ) (old new : State) (r : Result (Unit {0}) Error) → (HasCleanDisk new → Ran delete_text (Int (pos k) ∷ []) old new r)
    → Survives old new (CommitsBy delete_text (Int (pos k) ∷ []) old) → Makes (without_kept k) old new r
removes k = makes_laid delete_text (Int (pos k) ∷ []) (λ l. Delete (kept_at l) (picking 10 key_terms)) delete_is delete_plain (λ _. refl) delete_edit
    (λ c. Holds (without_kept k c)) (gone k)

-- ---- a row read

abbrev pub select_text : List ℕ
select_text = codes "SELECT errno, body FROM kept WHERE id = ?1"

abbrev select_terms : List Term
select_terms = col 1 3 ∷ col 1 4 ∷ []

select_is : (l : Layout) → command_of (understood (schema_for l) select_text) ≡ Select (record { lets = []; body = plain_query 10 key_terms select_terms }) (codes "errno"
    ∷ codes "body" ∷ [])
unfolding understood everything
select_is Second = refl
select_is Third = refl

select_plain : (l : Layout) → IsPlain (understood (schema_for l) select_text)
unfolding understood everything
select_plain Second = (refl, refl)
select_plain Third = (refl, refl)

pub select_reads : IsSelectText (first select_text)
unfolding first everything
select_reads = (_, refl)

select_unlisted : (l : Layout) → reads_listing (schema_for l) select_text ≡ false
unfolding understood everything
select_unlisted Second = refl
select_unlisted Third = refl

finds : (k : ℕ) (c : Content) (old new : State) (rows : List Row) → Holds c old.now → Shown select_text (Int (pos k) ∷ []) old new rows
    → rows ≡ map shown_kept (option_to_list (at_by kept_key k c.kept))
finds k c old new rows at h =
    let params = Int (pos k) ∷ [] in
    let was = (laid c old.now at).kept in
    let answer = (read_held_laid select_text params _ select_is select_plain select_unlisted c old new rows at h).answer
    Null in
    let same = answered kept_row (has_by kept_key k) Null (overlay old.now.trees []) key_terms params (key_tests k []) 10 select_terms c.kept rows was.0
    answer in
    only (at_by kept_key k c.kept) shown_kept rows (subst (λ xs. IsPermutation (map shown_kept xs) rows) (found_rows kept_key kept_row (λ _. refl) k c.kept
    (subst IsTable was.0 was.1)) same)

pub look_makes : {X : Type 0} (items : X → List Row) (k : ℕ) (old new : State) (r : Result X Error)
    → (HasCleanDisk new → IfOk r (λ x. Shown select_text (Int (pos k) ∷ []) old new (items x)))
    → (HasCleanDisk new → IfErr r (FailsToQuery select_text (Int (pos k) ∷ []) old new)) → Survives old new (CommitsShowing select_text (Int (pos k) ∷ []) old)
    → Makes (λ c. c) old new r
look_makes items k = looks_laid select_text (Int (pos k) ∷ []) _ select_is select_plain select_reads items

pub look_finds : {X : Type 0} (items : X → List Row) (k : ℕ) (old new : State) (r : Result X Error)
    → (HasCleanDisk new → IfOk r (λ x. Shown select_text (Int (pos k) ∷ []) old new (items x)))
    → HasCleanDisk new → IfOk r (λ x. (c : Content) → Inside c old → items x ≡ map shown_kept (option_to_list (at_by kept_key k c.kept)))
look_finds items k old new (Ok x) ok clean = λ c at. finds k c old new (items x) at.holds (ok clean)
look_finds items k old new (Err e) ok clean = tt

pub peek_serves : {X : Type 0} (items : X → List Row) (k : ℕ) (old new : State) (r : Result X Error)
    → (HasCleanDisk new → IfOk r (λ x. Shown select_text (Int (pos k) ∷ []) old new (items x)))
    → (HasCleanDisk new → IfErr r (FailsToQuery select_text (Int (pos k) ∷ []) old new)) → Survives old new (CommitsShowing select_text (Int (pos k) ∷ []) old)
    → Serves (λ c. c) old new r
peek_serves items k = peeks_laid select_text (Int (pos k) ∷ []) select_plain items

pub peek_finds : {X : Type 0} (items : X → List Row) (k : ℕ) (old new : State) (r : Result X Error)
    → (HasCleanDisk new → IfOk r (λ x. Shown select_text (Int (pos k) ∷ []) old new (items x)))
    → HasCleanDisk new → IfOk r (λ x. (c : Content) → Rests c old → items x ≡ map shown_kept (option_to_list (at_by kept_key k c.kept)))
peek_finds items k old new (Ok x) ok clean = λ c at. finds k c old new (items x) at.holds (ok clean)
peek_finds items k old new (Err e) ok clean = tt
