-- The statements on the table of records.
use Rattle.std.proofs.Common.{◌≡◌, ℕ, pos, List, [], ◌∷◌, map, codes, true, false, ◌&&◌, Some, None, Ok, Err, Result}
use Rattle.std.proofs.Common.{OnOk, IfOk, IfErr, refl, sym, ap, subst, ◌∙◌}
use Rattle.std.specs.List.{list_all}
use Rattle.std.specs.Option.{option_to_list}
use Rattle.std.specs.Ordering.{is_eq}
use Rattle.std.specs.List.Sorted.{IsPermutation}
use Rattle.sqlite.specs.declared.types.Value.TheVariants.{Null, Int, Blob}
use Rattle.sqlite.specs.Order.{Row}
use Rattle.sqlite_trees.specs.Tree.{IsTable, put_row}
use Rattle.sqlite_trees.proofs.TreeLemmas.{IsTable-put_row}
use Rattle.sqlite_value.specs.declared.keys.Collation.TheVariants.{Binary}
use Rattle.sqlite_sql.specs.declared.ops.BinaryOp.TheVariants.{Compare}
use Rattle.sqlite_sql.specs.declared.ops.CompareOp.TheVariants.{Eq}
use Rattle.sqlite_sql.specs.Ops.{binary, is_true, from_truth}
use Rattle.sqlite.specs.Term.{Term, lit, col, op2, holds}
use Rattle.sqlite.specs.Program.{overlay}
use Rattle.sqlite.specs.Source.TheVariants.{Values}
use Rattle.sqlite.specs.Command.TheVariants.{Insert, Delete, Select}
use Rattle.sqlite_rules.specs.Cast.{cast_row}
use Rattle.sqlite_tied.specs.Compute.{everything}
use Rattle.sqlite.specs.declared.error.Error.{Error}
use Rattle.sqlite_rules.specs.Edit.{is_taken}
use Rattle.sqlite.specs.Listing.{understood, reads_listing}
use Rattle.sqlite.specs.State.{State, HasCleanDisk, Survives, CommitsBy, Writes, Shown, FailsToQuery, CommitsShowing}
use Rattle.sqlite.proofs.Callers.{IsPlain, command_of, statement_of}
use Rattle.fuse_store_tables.specs.Content.{Kept, put_by, has_by, at_by, kept_key, kept_row, shown_kept}
use Rattle.fuse_store_tables.specs.inner.Performing.{Ran}
use Rattle.guest_tables.proofs.any_schema.Tables.{wrote}
use Rattle.guest_tables.proofs.any_schema.Keyed.{put_rows, row_cmp_nat, found_rows, none_taken}
use Rattle.guest_tables.proofs.any_schema.RowLemmas.{cast_int, cast_null, inserted}
use Rattle.guest_tables.proofs.any_schema.Reading.{plain_query, answered, only, truth_of}
use Rattle.sqlite_resolve.specs.Compile.{first}
use Rattle.guest_tables.proofs.any_schema.Edits.{IsEditText}
use Rattle.guest_tables.proofs.any_schema.Queries.{IsSelectText}
use Rattle.guest_tables.proofs.any_schema.Writing.{makes, told_before}
use Rattle.guest_tables.proofs.any_schema.Reading.{looks, read_held}
use Rattle.guest_tables.proofs.any_schema.Resting.{peeks}
use Rattle.guest_tables.specs.Layout.{guest_schema, kept_table}
use Rattle.guest_tables.specs.Content.{GuestContent, Holds, stored, put_kept, without_kept}
use Rattle.guest_tables.specs.Moves.{Inside, Rests, Makes, Serves}
use Rattle.guest_tables.proofs.Deletes.{picking, picks}
use Rattle.guest_tables.proofs.Tables.{kept_listed, laid, only_kept, quiet}

-- ---- a new row

abbrev pub insert_text : List ℕ
insert_text = codes "INSERT INTO kept (id, lot, errno, body) VALUES (?1, ?2, ?3, ?4)"

abbrev insert_terms : List Term
insert_terms = col 0 0 ∷ lit Null ∷ col 0 1 ∷ col 0 2 ∷ col 0 3 ∷ []

insert_is : command_of (understood guest_schema insert_text) ≡ Insert 3 (Values insert_terms 5)
unfolding understood everything
insert_is = refl

insert_plain : IsPlain (understood guest_schema insert_text)
unfolding understood everything
insert_plain = (refl, refl)

pub insert_edit : IsEditText (first insert_text)
unfolding first everything
insert_edit = tt

abbrev pub given : Kept → Row
given x = Int (pos x.id) ∷ Int (pos x.lot) ∷ Int (pos x.said.errno) ∷ Blob x.said.body ∷ []

pub cast_as : (x : Kept) → cast_row kept_table (kept_row x) ≡ kept_row x
cast_as x = rw (cast_int (pos x.id), cast_int (pos x.lot), cast_int (pos x.said.errno), cast_null)

inserts : (x : Kept) (c : GuestContent) (old new : State) (n : ℕ) → Holds c old.now → Writes old new None (Insert 3 (Values insert_terms 5))
    (statement_of insert_text (understood guest_schema insert_text)) (given x) n
    → Holds (put_kept x c) new.now
inserts x c old new n at w =
    let put = inserted guest_schema 3 kept_table kept_listed insert_terms 5 old new _ (given x) n (kept_row x) (λ keys news. quiet keys 4 [] news) (ap (λ r. r
    ∷ []) (cast_as x)) at.schema w in
    let was = (laid c old.now at).kept in
    wrote guest_schema (stored c) (stored (put_kept x c)) kept_table old.now new.now at put.spares w.sound (only_kept c (put_by kept_key x c.kept))
    (put.rows ∙ ap (put_row (kept_row x)) was.0 ∙ put_rows kept_key kept_row (λ _. refl) x c.kept)
    (subst IsTable (sym put.rows) (IsTable-put_row (kept_row x) (old.now.trees 4) was.1))

pub adds : (x : Kept) (old new : State) (r : Result (Unit {0}) Error) → (HasCleanDisk new → Ran insert_text (given x) old new r)
    → Survives old new (CommitsBy insert_text (given x) old) → Makes (put_kept x) old new r
adds x = makes Holds guest_schema (λ c d h. h.schema) insert_text (given x) (Insert 3 (Values insert_terms 5)) insert_is insert_plain refl insert_edit
    (λ c. Holds (put_kept x c)) (inserts x)

-- its key was not there
fresh : (x : Kept) (c : GuestContent) (old new : State) (n : ℕ) → Holds c old.now → Writes old new None (Insert 3 (Values insert_terms 5))
    (statement_of insert_text (understood guest_schema insert_text)) (given x) n
    → at_by kept_key x.id c.kept ≡ None
fresh x c old new n at w =
    let put = inserted guest_schema 3 kept_table kept_listed insert_terms 5 old new _ (given x) n (kept_row x) (λ keys news. quiet keys 4 [] news) (ap (λ r. r
    ∷ []) (cast_as x)) at.schema w in
    none_taken kept_key kept_row (λ _. refl) x c.kept (subst (λ rows. is_taken rows (kept_row x) ≡ false) (laid c old.now at).kept.0 put.free)

pub adds_new : (x : Kept) (old new : State) (r : Result (Unit {0}) Error) → (HasCleanDisk new → Ran insert_text (given x) old new r) → HasCleanDisk new
    → OnOk r ((c : GuestContent) → Inside c old → at_by kept_key x.id c.kept ≡ None)
adds_new x = told_before Holds guest_schema (λ c d h. h.schema) insert_text (given x) (Insert 3 (Values insert_terms 5)) insert_is insert_plain refl
    (λ c. at_by kept_key x.id c.kept ≡ None) (fresh x)

-- ---- by the key

abbrev pub key_terms : List Term
key_terms = op2 (Compare Eq Binary) (col 1 0) (col 0 0) ∷ []

pub key_tests : (k : ℕ) (params : Row) (x : Kept) → list_all (holds ((Int (pos k) ∷ params) ∷ kept_row x ∷ [])) key_terms ≡ has_by kept_key k x
unfolding binary
key_tests k params x = ap (λ o. is_true (from_truth (Some (is_eq o))) && true) (row_cmp_nat (kept_key x) k) ∙ truth_of (has_by kept_key k x)

-- ---- a row gone

abbrev pub delete_text : List ℕ
delete_text = codes "DELETE FROM kept WHERE id = ?1"

delete_is : command_of (understood guest_schema delete_text) ≡ Delete 3 (picking 4 key_terms)
unfolding understood everything
delete_is = refl

delete_plain : IsPlain (understood guest_schema delete_text)
unfolding understood everything
delete_plain = (refl, refl)

pub delete_edit : IsEditText (first delete_text)
unfolding first everything
delete_edit = tt

gone : (k : ℕ) (c : GuestContent) (old new : State) (n : ℕ) → Holds c old.now → Writes old new None (Delete 3 (picking 4 key_terms)) (statement_of delete_text
    (understood guest_schema delete_text)) (Int (pos k) ∷ []) n
    → Holds (without_kept k c) new.now
gone k c old new n at w =
    let was = (laid c old.now at).kept in
    let now = picks kept_key kept_row (λ _. refl) (has_by kept_key k) 3 kept_table kept_listed key_terms (Int (pos k) ∷ []) (key_tests k []) (λ _. refl) c.kept old new _ n
    at.schema was.0 was.1 w in
    wrote guest_schema (stored c) (stored (without_kept k c)) kept_table old.now new.now at now.2 w.sound (only_kept c _) now.0 now.1

pub removes : (k : ℕ) (old new : State) (r : Result (Unit {0}) Error) → (HasCleanDisk new → Ran delete_text (Int (pos k) ∷ []) old new r)
    → Survives old new (CommitsBy delete_text (Int (pos k) ∷ []) old) → Makes (without_kept k) old new r
removes k = makes Holds guest_schema (λ c d h. h.schema) delete_text (Int (pos k) ∷ []) (Delete 3 (picking 4 key_terms)) delete_is delete_plain refl delete_edit
    (λ c. Holds (without_kept k c)) (gone k)

-- ---- a row read

abbrev pub select_text : List ℕ
select_text = codes "SELECT errno, body FROM kept WHERE id = ?1"

abbrev select_terms : List Term
select_terms = col 1 3 ∷ col 1 4 ∷ []

select_is : command_of (understood guest_schema select_text) ≡ Select (record { lets = []; body = plain_query 4 key_terms select_terms }) (codes "errno"
    ∷ codes "body" ∷ [])
unfolding understood everything
select_is = refl

select_plain : IsPlain (understood guest_schema select_text)
unfolding understood everything
select_plain = (refl, refl)

pub select_reads : IsSelectText (first select_text)
unfolding first everything
select_reads = (_, refl)

select_unlisted : reads_listing guest_schema select_text ≡ false
unfolding understood everything
select_unlisted = refl

finds : (k : ℕ) (c : GuestContent) (old new : State) (rows : List Row) → Holds c old.now → Shown select_text (Int (pos k) ∷ []) old new rows
    → rows ≡ map shown_kept (option_to_list (at_by kept_key k c.kept))
finds k c old new rows at h =
    let params = Int (pos k) ∷ [] in
    let was = (laid c old.now at).kept in
    let answer = (read_held Holds guest_schema (λ c d h. h.schema) select_text params _ select_is select_plain select_unlisted c old new rows at h).answer
    Null in
    let same = answered kept_row (has_by kept_key k) Null (overlay old.now.trees []) key_terms params (key_tests k []) 4 select_terms c.kept rows was.0
    answer in
    only (at_by kept_key k c.kept) shown_kept rows (subst (λ xs. IsPermutation (map shown_kept xs) rows) (found_rows kept_key kept_row (λ _. refl) k c.kept
    (subst IsTable was.0 was.1)) same)

pub look_makes : {X : Type 0} (items : X → List Row) (k : ℕ) (old new : State) (r : Result X Error)
    → (HasCleanDisk new → IfOk r (λ x. Shown select_text (Int (pos k) ∷ []) old new (items x)))
    → (HasCleanDisk new → IfErr r (FailsToQuery select_text (Int (pos k) ∷ []) old new)) → Survives old new (CommitsShowing select_text (Int (pos k) ∷ []) old)
    → Makes (λ c. c) old new r
look_makes items k = looks Holds guest_schema (λ c d h. h.schema) select_text (Int (pos k) ∷ []) _ select_is select_plain select_reads items

pub look_finds : {X : Type 0} (items : X → List Row) (k : ℕ) (old new : State) (r : Result X Error)
    → (HasCleanDisk new → IfOk r (λ x. Shown select_text (Int (pos k) ∷ []) old new (items x)))
    → HasCleanDisk new → IfOk r (λ x. (c : GuestContent) → Inside c old → items x ≡ map shown_kept (option_to_list (at_by kept_key k c.kept)))
look_finds items k old new (Ok x) ok clean = λ c at. finds k c old new (items x) at.holds (ok clean)
look_finds items k old new (Err e) ok clean = tt

pub peek_serves : {X : Type 0} (items : X → List Row) (k : ℕ) (old new : State) (r : Result X Error)
    → (HasCleanDisk new → IfOk r (λ x. Shown select_text (Int (pos k) ∷ []) old new (items x)))
    → (HasCleanDisk new → IfErr r (FailsToQuery select_text (Int (pos k) ∷ []) old new)) → Survives old new (CommitsShowing select_text (Int (pos k) ∷ []) old)
    → Serves (λ c. c) old new r
peek_serves items k = peeks Holds (λ _. guest_schema) (λ c d h. h.schema) select_text (Int (pos k) ∷ []) (λ _. select_plain) items

pub peek_finds : {X : Type 0} (items : X → List Row) (k : ℕ) (old new : State) (r : Result X Error)
    → (HasCleanDisk new → IfOk r (λ x. Shown select_text (Int (pos k) ∷ []) old new (items x)))
    → HasCleanDisk new → IfOk r (λ x. (c : GuestContent) → Rests c old → items x ≡ map shown_kept (option_to_list (at_by kept_key k c.kept)))
peek_finds items k old new (Ok x) ok clean = λ c at. finds k c old new (items x) at.holds (ok clean)
peek_finds items k old new (Err e) ok clean = tt
