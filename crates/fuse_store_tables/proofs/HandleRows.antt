-- The statements on the table of handles.
use Rattle.std.proofs.Common.{◌≡◌, ℕ, pos, List, [], ◌∷◌, map, take, filter, codes, true, false, ◌&&◌, Some, None, Ok, Err, Result}
use Rattle.std.proofs.Common.{OnOk, IfOk, IfErr, refl, sym, ap, subst, ◌∙◌}
use Rattle.std.specs.List.{list_all}
use Rattle.std.specs.Option.{option_to_list}
use Rattle.std.specs.Ordering.{is_eq}
use Rattle.std.specs.List.Sorted.{IsPermutation}
use Rattle.sqlite.specs.declared.types.Value.TheVariants.{Null, Int}
use Rattle.sqlite.specs.Order.{Row}
use Rattle.sqlite_trees.specs.Tree.{IsTable, put_row}
use Rattle.sqlite_trees.proofs.TreeLemmas.{IsTable-put_row}
use Rattle.sqlite_value.specs.declared.keys.Collation.TheVariants.{Binary}
use Rattle.sqlite_sql.specs.declared.ops.BinaryOp.TheVariants.{Compare}
use Rattle.sqlite_sql.specs.declared.ops.CompareOp.TheVariants.{Eq}
use Rattle.sqlite_sql.specs.Ops.{binary, is_true, from_truth}
use Rattle.sqlite.specs.Term.{Term, lit, col, op2, holds}
use Rattle.sqlite.specs.Program.{overlay}
use Rattle.sqlite.specs.Source.TheVariants.{Values}
use Rattle.sqlite.specs.Command.TheVariants.{Insert, Delete, Select}
use Rattle.sqlite_rules.specs.Cast.{cast_row}
use Rattle.sqlite_tied.specs.Compute.{everything}
use Rattle.sqlite.specs.declared.error.Error.{Error}
use Rattle.sqlite_rules.specs.Edit.{is_taken}
use Rattle.sqlite.specs.Listing.{understood, reads_listing}
use Rattle.sqlite.specs.State.{State, HasCleanDisk, Survives, CommitsBy, Writes, Shown, FailsToQuery, CommitsShowing}
use Rattle.sqlite.proofs.Callers.{IsPlain, command_of, statement_of}
use Rattle.fuse_store_tables.specs.Layout.{schema_for}
use Rattle.fuse_store_tables.specs.Content.{Content, Holds, stored, put_by, has_by, at_by, fh_of, access_code, handle_row, shown_handle, with_handle}
use Rattle.fuse_store_tables.specs.Content.{without_handle, shown_open, is_handle_of}
use Rattle.fuse_store_tables.specs.Moves.{Inside, Makes}
use Rattle.fuse_store_tables.specs.inner.Performing.{Ran}
use Rattle.fuse_store_tables.proofs.Tables.{wrote, quiet, only_handles}
use Rattle.fuse_store_tables.proofs.Keyed.{put_rows, row_cmp_nat, found_rows, none_taken}
use Rattle.fuse_store_tables.proofs.RowLemmas.{cast_int, cast_null, inserted}
use Rattle.fuse_store_tables.proofs.Reading.{plain_query, answered, only, truth_of}
use Rattle.fuse_store_tables.proofs.Deletes.{picking, picks}
use Rattle.fuse_store_tables.proofs.Ordered.{ordered_query, answered_in_order, rises_from}
use Rattle.fuse_rows.specs.declared.rows.HandleRow.{HandleRow}
use Rattle.sqlite_resolve.specs.Compile.{first}
use Rattle.fuse_store_tables.proofs.Edits.{IsEditText}
use Rattle.fuse_store_tables.proofs.Queries.{IsSelectText}
use Rattle.fuse_store_tables.specs.declared.version.Layout.{Layout}
use Rattle.fuse_store_tables.specs.declared.version.Layout.TheVariants.{Second, Third}
use Rattle.fuse_store_tables.proofs.Laid.{looks_laid, makes_laid, read_laid, told_before_laid}
use Rattle.fuse_store_tables.proofs.Tables.{handles_for, handles_listed, laid}

-- ---- a new row

abbrev pub insert_text : List ℕ
insert_text = codes "INSERT INTO handles (fh, node, access) VALUES (?1, ?2, ?3)"

abbrev insert_terms : List Term
insert_terms = col 0 0 ∷ lit Null ∷ col 0 1 ∷ col 0 2 ∷ []

insert_is : (l : Layout) → command_of (understood (schema_for l) insert_text) ≡ Insert 4 (Values insert_terms 4)
unfolding understood everything
insert_is Second = refl
insert_is Third = refl

insert_plain : (l : Layout) → IsPlain (understood (schema_for l) insert_text)
unfolding understood everything
insert_plain Second = (refl, refl)
insert_plain Third = (refl, refl)

pub insert_edit : IsEditText (first insert_text)
unfolding first everything
insert_edit = tt

abbrev pub given : HandleRow → Row
given x = Int (pos x.fh) ∷ Int (pos x.node) ∷ Int (pos (access_code x.access)) ∷ []

pub cast_as : (l : Layout) (x : HandleRow) → cast_row (handles_for l) (handle_row x) ≡ handle_row x
cast_as l x = rw (cast_int (pos x.fh), cast_int (pos x.node), cast_int (pos (access_code x.access)), cast_null)

inserts : (x : HandleRow) (c : Content) (old new : State) (n : ℕ) → Holds c old.now → Writes old new None (Insert 4 (Values insert_terms 4))
    (statement_of insert_text (understood (schema_for c.layout) insert_text)) (given x) n
    → Holds (with_handle x c) new.now
inserts x c old new n at w =
    let put = inserted (schema_for c.layout) 4 (handles_for c.layout) (handles_listed c.layout) insert_terms 4 old new _ (given x) n (handle_row x) (λ keys news. quiet c.layout keys 7 [] news) (ap (λ r. r
    ∷ []) (cast_as c.layout x)) at.schema w in
    let was = (laid c old.now at).handles in
    wrote (schema_for c.layout) (stored c) (stored (with_handle x c)) (handles_for c.layout) old.now new.now at put.spares w.sound (only_handles c (put_by fh_of x c.handles))
    (put.rows ∙ ap (put_row (handle_row x)) was.0 ∙ put_rows fh_of handle_row (λ _. refl) x c.handles)
    (subst IsTable (sym put.rows) (IsTable-put_row (handle_row x) (old.now.trees 7) was.1))

pub adds : (x : HandleRow) (old new : State) (r : Result (Unit {0}) Error) → (HasCleanDisk new → Ran insert_text (given x) old new r)
    → Survives old new (CommitsBy insert_text (given x) old) → Makes (with_handle x) old new r
adds x = makes_laid insert_text (given x) (λ _. Insert 4 (Values insert_terms 4)) insert_is insert_plain (λ _. refl) insert_edit
    (λ c. Holds (with_handle x c)) (inserts x)

-- its key was not there
fresh : (x : HandleRow) (c : Content) (old new : State) (n : ℕ) → Holds c old.now → Writes old new None (Insert 4 (Values insert_terms 4))
    (statement_of insert_text (understood (schema_for c.layout) insert_text)) (given x) n
    → at_by fh_of x.fh c.handles ≡ None
fresh x c old new n at w =
    let put = inserted (schema_for c.layout) 4 (handles_for c.layout) (handles_listed c.layout) insert_terms 4 old new _ (given x) n (handle_row x) (λ keys news. quiet c.layout keys 7 [] news) (ap (λ r. r
    ∷ []) (cast_as c.layout x)) at.schema w in
    none_taken fh_of handle_row (λ _. refl) x c.handles (subst (λ rows. is_taken rows (handle_row x) ≡ false) (laid c old.now at).handles.0 put.free)

pub adds_new : (x : HandleRow) (old new : State) (r : Result (Unit {0}) Error) → (HasCleanDisk new → Ran insert_text (given x) old new r) → HasCleanDisk new
    → OnOk r ((c : Content) → Inside c old → at_by fh_of x.fh c.handles ≡ None)
adds_new x = told_before_laid insert_text (given x) (λ _. Insert 4 (Values insert_terms 4)) insert_is insert_plain (λ _. refl)
    (λ c. at_by fh_of x.fh c.handles ≡ None) (fresh x)

-- ---- by the key

abbrev pub key_terms : List Term
key_terms = op2 (Compare Eq Binary) (col 1 0) (col 0 0) ∷ []

pub key_tests : (k : ℕ) (params : Row) (x : HandleRow) → list_all (holds ((Int (pos k) ∷ params) ∷ handle_row x ∷ [])) key_terms ≡ has_by fh_of k x
unfolding binary
key_tests k params x = ap (λ o. is_true (from_truth (Some (is_eq o))) && true) (row_cmp_nat (fh_of x) k) ∙ truth_of (has_by fh_of k x)

-- ---- a row gone

abbrev pub delete_text : List ℕ
delete_text = codes "DELETE FROM handles WHERE fh = ?1"

delete_is : (l : Layout) → command_of (understood (schema_for l) delete_text) ≡ Delete 4 (picking 7 key_terms)
unfolding understood everything
delete_is Second = refl
delete_is Third = refl

delete_plain : (l : Layout) → IsPlain (understood (schema_for l) delete_text)
unfolding understood everything
delete_plain Second = (refl, refl)
delete_plain Third = (refl, refl)

pub delete_edit : IsEditText (first delete_text)
unfolding first everything
delete_edit = tt

gone : (k : ℕ) (c : Content) (old new : State) (n : ℕ) → Holds c old.now → Writes old new None (Delete 4 (picking 7 key_terms)) (statement_of delete_text
    (understood (schema_for c.layout) delete_text)) (Int (pos k) ∷ []) n
    → Holds (without_handle k c) new.now
gone k c old new n at w =
    let was = (laid c old.now at).handles in
    let now = picks c.layout fh_of handle_row (λ _. refl) (has_by fh_of k) 4 (handles_for c.layout) (handles_listed c.layout) key_terms (Int (pos k) ∷ []) (key_tests k []) (λ _. refl) c.handles old new _ n
    at.schema was.0 was.1 w in
    wrote (schema_for c.layout) (stored c) (stored (without_handle k c)) (handles_for c.layout) old.now new.now at now.2 w.sound (only_handles c _) now.0 now.1

pub removes : (k : ℕ) (old new : State) (r : Result (Unit {0}) Error) → (HasCleanDisk new → Ran delete_text (Int (pos k) ∷ []) old new r)
    → Survives old new (CommitsBy delete_text (Int (pos k) ∷ []) old) → Makes (without_handle k) old new r
removes k = makes_laid delete_text (Int (pos k) ∷ []) (λ _. Delete 4 (picking 7 key_terms)) delete_is delete_plain (λ _. refl) delete_edit
    (λ c. Holds (without_handle k c)) (gone k)

-- ---- a row read

abbrev pub select_text : List ℕ
select_text = codes "SELECT node, access FROM handles WHERE fh = ?1"

abbrev select_terms : List Term
select_terms = col 1 2 ∷ col 1 3 ∷ []

select_is : (l : Layout) → command_of (understood (schema_for l) select_text) ≡ Select (record { lets = []; body = plain_query 7 key_terms select_terms }) (codes "node"
    ∷ codes "access" ∷ [])
unfolding understood everything
select_is Second = refl
select_is Third = refl

select_plain : (l : Layout) → IsPlain (understood (schema_for l) select_text)
unfolding understood everything
select_plain Second = (refl, refl)
select_plain Third = (refl, refl)

pub select_reads : IsSelectText (first select_text)
unfolding first everything
select_reads = (_, refl)

select_unlisted : (l : Layout) → reads_listing (schema_for l) select_text ≡ false
unfolding understood everything
select_unlisted Second = refl
select_unlisted Third = refl

finds : (k : ℕ) (c : Content) (old new : State) (rows : List Row) → Inside c old → Shown select_text (Int (pos k) ∷ []) old new rows
    → rows ≡ map shown_handle (option_to_list (at_by fh_of k c.handles))
finds k c old new rows at h =
    let params = Int (pos k) ∷ [] in
    let was = (laid c old.now at.holds).handles in
    let answer = (read_laid select_text params _ select_is select_plain select_unlisted c old new rows at h).answer Null in
    let same = answered handle_row (has_by fh_of k) Null (overlay old.now.trees []) key_terms params (key_tests k []) 7 select_terms c.handles rows was.0
    answer in
    only (at_by fh_of k c.handles) shown_handle rows (subst (λ xs. IsPermutation (map shown_handle xs) rows) (found_rows fh_of handle_row (λ _. refl) k
    c.handles (subst IsTable was.0 was.1)) same)

pub look_makes : {X : Type 0} (items : X → List Row) (k : ℕ) (old new : State) (r : Result X Error)
    → (HasCleanDisk new → IfOk r (λ x. Shown select_text (Int (pos k) ∷ []) old new (items x)))
    → (HasCleanDisk new → IfErr r (FailsToQuery select_text (Int (pos k) ∷ []) old new)) → Survives old new (CommitsShowing select_text (Int (pos k) ∷ []) old)
    → Makes (λ c. c) old new r
look_makes items k = looks_laid select_text (Int (pos k) ∷ []) _ select_is select_plain select_reads items

pub look_finds : {X : Type 0} (items : X → List Row) (k : ℕ) (old new : State) (r : Result X Error)
    → (HasCleanDisk new → IfOk r (λ x. Shown select_text (Int (pos k) ∷ []) old new (items x)))
    → HasCleanDisk new → IfOk r (λ x. (c : Content) → Inside c old → items x ≡ map shown_handle (option_to_list (at_by fh_of k c.handles)))
look_finds items k old new (Ok x) ok clean = λ c at. finds k c old new (items x) at (ok clean)
look_finds items k old new (Err e) ok clean = tt

-- ---- those of a node

of_tests : (node limit : ℕ) (h : HandleRow) → list_all (holds ((Int (pos node) ∷ Int (pos limit) ∷ []) ∷ handle_row h ∷ []))
    (op2 (Compare Eq Binary) (col 1 2) (col 0 0) ∷ []) ≡ is_handle_of node h
unfolding binary
of_tests node limit h = ap (λ o. is_true (from_truth (Some (is_eq o))) && true) (row_cmp_nat h.node node) ∙ truth_of (is_handle_of node h)

abbrev pub of_text : List ℕ
of_text = codes "SELECT fh, access FROM handles WHERE node = ?1 ORDER BY fh LIMIT ?2"

abbrev of_terms : List Term
of_terms = op2 (Compare Eq Binary) (col 1 2) (col 0 0) ∷ []

of_is : (l : Layout) → command_of (understood (schema_for l) of_text) ≡ Select (record { lets = []; body = ordered_query 7 of_terms (col 1 0 ∷ col 1 3 ∷ []) (col 0 1) })
    (codes "fh" ∷ codes "access" ∷ [])
unfolding understood everything
of_is Second = refl
of_is Third = refl

of_plain : (l : Layout) → IsPlain (understood (schema_for l) of_text)
unfolding understood everything
of_plain Second = (refl, refl)
of_plain Third = (refl, refl)

pub of_reads : IsSelectText (first of_text)
unfolding first everything
of_reads = (_, refl)

of_unlisted : (l : Layout) → reads_listing (schema_for l) of_text ≡ false
unfolding understood everything
of_unlisted Second = refl
of_unlisted Third = refl

of_finds : (node limit : ℕ) (c : Content) (old new : State) (rows : List Row) → Inside c old → Shown of_text (Int (pos node) ∷ Int (pos limit) ∷ []) old new rows
    → rows ≡ take limit (map shown_open (filter (is_handle_of node) c.handles))
of_finds node limit c old new rows at h =
    let was = (laid c old.now at.holds).handles in
    let answer = (read_laid of_text (Int (pos node) ∷ Int (pos limit) ∷ []) _ of_is of_plain of_unlisted c old new rows at
    h).answer Null in
    answered_in_order fh_of (λ x. Null ∷ Int (pos x.node) ∷ Int (pos (access_code x.access)) ∷ []) (is_handle_of node) Null (overlay old.now.trees [])
    of_terms (Int (pos node) ∷ Int (pos limit) ∷ []) (of_tests node limit) (col 1 0 ∷ col 1 3 ∷ []) (col 0 1) 7 c.handles rows was.0
    (rises_from fh_of handle_row (λ _. refl) c.handles (subst IsTable was.0 was.1)) answer

pub of_makes : {X : Type 0} (items : X → List Row) (node limit : ℕ) (old new : State) (r : Result X Error)
    → (HasCleanDisk new → IfOk r (λ x. Shown of_text (Int (pos node) ∷ Int (pos limit) ∷ []) old new (items x)))
    → (HasCleanDisk new → IfErr r (FailsToQuery of_text (Int (pos node) ∷ Int (pos limit) ∷ []) old new))
    → Survives old new (CommitsShowing of_text (Int (pos node) ∷ Int (pos limit) ∷ []) old) → Makes (λ c. c) old new r
of_makes items node limit = looks_laid of_text (Int (pos node) ∷ Int (pos limit) ∷ []) _ of_is of_plain of_reads items

pub of_shows : {X : Type 0} (items : X → List Row) (node limit : ℕ) (old new : State) (r : Result X Error)
    → (HasCleanDisk new → IfOk r (λ x. Shown of_text (Int (pos node) ∷ Int (pos limit) ∷ []) old new (items x)))
    → HasCleanDisk new → IfOk r (λ x. (c : Content) → Inside c old → items x ≡ take limit (map shown_open (filter (is_handle_of node) c.handles)))
of_shows items node limit old new (Ok x) ok clean = λ c at. of_finds node limit c old new (items x) at (ok clean)
of_shows items node limit old new (Err e) ok clean = tt
