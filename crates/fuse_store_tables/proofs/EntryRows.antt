-- The statements on the table of entries.
use Rattle.std.proofs.Common.{take, ◌≡◌, ℕ, pos, List, [], ◌∷◌, map, filter, codes, true, false, ◌&&◌, Some, None, Ok, Err}
use Rattle.std.proofs.Common.{Result, OnOk, IfOk, IfErr, refl, sym, ap, subst, ◌∙◌}
use Rattle.std.specs.List.{list_all}
use Rattle.std.specs.Ordering.{is_eq, is_gt, nat_cmp}
use Rattle.sqlite.specs.declared.types.Value.TheVariants.{Null, Int, Blob}
use Rattle.sqlite.specs.Order.{Row}
use Rattle.sqlite_trees.specs.Tree.{IsTable, put_row}
use Rattle.sqlite_trees.proofs.TreeLemmas.{IsTable-put_row}
use Rattle.sqlite_value.specs.declared.keys.Collation.TheVariants.{Binary}
use Rattle.sqlite_value.specs.Order.{value_cmp}
use Rattle.sqlite_sql.specs.declared.ops.BinaryOp.TheVariants.{Compare}
use Rattle.sqlite_sql.specs.declared.ops.CompareOp.TheVariants.{Eq, Gt}
use Rattle.sqlite_sql.specs.Ops.{binary, is_true, from_truth}
use Rattle.sqlite.specs.Term.{Term, lit, col, op2, holds}
use Rattle.sqlite.specs.Program.{overlay}
use Rattle.sqlite.specs.Source.TheVariants.{Values}
use Rattle.sqlite.specs.Command.TheVariants.{Insert, Delete, Select}
use Rattle.sqlite_rules.specs.Cast.{cast_row}
use Rattle.sqlite_tied.specs.Compute.{everything}
use Rattle.sqlite.specs.declared.error.Error.{Error}
use Rattle.sqlite_rules.specs.Edit.{is_taken}
use Rattle.sqlite.specs.Listing.{understood, reads_listing}
use Rattle.sqlite.specs.State.{State, HasCleanDisk, Survives, CommitsBy, Writes, Shown, FailsToQuery, CommitsShowing}
use Rattle.sqlite.proofs.Callers.{IsPlain, command_of, statement_of}
use Rattle.fuse_store_tables.specs.Layout.{schema_for}
use Rattle.fuse_store_tables.specs.Content.{Content, Holds, stored, put_by, has_by, at_by, cookie_of, entry_row, with_entry, with_entry_gone, has_name}
use Rattle.fuse_store_tables.specs.Content.{stands_after, shown_entry, shown_place}
use Rattle.fuse_store_tables.specs.Moves.{Inside, Makes}
use Rattle.fuse_store_tables.specs.inner.Performing.{Ran}
use Rattle.fuse_store_tables.proofs.Tables.{wrote, quiet, only_entries}
use Rattle.fuse_store_tables.proofs.Keyed.{put_rows, row_cmp_nat, none_taken}
use Rattle.fuse_store_tables.proofs.RowLemmas.{cast_int, cast_null, inserted}
use Rattle.fuse_store_tables.proofs.Reading.{truth_of, both_true}
use Rattle.fuse_store_tables.proofs.Deletes.{picking, picks}
use Rattle.fuse_store_tables.proofs.Ordered.{ordered_query, answered_in_order, rises_from}
use Rattle.sqlite_value.proofs.OrderLemmas.{value_cmp-Blob}
use Rattle.std.specs.Cmp.Lexicographic.{slice_cmp}
use Rattle.fuse_rows.specs.declared.rows.EntryRow.{EntryRow}
use Rattle.sqlite_resolve.specs.Compile.{first}
use Rattle.fuse_store_tables.proofs.Edits.{IsEditText}
use Rattle.fuse_store_tables.proofs.Queries.{IsSelectText}
use Rattle.fuse_store_tables.specs.declared.version.Layout.{Layout}
use Rattle.fuse_store_tables.specs.declared.version.Layout.TheVariants.{Second, Third}
use Rattle.fuse_store_tables.proofs.Laid.{looks_laid, makes_laid, read_laid, told_before_laid}
use Rattle.fuse_store_tables.proofs.Tables.{entries_for, entries_listed, laid}

-- ---- a new row

abbrev pub insert_text : List ℕ
insert_text = codes "INSERT INTO entries (cookie, dir, name, child) VALUES (?1, ?2, ?3, ?4)"

abbrev insert_terms : List Term
insert_terms = col 0 0 ∷ lit Null ∷ col 0 1 ∷ col 0 2 ∷ col 0 3 ∷ []

insert_is : (l : Layout) → command_of (understood (schema_for l) insert_text) ≡ Insert 2 (Values insert_terms 5)
unfolding understood everything
insert_is Second = refl
insert_is Third = refl

insert_plain : (l : Layout) → IsPlain (understood (schema_for l) insert_text)
unfolding understood everything
insert_plain Second = (refl, refl)
insert_plain Third = (refl, refl)

pub insert_edit : IsEditText (first insert_text)
unfolding first everything
insert_edit = tt

abbrev pub given : EntryRow → Row
given x = Int (pos x.cookie) ∷ Int (pos x.dir) ∷ Blob x.name ∷ Int (pos x.child) ∷ []

pub cast_as : (l : Layout) (x : EntryRow) → cast_row (entries_for l) (entry_row x) ≡ entry_row x
cast_as l x = rw (cast_int (pos x.cookie), cast_int (pos x.dir), cast_int (pos x.child), cast_null)

inserts : (x : EntryRow) (c : Content) (old new : State) (n : ℕ) → Holds c old.now → Writes old new None (Insert 2 (Values insert_terms 5))
    (statement_of insert_text (understood (schema_for c.layout) insert_text)) (given x) n
    → Holds (with_entry x c) new.now
inserts x c old new n at w =
    let put = inserted (schema_for c.layout) 2 (entries_for c.layout) (entries_listed c.layout) insert_terms 5 old new _ (given x) n (entry_row x) (λ keys news. quiet c.layout keys 2 [] news) (ap (λ r. r
    ∷ []) (cast_as c.layout x)) at.schema w in
    let was = (laid c old.now at).entries in
    wrote (schema_for c.layout) (stored c) (stored (with_entry x c)) (entries_for c.layout) old.now new.now at put.spares w.sound (only_entries c (put_by cookie_of x c.entries))
    (put.rows ∙ ap (put_row (entry_row x)) was.0 ∙ put_rows cookie_of entry_row (λ _. refl) x c.entries)
    (subst IsTable (sym put.rows) (IsTable-put_row (entry_row x) (old.now.trees 2) was.1))

pub adds : (x : EntryRow) (old new : State) (r : Result (Unit {0}) Error) → (HasCleanDisk new → Ran insert_text (given x) old new r)
    → Survives old new (CommitsBy insert_text (given x) old) → Makes (with_entry x) old new r
adds x = makes_laid insert_text (given x) (λ _. Insert 2 (Values insert_terms 5)) insert_is insert_plain (λ _. refl) insert_edit
    (λ c. Holds (with_entry x c)) (inserts x)

-- its key was not there
fresh : (x : EntryRow) (c : Content) (old new : State) (n : ℕ) → Holds c old.now → Writes old new None (Insert 2 (Values insert_terms 5))
    (statement_of insert_text (understood (schema_for c.layout) insert_text)) (given x) n
    → at_by cookie_of x.cookie c.entries ≡ None
fresh x c old new n at w =
    let put = inserted (schema_for c.layout) 2 (entries_for c.layout) (entries_listed c.layout) insert_terms 5 old new _ (given x) n (entry_row x) (λ keys news. quiet c.layout keys 2 [] news) (ap (λ r. r
    ∷ []) (cast_as c.layout x)) at.schema w in
    none_taken cookie_of entry_row (λ _. refl) x c.entries (subst (λ rows. is_taken rows (entry_row x) ≡ false) (laid c old.now at).entries.0 put.free)

pub adds_new : (x : EntryRow) (old new : State) (r : Result (Unit {0}) Error) → (HasCleanDisk new → Ran insert_text (given x) old new r) → HasCleanDisk new
    → OnOk r ((c : Content) → Inside c old → at_by cookie_of x.cookie c.entries ≡ None)
adds_new x = told_before_laid insert_text (given x) (λ _. Insert 2 (Values insert_terms 5)) insert_is insert_plain (λ _. refl)
    (λ c. at_by cookie_of x.cookie c.entries ≡ None) (fresh x)

-- ---- by the key

abbrev pub key_terms : List Term
key_terms = op2 (Compare Eq Binary) (col 1 0) (col 0 0) ∷ []

pub key_tests : (k : ℕ) (params : Row) (x : EntryRow) → list_all (holds ((Int (pos k) ∷ params) ∷ entry_row x ∷ [])) key_terms ≡ has_by cookie_of k x
unfolding binary
key_tests k params x = ap (λ o. is_true (from_truth (Some (is_eq o))) && true) (row_cmp_nat (cookie_of x) k) ∙ truth_of (has_by cookie_of k x)

-- ---- a row gone

abbrev pub delete_text : List ℕ
delete_text = codes "DELETE FROM entries WHERE cookie = ?1"

delete_is : (l : Layout) → command_of (understood (schema_for l) delete_text) ≡ Delete 2 (picking 2 key_terms)
unfolding understood everything
delete_is Second = refl
delete_is Third = refl

delete_plain : (l : Layout) → IsPlain (understood (schema_for l) delete_text)
unfolding understood everything
delete_plain Second = (refl, refl)
delete_plain Third = (refl, refl)

pub delete_edit : IsEditText (first delete_text)
unfolding first everything
delete_edit = tt

gone : (k : ℕ) (c : Content) (old new : State) (n : ℕ) → Holds c old.now → Writes old new None (Delete 2 (picking 2 key_terms)) (statement_of delete_text
    (understood (schema_for c.layout) delete_text)) (Int (pos k) ∷ []) n
    → Holds (with_entry_gone k c) new.now
gone k c old new n at w =
    let was = (laid c old.now at).entries in
    let now = picks c.layout cookie_of entry_row (λ _. refl) (has_by cookie_of k) 2 (entries_for c.layout) (entries_listed c.layout) key_terms (Int (pos k) ∷ []) (key_tests k []) (λ _. refl) c.entries old
    new _ n at.schema was.0 was.1 w in
    wrote (schema_for c.layout) (stored c) (stored (with_entry_gone k c)) (entries_for c.layout) old.now new.now at now.2 w.sound (only_entries c _) now.0 now.1

pub removes : (k : ℕ) (old new : State) (r : Result (Unit {0}) Error) → (HasCleanDisk new → Ran delete_text (Int (pos k) ∷ []) old new r)
    → Survives old new (CommitsBy delete_text (Int (pos k) ∷ []) old) → Makes (with_entry_gone k) old new r
removes k = makes_laid delete_text (Int (pos k) ∷ []) (λ _. Delete 2 (picking 2 key_terms)) delete_is delete_plain (λ _. refl) delete_edit
    (λ c. Holds (with_entry_gone k c)) (gone k)

-- ---- by its name: the one with the lowest cookie

named_tests : (dir : ℕ) (name : List ℕ) (e : EntryRow) → list_all (holds ((Int (pos dir) ∷ Blob name ∷ []) ∷ entry_row e ∷ []))
    (op2 (Compare Eq Binary) (col 1 2) (col 0 0) ∷ op2 (Compare Eq Binary) (col 1 3) (col 0 1) ∷ []) ≡ has_name dir name e
unfolding binary
named_tests dir name e =
    ap (λ o. is_true (from_truth (Some (is_eq o))) && (is_true (from_truth (Some (is_eq (value_cmp (Blob e.name) (Blob name))))) && true))
    (row_cmp_nat e.dir dir)
    ∙ ap (λ o. is_true (from_truth (Some (is_eq (nat_cmp e.dir dir)))) && (is_true (from_truth (Some (is_eq o))) && true)) (value_cmp-Blob e.name name)
    ∙ both_true (is_eq (nat_cmp e.dir dir)) (is_eq (slice_cmp nat_cmp e.name name))

abbrev pub named_text : List ℕ
named_text = codes "SELECT cookie, child FROM entries WHERE dir = ?1 AND name = ?2 ORDER BY cookie LIMIT 1"

abbrev named_terms : List Term
named_terms = op2 (Compare Eq Binary) (col 1 2) (col 0 0) ∷ op2 (Compare Eq Binary) (col 1 3) (col 0 1) ∷ []

named_is : (l : Layout) → command_of (understood (schema_for l) named_text) ≡ Select (record {
  lets = [];
  body = ordered_query 2 named_terms (col 1 0 ∷ col 1 4
      ∷ []) (lit (Int (pos 1)));
}) (codes "cookie" ∷ codes "child" ∷ [])
unfolding understood everything
named_is Second = refl
named_is Third = refl

named_plain : (l : Layout) → IsPlain (understood (schema_for l) named_text)
unfolding understood everything
named_plain Second = (refl, refl)
named_plain Third = (refl, refl)

pub named_reads : IsSelectText (first named_text)
unfolding first everything
named_reads = (_, refl)

named_unlisted : (l : Layout) → reads_listing (schema_for l) named_text ≡ false
unfolding understood everything
named_unlisted Second = refl
named_unlisted Third = refl

named_finds : (dir : ℕ) (name : List ℕ) (c : Content) (old new : State) (rows : List Row) → Inside c old → Shown named_text (Int (pos dir) ∷ Blob name
    ∷ []) old new rows → rows ≡ take 1 (map shown_place (filter (has_name dir name) c.entries))
named_finds dir name c old new rows at h =
    let was = (laid c old.now at.holds).entries in
    let answer = (read_laid named_text (Int (pos dir) ∷ Blob name ∷ []) _ named_is named_plain named_unlisted c old new rows
    at h).answer Null in
    answered_in_order cookie_of (λ e. Null ∷ Int (pos e.dir) ∷ Blob e.name ∷ Int (pos e.child) ∷ []) (has_name dir name) Null (overlay old.now.trees [])
    named_terms (Int (pos dir) ∷ Blob name ∷ [])
    (named_tests dir name) (col 1 0 ∷ col 1 4 ∷ []) (lit (Int (pos 1))) 2 c.entries rows was.0 (rises_from cookie_of entry_row (λ _. refl) c.entries
    (subst IsTable was.0 was.1)) answer

pub named_makes : {X : Type 0} (items : X → List Row) (dir : ℕ) (name : List ℕ) (old new : State) (r : Result X Error)
    → (HasCleanDisk new → IfOk r (λ x. Shown named_text (Int (pos dir) ∷ Blob name ∷ []) old new (items x)))
    → (HasCleanDisk new → IfErr r (FailsToQuery named_text (Int (pos dir) ∷ Blob name ∷ []) old new))
    → Survives old new (CommitsShowing named_text (Int (pos dir) ∷ Blob name ∷ []) old) → Makes (λ c. c) old new r
named_makes items dir name = looks_laid named_text (Int (pos dir) ∷ Blob name ∷ []) _ named_is named_plain named_reads items

pub named_shows : {X : Type 0} (items : X → List Row) (dir : ℕ) (name : List ℕ) (old new : State) (r : Result X Error)
    → (HasCleanDisk new → IfOk r (λ x. Shown named_text (Int (pos dir) ∷ Blob name ∷ []) old new (items x)))
    → HasCleanDisk new → IfOk r (λ x. (c : Content) → Inside c old → items x ≡ take 1 (map shown_place (filter (has_name dir name) c.entries)))
named_shows items dir name old new (Ok x) ok clean = λ c at. named_finds dir name c old new (items x) at (ok clean)
named_shows items dir name old new (Err e) ok clean = tt

-- ---- those after a cookie

after_tests : (dir cookie limit : ℕ) (e : EntryRow) → list_all (holds ((Int (pos dir) ∷ Int (pos cookie) ∷ Int (pos limit) ∷ []) ∷ entry_row e ∷ []))
    (op2 (Compare Eq Binary) (col 1 2) (col 0 0) ∷ op2 (Compare Gt Binary) (col 1 0) (col 0 1) ∷ []) ≡ stands_after dir cookie e
unfolding binary
after_tests dir cookie limit e =
    ap (λ o. is_true (from_truth (Some (is_eq o))) && (is_true (from_truth (Some (is_gt (value_cmp (Int (pos e.cookie)) (Int (pos cookie)))))) && true))
    (row_cmp_nat e.dir dir)
    ∙ ap (λ o. is_true (from_truth (Some (is_eq (nat_cmp e.dir dir)))) && (is_true (from_truth (Some (is_gt o))) && true)) (row_cmp_nat e.cookie cookie)
    ∙ both_true (is_eq (nat_cmp e.dir dir)) (is_gt (nat_cmp e.cookie cookie))

abbrev pub after_text : List ℕ
after_text = codes "SELECT cookie, name, child FROM entries WHERE dir = ?1 AND cookie > ?2 ORDER BY cookie LIMIT ?3"

abbrev after_terms : List Term
after_terms = op2 (Compare Eq Binary) (col 1 2) (col 0 0) ∷ op2 (Compare Gt Binary) (col 1 0) (col 0 1) ∷ []

after_is : (l : Layout) → command_of (understood (schema_for l) after_text) ≡ Select (record {
  lets = [];
  body = ordered_query 2 after_terms (col 1 0 ∷ col 1 3 ∷ col 1 4
      ∷ []) (col 0 2);
}) (codes "cookie" ∷ codes "name" ∷ codes "child" ∷ [])
unfolding understood everything
after_is Second = refl
after_is Third = refl

after_plain : (l : Layout) → IsPlain (understood (schema_for l) after_text)
unfolding understood everything
after_plain Second = (refl, refl)
after_plain Third = (refl, refl)

pub after_reads : IsSelectText (first after_text)
unfolding first everything
after_reads = (_, refl)

after_unlisted : (l : Layout) → reads_listing (schema_for l) after_text ≡ false
unfolding understood everything
after_unlisted Second = refl
after_unlisted Third = refl

after_finds : (dir cookie limit : ℕ) (c : Content) (old new : State) (rows : List Row) → Inside c old → Shown after_text (Int (pos dir) ∷ Int (pos cookie)
    ∷ Int (pos limit) ∷ []) old new rows → rows ≡ take limit (map shown_entry (filter (stands_after dir cookie) c.entries))
after_finds dir cookie limit c old new rows at h =
    let was = (laid c old.now at.holds).entries in
    let answer = (read_laid after_text (Int (pos dir) ∷ Int (pos cookie) ∷ Int (pos limit) ∷ []) _ after_is after_plain
    after_unlisted c old new rows at h).answer Null in
    answered_in_order cookie_of (λ e. Null ∷ Int (pos e.dir) ∷ Blob e.name ∷ Int (pos e.child) ∷ []) (stands_after dir cookie) Null (overlay old.now.trees [])
    after_terms (Int (pos dir) ∷ Int (pos cookie) ∷ Int (pos limit) ∷ [])
    (after_tests dir cookie limit) (col 1 0 ∷ col 1 3 ∷ col 1 4 ∷ []) (col 0 2) 2 c.entries rows was.0 (rises_from cookie_of entry_row (λ _. refl) c.entries
    (subst IsTable was.0 was.1)) answer

pub after_makes : {X : Type 0} (items : X → List Row) (dir cookie limit : ℕ) (old new : State) (r : Result X Error)
    → (HasCleanDisk new → IfOk r (λ x. Shown after_text (Int (pos dir) ∷ Int (pos cookie) ∷ Int (pos limit) ∷ []) old new (items x)))
    → (HasCleanDisk new → IfErr r (FailsToQuery after_text (Int (pos dir) ∷ Int (pos cookie) ∷ Int (pos limit) ∷ []) old new))
    → Survives old new (CommitsShowing after_text (Int (pos dir) ∷ Int (pos cookie) ∷ Int (pos limit) ∷ []) old) → Makes (λ c. c) old new r
after_makes items dir cookie limit = looks_laid after_text (Int (pos dir) ∷ Int (pos cookie) ∷ Int (pos limit)
    ∷ []) _ after_is after_plain after_reads items

pub after_shows : {X : Type 0} (items : X → List Row) (dir cookie limit : ℕ) (old new : State) (r : Result X Error)
    → (HasCleanDisk new → IfOk r (λ x. Shown after_text (Int (pos dir) ∷ Int (pos cookie) ∷ Int (pos limit) ∷ []) old new (items x)))
    → HasCleanDisk new → IfOk r (λ x. (c : Content) → Inside c old → items x ≡ take limit (map shown_entry (filter (stands_after dir cookie) c.entries)))
after_shows items dir cookie limit old new (Ok x) ok clean = λ c at. after_finds dir cookie limit c old new (items x) at (ok clean)
after_shows items dir cookie limit old new (Err e) ok clean = tt
