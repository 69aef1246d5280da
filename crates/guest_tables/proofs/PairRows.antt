-- The statements on the table of pairs that change it, or read one value.
use Rattle.std.proofs.Common.{◌≡◌, ◌==◌, ℕ, pos, ◌+◌, ◌+ℤ◌, List, [], ◌∷◌, map, filter, fold, length, codes, Bool, true, false, not, ◌&&◌, ◌||◌, Some, None, Ok}
use Rattle.std.proofs.Common.{Err, Result, IfOk, IfErr, refl, sym, ap, subst, ◌∙◌}
use Rattle.std.specs.List.{list_all}
use Rattle.std.specs.Option.{option_to_list}
use Rattle.std.specs.Ordering.{is_eq, is_ge, is_lt}
use Rattle.std.specs.List.Sorted.{IsPermutation}
use Rattle.std.specs.Int.{w64, cast_signed}
use Rattle.std.specs.Cmp.Lexicographic.{texts_ties}
use Rattle.sqlite.specs.declared.types.Value.TheVariants.{Null, Int, Blob}
use Rattle.sqlite.specs.Order.{Row}
use Rattle.sqlite_trees.specs.Tree.{put_row, rowid, IsTable}
use Rattle.sqlite_trees.proofs.TreeLemmas.{IsTable-put_row}
use Rattle.sqlite.specs.Term.{Term, lit, col, op2, holds}
use Rattle.sqlite.specs.Program.{overlay}
use Rattle.sqlite.specs.Source.TheVariants.{Values}
use Rattle.sqlite.specs.Command.TheVariants.{Insert, Select, Delete}
use Rattle.sqlite_value.specs.Order.{value_cmp}
use Rattle.sqlite_value.specs.declared.keys.Collation.TheVariants.{Binary}
use Rattle.sqlite_value.proofs.OrderLemmas.{value_cmp-Blob}
use Rattle.sqlite_sql.specs.declared.ops.BinaryOp.TheVariants.{Compare}
use Rattle.sqlite_sql.specs.declared.ops.CompareOp.TheVariants.{Eq, Ge, Lt}
use Rattle.sqlite_sql.specs.Ops.{binary, is_true, from_truth}
use Rattle.sqlite_rules.specs.Cast.{cast_row}
use Rattle.sqlite_rules.specs.Edit.{id_in, with_rowid}
use Rattle.sqlite.specs.Rowids.TheVariants.{Chosen}
use Rattle.sqlite_schema.specs.declared.schema.Keys.TheVariants.{Enforced}
use Rattle.sqlite_tied.specs.Compute.{everything}
use Rattle.sqlite.specs.declared.error.Error.{Error}
use Rattle.sqlite.specs.Listing.{understood, reads_listing}
use Rattle.sqlite.specs.Effect.{Database}
use Rattle.sqlite.specs.State.{State, HasCleanDisk, Survives, CommitsBy, Writes, Shown, FailsToQuery, CommitsShowing}
use Rattle.sqlite.proofs.Callers.{IsPlain, command_of, statement_of}
use Rattle.sqlite_resolve.specs.Compile.{first}
use Rattle.fuse_guest.specs.Pairs.{key_order, is_in_range}
use Rattle.fuse_store_tables.specs.inner.Performing.{Ran}
use Rattle.guest_tables.proofs.any_schema.Deletes.{picking}
use Rattle.guest_tables.proofs.any_schema.Edits.{IsEditText}
use Rattle.guest_tables.proofs.any_schema.Keyed.{put_rows}
use Rattle.guest_tables.proofs.any_schema.Queries.{IsSelectText}
use Rattle.guest_tables.proofs.any_schema.Reading.{plain_query, answered, looks, only, read, truth_of, both_true}
use Rattle.guest_tables.proofs.any_schema.Removing.{removed, IsTable-without_all}
use Rattle.guest_tables.proofs.any_schema.RowLemmas.{cast_int, cast_null, inserted, deleted}
use Rattle.guest_tables.proofs.any_schema.Tables.{wrote}
use Rattle.guest_tables.proofs.any_schema.Writing.{makes}
use Rattle.sqlite_rules.specs.Calls.{ids_of}
use Rattle.sqlite_rules.specs.Edit.{without_all}
use Rattle.guest_tables.specs.Layout.{guest_schema, pair_table}
use Rattle.guest_tables.specs.Rows.{PairRow, pair_row, has_key, has_key_within, pair_at, new_pair}
use Rattle.guest_tables.specs.Content.{GuestContent, Holds, stored, with_pair, without_pair, without_pairs_within}
use Rattle.guest_tables.specs.Moves.{Inside, Makes}
use Rattle.guest_tables.specs.inner.Slices.{shown_value}
use Rattle.fuse_store_tables.specs.Content.{put_by}
use Rattle.guest_tables.proofs.PairKeys.{ge_is}
use Rattle.guest_tables.proofs.PairTables.{only_pairs, has_pairs, quiet_guest, pairs_apart, slot_of}
use Rattle.guest_tables.proofs.PairsOfRows.{found_one}

pub guest_known : (c : GuestContent) (d : Database) → Holds c d → d.schema ≡ guest_schema
guest_known c d at = at.schema

-- ---- a new pair

abbrev pub insert_text : List ℕ
insert_text = codes "INSERT INTO pairs (key, value, place, len, sum) VALUES (?1, ?2, 0, 0, 0)"

abbrev insert_terms : List Term
insert_terms = lit Null ∷ col 0 0 ∷ col 0 1 ∷ lit (Int (pos 0)) ∷ lit (Int (pos 0)) ∷ lit (Int (pos 0)) ∷ []

insert_is : command_of (understood guest_schema insert_text) ≡ Insert 1 (Values insert_terms 6)
unfolding understood everything
insert_is = refl

insert_plain : IsPlain (understood guest_schema insert_text)
unfolding understood everything
insert_plain = (refl, refl)

pub insert_edit : IsEditText (first insert_text)
unfolding first everything
insert_edit = tt

abbrev pub given_pair : List ℕ → List ℕ → Row
given_pair key value = Blob key ∷ Blob value ∷ []

abbrev cells : List ℕ → List ℕ → Row
cells key value = Blob key ∷ Blob value ∷ Int (pos 0) ∷ Int (pos 0) ∷ Int (pos 0) ∷ []

cast_given : (key value : List ℕ) → cast_row pair_table (Null ∷ cells key value) ≡ Null ∷ cells key value
cast_given key value = rw (cast_int (pos 0), cast_null)

no_sum : cast_signed w64 0 ≡ pos 0
no_sum = refl

-- the rowid that is chosen is the next slot
next_is : (ps : List PairRow) (a : ℕ) → fold (λ _ r. id_in (rowid r) +ℤ pos 1) (pos a) (map pair_row ps) ≡ pos (fold (λ _ p. p.slot + 1) a ps)
next_is [] a = refl
next_is (p ∷ ps) a = next_is ps (p.slot + 1)

numbered_as : (key value : List ℕ) (ps : List PairRow) → with_rowid Chosen (map pair_row ps) (Null ∷ cells key value) ≡ pair_row (new_pair key value ps)
numbered_as key value ps =
    ap (λ id. Int id ∷ cells key value) (next_is ps 1)
    ∙ ap (λ n. Int (pos (new_pair key value ps).slot) ∷ Blob key ∷ Blob value ∷ Int (pos 0) ∷ Int (pos 0) ∷ Int n ∷ []) (sym no_sum)

inserts : (key value : List ℕ) (c : GuestContent) (old new : State) (n : ℕ) → Holds c old.now
    → Writes old new None (Insert 1 (Values insert_terms 6)) (statement_of insert_text (understood guest_schema insert_text)) (given_pair key value) n
    → Holds (with_pair key value c) new.now
inserts key value c old new n at w =
    let put = inserted guest_schema 1 pair_table refl insert_terms 6 old new _ (given_pair key value) n (Null ∷ cells key value)
    (λ keys news. quiet_guest keys [] news) (ap (λ r. r ∷ []) (cast_given key value)) at.schema w in
    let was = has_pairs c old.now at in
    let p = new_pair key value c.pairs in
    let rows : new.now.trees 1 ≡ put_row (pair_row p) (old.now.trees 1) =
    put.rows ∙ ap (λ r. put_row r (old.now.trees 1)) (ap (λ all. with_rowid Chosen all (Null ∷ cells key value)) was.0 ∙ numbered_as key value c.pairs) in
    wrote guest_schema (stored c) (stored (with_pair key value c)) pair_table old.now new.now at put.spares w.sound
    (only_pairs c (put_by slot_of p c.pairs))
    (rows ∙ ap (put_row (pair_row p)) was.0 ∙ put_rows slot_of pair_row (λ _. refl) p c.pairs)
    (subst IsTable (sym rows) (IsTable-put_row (pair_row p) (old.now.trees 1) was.1))

pub adds : (key value : List ℕ) (old new : State) (r : Result (Unit {0}) Error) → (HasCleanDisk new → Ran insert_text (given_pair key value) old new r)
    → Survives old new (CommitsBy insert_text (given_pair key value) old) → Makes (with_pair key value) old new r
adds key value = makes Holds guest_schema guest_known insert_text (given_pair key value) (Insert 1 (Values insert_terms 6)) insert_is insert_plain refl
    insert_edit (λ c. Holds (with_pair key value c)) (inserts key value)

-- ---- pairs gone

module _ (text : List ℕ) (params : Row) (terms : List Term) (p : PairRow → Bool) (is : command_of (understood guest_schema text) ≡ Delete 1 (picking 1 terms))
    (plain : IsPlain (understood guest_schema text)) (edit : IsEditText (first text))
    (tests : (x : PairRow) → list_all (holds (params ∷ pair_row x ∷ [])) terms ≡ p x) where
  abbrev left : GuestContent → GuestContent
  left c = record c { pairs = filter (λ x. not (p x)) c.pairs }

  gone : (c : GuestContent) (old new : State) (n : ℕ) → Holds c old.now
      → Writes old new None (Delete 1 (picking 1 terms)) (statement_of text (understood guest_schema text)) params n → Holds (left c) new.now
  gone c old new n at w =
      let was = has_pairs c old.now at in
      let d = deleted guest_schema 1 pair_table refl (picking 1 terms) old new _ params n at.schema (λ olds news. quiet_guest Enforced olds news) w in
      let same = answered pair_row p Null (overlay old.now.trees []) terms params tests 1 (col 1 0 ∷ []) c.pairs d.gone was.0 (d.shown.answer Null) in
      wrote guest_schema (stored c) (stored (left c)) pair_table old.now new.now at d.spares w.sound (only_pairs c (filter (λ x. not (p x)) c.pairs))
      (d.rows ∙ ap (λ l. without_all l (ids_of d.gone)) was.0
      ∙ removed slot_of pair_row (λ _. refl) p c.pairs d.gone (subst IsTable was.0 was.1) same)
      (subst IsTable (sym d.rows) (IsTable-without_all (old.now.trees 1) (ids_of d.gone) was.1))

  pub removes : (old new : State) (r : Result (Unit {0}) Error) → (HasCleanDisk new → Ran text params old new r)
      → Survives old new (CommitsBy text params old) → Makes left old new r
  removes = makes Holds guest_schema guest_known text params (Delete 1 (picking 1 terms)) is plain refl edit (λ c. Holds (left c)) gone

-- ---- by its key

abbrev pub key_terms : List Term
key_terms = op2 (Compare Eq Binary) (col 1 1) (col 0 0) ∷ []

pub tests_key : (key : List ℕ) (more : Row) (p : PairRow) → list_all (holds ((Blob key ∷ more) ∷ pair_row p ∷ [])) key_terms ≡ has_key key p
unfolding binary
tests_key key more p =
    ap (λ o. is_true (from_truth (Some (is_eq o))) && true) (value_cmp-Blob p.key key) ∙ truth_of (is_eq (key_order p.key key))
    ∙ sym (texts_ties p.key key)

abbrev pub delete_text : List ℕ
delete_text = codes "DELETE FROM pairs WHERE key = ?1"

delete_is : command_of (understood guest_schema delete_text) ≡ Delete 1 (picking 1 key_terms)
unfolding understood everything
delete_is = refl

delete_plain : IsPlain (understood guest_schema delete_text)
unfolding understood everything
delete_plain = (refl, refl)

pub delete_edit : IsEditText (first delete_text)
unfolding first everything
delete_edit = tt

abbrev pub given_key : List ℕ → Row
given_key key = Blob key ∷ []

pub deletes : (key : List ℕ) (old new : State) (r : Result (Unit {0}) Error) → (HasCleanDisk new → Ran delete_text (given_key key) old new r)
    → Survives old new (CommitsBy delete_text (given_key key) old) → Makes (without_pair key) old new r
deletes key = removes delete_text (given_key key) key_terms (has_key key) delete_is delete_plain delete_edit (tests_key key [])

-- ---- those of a range

abbrev pub from_terms : List Term
from_terms = op2 (Compare Ge Binary) (col 1 1) (col 0 0) ∷ []

abbrev pub between_terms : List Term
between_terms = op2 (Compare Ge Binary) (col 1 1) (col 0 0) ∷ op2 (Compare Lt Binary) (col 1 1) (col 0 1) ∷ []

pub tests_from : (from : List ℕ) (more : Row) (p : PairRow) → list_all (holds ((Blob from ∷ more) ∷ pair_row p ∷ [])) from_terms ≡ is_ge (key_order p.key from)
unfolding binary
tests_from from more p =
    ap (λ o. is_true (from_truth (Some (is_ge o))) && true) (value_cmp-Blob p.key from) ∙ truth_of (is_ge (key_order p.key from))

pub tests_between : (from to : List ℕ) (more : Row) (p : PairRow) → list_all (holds ((Blob from ∷ Blob to ∷ more) ∷ pair_row p ∷ [])) between_terms
    ≡ (is_ge (key_order p.key from) && is_lt (key_order p.key to))
unfolding binary
tests_between from to more p =
    ap (λ o. is_true (from_truth (Some (is_ge o))) && (is_true (from_truth (Some (is_lt (value_cmp (Blob p.key) (Blob to))))) && true)) (value_cmp-Blob p.key from)
    ∙ ap (λ o. is_true (from_truth (Some (is_ge (key_order p.key from)))) && (is_true (from_truth (Some (is_lt o))) && true)) (value_cmp-Blob p.key to)
    ∙ both_true (is_ge (key_order p.key from)) (is_lt (key_order p.key to))

abbrev pub clear_text : List ℕ
clear_text = codes "DELETE FROM pairs WHERE key >= ?1 AND key < ?2"

clear_is : command_of (understood guest_schema clear_text) ≡ Delete 1 (picking 1 between_terms)
unfolding understood everything
clear_is = refl

clear_plain : IsPlain (understood guest_schema clear_text)
unfolding understood everything
clear_plain = (refl, refl)

pub clear_edit : IsEditText (first clear_text)
unfolding first everything
clear_edit = tt

abbrev pub clear_from_text : List ℕ
clear_from_text = codes "DELETE FROM pairs WHERE key >= ?1"

clear_from_is : command_of (understood guest_schema clear_from_text) ≡ Delete 1 (picking 1 from_terms)
unfolding understood everything
clear_from_is = refl

clear_from_plain : IsPlain (understood guest_schema clear_from_text)
unfolding understood everything
clear_from_plain = (refl, refl)

pub clear_from_edit : IsEditText (first clear_from_text)
unfolding first everything
clear_from_edit = tt

abbrev pub given_range : List ℕ → List ℕ → Row
given_range from to = Blob from ∷ Blob to ∷ []

pub no_bound : (from key : List ℕ) → is_ge (key_order key from) ≡ is_in_range from [] key
no_bound from key = ge_is (key_order key from) ∙ sym (both (not (is_lt (key_order key from))))
  where
    both : (b : Bool) → (b && true) ≡ b
    both true = refl
    both false = refl

pub some_bound : (from to key : List ℕ) → (length to == 0) ≡ false → (is_ge (key_order key from) && is_lt (key_order key to)) ≡ is_in_range from to key
some_bound from to key some =
    ap (λ b. b && is_lt (key_order key to)) (ge_is (key_order key from))
    ∙ ap (λ b. not (is_lt (key_order key from)) && (b || is_lt (key_order key to))) (sym some)

pub clears : (from to : List ℕ) → (length to == 0) ≡ false → (old new : State) (r : Result (Unit {0}) Error)
    → (HasCleanDisk new → Ran clear_text (given_range from to) old new r) → Survives old new (CommitsBy clear_text (given_range from to) old)
    → Makes (without_pairs_within from to) old new r
clears from to some = removes clear_text (given_range from to) between_terms (has_key_within from to) clear_is clear_plain clear_edit
    (λ x. tests_between from to [] x ∙ some_bound from to x.key some)

pub clears_from : (from to : List ℕ) → to ≡ [] → (old new : State) (r : Result (Unit {0}) Error)
    → (HasCleanDisk new → Ran clear_from_text (given_key from) old new r) → Survives old new (CommitsBy clear_from_text (given_key from) old)
    → Makes (without_pairs_within from to) old new r
clears_from from to none = removes clear_from_text (given_key from) from_terms (has_key_within from to) clear_from_is clear_from_plain clear_from_edit
    (λ x. tests_from from [] x ∙ no_bound from x.key ∙ ap (λ t. is_in_range from t x.key) (sym none))

-- ---- the value of a key

abbrev pub value_text : List ℕ
value_text = codes "SELECT value FROM pairs WHERE key = ?1"

value_is : command_of (understood guest_schema value_text) ≡ Select (record { lets = []; body = plain_query 1 key_terms (col 1 2 ∷ []) }) (codes "value" ∷ [])
unfolding understood everything
value_is = refl

value_plain : IsPlain (understood guest_schema value_text)
unfolding understood everything
value_plain = (refl, refl)

pub value_reads : IsSelectText (first value_text)
unfolding first everything
value_reads = (_, refl)

value_unlisted : reads_listing guest_schema value_text ≡ false
unfolding understood everything
value_unlisted = refl

value_finds : (key : List ℕ) (c : GuestContent) (old new : State) (rows : List Row) → Inside c old → Shown value_text (given_key key) old new rows
    → rows ≡ map shown_value (option_to_list (pair_at key c.pairs))
value_finds key c old new rows at h =
    let answer = (read Holds guest_schema guest_known value_text (given_key key) _ value_is value_plain value_unlisted c old new rows at h).answer Null in
    let same = answered pair_row (has_key key) Null (overlay old.now.trees []) key_terms (given_key key) (tests_key key []) 1 (col 1 2 ∷ []) c.pairs rows
    (has_pairs c old.now at.holds).0 answer in
    only (pair_at key c.pairs) shown_value rows
    (subst (λ xs. IsPermutation (map shown_value xs) rows) (found_one key c.pairs (pairs_apart c old.now at.holds)) same)

pub value_makes : {X : Type 0} (items : X → List Row) (key : List ℕ) (old new : State) (r : Result X Error)
    → (HasCleanDisk new → IfOk r (λ x. Shown value_text (given_key key) old new (items x)))
    → (HasCleanDisk new → IfErr r (FailsToQuery value_text (given_key key) old new))
    → Survives old new (CommitsShowing value_text (given_key key) old) → Makes (λ c. c) old new r
value_makes items key = looks Holds guest_schema guest_known value_text (given_key key) _ value_is value_plain value_reads items

pub value_shows : {X : Type 0} (items : X → List Row) (key : List ℕ) (old new : State) (r : Result X Error)
    → (HasCleanDisk new → IfOk r (λ x. Shown value_text (given_key key) old new (items x)))
    → HasCleanDisk new → IfOk r (λ x. (c : GuestContent) → Inside c old → items x ≡ map shown_value (option_to_list (pair_at key c.pairs)))
value_shows items key old new (Ok x) ok clean = λ c at. value_finds key c old new (items x) at (ok clean)
value_shows items key old new (Err e) ok clean = tt
