-- The statements on the table of counters.
use Rattle.std.proofs.Common.{negsuc, ◌≡◌, ℕ, pos, List, [], ◌∷◌, map, filter, codes, true, false, ◌&&◌, Some, None, Ok, Err}
use Rattle.std.proofs.Common.{Result, IfOk, IfErr, refl, ap, subst, ◌∙◌}
use Rattle.std.specs.List.{list_all}
use Rattle.std.specs.List.Sorted.{IsPermutation}
use Rattle.std.specs.Option.{option_to_list}
use Rattle.std.specs.Ordering.{is_eq}
use Rattle.sqlite.specs.declared.types.Value.TheVariants.{Null, Int}
use Rattle.sqlite.specs.Order.{Row}
use Rattle.sqlite_trees.specs.Tree.{IsTable}
use Rattle.sqlite_value.specs.declared.keys.Collation.TheVariants.{Binary}
use Rattle.sqlite_sql.specs.declared.ops.BinaryOp.TheVariants.{Compare}
use Rattle.sqlite_sql.specs.declared.ops.CompareOp.TheVariants.{Eq}
use Rattle.sqlite_sql.specs.Ops.{binary, is_true, from_truth}
use Rattle.sqlite.specs.Term.{Term, lit, col, op2, holds}
use Rattle.sqlite.specs.Program.{overlay}
use Rattle.sqlite.specs.Command.TheVariants.{Update, Select}
use Rattle.sqlite_rules.specs.Cast.{cast_row}
use Rattle.sqlite_tied.specs.Compute.{everything}
use Rattle.sqlite.specs.declared.error.Error.{Error}
use Rattle.sqlite.specs.Listing.{understood, reads_listing}
use Rattle.sqlite.specs.State.{State, HasCleanDisk, Survives, CommitsBy, Writes, Shown, FailsToQuery, CommitsShowing}
use Rattle.sqlite.proofs.Callers.{IsPlain, command_of, statement_of}
use Rattle.fuse_store_tables.specs.Layout.{meta, schema_for}
use Rattle.fuse_store_tables.specs.Content.{Content, Counter, Holds, stored, has_by, at_by, counter_key, counter_row, shown_counter, valued}
use Rattle.fuse_store_tables.specs.Content.{set_counter}
use Rattle.fuse_store_tables.specs.Moves.{Inside, Rests, Makes, Serves}
use Rattle.fuse_store_tables.specs.inner.Performing.{Ran}
use Rattle.fuse_store_tables.proofs.Tables.{wrote, only_counters}
use Rattle.fuse_store_tables.proofs.Keyed.{row_cmp_nat, found_rows}
use Rattle.fuse_store_tables.proofs.RowLemmas.{cast_int, cast_null}
use Rattle.fuse_store_tables.proofs.Reading.{plain_query, answered, only, truth_of}
use Rattle.fuse_store_tables.proofs.Updating.{changing, changes}
use Rattle.fuse_store_tables.proofs.Ordered.{ordered_query, answered_in_order, rises_from}
use Rattle.sqlite_resolve.specs.Compile.{first}
use Rattle.fuse_store_tables.proofs.Edits.{IsEditText}
use Rattle.fuse_store_tables.proofs.Queries.{IsSelectText}
use Rattle.fuse_store_tables.specs.declared.version.Layout.{Layout}
use Rattle.fuse_store_tables.specs.declared.version.Layout.TheVariants.{Second, Third}
use Rattle.fuse_store_tables.proofs.Laid.{looks_laid, makes_laid, peeks_laid, read_held_laid, read_laid}
use Rattle.fuse_store_tables.proofs.Tables.{laid, meta_listed}

abbrev pub key_terms : List Term
key_terms = op2 (Compare Eq Binary) (col 1 0) (col 0 0) ∷ []

key_tests : (k : ℕ) (params : Row) (x : Counter) → list_all (holds ((Int (pos k) ∷ params) ∷ counter_row x ∷ [])) key_terms ≡ has_by counter_key k x
unfolding binary
key_tests k params x = ap (λ o. is_true (from_truth (Some (is_eq o))) && true) (row_cmp_nat (counter_key x) k) ∙ truth_of (has_by counter_key k x)

-- ---- all of them

abbrev pub select_text : List ℕ
select_text = codes "SELECT v FROM meta ORDER BY k"

select_is : (l : Layout) → command_of (understood (schema_for l) select_text) ≡ Select (record { lets = []; body = ordered_query 0 [] (col 1 2 ∷ []) (lit (Int (negsuc 0))) })
    (codes "v" ∷ [])
unfolding understood everything
select_is Second = refl
select_is Third = refl

select_plain : (l : Layout) → IsPlain (understood (schema_for l) select_text)
unfolding understood everything
select_plain Second = (refl, refl)
select_plain Third = (refl, refl)

pub select_reads : IsSelectText (first select_text)
unfolding first everything
select_reads = (_, refl)

select_unlisted : (l : Layout) → reads_listing (schema_for l) select_text ≡ false
unfolding understood everything
select_unlisted Second = refl
select_unlisted Third = refl

pub all_of : {X : Type 0} (xs : List X) → filter (λ _. true) xs ≡ xs
all_of [] = refl
all_of (x ∷ xs) = ap (λ more. x ∷ more) (all_of xs)

finds : (c : Content) (old new : State) (rows : List Row) → Holds c old.now → Shown select_text [] old new rows → rows ≡ map shown_counter c.counters
finds c old new rows at h =
    let was = (laid c old.now at).counters in
    let answer = (read_held_laid select_text [] _ select_is select_plain select_unlisted c old new rows at h).answer Null in
    answered_in_order counter_key (λ c. Null ∷ Int (pos c.value) ∷ []) (λ _. true) Null (overlay old.now.trees []) [] [] (λ _. refl) (col 1 2
    ∷ []) (lit (Int (negsuc 0))) 0 c.counters rows was.0
    (rises_from counter_key counter_row (λ _. refl) c.counters (subst IsTable was.0 was.1)) answer ∙ ap (map shown_counter) (all_of c.counters)

pub look_makes : {X : Type 0} (items : X → List Row) (old new : State) (r : Result X Error)
    → (HasCleanDisk new → IfOk r (λ x. Shown select_text [] old new (items x)))
    → (HasCleanDisk new → IfErr r (FailsToQuery select_text [] old new)) → Survives old new (CommitsShowing select_text [] old) → Makes (λ c. c) old new r
look_makes items = looks_laid select_text [] _ select_is select_plain select_reads items

pub look_finds : {X : Type 0} (items : X → List Row) (old new : State) (r : Result X Error)
    → (HasCleanDisk new → IfOk r (λ x. Shown select_text [] old new (items x)))
    → HasCleanDisk new → IfOk r (λ x. (c : Content) → Inside c old → items x ≡ map shown_counter c.counters)
look_finds items old new (Ok x) ok clean = λ c at. finds c old new (items x) at.holds (ok clean)
look_finds items old new (Err e) ok clean = tt

pub peek_serves : {X : Type 0} (items : X → List Row) (old new : State) (r : Result X Error)
    → (HasCleanDisk new → IfOk r (λ x. Shown select_text [] old new (items x)))
    → (HasCleanDisk new → IfErr r (FailsToQuery select_text [] old new)) → Survives old new (CommitsShowing select_text [] old) → Serves (λ c. c) old new r
peek_serves items = peeks_laid select_text [] select_plain items

pub peek_finds : {X : Type 0} (items : X → List Row) (old new : State) (r : Result X Error)
    → (HasCleanDisk new → IfOk r (λ x. Shown select_text [] old new (items x)))
    → HasCleanDisk new → IfOk r (λ x. (c : Content) → Rests c old → items x ≡ map shown_counter c.counters)
peek_finds items old new (Ok x) ok clean = λ c at. finds c old new (items x) at.holds (ok clean)
peek_finds items old new (Err e) ok clean = tt

-- ---- one of them

abbrev pub one_text : List ℕ
one_text = codes "SELECT v FROM meta WHERE k = ?1"

one_is : (l : Layout) → command_of (understood (schema_for l) one_text) ≡ Select (record { lets = []; body = plain_query 0 key_terms (col 1 2 ∷ []) }) (codes "v" ∷ [])
unfolding understood everything
one_is Second = refl
one_is Third = refl

one_plain : (l : Layout) → IsPlain (understood (schema_for l) one_text)
unfolding understood everything
one_plain Second = (refl, refl)
one_plain Third = (refl, refl)

pub one_select : IsSelectText (first one_text)
unfolding first everything
one_select = (_, refl)

one_unlisted : (l : Layout) → reads_listing (schema_for l) one_text ≡ false
unfolding understood everything
one_unlisted Second = refl
one_unlisted Third = refl

one_found : (k : ℕ) (c : Content) (old new : State) (rows : List Row) → Inside c old → Shown one_text (Int (pos k) ∷ []) old new rows
    → rows ≡ map shown_counter (option_to_list (at_by counter_key k c.counters))
one_found k c old new rows at h =
    let params = Int (pos k) ∷ [] in
    let was = (laid c old.now at.holds).counters in
    let answer = (read_laid one_text params _ one_is one_plain one_unlisted c old new rows at h).answer Null in
    let same = answered counter_row (has_by counter_key k) Null (overlay old.now.trees []) key_terms params (key_tests k []) 0 (col 1 2 ∷ []) c.counters rows
    was.0 answer in
    only (at_by counter_key k c.counters) shown_counter rows (subst (λ xs. IsPermutation (map shown_counter xs) rows) (found_rows counter_key counter_row
    (λ _. refl) k c.counters (subst IsTable was.0 was.1)) same)

pub one_makes : {X : Type 0} (items : X → List Row) (k : ℕ) (old new : State) (r : Result X Error)
    → (HasCleanDisk new → IfOk r (λ x. Shown one_text (Int (pos k) ∷ []) old new (items x)))
    → (HasCleanDisk new → IfErr r (FailsToQuery one_text (Int (pos k) ∷ []) old new)) → Survives old new (CommitsShowing one_text (Int (pos k) ∷ []) old)
    → Makes (λ c. c) old new r
one_makes items k = looks_laid one_text (Int (pos k) ∷ []) _ one_is one_plain one_select items

pub one_finds : {X : Type 0} (items : X → List Row) (k : ℕ) (old new : State) (r : Result X Error)
    → (HasCleanDisk new → IfOk r (λ x. Shown one_text (Int (pos k) ∷ []) old new (items x)))
    → HasCleanDisk new → IfOk r (λ x. (c : Content) → Inside c old → items x ≡ map shown_counter (option_to_list (at_by counter_key k c.counters)))
one_finds items k old new (Ok x) ok clean = λ c at. one_found k c old new (items x) at (ok clean)
one_finds items k old new (Err e) ok clean = tt

-- ---- one changed

abbrev pub update_text : List ℕ
update_text = codes "UPDATE meta SET v = ?2 WHERE k = ?1"

abbrev update_terms : List Term
update_terms = col 1 0 ∷ lit Null ∷ col 0 1 ∷ []

update_is : (l : Layout) → command_of (understood (schema_for l) update_text) ≡ Update 0 (changing 0 key_terms update_terms)
unfolding understood everything
update_is Second = refl
update_is Third = refl

update_plain : (l : Layout) → IsPlain (understood (schema_for l) update_text)
unfolding understood everything
update_plain Second = (refl, refl)
update_plain Third = (refl, refl)

pub update_edit : IsEditText (first update_text)
unfolding first everything
update_edit = tt

cast_as : (x : Counter) → cast_row meta (counter_row x) ≡ counter_row x
cast_as x = rw (cast_int (pos x.key), cast_int (pos x.value), cast_null)

changed : (k value : ℕ) (c : Content) (old new : State) (n : ℕ) → Holds c old.now → Writes old new None (Update 0 (changing 0 key_terms update_terms))
    (statement_of update_text (understood (schema_for c.layout) update_text)) (Int (pos k) ∷ Int (pos value) ∷ []) n
    → Holds (set_counter k value c) new.now
changed k value c old new n at w =
    let was = (laid c old.now at).counters in
    let now = changes c.layout counter_key counter_row (λ _. refl) k (valued value) (λ _. refl) 0 meta (meta_listed c.layout) (λ y. counter_row (valued value y))
    (λ y. cast_as (valued value y)) key_terms update_terms (Int (pos k) ∷ Int (pos value) ∷ [])
    (key_tests k (Int (pos value) ∷ [])) (λ y. refl) (λ _. refl) c.counters old new _ n at.schema was.0 was.1 w in
    wrote (schema_for c.layout) (stored c) (stored (set_counter k value c)) meta old.now new.now at now.2 w.sound (only_counters c _) now.0 now.1

pub sets : (k value : ℕ) (old new : State) (r : Result (Unit {0}) Error) → (HasCleanDisk new → Ran update_text (Int (pos k) ∷ Int (pos value) ∷ []) old new r)
    → Survives old new (CommitsBy update_text (Int (pos k) ∷ Int (pos value) ∷ []) old) → Makes (set_counter k value) old new r
sets k value = makes_laid update_text (Int (pos k) ∷ Int (pos value) ∷ []) (λ _. Update 0 (changing 0 key_terms update_terms))
    update_is update_plain (λ _. refl) update_edit (λ c. Holds (set_counter k value c)) (changed k value)
