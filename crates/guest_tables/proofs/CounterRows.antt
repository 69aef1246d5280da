-- The statements on the table of counters.
use Rattle.std.proofs.Common.{negsuc, ◌≡◌, ℕ, pos, List, [], ◌∷◌, map, filter, codes, true, false, ◌&&◌, Some, None, Ok, Err}
use Rattle.std.proofs.Common.{Result, IfOk, IfErr, refl, ap, subst, ◌∙◌}
use Rattle.std.specs.Int.{w64, cast_signed}
use Rattle.std.specs.List.{list_all}
use Rattle.std.specs.Ordering.{is_eq}
use Rattle.sqlite.specs.declared.types.Value.TheVariants.{Null, Int}
use Rattle.sqlite.specs.Order.{Row}
use Rattle.sqlite_trees.specs.Tree.{IsTable}
use Rattle.sqlite_value.specs.declared.keys.Collation.TheVariants.{Binary}
use Rattle.sqlite_sql.specs.declared.ops.BinaryOp.TheVariants.{Compare}
use Rattle.sqlite_sql.specs.declared.ops.CompareOp.TheVariants.{Eq}
use Rattle.sqlite_sql.specs.Ops.{binary, is_true, from_truth}
use Rattle.sqlite.specs.Term.{Term, lit, col, op2, holds}
use Rattle.sqlite.specs.Program.{overlay}
use Rattle.sqlite.specs.Command.TheVariants.{Update, Select}
use Rattle.sqlite_rules.specs.Cast.{cast_row}
use Rattle.sqlite_tied.specs.Compute.{everything}
use Rattle.sqlite.specs.declared.error.Error.{Error}
use Rattle.sqlite.specs.Listing.{understood, reads_listing}
use Rattle.sqlite.specs.State.{State, HasCleanDisk, Survives, CommitsBy, Writes, Shown, FailsToQuery, CommitsShowing}
use Rattle.sqlite.proofs.Callers.{IsPlain, command_of, statement_of}
use Rattle.fuse_store_tables.specs.Layout.{meta}
use Rattle.fuse_store_tables.specs.Content.{Counter, has_by, counter_key, valued}
use Rattle.fuse_store_tables.specs.inner.Performing.{Ran}
use Rattle.guest_tables.proofs.any_schema.Tables.{wrote}
use Rattle.guest_tables.proofs.any_schema.Keyed.{row_cmp_nat}
use Rattle.guest_tables.proofs.any_schema.RowLemmas.{cast_int, cast_null}
use Rattle.guest_tables.proofs.any_schema.Reading.{truth_of}
use Rattle.guest_tables.proofs.any_schema.Ordered.{ordered_query, answered_in_order, rises_from}
use Rattle.sqlite_resolve.specs.Compile.{first}
use Rattle.guest_tables.proofs.any_schema.Edits.{IsEditText}
use Rattle.guest_tables.proofs.any_schema.Queries.{IsSelectText}
use Rattle.guest_tables.proofs.any_schema.Writing.{makes}
use Rattle.guest_tables.proofs.any_schema.Reading.{looks, read_held}
use Rattle.guest_tables.proofs.any_schema.Resting.{peeks}
use Rattle.guest_tables.specs.Layout.{guest_schema}
use Rattle.guest_tables.specs.Content.{GuestContent, Holds, stored, counter_row, shown_counter}
use Rattle.guest_tables.specs.Content.{set_counter}
use Rattle.guest_tables.specs.Moves.{Inside, Rests, Makes, Serves}
use Rattle.guest_tables.proofs.Updating.{changing, changes}
use Rattle.guest_tables.proofs.Tables.{laid, meta_listed, only_counters}

abbrev pub key_terms : List Term
key_terms = op2 (Compare Eq Binary) (col 1 0) (col 0 0) ∷ []

pub key_tests : (k : ℕ) (params : Row) (x : Counter) → list_all (holds ((Int (pos k) ∷ params) ∷ counter_row x ∷ [])) key_terms ≡ has_by counter_key k x
unfolding binary
key_tests k params x = ap (λ o. is_true (from_truth (Some (is_eq o))) && true) (row_cmp_nat (counter_key x) k) ∙ truth_of (has_by counter_key k x)

-- ---- all of them

abbrev pub select_text : List ℕ
select_text = codes "SELECT v FROM meta ORDER BY k"

select_is : command_of (understood guest_schema select_text) ≡ Select (record { lets = []; body = ordered_query 0 [] (col 1 2 ∷ []) (lit (Int (negsuc 0))) })
    (codes "v" ∷ [])
unfolding understood everything
select_is = refl

select_plain : IsPlain (understood guest_schema select_text)
unfolding understood everything
select_plain = (refl, refl)

pub select_reads : IsSelectText (first select_text)
unfolding first everything
select_reads = (_, refl)

select_unlisted : reads_listing guest_schema select_text ≡ false
unfolding understood everything
select_unlisted = refl

pub all_of : {X : Type 0} (xs : List X) → filter (λ _. true) xs ≡ xs
all_of [] = refl
all_of (x ∷ xs) = ap (λ more. x ∷ more) (all_of xs)

finds : (c : GuestContent) (old new : State) (rows : List Row) → Holds c old.now → Shown select_text [] old new rows → rows ≡ map shown_counter c.counters
finds c old new rows at h =
    let was = (laid c old.now at).counters in
    let answer = (read_held Holds guest_schema (λ c d h. h.schema) select_text [] _ select_is select_plain select_unlisted c old new rows at h).answer Null in
    answered_in_order counter_key (λ c. Null ∷ Int (cast_signed w64 c.value) ∷ []) (λ _. true) Null (overlay old.now.trees []) [] [] (λ _. refl) (col 1 2
    ∷ []) (lit (Int (negsuc 0))) 0 c.counters rows was.0
    (rises_from counter_key counter_row (λ _. refl) c.counters (subst IsTable was.0 was.1)) answer ∙ ap (map shown_counter) (all_of c.counters)

pub look_makes : {X : Type 0} (items : X → List Row) (old new : State) (r : Result X Error)
    → (HasCleanDisk new → IfOk r (λ x. Shown select_text [] old new (items x)))
    → (HasCleanDisk new → IfErr r (FailsToQuery select_text [] old new)) → Survives old new (CommitsShowing select_text [] old) → Makes (λ c. c) old new r
look_makes items = looks Holds guest_schema (λ c d h. h.schema) select_text [] _ select_is select_plain select_reads items

pub look_finds : {X : Type 0} (items : X → List Row) (old new : State) (r : Result X Error)
    → (HasCleanDisk new → IfOk r (λ x. Shown select_text [] old new (items x)))
    → HasCleanDisk new → IfOk r (λ x. (c : GuestContent) → Inside c old → items x ≡ map shown_counter c.counters)
look_finds items old new (Ok x) ok clean = λ c at. finds c old new (items x) at.holds (ok clean)
look_finds items old new (Err e) ok clean = tt

pub peek_serves : {X : Type 0} (items : X → List Row) (old new : State) (r : Result X Error)
    → (HasCleanDisk new → IfOk r (λ x. Shown select_text [] old new (items x)))
    → (HasCleanDisk new → IfErr r (FailsToQuery select_text [] old new)) → Survives old new (CommitsShowing select_text [] old) → Serves (λ c. c) old new r
peek_serves items = peeks Holds (λ _. guest_schema) (λ c d h. h.schema) select_text [] (λ _. select_plain) items

pub peek_finds : {X : Type 0} (items : X → List Row) (old new : State) (r : Result X Error)
    → (HasCleanDisk new → IfOk r (λ x. Shown select_text [] old new (items x)))
    → HasCleanDisk new → IfOk r (λ x. (c : GuestContent) → Rests c old → items x ≡ map shown_counter c.counters)
peek_finds items old new (Ok x) ok clean = λ c at. finds c old new (items x) at.holds (ok clean)
peek_finds items old new (Err e) ok clean = tt

-- ---- one changed

abbrev pub update_text : List ℕ
update_text = codes "UPDATE meta SET v = ?2 WHERE k = ?1"

abbrev update_terms : List Term
update_terms = col 1 0 ∷ lit Null ∷ col 0 1 ∷ []

update_is : command_of (understood guest_schema update_text) ≡ Update 0 (changing 0 key_terms update_terms)
unfolding understood everything
update_is = refl

update_plain : IsPlain (understood guest_schema update_text)
unfolding understood everything
update_plain = (refl, refl)

pub update_edit : IsEditText (first update_text)
unfolding first everything
update_edit = tt

cast_as : (x : Counter) → cast_row meta (counter_row x) ≡ counter_row x
cast_as x = rw (cast_int (pos x.key), cast_int (cast_signed w64 x.value), cast_null)

changed : (k value : ℕ) (c : GuestContent) (old new : State) (n : ℕ) → Holds c old.now → Writes old new None (Update 0 (changing 0 key_terms update_terms))
    (statement_of update_text (understood guest_schema update_text)) (Int (pos k) ∷ Int (cast_signed w64 value) ∷ []) n
    → Holds (set_counter k value c) new.now
changed k value c old new n at w =
    let was = (laid c old.now at).counters in
    let now = changes counter_key counter_row (λ _. refl) k (valued value) (λ _. refl) 0 meta meta_listed (λ y. counter_row (valued value y))
    (λ y. cast_as (valued value y)) key_terms update_terms (Int (pos k) ∷ Int (cast_signed w64 value) ∷ [])
    (key_tests k (Int (cast_signed w64 value) ∷ [])) (λ y. refl) (λ _. refl) c.counters old new _ n at.schema was.0 was.1 w in
    wrote guest_schema (stored c) (stored (set_counter k value c)) meta old.now new.now at now.2 w.sound (only_counters c _) now.0 now.1

pub sets : (k value : ℕ) (old new : State) (r : Result (Unit {0}) Error) → (HasCleanDisk new → Ran update_text (Int (pos k) ∷ Int (cast_signed w64 value) ∷ []) old new r)
    → Survives old new (CommitsBy update_text (Int (pos k) ∷ Int (cast_signed w64 value) ∷ []) old) → Makes (set_counter k value) old new r
sets k value = makes Holds guest_schema (λ c d h. h.schema) update_text (Int (pos k) ∷ Int (cast_signed w64 value) ∷ []) (Update 0 (changing 0 key_terms update_terms))
    update_is update_plain refl update_edit (λ c. Holds (set_counter k value c)) (changed k value)
