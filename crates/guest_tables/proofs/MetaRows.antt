-- What an opening reads of `meta`.
use Rattle.std.proofs.Common.{negsuc, ◌≡◌, ◌<◌, ℕ, pos, List, [], ◌∷◌, length, map, codes, true, false, Bool, cond, ◌&&◌, Some, Ok, Err, Result, IfOk, IfErr, refl, ap, subst, arith, ◌∙◌}
use Rattle.std.specs.Int.{w64, cast_signed}
use Rattle.std.specs.List.{list_all}
use Rattle.std.specs.Option.{option_to_list}
use Rattle.std.specs.Ordering.{is_eq}
use Rattle.std.specs.List.Sorted.{IsPermutation}
use Rattle.sqlite.specs.declared.types.Value.{Value}
use Rattle.sqlite.specs.declared.types.Value.TheVariants.{Null, Int}
use Rattle.sqlite.specs.Values.{IsInt}
use Rattle.sqlite.specs.Order.{Row, column}
use Rattle.sqlite.specs.Effect.{Database}
use Rattle.sqlite_trees.specs.Tree.{IsTable}
use Rattle.sqlite_value.specs.declared.keys.Collation.TheVariants.{Binary}
use Rattle.sqlite_sql.specs.declared.ops.BinaryOp.TheVariants.{Compare}
use Rattle.sqlite_sql.specs.declared.ops.CompareOp.TheVariants.{Eq}
use Rattle.sqlite_sql.specs.Ops.{binary, is_true, from_truth}
use Rattle.sqlite.specs.Term.{Term, lit, col, op2, holds}
use Rattle.sqlite.specs.Program.{overlay}
use Rattle.sqlite.specs.Command.TheVariants.{Select}
use Rattle.sqlite_resolve.specs.Compile.{first}
use Rattle.sqlite_tied.specs.Compute.{everything}
use Rattle.sqlite.specs.declared.error.Error.{Error}
use Rattle.sqlite.specs.Listing.{understood, reads_listing}
use Rattle.sqlite.specs.State.{State, HasCleanDisk, Survives, Shown, FailsToQuery, CommitsShowing}
use Rattle.sqlite.proofs.Callers.{IsPlain, command_of}
use Rattle.fuse_store_tables.specs.Content.{Counter, counter_key, has_by, at_by}
use Rattle.fuse_store_tables.specs.Moves.{InsideAs, Takes}
use Rattle.fuse_store_tables.specs.Saying.{Shows}
use Rattle.guest_tables.proofs.any_schema.Keyed.{row_cmp_nat, found_rows}
use Rattle.guest_tables.proofs.any_schema.Ordered.{ordered_query, answered_in_order, rises_from}
use Rattle.guest_tables.proofs.any_schema.Queries.{IsSelectText, returns_none}
use Rattle.guest_tables.proofs.any_schema.Reading.{looks, read, plain_query, answered, only, truth_of}
use Rattle.guest_tables.specs.Layout.{guest_schema}
use Rattle.guest_tables.specs.Content.{GuestContent, counter_row, shown_counter}
use Rattle.guest_tables.specs.Opening.{IsLaid}
use Rattle.guest_tables.specs.Saying.{version_text, ShowsVersion}
use Rattle.guest_tables.specs.inner.Columns.{shown_meta}
use Rattle.guest_tables.proofs.CounterRows.{all_of}
use Rattle.guest_tables.proofs.Tables.{laid}

-- ---- the version

abbrev version_terms : List Term
version_terms = op2 (Compare Eq Binary) (col 1 0) (lit (Int (pos 16))) ∷ []

version_is : command_of (understood guest_schema version_text) ≡ Select (record { lets = []; body = plain_query 0 version_terms (col 1 2 ∷ []) }) (codes "v" ∷ [])
unfolding understood everything
version_is = refl

version_plain : IsPlain (understood guest_schema version_text)
unfolding understood everything
version_plain = (refl, refl)

version_unlisted : reads_listing guest_schema version_text ≡ false
unfolding understood everything
version_unlisted = refl

pub version_select : IsSelectText (first version_text)
unfolding first everything
version_select = (_, refl)

tests_version : (c : Counter) → list_all (holds ([] ∷ counter_row c ∷ [])) version_terms ≡ has_by counter_key 16 c
unfolding binary
tests_version c = ap (λ o. is_true (from_truth (Some (is_eq o))) && true) (row_cmp_nat c.key 16) ∙ truth_of (has_by counter_key 16 c)

pub version_looks : {X : Type 0} (items : X → List Row) (old new : State) (r : Result X Error)
    → (HasCleanDisk new → IfOk r (λ x. Shown version_text [] old new (items x)))
    → (HasCleanDisk new → IfErr r (FailsToQuery version_text [] old new)) → Survives old new (CommitsShowing version_text [] old)
    → Takes IsLaid IsLaid old new r
version_looks items = looks IsLaid guest_schema (λ c d h. h.holds.schema) version_text [] _ version_is version_plain version_select items

version_found : (c : GuestContent) (old new : State) (rows : List Row) → InsideAs (IsLaid c) old → Shown version_text [] old new rows
    → rows ≡ map shown_counter (option_to_list (at_by counter_key 16 c.counters))
version_found c old new rows at h =
    let was = (laid c old.now at.holds.holds).counters in
    let answer = (read IsLaid guest_schema (λ k d g. g.holds.schema) version_text [] _ version_is version_plain version_unlisted c old new rows at h).answer Null in
    let same = answered counter_row (has_by counter_key 16) Null (overlay old.now.trees []) version_terms [] tests_version 0 (col 1 2 ∷ []) c.counters rows was.0
    answer in
    only (at_by counter_key 16 c.counters) shown_counter rows (subst (λ xs. IsPermutation (map shown_counter xs) rows) (found_rows counter_key counter_row
    (λ _. refl) 16 c.counters (subst IsTable was.0 was.1)) same)

pub version_finds : {X : Type 0} (items : X → List Row) (old new : State) (r : Result X Error)
    → (HasCleanDisk new → IfOk r (λ x. Shown version_text [] old new (items x)))
    → HasCleanDisk new → IfOk r (λ x. (c : GuestContent) → InsideAs (IsLaid c) old → items x ≡ map shown_counter (option_to_list (at_by counter_key 16 c.counters)))
version_finds items old new (Ok x) ok clean = λ c at. version_found c old new (items x) at (ok clean)
version_finds items old new (Err e) ok clean = tt

shows : (text : List ℕ) → IsSelectText (first text) → (old new : State) (rows : List Row) → Shown text [] old new rows → Shows text old.now rows
unfolding Shown
shows text selects old new rows h =
    let none = returns_none text selects old.now.schema h.0 h.1.is in
    let it = rw none at h.2 in
    (h.0, h.1.is, h.1.now, it.0, it.1, it.2)

pub says_version : {X : Type 0} (items : X → List Row) (old new : State) (r : Result X Error)
    → (HasCleanDisk new → IfOk r (λ x. Shown version_text [] old new (items x))) → HasCleanDisk new → IfOk r (λ x. ShowsVersion old.now (items x))
says_version items old new (Ok x) ok clean = shows version_text version_select old new (items x) (ok clean)
says_version items old new (Err e) ok clean = tt

-- ---- all of them

abbrev pub meta_text : List ℕ
meta_text = codes "SELECT k, v FROM meta ORDER BY k"

abbrev no_limit : Term
no_limit = lit (Int (negsuc 0))

meta_is : command_of (understood guest_schema meta_text) ≡ Select (record { lets = []; body = ordered_query 0 [] (col 1 0 ∷ col 1 2 ∷ []) no_limit }) (codes "k"
    ∷ codes "v" ∷ [])
unfolding understood everything
meta_is = refl

meta_plain : IsPlain (understood guest_schema meta_text)
unfolding understood everything
meta_plain = (refl, refl)

meta_unlisted : reads_listing guest_schema meta_text ≡ false
unfolding understood everything
meta_unlisted = refl

pub meta_select : IsSelectText (first meta_text)
unfolding first everything
meta_select = (_, refl)

pub meta_looks : {X : Type 0} (items : X → List Row) (old new : State) (r : Result X Error)
    → (HasCleanDisk new → IfOk r (λ x. Shown meta_text [] old new (items x)))
    → (HasCleanDisk new → IfErr r (FailsToQuery meta_text [] old new)) → Survives old new (CommitsShowing meta_text [] old)
    → Takes IsLaid IsLaid old new r
meta_looks items = looks IsLaid guest_schema (λ c d h. h.holds.schema) meta_text [] _ meta_is meta_plain meta_select items

meta_found : (c : GuestContent) (old new : State) (rows : List Row) → InsideAs (IsLaid c) old → Shown meta_text [] old new rows → rows ≡ map shown_meta c.counters
meta_found c old new rows at h =
    let was = (laid c old.now at.holds.holds).counters in
    let answer = (read IsLaid guest_schema (λ k d g. g.holds.schema) meta_text [] _ meta_is meta_plain meta_unlisted c old new rows at h).answer Null in
    answered_in_order counter_key (λ x. Null ∷ Int (cast_signed w64 x.value) ∷ []) (λ _. true) Null (overlay old.now.trees []) [] [] (λ _. refl)
    (col 1 0 ∷ col 1 2 ∷ []) no_limit 0 c.counters rows was.0
    (rises_from counter_key counter_row (λ _. refl) c.counters (subst IsTable was.0 was.1)) answer ∙ ap (map shown_meta) (all_of c.counters)

pub meta_finds : {X : Type 0} (items : X → List Row) (old new : State) (r : Result X Error)
    → (HasCleanDisk new → IfOk r (λ x. Shown meta_text [] old new (items x)))
    → HasCleanDisk new → IfOk r (λ x. (c : GuestContent) → InsideAs (IsLaid c) old → items x ≡ map shown_meta c.counters)
meta_finds items old new (Ok x) ok clean = λ c at. meta_found c old new (items x) at (ok clean)
meta_finds items old new (Err e) ok clean = tt
