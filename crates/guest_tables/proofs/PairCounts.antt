-- The number of pairs, counted outside a transaction.
use Rattle.std.proofs.Common.{◌≡◌, ℕ, List, [], ◌∷◌, map, filter, length, codes, true, false, Ok, Err, Result, IfOk, IfErr, refl, sym, ap, ◌∙◌}
use Rattle.std.proofs.lemmas.List.{length-map}
use Rattle.std.proofs.lemmas.List.Sorted.{length_permutation}
use Rattle.sqlite.specs.declared.types.Value.TheVariants.{Null}
use Rattle.sqlite.specs.Order.{Row}
use Rattle.sqlite.specs.Program.{overlay}
use Rattle.sqlite.specs.Command.TheVariants.{Select}
use Rattle.sqlite_tied.specs.Compute.{everything}
use Rattle.sqlite.specs.declared.error.Error.{Error}
use Rattle.sqlite.specs.Listing.{understood, reads_listing}
use Rattle.sqlite.specs.State.{State, HasCleanDisk, Survives, Shown, FailsToQuery, CommitsShowing}
use Rattle.sqlite.proofs.Callers.{IsPlain, command_of}
use Rattle.sqlite_resolve.specs.Compile.{first}
use Rattle.fuse_keeper.specs.declared.fault.StoreFault.{StoreFault}
use Rattle.fuse_store_tables.specs.Faults.{IsOutside}
use Rattle.fuse_store_tables.specs.Clearing.{reached, counted_to}
use Rattle.fuse_store_tables.specs.inner.Columns.{shown_number}
use Rattle.guest_tables.proofs.any_schema.Counting.{count_query, counted_all}
use Rattle.guest_tables.proofs.any_schema.Queries.{IsSelectText}
use Rattle.guest_tables.proofs.any_schema.Reading.{read_held}
use Rattle.guest_tables.proofs.any_schema.Resting.{peeks}
use Rattle.guest_tables.specs.Layout.{guest_schema}
use Rattle.guest_tables.specs.Rows.{PairRow, pair_row, pair_of}
use Rattle.guest_tables.specs.Content.{GuestContent, Holds}
use Rattle.guest_tables.specs.Holding.{pairs_in}
use Rattle.guest_tables.specs.Moves.{Rests, Serves}
use Rattle.guest_tables.proofs.PairRows.{guest_known}
use Rattle.guest_tables.proofs.PairTables.{has_pairs, pairs_apart}
use Rattle.guest_tables.proofs.PairsOfRows.{pairs_are}

abbrev pub count_text : List ℕ
count_text = codes "SELECT count(*) FROM pairs"

count_is : command_of (understood guest_schema count_text) ≡ Select (record { lets = []; body = count_query 1 [] }) (codes "count(*)" ∷ [])
unfolding understood everything
count_is = refl

count_plain : IsPlain (understood guest_schema count_text)
unfolding understood everything
count_plain = (refl, refl)

count_unlisted : reads_listing guest_schema count_text ≡ false
unfolding understood everything
count_unlisted = refl

pub count_selects : IsSelectText (first count_text)
unfolding first everything
count_selects = (_, refl)

all_of : (rows : List PairRow) → filter (λ _. true) rows ≡ rows
all_of [] = refl
all_of (r ∷ rows) = ap (λ l. r ∷ l) (all_of rows)

finds : (c : GuestContent) (old new : State) (rows : List Row) → Holds c old.now → Shown count_text [] old new rows
    → rows ≡ shown_number (counted_to c.pairs) ∷ []
finds c old new rows at h =
    let answer = (read_held Holds guest_schema guest_known count_text [] _ count_is count_plain count_unlisted c old new rows at h).answer Null in
    counted_all pair_row (λ _. true) Null (overlay old.now.trees []) [] [] (λ _. refl) 1 c.pairs rows (has_pairs c old.now at).0 answer
    ∙ ap (λ (xs : List PairRow). shown_number (counted_to xs) ∷ []) (all_of c.pairs)

pub count_serves : {Y : Type 0} (items : Y → List Row) (old new : State) (r : Result Y Error)
    → (HasCleanDisk new → IfOk r (λ x. Shown count_text [] old new (items x)))
    → (HasCleanDisk new → IfErr r (FailsToQuery count_text [] old new)) → Survives old new (CommitsShowing count_text [] old) → Serves (λ c. c) old new r
count_serves items = peeks Holds (λ _. guest_schema) (λ c d h. h.schema) count_text [] (λ _. count_plain) items

pub count_finds : {Y : Type 0} (items : Y → List Row) (old new : State) (r : Result Y Error)
    → (HasCleanDisk new → IfOk r (λ x. Shown count_text [] old new (items x)))
    → HasCleanDisk new → IfOk r (λ x. (c : GuestContent) → Rests c old → items x ≡ shown_number (counted_to c.pairs) ∷ [])
count_finds items old new (Ok x) ok clean = λ c at. finds c old new (items x) at.holds (ok clean)
count_finds items old new (Err e) ok clean = tt

-- ---- the value

pairs_counted : (c : GuestContent) (s : State) → Rests c s → length c.pairs ≡ length (pairs_in c)
pairs_counted c s at =
    sym (length_permutation (map pair_of c.pairs) (pairs_in c) (pairs_are c.pairs (pairs_apart c s.now at.holds)) ∙ length-map c.pairs pair_of)

pub pairs_told : (r : Result ℕ StoreFault) (rows : List Row) (s : State)
    → ((c : GuestContent) → Rests c s → rows ≡ shown_number (counted_to c.pairs) ∷ [])
    → IfOk r (λ n. (m : ℕ) → rows ≡ shown_number (reached m) ∷ [] → n ≡ m) → IfOk r (λ n. (c : GuestContent) → Rests c s → n ≡ length (pairs_in c))
pairs_told (Ok n) rows s are told = λ c at. told (length c.pairs) (are c at) ∙ pairs_counted c s at
pairs_told (Err f) rows s are told = tt

pub pairs_untold : (r : Result ℕ StoreFault) (rows : List Row) (s : State)
    → ((c : GuestContent) → Rests c s → rows ≡ shown_number (counted_to c.pairs) ∷ [])
    → IfErr r (λ f. (m : ℕ) → rows ≡ shown_number m ∷ [] → IsOutside f) → IfErr r (λ f. (c : GuestContent) → Rests c s → IsOutside f)
pairs_untold (Ok n) rows s are told = tt
pairs_untold (Err f) rows s are told = λ c at. told (counted_to c.pairs) (are c at)
