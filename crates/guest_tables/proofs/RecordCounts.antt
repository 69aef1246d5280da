-- The numbers of records and of lots, counted outside a transaction.
use Rattle.std.proofs.Common.{◌≡◌, ℕ, List, [], ◌∷◌, map, codes, true, false, Ok, Err, Result, IfOk, IfErr, refl, ap, ◌∙◌}
use Rattle.sqlite.specs.declared.types.Value.TheVariants.{Null}
use Rattle.sqlite.specs.Order.{Row}
use Rattle.sqlite.specs.Program.{overlay}
use Rattle.sqlite.specs.Command.TheVariants.{Select}
use Rattle.sqlite_tied.specs.Compute.{everything}
use Rattle.sqlite.specs.declared.error.Error.{Error}
use Rattle.sqlite.specs.Listing.{understood, reads_listing}
use Rattle.sqlite.specs.Effect.{Database}
use Rattle.sqlite.specs.State.{State, HasCleanDisk, Survives, Shown, FailsToQuery, CommitsShowing}
use Rattle.sqlite.proofs.Callers.{IsPlain, command_of}
use Rattle.fuse_store_tables.specs.Content.{kept_row, lot_row}
use Rattle.fuse_keeper.specs.declared.fault.StoreFault.{StoreFault}
use Rattle.fuse_store_tables.specs.Faults.{IsOutside}
use Rattle.fuse_store_tables.specs.Clearing.{reached, counted_to}
use Rattle.fuse_store_tables.specs.inner.Columns.{shown_number}
use Rattle.sqlite_resolve.specs.Compile.{first}
use Rattle.guest_tables.proofs.any_schema.Queries.{IsSelectText}
use Rattle.guest_tables.proofs.any_schema.Counting.{count_query, counted_all}
use Rattle.guest_tables.proofs.any_schema.Reading.{read_held}
use Rattle.guest_tables.proofs.any_schema.Resting.{peeks}
use Rattle.guest_tables.specs.Layout.{guest_schema}
use Rattle.guest_tables.specs.Content.{GuestContent, Holds}
use Rattle.guest_tables.specs.Moves.{Rests, Serves}
use Rattle.guest_tables.proofs.CounterRows.{all_of}
use Rattle.guest_tables.proofs.Tables.{laid}

abbrev counts_of : List ℕ → ℕ → Type 0
counts_of text tree = command_of (understood guest_schema text) ≡ Select (record { lets = []; body = count_query tree [] }) (codes "count(*)" ∷ [])

-- a text that counts the rows of one table
module _ {X : Type 0} (row : X → Row) (rows_in : GuestContent → List X) (tree : ℕ) (text : List ℕ) (is : counts_of text tree)
    (plain : IsPlain (understood guest_schema text)) (unlisted : reads_listing guest_schema text ≡ false)
    (has : (c : GuestContent) (d : Database) → Holds c d → overlay d.trees [] tree ≡ map row (rows_in c)) where
  finds : (c : GuestContent) (old new : State) (rows : List Row) → Holds c old.now → Shown text [] old new rows → rows ≡ shown_number (counted_to (rows_in c)) ∷ []
  finds c old new rows at h =
      let answer = (read_held Holds guest_schema (λ k d g. g.schema) text [] _ is plain unlisted c old new rows at h).answer Null in
      counted_all row (λ _. true) Null (overlay old.now.trees []) [] [] (λ _. refl) tree (rows_in c) rows (has c old.now at) answer
      ∙ ap (λ (xs : List X). shown_number (counted_to xs) ∷ []) (all_of (rows_in c))

  count_serves : {Y : Type 0} (items : Y → List Row) (old new : State) (r : Result Y Error) → (HasCleanDisk new → IfOk r (λ x. Shown text [] old new (items x)))
      → (HasCleanDisk new → IfErr r (FailsToQuery text [] old new)) → Survives old new (CommitsShowing text [] old) → Serves (λ c. c) old new r
  count_serves items = peeks Holds (λ _. guest_schema) (λ c d h. h.schema) text [] (λ _. plain) items

  count_finds : {Y : Type 0} (items : Y → List Row) (old new : State) (r : Result Y Error) → (HasCleanDisk new → IfOk r (λ x. Shown text [] old new (items x)))
      → HasCleanDisk new → IfOk r (λ x. (c : GuestContent) → Rests c old → items x ≡ shown_number (counted_to (rows_in c)) ∷ [])
  count_finds items old new (Ok x) ok clean = λ c at. finds c old new (items x) at.holds (ok clean)
  count_finds items old new (Err e) ok clean = tt

-- ---- the value of a count

module _ (r : Result ℕ StoreFault) (rows : List Row) (IsThere : GuestContent → Type 0) (count : GuestContent → ℕ)
    (is : (c : GuestContent) → IsThere c → rows ≡ shown_number (reached (count c)) ∷ []) where
  pub told_value : IfOk r (λ n. (m : ℕ) → rows ≡ shown_number (reached m) ∷ [] → n ≡ m) → IfOk r (λ n. (c : GuestContent) → IsThere c → n ≡ count c)
  told_value told = by_case r told
    where
      by_case : (r : Result ℕ StoreFault) → IfOk r (λ n. (m : ℕ) → rows ≡ shown_number (reached m) ∷ [] → n ≡ m)
          → IfOk r (λ n. (c : GuestContent) → IsThere c → n ≡ count c)
      by_case (Ok n) told = λ c at. told (count c) (is c at)
      by_case (Err f) told = tt

  pub told_fault : IfErr r (λ f. (m : ℕ) → rows ≡ shown_number m ∷ [] → IsOutside f) → IfErr r (λ f. (c : GuestContent) → IsThere c → IsOutside f)
  told_fault told = by_case r told
    where
      by_case : (r : Result ℕ StoreFault) → IfErr r (λ f. (m : ℕ) → rows ≡ shown_number m ∷ [] → IsOutside f)
          → IfErr r (λ f. (c : GuestContent) → IsThere c → IsOutside f)
      by_case (Ok n) told = tt
      by_case (Err f) told = λ c at. told (reached (count c)) (is c at)

-- ---- records

abbrev pub kept_text : List ℕ
kept_text = codes "SELECT count(*) FROM kept"

kept_is : counts_of kept_text 4
unfolding understood everything
kept_is = refl

kept_plain : IsPlain (understood guest_schema kept_text)
unfolding understood everything
kept_plain = (refl, refl)

kept_unlisted : reads_listing guest_schema kept_text ≡ false
unfolding understood everything
kept_unlisted = refl

has_kept : (c : GuestContent) (d : Database) → Holds c d → overlay d.trees [] 4 ≡ map kept_row c.kept
has_kept c d at = (laid c d at).kept.0

pub kept_count_serves : {Y : Type 0} (items : Y → List Row) (old new : State) (r : Result Y Error)
    → (HasCleanDisk new → IfOk r (λ x. Shown kept_text [] old new (items x)))
    → (HasCleanDisk new → IfErr r (FailsToQuery kept_text [] old new)) → Survives old new (CommitsShowing kept_text [] old) → Serves (λ c. c) old new r
kept_count_serves = count_serves kept_row (λ c. c.kept) 4 kept_text kept_is kept_plain kept_unlisted has_kept

pub kept_count_finds : {Y : Type 0} (items : Y → List Row) (old new : State) (r : Result Y Error)
    → (HasCleanDisk new → IfOk r (λ x. Shown kept_text [] old new (items x)))
    → HasCleanDisk new → IfOk r (λ x. (c : GuestContent) → Rests c old → items x ≡ shown_number (counted_to c.kept) ∷ [])
kept_count_finds = count_finds kept_row (λ c. c.kept) 4 kept_text kept_is kept_plain kept_unlisted has_kept

-- ---- lots

abbrev pub lots_text : List ℕ
lots_text = codes "SELECT count(*) FROM lots"

lots_is : counts_of lots_text 3
unfolding understood everything
lots_is = refl

lots_plain : IsPlain (understood guest_schema lots_text)
unfolding understood everything
lots_plain = (refl, refl)

lots_unlisted : reads_listing guest_schema lots_text ≡ false
unfolding understood everything
lots_unlisted = refl

has_lots : (c : GuestContent) (d : Database) → Holds c d → overlay d.trees [] 3 ≡ map lot_row c.lots
has_lots c d at = (laid c d at).lots.0

pub lot_count_serves : {Y : Type 0} (items : Y → List Row) (old new : State) (r : Result Y Error)
    → (HasCleanDisk new → IfOk r (λ x. Shown lots_text [] old new (items x)))
    → (HasCleanDisk new → IfErr r (FailsToQuery lots_text [] old new)) → Survives old new (CommitsShowing lots_text [] old) → Serves (λ c. c) old new r
lot_count_serves = count_serves lot_row (λ c. c.lots) 3 lots_text lots_is lots_plain lots_unlisted has_lots

pub lot_count_finds : {Y : Type 0} (items : Y → List Row) (old new : State) (r : Result Y Error)
    → (HasCleanDisk new → IfOk r (λ x. Shown lots_text [] old new (items x)))
    → HasCleanDisk new → IfOk r (λ x. (c : GuestContent) → Rests c old → items x ≡ shown_number (counted_to c.lots) ∷ [])
lot_count_finds = count_finds lot_row (λ c. c.lots) 3 lots_text lots_is lots_plain lots_unlisted has_lots

-- ---- they only read

pub kept_select : IsSelectText (first kept_text)
unfolding first everything
kept_select = (_, refl)

pub lots_select : IsSelectText (first lots_text)
unfolding first everything
lots_select = (_, refl)
