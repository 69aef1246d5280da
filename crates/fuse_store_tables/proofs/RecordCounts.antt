-- The numbers of records and of lots, counted outside a transaction.
use Rattle.std.proofs.Common.{◌≡◌, ℕ, List, [], ◌∷◌, map, codes, true, false, Ok, Err, Result, IfOk, IfErr, refl, ap, ◌∙◌}
use Rattle.sqlite.specs.declared.types.Value.TheVariants.{Null}
use Rattle.sqlite.specs.Order.{Row}
use Rattle.sqlite.specs.Program.{overlay}
use Rattle.sqlite.specs.Command.TheVariants.{Select}
use Rattle.sqlite_tied.specs.Compute.{everything}
use Rattle.sqlite.specs.declared.error.Error.{Error}
use Rattle.sqlite.specs.Listing.{understood, reads_listing}
use Rattle.sqlite.specs.Effect.{Database}
use Rattle.sqlite.specs.State.{State, HasCleanDisk, Survives, Shown, FailsToQuery, CommitsShowing}
use Rattle.sqlite.proofs.Callers.{IsPlain, command_of}
use Rattle.fuse_store_tables.specs.Layout.{schema_for}
use Rattle.fuse_store_tables.specs.Content.{Content, Holds, kept_row, lot_row}
use Rattle.fuse_keeper.specs.declared.fault.StoreFault.{StoreFault}
use Rattle.fuse_store_tables.specs.Faults.{IsOutside}
use Rattle.fuse_store_tables.specs.Clearing.{reached, counted_to}
use Rattle.fuse_store_tables.specs.inner.Columns.{shown_number}
use Rattle.fuse_store_tables.specs.Moves.{Rests, Serves}
use Rattle.fuse_store_tables.proofs.CounterRows.{all_of}
use Rattle.fuse_store_tables.proofs.Counting.{count_query, counted_all}
use Rattle.fuse_store_tables.specs.declared.version.Layout.{Layout}
use Rattle.fuse_store_tables.specs.declared.version.Layout.TheVariants.{Second, Third}
use Rattle.fuse_store_tables.proofs.Laid.{peeks_laid, read_held_laid}
use Rattle.fuse_store_tables.proofs.Tables.{laid}

abbrev counts_of : List ℕ → ℕ → Type 0
counts_of text tree = (l : Layout) → command_of (understood (schema_for l) text) ≡ Select (record { lets = []; body = count_query tree [] }) (codes "count(*)" ∷ [])

-- a text that counts the rows of one table
module _ {X : Type 0} (row : X → Row) (rows_in : Content → List X) (tree : ℕ) (text : List ℕ) (is : counts_of text tree)
    (plain : (l : Layout) → IsPlain (understood (schema_for l) text)) (unlisted : (l : Layout) → reads_listing (schema_for l) text ≡ false)
    (has : (c : Content) (d : Database) → Holds c d → overlay d.trees [] tree ≡ map row (rows_in c)) where
  finds : (c : Content) (old new : State) (rows : List Row) → Holds c old.now → Shown text [] old new rows → rows ≡ shown_number (counted_to (rows_in c)) ∷ []
  finds c old new rows at h =
      let answer = (read_held_laid text [] _ is plain unlisted c old new rows at h).answer Null in
      counted_all row (λ _. true) Null (overlay old.now.trees []) [] [] (λ _. refl) tree (rows_in c) rows (has c old.now at) answer
      ∙ ap (λ (xs : List X). shown_number (counted_to xs) ∷ []) (all_of (rows_in c))

  count_serves : {Y : Type 0} (items : Y → List Row) (old new : State) (r : Result Y Error) → (HasCleanDisk new → IfOk r (λ x. Shown text [] old new (items x)))
      → (HasCleanDisk new → IfErr r (FailsToQuery text [] old new)) → Survives old new (CommitsShowing text [] old) → Serves (λ c. c) old new r
  count_serves items = peeks_laid text [] plain items

  count_finds : {Y : Type 0} (items : Y → List Row) (old new : State) (r : Result Y Error) → (HasCleanDisk new → IfOk r (λ x. Shown text [] old new (items x)))
      → HasCleanDisk new → IfOk r (λ x. (c : Content) → Rests c old → items x ≡ shown_number (counted_to (rows_in c)) ∷ [])
  count_finds items old new (Ok x) ok clean = λ c at. finds c old new (items x) at.holds (ok clean)
  count_finds items old new (Err e) ok clean = tt

-- ---- the value of a count

module _ (r : Result ℕ StoreFault) (rows : List Row) (IsThere : Content → Type 0) (count : Content → ℕ)
    (is : (c : Content) → IsThere c → rows ≡ shown_number (reached (count c)) ∷ []) where
  pub told_value : IfOk r (λ n. (m : ℕ) → rows ≡ shown_number (reached m) ∷ [] → n ≡ m) → IfOk r (λ n. (c : Content) → IsThere c → n ≡ count c)
  told_value told = by_case r told
    where
      by_case : (r : Result ℕ StoreFault) → IfOk r (λ n. (m : ℕ) → rows ≡ shown_number (reached m) ∷ [] → n ≡ m)
          → IfOk r (λ n. (c : Content) → IsThere c → n ≡ count c)
      by_case (Ok n) told = λ c at. told (count c) (is c at)
      by_case (Err f) told = tt

  pub told_fault : IfErr r (λ f. (m : ℕ) → rows ≡ shown_number m ∷ [] → IsOutside f) → IfErr r (λ f. (c : Content) → IsThere c → IsOutside f)
  told_fault told = by_case r told
    where
      by_case : (r : Result ℕ StoreFault) → IfErr r (λ f. (m : ℕ) → rows ≡ shown_number m ∷ [] → IsOutside f)
          → IfErr r (λ f. (c : Content) → IsThere c → IsOutside f)
      by_case (Ok n) told = tt
      by_case (Err f) told = λ c at. told (reached (count c)) (is c at)

-- ---- records

abbrev pub kept_text : List ℕ
kept_text = codes "SELECT count(*) FROM kept"

kept_is : counts_of kept_text 10
unfolding understood everything
kept_is Second = refl
kept_is Third = refl

kept_plain : (l : Layout) → IsPlain (understood (schema_for l) kept_text)
unfolding understood everything
kept_plain Second = (refl, refl)
kept_plain Third = (refl, refl)

kept_unlisted : (l : Layout) → reads_listing (schema_for l) kept_text ≡ false
unfolding understood everything
kept_unlisted Second = refl
kept_unlisted Third = refl

has_kept : (c : Content) (d : Database) → Holds c d → overlay d.trees [] 10 ≡ map kept_row c.kept
has_kept c d at = (laid c d at).kept.0

pub kept_count_serves : {Y : Type 0} (items : Y → List Row) (old new : State) (r : Result Y Error)
    → (HasCleanDisk new → IfOk r (λ x. Shown kept_text [] old new (items x)))
    → (HasCleanDisk new → IfErr r (FailsToQuery kept_text [] old new)) → Survives old new (CommitsShowing kept_text [] old) → Serves (λ c. c) old new r
kept_count_serves = count_serves kept_row (λ c. c.kept) 10 kept_text kept_is kept_plain kept_unlisted has_kept

pub kept_count_finds : {Y : Type 0} (items : Y → List Row) (old new : State) (r : Result Y Error)
    → (HasCleanDisk new → IfOk r (λ x. Shown kept_text [] old new (items x)))
    → HasCleanDisk new → IfOk r (λ x. (c : Content) → Rests c old → items x ≡ shown_number (counted_to c.kept) ∷ [])
kept_count_finds = count_finds kept_row (λ c. c.kept) 10 kept_text kept_is kept_plain kept_unlisted has_kept

-- ---- lots

abbrev pub lots_text : List ℕ
lots_text = codes "SELECT count(*) FROM lots"

lots_is : counts_of lots_text 9
unfolding understood everything
lots_is Second = refl
lots_is Third = refl

lots_plain : (l : Layout) → IsPlain (understood (schema_for l) lots_text)
unfolding understood everything
lots_plain Second = (refl, refl)
lots_plain Third = (refl, refl)

lots_unlisted : (l : Layout) → reads_listing (schema_for l) lots_text ≡ false
unfolding understood everything
lots_unlisted Second = refl
lots_unlisted Third = refl

has_lots : (c : Content) (d : Database) → Holds c d → overlay d.trees [] 9 ≡ map lot_row c.lots
has_lots c d at = (laid c d at).lots.0

pub lot_count_serves : {Y : Type 0} (items : Y → List Row) (old new : State) (r : Result Y Error)
    → (HasCleanDisk new → IfOk r (λ x. Shown lots_text [] old new (items x)))
    → (HasCleanDisk new → IfErr r (FailsToQuery lots_text [] old new)) → Survives old new (CommitsShowing lots_text [] old) → Serves (λ c. c) old new r
lot_count_serves = count_serves lot_row (λ c. c.lots) 9 lots_text lots_is lots_plain lots_unlisted has_lots

pub lot_count_finds : {Y : Type 0} (items : Y → List Row) (old new : State) (r : Result Y Error)
    → (HasCleanDisk new → IfOk r (λ x. Shown lots_text [] old new (items x)))
    → HasCleanDisk new → IfOk r (λ x. (c : Content) → Rests c old → items x ≡ shown_number (counted_to c.lots) ∷ [])
lot_count_finds = count_finds lot_row (λ c. c.lots) 9 lots_text lots_is lots_plain lots_unlisted has_lots
