-- The statements that show the pairs of a slice in their order.
use Rattle.std.proofs.Common.{◌≡◌, ℕ, pos, List, [], ◌∷◌, map, take, filter, reverse, codes, Bool, true, false, Ok, Err, Result, IfOk, IfErr, Equal, refl, sym, ap, subst, ◌∙◌}
use Rattle.std.specs.List.{list_all}
use Rattle.std.specs.List.Sorted.{IsPermutation}
use Rattle.std.specs.Ordering.{is_gt, ordering_then}
use Rattle.std.proofs.lemmas.List.{take-map}
use Rattle.std.proofs.lemmas.List.Sorted.{IsPermutation-map, IsPermutation-sym, IsPermutation-trans, IsPermutation-reverse}
use Rattle.sqlite.specs.declared.types.Value.TheVariants.{Null, Int, Blob}
use Rattle.sqlite.specs.Order.{Row}
use Rattle.sqlite_trees.specs.Tree.{IsAscending}
use Rattle.sqlite_trees.proofs.ListLemmas.{all_of, map-map, filter-map, ascending-filter, ascending-map, IsPermutation-filter}
use Rattle.sqlite_value.specs.Order.{value_cmp}
use Rattle.sqlite_value.specs.declared.keys.Key.{Key}
use Rattle.sqlite_value.proofs.OrderLemmas.{value_cmp-Blob}
use Rattle.sqlite.specs.Term.{Term, col, holds}
use Rattle.sqlite.specs.Program.{overlay}
use Rattle.sqlite.specs.Query.{Query, IsAnswerAs}
use Rattle.sqlite.specs.Command.TheVariants.{Select}
use Rattle.sqlite_tied.specs.Compute.{everything}
use Rattle.sqlite.specs.declared.error.Error.{Error}
use Rattle.sqlite.specs.Listing.{understood, reads_listing}
use Rattle.sqlite.specs.State.{State, HasCleanDisk, Survives, Shown, FailsToQuery, CommitsShowing}
use Rattle.sqlite.proofs.Callers.{IsPlain, command_of}
use Rattle.sqlite_resolve.specs.Compile.{first}
use Rattle.guest_frames.specs.Frames.{PairContent}
use Rattle.fuse_guest.specs.Pairs.{key_order, is_same_key}
use Rattle.fuse_guest.specs.Telling.{turned_if}
use Rattle.guest_tables.proofs.any_schema.Queries.{IsSelectText}
use Rattle.guest_tables.proofs.any_schema.Reading.{looks, read}
use Rattle.guest_tables.proofs.any_schema.SortedQuery.{falling, in_order, rising, sorted_query}
use Rattle.guest_tables.proofs.any_schema.Strictly.{one_each, one_still, strictly}
use Rattle.guest_tables.specs.Layout.{guest_schema}
use Rattle.guest_tables.specs.Rows.{PairRow, pair_row, pair_of, pairs_of, AreApart}
use Rattle.guest_tables.specs.Content.{GuestContent, Holds}
use Rattle.guest_tables.specs.Holding.{pairs_in}
use Rattle.guest_tables.specs.Moves.{Inside, Makes}
use Rattle.guest_tables.specs.inner.Slices.{is_in_slice, slice_of, slice_text, shown_pair}
use Rattle.guest_tables.proofs.PairKeys.{same_itself, same_is, below_if, other_way}
use Rattle.guest_tables.proofs.PairOrder as order
use Rattle.guest_tables.proofs.PairsOfRows.{pairs_are, pairs_rise}
use Rattle.guest_tables.proofs.PairTables.{has_pairs, pairs_apart}
use Rattle.guest_tables.proofs.PairRows.{guest_known, from_terms, between_terms, tests_from, tests_between}

-- ---- the texts

abbrev pub given_slice : List ℕ → List ℕ → ℕ → Row
given_slice from to limit = Blob from ∷ Blob to ∷ Int (pos limit) ∷ []

abbrev terms : Bool → List Term
terms true = between_terms
terms false = from_terms

abbrev shown : Bool → List Term
shown true = col 1 1 ∷ []
shown false = col 1 1 ∷ col 1 2 ∷ []

abbrev names : Bool → List (List ℕ)
names true = codes "key" ∷ []
names false = codes "key" ∷ codes "value" ∷ []

abbrev key_of : Bool → Key
key_of true = falling
key_of false = rising

abbrev by_key : Bool → List (Term × Key)
by_key downwards = (col 1 1, key_of downwards) ∷ []

abbrev query : Bool → Bool → Bool → Query
query keys_alone bounded downwards = sorted_query 1 (terms bounded) (shown keys_alone) (by_key downwards) (col 0 2)

slice_is : (k b d : Bool) → command_of (understood guest_schema (slice_text k b d)) ≡ Select (record { lets = []; body = query k b d }) (names k)
unfolding understood everything
slice_is false false false = refl
slice_is false false true = refl
slice_is false true false = refl
slice_is false true true = refl
slice_is true false false = refl
slice_is true false true = refl
slice_is true true false = refl
slice_is true true true = refl

slice_plain : (k b d : Bool) → IsPlain (understood guest_schema (slice_text k b d))
unfolding understood everything
slice_plain false false false = (refl, refl)
slice_plain false false true = (refl, refl)
slice_plain false true false = (refl, refl)
slice_plain false true true = (refl, refl)
slice_plain true false false = (refl, refl)
slice_plain true false true = (refl, refl)
slice_plain true true false = (refl, refl)
slice_plain true true true = (refl, refl)

pub slice_reads : (k b d : Bool) → IsSelectText (first (slice_text k b d))
unfolding first everything
slice_reads false false false = (_, refl)
slice_reads false false true = (_, refl)
slice_reads false true false = (_, refl)
slice_reads false true true = (_, refl)
slice_reads true false false = (_, refl)
slice_reads true false true = (_, refl)
slice_reads true true false = (_, refl)
slice_reads true true true = (_, refl)

slice_unlisted : (k b d : Bool) → reads_listing guest_schema (slice_text k b d) ≡ false
unfolding understood everything
slice_unlisted false false false = refl
slice_unlisted false false true = refl
slice_unlisted false true false = refl
slice_unlisted false true true = refl
slice_unlisted true false false = refl
slice_unlisted true false true = refl
slice_unlisted true true false = refl
slice_unlisted true true true = refl

-- ---- what they test, and in which order they show

abbrev is_in : Bool → List ℕ → List ℕ → PairRow → Bool
is_in bounded from to p = is_in_slice bounded from to p.key

tests : (bounded : Bool) (from to : List ℕ) (limit : ℕ) (p : PairRow) → list_all (holds (given_slice from to limit ∷ pair_row p ∷ [])) (terms bounded)
    ≡ is_in bounded from to p
tests true from to limit p = tests_between from to (Int (pos limit) ∷ []) p
tests false from to limit p = tests_from from (Blob to ∷ Int (pos limit) ∷ []) p

-- no greater
abbrev Follows : List ℕ → List ℕ → Type 0
Follows j k = is_gt (ordering_then (key_order j k) Equal) ≡ false

abbrev InOrder : Bool → PairRow → PairRow → Type 0
InOrder false a b = Follows a.key b.key
InOrder true a b = Follows b.key a.key

at_most : (j k : List ℕ) → is_gt (ordering_then (value_cmp (Blob j) (Blob k)) Equal) ≡ false → Follows j k
at_most j k low = subst (λ o. is_gt (ordering_then o Equal) ≡ false) (value_cmp-Blob j k) low

abbrev same_keys : PairRow → PairRow → Bool
same_keys a b = is_same_key a.key b.key

itself : (p : PairRow) → same_keys p p ≡ true
itself p = same_itself p.key

joins : (x a b : PairRow) → same_keys x a ≡ true → same_keys a b ≡ false → same_keys x b ≡ false
joins x a b here off = subst (λ k. is_same_key k b.key ≡ false) (sym (same_is x.key a.key here)) off

abbrev Strict : Bool → PairRow → PairRow → Type 0
Strict false a b = order.IsBefore (pair_of a) (pair_of b)
Strict true a b = order.IsBefore (pair_of b) (pair_of a)

strict : (downwards : Bool) (a b : PairRow) → Unit {0} → Unit {0} → InOrder downwards a b → same_keys a b ≡ false → Strict downwards a b
strict false a b _ _ low other = below_if a.key b.key low other
strict true a b _ _ low other =
    below_if b.key a.key low (other_way a.key b.key other)

-- ---- the rows in this order are the pairs in this order

abbrev found : Bool → List ℕ → List ℕ → List PairRow → List PairRow
found bounded from to rows = filter (is_in bounded from to) rows

same_in_slice : (bounded : Bool) (from to : List ℕ) (rows ws : List PairRow) → AreApart rows → IsPermutation (found bounded from to rows) ws
    → IsPermutation (slice_of bounded from to (pairs_of rows)) (map pair_of ws)
same_in_slice bounded from to rows ws apart same =
    let test = λ (p : PairContent). is_in_slice bounded from to p.key in
    IsPermutation-trans _ _ _ (IsPermutation-sym _ _ (IsPermutation-filter test (map pair_of rows) (pairs_of rows) (pairs_are rows apart)))
    (subst (λ l. IsPermutation l (map pair_of ws)) (sym (filter-map test pair_of rows)) (IsPermutation-map pair_of (found bounded from to rows) ws same))

pairs_shown : (downwards bounded : Bool) (from to : List ℕ) (rows ws : List PairRow) → AreApart rows → IsPermutation (found bounded from to rows) ws
    → IsAscending (Strict downwards) ws → map pair_of ws ≡ turned_if downwards (slice_of bounded from to (pairs_of rows))
pairs_shown false bounded from to rows ws apart same up =
    order.same_pairs (slice_of bounded from to (pairs_of rows)) (map pair_of ws)
    (ascending-filter _ (λ (p : PairContent). is_in_slice bounded from to p.key) (pairs_of rows) (pairs_rise rows))
    (ascending-map order.IsBefore pair_of ws up) (same_in_slice bounded from to rows ws apart same)
pairs_shown true bounded from to rows ws apart same up =
    let all = slice_of bounded from to (pairs_of rows) in
    order.one_order (λ a b. order.IsBefore b a) (λ a b first second. order.never_both b a first second) (reverse all) (map pair_of ws)
    (order.falling order.IsBefore all (ascending-filter _ (λ (p : PairContent). is_in_slice bounded from to p.key) (pairs_of rows) (pairs_rise rows)))
    (ascending-map (λ a b. order.IsBefore b a) pair_of ws up)
    (IsPermutation-trans _ _ _ (IsPermutation-sym _ _ (IsPermutation-reverse all)) (same_in_slice bounded from to rows ws apart same))

in_strict_order : (downwards bounded : Bool) (from to : List ℕ) (rows ws : List PairRow) → AreApart rows → IsPermutation (found bounded from to rows) ws
    → IsAscending (InOrder downwards) ws → IsAscending (Strict downwards) ws
in_strict_order downwards bounded from to rows ws apart same up =
    let few = one_each same_keys joins (found bounded from to rows) (ascending-filter _ (is_in bounded from to) rows apart) in
    strictly same_keys itself (λ _. Unit {0}) (InOrder downwards) (Strict downwards) (strict downwards) ws (all_of (λ _. Unit {0}) (λ _. tt) ws) up
    (one_still same_keys (found bounded from to rows) ws same few)

-- ---- the rows of an answer

abbrev row_shown : Bool → PairRow → Row
row_shown keys_alone p = shown_pair keys_alone (pair_of p)

shows : (k b d : Bool) (from to : List ℕ) (limit : ℕ) (c : GuestContent) (old new : State) (rows : List Row) → Inside c old
    → Shown (slice_text k b d) (given_slice from to limit) old new rows
    → (ws : List PairRow) × IsPermutation (found b from to c.pairs) ws × IsAscending (InOrder d) ws × (rows ≡ take limit (map (row_shown k) ws))
shows k b d from to limit c old new rows at h =
    by k d
    ((read Holds guest_schema guest_known (slice_text k b d) (given_slice from to limit) _ (slice_is k b d) (slice_plain k b d) (slice_unlisted k b d) c old new
    rows at h).answer Null)
  where
    by : (k d : Bool) → IsAnswerAs Null (query k b d) (overlay old.now.trees []) (given_slice from to limit) rows
        → (ws : List PairRow) × IsPermutation (found b from to c.pairs) ws × IsAscending (InOrder d) ws × (rows ≡ take limit (map (row_shown k) ws))
    by true true a = in_order pair_row Null (overlay old.now.trees []) (terms b) (given_slice from to limit) (shown true) (by_key true) (col 0 2) 1 (InOrder true)
        (λ x y. at_most y.key x.key) (is_in b from to) (tests b from to limit) c.pairs rows (has_pairs c old.now at.holds).0 a
    by true false a = in_order pair_row Null (overlay old.now.trees []) (terms b) (given_slice from to limit) (shown true) (by_key false) (col 0 2) 1 (InOrder false)
        (λ x y. at_most x.key y.key) (is_in b from to) (tests b from to limit) c.pairs rows (has_pairs c old.now at.holds).0 a
    by false true a = in_order pair_row Null (overlay old.now.trees []) (terms b) (given_slice from to limit) (shown false) (by_key true) (col 0 2) 1 (InOrder true)
        (λ x y. at_most y.key x.key) (is_in b from to) (tests b from to limit) c.pairs rows (has_pairs c old.now at.holds).0 a
    by false false a = in_order pair_row Null (overlay old.now.trees []) (terms b) (given_slice from to limit) (shown false) (by_key false) (col 0 2) 1 (InOrder false)
        (λ x y. at_most x.key y.key) (is_in b from to) (tests b from to limit) c.pairs rows (has_pairs c old.now at.holds).0 a

slice_finds : (k b d : Bool) (from to : List ℕ) (limit : ℕ) (c : GuestContent) (old new : State) (rows : List Row) → Inside c old
    → Shown (slice_text k b d) (given_slice from to limit) old new rows
    → rows ≡ map (shown_pair k) (take limit (turned_if d (slice_of b from to (pairs_in c))))
slice_finds k b d from to limit c old new rows at h =
    let all = shows k b d from to limit c old new rows at h in
    let apart = pairs_apart c old.now at.holds in
    let are = pairs_shown d b from to c.pairs all.0 apart all.1 (in_strict_order d b from to c.pairs all.0 apart all.1 all.2) in
    all.3 ∙ ap (take limit) (sym (map-map (shown_pair k) pair_of all.0) ∙ ap (map (shown_pair k)) are)
    ∙ take-map (shown_pair k) limit (turned_if d (slice_of b from to (pairs_in c)))

pub slice_makes : {X : Type 0} (items : X → List Row) (k b d : Bool) (from to : List ℕ) (limit : ℕ) (old new : State) (r : Result X Error)
    → (HasCleanDisk new → IfOk r (λ x. Shown (slice_text k b d) (given_slice from to limit) old new (items x)))
    → (HasCleanDisk new → IfErr r (FailsToQuery (slice_text k b d) (given_slice from to limit) old new))
    → Survives old new (CommitsShowing (slice_text k b d) (given_slice from to limit) old) → Makes (λ c. c) old new r
slice_makes items k b d from to limit =
    looks Holds guest_schema guest_known (slice_text k b d) (given_slice from to limit) _ (slice_is k b d) (slice_plain k b d) (slice_reads k b d) items

pub slice_shows : {X : Type 0} (items : X → List Row) (k b d : Bool) (from to : List ℕ) (limit : ℕ) (old new : State) (r : Result X Error)
    → (HasCleanDisk new → IfOk r (λ x. Shown (slice_text k b d) (given_slice from to limit) old new (items x)))
    → HasCleanDisk new
    → IfOk r (λ x. (c : GuestContent) → Inside c old → items x ≡ map (shown_pair k) (take limit (turned_if d (slice_of b from to (pairs_in c)))))
slice_shows items k b d from to limit old new (Ok x) ok clean = λ c at. slice_finds k b d from to limit c old new (items x) at (ok clean)
slice_shows items k b d from to limit old new (Err e) ok clean = tt
