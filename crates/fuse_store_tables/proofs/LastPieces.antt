-- The piece of a node that begins last, at a block or before it.
use Rattle.std.proofs.Common.{◌≡◌, ◌≤◌, ◌<◌, ◌⊎◌, inl, inr, ℕ, pos, List, [], ◌∷◌, ◌++◌, map, take, filter, length, codes, Bool, true, false, ◌&&◌, Some, None, Option, IsSome, Ok, Err, Result, IfOk, IfErr, refl, sym, ap, subst, arith, ◌∙◌}
use Rattle.std.specs.List.{list_all, AllByRecursion}
use Rattle.std.specs.Option.{option_to_list}
use Rattle.std.specs.Ordering.{is_eq, is_le, nat_cmp}
use Rattle.std.specs.List.Sorted.{IsPermutation}
use Rattle.std.proofs.lemmas.Bool.Decides.{nat_tests}
use Rattle.std.proofs.lemmas.List.{nil_from_length, length-append}
use Rattle.std.proofs.lemmas.List.Sorted.{Contains-permutation, IsPermutation-sym, length_permutation}
use Rattle.sqlite.specs.declared.types.Value.TheVariants.{Null, Int}
use Rattle.sqlite.specs.Order.{Row}
use Rattle.sqlite_trees.specs.Tree.{IsAscending}
use Rattle.sqlite_trees.proofs.ListLemmas.{all-permutation, all_weaker, ascending-filter}
use Rattle.sqlite_value.specs.Order.{value_cmp}
use Rattle.sqlite_value.specs.declared.keys.Key.{Key}
use Rattle.sqlite_value.specs.declared.keys.Collation.TheVariants.{Binary}
use Rattle.sqlite_sql.specs.declared.ops.BinaryOp.TheVariants.{Compare}
use Rattle.sqlite_sql.specs.declared.ops.CompareOp.TheVariants.{Eq, Le}
use Rattle.sqlite_sql.specs.Ops.{binary, is_true, from_truth}
use Rattle.sqlite.specs.Term.{Term, lit, col, op2, holds}
use Rattle.sqlite.specs.Program.{overlay}
use Rattle.sqlite.specs.Command.TheVariants.{Select}
use Rattle.sqlite_tied.specs.Compute.{everything}
use Rattle.sqlite.specs.declared.error.Error.{Error}
use Rattle.sqlite.specs.Listing.{understood, reads_listing}
use Rattle.sqlite.specs.State.{State, HasCleanDisk, Survives, Shown, FailsToQuery, CommitsShowing}
use Rattle.sqlite.proofs.Callers.{IsPlain, command_of}
use Rattle.sqlite_resolve.specs.Compile.{first}
use Rattle.fuse_store_tables.specs.declared.version.Layout.TheVariants.{Third}
use Rattle.fuse_store_tables.specs.Layout.{third_schema}
use Rattle.fuse_store_tables.specs.Pieces.{Piece, piece_row, shown_piece}
use Rattle.fuse_store_tables.specs.Ranges.{IsLast, ShowsLast, begins_by}
use Rattle.fuse_store_tables.specs.Content.{Content, HoldsIn}
use Rattle.fuse_store_tables.specs.Moves.{InsideAs, Takes}
use Rattle.fuse_store_tables.specs.inner.Ranged.{ShowsLastAlone}
use Rattle.fuse_store_tables.proofs.BlockRanges.{both_of, other_number, same_as, second_off}
use Rattle.fuse_store_tables.proofs.BlockRows.{both_are, same_number}
use Rattle.fuse_store_tables.proofs.Keyed.{row_cmp_nat}
use Rattle.fuse_store_tables.proofs.Laid.{held_in, schema_known}
use Rattle.fuse_store_tables.proofs.PiecesApart.{pieces_apart, same_begin}
use Rattle.fuse_store_tables.proofs.Queries.{IsSelectText}
use Rattle.fuse_store_tables.proofs.Reading.{both_true, looks, read}
use Rattle.fuse_store_tables.proofs.SortedQuery.{at_most, falling, in_order, sorted_query}
use Rattle.fuse_store_tables.proofs.Strictly.{one_each, one_still, passing, strictly}

-- ---- the statement

abbrev pub text : List ℕ
text = codes "SELECT first, count, place, sum FROM pieces WHERE node = ?1 AND first <= ?2 ORDER BY first DESC LIMIT 1"

abbrev terms : List Term
terms = op2 (Compare Eq Binary) (col 1 1) (col 0 0) ∷ op2 (Compare Le Binary) (col 1 2) (col 0 1) ∷ []

abbrev shown : List Term
shown = col 1 2 ∷ col 1 3 ∷ col 1 4 ∷ col 1 5 ∷ []

abbrev order : List (Term × Key)
order = (col 1 2, falling) ∷ []

is : command_of (understood third_schema text) ≡ Select (record { lets = []; body = sorted_query 11 terms shown order (lit (Int (pos 1))) })
    (codes "first" ∷ codes "count" ∷ codes "place" ∷ codes "sum" ∷ [])
unfolding understood everything
is = refl

plain : IsPlain (understood third_schema text)
unfolding understood everything
plain = (refl, refl)

pub selects : IsSelectText (first text)
unfolding first everything
selects = (_, refl)

unlisted : reads_listing third_schema text ≡ false
unfolding understood everything
unlisted = refl

abbrev params : ℕ → ℕ → Row
params node block = Int (pos node) ∷ Int (pos block) ∷ []

tests : (node block : ℕ) (p : Piece) → list_all (holds (params node block ∷ piece_row p ∷ [])) terms ≡ begins_by node block p
unfolding binary
tests node block p =
    ap (λ o. is_true (from_truth (Some (is_eq o))) && (is_true (from_truth (Some (is_le (value_cmp (Int (pos p.first)) (Int (pos block)))))) && true))
    (row_cmp_nat p.node node)
    ∙ ap (λ o. is_true (from_truth (Some (is_eq (nat_cmp p.node node)))) && (is_true (from_truth (Some (is_le o))) && true)) (row_cmp_nat p.first block)
    ∙ both_true (is_eq (nat_cmp p.node node)) (is_le (nat_cmp p.first block))

-- ---- the first in this order is the last one

itself : (p : Piece) → same_begin p p ≡ true
itself p = both_of _ _ (same_as p.node) (same_as p.first)

joins : (x a b : Piece) → same_begin x a ≡ true → same_begin a b ≡ false → same_begin x b ≡ false
joins x a b here off =
    let at = both_are _ _ here in
    subst (λ k. (is_eq (nat_cmp b.node x.node) && is_eq (nat_cmp b.first k)) ≡ false) (same_number a.first x.first at.1)
    (subst (λ k. (is_eq (nat_cmp b.node k) && is_eq (nat_cmp b.first a.first)) ≡ false) (same_number a.node x.node at.0) off)

flipped : (m n : ℕ) → is_eq (nat_cmp m n) ≡ false → is_eq (nat_cmp n m) ≡ false
flipped m n off = grind (arith, nat_tests)

falls : (node : ℕ) (a b : Piece) → a.node ≡ node → b.node ≡ node → b.first ≤ a.first → same_begin a b ≡ false → b.first < a.first
falls node a b here there low off =
    let at : is_eq (nat_cmp b.node a.node) ≡ true = subst (λ k. is_eq (nat_cmp b.node k) ≡ true) (there ∙ sym here) (same_as b.node) in
    other_number b.first a.first low (flipped b.first a.first (second_off _ _ at off))

shows : (ps ws : List Piece) (rows : List Row) → IsPermutation ps ws → IsAscending (λ (a b : Piece). b.first < a.first) ws → rows ≡ take 1 (map shown_piece ws)
    → ShowsLastAlone ps rows
shows ps [] rows same fall are = (None, are, nil_from_length ps (sym (length_permutation ps [] same)))
shows ps (w ∷ ws) rows same fall are =
    let back = IsPermutation-sym ps (w ∷ ws) same in
    let rest = all_weaker (λ (q : Piece). q.first < w.first) (λ q. (q ≡ w) ⊎ (q.first < w.first)) (λ q low. inr low) ws fall.0 in
    let last : IsLast w ps = record {
      there = Contains-permutation (w ∷ ws) ps w back (0, omega arith, refl);
      last = all-permutation (λ (q : Piece). (q ≡ w) ⊎ (q.first < w.first)) (w ∷ ws) ps back (inl refl, rest);
    } in
    (Some (shown_piece w), are, (w, last, refl))

finds : (node block : ℕ) (c : Content) (old new : State) (rows : List Row) → InsideAs (HoldsIn Third c) old → Shown text (params node block) old new rows
    → ShowsLastAlone (filter (begins_by node block) c.pieces) rows
finds node block c old new rows at h =
    let was = (held_in Third c old.now at.holds).rows.1.1.1.1.1.1.1.0 in
    let answer = (read (HoldsIn Third) third_schema (schema_known Third) text (params node block) _ is plain unlisted c old new rows at h).answer Null in
    let all = in_order piece_row Null (overlay old.now.trees []) terms (params node block) shown order (lit (Int (pos 1))) 11 (λ (a b : Piece). b.first ≤ a.first)
    (λ a b. at_most b.first a.first) (begins_by node block) (tests node block) c.pieces rows was.0 answer in
    let found = filter (begins_by node block) c.pieces in
    let nodes = all_weaker (λ p. begins_by node block p ≡ true) (λ (p : Piece). p.node ≡ node) (λ p by. same_number p.node node (both_are _ _ by).0) found
    (passing (begins_by node block) c.pieces) in
    let few = one_each same_begin joins found (ascending-filter _ (begins_by node block) c.pieces (pieces_apart c old.now at.holds)) in
    shows found all.0 rows all.1
    (strictly same_begin itself (λ p. p.node ≡ node) (λ a b. b.first ≤ a.first) (λ a b. b.first < a.first) (falls node) all.0
    (all-permutation (λ (p : Piece). p.node ≡ node) found all.0 all.1 nodes) all.2 (one_still same_begin found all.0 all.1 few))
    all.3

pub look_makes : {X : Type 0} (items : X → List Row) (node block : ℕ) (old new : State) (r : Result X Error)
    → (HasCleanDisk new → IfOk r (λ x. Shown text (params node block) old new (items x)))
    → (HasCleanDisk new → IfErr r (FailsToQuery text (params node block) old new))
    → Survives old new (CommitsShowing text (params node block) old) → Takes (HoldsIn Third) (HoldsIn Third) old new r
look_makes items node block = looks (HoldsIn Third) third_schema (schema_known Third) text (params node block) _ is plain selects items

pub look_finds : {X : Type 0} (items : X → List Row) (node block : ℕ) (old new : State) (r : Result X Error)
    → (HasCleanDisk new → IfOk r (λ x. Shown text (params node block) old new (items x)))
    → HasCleanDisk new → IfOk r (λ x. (c : Content) → InsideAs (HoldsIn Third c) old → ShowsLastAlone (filter (begins_by node block) c.pieces) (items x))
look_finds items node block old new (Ok x) ok clean = λ c at. finds node block c old new (items x) at (ok clean)
look_finds items node block old new (Err e) ok clean = tt

-- ---- the one row

pub popped : (found r : Option Row) (rest : List Row) → option_to_list found ≡ rest ++ option_to_list r → (0 < length (option_to_list found) → IsSome r) → r ≡ found
popped None None rest are some = refl
popped None (Some y) rest are some = absurd (omega (arith, ap length are, length-append rest (y ∷ [])))
popped (Some x) None rest are some = absurd (let no = some (omega arith) in cc)
popped (Some x) (Some y) [] are some = let same : x ≡ y = cc in ap Some (sym same)
popped (Some x) (Some y) (z ∷ rest) are some = absurd (omega (arith, ap length are, length-append rest (y ∷ [])))

pub last_popped : (ps : List Piece) (rows rest : List Row) (r : Option Row) → ShowsLastAlone ps rows → rows ≡ rest ++ option_to_list r
    → (0 < length rows → IsSome r) → ShowsLast ps r
last_popped ps rows rest r shows are some =
    subst (ShowsLast ps) (sym (popped shows.0 r rest (sym shows.1 ∙ are) (subst (λ (l : List Row). 0 < length l → IsSome r) shows.1 some))) shows.2
