-- The statements that count all blocks, and that read where they stand.
use Rattle.std.proofs.Common.{◌≡◌, ◌≤◌, ◌<◌, ◌⊎◌, inl, inr, ℕ, pos, List, [], ◌∷◌, map, take, filter, codes, Bool, true, false, ◌&&◌, ◌||◌, Some, Ok, Err, Result, IfOk, IfErr, Less, Equal, Greater, refl, sym, ap, subst, arith, ◌∙◌}
use Rattle.std.specs.List.{list_all, AllByRecursion}
use Rattle.std.specs.Ordering.{is_eq, is_ge, is_gt, nat_cmp, ordering_then}
use Rattle.std.specs.declared.cmp.Ordering.{Ordering}
use Rattle.std.proofs.lemmas.Bool.{cases_lt}
use Rattle.std.proofs.lemmas.Bool.Decides.{nat_tests}
use Rattle.sqlite.specs.declared.types.Value.TheVariants.{Null, Int}
use Rattle.sqlite.specs.Order.{Row}
use Rattle.sqlite_trees.specs.Tree.{IsAscending}
use Rattle.sqlite_trees.proofs.ListLemmas.{all_of, ascending-filter}
use Rattle.sqlite_value.specs.Order.{value_cmp}
use Rattle.sqlite_value.specs.declared.keys.Key.{Key}
use Rattle.sqlite_value.specs.declared.keys.Collation.TheVariants.{Binary}
use Rattle.sqlite_sql.specs.declared.ops.BinaryOp.TheVariants.{Compare, Or}
use Rattle.sqlite_sql.specs.declared.ops.CompareOp.TheVariants.{Ge, Gt}
use Rattle.sqlite_sql.specs.Ops.{binary, is_true, from_truth}
use Rattle.sqlite.specs.Term.{Term, col, op2, holds}
use Rattle.sqlite.specs.Program.{overlay}
use Rattle.sqlite.specs.Command.TheVariants.{Select}
use Rattle.sqlite_tied.specs.Compute.{everything}
use Rattle.sqlite.specs.declared.error.Error.{Error}
use Rattle.sqlite.specs.Listing.{understood, reads_listing}
use Rattle.sqlite.specs.State.{State, HasCleanDisk, Survives, Shown, FailsToQuery, CommitsShowing}
use Rattle.sqlite.proofs.Callers.{IsPlain, command_of}
use Rattle.sqlite_resolve.specs.Compile.{first}
use Rattle.fuse_store_tables.specs.declared.version.Layout.{Layout}
use Rattle.fuse_store_tables.specs.declared.version.Layout.TheVariants.{Second, Third}
use Rattle.fuse_store_tables.specs.Layout.{schema_for}
use Rattle.fuse_store_tables.specs.Blocks.{Block, block_row}
use Rattle.fuse_store_tables.specs.Slices.{IsBefore, ShowsKeys, reaches}
use Rattle.fuse_store_tables.specs.Content.{Content}
use Rattle.fuse_store_tables.specs.Clearing.{counted_to}
use Rattle.fuse_store_tables.specs.Moves.{Inside, Makes}
use Rattle.fuse_store_tables.specs.inner.Columns.{shown_number}
use Rattle.fuse_store_tables.proofs.Apart.{blocks_apart}
use Rattle.fuse_store_tables.proofs.BlockRanges.{itself, joins, other_number, same_as, same_place, second_off}
use Rattle.fuse_store_tables.proofs.CounterRows.{all_of as all_there}
use Rattle.fuse_store_tables.proofs.Counting.{count_query, counted_all}
use Rattle.fuse_store_tables.proofs.Keyed.{row_cmp_nat}
use Rattle.fuse_store_tables.proofs.Laid.{looks_laid, read_laid}
use Rattle.fuse_store_tables.proofs.Queries.{IsSelectText}
use Rattle.fuse_store_tables.proofs.SortedQuery.{in_order, rising, sorted_query}
use Rattle.fuse_store_tables.proofs.Strictly.{one_each, one_still, strictly}
use Rattle.fuse_store_tables.proofs.Tables.{laid}

-- ---- counted

abbrev pub count_text : List ℕ
count_text = codes "SELECT count(*) FROM blocks"

count_is : (l : Layout) → command_of (understood (schema_for l) count_text) ≡ Select (record { lets = []; body = count_query 5 [] }) (codes "count(*)" ∷ [])
unfolding understood everything
count_is Second = refl
count_is Third = refl

count_plain : (l : Layout) → IsPlain (understood (schema_for l) count_text)
unfolding understood everything
count_plain Second = (refl, refl)
count_plain Third = (refl, refl)

pub count_reads : IsSelectText (first count_text)
unfolding first everything
count_reads = (_, refl)

count_unlisted : (l : Layout) → reads_listing (schema_for l) count_text ≡ false
unfolding understood everything
count_unlisted Second = refl
count_unlisted Third = refl

count_finds : (c : Content) (old new : State) (rows : List Row) → Inside c old → Shown count_text [] old new rows
    → rows ≡ shown_number (counted_to c.blocks) ∷ []
count_finds c old new rows at h =
    let answer = (read_laid count_text [] _ count_is count_plain count_unlisted c old new rows at h).answer Null in
    counted_all block_row (λ _. true) Null (overlay old.now.trees []) [] [] (λ _. refl) 5 c.blocks rows (laid c old.now at.holds).blocks.0 answer
    ∙ ap (λ (bs : List Block). shown_number (counted_to bs) ∷ []) (all_there c.blocks)

pub count_makes : {X : Type 0} (items : X → List Row) (old new : State) (r : Result X Error)
    → (HasCleanDisk new → IfOk r (λ x. Shown count_text [] old new (items x)))
    → (HasCleanDisk new → IfErr r (FailsToQuery count_text [] old new)) → Survives old new (CommitsShowing count_text [] old) → Makes (λ c. c) old new r
count_makes items = looks_laid count_text [] _ count_is count_plain count_reads items

pub count_shows : {X : Type 0} (items : X → List Row) (old new : State) (r : Result X Error)
    → (HasCleanDisk new → IfOk r (λ x. Shown count_text [] old new (items x)))
    → HasCleanDisk new → IfOk r (λ x. (c : Content) → Inside c old → items x ≡ shown_number (counted_to c.blocks) ∷ [])
count_shows items old new (Ok x) ok clean = λ c at. count_finds c old new (items x) at (ok clean)
count_shows items old new (Err e) ok clean = tt

-- ---- from a key on

abbrev pub text : List ℕ
text = codes "SELECT node, block FROM blocks WHERE node >= ?1 AND (node > ?1 OR block >= ?2) ORDER BY node, block LIMIT ?3"

abbrev terms : List Term
terms = op2 (Compare Ge Binary) (col 1 1) (col 0 0) ∷ op2 Or (op2 (Compare Gt Binary) (col 1 1) (col 0 0)) (op2 (Compare Ge Binary) (col 1 2) (col 0 1)) ∷ []

abbrev shown : List Term
shown = col 1 1 ∷ col 1 2 ∷ []

abbrev order : List (Term × Key)
order = (col 1 1, rising) ∷ (col 1 2, rising) ∷ []

is : (l : Layout) → command_of (understood (schema_for l) text) ≡ Select (record { lets = []; body = sorted_query 5 terms shown order (col 0 2) })
    (codes "node" ∷ codes "block" ∷ [])
unfolding understood everything
is Second = refl
is Third = refl

plain : (l : Layout) → IsPlain (understood (schema_for l) text)
unfolding understood everything
plain Second = (refl, refl)
plain Third = (refl, refl)

pub selects : IsSelectText (first text)
unfolding first everything
selects = (_, refl)

unlisted : (l : Layout) → reads_listing (schema_for l) text ≡ false
unfolding understood everything
unlisted Second = refl
unlisted Third = refl

abbrev params : ℕ → ℕ → ℕ → Row
params node block limit = Int (pos node) ∷ Int (pos block) ∷ Int (pos limit) ∷ []

-- the two tests, by how the nodes and the numbers compare
by_orders : (o p : Ordering) → (is_true (from_truth (Some (is_ge o))) && (is_true (binary Or (from_truth (Some (is_gt o))) (from_truth (Some (is_ge p)))) && true))
    ≡ (is_gt o || (is_eq o && is_ge p))
unfolding binary
by_orders Less p = refl
by_orders Equal Less = refl
by_orders Equal Equal = refl
by_orders Equal Greater = refl
by_orders Greater Less = refl
by_orders Greater Equal = refl
by_orders Greater Greater = refl

tests : (node block limit : ℕ) (b : Block) → list_all (holds (params node block limit ∷ block_row b ∷ [])) terms ≡ reaches node block b
unfolding binary
tests node block limit b =
    ap (λ o. is_true (from_truth (Some (is_ge o)))
    && (is_true (binary Or (from_truth (Some (is_gt o))) (from_truth (Some (is_ge (value_cmp (Int (pos b.block)) (Int (pos block))))))) && true))
    (row_cmp_nat b.node node)
    ∙ ap (λ o. is_true (from_truth (Some (is_ge (nat_cmp b.node node))))
    && (is_true (binary Or (from_truth (Some (is_gt (nat_cmp b.node node)))) (from_truth (Some (is_ge o)))) && true)) (row_cmp_nat b.block block)
    ∙ by_orders (nat_cmp b.node node) (nat_cmp b.block block)

-- ---- in order

abbrev AreInOrder : Block → Block → Type 0
AreInOrder a b = (a.node < b.node) ⊎ ((a.node ≡ b.node) × (a.block ≤ b.block))

abbrev both_cmp : Ordering → Ordering → Ordering
both_cmp o p = ordering_then o (ordering_then p Equal)

greater : (m n : ℕ) → n < m → nat_cmp m n ≡ Greater
greater m n over = grind (arith, nat_tests)

equal : (m n : ℕ) → m ≡ n → nat_cmp m n ≡ Equal
equal m n same = grind (arith, nat_tests)

low_of : (p q : ℕ) → is_gt (ordering_then (nat_cmp p q) Equal) ≡ false → p ≤ q
low_of p q low = grind (arith, nat_tests)

not_below : (m n p q : ℕ) → n ≤ m → is_gt (both_cmp (nat_cmp m n) (nat_cmp p q)) ≡ false → (m ≡ n) × (p ≤ q)
not_below m n p q above low = elim (cases_lt n m) [
  | inl over ↦ absurd (let no = subst (λ o. is_gt (both_cmp o (nat_cmp p q)) ≡ false) (greater m n over) low in cc)
  | inr under ↦
      let same : m ≡ n = omega (arith, above, under) in
      (same, low_of p q (subst (λ o. is_gt (both_cmp o (nat_cmp p q)) ≡ false) (equal m n same) low))
]

by_node : (m n p q : ℕ) → is_gt (both_cmp (nat_cmp m n) (nat_cmp p q)) ≡ false → (m < n) ⊎ ((m ≡ n) × (p ≤ q))
by_node m n p q low = elim (cases_lt m n) [
  | inl below ↦ inl below
  | inr above ↦ inr (not_below m n p q above low)
]

says : (a b : Block)
    → is_gt (both_cmp (value_cmp (Int (pos a.node)) (Int (pos b.node))) (value_cmp (Int (pos a.block)) (Int (pos b.block)))) ≡ false → AreInOrder a b
says a b low =
    by_node a.node b.node a.block b.block
    (subst (λ p. is_gt (both_cmp (nat_cmp a.node b.node) p) ≡ false) (row_cmp_nat a.block b.block)
    (subst (λ o. is_gt (both_cmp o (value_cmp (Int (pos a.block)) (Int (pos b.block)))) ≡ false) (row_cmp_nat a.node b.node) low))

rises : (a b : Block) → Unit {0} → Unit {0} → AreInOrder a b → same_place a b ≡ false → IsBefore a b
rises a b here there (inl below) off = inl below
rises a b here there (inr same) off =
    let at : is_eq (nat_cmp b.node a.node) ≡ true = subst (λ k. is_eq (nat_cmp b.node k) ≡ true) (sym same.0) (same_as b.node) in
    inr (same.0, other_number a.block b.block same.1 (second_off _ _ at off))

finds : (node block limit : ℕ) (c : Content) (old new : State) (rows : List Row) → Inside c old → Shown text (params node block limit) old new rows
    → ShowsKeys limit (filter (reaches node block) c.blocks) rows
finds node block limit c old new rows at h =
    let answer = (read_laid text (params node block limit) _ is plain unlisted c old new rows at h).answer Null in
    let all = in_order block_row Null (overlay old.now.trees []) terms (params node block limit) shown order (col 0 2) 5 AreInOrder says (reaches node block)
    (tests node block limit) c.blocks rows (laid c old.now at.holds).blocks.0 answer in
    let found = filter (reaches node block) c.blocks in
    let few = one_each same_place joins found (ascending-filter _ (reaches node block) c.blocks (blocks_apart c old.now at.holds)) in
    record {
      ordered = all.0;
      same = all.1;
      rise = strictly same_place itself (λ _. Unit {0}) AreInOrder IsBefore rises all.0 (all_of (λ _. Unit {0}) (λ _. tt) all.0) all.2
          (one_still same_place found all.0 all.1 few);
      shown = all.3;
    }

pub look_makes : {X : Type 0} (items : X → List Row) (node block limit : ℕ) (old new : State) (r : Result X Error)
    → (HasCleanDisk new → IfOk r (λ x. Shown text (params node block limit) old new (items x)))
    → (HasCleanDisk new → IfErr r (FailsToQuery text (params node block limit) old new))
    → Survives old new (CommitsShowing text (params node block limit) old) → Makes (λ c. c) old new r
look_makes items node block limit = looks_laid text (params node block limit) _ is plain selects items

pub look_finds : {X : Type 0} (items : X → List Row) (node block limit : ℕ) (old new : State) (r : Result X Error)
    → (HasCleanDisk new → IfOk r (λ x. Shown text (params node block limit) old new (items x)))
    → HasCleanDisk new → IfOk r (λ x. (c : Content) → Inside c old → ShowsKeys limit (filter (reaches node block) c.blocks) (items x))
look_finds items node block limit old new (Ok x) ok clean = λ c at. finds node block limit c old new (items x) at (ok clean)
look_finds items node block limit old new (Err e) ok clean = tt
