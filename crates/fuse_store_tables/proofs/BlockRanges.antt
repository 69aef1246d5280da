-- The statements on the blocks of a node in a range of numbers.
use Rattle.std.proofs.Common.{◌≡◌, ◌≤◌, ◌<◌, ℕ, pos, List, [], ◌∷◌, map, take, filter, not, codes, Bool, true, false, ◌&&◌, Some, None, Ok, Err, Result, IfOk, IfErr, refl, sym, ap, subst, arith, ◌∙◌}
use Rattle.std.specs.List.{list_all, AllByRecursion}
use Rattle.std.specs.Ordering.{is_eq, is_ge, is_lt, nat_cmp}
use Rattle.std.proofs.lemmas.Bool.Decides.{nat_tests}
use Rattle.sqlite.specs.declared.types.Value.TheVariants.{Null, Int}
use Rattle.sqlite.specs.Order.{Row}
use Rattle.sqlite_trees.specs.Tree.{IsAscending}
use Rattle.sqlite_trees.proofs.ListLemmas.{all-permutation, all_weaker, ascending-filter}
use Rattle.sqlite_value.specs.Order.{value_cmp}
use Rattle.sqlite_value.specs.declared.keys.Key.{Key}
use Rattle.sqlite_value.specs.declared.keys.Collation.TheVariants.{Binary}
use Rattle.sqlite_sql.specs.declared.ops.BinaryOp.TheVariants.{Compare}
use Rattle.sqlite_sql.specs.declared.ops.CompareOp.TheVariants.{Eq, Ge, Lt}
use Rattle.sqlite_sql.specs.Ops.{binary, is_true, from_truth}
use Rattle.sqlite.specs.Term.{Term, col, op2, holds}
use Rattle.sqlite.specs.Program.{overlay}
use Rattle.sqlite.specs.Command.TheVariants.{Delete, Select}
use Rattle.sqlite_tied.specs.Compute.{everything}
use Rattle.sqlite.specs.declared.error.Error.{Error}
use Rattle.sqlite.specs.Listing.{understood, reads_listing}
use Rattle.sqlite.specs.State.{State, HasCleanDisk, Survives, CommitsBy, Writes, Shown, FailsToQuery, CommitsShowing}
use Rattle.sqlite.proofs.Callers.{IsPlain, command_of, statement_of}
use Rattle.sqlite_resolve.specs.Compile.{first}
use Rattle.fuse_store_tables.specs.declared.version.Layout.{Layout}
use Rattle.fuse_store_tables.specs.declared.version.Layout.TheVariants.{Second, Third}
use Rattle.fuse_store_tables.specs.Layout.{blocks, schema_for}
use Rattle.fuse_store_tables.specs.Blocks.{Block, block_row, is_at}
use Rattle.fuse_store_tables.specs.Ranges.{ShowsBlocks, is_between, without_blocks_between}
use Rattle.fuse_store_tables.specs.Content.{Content, Holds, stored}
use Rattle.fuse_store_tables.specs.Clearing.{counted_to}
use Rattle.fuse_store_tables.specs.Moves.{Inside, Makes}
use Rattle.fuse_store_tables.specs.inner.Columns.{shown_number}
use Rattle.fuse_store_tables.specs.inner.Performing.{Ran}
use Rattle.fuse_store_tables.proofs.Apart.{blocks_apart}
use Rattle.fuse_store_tables.proofs.BlockRows.{both_are, same_number}
use Rattle.fuse_store_tables.proofs.Counting.{count_query, counted_all}
use Rattle.fuse_store_tables.proofs.Deletes.{picking, picks}
use Rattle.fuse_store_tables.proofs.Edits.{IsEditText}
use Rattle.fuse_store_tables.proofs.Keyed.{row_cmp_nat}
use Rattle.fuse_store_tables.proofs.Laid.{looks_laid, makes_laid, read_laid}
use Rattle.fuse_store_tables.proofs.Queries.{IsSelectText}
use Rattle.fuse_store_tables.proofs.SortedQuery.{at_most, in_order, rising, sorted_query}
use Rattle.fuse_store_tables.proofs.Strictly.{found_alike, one_each, one_still, passing, strictly}
use Rattle.fuse_store_tables.proofs.Tables.{blocks_listed, laid, only_blocks, wrote}

-- ---- the range

abbrev terms : List Term
terms = op2 (Compare Eq Binary) (col 1 1) (col 0 0) ∷ op2 (Compare Ge Binary) (col 1 2) (col 0 1) ∷ op2 (Compare Lt Binary) (col 1 2) (col 0 2) ∷ []

abbrev bounds : ℕ → ℕ → ℕ → Row → Row
bounds node from to more = Int (pos node) ∷ Int (pos from) ∷ Int (pos to) ∷ more

all_three : (a b d : Bool)
    → (is_true (from_truth (Some a)) && (is_true (from_truth (Some b)) && (is_true (from_truth (Some d)) && true))) ≡ (a && (b && d))
all_three true true true = refl
all_three true true false = refl
all_three true false d = refl
all_three false b d = refl

tests : (node from to : ℕ) (more : Row) (b : Block) → list_all (holds (bounds node from to more ∷ block_row b ∷ [])) terms ≡ is_between node from to b
unfolding binary
tests node from to more b =
    ap (λ o. is_true (from_truth (Some (is_eq o))) && (is_true (from_truth (Some (is_ge (value_cmp (Int (pos b.block)) (Int (pos from))))))
    && (is_true (from_truth (Some (is_lt (value_cmp (Int (pos b.block)) (Int (pos to)))))) && true))) (row_cmp_nat b.node node)
    ∙ ap (λ o. is_true (from_truth (Some (is_eq (nat_cmp b.node node)))) && (is_true (from_truth (Some (is_ge o)))
    && (is_true (from_truth (Some (is_lt (value_cmp (Int (pos b.block)) (Int (pos to)))))) && true))) (row_cmp_nat b.block from)
    ∙ ap (λ o. is_true (from_truth (Some (is_eq (nat_cmp b.node node)))) && (is_true (from_truth (Some (is_ge (nat_cmp b.block from))))
    && (is_true (from_truth (Some (is_lt o))) && true))) (row_cmp_nat b.block to)
    ∙ all_three (is_eq (nat_cmp b.node node)) (is_ge (nat_cmp b.block from)) (is_lt (nat_cmp b.block to))

-- ---- gone

abbrev pub delete_text : List ℕ
delete_text = codes "DELETE FROM blocks WHERE node = ?1 AND block >= ?2 AND block < ?3"

delete_is : (l : Layout) → command_of (understood (schema_for l) delete_text) ≡ Delete 3 (picking 5 terms)
unfolding understood everything
delete_is Second = refl
delete_is Third = refl

delete_plain : (l : Layout) → IsPlain (understood (schema_for l) delete_text)
unfolding understood everything
delete_plain Second = (refl, refl)
delete_plain Third = (refl, refl)

pub delete_edit : IsEditText (first delete_text)
unfolding first everything
delete_edit = tt

gone : (node from to : ℕ) (c : Content) (old new : State) (n : ℕ) → Holds c old.now
    → Writes old new None (Delete 3 (picking 5 terms)) (statement_of delete_text (understood (schema_for c.layout) delete_text)) (bounds node from to []) n
    → Holds (without_blocks_between node from to c) new.now
gone node from to c old new n at w =
    let was = (laid c old.now at).blocks in
    let now = picks c.layout (λ b. b.slot) block_row (λ _. refl) (is_between node from to) 3 blocks (blocks_listed c.layout) terms (bounds node from to [])
    (tests node from to []) (λ _. refl) c.blocks old new _ n at.schema was.0 was.1 w in
    wrote (schema_for c.layout) (stored c) (stored (without_blocks_between node from to c)) blocks old.now new.now at now.2 w.sound (only_blocks c _) now.0 now.1

pub removes : (node from to : ℕ) (old new : State) (r : Result (Unit {0}) Error) → (HasCleanDisk new → Ran delete_text (bounds node from to []) old new r)
    → Survives old new (CommitsBy delete_text (bounds node from to []) old) → Makes (without_blocks_between node from to) old new r
removes node from to = makes_laid delete_text (bounds node from to []) (λ _. Delete 3 (picking 5 terms)) delete_is delete_plain (λ _. refl) delete_edit
    (λ c. Holds (without_blocks_between node from to c)) (gone node from to)

-- ---- counted

abbrev pub count_text : List ℕ
count_text = codes "SELECT count(*) FROM blocks WHERE node = ?1 AND block >= ?2 AND block < ?3"

count_is : (l : Layout) → command_of (understood (schema_for l) count_text) ≡ Select (record { lets = []; body = count_query 5 terms }) (codes "count(*)" ∷ [])
unfolding understood everything
count_is Second = refl
count_is Third = refl

count_plain : (l : Layout) → IsPlain (understood (schema_for l) count_text)
unfolding understood everything
count_plain Second = (refl, refl)
count_plain Third = (refl, refl)

pub count_reads : IsSelectText (first count_text)
unfolding first everything
count_reads = (_, refl)

count_unlisted : (l : Layout) → reads_listing (schema_for l) count_text ≡ false
unfolding understood everything
count_unlisted Second = refl
count_unlisted Third = refl

count_finds : (node from to : ℕ) (c : Content) (old new : State) (rows : List Row) → Inside c old → Shown count_text (bounds node from to []) old new rows
    → rows ≡ shown_number (counted_to (filter (is_between node from to) c.blocks)) ∷ []
count_finds node from to c old new rows at h =
    let answer = (read_laid count_text (bounds node from to []) _ count_is count_plain count_unlisted c old new rows at h).answer Null in
    counted_all block_row (is_between node from to) Null (overlay old.now.trees []) terms (bounds node from to []) (tests node from to []) 5 c.blocks rows
    (laid c old.now at.holds).blocks.0 answer

pub count_makes : {X : Type 0} (items : X → List Row) (node from to : ℕ) (old new : State) (r : Result X Error)
    → (HasCleanDisk new → IfOk r (λ x. Shown count_text (bounds node from to []) old new (items x)))
    → (HasCleanDisk new → IfErr r (FailsToQuery count_text (bounds node from to []) old new))
    → Survives old new (CommitsShowing count_text (bounds node from to []) old) → Makes (λ c. c) old new r
count_makes items node from to = looks_laid count_text (bounds node from to []) _ count_is count_plain count_reads items

pub count_shows : {X : Type 0} (items : X → List Row) (node from to : ℕ) (old new : State) (r : Result X Error)
    → (HasCleanDisk new → IfOk r (λ x. Shown count_text (bounds node from to []) old new (items x)))
    → HasCleanDisk new
    → IfOk r (λ x. (c : Content) → Inside c old → items x ≡ shown_number (counted_to (filter (is_between node from to) c.blocks)) ∷ [])
count_shows items node from to old new (Ok x) ok clean = λ c at. count_finds node from to c old new (items x) at (ok clean)
count_shows items node from to old new (Err e) ok clean = tt

-- ---- read in order

abbrev pub select_text : List ℕ
select_text = codes "SELECT block, bytes FROM blocks WHERE node = ?1 AND block >= ?2 AND block < ?3 ORDER BY block LIMIT ?4"

abbrev shown : List Term
shown = col 1 2 ∷ col 1 3 ∷ []

abbrev order : List (Term × Key)
order = (col 1 2, rising) ∷ []

select_is : (l : Layout) → command_of (understood (schema_for l) select_text)
    ≡ Select (record { lets = []; body = sorted_query 5 terms shown order (col 0 3) }) (codes "block" ∷ codes "bytes" ∷ [])
unfolding understood everything
select_is Second = refl
select_is Third = refl

select_plain : (l : Layout) → IsPlain (understood (schema_for l) select_text)
unfolding understood everything
select_plain Second = (refl, refl)
select_plain Third = (refl, refl)

pub select_reads : IsSelectText (first select_text)
unfolding first everything
select_reads = (_, refl)

select_unlisted : (l : Layout) → reads_listing (schema_for l) select_text ≡ false
unfolding understood everything
select_unlisted Second = refl
select_unlisted Third = refl

abbrev pub same_place : Block → Block → Bool
same_place a b = is_at a.node a.block b

pub same_as : (n : ℕ) → is_eq (nat_cmp n n) ≡ true
same_as n = grind (arith, nat_tests)

pub both_of : (a b : Bool) → a ≡ true → b ≡ true → (a && b) ≡ true
both_of true true p q = refl
both_of true false p q = absurd cc
both_of false b p q = absurd cc

pub itself : (b : Block) → same_place b b ≡ true
itself b = both_of _ _ (same_as b.node) (same_as b.block)

pub joins : (x a b : Block) → same_place x a ≡ true → same_place a b ≡ false → same_place x b ≡ false
joins x a b here off =
    let is = both_are _ _ here in
    subst (λ k. is_at x.node k b ≡ false) (same_number a.block x.block is.1) (subst (λ k. is_at k a.block b ≡ false) (same_number a.node x.node is.0) off)

pub second_off : (a b : Bool) → a ≡ true → (a && b) ≡ false → b ≡ false
second_off true b is off = off
second_off false b is off = absurd cc

pub other_number : (m n : ℕ) → m ≤ n → is_eq (nat_cmp n m) ≡ false → m < n
other_number m n low off = grind (arith, nat_tests)

-- two blocks of one node
rises : (node : ℕ) (a b : Block) → a.node ≡ node → b.node ≡ node → a.block ≤ b.block → same_place a b ≡ false → a.block < b.block
rises node a b here there low off =
    let is : is_eq (nat_cmp b.node a.node) ≡ true = subst (λ k. is_eq (nat_cmp b.node k) ≡ true) (there ∙ sym here) (same_as b.node) in
    other_number a.block b.block low (second_off _ _ is off)

select_finds : (node from to limit : ℕ) (c : Content) (old new : State) (rows : List Row) → Inside c old
    → Shown select_text (bounds node from to (Int (pos limit) ∷ [])) old new rows → ShowsBlocks limit (filter (is_between node from to) c.blocks) rows
select_finds node from to limit c old new rows at h =
    let params = bounds node from to (Int (pos limit) ∷ []) in
    let answer = (read_laid select_text params _ select_is select_plain select_unlisted c old new rows at h).answer Null in
    let all = in_order block_row Null (overlay old.now.trees []) terms params shown order (col 0 3) 5 (λ (a b : Block). a.block ≤ b.block)
    (λ a b. at_most a.block b.block) (is_between node from to) (tests node from to (Int (pos limit) ∷ [])) c.blocks rows (laid c old.now at.holds).blocks.0 answer in
    let found = filter (is_between node from to) c.blocks in
    let nodes = all_weaker (λ b. is_between node from to b ≡ true) (λ (b : Block). b.node ≡ node) (λ b is. same_number b.node node (both_are _ _ is).0) found
    (passing (is_between node from to) c.blocks) in
    let few = one_each same_place joins found (ascending-filter _ (is_between node from to) c.blocks (blocks_apart c old.now at.holds)) in
    record {
      ordered = all.0;
      same = all.1;
      rise = strictly same_place itself (λ b. b.node ≡ node) (λ a b. a.block ≤ b.block) (λ a b. a.block < b.block) (rises node) all.0
          (all-permutation (λ (b : Block). b.node ≡ node) found all.0 all.1 nodes) all.2 (one_still same_place found all.0 all.1 few);
      found = λ at k. found_alike (is_at at k) found all.0 (few (record { slot = 0; node = at; block = k; bytes = [] })) all.1;
      shown = all.3;
    }

pub select_makes : {X : Type 0} (items : X → List Row) (node from to limit : ℕ) (old new : State) (r : Result X Error)
    → (HasCleanDisk new → IfOk r (λ x. Shown select_text (bounds node from to (Int (pos limit) ∷ [])) old new (items x)))
    → (HasCleanDisk new → IfErr r (FailsToQuery select_text (bounds node from to (Int (pos limit) ∷ [])) old new))
    → Survives old new (CommitsShowing select_text (bounds node from to (Int (pos limit) ∷ [])) old) → Makes (λ c. c) old new r
select_makes items node from to limit = looks_laid select_text (bounds node from to (Int (pos limit) ∷ [])) _ select_is select_plain select_reads items

pub select_shows : {X : Type 0} (items : X → List Row) (node from to limit : ℕ) (old new : State) (r : Result X Error)
    → (HasCleanDisk new → IfOk r (λ x. Shown select_text (bounds node from to (Int (pos limit) ∷ [])) old new (items x)))
    → HasCleanDisk new → IfOk r (λ x. (c : Content) → Inside c old → ShowsBlocks limit (filter (is_between node from to) c.blocks) (items x))
select_shows items node from to limit old new (Ok x) ok clean = λ c at. select_finds node from to limit c old new (items x) at (ok clean)
select_shows items node from to limit old new (Err e) ok clean = tt
