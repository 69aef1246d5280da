-- The statements on the table of blocks, whose rowids are hidden.
use Rattle.std.proofs.Common.{◌≡◌, inl, inr, ℕ, pos, ◌+◌, ◌+ℤ◌, List, [], ◌∷◌, map, filter, fold, codes, Bool, true, false, ◌&&◌, Some, None, Ok}
use Rattle.std.proofs.Common.{Err, Result, IfOk, IfErr, refl, sym, ap, subst, arith, ◌∙◌}
use Rattle.std.specs.List.{AllByRecursion, list_all}
use Rattle.std.specs.Option.{option_to_list}
use Rattle.std.specs.Ordering.{is_eq, is_ge, nat_cmp}
use Rattle.std.specs.List.Sorted.{IsPermutation}
use Rattle.std.proofs.lemmas.Bool.{cases_Bool}
use Rattle.std.proofs.lemmas.Bool.Decides.{nat_tests}
use Rattle.sqlite.specs.declared.types.Value.TheVariants.{Null, Int, Blob}
use Rattle.sqlite.specs.Order.{Row}
use Rattle.sqlite_trees.specs.Tree.{put_row, rowid, IsTable}
use Rattle.sqlite_trees.proofs.TreeLemmas.{IsTable-put_row}
use Rattle.sqlite.specs.Term.{Term, lit, col, op2, holds}
use Rattle.sqlite.specs.Program.{overlay}
use Rattle.sqlite.specs.Source.TheVariants.{Values}
use Rattle.sqlite.specs.Command.TheVariants.{Insert, Select, Delete}
use Rattle.sqlite_value.specs.Order.{value_cmp}
use Rattle.sqlite_value.specs.declared.keys.Collation.TheVariants.{Binary}
use Rattle.sqlite_sql.specs.declared.ops.BinaryOp.TheVariants.{Compare}
use Rattle.sqlite_sql.specs.declared.ops.CompareOp.TheVariants.{Eq, Ge}
use Rattle.sqlite_sql.specs.Ops.{binary, is_true, from_truth}
use Rattle.sqlite_rules.specs.Cast.{cast_row}
use Rattle.sqlite_rules.specs.Edit.{id_in, with_rowid}
use Rattle.sqlite.specs.Rowids.TheVariants.{Chosen}
use Rattle.sqlite_tied.specs.Compute.{everything}
use Rattle.sqlite.specs.declared.error.Error.{Error}
use Rattle.sqlite.specs.Listing.{understood, reads_listing}
use Rattle.sqlite.specs.State.{State, HasCleanDisk, Survives, CommitsBy, Writes, Shown, FailsToQuery, CommitsShowing}
use Rattle.sqlite.proofs.Callers.{IsPlain, command_of, statement_of}
use Rattle.fuse_store_tables.specs.Layout.{blocks, schema_for}
use Rattle.fuse_store_tables.specs.Blocks.{Block, block_row, is_at, is_from, block_at, new_block, shown_block}
use Rattle.fuse_store_tables.specs.Content.{Content, Holds, stored, put_by, with_block, without_blocks_from}
use Rattle.fuse_store_tables.specs.Moves.{Inside, Makes}
use Rattle.fuse_store_tables.specs.inner.Performing.{Ran}
use Rattle.fuse_store_tables.proofs.Tables.{wrote, quiet, only_blocks}
use Rattle.fuse_store_tables.proofs.Keyed.{put_rows, row_cmp_nat}
use Rattle.fuse_store_tables.proofs.Reading.{plain_query, answered, only, both_true}
use Rattle.fuse_store_tables.proofs.RowLemmas.{cast_int, cast_null, inserted}
use Rattle.fuse_store_tables.proofs.Apart.{AreApart, blocks_apart}
use Rattle.fuse_store_tables.proofs.Deletes.{picking, picks}
use Rattle.sqlite_resolve.specs.Compile.{first}
use Rattle.fuse_store_tables.proofs.Edits.{IsEditText}
use Rattle.fuse_store_tables.proofs.Queries.{IsSelectText}
use Rattle.fuse_store_tables.specs.declared.version.Layout.{Layout}
use Rattle.fuse_store_tables.specs.declared.version.Layout.TheVariants.{Second, Third}
use Rattle.fuse_store_tables.proofs.Laid.{looks_laid, makes_laid, read_laid}
use Rattle.fuse_store_tables.proofs.Tables.{blocks_listed, laid}

-- ---- a new block

abbrev pub insert_text : List ℕ
insert_text = codes "INSERT INTO blocks (node, block, bytes) VALUES (?1, ?2, ?3)"

abbrev terms : List Term
terms = lit Null ∷ col 0 0 ∷ col 0 1 ∷ col 0 2 ∷ []

insert_is : (l : Layout) → command_of (understood (schema_for l) insert_text) ≡ Insert 3 (Values terms 4)
unfolding understood everything
insert_is Second = refl
insert_is Third = refl

insert_plain : (l : Layout) → IsPlain (understood (schema_for l) insert_text)
unfolding understood everything
insert_plain Second = (refl, refl)
insert_plain Third = (refl, refl)

pub insert_edit : IsEditText (first insert_text)
unfolding first everything
insert_edit = tt

abbrev pub given_block : ℕ → ℕ → List ℕ → Row
given_block node block bytes = Int (pos node) ∷ Int (pos block) ∷ Blob bytes ∷ []

cast_given : (node block : ℕ) (bytes : List ℕ) → cast_row blocks (Null ∷ given_block node block bytes) ≡ Null ∷ given_block node block bytes
cast_given node block bytes = rw (cast_int (pos node), cast_int (pos block), cast_null)

-- the rowid that is chosen is the next slot
next_is : (bs : List Block) (a : ℕ) → fold (λ _ r. id_in (rowid r) +ℤ pos 1) (pos a) (map block_row bs) ≡ pos (fold (λ _ b. b.slot + 1) a bs)
next_is [] a = refl
next_is (b ∷ bs) a = next_is bs (b.slot + 1)

numbered_as : (node block : ℕ) (bytes : List ℕ) (bs : List Block) → with_rowid Chosen (map block_row bs) (Null ∷ given_block node block bytes) ≡ block_row
    (new_block node block bytes bs)
numbered_as node block bytes bs = ap (λ id. Int id ∷ given_block node block bytes) (next_is bs 1)

inserts : (node block : ℕ) (bytes : List ℕ) (c : Content) (old new : State) (n : ℕ) → Holds c old.now
    → Writes old new None (Insert 3 (Values terms 4)) (statement_of insert_text (understood (schema_for c.layout) insert_text)) (given_block node block bytes) n
    → Holds (with_block node block bytes c) new.now
inserts node block bytes c old new n at w =
    let put = inserted (schema_for c.layout) 3 blocks (blocks_listed c.layout) terms 4 old new _ (given_block node block bytes) n (Null ∷ given_block node block bytes)
    (λ keys news. quiet c.layout keys 5 [] news)
    (ap (λ r. r ∷ []) (cast_given node block bytes)) at.schema w in
    let was = (laid c old.now at).blocks in
    let b = new_block node block bytes c.blocks in
    let rows : new.now.trees 5 ≡ put_row (block_row b) (old.now.trees 5) =
    put.rows ∙ ap (λ r. put_row r (old.now.trees 5)) (ap (λ all. with_rowid Chosen all (Null ∷ given_block node block bytes)) was.0
    ∙ numbered_as node block bytes c.blocks) in
    wrote (schema_for c.layout) (stored c) (stored (with_block node block bytes c)) blocks old.now new.now at put.spares w.sound
    (only_blocks c (put_by (λ x. x.slot) b c.blocks))
    (rows ∙ ap (put_row (block_row b)) was.0 ∙ put_rows (λ x. x.slot) block_row (λ _. refl) b c.blocks)
    (subst IsTable (sym rows) (IsTable-put_row (block_row b) (old.now.trees 5) was.1))

pub adds : (node block : ℕ) (bytes : List ℕ) (old new : State) (r : Result (Unit {0}) Error)
    → (HasCleanDisk new → Ran insert_text (given_block node block bytes) old new r)
    → Survives old new (CommitsBy insert_text (given_block node block bytes) old) → Makes (with_block node block bytes) old new r
adds node block bytes = makes_laid insert_text (given_block node block bytes) (λ _. Insert 3 (Values terms 4)) insert_is
    insert_plain (λ _. refl) insert_edit (λ c. Holds (with_block node block bytes c))
    (inserts node block bytes)

-- ---- the blocks of a node from a number on

abbrev pub blocks_text : List ℕ
blocks_text = codes "DELETE FROM blocks WHERE node = ?1 AND block >= ?2"

abbrev blocks_terms : List Term
blocks_terms = op2 (Compare Eq Binary) (col 1 1) (col 0 0) ∷ op2 (Compare Ge Binary) (col 1 2) (col 0 1) ∷ []

blocks_is : (l : Layout) → command_of (understood (schema_for l) blocks_text) ≡ Delete 3 (picking 5 blocks_terms)
unfolding understood everything
blocks_is Second = refl
blocks_is Third = refl

blocks_plain : (l : Layout) → IsPlain (understood (schema_for l) blocks_text)
unfolding understood everything
blocks_plain Second = (refl, refl)
blocks_plain Third = (refl, refl)

pub blocks_edit : IsEditText (first blocks_text)
unfolding first everything
blocks_edit = tt

tests_blocks : (node from : ℕ) (b : Block) → list_all (holds ((Int (pos node) ∷ Int (pos from) ∷ []) ∷ block_row b ∷ [])) blocks_terms ≡ is_from node from b
unfolding binary
tests_blocks node from b =
    ap (λ o. is_true (from_truth (Some (is_eq o))) && (is_true (from_truth (Some (is_ge (value_cmp (Int (pos b.block)) (Int (pos from)))))) && true))
    (row_cmp_nat b.node node)
    ∙ ap (λ o. is_true (from_truth (Some (is_eq (nat_cmp b.node node)))) && (is_true (from_truth (Some (is_ge o))) && true)) (row_cmp_nat b.block from)
    ∙ both_true (is_eq (nat_cmp b.node node)) (is_ge (nat_cmp b.block from))

blocks_gone : (node from : ℕ) (c : Content) (old new : State) (n : ℕ) → Holds c old.now
    → Writes old new None (Delete 3 (picking 5 blocks_terms)) (statement_of blocks_text (understood (schema_for c.layout) blocks_text)) (Int (pos node) ∷ Int (pos from)
    ∷ []) n → Holds (without_blocks_from node from c) new.now
blocks_gone node from c old new n at w =
    let was = (laid c old.now at).blocks in
    let now = picks c.layout (λ b. b.slot) block_row (λ _. refl) (is_from node from) 3 blocks (blocks_listed c.layout) blocks_terms (Int (pos node) ∷ Int (pos from)
    ∷ []) (tests_blocks node from) (λ _. refl) c.blocks old new _ n at.schema was.0 was.1 w in
    wrote (schema_for c.layout) (stored c) (stored (without_blocks_from node from c)) blocks old.now new.now at now.2 w.sound (only_blocks c _) now.0 now.1

pub removes_blocks : (node from : ℕ) (old new : State) (r : Result (Unit {0}) Error) → (HasCleanDisk new → Ran blocks_text (Int (pos node) ∷ Int (pos from)
    ∷ []) old new r)
    → Survives old new (CommitsBy blocks_text (Int (pos node) ∷ Int (pos from) ∷ []) old) → Makes (without_blocks_from node from) old new r
removes_blocks node from = makes_laid blocks_text (Int (pos node) ∷ Int (pos from) ∷ []) (λ _. Delete 3 (picking 5 blocks_terms))
    blocks_is blocks_plain (λ _. refl) blocks_edit
    (λ c. Holds (without_blocks_from node from c)) (blocks_gone node from)

-- ---- one block

abbrev pub block_terms : List Term
block_terms = op2 (Compare Eq Binary) (col 1 1) (col 0 0) ∷ op2 (Compare Eq Binary) (col 1 2) (col 0 1) ∷ []

pub tests_block : (node block : ℕ) (more : Row) (b : Block) → list_all (holds ((Int (pos node) ∷ Int (pos block) ∷ more) ∷ block_row b ∷ [])) block_terms
    ≡ is_at node block b
unfolding binary
tests_block node block more b =
    ap (λ o. is_true (from_truth (Some (is_eq o))) && (is_true (from_truth (Some (is_eq (value_cmp (Int (pos b.block)) (Int (pos block)))))) && true))
    (row_cmp_nat b.node node)
    ∙ ap (λ o. is_true (from_truth (Some (is_eq (nat_cmp b.node node)))) && (is_true (from_truth (Some (is_eq o))) && true)) (row_cmp_nat b.block block)
    ∙ both_true (is_eq (nat_cmp b.node node)) (is_eq (nat_cmp b.block block))

-- ---- a block by its place

abbrev pub select_text : List ℕ
select_text = codes "SELECT bytes FROM blocks WHERE node = ?1 AND block = ?2"

select_is : (l : Layout) → command_of (understood (schema_for l) select_text) ≡ Select (record { lets = []; body = plain_query 5 block_terms (col 1 3 ∷ []) }) (codes "bytes"
    ∷ [])
unfolding understood everything
select_is Second = refl
select_is Third = refl

select_plain : (l : Layout) → IsPlain (understood (schema_for l) select_text)
unfolding understood everything
select_plain Second = (refl, refl)
select_plain Third = (refl, refl)

pub select_reads : IsSelectText (first select_text)
unfolding first everything
select_reads = (_, refl)

select_unlisted : (l : Layout) → reads_listing (schema_for l) select_text ≡ false
unfolding understood everything
select_unlisted Second = refl
select_unlisted Third = refl

pub same_number : (m n : ℕ) → is_eq (nat_cmp m n) ≡ true → m ≡ n
same_number m n is = grind (arith, nat_tests)

pub both_are : (a b : Bool) → (a && b) ≡ true → (a ≡ true) × (b ≡ true)
both_are true true e = (refl, refl)
both_are true false e = absurd cc
both_are false b e = absurd cc

none_after : (node block : ℕ) (bs : List Block) → AllByRecursion (λ b. is_at node block b ≡ false) bs → filter (is_at node block) bs ≡ []
none_after node block [] apart = refl
none_after node block (b ∷ bs) apart = rw (apart.0) (none_after node block bs apart.1)

pub found_one : (node block : ℕ) (bs : List Block) → AreApart bs → filter (is_at node block) bs ≡ option_to_list (block_at node block bs)
found_one node block [] apart = refl
found_one node block (b ∷ bs) apart = elim (cases_Bool (is_at node block b)) [
  | inl here ↦
      let is = both_are _ _ here in
      let after = subst (λ k. AllByRecursion (λ x. is_at node k x ≡ false) bs) (same_number b.block block is.1)
      (subst (λ k. AllByRecursion (λ x. is_at k b.block x ≡ false) bs) (same_number b.node node is.0) apart.0) in
      rw here (ap (λ rest. b ∷ rest) (none_after node block bs after))
  | inr not_here ↦ rw not_here (found_one node block bs apart.1)
]

finds : (node block : ℕ) (c : Content) (old new : State) (rows : List Row) → Inside c old → Shown select_text (Int (pos node) ∷ Int (pos block)
    ∷ []) old new rows
    → rows ≡ map shown_block (option_to_list (block_at node block c.blocks))
finds node block c old new rows at h =
    let params = Int (pos node) ∷ Int (pos block) ∷ [] in
    let answer = (read_laid select_text params _ select_is select_plain select_unlisted c old new rows at h).answer Null in
    let same = answered block_row (is_at node block) Null (overlay old.now.trees []) block_terms params (tests_block node block []) 5 (col 1 3 ∷ []) c.blocks rows
    (laid c old.now at.holds).blocks.0 answer in
    only (block_at node block c.blocks) shown_block rows (subst (λ xs. IsPermutation (map shown_block xs) rows) (found_one node block c.blocks
    (blocks_apart c old.now at.holds)) same)

pub look_makes : {X : Type 0} (items : X → List Row) (node block : ℕ) (old new : State) (r : Result X Error)
    → (HasCleanDisk new → IfOk r (λ x. Shown select_text (Int (pos node) ∷ Int (pos block) ∷ []) old new (items x)))
    → (HasCleanDisk new → IfErr r (FailsToQuery select_text (Int (pos node) ∷ Int (pos block) ∷ []) old new))
    → Survives old new (CommitsShowing select_text (Int (pos node) ∷ Int (pos block) ∷ []) old) → Makes (λ c. c) old new r
look_makes items node block = looks_laid select_text (Int (pos node) ∷ Int (pos block) ∷ []) _ select_is select_plain select_reads items

pub look_finds : {X : Type 0} (items : X → List Row) (node block : ℕ) (old new : State) (r : Result X Error)
    → (HasCleanDisk new → IfOk r (λ x. Shown select_text (Int (pos node) ∷ Int (pos block) ∷ []) old new (items x)))
    → HasCleanDisk new → IfOk r (λ x. (c : Content) → Inside c old → items x ≡ map shown_block (option_to_list (block_at node block c.blocks)))
look_finds items node block old new (Ok x) ok clean = λ c at. finds node block c old new (items x) at (ok clean)
look_finds items node block old new (Err e) ok clean = tt
