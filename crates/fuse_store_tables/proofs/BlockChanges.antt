-- A block that is changed in its place.
use Rattle.std.proofs.Common.{◌≡◌, inl, inr, ℕ, pos, List, [], ◌∷◌, map, codes, Bool, true, false, nat_lt, length, find, Some, None, Option}
use Rattle.std.proofs.Common.{Less, Result, IfOk, refl, sym, ap, subst, arith, ◌∙◌}
use Rattle.std.specs.List.{AllByRecursion}
use Rattle.std.specs.Option.{option_to_list, is_some}
use Rattle.std.specs.Ordering.{is_eq, nat_cmp}
use Rattle.std.proofs.lemmas.Bool.{cases_Bool}
use Rattle.std.proofs.lemmas.Bool.Decides.{nat_tests}
use Rattle.sqlite.specs.declared.types.Value.TheVariants.{Int, Blob}
use Rattle.sqlite.specs.Order.{Row}
use Rattle.sqlite.specs.Tree.{Trees}
use Rattle.sqlite_trees.specs.Tree.{IsTable, rowid}
use Rattle.sqlite_value.specs.Order.{value_cmp}
use Rattle.sqlite.specs.Term.{Term, col}
use Rattle.sqlite.specs.Command.TheVariants.{Update}
use Rattle.sqlite.specs.Edit.{edit_of, edited}
use Rattle.sqlite.specs.Rowids.TheVariants.{Given}
use Rattle.sqlite_rules.specs.Cast.{cast_row}
use Rattle.sqlite_rules.specs.Calls.{ids_of}
use Rattle.sqlite_tied.specs.Compute.{everything}
use Rattle.sqlite.specs.declared.error.Error.{Error}
use Rattle.sqlite.specs.Listing.{understood}
use Rattle.sqlite.specs.State.{State, HasCleanDisk, Survives, CommitsBy, Writes}
use Rattle.sqlite.proofs.Callers.{IsPlain, command_of, statement_of}
use Rattle.fuse_store_tables.specs.Layout.{blocks, schema_for}
use Rattle.fuse_store_tables.specs.Blocks.{Block, block_row, is_at, block_at, rewritten, set_at}
use Rattle.fuse_store_tables.specs.Content.{Content, Holds, stored, at_by, set_by, with_block, set_block, put_block}
use Rattle.fuse_store_tables.specs.Moves.{Inside, Makes}
use Rattle.fuse_store_tables.specs.inner.Performing.{RanAny}
use Rattle.fuse_store_tables.specs.inner.Rows.{Edits}
use Rattle.fuse_store_tables.proofs.Tables.{wrote, only_blocks}
use Rattle.fuse_store_tables.proofs.Keyed.{row_cmp_nat, none_there}
use Rattle.fuse_store_tables.proofs.RowLemmas.{cast_int}
use Rattle.fuse_store_tables.proofs.Apart.{AreApart, blocks_apart}
use Rattle.fuse_store_tables.proofs.Updating.{changing, edits, some_changed, edited_as}
use Rattle.fuse_store_tables.proofs.BlockRows.{given_block, block_terms, tests_block, found_one, same_number, both_are}
use Rattle.sqlite_resolve.specs.Compile.{first}
use Rattle.fuse_store_tables.proofs.Edits.{IsEditText}
use Rattle.fuse_store_tables.specs.declared.version.Layout.{Layout}
use Rattle.fuse_store_tables.specs.declared.version.Layout.TheVariants.{Second, Third}
use Rattle.fuse_store_tables.proofs.Laid.{makes_any_laid, says_any_laid}
use Rattle.fuse_store_tables.proofs.Tables.{blocks_listed, laid}

abbrev slot : Block → ℕ
slot b = b.slot

-- ---- by the place or by the slot

same_some : (x y : Block) → ◌≡◌ {A = Option Block} (Some x) (Some y) → x ≡ y
same_some x y e = cc

higher : (a : Block) (bs : List Block) → AllByRecursion (λ r. value_cmp (rowid (block_row a)) (rowid r) ≡ Less) (map block_row bs)
    → AllByRecursion (λ b. nat_cmp a.slot b.slot ≡ Less) bs
higher a [] rise = tt
higher a (b ∷ bs) rise = (sym (row_cmp_nat a.slot b.slot) ∙ rise.0, higher a bs rise.1)

found_in : (P : Block → Type 0) (p : Block → Bool) (bs : List Block) (b : Block) → AllByRecursion P bs → find p bs ≡ Some b → P b
found_in P p [] b all found = absurd cc
found_in P p (x ∷ bs) b all found = elim (cases_Bool (p x)) [
  | inl here ↦ subst P (same_some x b (rw here at found)) all.0
  | inr not_here ↦ found_in P p bs b all.1 (rw not_here at found)
]

below : (a b : ℕ) → nat_cmp a b ≡ Less → is_eq (nat_cmp a b) ≡ false
below a b less = ap is_eq less

above : (a b : ℕ) → nat_cmp a b ≡ Less → is_eq (nat_cmp b a) ≡ false
above a b less = grind (arith, nat_tests)

itself : (a : ℕ) → is_eq (nat_cmp a a) ≡ true
itself a = grind (arith, nat_tests)

kept_by_slot : (s : ℕ) (bytes : List ℕ) (bs : List Block) → AllByRecursion (λ b. nat_cmp s b.slot ≡ Less) bs → set_by slot s (rewritten bytes) bs ≡ bs
kept_by_slot s bytes [] higher = refl
kept_by_slot s bytes (b ∷ bs) higher = rw (above s b.slot higher.0) (ap (λ rest. b ∷ rest) (kept_by_slot s bytes bs higher.1))

kept_by_place : (node block : ℕ) (bytes : List ℕ) (bs : List Block) → AllByRecursion (λ b. is_at node block b ≡ false) bs → set_at node block bytes bs ≡ bs
kept_by_place node block bytes [] apart = refl
kept_by_place node block bytes (b ∷ bs) apart = rw (apart.0) (ap (λ rest. b ∷ rest) (kept_by_place node block bytes bs apart.1))

missing : (node block : ℕ) (bytes : List ℕ) (bs : List Block) → block_at node block bs ≡ None → set_at node block bytes bs ≡ bs
missing node block bytes [] none = refl
missing node block bytes (b ∷ bs) none = elim (cases_Bool (is_at node block b)) [
  | inl here ↦ absurd (let e = rw here at none in cc)
  | inr not_here ↦ rw not_here (ap (λ rest. b ∷ rest) (missing node block bytes bs (rw not_here at none)))
]

by_slot : (node block : ℕ) (bytes : List ℕ) (bs : List Block) (b : Block) → IsTable (map block_row bs) → AreApart bs → block_at node block bs ≡ Some b
    → (at_by slot b.slot bs ≡ Some b) × (set_by slot b.slot (rewritten bytes) bs ≡ set_at node block bytes bs)
by_slot node block bytes [] b rise apart found = absurd cc
by_slot node block bytes (x ∷ bs) b rise apart found = elim (cases_Bool (is_at node block x)) [
  | inl here ↦
      let is : x ≡ b = same_some x b (rw here at found) in
      let slots : is_eq (nat_cmp x.slot b.slot) ≡ true = subst (λ y. is_eq (nat_cmp x.slot y.slot) ≡ true) is (itself x.slot) in
      let rest : set_by slot b.slot (rewritten bytes) bs ≡ bs =
      kept_by_slot b.slot bytes bs (subst (λ y. AllByRecursion (λ z. nat_cmp y.slot z.slot ≡ Less) bs) is (higher x bs rise.0)) in
      (rw slots (ap Some is), rw (slots, here) (ap (λ l. rewritten bytes x ∷ l) (rest ∙ sym (kept_by_place node block bytes bs (others x here apart.0)))))
  | inr not_here ↦
      let later : block_at node block bs ≡ Some b = rw not_here at found in
      let slots : is_eq (nat_cmp x.slot b.slot) ≡ false =
      below x.slot b.slot (found_in (λ y. nat_cmp x.slot y.slot ≡ Less) (is_at node block) bs b (higher x bs rise.0) later) in
      let more = by_slot node block bytes bs b rise.1 apart.1 later in
      (rw slots more.0, rw (slots, not_here) (ap (λ l. x ∷ l) more.1))
]
  where
    others : (a : Block) → is_at node block a ≡ true → AllByRecursion (λ y. is_at a.node a.block y ≡ false) bs
        → AllByRecursion (λ y. is_at node block y ≡ false) bs
    others a here apart = let at = both_are _ _ here in
        subst (λ k. AllByRecursion (λ y. is_at node k y ≡ false) bs) (same_number a.block block at.1)
        (subst (λ k. AllByRecursion (λ y. is_at k a.block y ≡ false) bs) (same_number a.node node at.0) apart)

-- ---- the statement

abbrev pub update_text : List ℕ
update_text = codes "UPDATE blocks SET bytes = ?3 WHERE node = ?1 AND block = ?2"

abbrev update_terms : List Term
update_terms = col 1 0 ∷ col 1 1 ∷ col 1 2 ∷ col 0 2 ∷ []

update_is : (l : Layout) → command_of (understood (schema_for l) update_text) ≡ Update 3 (changing 5 block_terms update_terms)
unfolding understood everything
update_is Second = refl
update_is Third = refl

update_plain : (l : Layout) → IsPlain (understood (schema_for l) update_text)
unfolding understood everything
update_plain Second = (refl, refl)
update_plain Third = (refl, refl)

pub update_edit : IsEditText (first update_text)
unfolding first everything
update_edit = tt

cast_block : (b : Block) → cast_row blocks (block_row b) ≡ block_row b
cast_block b = rw (cast_int (pos b.slot), cast_int (pos b.node), cast_int (pos b.block)) refl

module _ (node block : ℕ) (bytes : List ℕ) where
  abbrev cells : Block → Row
  cells b = block_row (rewritten bytes b)

  abbrev source : Block → Row
  source b = Int (pos b.slot) ∷ cells b

  edited_at : (bs : List Block) (o : Option Block) (db : Trees) → db 5 ≡ map block_row bs → IsTable (db 5) → AreApart bs → block_at node block bs ≡ o
      → (edited db (edit_of db blocks (ids_of (map source (option_to_list o))) Given 1 (map source (option_to_list o))) ≡ map block_row
      (set_at node block bytes bs))
      × IsTable (edited db (edit_of db blocks (ids_of (map source (option_to_list o))) Given 1 (map source (option_to_list o))))
  edited_at bs None db has rise apart none = (has ∙ ap (map block_row) (sym (missing node block bytes bs none)), rise)
  edited_at bs (Some b) db has rise apart found =
      let by = by_slot node block bytes bs b (subst IsTable has rise) apart found in
      let made = edited_as Second slot block_row (λ _. refl) b.slot (rewritten bytes) (λ _. refl) 3 blocks (blocks_listed Second) cells (λ y. cast_block (rewritten bytes y)) bs
      (Some b) db has rise by.0 in
      (made.0 ∙ ap (map block_row) by.1, made.1)

  asked_for : (c : Content) (old new : State) (n : ℕ) → Holds c old.now → Writes old new None (Update 3 (changing 5 block_terms update_terms))
      (statement_of update_text (understood (schema_for c.layout) update_text)) (given_block node block bytes) n
      → Edits blocks 1 (map source (option_to_list (block_at node block c.blocks))) (map source (option_to_list (block_at node block c.blocks))) old.now new.now
      × (n ≡ length (map source (option_to_list (block_at node block c.blocks))))
  asked_for c old new n at w =
      edits c.layout slot block_row 3 blocks (blocks_listed c.layout) cells (is_at node block) block_terms update_terms (given_block node block bytes)
      (tests_block node block (Blob bytes ∷ [])) (λ y. refl) (λ _. refl) c.blocks (block_at node block c.blocks)
      (found_one node block c.blocks (blocks_apart c old.now at)) old new _ n at.schema (laid c old.now at).blocks.0 w

  changed : (c : Content) (old new : State) (n : ℕ) → Holds c old.now → Writes old new None (Update 3 (changing 5 block_terms update_terms))
      (statement_of update_text (understood (schema_for c.layout) update_text)) (given_block node block bytes) n → Holds (set_block node block bytes c) new.now
  changed c old new n at w =
      let was = (laid c old.now at).blocks in
      let edit = (asked_for c old new n at w).0 in
      let made = edited_at c.blocks (block_at node block c.blocks) old.now.trees was.0 was.1 (blocks_apart c old.now at) refl in
      wrote (schema_for c.layout) (stored c) (stored (set_block node block bytes c)) blocks old.now new.now at edit.spares w.sound (only_blocks c _)
      (edit.rows ∙ made.0) (subst IsTable (sym edit.rows) made.1)

  changed_some : (c : Content) (old new : State) (n : ℕ) → Holds c old.now → Writes old new None (Update 3 (changing 5 block_terms update_terms))
      (statement_of update_text (understood (schema_for c.layout) update_text)) (given_block node block bytes) n
      → nat_lt 0 n ≡ is_some (block_at node block c.blocks)
  changed_some c old new n at w = some_changed (block_at node block c.blocks) source n (asked_for c old new n at w).1

  pub sets : (old new : State) (r : Result Bool Error) → (HasCleanDisk new → RanAny update_text (given_block node block bytes) old new r)
      → Survives old new (CommitsBy update_text (given_block node block bytes) old) → Makes (set_block node block bytes) old new r
  sets = makes_any_laid update_text (given_block node block bytes) (λ _. Update 3 (changing 5 block_terms update_terms)) update_is
      update_plain (λ _. refl) update_edit (λ c. Holds (set_block node block bytes c)) changed

  pub sets_some : (old new : State) (r : Result Bool Error) → (HasCleanDisk new → RanAny update_text (given_block node block bytes) old new r)
      → HasCleanDisk new → IfOk r (λ any. (c : Content) → Inside c old → any ≡ is_some (block_at node block c.blocks))
  sets_some = says_any_laid update_text (given_block node block bytes) (λ _. Update 3 (changing 5 block_terms update_terms))
      update_is update_plain (λ _. refl) (λ c. is_some (block_at node block c.blocks)) changed_some

  -- ---- in place of the bytes before, or as a new block

  pub put_over : (c : Content) → is_some (block_at node block c.blocks) ≡ true → set_block node block bytes c ≡ put_block node block bytes c
  put_over c is = rw is refl

  pub put_new : (c : Content) → is_some (block_at node block c.blocks) ≡ false → with_block node block bytes (set_block node block bytes c)
      ≡ put_block node block bytes c
  put_new c is =
      rw is (ap (λ bs. with_block node block bytes (record c { blocks = bs })) (missing node block bytes c.blocks
      (none_there (block_at node block c.blocks) is)))
