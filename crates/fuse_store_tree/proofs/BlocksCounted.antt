-- How many blocks are written, from one on and below another.
use Rattle.std.proofs.Common.{◌≡◌, ◌≤◌, ◌<◌, ◌⊎◌, ◌+◌, ◌-◌, ◌^◌, ◌==◌, ◌&&◌, inl, inr, ℕ, zero, suc, List, [], ◌∷◌, ◌++◌, filter, find, length, min, nat_lt, Bool, true, false, cond}
use Rattle.std.proofs.Common.{Ok, Err, Result, IfOk, Option, Some, None, IfSome, option_map, refl, sym, ap, subst, arith, ◌∙◌}
use Rattle.std.specs.Prelude.{nat_le, IsSome}
use Rattle.std.specs.List.{AllByRecursion}
use Rattle.std.proofs.lemmas.Bool.{cases_Bool, cases_lt}
use Rattle.std.proofs.lemmas.Bool.Decides.{nat_tests}
use Rattle.fuse_rows.specs.Bounds.{file_limit}
use Rattle.fuse_rows.specs.Blocks.{numbers_from, count_between, listed_blocks, blocks_for}
use Rattle.fuse_rows.specs.Rows.{full_at, written_blocks_of, blocks_between, content_of}
use Rattle.fuse_rows.specs.declared.rows.Full.{Full}
use Rattle.fuse_tree.specs.State.{Apart, AreWritten}
use Rattle.fuse_tree.specs.Rowed.{IsRowed}
use Rattle.fuse_tree.specs.RowsOfTrees.{CountsWritten, RowsOfTrees}
use Rattle.fuse_store_tables.specs.declared.version.Layout.{Layout}
use Rattle.fuse_store_tables.specs.declared.version.Layout.TheVariants.{Second, Third}
use Rattle.fuse_store_tables.specs.Content.{Content, node_key, HasCount}
use Rattle.fuse_store_tree.specs.Fits.{KeepsNode}
use Rattle.fuse_store_tree.specs.Pieces.{is_written_in}
use Rattle.fuse_store_tree.specs.Store.{Store, is_among, rows_ends, blocks_counted, IsWrittenAs}
use Rattle.fuse_store_tree.specs.inner.Reading.{Describes, counted_between, one_if}
use Rattle.fuse_store_tree.proofs.Described.{row_told, IsFull, rows_full, full_found}
use Rattle.fuse_store_tree.proofs.Looks.{found_is, none_found, all_map}
use Rattle.fuse_store_tree.proofs.StoredBytes.{stored_within}

-- ---- one block more

numbers_last : (from n : ℕ) → numbers_from from (suc n) ≡ numbers_from from n ++ (from + n) ∷ []
numbers_last from zero = let e : from ≡ from + 0 = omega arith in ap (λ k. k ∷ []) e
numbers_last from (suc n) =
    let e : from + 1 + n ≡ from + suc n = omega arith in
    ap (λ l. from ∷ l) (numbers_last (from + 1) n ∙ ap (λ k. numbers_from (from + 1) n ++ k ∷ []) e)

filter_last : (p : ℕ → Bool) (xs : List ℕ) (x : ℕ) → length (filter p (xs ++ x ∷ [])) ≡ length (filter p xs) + one_if (p x)
filter_last p [] x = elim (cases_Bool (p x)) [
  | inl here ↦ rw here (let e : 1 ≡ 0 + 1 = omega arith in e)
  | inr off ↦ rw off (let e : 0 ≡ 0 + 0 = omega arith in e)
]
filter_last p (y ∷ xs) x = elim (cases_Bool (p y)) [
  | inl here ↦ rw here (ap suc (filter_last p xs x) ∙ (let e : suc (length (filter p xs) + one_if (p x)) ≡ suc (length (filter p xs)) + one_if (p x) = omega arith in e))
  | inr off ↦ rw off (filter_last p xs x)
]

pub counted_more : (file : List ℕ) (c : Content) (node from block : ℕ) → from ≤ block
    → counted_between file c node from (block + 1) ≡ counted_between file c node from block + one_if (is_written_in file c node block)
counted_more file c node from block low =
    let p = is_written_in file c node in
    let e : block + 1 - from ≡ suc (block - from) = omega (arith, low) in
    let here : from + (block - from) ≡ block = omega (arith, low) in
    ap (λ n. length (filter p (numbers_from from n))) e ∙ ap (λ l. length (filter p l)) (numbers_last from (block - from))
    ∙ filter_last p (numbers_from from (block - from)) (from + (block - from))
    ∙ ap (λ k. length (filter p (numbers_from from (block - from))) + one_if (p k)) here

pub counted_nothing : (file : List ℕ) (c : Content) (node from to : ℕ) → to ≤ from → counted_between file c node from to ≡ 0
counted_nothing file c node from to high =
    let e : to - from ≡ 0 = omega (arith, high) in ap (λ n. length (filter (is_written_in file c node) (numbers_from from n))) e

-- of a node whose number is below the end
pub not_above : {F : Type 0} (r : Result ℕ F) (node : ℕ) → node < 2 ^ 63 → IfOk r (λ count. 2 ^ 63 ≤ node → count ≡ 0)
not_above (Ok n) node low = λ high. absurd (omega (arith, low, high))
not_above (Err f) node low = tt

-- ---- numbers that rise

-- none is before the first one
none_at : (x : ℕ) (bs : List ℕ) → AllByRecursion (λ b. x < b) bs → is_among bs x ≡ false
none_at x [] above = refl
none_at x (b ∷ bs) above = rw (off x b above.0) (none_at x bs above.1)
  where
    off : (a k : ℕ) → a < k → (k == a) ≡ false
    off a k low = grind (arith, nat_tests)

-- those above the first one
same_above : (from to : ℕ) (bs : List ℕ) → AllByRecursion (λ b. from < b) bs
    → filter (λ b. nat_le from b && nat_lt b to) bs ≡ filter (λ b. nat_le (from + 1) b && nat_lt b to) bs
same_above from to [] above = refl
same_above from to (b ∷ bs) above =
    rw (tests from b to above.0) (ap (λ l. cond (nat_le (from + 1) b && nat_lt b to) (b ∷ l) l) (same_above from to bs above.1))
  where
    tests : (f k t : ℕ) → f < k → (nat_le f k && nat_lt k t) ≡ (nat_le (f + 1) k && nat_lt k t)
    tests f k t low = grind (arith, nat_tests)

all_above : (from x : ℕ) (bs : List ℕ) → from ≤ x → AllByRecursion (λ b. x < b) bs → AllByRecursion (λ b. from < b) bs
all_above from x [] low above = tt
all_above from x (b ∷ bs) low above = (omega (arith, low, above.0), all_above from x bs low above.1)

first_counted : (from to : ℕ) (bs : List ℕ) → from < to → Apart (λ b later. b < later) bs
    → count_between from to bs ≡ one_if (is_among bs from) + count_between (from + 1) to bs
first_counted from to [] low rise = let e : 0 ≡ 0 + 0 = omega arith in e
first_counted from to (x ∷ bs) low rise = elim (cases_lt x from) [
  | inl before ↦ rw (below x from before, under x from to before, under_next x from to before) (first_counted from to bs low rise.1)
  | inr behind ↦ elim (cases_lt from x) [
    | inl above ↦
        rw (off from x above, none_at from bs (all_above from x bs (omega (arith, above)) rise.0))
        (ap length (same_above from to (x ∷ bs) (above, all_above from x bs (omega (arith, above)) rise.0))
        ∙ (let e : count_between (from + 1) to (x ∷ bs) ≡ 0 + count_between (from + 1) to (x ∷ bs) = omega arith in e))
    | inr here ↦
        let same : x ≡ from = omega (arith, behind, here) in
        rw (is x from same, inside x from to same low, outside x from to same)
        (ap (λ l. suc (length l)) (same_above from to bs (subst (λ k. AllByRecursion (λ b. k < b) bs) same rise.0))
        ∙ (let e : suc (count_between (from + 1) to bs) ≡ 1 + count_between (from + 1) to bs = omega arith in e))
  ]
]
  where
    below : (a f : ℕ) → a < f → (a == f) ≡ false
    below a f low = grind (arith, nat_tests)

    under : (a f t : ℕ) → a < f → (nat_le f a && nat_lt a t) ≡ false
    under a f t low = grind (arith, nat_tests)

    under_next : (a f t : ℕ) → a < f → (nat_le (f + 1) a && nat_lt a t) ≡ false
    under_next a f t low = grind (arith, nat_tests)

    off : (f a : ℕ) → f < a → (a == f) ≡ false
    off f a low = grind (arith, nat_tests)

    is : (a f : ℕ) → a ≡ f → (a == f) ≡ true
    is a f same = grind (arith, nat_tests)

    inside : (a f t : ℕ) → a ≡ f → f < t → (nat_le f a && nat_lt a t) ≡ true
    inside a f t same low = grind (arith, nat_tests)

    outside : (a f t : ℕ) → a ≡ f → (nat_le (f + 1) a && nat_lt a t) ≡ false
    outside a f t same = grind (arith, nat_tests)

none_between : (from to : ℕ) (bs : List ℕ) → to ≤ from → count_between from to bs ≡ 0
none_between from to [] low = refl
none_between from to (b ∷ bs) low = rw (off b from to low) (none_between from to bs low)
  where
    off : (a f t : ℕ) → t ≤ f → (nat_le f a && nat_lt a t) ≡ false
    off a f t high = grind (arith, nat_tests)

-- by the numbers, and by the list
same_count : (p : ℕ → Bool) (bs : List ℕ) (from n : ℕ) → Apart (λ b later. b < later) bs → ((k : ℕ) → p k ≡ is_among bs k)
    → length (filter p (numbers_from from n)) ≡ count_between from (from + n) bs
same_count p bs from zero rise same = sym (none_between from (from + 0) bs (omega arith))
same_count p bs from (suc n) rise same =
    let e : from + 1 + n ≡ from + suc n = omega arith in
    first (p from) refl ∙ ap (λ m. one_if (p from) + m) (same_count p bs (from + 1) n rise same ∙ ap (λ t. count_between (from + 1) t bs) e)
    ∙ ap (λ b. one_if b + count_between (from + 1) (from + suc n) bs) (same from) ∙ sym (first_counted from (from + suc n) bs (omega arith) rise)
  where
    first : (b : Bool) → p from ≡ b → length (filter p (numbers_from from (suc n))) ≡ one_if (p from) + length (filter p (numbers_from (from + 1) n))
    first true is = rw is (let e : suc (length (filter p (numbers_from (from + 1) n))) ≡ 1 + length (filter p (numbers_from (from + 1) n)) = omega arith in e)
    first false is = rw is (let e : length (filter p (numbers_from (from + 1) n)) ≡ 0 + length (filter p (numbers_from (from + 1) n)) = omega arith in e)

none_counted : (p : ℕ → Bool) (from n : ℕ) → ((k : ℕ) → p k ≡ false) → length (filter p (numbers_from from n)) ≡ 0
none_counted p from zero none = refl
none_counted p from (suc n) none = rw (none from) (none_counted p (from + 1) n none)

-- all are below this
same_below : (from to end : ℕ) (bs : List ℕ) → AllByRecursion (λ b. b < end) bs → count_between from to bs ≡ count_between from (min to end) bs
same_below from to end bs all = elim (cases_lt to end) [
  | inl low ↦ ap (λ t. count_between from t bs) (let e : to ≡ min to end = omega (arith, low) in e)
  | inr high ↦ ap length (by bs all high) ∙ ap (λ t. count_between from t bs) (let e : end ≡ min to end = omega (arith, high) in e)
]
  where
    tests : (f k t e : ℕ) → k < e → e ≤ t → (nat_le f k && nat_lt k t) ≡ (nat_le f k && nat_lt k e)
    tests f k t e low high = grind (arith, nat_tests)

    by : (xs : List ℕ) → AllByRecursion (λ b. b < end) xs → end ≤ to
        → filter (λ b. nat_le from b && nat_lt b to) xs ≡ filter (λ b. nat_le from b && nat_lt b end) xs
    by [] all high = refl
    by (b ∷ xs) all high = rw (tests from b to end all.0 high) (ap (λ l. cond (nat_le from b && nat_lt b end) (b ∷ l) l) (by xs all.1 high))

-- ---- of a store

-- a count that is there is of blocks that are there
none_counted_there : (o : Option ℕ) → IsSome o → o ≡ None → ⊥
none_counted_there None some none = absurd cc
none_counted_there (Some n) some none = absurd cc

-- what the row and the tables say of a node
record IsFullNode (layout : Layout) (f : Full) : Type 0 where
  count : HasCount layout f.row
  counts : CountsWritten f

module _ (of_trees : RowsOfTrees) (x : Store) (file : List ℕ) (c : Content) (rowed : IsRowed x.rows) (at : Describes x file c) (node : ℕ) where
  counts_found : (p : Full → Bool) (fs : List Full) → AllByRecursion CountsWritten fs → IfSome (find p fs) CountsWritten
  counts_found p [] all = tt
  counts_found p (f ∷ fs) all = elim (cases_Bool (p f)) [
    | inl here ↦ rw here all.0
    | inr off ↦ rw off (counts_found p fs all.1)
  ]

  full_node : (o : Option Full) → full_at x.rows node ≡ o → IfSome o (IsFullNode c.layout)
  full_node None is = tt
  full_node (Some f) is = record {
    count =
        (rw (row_told x file c rowed at node, is) at (found_is node_key node (KeepsNode c.layout) c.nodes at.fits.nodes)).0.count;
    counts = rw is at (counts_found (λ f. f.row.node == node) x.rows.nodes (of_trees x.rows rowed).counts);
  }

  pub counts_told : c.layout ≡ Third → (from to : ℕ) → counted_between file c node from to ≡ blocks_between x.rows node from to
  counts_told third from to = elim (cases_lt from to) [
    | inl low ↦ by (full_at x.rows node) refl (full_node (full_at x.rows node) refl) low
    | inr high ↦ counted_nothing file c node from to high ∙ sym (none_between from to (written_blocks_of (full_at x.rows node)) high)
  ]
    where
      by : (o : Option Full) → full_at x.rows node ≡ o → IfSome (full_at x.rows node) (IsFullNode c.layout) → from < to
          → counted_between file c node from to ≡ blocks_between x.rows node from to
      by None is told low =
          none_counted (is_written_in file c node) from (to - from) (λ k. off k (is_written_in file c node k) refl)
          ∙ ap (λ o. count_between from to (written_blocks_of o)) (sym is)
        where
          off : (k : ℕ) (b : Bool) → is_written_in file c node k ≡ b → is_written_in file c node k ≡ false
          off k false none = none
          off k true some =
              let within = stored_within file c (rows_ends x.rows) node k at.within at.pieces_within some in
              let none : rows_ends x.rows node ≡ 0 = ap (λ o. length (content_of o)) is in
              absurd (omega (arith, within, none))
      by (Some f) is told low = listed f.content.blocks refl
        where
          now : IsFullNode c.layout f
          now = rw is at told

          listed : (o : Option (List ℕ)) → f.content.blocks ≡ o → counted_between file c node from to ≡ blocks_between x.rows node from to
          listed None none =
              let some = subst (λ l. HasCount l f.row) third now.count in
              absurd (none_counted_there f.row.written some (now.counts.told ∙ ap (option_map length) none))
          listed (Some bs) there =
              let e : from + (to - from) ≡ to = omega (arith, low) in
              let written = subst (λ o. IfSome o (AreWritten f.content.bytes)) there now.counts.written in
              same_count (is_written_in file c node) bs from (to - from) written.rise (λ k. told_at k)
              ∙ ap (λ t. count_between from t bs) e
              ∙ ap (λ o. count_between from to (listed_blocks o)) (sym there) ∙ ap (λ o. count_between from to (written_blocks_of o)) (sym is)
            where
              told_at : (k : ℕ) → is_written_in file c node k ≡ is_among bs k
              told_at k = subst (λ w. IsWrittenAs (is_written_in file c node k) w k) (ap (λ o. option_map is_among (blocks_counted o)) is ∙ ap (option_map is_among) there) (at.written node k)

  pub none_told : c.layout ≡ Second → (from to : ℕ) → 0 ≡ blocks_between x.rows node from to
  none_told second from to = by (full_at x.rows node) refl (full_node (full_at x.rows node) refl)
    where
      by : (o : Option Full) → full_at x.rows node ≡ o → IfSome (full_at x.rows node) (IsFullNode c.layout) → 0 ≡ blocks_between x.rows node from to
      by None is told = ap (λ o. count_between from to (written_blocks_of o)) (sym is)
      by (Some f) is told = listed f.content.blocks refl ∙ ap (λ o. count_between from to (written_blocks_of o)) (sym is)
        where
          now : IsFullNode c.layout f
          now = rw is at told

          listed : (o : Option (List ℕ)) → f.content.blocks ≡ o → 0 ≡ count_between from to (listed_blocks f.content.blocks)
          listed None none = ap (λ o. count_between from to (listed_blocks o)) (sym none)
          listed (Some bs) there = absurd (let some = subst (λ l. HasCount l f.row) second now.count in let e = sym some ∙ now.counts.told ∙ ap (option_map length) there in cc)

  -- ---- as it is looked up

  no_node : 2 ^ 63 ≤ node → full_at x.rows node ≡ None
  no_node high = by (full_at x.rows node) refl
    where
      none : option_map (λ (f : Full). f.row) (full_at x.rows node) ≡ None
      none = sym (row_told x file c rowed at node) ∙ none_found node_key node (2 ^ 63) c.nodes high (all_map (KeepsNode c.layout) (λ n. n.node < 2 ^ 63) c.nodes (λ n keeps. keeps.node) at.fits.nodes)

      by : (o : Option Full) → full_at x.rows node ≡ o → full_at x.rows node ≡ None
      by None is = is
      by (Some f) is = absurd (let e = rw is at none in cc)

  below_all : (o : Option Full) → full_at x.rows node ≡ o → AllByRecursion (λ b. b < 2 ^ 63) (written_blocks_of (full_at x.rows node))
  below_all None is = subst (λ o. AllByRecursion (λ b. b < 2 ^ 63) (written_blocks_of o)) (sym is) tt
  below_all (Some f) is =
      subst (λ o. AllByRecursion (λ b. b < 2 ^ 63) (written_blocks_of o)) (sym is)
      (listed f.content.blocks (rw is at (counts_found (λ f. f.row.node == node) x.rows.nodes (of_trees x.rows rowed).counts)).written
      (rw is at (full_found (λ f. f.row.node == node) x.rows.nodes (rows_full x.rows rowed))))
    where
      each : (bytes : List ℕ) (bs : List ℕ) → length bytes ≤ file_limit → AllByRecursion (λ b. b < blocks_for (length bytes)) bs → AllByRecursion (λ b. b < 2 ^ 63) bs
      each bytes [] few all = tt
      each bytes (b ∷ bs) few all = (omega (arith, few, all.0), each bytes bs few all.1)

      listed : (o : Option (List ℕ)) → IfSome o (AreWritten f.content.bytes) → IsFull f → AllByRecursion (λ b. b < 2 ^ 63) (listed_blocks o)
      listed None written full = tt
      listed (Some bs) written full = each f.content.bytes bs (let size = full.0 in let low = full.1 in omega (arith, size, low)) written.within

  pub count_told : (from to count : ℕ) → (c.layout ≡ Third → node < 2 ^ 63 → count ≡ counted_between file c node from (min to (2 ^ 63)))
      → (c.layout ≡ Second → count ≡ 0) → (2 ^ 63 ≤ node → count ≡ 0) → count ≡ blocks_between x.rows node from to
  count_told from to count third second high = by c.layout refl
    where
      by : (l : Layout) → c.layout ≡ l → count ≡ blocks_between x.rows node from to
      by Second is = second is ∙ none_told is from to
      by Third is = elim (cases_lt node (2 ^ 63)) [
        | inl low ↦
            third is low ∙ counts_told is from (min to (2 ^ 63))
            ∙ sym (same_below from to (2 ^ 63) (written_blocks_of (full_at x.rows node)) (below_all (full_at x.rows node) refl))
        | inr above ↦ high above ∙ ap (λ o. count_between from to (written_blocks_of o)) (sym (no_node above))
      ]
