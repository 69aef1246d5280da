-- What is left of rows, and of the blocks of their nodes.
use Rattle.std.proofs.Common.{◌≡◌, ◌≤◌, ◌<◌, ◌*◌, ◌+◌, ◌-◌, ℕ, ◌==◌, ◌&&◌, ◌||◌, List, [], ◌∷◌, map, filter, find, Bool, true, false, not, cond}
use Rattle.std.proofs.Common.{Some, None, Option, option_map, inl, inr, refl, sym, ap, subst, arith, ◌∙◌}
use Rattle.std.specs.Prelude.{unwrap_or}
use Rattle.std.specs.Option.{is_some}
use Rattle.std.specs.List.{AllByRecursion, list_any, sum_by}
use Rattle.std.specs.Ordering.{is_eq, is_gt, nat_cmp}
use Rattle.std.proofs.lemmas.Bool.{cases_Bool}
use Rattle.std.proofs.lemmas.Bool.Decides.{nat_tests}
use Rattle.std.proofs.lemmas.List.Sums.{sum_by-cons}
use Rattle.fuse_rows.specs.Bounds.{block_bytes}
use Rattle.fuse_rows.specs.declared.rows.NodeRow.{NodeRow}
use Rattle.fuse_rows.specs.declared.rows.Full.{Full}
use Rattle.fuse_rows.specs.Blocks.{how_many}
use Rattle.fuse_tree.specs.State.{State, Node, IsNode, Apart, terms_of}
use Rattle.fuse_rows.specs.Rows.{row_is_named, content_of}
use Rattle.fuse_tree.specs.Rowed.{full_of}
use Rattle.fuse_tree.specs.Clearing.{is_named_row, blocks_freed}
use Rattle.fuse_store_tables.specs.Blocks.{Block, block_at, is_at}
use Rattle.fuse_store_tables.specs.Content.{is_unnamed, has_by, node_key}
use Rattle.fuse_store_tables.specs.declared.version.Layout.TheVariants.{Third}
use Rattle.fuse_store_tables.specs.Clearing.{named, has_unnamed, unnamed_blocks}
use Rattle.fuse_store_tables.specs.Pieces.{Piece}
use Rattle.fuse_store_tree.specs.Pieces.{byte_at, block_found, piece_at, has_block, end_of}
use Rattle.fuse_store_tree.specs.Store.{AreWithin, ArePiecesWithin, IsWrittenAs, blocks_counted, is_among}

-- ---- tests

same_test : (a b : ℕ) → is_eq (nat_cmp a b) ≡ (a == b)
same_test a b = grind (arith, nat_tests)

turned_test : (a b : ℕ) → is_eq (nat_cmp a b) ≡ (b == a)
turned_test a b = grind (arith, nat_tests)

is_number : (a b : ℕ) → is_eq (nat_cmp a b) ≡ true → a ≡ b
is_number a b is = grind (arith, nat_tests)

later : (a b n : ℕ) → a < b → (a == n) ≡ true → (b == n) ≡ false
later a b n low is = grind (arith, nat_tests)

later_row : (a b n : ℕ) → a < b → (a == n) ≡ true → is_eq (nat_cmp n b) ≡ false
later_row a b n low is = grind (arith, nat_tests)

root_test : (n : ℕ) → 1 ≤ n → (n == 1) ≡ not (is_gt (nat_cmp n 1))
root_test n from = grind (arith, nat_tests)

either : (g z : Bool) → (not g || not z) ≡ not (z && g)
either true true = refl
either true false = refl
either false true = refl
either false false = refl

-- a row is named just where it isn't one that goes
pub named_is : (row : NodeRow) → 1 ≤ row.node → row_is_named row ≡ not (is_unnamed row)
named_is row from =
    ap (λ b. b || not (row.up == 0)) (root_test row.node from) ∙ ap (λ b. not (is_gt (nat_cmp row.node 1)) || not b) (sym (same_test row.up 0))
    ∙ either (is_gt (nat_cmp row.node 1)) (is_eq (nat_cmp row.up 0))

-- ---- the rows that are left

module _ (s : State) where
  abbrev pub fulls : List Node → List Full
  fulls ns = map (full_of s) ns

  abbrev pub rows : List Node → List NodeRow
  rows ns = map (λ f. f.row) (fulls ns)

  abbrev number_is : ℕ → Full → Bool
  number_is node f = f.row.node == node

  abbrev goes : List Node → ℕ → Bool
  goes ns node = has_unnamed (rows ns) node

  pub named_rows : (next : ℕ) (ns : List Node) → AllByRecursion (IsNode (terms_of s) next) ns → named (rows ns) ≡ map (λ f. f.row) (filter is_named_row (fulls ns))
  named_rows next [] all = refl
  named_rows next (n ∷ ns) all = by (named_rows next ns all.1) (is_unnamed (full_of s n).row) (is_named_row (full_of s n))
      (named_is (full_of s n).row all.0.from_one)
    where
      by : named (rows ns) ≡ map (λ f. f.row) (filter is_named_row (fulls ns)) → (u v : Bool) → v ≡ not u
          → cond (not u) ((full_of s n).row ∷ named (rows ns)) (named (rows ns))
          ≡ map (λ f. f.row) (cond v (full_of s n ∷ filter is_named_row (fulls ns)) (filter is_named_row (fulls ns)))
      by more true true is = absurd cc
      by more true false is = more
      by more false true is = ap (λ l. (full_of s n).row ∷ l) more
      by more false false is = absurd cc

  -- the written blocks of the nodes that go
  pub freed_blocks : (next : ℕ) (ns : List Node) → AllByRecursion (IsNode (terms_of s) next) ns → unnamed_blocks Third (rows ns) ≡ blocks_freed (fulls ns)
  freed_blocks next [] all = refl
  freed_blocks next (n ∷ ns) all = by (freed_blocks next ns all.1) (is_unnamed (full_of s n).row) (is_named_row (full_of s n))
      (named_is (full_of s n).row all.0.from_one)
    where
      by : unnamed_blocks Third (rows ns) ≡ blocks_freed (fulls ns) → (u v : Bool) → v ≡ not u
          → sum_by (λ r. how_many r.written) (cond u ((full_of s n).row ∷ filter is_unnamed (rows ns)) (filter is_unnamed (rows ns)))
          ≡ sum_by (λ f. how_many f.row.written) (cond (not v) (full_of s n ∷ filter (λ f. not (is_named_row f)) (fulls ns)) (filter (λ f. not (is_named_row f)) (fulls ns)))
      by more true true is = absurd cc
      by more true false is =
          sum_by-cons (λ r. how_many r.written) (full_of s n).row (filter is_unnamed (rows ns))
          ∙ ap (λ k. how_many (full_of s n).row.written + k) more
          ∙ sym (sum_by-cons (λ f. how_many f.row.written) (full_of s n) (filter (λ f. not (is_named_row f)) (fulls ns)))
      by more false true is = more
      by more false false is = absurd cc

  none_later : (node : ℕ) (p : Full → Bool) (ns : List Node) → AllByRecursion (λ m. (m.number == node) ≡ false) ns
      → find (number_is node) (filter p (fulls ns)) ≡ None
  none_later node p [] off = refl
  none_later node p (n ∷ ns) off = by (none_later node p ns off.1) (p (full_of s n))
    where
      by : find (number_is node) (filter p (fulls ns)) ≡ None → (b : Bool)
          → find (number_is node) (cond b (full_of s n ∷ filter p (fulls ns)) (filter p (fulls ns))) ≡ None
      by more true = ap (λ b. cond b (Some (full_of s n)) (find (number_is node) (filter p (fulls ns)))) off.0 ∙ more
      by more false = more

  none_goes : (node : ℕ) (ns : List Node) → AllByRecursion (λ m. is_eq (nat_cmp node m.number) ≡ false) ns → goes ns node ≡ false
  none_goes node [] off = refl
  none_goes node (n ∷ ns) off = by (none_goes node ns off.1) (is_unnamed (full_of s n).row)
    where
      by : goes ns node ≡ false → (b : Bool) → list_any (λ m. is_eq (nat_cmp node m))
          (map (λ r. r.node) (cond b ((full_of s n).row ∷ filter is_unnamed (rows ns)) (filter is_unnamed (rows ns)))) ≡ false
      by more true = ap (λ b. b || goes ns node) off.0 ∙ more
      by more false = more

  all_off : (a node : ℕ) (ns : List Node) → (a == node) ≡ true → AllByRecursion (λ m. a < m.number) ns
      → AllByRecursion (λ m. (m.number == node) ≡ false) ns
  all_off a node [] is above = tt
  all_off a node (n ∷ ns) is above = (later a n.number node above.0 is, all_off a node ns is above.1)

  all_apart : (a node : ℕ) (ns : List Node) → (a == node) ≡ true → AllByRecursion (λ m. a < m.number) ns
      → AllByRecursion (λ m. is_eq (nat_cmp node m.number) ≡ false) ns
  all_apart a node [] is above = tt
  all_apart a node (n ∷ ns) is above = (later_row a n.number node above.0 is, all_apart a node ns is above.1)

  -- a node is found among those that are left unless it goes
  pub found_left : (node next : ℕ) (ns : List Node) → AllByRecursion (IsNode (terms_of s) next) ns → Apart (λ n m. n.number < m.number) ns
      → find (number_is node) (filter is_named_row (fulls ns)) ≡ cond (goes ns node) None (find (number_is node) (fulls ns))
  found_left node next [] all apart = refl
  found_left node next (n ∷ ns) all apart =
      by (found_left node next ns all.1 apart.1) (is_unnamed (full_of s n).row) (is_named_row (full_of s n)) (named_is (full_of s n).row all.0.from_one)
    where
      none : (n.number == node) ≡ true → find (number_is node) (filter is_named_row (fulls ns)) ≡ None
      none here = none_later node is_named_row ns (all_off n.number node ns here apart.0)

      stays : (n.number == node) ≡ true → goes ns node ≡ false
      stays here = none_goes node ns (all_apart n.number node ns here apart.0)

      by : find (number_is node) (filter is_named_row (fulls ns)) ≡ cond (goes ns node) None (find (number_is node) (fulls ns)) → (u v : Bool) → v ≡ not u
          → find (number_is node) (cond v (full_of s n ∷ filter is_named_row (fulls ns)) (filter is_named_row (fulls ns)))
          ≡ cond (list_any (λ m. is_eq (nat_cmp node m)) (map (λ r. r.node) (cond u ((full_of s n).row ∷ filter is_unnamed (rows ns))
          (filter is_unnamed (rows ns))))) None (cond (n.number == node) (Some (full_of s n)) (find (number_is node) (fulls ns)))
      by more true true is = absurd cc
      by more true false is = elim (cases_Bool (n.number == node)) [
        | inl here ↦ none here ∙ sym (ap (λ b. cond (b || goes ns node) None (cond (n.number == node) (Some (full_of s n)) (find (number_is node) (fulls ns))))
            (turned_test node n.number ∙ here))
        | inr off ↦ more ∙ sym (ap (λ b. cond (b || goes ns node) None (cond (n.number == node) (Some (full_of s n)) (find (number_is node) (fulls ns))))
            (turned_test node n.number ∙ off) ∙ ap (λ b. cond (goes ns node) None (cond b (Some (full_of s n)) (find (number_is node) (fulls ns)))) off)
      ]
      by more false true is = elim (cases_Bool (n.number == node)) [
        | inl here ↦ ap (λ b. cond b (Some (full_of s n)) (find (number_is node) (filter is_named_row (fulls ns)))) here
            ∙ sym (ap (λ g. cond g None (cond (n.number == node) (Some (full_of s n)) (find (number_is node) (fulls ns)))) (stays here)
            ∙ ap (λ b. cond b (Some (full_of s n)) (find (number_is node) (fulls ns))) here)
        | inr off ↦ ap (λ b. cond b (Some (full_of s n)) (find (number_is node) (filter is_named_row (fulls ns)))) off ∙ more
            ∙ sym (ap (λ b. cond (goes ns node) None (cond b (Some (full_of s n)) (find (number_is node) (fulls ns)))) off)
      ]
      by more false false is = absurd cc

-- ---- the blocks that are left

both_are : (a b : Bool) → (a && b) ≡ true → a ≡ true
both_are true b e = refl
both_are false b e = absurd cc

pub block_left : (gone : ℕ → Bool) (node k : ℕ) (bs : List Block) → block_at node k (filter (λ b. not (gone b.node)) bs)
    ≡ cond (gone node) None (block_at node k bs)
block_left gone node k [] = by (gone node)
  where
    by : (b : Bool) → ◌≡◌ {A = Option Block} None (cond b None None)
    by true = refl
    by false = refl
block_left gone node k (b ∷ bs) = elim (cases_Bool (is_at node k b)) [
  | inl here ↦ here_by here (gone b.node) (gone node) (ap gone (is_number b.node node (both_are _ _ here))) (block_left gone node k bs)
  | inr off ↦ off_by off (gone b.node) ∙ block_left gone node k bs ∙ sym (ap (λ t. cond (gone node) None (cond t (Some b) (block_at node k bs))) off)
]
  where
    off_by : is_at node k b ≡ false → (g : Bool)
        → block_at node k (cond (not g) (b ∷ filter (λ x. not (gone x.node)) bs) (filter (λ x. not (gone x.node)) bs))
        ≡ block_at node k (filter (λ x. not (gone x.node)) bs)
    off_by off true = refl
    off_by off false = ap (λ t. cond t (Some b) (block_at node k (filter (λ x. not (gone x.node)) bs))) off

    here_by : is_at node k b ≡ true → (g m : Bool) → g ≡ m
        → block_at node k (filter (λ x. not (gone x.node)) bs) ≡ cond m None (block_at node k bs)
        → block_at node k (cond (not g) (b ∷ filter (λ x. not (gone x.node)) bs) (filter (λ x. not (gone x.node)) bs))
        ≡ cond m None (cond (is_at node k b) (Some b) (block_at node k bs))
    here_by here true true same more = more
    here_by here true false same more = absurd cc
    here_by here false true same more = absurd cc
    here_by here false false same more =
        ap (λ t. cond t (Some b) (block_at node k (filter (λ x. not (gone x.node)) bs))) here
        ∙ sym (ap (λ t. cond t (Some b) (block_at node k bs)) here)

-- ---- the pieces that are left

-- a piece goes exactly where its node does
pub piece_goes : (gone : ℕ → Bool) (ps : List Piece) → AllByRecursion (λ p. (n k : ℕ) → has_block n k p ≡ true → gone n ≡ gone p.node) ps
piece_goes gone [] = tt
piece_goes gone (p ∷ ps) = (λ n k here. ap gone (sym (is_number p.node n (same_test p.node n ∙ both_are _ _ here))), piece_goes gone ps)

-- ---- what a node has

found_none : (file : List ℕ) (k : ℕ) (g : Bool) (o : Option Block) (q r : Option Piece) → block_found file k None r ≡ cond g None (block_found file k None q)
    → block_found file k (cond g None o) r ≡ cond g None (block_found file k o q)
found_none file k true o q r same = same
found_none file k false None q r same = same
found_none file k false (Some b) q r same = refl

-- a node that goes has no block, and the others have theirs
pub stored_left : (file : List ℕ) (gone : ℕ → Bool) (node k : ℕ) (bs : List Block) (ps left : List Piece)
    → block_found file k None (piece_at node k left) ≡ cond (gone node) None (block_found file k None (piece_at node k ps))
    → block_found file k (block_at node k (filter (λ b. not (gone b.node)) bs)) (piece_at node k left)
    ≡ cond (gone node) None (block_found file k (block_at node k bs) (piece_at node k ps))
stored_left file gone node k bs ps left same =
    ap (λ o. block_found file k o (piece_at node k left)) (block_left gone node k bs)
    ∙ found_none file k (gone node) (block_at node k bs) (piece_at node k ps) (piece_at node k left) same

none_at : (i : ℕ) → byte_at [] i ≡ 0
none_at i = refl

pub bytes_left : (t : Bool) (o : Option (List ℕ)) (f : Option Full) (i j : ℕ) → byte_at (unwrap_or o []) i ≡ byte_at (content_of f) j
    → byte_at (unwrap_or (cond t None o) []) i ≡ byte_at (content_of (cond t None f)) j
bytes_left true o f i j same = none_at i ∙ sym (none_at j)
bytes_left false o f i j same = same

pub written_left : (t : Bool) (o : Option (List ℕ)) (f : Option Full) (k : ℕ) → IsWrittenAs (is_some o) (option_map is_among (blocks_counted f)) k
    → IsWrittenAs (is_some (cond t None o)) (option_map is_among (blocks_counted (cond t None f))) k
written_left true o f k told = tt
written_left false o f k told = told

-- ---- what is left of a node that stays begins before the end that stays

pub blocks_within : (gone : ℕ → Bool) (e f : ℕ → ℕ) → ((node : ℕ) → gone node ≡ false → e node ≡ f node) → (bs : List Block) → AreWithin e bs
    → AreWithin f (filter (λ b. not (gone b.node)) bs)
blocks_within gone e f same [] all = tt
blocks_within gone e f same (b ∷ bs) all = by (gone b.node) (same b.node) (blocks_within gone e f same bs all.1)
  where
    by : (t : Bool) → (t ≡ false → e b.node ≡ f b.node) → AreWithin f (filter (λ x. not (gone x.node)) bs)
        → AreWithin f (cond (not t) (b ∷ filter (λ x. not (gone x.node)) bs) (filter (λ x. not (gone x.node)) bs))
    by true stays more = more
    by false stays more = (subst (λ n. b.block * block_bytes < n) (stays refl) all.0, more)

pub pieces_within : (gone : ℕ → Bool) (e f : ℕ → ℕ) → ((node : ℕ) → gone node ≡ false → e node ≡ f node) → (ps : List Piece) → ArePiecesWithin e ps
    → ArePiecesWithin f (filter (λ p. not (gone p.node)) ps)
pieces_within gone e f same [] all = tt
pieces_within gone e f same (p ∷ ps) all = by (gone p.node) (same p.node) (pieces_within gone e f same ps all.1)
  where
    by : (t : Bool) → (t ≡ false → e p.node ≡ f p.node) → ArePiecesWithin f (filter (λ x. not (gone x.node)) ps)
        → ArePiecesWithin f (cond (not t) (p ∷ filter (λ x. not (gone x.node)) ps) (filter (λ x. not (gone x.node)) ps))
    by true stays more = more
    by false stays more = (subst (λ n. (end_of p - 1) * block_bytes < n) (stays refl) all.0, more)

-- ---- the nodes of what is left are left

off_first : (a b : Bool) → (a || b) ≡ false → a ≡ false
off_first true b is = absurd cc
off_first false b is = refl

off_second : (a b : Bool) → (a || b) ≡ false → b ≡ false
off_second true b is = absurd cc
off_second false b is = is

turned : (a b : ℕ) → is_eq (nat_cmp a b) ≡ is_eq (nat_cmp b a)
turned a b = grind (arith, nat_tests)

-- a number that doesn't go is that of a row that doesn't
pub still_there : (ns : List NodeRow) (node : ℕ) → has_unnamed ns node ≡ false → list_any (has_by node_key node) ns ≡ true
    → list_any (has_by node_key node) (named ns) ≡ true
still_there [] node stays there = absurd cc
still_there (n ∷ ns) node stays there = elim (cases_Bool (is_unnamed n)) [
  | inl gone ↦
      let off : (is_eq (nat_cmp node n.node) || has_unnamed ns node) ≡ false = rw gone at stays in
      let other : has_by node_key node n ≡ false = turned n.node node ∙ off_first _ _ off in
      rw gone (still_there ns node (off_second _ _ off) (rw other at there))
  | inr left ↦
      let off : has_unnamed ns node ≡ false = rw left at stays in
      rw left (elim (cases_Bool (has_by node_key node n)) [
        | inl here ↦ rw here refl
        | inr other ↦ rw other (still_there ns node off (rw other at there))
      ])
]

-- the node of each piece that is left is there
pub owned_left : (ns : List NodeRow) (ps : List Piece) → AllByRecursion (λ p. list_any (has_by node_key p.node) ns ≡ true) ps
    → AllByRecursion (λ p. list_any (has_by node_key p.node) (named ns) ≡ true) (filter (λ p. not (has_unnamed ns p.node)) ps)
owned_left ns [] all = tt
owned_left ns (p ∷ ps) all = elim (cases_Bool (has_unnamed ns p.node)) [
  | inl gone ↦ rw gone (owned_left ns ps all.1)
  | inr left ↦ rw left (still_there ns p.node left all.0, owned_left ns ps all.1)
]
