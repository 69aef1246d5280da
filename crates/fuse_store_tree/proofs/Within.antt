-- Blocks that begin before the end of their node.
use Rattle.std.proofs.Common.{None, refl, ap, ◌∙◌, ◌-◌, ◌≡◌, ◌≤◌, ◌<◌, ◌*◌, ◌==◌, ◌&&◌, inl, inr, ℕ, List, [], ◌∷◌, filter, not, Bool, true, false, cond, min, max, subst, arith}
use Rattle.std.specs.List.{AllByRecursion}
use Rattle.std.specs.Option.{is_some}
use Rattle.std.specs.Ordering.{is_eq, is_ge, nat_cmp}
use Rattle.std.proofs.lemmas.Bool.{cases_Bool}
use Rattle.std.proofs.lemmas.Bool.Decides.{nat_tests}
use Rattle.fuse_rows.specs.Bounds.{block_bytes}
use Rattle.fuse_store_tables.specs.Blocks.{Block, block_at, is_at, is_from}
use Rattle.fuse_store_tables.specs.Pieces.{Piece}
use Rattle.fuse_store_tables.specs.Content.{Content}
use Rattle.fuse_store_tree.specs.Pieces.{end_of, has_block, piece_at, block_found, stored_block}
use Rattle.fuse_store_tree.specs.Store.{AreWithin, ArePiecesWithin}
use Rattle.fuse_store_tree.specs.inner.Writing.{ends_grown, shortened}
use Rattle.fuse_store_tree.proofs.Looks.{key_is, both_are}

-- ---- other ends

-- the blocks are so, and begin before other ends
pub within_known : (P : Block → Type 0) (e f : ℕ → ℕ) → ((b : Block) → P b → b.block * block_bytes < e b.node → b.block * block_bytes < f b.node)
    → (bs : List Block) → AllByRecursion P bs → AreWithin e bs → AreWithin f bs
within_known P e f more [] are all = tt
within_known P e f more (b ∷ bs) are all = (more b are.0 all.0, within_known P e f more bs are.1 all.1)

pub within_more : (e f : ℕ → ℕ) → ((n k : ℕ) → k * block_bytes < e n → k * block_bytes < f n) → (bs : List Block) → AreWithin e bs → AreWithin f bs
within_more e f more [] all = tt
within_more e f more (b ∷ bs) all = (more b.node b.block all.0, within_more e f more bs all.1)

pub pieces_more : (e f : ℕ → ℕ) → ((n k : ℕ) → k * block_bytes < e n → k * block_bytes < f n) → (ps : List Piece) → ArePiecesWithin e ps → ArePiecesWithin f ps
pieces_more e f more [] all = tt
pieces_more e f more (p ∷ ps) all = (more p.node (end_of p - 1) all.0, pieces_more e f more ps all.1)

pub pieces_known : (P : Piece → Type 0) (e f : ℕ → ℕ) → ((p : Piece) → P p → (end_of p - 1) * block_bytes < e p.node → (end_of p - 1) * block_bytes < f p.node)
    → (ps : List Piece) → AllByRecursion P ps → ArePiecesWithin e ps → ArePiecesWithin f ps
pieces_known P e f more [] are all = tt
pieces_known P e f more (p ∷ ps) are all = (more p are.0 all.0, pieces_known P e f more ps are.1 all.1)

-- a node without bytes has nothing stored
no_block : (e : ℕ → ℕ) (node k : ℕ) (bs : List Block) → AreWithin e bs → e node ≡ 0 → block_at node k bs ≡ None
no_block e node k [] all none = refl
no_block e node k (b ∷ bs) all none = elim (cases_Bool (is_at node k b)) [
  | inl here ↦
      absurd (let low = subst (λ m. b.block * block_bytes < e m) (key_is b.node node (both_are _ _ here).0) all.0 in omega (arith, low, none))
  | inr other ↦ rw other (no_block e node k bs all.1 none)
]

no_piece : (e : ℕ → ℕ) (node k : ℕ) (ps : List Piece) → ArePiecesWithin e ps → e node ≡ 0 → piece_at node k ps ≡ None
no_piece e node k [] all none = refl
no_piece e node k (p ∷ ps) all none = elim (cases_Bool (has_block node k p)) [
  | inl here ↦
      absurd (let low = subst (λ m. (end_of p - 1) * block_bytes < e m) (number_is p.node node (first_true _ _ here)) all.0 in omega (arith, low, none))
  | inr other ↦ rw other (no_piece e node k ps all.1 none)
]
  where
    first_true : (a b : Bool) → (a && b) ≡ true → a ≡ true
    first_true true b is = refl
    first_true false b is = absurd cc

    number_is : (a b : ℕ) → (a == b) ≡ true → a ≡ b
    number_is a b is = grind (arith, nat_tests)

pub unstored : (file : List ℕ) (c : Content) (e : ℕ → ℕ) (node : ℕ) → AreWithin e c.blocks → ArePiecesWithin e c.pieces → e node ≡ 0 → (k : ℕ)
    → stored_block file c node k ≡ None
unstored file c e node within pieces_within none k =
    ap (λ b. block_found file k b (piece_at node k c.pieces)) (no_block e node k c.blocks within none)
    ∙ ap (block_found file k None) (no_piece e node k c.pieces pieces_within none)

-- the blocks that a test leaves
pub within_left : (q : Block → Bool) (e f : ℕ → ℕ)
    → ((b : Block) → q b ≡ true → b.block * block_bytes < e b.node → b.block * block_bytes < f b.node)
    → (bs : List Block) → AreWithin e bs → AreWithin f (filter q bs)
within_left q e f left [] all = tt
within_left q e f left (b ∷ bs) all = elim (cases_Bool (q b)) [
  | inl here ↦ rw here (left b here all.0, within_left q e f left bs all.1)
  | inr gone ↦ rw gone (within_left q e f left bs all.1)
]

-- a block that is there
pub within_found : (e : ℕ → ℕ) (node k : ℕ) (bs : List Block) → AreWithin e bs → true ≡ is_some (block_at node k bs) → k * block_bytes < e node
within_found e node k [] all found = absurd cc
within_found e node k (b ∷ bs) all found = elim (cases_Bool (is_at node k b)) [
  | inl here ↦
      let at = both_are _ _ here in
      subst (λ m. k * block_bytes < e m) (key_is b.node node at.0)
      (subst (λ j. j * block_bytes < e b.node) (key_is b.block k at.1) all.0)
  | inr off ↦ within_found e node k bs all.1 (rw off at found)
]

-- ---- ends that grow

pub grown_more : (node end : ℕ) (e : ℕ → ℕ) (n k : ℕ) → k < e n → k < ends_grown node end e n
grown_more node end e n k low = by (n == node) (e n) low
  where
    by : (b : Bool) (y : ℕ) → k < y → k < cond b (max y end) y
    by true y low = omega (arith, low)
    by false y low = low

pub grown_here : (node end : ℕ) (e : ℕ → ℕ) (k : ℕ) → k < end → k < ends_grown node end e node
grown_here node end e k low = rw (same node) (omega (arith, low))
  where
    same : (n : ℕ) → (n == n) ≡ true
    same n = grind (arith, nat_tests)

pub grown_twice : (node a b d : ℕ) (e : ℕ → ℕ) (n k : ℕ) → a ≤ d → b ≤ d → k < ends_grown node b (ends_grown node a e) n → k < ends_grown node d e n
grown_twice node a b d e n k first second low = by (n == node) (e n) low
  where
    by : (t : Bool) (y : ℕ) → k < cond t (max (cond t (max y a) y) b) (cond t (max y a) y) → k < cond t (max y d) y
    by true y low = omega (arith, low, first, second)
    by false y low = low

-- ---- ends that are cut

pub left_short : (node k : ℕ) (e : ℕ → ℕ) (b : Block) → not (is_from node k b) ≡ true → b.block * block_bytes < e b.node
    → b.block * block_bytes < shortened node (k * block_bytes) e b.node
left_short node k e b stays low = elim (cases_Bool (b.node == node)) [
  | inl here ↦ let less = below b.node b.block here stays in rw here (omega (arith, low, less))
  | inr off ↦ rw off low
]
  where
    below : (a x : ℕ) → (a == node) ≡ true → not (is_eq (nat_cmp a node) && is_ge (nat_cmp x k)) ≡ true → x < k
    below a x here stays = grind (arith, nat_tests)

-- of two places without a block's begin between them
pub shorter : (node a d : ℕ) (e : ℕ → ℕ) (n k : ℕ) → (k * block_bytes < a → k * block_bytes < d) → k * block_bytes < shortened node a e n
    → k * block_bytes < shortened node d e n
shorter node a d e n k none low = by (n == node) (e n) low
  where
    by : (t : Bool) (y : ℕ) → k * block_bytes < cond t (min y a) y → k * block_bytes < cond t (min y d) y
    by true y low = let before = none (omega (arith, low)) in omega (arith, low, before)
    by false y low = low
