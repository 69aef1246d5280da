-- A block that is stored is whole, and begins before the end of its node.
use Rattle.std.proofs.Common.{◌≡◌, ◌≤◌, ◌<◌, ◌+◌, ◌-◌, ◌*◌, ◌==◌, ◌&&◌, ℕ, List, [], ◌∷◌, length, take, drop, find, replicate, nat_lt, inl, inr}
use Rattle.std.proofs.Common.{Bool, true, false, Option, Some, None, IfSome, refl, sym, ap, subst, arith, ◌∙◌}
use Rattle.std.specs.Prelude.{nat_le}
use Rattle.std.specs.List.{All, AllByRecursion}
use Rattle.std.specs.Option.{is_some}
use Rattle.std.proofs.lemmas.Bool.{cases_Bool}
use Rattle.std.proofs.lemmas.Bool.Decides.{nat_tests}
use Rattle.std.proofs.lemmas.List.{length-take-le, length-replicate}
use Rattle.std.proofs.lemmas.List.Elements.{All-head, All-tail}
use Rattle.fuse_rows.specs.Bounds.{block_bytes}
use Rattle.fuse_data.specs.declared.extent.Extent.{Extent}
use Rattle.fuse_data.specs.Extents.{IsWhole as IsWholeExtent}
use Rattle.fuse_store_tables.specs.Blocks.{Block, block_at, is_at}
use Rattle.fuse_store_tables.specs.Pieces.{Piece}
use Rattle.fuse_store_tables.specs.Content.{Content}
use Rattle.fuse_store_tree.specs.Fits.{IsWhole}
use Rattle.fuse_store_tree.specs.Pieces.{is_zeros, extent_of, extents_of, end_of, has_block, piece_at, piece_bytes, block_in_piece, block_found, stored_block, is_written_in}
use Rattle.fuse_store_tree.specs.Store.{AreWithin, ArePiecesWithin}
use Rattle.fuse_store_tree.proofs.Ranges.{drop_length}
use Rattle.fuse_store_tree.proofs.Within.{within_found}

-- ---- pieces

placed : (p : Piece) (ps : List Piece) → is_zeros p ≡ false → extents_of (p ∷ ps) ≡ extent_of p ∷ extents_of ps
placed p ps is = rw is refl

without_place : (p : Piece) (ps : List Piece) → is_zeros p ≡ true → extents_of (p ∷ ps) ≡ extents_of ps
without_place p ps is = rw is refl

-- what holds of all extents holds of the first piece, if it has one, and of the others
pub head_of : (P : Extent → Type 0) (p : Piece) (ps : List Piece) → is_zeros p ≡ false → All P (extents_of (p ∷ ps)) → P (extent_of p)
head_of P p ps is all = All-head P (extent_of p) (extents_of ps) (subst (All P) (placed p ps is) all)

pub rest_of : (P : Extent → Type 0) (p : Piece) (ps : List Piece) → All P (extents_of (p ∷ ps)) → All P (extents_of ps)
rest_of P p ps all = elim (cases_Bool (is_zeros p)) [
  | inl zeros ↦ subst (All P) (without_place p ps zeros) all
  | inr bytes ↦ All-tail P (extent_of p) (extents_of ps) (subst (All P) (placed p ps bytes) all)
]

-- of the piece that is found
pub record IsFoundAt (file : List ℕ) (node block : ℕ) (p : Piece) : Type 0 where
  pub of : p.node ≡ node
  pub from : p.first ≤ block
  pub to : block < end_of p
  pub whole : is_zeros p ≡ false → IsWholeExtent file (extent_of p)

pub piece_found : (file : List ℕ) (node block : ℕ) (ps : List Piece) → All (IsWholeExtent file) (extents_of ps)
    → IfSome (piece_at node block ps) (IsFoundAt file node block)
piece_found file node block [] all = tt
piece_found file node block (p ∷ ps) all = elim (cases_Bool (has_block node block p)) [
  | inl here ↦ rw here (record {
    of = number p.node node (nat_le p.first block && nat_lt block (end_of p)) here;
    from = low (p.node == node) p.first block (nat_lt block (end_of p)) here;
    to = high (p.node == node) (nat_le p.first block) block (end_of p) here;
    whole = λ bytes. head_of (IsWholeExtent file) p ps bytes all;
  })
  | inr other ↦ rw other (piece_found file node block ps (rest_of (IsWholeExtent file) p ps all))
]
  where
    number : (a b : ℕ) (t : Bool) → ((a == b) && t) ≡ true → a ≡ b
    number a b t is = grind (arith, nat_tests)

    low : (t : Bool) (a b : ℕ) (u : Bool) → (t && (nat_le a b && u)) ≡ true → a ≤ b
    low t a b u is = grind (arith, nat_tests)

    high : (t u : Bool) (a b : ℕ) → (t && (u && nat_lt a b)) ≡ true → a < b
    high t u a b is = grind (arith, nat_tests)

-- ---- whole blocks

taken : (n : ℕ) (xs : List ℕ) → n ≤ length xs → length (take n xs) ≡ n
taken n xs low = length-take-le n xs low

extent_long : (file : List ℕ) (e : Extent) → IsWholeExtent file e → length (take (e.count * block_bytes) (drop (e.place * block_bytes) file)) ≡ e.count * block_bytes
extent_long file e whole =
    let high = whole.within in
    taken (e.count * block_bytes) (drop (e.place * block_bytes) file) (omega (arith, high, drop_length (e.place * block_bytes) file))

piece_long : (file : List ℕ) (node block : ℕ) (p : Piece) → IsFoundAt file node block p → length (piece_bytes file p) ≡ p.count * block_bytes
piece_long file node block p found = elim (cases_Bool (is_zeros p)) [
  | inl zeros ↦ rw zeros (length-replicate {A = ℕ} (p.count * block_bytes) 0)
  | inr bytes ↦ rw bytes (extent_long file (extent_of p) (found.whole bytes))
]

pub block_long : (file : List ℕ) (node block : ℕ) (p : Piece) → IsFoundAt file node block p → length (block_in_piece file block p) ≡ block_bytes
block_long file node block p found =
    let whole = piece_long file node block p found in
    let from = found.from in
    let to = found.to in
    taken block_bytes (drop ((block - p.first) * block_bytes) (piece_bytes file p))
    (omega (arith, whole, from, to, drop_length ((block - p.first) * block_bytes) (piece_bytes file p)))

-- a row of this table is of a whole block
row_whole : (node block : ℕ) (bs : List Block) → AllByRecursion IsWhole bs → IfSome (block_at node block bs) IsWhole
row_whole node block [] all = tt
row_whole node block (b ∷ bs) all = elim (cases_Bool (is_at node block b)) [
  | inl here ↦ rw here all.0
  | inr other ↦ rw other (row_whole node block bs all.1)
]

pub stored_long : (file : List ℕ) (c : Content) (node block : ℕ) → AllByRecursion IsWhole c.blocks → All (IsWholeExtent file) (extents_of c.pieces)
    → IfSome (stored_block file c node block) (λ l. length l ≡ block_bytes)
stored_long file c node block rows pieces =
    by (block_at node block c.blocks) (piece_at node block c.pieces) (row_whole node block c.blocks rows) (piece_found file node block c.pieces pieces)
  where
    by : (b : Option Block) (p : Option Piece) → IfSome b IsWhole → IfSome p (IsFoundAt file node block)
        → IfSome (block_found file block b p) (λ l. length l ≡ block_bytes)
    by (Some b) p whole found = whole
    by None (Some p) whole found = block_long file node block p found
    by None None whole found = tt

-- ---- where it begins

piece_within : (e : ℕ → ℕ) (node block : ℕ) (ps : List Piece) → ArePiecesWithin e ps → is_some (piece_at node block ps) ≡ true → block * block_bytes < e node
piece_within e node block [] all found = absurd cc
piece_within e node block (p ∷ ps) all found = elim (cases_Bool (has_block node block p)) [
  | inl here ↦
      let at = number p.node node (nat_le p.first block && nat_lt block (end_of p)) here in
      let high = last (p.node == node) (nat_le p.first block) block (end_of p) here in
      let low = all.0 in
      subst (λ m. block * block_bytes < e m) at (omega (arith, high, low))
  | inr other ↦ piece_within e node block ps all.1 (rw other at found)
]
  where
    number : (a b : ℕ) (t : Bool) → ((a == b) && t) ≡ true → a ≡ b
    number a b t is = grind (arith, nat_tests)

    last : (t u : Bool) (a b : ℕ) → (t && (u && nat_lt a b)) ≡ true → a < b
    last t u a b is = grind (arith, nat_tests)

pub stored_within : (file : List ℕ) (c : Content) (e : ℕ → ℕ) (node block : ℕ) → AreWithin e c.blocks → ArePiecesWithin e c.pieces
    → is_written_in file c node block ≡ true → block * block_bytes < e node
stored_within file c e node block rows pieces written =
    by (block_at node block c.blocks) (piece_at node block c.pieces) refl refl written
  where
    by : (b : Option Block) (p : Option Piece) → block_at node block c.blocks ≡ b → piece_at node block c.pieces ≡ p
        → is_some (block_found file block b p) ≡ true → block * block_bytes < e node
    by (Some b) p is at some = within_found e node block c.blocks rows (sym (ap is_some is))
    by None (Some p) is at some = piece_within e node block c.pieces pieces (ap is_some at)
    by None None is at some = absurd cc
