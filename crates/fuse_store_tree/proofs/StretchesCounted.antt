-- How many blocks of a stretch are written: of one that a piece has as a whole, and of one of which no piece has a block.
use Rattle.std.proofs.Common.{◌≡◌, ◌≤◌, ◌<◌, ◌⊎◌, ◌+◌, ◌-◌, inl, inr, ℕ, zero, suc, List, filter, length, nat_lt, Bool, true, false, cond}
use Rattle.std.proofs.Common.{Ok, Err, Result, IfOk, Option, Some, None, min, refl, sym, ap, subst, arith, ◌∙◌}
use Rattle.std.specs.List.{AllPairs}
use Rattle.std.specs.Option.{is_some}
use Rattle.std.proofs.lemmas.Bool.Decides.{nat_tests}
use Rattle.fuse_rows.specs.Blocks.{numbers_from}
use Rattle.fuse_store_tables.specs.declared.pieces.PieceRow.{PieceRow}
use Rattle.fuse_store_tables.specs.Blocks.{Block, block_at}
use Rattle.fuse_store_tables.specs.Content.{Content}
use Rattle.fuse_store_tables.specs.Pieces.{Piece}
use Rattle.fuse_store_tree.specs.Pieces.{end_of, piece_at, block_found, is_written_in, OwnApart}
use Rattle.fuse_store_tree.specs.inner.Reading.{counted_between}
use Rattle.fuse_store_tree.specs.inner.Showing.{TellsLast}
use Rattle.fuse_store_tree.proofs.BlocksCounted.{counted_more, counted_nothing}
use Rattle.fuse_store_tree.proofs.LastPieces.{last_has, none_by}

-- ---- numbers in a range

pub same_counts : (p q : ℕ → Bool) (from n : ℕ) → ((k : ℕ) → from ≤ k → k < from + n → p k ≡ q k)
    → length (filter p (numbers_from from n)) ≡ length (filter q (numbers_from from n))
same_counts p q from zero same = refl
same_counts p q from (suc n) same =
    by (q from) refl (same from (omega arith) (omega arith)) (same_counts p q (from + 1) n (λ k low high. same k (omega (arith, low)) (omega (arith, high))))
  where
    by : (b : Bool) → q from ≡ b → p from ≡ q from → length (filter p (numbers_from (from + 1) n)) ≡ length (filter q (numbers_from (from + 1) n))
        → length (filter p (numbers_from from (suc n))) ≡ length (filter q (numbers_from from (suc n)))
    by true is here rest = let at = here ∙ is in rw (at, is) (ap suc rest)
    by false is here rest = let at = here ∙ is in rw (at, is) rest

pub all_are : (p : ℕ → Bool) (from n : ℕ) → ((k : ℕ) → from ≤ k → k < from + n → p k ≡ true) → length (filter p (numbers_from from n)) ≡ n
all_are p from zero all = refl
all_are p from (suc n) all =
    let here = all from (omega arith) (omega arith) in
    rw here (ap suc (all_are p (from + 1) n (λ k low high. all k (omega (arith, low)) (omega (arith, high)))))

few_are : (p : ℕ → Bool) (from n : ℕ) → length (filter p (numbers_from from n)) ≤ n
few_are p from zero = omega arith
few_are p from (suc n) = by (p from) refl (few_are p (from + 1) n)
  where
    by : (b : Bool) → p from ≡ b → length (filter p (numbers_from (from + 1) n)) ≤ n → length (filter p (numbers_from from (suc n))) ≤ suc n
    by true is low = rw is (omega (arith, low))
    by false is low = rw is (omega (arith, low))

-- no more than there are
pub no_more : (p : ℕ → Bool) (from n count : ℕ) → count ≡ length (filter p (numbers_from from n)) → min count n ≡ length (filter p (numbers_from from n))
no_more p from n count is =
    let few = few_are p from n in let e : min count n ≡ count = omega (arith, few, is) in e ∙ is

-- ---- results

pub both_ok : {X F : Type 0} (r : Result X F) (P Q R : X → Type 0) → ((x : X) → P x → Q x → R x) → IfOk r P → IfOk r Q → IfOk r R
both_ok (Ok x) P Q R f p q = f x p q
both_ok (Err e) P Q R f p q = tt

-- ---- two stretches

pub counted_apart : (file : List ℕ) (c : Content) (node from mid to : ℕ) → from ≤ mid → mid ≤ to
    → counted_between file c node from to ≡ counted_between file c node from mid + counted_between file c node mid to
counted_apart file c node from mid to low high =
    let e : mid + (to - mid) ≡ to = omega (arith, high) in
    subst (λ t. counted_between file c node from t ≡ counted_between file c node from mid + counted_between file c node mid t) e (by (to - mid))
  where
    by : (n : ℕ) → counted_between file c node from (mid + n) ≡ counted_between file c node from mid + counted_between file c node mid (mid + n)
    by zero =
        let none = counted_nothing file c node mid (mid + 0) (omega arith) in
        let e : mid + 0 ≡ mid = omega arith in
        let same = ap (counted_between file c node from) e in
        omega (arith, none, same)
    by (suc n) =
        let e : mid + suc n ≡ mid + n + 1 = omega arith in
        let all = ap (counted_between file c node from) e in
        let part = ap (counted_between file c node mid) e in
        let more = counted_more file c node from (mid + n) (omega (arith, low)) in
        let last = counted_more file c node mid (mid + n) (omega arith) in
        let before = by n in
        omega (arith, all, part, more, last, before)

-- ---- of a store

module _ (file : List ℕ) (c : Content) (node : ℕ) where
  has_piece : (k : ℕ) (p : Piece) → piece_at node k c.pieces ≡ Some p → is_written_in file c node k ≡ true
  has_piece k p is = by (block_at node k c.blocks) refl
    where
      by : (o : Option Block) → block_at node k c.blocks ≡ o → is_written_in file c node k ≡ true
      by (Some b) at = ap (λ o. is_some (block_found file k o (piece_at node k c.pieces))) at
      by None at = ap (λ o. is_some (block_found file k o (piece_at node k c.pieces))) at ∙ ap (λ o. is_some (block_found file k None o)) is

  has_none : (k : ℕ) → piece_at node k c.pieces ≡ None → is_written_in file c node k ≡ is_some (block_at node k c.blocks)
  has_none k is = ap (λ o. is_some (block_found file k (block_at node k c.blocks) o)) is ∙ by (block_at node k c.blocks)
    where
      by : (o : Option Block) → is_some (block_found file k o None) ≡ is_some o
      by (Some b) = refl
      by None = refl

  -- the rows of a stretch of which no piece has a block
  rows_counted : (from end count : ℕ) → from ≤ end → ((k : ℕ) → from ≤ k → k < end → piece_at node k c.pieces ≡ None)
      → count ≡ length (filter (λ k. is_some (block_at node k c.blocks)) (numbers_from from (end - from)))
      → count ≡ counted_between file c node from end
  rows_counted from end count low none is =
      is ∙ sym (same_counts (is_written_in file c node) (λ k. is_some (block_at node k c.blocks)) from (end - from)
      (λ k at below. has_none k (none k at (omega (arith, low, below)))))

  -- no piece begins in it or before it
  pub none_counted_by : (from end count : ℕ) → from < end → TellsLast node (end - 1) c.pieces None
      → count ≡ length (filter (λ k. is_some (block_at node k c.blocks)) (numbers_from from (end - from)))
      → count ≡ counted_between file c node from end
  none_counted_by from end count low none is =
      rows_counted from end count (omega (arith, low)) (λ k at below. none_by node (end - 1) k c.pieces none (omega (arith, below))) is

  -- it lies after the piece that begins last
  pub behind_counted : (r : PieceRow) (from end count : ℕ) → AllPairs OwnApart c.pieces → TellsLast node (end - 1) c.pieces (Some r) → from < end
      → r.first + r.count ≤ from → count ≡ length (filter (λ k. is_some (block_at node k c.blocks)) (numbers_from from (end - from)))
      → count ≡ counted_between file c node from end
  behind_counted r from end count own (p, last, same) low past is =
      let past : end_of p ≤ from = subst (λ (x : PieceRow). x.first + x.count ≤ from) same past in
      rows_counted from end count (omega (arith, low))
      (λ k at below. last_has node (end - 1) k c.pieces p own last (omega (arith, past, at)) (omega (arith, below)) ∙ off k (end_of p) p (omega (arith, past, at))) is
    where
      test : (a b : ℕ) → b ≤ a → nat_lt a b ≡ false
      test a b more = grind (arith, nat_tests)

      off : (k e : ℕ) (x : Piece) → e ≤ k → cond (nat_lt k e) (Some x) None ≡ None
      off k e x high = rw (test k e high) refl

  -- it lies within the piece that begins last
  pub within_counted : (r : PieceRow) (from end : ℕ) → AllPairs OwnApart c.pieces → TellsLast node (end - 1) c.pieces (Some r) → from < end → r.first ≤ from
      → end ≤ r.first + r.count → end - from ≡ counted_between file c node from end
  within_counted r from end own (p, last, same) low first past =
      let begins : p.first ≤ from = subst (λ (x : PieceRow). x.first ≤ from) same first in
      let past : end ≤ end_of p = subst (λ (x : PieceRow). end ≤ x.first + x.count) same past in
      sym (all_are (is_written_in file c node) from (end - from)
      (λ k at below. has_piece k p (last_has node (end - 1) k c.pieces p own last (omega (arith, begins, at)) (omega (arith, low, below))
      ∙ on k (end_of p) p (omega (arith, past, low, below)))))
    where
      test : (a b : ℕ) → a < b → nat_lt a b ≡ true
      test a b less = grind (arith, nat_tests)

      on : (k e : ℕ) (x : Piece) → k < e → cond (nat_lt k e) (Some x) None ≡ Some x
      on k e x less = rw (test k e less) refl

-- all from the first one on were counted
pub to_first : (file : List ℕ) (c : Content) (node from end to : ℕ) → end ≤ from → (from ≤ end ⊎ end ≡ to)
    → counted_between file c node end to ≡ counted_between file c node from to
to_first file c node from end to test last = elim last [
  | inl low ↦ ap (λ k. counted_between file c node k to) (let e : end ≡ from = omega (arith, low, test) in e)
  | inr all ↦ counted_nothing file c node end to (omega (arith, all)) ∙ sym (counted_nothing file c node from to (omega (arith, all, test)))
]
