-- A part of a piece has its blocks, and a piece that is added has its own.
use Rattle.std.proofs.Common.{◌≡◌, ◌≤◌, ◌<◌, ◌+◌, ◌-◌, ◌*◌, inl, inr, ℕ, List, [], ◌∷◌, ◌++◌, take, drop, replicate}
use Rattle.std.proofs.Common.{Bool, true, false, cond, Some, None, refl, sym, ap, arith, ◌∙◌}
use Rattle.std.proofs.lemmas.Bool.{cases_Bool}
use Rattle.std.proofs.lemmas.List.{take-take, drop-take, drop-drop, take-replicate, drop-replicate}
use Rattle.fuse_rows.specs.Bounds.{block_bytes}
use Rattle.fuse_store_tables.specs.Pieces.{Piece}
use Rattle.fuse_store_tree.specs.Pieces.{is_zeros, end_of, has_block, piece_at, block_in_piece, block_found}
use Rattle.fuse_store_tree.specs.inner.Relisting.{piece_block}

-- ---- parts

take_within : (n m c : ℕ) (xs : List ℕ) → m + n ≤ c → take n (drop m (take c xs)) ≡ take n (drop m xs)
take_within n m c xs low =
    let e : c ≡ m + (c - m) = omega (arith, low) in
    ap (λ z. take n (drop m (take z xs))) e ∙ ap (take n) (drop-take m (c - m) xs) ∙ take-take n (c - m) (drop m xs) (omega (arith, low))

-- a block of the data file
in_file : (file : List ℕ) (p : Piece) (k : ℕ) → is_zeros p ≡ false → p.first ≤ k → k < end_of p
    → block_in_piece file k p ≡ take block_bytes (drop ((p.place + (k - p.first)) * block_bytes) file)
in_file file p k bytes from to =
    rw bytes (take_within block_bytes ((k - p.first) * block_bytes) (p.count * block_bytes) (drop (p.place * block_bytes) file) (omega (arith, from, to))
    ∙ ap (take block_bytes) (drop-drop ((k - p.first) * block_bytes) (p.place * block_bytes) file)
    ∙ ap (λ m. take block_bytes (drop m file)) (let e : p.place * block_bytes + (k - p.first) * block_bytes ≡ (p.place + (k - p.first)) * block_bytes = omega arith in e))

of_zeros : (file : List ℕ) (p : Piece) (k : ℕ) → is_zeros p ≡ true → p.first ≤ k → k < end_of p → block_in_piece file k p ≡ replicate block_bytes 0
of_zeros file p k zeros from to =
    rw zeros (ap (take block_bytes) (drop-replicate ((k - p.first) * block_bytes) (p.count * block_bytes) 0)
    ∙ take-replicate block_bytes (p.count * block_bytes - (k - p.first) * block_bytes) 0 (omega (arith, from, to)))

-- some blocks of a piece as one of its own
pub record IsRunOf (p q : Piece) : Type 0 where
  pub from : p.first ≤ q.first
  pub to : end_of q ≤ end_of p
  pub kind : is_zeros q ≡ is_zeros p
  pub place : is_zeros p ≡ false → q.place ≡ p.place + (q.first - p.first)

pub run_same : (file : List ℕ) (p q : Piece) (k : ℕ) → IsRunOf p q → q.first ≤ k → k < end_of q → block_in_piece file k q ≡ block_in_piece file k p
run_same file p q k run from to =
    let low = run.from in
    let high = run.to in
    elim (cases_Bool (is_zeros p)) [
      | inl zeros ↦ of_zeros file q k (run.kind ∙ zeros) from to ∙ sym (of_zeros file p k zeros (omega (arith, from, low)) (omega (arith, to, high)))
      | inr bytes ↦
          let at = run.place bytes in
          in_file file q k (run.kind ∙ bytes) from to
          ∙ ap (λ m. take block_bytes (drop (m * block_bytes) file)) (let e : q.place + (k - q.first) ≡ p.place + (k - p.first) = omega (arith, at, from, low) in e)
          ∙ sym (in_file file p k bytes (omega (arith, from, low)) (omega (arith, to, high)))
    ]

-- ---- one more piece

-- it has its own blocks, which no other has
pub piece_added : (file : List ℕ) (ps : List Piece) (q : Piece) (n k : ℕ) → (has_block n k q ≡ true → piece_at n k ps ≡ None)
    → piece_block file (ps ++ q ∷ []) n k ≡ cond (has_block n k q) (Some (block_in_piece file k q)) (piece_block file ps n k)
piece_added file ps q n k none = ap (block_found file k None) (by ps none) ∙ found (has_block n k q)
  where
    by : (rs : List Piece) → (has_block n k q ≡ true → piece_at n k rs ≡ None)
        → piece_at n k (rs ++ q ∷ []) ≡ cond (has_block n k q) (Some q) (piece_at n k rs)
    by [] free = refl
    by (r ∷ rs) free = elim (cases_Bool (has_block n k r)) [
      | inl here ↦ rw here (elim (cases_Bool (has_block n k q)) [
        | inl both ↦ absurd (let e = rw here at (free both) in cc)
        | inr other ↦ rw other refl
      ])
      | inr off ↦ rw off (by rs (λ own. rw off at (free own)))
    ]

    found : (b : Bool) → block_found file k None (cond b (Some q) (piece_at n k ps)) ≡ cond b (Some (block_in_piece file k q)) (piece_block file ps n k)
    found true = refl
    found false = refl
