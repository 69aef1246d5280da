-- The pieces of a range cover it, and the rest of them are the pieces of the rest.
use Rattle.std.proofs.Common.{◌≡◌, ◌≢◌, ◌≤◌, ◌<◌, ◌+◌, ◌-◌, ◌%◌, ℕ, zero, suc, List, [], ◌∷◌, refl, sym, ap, subst, ◌∙◌, arith}
use Rattle.std.proofs.lemmas.Nat.{div-add-mod'}
use Rattle.fuse_rows.specs.declared.pieces.Piece.{Piece}
use Rattle.fuse_rows.specs.Pieces.{IsPiece, Covers, first_len, first_piece, pieces_by, pieces_of}

-- where in a block a place lies
in_block : (at : ℕ) → at % 4096 < 4096
in_block at = omega arith

first_is_piece : (at m : ℕ) → IsPiece at (at + suc m) (first_piece at (suc m))
first_is_piece at m =
    let low : at % 4096 < 4096 = in_block at in
    record { begins = div-add-mod' at 4096; from_one = omega arith; within = omega arith; longest = λ less. omega arith }

pub covers_by : (n at len : ℕ) → len ≤ n → Covers (pieces_by n at len) at (at + len)
covers_by zero at len enough = omega arith
covers_by (suc n) at zero enough = omega arith
covers_by (suc n) at (suc m) enough =
    let low : at % 4096 < 4096 = in_block at in
    let step = first_len at (suc m) in
    let rest : at + step + (suc m - step) ≡ at + suc m = omega arith in
    (first_is_piece at m, subst (Covers (pieces_by n (at + step) (suc m - step)) (at + step)) rest (covers_by n (at + step) (suc m - step) (omega arith)))

-- where there are enough pieces it doesn't matter how many there may be
same_by : (n k at len : ℕ) → len ≤ n → len ≤ k → pieces_by n at len ≡ pieces_by k at len
same_by zero zero at len few more = refl
same_by zero (suc k) at zero few more = refl
same_by zero (suc k) at (suc m) few more = absurd (omega arith)
same_by (suc n) zero at zero few more = refl
same_by (suc n) zero at (suc m) few more = absurd (omega arith)
same_by (suc n) (suc k) at zero few more = refl
same_by (suc n) (suc k) at (suc m) few more =
    let low : at % 4096 < 4096 = in_block at in
    let step = first_len at (suc m) in
    ap (λ (ps : List Piece). first_piece at (suc m) ∷ ps) (same_by n k (at + step) (suc m - step) (omega arith) (omega arith))

pub covers : (at len : ℕ) → Covers (pieces_of at len) at (at + len)
unfolding pieces_of
covers at len = covers_by len at len (omega arith)

pub pieces_none : (at : ℕ) → pieces_of at 0 ≡ []
unfolding pieces_of
pieces_none at = refl

pub pieces_some : (at len : ℕ) → len ≢ 0 → pieces_of at len ≡ first_piece at len ∷ pieces_of (at + first_len at len) (len - first_len at len)
unfolding pieces_of
pieces_some at zero some = absurd (some refl)
pieces_some at (suc m) some =
    let low : at % 4096 < 4096 = in_block at in
    let step = first_len at (suc m) in
    ap (λ (ps : List Piece). first_piece at (suc m) ∷ ps) (same_by m (suc m - step) (at + step) (suc m - step) (omega arith) (omega arith))

-- what `next` gives and leaves
pub next_piece : (at left step : ℕ) (p : Piece) (now : List Piece) → left ≢ 0 → pieces_of at left ≡ now → p ≡ first_piece at left → step ≡ p.len
    → now ≡ p ∷ pieces_of (at + step) (left - p.len)
next_piece at left step p now some view is len = rw (len, is) (sym view ∙ pieces_some at left some)
