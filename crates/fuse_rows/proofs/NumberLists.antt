-- Numbers in a row, put at the end of a list one after the other.
use Rattle.std.proofs.Common.{◌≡◌, ◌<◌, ◌+◌, ◌-◌, ◌++◌, ℕ, suc, List, [], ◌∷◌, sym, ap, ◌∙◌, arith}
use Rattle.std.proofs.lemmas.List.{append_assoc}
use Rattle.fuse_rows.specs.Blocks.{numbers_from}

-- the first of them is put there
pub numbers_next : (xs : List ℕ) (next to : ℕ) → next < to
    → (xs ++ next ∷ []) ++ numbers_from (next + 1) (to - (next + 1)) ≡ xs ++ numbers_from next (to - next)
numbers_next xs next to less =
    let left : to - next ≡ suc (to - (next + 1)) = omega (arith, less) in
    append_assoc xs (next ∷ []) (numbers_from (next + 1) (to - (next + 1))) ∙ sym (ap (λ (n : ℕ). xs ++ numbers_from next n) left)
