-- The sum of the written blocks of nodes, one after the other.
use Rattle.std.proofs.Common.{◌≡◌, ◌≤◌, ◌<◌, ◌+◌, ℕ, zero, suc, pos, List, [], ◌∷◌, map, take, length, slice_index_or, refl, sym, ap, subst, arith, ◌∙◌}
use Rattle.std.specs.List.{sum_by}
use Rattle.std.proofs.lemmas.List.Sums.{sum_by-cons}
use Rattle.fuse_rows.specs.declared.rows.NodeRow.{NodeRow}
use Rattle.fuse_rows.specs.Blocks.{how_many}
use Rattle.fuse_store_tables.specs.declared.counted_nodes.Added.{Added}
use Rattle.fuse_store_tables.specs.inner.Copies.{added_of}

abbrev pub written_in : NodeRow → ℕ
written_in n = how_many n.written

added_sums : (a b c d e : ℕ) → a ≡ b + c → c ≡ d + e → a ≡ b + d + e
added_sums a b c d e one two = omega (arith, one, two)

zero_right : (a : ℕ) → a + 0 ≡ 0 + a
zero_right a = omega arith

-- the node at a place, and the sum with it
pub sum_at : (ns : List NodeRow) (at : ℕ) (d : Added) → at < length (map added_of ns)
    → (n : NodeRow) × (slice_index_or (map added_of ns) at d ≡ added_of n) × (sum_by written_in (take (suc at) ns) ≡ sum_by written_in (take at ns) + written_in n)
sum_at [] at d low = absurd (omega (arith, low))
sum_at (n ∷ ns) zero d low = (n, refl, sum_by-cons written_in n [] ∙ zero_right (written_in n))
sum_at (n ∷ ns) (suc at) d low =
    let more = sum_at ns at d (omega (arith, low)) in (
      more.0,
      more.1,
      added_sums _ (written_in n) _ _ _ (sum_by-cons written_in n (take (suc at) ns)) more.2
          ∙ ap (λ s. s + written_in more.0) (sym (sum_by-cons written_in n (take at ns))),
    )

pub sum_of_some : (ns : List NodeRow) (at : ℕ) → sum_by written_in (take at ns) ≤ sum_by written_in ns
sum_of_some [] zero = omega arith
sum_of_some [] (suc at) = omega arith
sum_of_some (n ∷ ns) zero = omega arith
sum_of_some (n ∷ ns) (suc at) =
    let one = sum_by-cons written_in n (take at ns) in
    let all = sum_by-cons written_in n ns in
    let less = sum_of_some ns at in
    more _ _ (written_in n) (sum_by written_in (take at ns)) (sum_by written_in ns) one all less
  where
    more : (a b k c d : ℕ) → a ≡ k + c → b ≡ k + d → c ≤ d → a ≤ b
    more a b k c d one two three = omega (arith, one, two, three)

pub beyond_all : (most s w t u all : ℕ) → most < s + w → s ≡ t → u ≡ t + w → u ≤ all → most < all
beyond_all most s w t u all one two three four = omega (arith, one, two, three, four)

module _ (all : List Added) (at sum : ℕ) (low : at < length all) (so_far : (ns : List NodeRow) → all ≡ map added_of ns → sum ≡ sum_by written_in (take at ns))
    (e : Added) where
  pub sum_beyond : (most : ℕ) → ((n : ℕ) → e.written ≡ pos n → most < sum + n) → (d : Added) → e ≡ slice_index_or all at d
      → (ns : List NodeRow) → all ≡ map added_of ns → most < sum_by written_in ns
  sum_beyond most above d is ns same =
      let step = sum_at ns at d (subst (λ l. at < length l) same low) in
      let one = is ∙ ap (λ l. slice_index_or l at d) same ∙ step.1 in
      beyond_all most sum (written_in step.0) _ _ _ (above (written_in step.0) (ap (λ (a : Added). a.written) one)) (so_far ns same) step.2 (sum_of_some ns (suc at))

  pub sum_next : (next : ℕ) → ((n : ℕ) → e.written ≡ pos n → next ≡ sum + n) → (d : Added) → e ≡ slice_index_or all at d
      → (ns : List NodeRow) → all ≡ map added_of ns → next ≡ sum_by written_in (take (suc at) ns)
  sum_next next more d is ns same =
      let step = sum_at ns at d (subst (λ l. at < length l) same low) in
      let one = is ∙ ap (λ l. slice_index_or l at d) same ∙ step.1 in
      more (written_in step.0) (ap (λ (a : Added). a.written) one) ∙ ap (λ s. s + written_in step.0) (so_far ns same) ∙ sym step.2
