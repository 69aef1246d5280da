-- What is counted of a tree of which nodes come to stand elsewhere.
use Rattle.std.proofs.Common.{◌≡◌, ◌≢◌, ◌<◌, ◌≤◌, ◌+◌, ◌&&◌, ◌==◌, ℕ, Bool, true, false, cond, eqb, List, [], ◌∷◌, length, Some, refl, sym, ap, subst, ◌∙◌, inl, inr, arith}
use Rattle.std.specs.Prelude.{find, filter}
use Rattle.std.specs.List.{AllByRecursion}
use Rattle.std.proofs.lemmas.Bool.{eqb-true, eqb-false, ne_eqb, eq-eqb}
use Rattle.fuse_tree.specs.State.{Node, Apart}
use Rattle.fuse_plan.specs.inner.PlanRenaming.{more, fewer}
use Rattle.fuse_plan.proofs.Lists.{cond_found}

abbrev pub one_if : Bool → ℕ
one_if b = cond b 1 0

counted : {A : Type 0} (b : Bool) (x : A) (xs : List A) → length (cond b (x ∷ xs) xs) ≡ length xs + one_if b
counted true x xs = omega arith
counted false x xs = omega arith

-- counts by two tests that differ at one node alone
pub count_at : (p q : Node → Bool) (k : ℕ) (d : Node) (ns : List Node) → Apart (λ n m. n.number < m.number) ns → find (λ n. n.number == k) ns ≡ Some d
    → AllByRecursion (λ n. n.number ≢ k → p n ≡ q n) ns
    → length (filter p ns) + one_if (q d) ≡ length (filter q ns) + one_if (p d)
count_at p q k d [] rise at same = absurd cc
count_at p q k d (n ∷ ns) rise at same =
    elim (cond_found (eqb n.number k) n d (find (λ m. m.number == k) ns) at) [
      | inl h ↦ (
          let is : n.number ≡ k = eqb-true n.number k h.0 in
          let rest : length (filter p ns) ≡ length (filter q ns) = others ns (subst (λ (i : ℕ). AllByRecursion (λ m. i < m.number) ns) is rise.0) same.1 in
          let here = counted (p n) n (filter p ns) in
          let there = counted (q n) n (filter q ns) in
          let p_same : one_if (p n) ≡ one_if (p d) = ap (λ (m : Node). one_if (p m)) h.1 in
          let q_same : one_if (q n) ≡ one_if (q d) = ap (λ (m : Node). one_if (q m)) h.1 in
          omega arith)
      | inr h ↦ (
          let rest = count_at p q k d ns rise.1 h.1 same.1 in
          let here = counted (p n) n (filter p ns) in
          let there = counted (q n) n (filter q ns) in
          let both : one_if (p n) ≡ one_if (q n) = ap one_if (same.0 (eqb-false n.number k h.0)) in
          omega arith)
    ]
  where
    others : (ms : List Node) → AllByRecursion (λ m. k < m.number) ms → AllByRecursion (λ m. m.number ≢ k → p m ≡ q m) ms
        → length (filter p ms) ≡ length (filter q ms)
    others [] later alike = refl
    others (m ∷ ms) later alike =
        let lt : k < m.number = later.0 in
        let head : p m ≡ q m = alike.0 (omega arith) in
        counted (p m) m (filter p ms) ∙ ap (λ (b : Bool). length (filter p ms) + one_if b) head ∙ ap (λ (i : ℕ). i + one_if (q m)) (others ms later.1 alike.1)
        ∙ sym (counted (q m) m (filter q ms))

-- ---- directories that move from the first directory to the second, and back or away

-- what is counted of each, where one moves, one comes into the first, and one is lost to the second
pub record Recounted (before after : ℕ → ℕ) (dir to : ℕ) (moves comes lost : Bool) : Type 0 where
  pub one : dir ≡ to → after dir ≡ fewer lost (more comes (before dir))
  pub from : dir ≢ to → after dir ≡ fewer moves (more comes (before dir))
  pub into : dir ≢ to → after to ≡ fewer lost (more moves (before to))
  pub other : (k : ℕ) → 1 ≤ k → k ≢ dir → k ≢ to → after k ≡ before k

-- the sums of before and after, where the one that is lost to the second then stands in `back`
abbrev pub Sums : (ℕ → ℕ) → (ℕ → ℕ) → ℕ → ℕ → ℕ → Bool → Bool → Type 0
Sums before after dir to back moves lost =
    (k : ℕ) → after k + one_if (moves && eqb dir k) + one_if (lost && eqb to k) ≡ before k + one_if (moves && eqb to k) + one_if (lost && eqb back k)

summed : (moves lost a b c d : Bool) (A B : ℕ) (a' b' c' d' : Bool) → a ≡ a' → b ≡ b' → c ≡ c' → d ≡ d'
    → A + one_if (moves && a) + one_if (lost && b) ≡ B + one_if (moves && c) + one_if (lost && d)
    → A + one_if (moves && a') + one_if (lost && b') ≡ B + one_if (moves && c') + one_if (lost && d')
summed moves lost a b c d A B a' b' c' d' ea eb ec ed is = rw (sym ea, sym eb, sym ec, sym ed) is

into_sum : (m l : Bool) (A B : ℕ) → A + one_if (m && false) + one_if (l && true) ≡ B + one_if (m && true) + one_if (l && false) → A ≡ fewer l (more m B)
into_sum true true A B is = omega arith
into_sum true false A B is = omega arith
into_sum false true A B is = omega arith
into_sum false false A B is = omega arith

other_sum : (m l : Bool) (A B : ℕ) → A + one_if (m && false) + one_if (l && false) ≡ B + one_if (m && false) + one_if (l && false) → A ≡ B
other_sum true true A B is = omega arith
other_sum true false A B is = omega arith
other_sum false true A B is = omega arith
other_sum false false A B is = omega arith

-- without a place to come back to
pub counts_gone : (before after : ℕ → ℕ) (dir to : ℕ) (moves lost : Bool) → 1 ≤ dir → 1 ≤ to → Sums before after dir to 0 moves lost
    → Recounted before after dir to moves false lost
counts_gone before after dir to moves lost one_dir one_to sums = record {
  one =
      λ same. one moves lost (after dir) (before dir)
      (summed moves lost _ _ _ _ _ _ true true true false (eq-eqb dir dir refl) (eq-eqb to dir (sym same)) (eq-eqb to dir (sym same))
      (ne_eqb 0 dir (omega arith)) (sums dir));
  from =
      λ ne. from moves lost (after dir) (before dir)
      (summed moves lost _ _ _ _ _ _ true false false false (eq-eqb dir dir refl) (ne_eqb to dir (λ same. ne (sym same)))
      (ne_eqb to dir (λ same. ne (sym same))) (ne_eqb 0 dir (omega arith)) (sums dir));
  into =
      λ ne. into_sum moves lost (after to) (before to)
      (summed moves lost _ _ _ _ _ _ false true true false (ne_eqb dir to ne) (eq-eqb to to refl) (eq-eqb to to refl) (ne_eqb 0 to (omega arith)) (sums to));
  other =
      λ k pos nd nt. other_sum moves lost (after k) (before k)
      (summed moves lost _ _ _ _ _ _ false false false false (ne_eqb dir k (λ same. nd (sym same))) (ne_eqb to k (λ same. nt (sym same)))
      (ne_eqb to k (λ same. nt (sym same))) (ne_eqb 0 k (omega arith)) (sums k));
}
  where
    one : (m l : Bool) (A B : ℕ) → A + one_if (m && true) + one_if (l && true) ≡ B + one_if (m && true) + one_if (l && false) → A ≡ fewer l (more false B)
    one true true A B is = omega arith
    one true false A B is = omega arith
    one false true A B is = omega arith
    one false false A B is = omega arith

    from : (m l : Bool) (A B : ℕ) → A + one_if (m && true) + one_if (l && false) ≡ B + one_if (m && false) + one_if (l && false) → A ≡ fewer m (more false B)
    from true true A B is = omega arith
    from true false A B is = omega arith
    from false true A B is = omega arith
    from false false A B is = omega arith

-- with the first directory to come back to
pub counts_swapped : (before after : ℕ → ℕ) (dir to : ℕ) (moves lost : Bool) → Sums before after dir to dir moves lost
    → Recounted before after dir to moves lost lost
counts_swapped before after dir to moves lost sums = record {
  one =
      λ same. one moves lost (after dir) (before dir)
      (summed moves lost _ _ _ _ _ _ true true true true (eq-eqb dir dir refl) (eq-eqb to dir (sym same)) (eq-eqb to dir (sym same)) (eq-eqb dir dir refl)
      (sums dir));
  from =
      λ ne. from moves lost (after dir) (before dir)
      (summed moves lost _ _ _ _ _ _ true false false true (eq-eqb dir dir refl) (ne_eqb to dir (λ same. ne (sym same))) (ne_eqb to dir (λ same. ne (sym same)))
      (eq-eqb dir dir refl) (sums dir));
  into =
      λ ne. into_sum moves lost (after to) (before to)
      (summed moves lost _ _ _ _ _ _ false true true false (ne_eqb dir to ne) (eq-eqb to to refl) (eq-eqb to to refl) (ne_eqb dir to ne) (sums to));
  other =
      λ k pos nd nt. other_sum moves lost (after k) (before k)
      (summed moves lost _ _ _ _ _ _ false false false false (ne_eqb dir k (λ same. nd (sym same))) (ne_eqb to k (λ same. nt (sym same)))
      (ne_eqb to k (λ same. nt (sym same))) (ne_eqb dir k (λ same. nd (sym same))) (sums k));
}
  where
    one : (m l : Bool) (A B : ℕ) → A + one_if (m && true) + one_if (l && true) ≡ B + one_if (m && true) + one_if (l && true) → A ≡ fewer l (more l B)
    one true true A B is = omega arith
    one true false A B is = omega arith
    one false true A B is = omega arith
    one false false A B is = omega arith

    from : (m l : Bool) (A B : ℕ) → A + one_if (m && true) + one_if (l && false) ≡ B + one_if (m && false) + one_if (l && true) → A ≡ fewer m (more l B)
    from true true A B is = omega arith
    from true false A B is = omega arith
    from false true A B is = omega arith
    from false false A B is = omega arith
