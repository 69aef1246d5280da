-- A slice of the pieces of a range, which go.
use Rattle.std.proofs.Common.{◌≡◌, ◌≤◌, ◌<◌, ◌⊎◌, ◌+◌, ◌-◌, ◌^◌, ◌==◌, ◌&&◌, ◌++◌, inl, inr, ℕ, zero, suc, List, [], ◌∷◌, filter, length, not, nat_lt, map, take, drop}
use Rattle.std.proofs.Common.{Bool, true, false, refl, sym, ap, subst, arith, ◌∙◌}
use Rattle.std.specs.Prelude.{nat_le, slice_index_or}
use Rattle.std.specs.Ordering.{is_eq, is_ge, is_lt, nat_cmp}
use Rattle.std.specs.List.{AllByRecursion}
use Rattle.std.specs.List.Sorted.{IsPermutation}
use Rattle.std.proofs.lemmas.Bool.{cases_Bool}
use Rattle.std.proofs.lemmas.Bool.Decides.{nat_tests}
use Rattle.std.proofs.lemmas.List.{take-append-drop}
use Rattle.std.proofs.lemmas.List.Sorted.{Contains-permutation, IsPermutation-sym}
use Rattle.sqlite_trees.specs.Tree.{IsAscending}
use Rattle.fuse_data.specs.Space.{IsListed}
use Rattle.fuse_store_tables.specs.declared.pieces.PieceRow.{PieceRow}
use Rattle.fuse_store_tables.specs.Pieces.{Piece, begins_between}
use Rattle.fuse_store_tables.specs.Ranges.{row_of}
use Rattle.fuse_store_tables.specs.Content.{Content, without_pieces_between}
use Rattle.fuse_store_tree.specs.Fits.{KeepsPiece}
use Rattle.fuse_store_tree.specs.Pieces.{is_zeros, extent_of, extents_of, end_of, has_block}
use Rattle.fuse_store_tree.specs.declared.piece_cuts.Gone.{Gone}
use Rattle.fuse_store_tree.specs.inner.Reading.{IsSound}
use Rattle.fuse_store_tree.specs.inner.Relisting.{is_between, TakenOut, TakenOff, IsCutAt, AreCut, AreGone, IsHeldIn, GivesUp, Remembers, rows_extents, EndsWithin, IsEndOf}
use Rattle.fuse_store_tree.proofs.PiecesOut.{taken_left}
use Rattle.fuse_store_tree.proofs.PieceSets.{In, in_of, of_in, all_in, each_in, in_filter, of_filter, in_either, Apart, AreWell, well_of, apart_others, HasPlace, listed_in, in_listed, not_both, has_of, Has}

-- ---- rows of pieces

pub same_extents : (qs : List Piece) → rows_extents (map row_of qs) ≡ extents_of qs
same_extents [] = refl
same_extents (q ∷ qs) = elim (cases_Bool (is_zeros q)) [
  | inl zeros ↦ rw zeros (same_extents qs)
  | inr bytes ↦ rw bytes (ap (λ es. extent_of q ∷ es) (same_extents qs))
]

same_length : (qs : List Piece) → length (map row_of qs) ≡ length qs
same_length [] = refl
same_length (q ∷ qs) = ap suc (same_length qs)

index_in : {X : Type 0} (xs : List X) (i : ℕ) (d : X) → i < length xs → In (slice_index_or xs i d) xs
index_in [] i d low = absurd (omega (arith, low))
index_in (x ∷ xs) zero d low = inl refl
index_in (x ∷ xs) (suc i) d low = inr (index_in xs i d (omega (arith, low)))

last_in : {X : Type 0} (xs : List X) (d : X) → 1 ≤ length xs → In (slice_index_or xs (length xs - 1) d) xs
last_in xs d some = index_in xs (length xs - 1) d (omega (arith, some))

index_row : (qs : List Piece) (i : ℕ) (p : Piece) (d : PieceRow) → i < length qs → slice_index_or (map row_of qs) i d ≡ row_of (slice_index_or qs i p)
index_row [] i p d low = absurd (omega (arith, low))
index_row (q ∷ qs) zero p d low = refl
index_row (q ∷ qs) (suc i) p d low = index_row qs i p d (omega (arith, low))

last_row : (qs : List Piece) (p : Piece) (d : PieceRow) → 1 ≤ length qs
    → slice_index_or (map row_of qs) (length (map row_of qs) - 1) d ≡ row_of (slice_index_or qs (length qs - 1) p)
last_row qs p d some =
    ap (λ n. slice_index_or (map row_of qs) (n - 1) d) (same_length qs) ∙ index_row qs (length qs - 1) p d (omega (arith, some))

-- the last one begins last
highest : (qs : List Piece) (p r : Piece) (i : ℕ) → IsAscending (λ (a b : Piece). a.first ≤ b.first) qs → In r qs → i + 1 ≡ length qs
    → r.first ≤ (slice_index_or qs i p).first
highest [] p r i rise at is = absurd at
highest (q ∷ qs) p r zero rise (inl same) is = subst (λ (z : Piece). z.first ≤ q.first) same (omega arith)
highest (q ∷ qs) p r (suc i) rise (inl same) is =
    subst (λ (z : Piece). z.first ≤ (slice_index_or qs i p).first) same
    (all_in (λ (z : Piece). q.first ≤ z.first) qs (slice_index_or qs i p) rise.0 (index_in qs i p (omega (arith, is))))
highest (q ∷ qs) p r zero rise (inr at) is = absurd (omega (arith, is, some_in qs r at))
  where
    some_in : (qs : List Piece) (r : Piece) → In r qs → 1 ≤ length qs
    some_in [] r at = absurd at
    some_in (q ∷ qs) r at = omega arith
highest (q ∷ qs) p r (suc i) rise (inr at) is = highest qs p r i rise.1 at (omega (arith, is))

first_most : (qs : List Piece) (p r : Piece) → 1 ≤ length qs → IsAscending (λ (a b : Piece). a.first ≤ b.first) qs → In r qs
    → r.first ≤ (slice_index_or qs (length qs - 1) p).first
first_most qs p r some rise at = highest qs p r (length qs - 1) rise at (omega (arith, some))

-- what stands after it begins no earlier
behind : (xs ys : List Piece) (a b : Piece) → IsAscending (λ (a b : Piece). a.first ≤ b.first) (xs ++ ys) → In a xs → In b ys → a.first ≤ b.first
behind [] ys a b rise at there = absurd at
behind (x ∷ xs) ys a b rise (inl is) there =
    subst (λ z. z.first ≤ b.first) is (all_in (λ (z : Piece). x.first ≤ z.first) (xs ++ ys) b rise.0 (in_last_of xs ys b there))
  where
    in_last_of : (xs ys : List Piece) (b : Piece) → In b ys → In b (xs ++ ys)
    in_last_of [] ys b there = there
    in_last_of (x ∷ xs) ys b there = inr (in_last_of xs ys b there)
behind (x ∷ xs) ys a b rise (inr at) there = behind xs ys a b rise.1 at there

first_rise : (n : ℕ) (xs : List Piece) → IsAscending (λ (a b : Piece). a.first ≤ b.first) xs → IsAscending (λ (a b : Piece). a.first ≤ b.first) (take n xs)
first_rise zero xs rise = tt
first_rise (suc n) [] rise = tt
first_rise (suc n) (x ∷ xs) rise = (taken n xs rise.0, first_rise n xs rise.1)
  where
    taken : (n : ℕ) (ys : List Piece) → AllByRecursion (λ (y : Piece). x.first ≤ y.first) ys → AllByRecursion (λ (y : Piece). x.first ≤ y.first) (take n ys)
    taken zero ys all = tt
    taken (suc n) [] all = tt
    taken (suc n) (y ∷ ys) all = (all.0, taken n ys all.1)

taken_in : (n : ℕ) (xs : List Piece) (r : Piece) → In r (take n xs) → In r xs
taken_in zero xs r at = absurd at
taken_in (suc n) [] r at = absurd at
taken_in (suc n) (x ∷ xs) r (inl is) = inl is
taken_in (suc n) (x ∷ xs) r (inr at) = inr (taken_in n xs r at)

-- of a piece that begins in the range
pub record BeginsIn (node from to : ℕ) (r : Piece) : Type 0 where
  pub of : r.node ≡ node
  pub low : from ≤ r.first
  pub high : r.first < to

pub begins_of : (node from to : ℕ) (r : Piece) → begins_between node from to r ≡ true → BeginsIn node from to r
begins_of node from to r is = record {
  of = number r.node node (is_ge (nat_cmp r.first from) && is_lt (nat_cmp r.first to)) is;
  low = lower (is_eq (nat_cmp r.node node)) r.first from (is_lt (nat_cmp r.first to)) is;
  high = upper (is_eq (nat_cmp r.node node)) (is_ge (nat_cmp r.first from)) r.first to is;
}
  where
    number : (a b : ℕ) (t : Bool) → (is_eq (nat_cmp a b) && t) ≡ true → a ≡ b
    number a b t is = grind (arith, nat_tests)

    lower : (t : Bool) (a b : ℕ) (u : Bool) → (t && (is_ge (nat_cmp a b) && u)) ≡ true → b ≤ a
    lower t a b u is = grind (arith, nat_tests)

    upper : (t u : Bool) (a b : ℕ) → (t && (u && is_lt (nat_cmp a b))) ≡ true → a < b
    upper t u a b is = grind (arith, nat_tests)

pub of_begins : (node from to : ℕ) (r : Piece) → BeginsIn node from to r → begins_between node from to r ≡ true
of_begins node from to r begins = test r.node node r.first from to begins.of begins.low begins.high
  where
    test : (a b x y z : ℕ) → a ≡ b → y ≤ x → x < z → (is_eq (nat_cmp a b) && (is_ge (nat_cmp x y) && is_lt (nat_cmp x z))) ≡ true
    test a b x y z same low high = grind (arith, nat_tests)

module _ (file : List ℕ) (c : Content) (sound : IsSound file c) (node from to : ℕ) (order : from < to) (cut : AreCut node from to c) (ordered : List Piece)
    (same : IsPermutation (filter (begins_between node from to) c.pieces) ordered) (rise : IsAscending (λ (a b : Piece). a.first ≤ b.first) ordered) where
  abbrev pub slice : List Piece
  slice = take 1024 ordered

  well : AreWell file c.pieces
  well = well_of file c.pieces sound.1

  in_ordered : (r : Piece) → In r c.pieces → BeginsIn node from to r → In r ordered
  in_ordered r at begins =
      in_of ordered r (Contains-permutation (filter (begins_between node from to) c.pieces) ordered r same
      (of_in (filter (begins_between node from to) c.pieces) r (in_filter (begins_between node from to) c.pieces r at (of_begins node from to r begins))))

  of_ordered : (r : Piece) → In r ordered → In r c.pieces × BeginsIn node from to r
  of_ordered r at =
      let there = of_filter (begins_between node from to) c.pieces r (in_of (filter (begins_between node from to) c.pieces) r
      (Contains-permutation ordered (filter (begins_between node from to) c.pieces) r (IsPermutation-sym _ _ same) (of_in ordered r at))) in
      (there.0, begins_of node from to r there.1)

  of_slice : (r : Piece) → In r slice → In r c.pieces × BeginsIn node from to r
  of_slice r at = of_ordered r (taken_in 1024 ordered r at)

  -- none of the range reaches over its end
  ends_low : (r : Piece) → In r c.pieces → BeginsIn node from to r → end_of r ≤ to
  ends_low r at begins = by (all_in (λ p. p.node ≡ node → (end_of p ≤ to) ⊎ (to ≤ p.first)) c.pieces r cut.end at begins.of)
    where
      by : (end_of r ≤ to) ⊎ (to ≤ r.first) → end_of r ≤ to
      by (inl low) = low
      by (inr high) = let less = begins.high in absurd (omega (arith, high, less))

  some_of : (r : Piece) → In r c.pieces → 1 ≤ r.count
  some_of r at = all_in (λ r. 1 ≤ r.count) c.pieces r well.some at

  -- ---- what is read of the rows

  pub slice_known : AllByRecursion (λ (p : Piece). (p.node ≡ node) × (p.sum < 2 ^ 64)) slice
  slice_known = each_in (λ (p : Piece). (p.node ≡ node) × (p.sum < 2 ^ 64)) slice (λ r at.
      let there = of_slice r at in (there.1.of, (all_in KeepsPiece c.pieces r sound.0.pieces there.0).sum))

  pub slice_ends : EndsWithin (map row_of slice) from to
  slice_ends d some =
      let long = same_length slice in
      let one : 1 ≤ length slice = omega (arith, long, some) in
      by slice one d (λ r at. let there = of_slice r at in
      let low = there.1.low in
      let many = some_of r there.0 in
      let high = ends_low r there.0 there.1 in
      (omega (arith, low, many), omega (arith, high)))
    where
      by : (qs : List Piece) → 1 ≤ length qs → (d : PieceRow) → ((r : Piece) → In r qs → (from < r.first + r.count) × (r.first + r.count ≤ to))
          → let x = slice_index_or (map row_of qs) (length (map row_of qs) - 1) d in (from < x.first + x.count) × (x.first + x.count ≤ to)
      by [] some d each = absurd (omega (arith, some))
      by (q ∷ qs) some d each =
          let l = slice_index_or (q ∷ qs) (length (q ∷ qs) - 1) q in
          let is = last_row (q ∷ qs) q d some in
          subst (λ (x : PieceRow). (from < x.first + x.count) × (x.first + x.count ≤ to)) (sym is) (each l (last_in (q ∷ qs) q some))

  -- ---- up to its end

  module _ (next : ℕ) (low : from < next) (high : next ≤ to) (ends : IsEndOf (map row_of slice) to next) where
    -- it has all, or its last one ends there
    record EndsAt (l : Piece) : Type 0 where
      there : In l slice
      stop : end_of l ≡ next
      most : (r : Piece) → In r slice → r.first ≤ l.first

    last_or_all : ((slice ≡ ordered) × (next ≡ to)) ⊎ ((l : Piece) × EndsAt l)
    last_or_all = elim (cases_Bool (nat_lt (length slice) 1024)) [
      | inl few ↦
          let less : length slice < 1024 = lower (length slice) 1024 few in
          let long = same_length slice in
          inl (all_taken 1024 ordered less, ends.few (omega (arith, long, less)))
      | inr full ↦ inr (by slice (upper (length slice) 1024 full) refl)
    ]
      where
        lower : (a b : ℕ) → nat_lt a b ≡ true → a < b
        lower a b is = grind (arith, nat_tests)

        upper : (a b : ℕ) → nat_lt a b ≡ false → b ≤ a
        upper a b is = grind (arith, nat_tests)

        all_taken : (n : ℕ) (xs : List Piece) → length (take n xs) < n → take n xs ≡ xs
        all_taken zero xs low = absurd (omega (arith, low))
        all_taken (suc n) [] low = refl
        all_taken (suc n) (x ∷ xs) low = ap (λ l. x ∷ l) (all_taken n xs (omega (arith, low)))

        by : (qs : List Piece) → 1024 ≤ length qs → slice ≡ qs → (l : Piece) × EndsAt l
        by [] full is = absurd (omega (arith, full))
        by (q ∷ qs) full is =
            let l = slice_index_or (q ∷ qs) (length (q ∷ qs) - 1) q in
            let some : 1 ≤ length (q ∷ qs) = omega arith in
            let long = same_length (q ∷ qs) in
            let told : 1024 ≤ length (map row_of (q ∷ qs)) = omega (arith, long, full) in
            let end = subst (λ zs. IsEndOf (map row_of zs) to next) is ends in
            let at = end.full told (row_of q) in
            let row = last_row (q ∷ qs) q (row_of q) some in (
              l,
              record {
                there = subst (In l) (sym is) (last_in (q ∷ qs) q some);
                stop = sym (at ∙ ap (λ (x : PieceRow). x.first + x.count) row);
                most = λ r there. first_most (q ∷ qs) q r some (subst (IsAscending (λ (a b : Piece). a.first ≤ b.first)) is (first_rise 1024 ordered rise)) (subst (In r) is there);
              },
            )

    -- no piece reaches over its end
    next_cut : IsCutAt node next c.pieces
    next_cut = each_in (λ p. p.node ≡ node → (end_of p ≤ next) ⊎ (next ≤ p.first)) c.pieces (λ r at of. one r at of last_or_all)
      where
        one : (r : Piece) → In r c.pieces → r.node ≡ node → ((slice ≡ ordered) × (next ≡ to)) ⊎ ((l : Piece) × EndsAt l) → (end_of r ≤ next) ⊎ (next ≤ r.first)
        one r at of (inl (all, is)) = subst (λ n. (end_of r ≤ n) ⊎ (n ≤ r.first)) (sym is) (all_in (λ p. p.node ≡ node → (end_of p ≤ to) ⊎ (to ≤ p.first)) c.pieces r cut.end at of)
        one r at of (inr (l, last)) =
            let there = of_slice l last.there in
            by (all_in (λ r. (r ≡ l) ⊎ Apart r l) c.pieces r (apart_others file c.pieces l well there.0) at)
          where
            beside : (end_of r ≤ l.first) ⊎ (end_of l ≤ r.first) → (end_of r ≤ next) ⊎ (next ≤ r.first)
            beside (inl less) = let end = last.stop in inl (omega (arith, less, end))
            beside (inr less) = let end = last.stop in inr (omega (arith, less, end))

            by : (r ≡ l) ⊎ Apart r l → (end_of r ≤ next) ⊎ (next ≤ r.first)
            by (inl is) = inl (let end : end_of r ≡ next = ap end_of is ∙ last.stop in omega (arith, end))
            by (inr apart) = let there = of_slice l last.there in beside (apart.own (of ∙ sym there.1.of))

    -- those that go are the slice
    goes_in : (r : Piece) → In r c.pieces → BeginsIn node from next r → In r slice
    goes_in r at begins = one last_or_all
      where
        wide : BeginsIn node from to r
        wide = let less = begins.high in record { of = begins.of; low = begins.low; high = omega (arith, less, high) }

        one : ((slice ≡ ordered) × (next ≡ to)) ⊎ ((l : Piece) × EndsAt l) → In r slice
        one (inl (all, is)) = subst (In r) (sym all) (in_ordered r at wide)
        one (inr (l, last)) = by (in_either slice (drop 1024 ordered) r (subst (In r) (sym (take-append-drop 1024 ordered)) (in_ordered r at wide)))
          where
            l_at : In l c.pieces × BeginsIn node from to l
            l_at = of_slice l last.there

            never : In r (drop 1024 ordered) → (end_of r ≤ l.first) ⊎ (end_of l ≤ r.first) → In r slice
            never later (inl less) =
                let first = behind slice (drop 1024 ordered) l r (subst (IsAscending (λ (a b : Piece). a.first ≤ b.first)) (sym (take-append-drop 1024 ordered)) rise) last.there later in
                let many = some_of r at in
                absurd (omega (arith, less, first, many))
            never later (inr less) = let end = last.stop in let early = begins.high in absurd (omega (arith, less, end, early))

            beside : In r (drop 1024 ordered) → (r ≡ l) ⊎ Apart r l → In r slice
            beside later (inl is) = subst (λ z. In z slice) (sym is) last.there
            beside later (inr apart) = never later (apart.own (begins.of ∙ sym l_at.1.of))

            by : In r slice ⊎ In r (drop 1024 ordered) → In r slice
            by (inl first) = first
            by (inr later) = beside later (all_in (λ r. (r ≡ l) ⊎ Apart r l) c.pieces r (apart_others file c.pieces l well l_at.0) at)

    slice_goes : (r : Piece) → In r slice → BeginsIn node from next r
    slice_goes r at = let there = of_slice r at in record { of = there.1.of; low = there.1.low; high = one last_or_all }
      where
        one : ((slice ≡ ordered) × (next ≡ to)) ⊎ ((l : Piece) × EndsAt l) → r.first < next
        one (inl (all, is)) = let there = of_slice r at in let less = there.1.high in omega (arith, less, is)
        one (inr (l, last)) =
            let most = last.most r at in
            let end = last.stop in
            let many = some_of l (of_slice l last.there).0 in
            omega (arith, most, end, many)

    -- ---- the pieces go

    abbrev goes : Piece → Bool
    goes = begins_between node from next

    abbrev left : List Piece
    left = filter (λ p. not (goes p)) c.pieces

    whole : AllByRecursion (λ p. (n k : ℕ) → has_block n k p ≡ true → is_between node from next n k ≡ goes p) c.pieces
    whole = each_in (λ p. (n k : ℕ) → has_block n k p ≡ true → is_between node from next n k ≡ goes p) c.pieces (λ r at n k has.
        let is = has_of n k r has in
        one r n k is (λ of. (
          all_in (λ p. p.node ≡ node → (end_of p ≤ from) ⊎ (from ≤ p.first)) c.pieces r cut.begin at of,
          all_in (λ p. p.node ≡ node → (end_of p ≤ next) ⊎ (next ≤ p.first)) c.pieces r next_cut at of,
        )))
      where
        ends_first : (x y k : ℕ) → y ≤ from → x ≤ k → k < y → from < next
            → (nat_le from k && nat_lt k next) ≡ (is_ge (nat_cmp x from) && is_lt (nat_cmp x next))
        ends_first x y k end lower upper order = grind (arith, nat_tests)

        begins_later : (x y k : ℕ) → next ≤ x → x ≤ k → k < y → from < next
            → (nat_le from k && nat_lt k next) ≡ (is_ge (nat_cmp x from) && is_lt (nat_cmp x next))
        begins_later x y k begin lower upper order = grind (arith, nat_tests)

        lies_within : (x y k : ℕ) → from ≤ x → y ≤ next → x ≤ k → k < y
            → (nat_le from k && nat_lt k next) ≡ (is_ge (nat_cmp x from) && is_lt (nat_cmp x next))
        lies_within x y k begin end lower upper = grind (arith, nat_tests)

        both : (x y k : ℕ) → (y ≤ from) ⊎ (from ≤ x) → (y ≤ next) ⊎ (next ≤ x) → x ≤ k → k < y
            → (nat_le from k && nat_lt k next) ≡ (is_ge (nat_cmp x from) && is_lt (nat_cmp x next))
        both x y k (inl p) q lower upper = ends_first x y k p lower upper low
        both x y k (inr p) (inl q) lower upper = lies_within x y k p q lower upper
        both x y k (inr p) (inr q) lower upper = begins_later x y k q lower upper low

        other : (a n : ℕ) (t u : Bool) → a ≡ n → (n == node) ≡ false → ((n == node) && t) ≡ (is_eq (nat_cmp a node) && u)
        other a n t u same off = grind (arith, nat_tests)

        here : (a n : ℕ) (t u : Bool) → a ≡ n → (n == node) ≡ true → t ≡ u → ((n == node) && t) ≡ (is_eq (nat_cmp a node) && u)
        here a n t u same on is = grind (arith, nat_tests)

        equal : (a b : ℕ) → (a == b) ≡ true → a ≡ b
        equal a b is = grind (arith, nat_tests)

        one : (r : Piece) (n k : ℕ) → Has n k r
            → (r.node ≡ node → ((end_of r ≤ from) ⊎ (from ≤ r.first)) × ((end_of r ≤ next) ⊎ (next ≤ r.first))) → is_between node from next n k ≡ goes r
        one r n k has cuts = elim (cases_Bool (n == node)) [
          | inr off ↦ other r.node n (nat_le from k && nat_lt k next) (is_ge (nat_cmp r.first from) && is_lt (nat_cmp r.first next)) has.of off
          | inl on ↦
              let of : r.node ≡ node = has.of ∙ equal n node on in
              let cuts_of = cuts of in
              here r.node n (nat_le from k && nat_lt k next) (is_ge (nat_cmp r.first from) && is_lt (nat_cmp r.first next)) has.of on
              (both r.first (end_of r) k cuts_of.0 cuts_of.1 has.from has.to)
        ]

    out : TakenOut file (is_between node from next) c (without_pieces_between node from next c)
    out = taken_left goes file (is_between node from next) c whole sound

    -- ---- the data file

    stays_in : (r : Piece) → In r left → In r c.pieces × (goes r ≡ false)
    stays_in r at = let both = of_filter (λ p. not (goes p)) c.pieces r at in (both.0, undone (goes r) both.1)
      where
        undone : (b : Bool) → not b ≡ true → b ≡ false
        undone true is = absurd cc
        undone false is = refl

    module _ (was is : Gone) (told : Remembers (rows_extents (map row_of slice)) was is) where
      slice_listed : (b : ℕ) → IsListed (rows_extents (map row_of slice)) b → (r : Piece) × In r slice × HasPlace r b
      slice_listed b at = listed_in slice b (subst (λ es. IsListed es b) (same_extents slice) at)

      left_listed : (b : ℕ) → IsListed (extents_of left) b → IsListed (extents_of c.pieces) b
      left_listed b at = let one = listed_in left b at in in_listed c.pieces b one.0 (stays_in one.0 one.1).0 one.2

      given : GivesUp was is c.pieces left
      given = record {
        from = from_old;
        all = λ none. let all = told.all none in (all.0, to_new all.1);
        apart = stay_apart;
      }
        where
          from_old : (b : ℕ) → IsHeldIn is.extents.items left b → IsHeldIn was.extents.items c.pieces b
          from_old b (inl at) = inl (left_listed b at)
          from_old b (inr at) = by (told.from b at)
            where
              by : IsListed was.extents.items b ⊎ IsListed (rows_extents (map row_of slice)) b → IsHeldIn was.extents.items c.pieces b
              by (inl before) = inr before
              by (inr new) = let one = slice_listed b new in inl (in_listed c.pieces b one.0 (of_slice one.0 one.1).0 one.2)

          to_new : ((b : ℕ) → IsListed was.extents.items b ⊎ IsListed (rows_extents (map row_of slice)) b → IsListed is.extents.items b)
              → (b : ℕ) → IsHeldIn was.extents.items c.pieces b → IsHeldIn is.extents.items left b
          to_new each b (inr before) = inr (each b (inl before))
          to_new each b (inl at) = let one = listed_in c.pieces b at in elim (cases_Bool (goes one.0)) [
            | inl away ↦ inr (each b (inr (subst (λ es. IsListed es b) (sym (same_extents slice))
                (in_listed slice b one.0 (goes_in one.0 one.1 (begins_of node from next one.0 away)) one.2))))
            | inr stays ↦ inl (in_listed left b one.0 (in_filter (λ p. not (goes p)) c.pieces one.0 one.1 (ap not stays)) one.2)
          ]

          stay_apart : AreGone was.extents.items c.pieces → AreGone is.extents.items left
          stay_apart apart b gone listed = by (told.from b gone)
            where
              two : (s r : Piece) → In s left → In r slice → HasPlace s b → HasPlace r b → (s ≡ r) ⊎ Apart s r → ⊥
              two s r at there first second (inr off) = not_both s r b off first second
              two s r at there first second (inl is) =
                  let stays = (stays_in s at).1 in
                  let away = of_begins node from next r (slice_goes r there) in
                  absurd (let e = sym (subst (λ z. goes z ≡ false) is stays) ∙ away in cc)

              by : IsListed was.extents.items b ⊎ IsListed (rows_extents (map row_of slice)) b → ⊥
              by (inl before) = apart b before (left_listed b listed)
              by (inr new) =
                  let one = listed_in left b listed in
                  let other = slice_listed b new in
                  two one.0 other.0 one.1 other.1 one.2 other.2
                  (all_in (λ s. (s ≡ other.0) ⊎ Apart s other.0) c.pieces one.0 (apart_others file c.pieces other.0 well (of_slice other.0 other.1).0) (stays_in one.0 one.1).0)

      pub slice_off : TakenOff file (is_between node from next) was is c (without_pieces_between node from next c)
      slice_off = record { out = out; gone = given }
