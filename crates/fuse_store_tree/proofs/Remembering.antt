-- Extents that are remembered, one after the other.
use Rattle.std.proofs.Common.{◌≡◌, ◌≢◌, ◌⊎◌, ◌+◌, ◌<◌, ◌==◌, ◌++◌, inl, inr, ℕ, zero, suc, true, false, List, [], ◌∷◌, length, take, refl, sym, ap, subst, arith, ◌∙◌}
use Rattle.std.specs.Prelude.{slice_index_or}
use Rattle.std.proofs.lemmas.Bool.Decides.{nat_tests}
use Rattle.fuse_data.specs.declared.extent.Extent.{Extent}
use Rattle.fuse_data.specs.Space.{IsListed}
use Rattle.fuse_store_tables.specs.declared.pieces.PieceRow.{PieceRow}
use Rattle.fuse_store_tree.specs.declared.piece_cuts.Gone.{Gone}
use Rattle.fuse_store_tree.specs.inner.Relisting.{Remembers, extent_in, row_extents, rows_extents}

either : (xs ys : List Extent) (b : ℕ) → IsListed (xs ++ ys) b → IsListed xs b ⊎ IsListed ys b
either [] ys b at = inr at
either (x ∷ xs) ys b (inl here) = inl (inl here)
either (x ∷ xs) ys b (inr later) = by (either xs ys b later)
  where
    by : IsListed xs b ⊎ IsListed ys b → IsListed (x ∷ xs) b ⊎ IsListed ys b
    by (inl first) = inl (inr first)
    by (inr last) = inr last

first_of : (xs ys : List Extent) (b : ℕ) → IsListed xs b → IsListed (xs ++ ys) b
first_of [] ys b at = absurd at
first_of (x ∷ xs) ys b (inl here) = inl here
first_of (x ∷ xs) ys b (inr later) = inr (first_of xs ys b later)

last_of : (xs ys : List Extent) (b : ℕ) → IsListed ys b → IsListed (xs ++ ys) b
last_of [] ys b at = at
last_of (x ∷ xs) ys b at = inr (last_of xs ys b at)

-- none, one after others, and too many
pub remembers_none : (g : Gone) → Remembers [] g g
remembers_none g = record { from = λ b at. inl at; all = λ none. (none, λ b at. by b at) }
  where
    by : (b : ℕ) → IsListed g.extents.items b ⊎ IsListed [] b → IsListed g.extents.items b
    by b (inl at) = at
    by b (inr never) = absurd never

-- zeros
pub remembers_zeros : (x : PieceRow) (g : Gone) → x.place ≡ 0 → Remembers (row_extents x) g g
remembers_zeros x g is = subst (λ es. Remembers es g g) (sym none) (remembers_none g)
  where
    none : row_extents x ≡ []
    none = rw is refl

pub remembers_more : (es : List Extent) (was is : Gone) → is.extents.items ≡ was.extents.items → is.more ≡ true → Remembers es was is
remembers_more es was is same more = record {
  from = λ b at. inl (subst (λ l. IsListed l b) same at);
  all = λ none. absurd (let e = sym more ∙ none in cc);
}

pub remembers_one : (x : PieceRow) (was is : Gone) → x.place ≢ 0 → is.extents.items ≡ was.extents.items ++ extent_in x ∷ [] → is.more ≡ was.more
    → Remembers (row_extents x) was is
remembers_one x was is placed items more = subst (λ es. Remembers es was is) (sym one) (record {
  from = λ b at. either was.extents.items (extent_in x ∷ []) b (subst (λ l. IsListed l b) items at);
  all = λ none. (sym more ∙ none, λ b at. subst (λ l. IsListed l b) (sym items) (by b at));
})
  where
    apart : (a : ℕ) → a ≢ 0 → (a == 0) ≡ false
    apart a other = grind (arith, nat_tests)

    one : row_extents x ≡ extent_in x ∷ []
    one = rw (apart x.place placed) refl

    by : (b : ℕ) → IsListed was.extents.items b ⊎ IsListed (extent_in x ∷ []) b → IsListed (was.extents.items ++ extent_in x ∷ []) b
    by b (inl at) = first_of was.extents.items (extent_in x ∷ []) b at
    by b (inr at) = last_of was.extents.items (extent_in x ∷ []) b at

pub remembers_then : (es fs : List Extent) (a b d : Gone) → Remembers es a b → Remembers fs b d → Remembers (es ++ fs) a d
remembers_then es fs a b d p q = record {
  from = λ n at. back n (q.from n at);
  all = λ none. let late = q.all none in let early = p.all late.0 in (early.0, on early.1 late.1);
}
  where
    back : (n : ℕ) → IsListed b.extents.items n ⊎ IsListed fs n → IsListed a.extents.items n ⊎ IsListed (es ++ fs) n
    back n (inr last) = inr (last_of es fs n last)
    back n (inl at) = by (p.from n at)
      where
        by : IsListed a.extents.items n ⊎ IsListed es n → IsListed a.extents.items n ⊎ IsListed (es ++ fs) n
        by (inl before) = inl before
        by (inr first) = inr (first_of es fs n first)

    on : ((n : ℕ) → IsListed a.extents.items n ⊎ IsListed es n → IsListed b.extents.items n)
        → ((n : ℕ) → IsListed b.extents.items n ⊎ IsListed fs n → IsListed d.extents.items n)
        → (n : ℕ) → IsListed a.extents.items n ⊎ IsListed (es ++ fs) n → IsListed d.extents.items n
    on first second n (inl before) = second n (inl (first n (inl before)))
    on first second n (inr at) = by (either es fs n at)
      where
        by : IsListed es n ⊎ IsListed fs n → IsListed d.extents.items n
        by (inl new) = second n (inl (first n (inr new)))
        by (inr last) = second n (inr last)

-- those of one row more
rows_more : (xs : List PieceRow) (i : ℕ) (d : PieceRow) → i < length xs
    → rows_extents (take (i + 1) xs) ≡ rows_extents (take i xs) ++ row_extents (slice_index_or xs i d)
rows_more [] i d low = absurd (omega (arith, low))
rows_more (y ∷ ys) zero d low = sym (no_more (row_extents y))
  where
    no_more : (l : List Extent) → l ≡ l ++ []
    no_more [] = refl
    no_more (z ∷ l) = ap (λ m. z ∷ m) (no_more l)
rows_more (y ∷ ys) (suc i) d low =
    let e : suc i + 1 ≡ suc (i + 1) = omega arith in
    ap (λ n. rows_extents (take n (y ∷ ys))) e ∙ ap (λ l. row_extents y ++ l) (rows_more ys i d (omega (arith, low)))
    ∙ sym (grouped (row_extents y) (rows_extents (take i ys)) (row_extents (slice_index_or ys i d)))
  where
    grouped : (a b d : List Extent) → (a ++ b) ++ d ≡ a ++ (b ++ d)
    grouped [] b d = refl
    grouped (z ∷ a) b d = ap (λ m. z ∷ m) (grouped a b d)

pub loop_more : (xs : List PieceRow) (i : ℕ) (d : PieceRow) (a b g : Gone) → i < length xs → Remembers (rows_extents (take i xs)) a b
    → Remembers (row_extents (slice_index_or xs i d)) b g → Remembers (rows_extents (take (i + 1) xs)) a g
loop_more xs i d a b g low first one =
    subst (λ es. Remembers es a g) (sym (rows_more xs i d low)) (remembers_then (rows_extents (take i xs)) (row_extents (slice_index_or xs i d)) a b g first one)
