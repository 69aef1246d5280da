-- A permutation of what a function makes of the rows of a list.
use Rattle.std.proofs.Common.{◌≡◌, ℕ, ◌<◌, List, [], ◌∷◌, map, length, set, slice_index_or, refl, sym, ap, arith, ◌∙◌, IsPermutation}
use Rattle.std.specs.List.{swap}
use Rattle.std.proofs.lemmas.List.{length-map, get_or-map, map-set}
use Rattle.std.proofs.lemmas.List.Edits.{swap_is}
use Rattle.std.proofs.lemmas.List.Sorted.{IsPermutation-trans, IsPermutation-keeps, IsPermutation-refl, IsPermutation-swap}

swapped : {X Y : Type 0} (f : X → Y) (xs : List X) (i j : ℕ) (d : X) → i < length xs → j < length xs
    → map f (swap xs i j) ≡ swap (map f xs) i j
swapped f xs i j d a b =
    let long : length (map f xs) ≡ length xs = length-map xs f in
    rw (
      sym (swap_is xs i j d a b),
      map-set f (set xs i (slice_index_or xs j d)) j (slice_index_or xs i d),
      map-set f xs i (slice_index_or xs j d),
      sym (swap_is (map f xs) i j (f d) (rw long a) (rw long b)),
      get_or-map f xs j d (f d) b,
      get_or-map f xs i d (f d) a,
    ) refl

abbrev From : {X Y : Type 0} → (X → Y) → List X → List Y → Type 0
From {X} f zs ys = (ws : List X) × (map f ws ≡ ys) × IsPermutation zs ws

once_more : {X Y : Type 0} (f : X → Y) (zs ws : List X) (l : List Y) (i j : ℕ) → i < length l → j < length l → map f ws ≡ l
    → IsPermutation zs ws → From f zs (swap l i j)
once_more f zs [] l i j a b is same = absurd (omega (arith, a, ap length (sym is)))
once_more f zs (w ∷ ws) l i j a b is same =
    let long : length (w ∷ ws) ≡ length l = sym (length-map (w ∷ ws) f) ∙ ap length is in
    let low : i < length (w ∷ ws) = omega (arith, a, long) in
    let high : j < length (w ∷ ws) = omega (arith, b, long) in (
      swap (w ∷ ws) i j,
      swapped f (w ∷ ws) i j w low high ∙ ap (λ v. swap v i j) is,
      IsPermutation-trans _ _ _ same (IsPermutation-swap _ _ i j low high refl),
    )

-- it is made of a permutation of the list
pub lifted : {X Y : Type 0} (f : X → Y) (zs : List X) (ys : List Y) → IsPermutation (map f zs) ys → From f zs ys
lifted f zs ys same =
    IsPermutation-keeps (map f zs) (From f zs) (zs, refl, IsPermutation-refl zs)
    (λ l i j a b h. once_more f zs h.0 l i j a b h.1 h.2) ys same
