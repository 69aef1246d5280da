-- Pieces of which some go whole, and the rows that a list of pieces has.
use Rattle.std.proofs.Common.{◌≡◌, ◌≤◌, ◌<◌, ◌^◌, ◌+◌, ◌-◌, ◌==◌, ◌&&◌, inl, inr, ℕ, suc, List, [], ◌∷◌, map, filter, not, nat_lt}
use Rattle.std.proofs.Common.{Bool, true, false, cond, Option, None, refl, sym, ap, subst, arith, ◌∙◌}
use Rattle.std.specs.Prelude.{nat_le}
use Rattle.std.specs.Int.{w64, cast_signed, cast_unsigned}
use Rattle.std.specs.List.{All, AllPairs, AllByRecursion, Contains}
use Rattle.std.proofs.lemmas.Bool.{cases_Bool}
use Rattle.std.proofs.lemmas.Bool.Decides.{nat_tests}
use Rattle.std.proofs.lemmas.Int.{of_z-to_z}
use Rattle.std.proofs.lemmas.List.Elements.{All-nil, All-cons, All-head, All-tail, All-contains_itself, recursion_from_All}
use Rattle.std.proofs.lemmas.List.Kept.{AllPairs-cons, AllPairs-filter}
use Rattle.sqlite.specs.Order.{Row, column}
use Rattle.sqlite.specs.Effect.{Database}
use Rattle.fuse_data.specs.declared.extent.Extent.{Extent}
use Rattle.fuse_data.specs.Extents.{IsWhole as IsWholeExtent, AreDisjoint}
use Rattle.fuse_store_tables.specs.declared.version.Layout.{Layout}
use Rattle.fuse_store_tables.specs.declared.version.Layout.TheVariants.{Second, Third}
use Rattle.fuse_store_tables.specs.Layout as tables
use Rattle.fuse_store_tables.specs.Layout.{schema_for}
use Rattle.fuse_store_tables.specs.Pieces.{Piece, piece_row}
use Rattle.fuse_store_tables.specs.Content.{Content, Holds, HasRows, stored}
use Rattle.fuse_store_tree.specs.Fits.{KeepsPiece}
use Rattle.fuse_store_tree.specs.Lots.{int_in, number_in_row}
use Rattle.fuse_store_tree.specs.Pieces.{is_zeros, extent_of, extents_of, end_of, has_block, OwnApart}
use Rattle.fuse_store_tree.specs.inner.Reading.{IsSound}
use Rattle.fuse_store_tree.specs.inner.Relisting.{piece_block, TakenOut, IsPartOfOne}
use Rattle.fuse_store.proofs.Fitting.{all_filter}

-- ---- extents that are left

pairs_head : {X : Type 0} (R : X → X → Type 0) (x : X) (xs : List X) → AllPairs R (x ∷ xs) → All (R x) xs
pairs_head R x xs h = λ k d low. h 0 (suc k) d (omega arith) (omega (arith, low))

pairs_tail : {X : Type 0} (R : X → X → Type 0) (x : X) (xs : List X) → AllPairs R (x ∷ xs) → AllPairs R xs
pairs_tail R x xs h = λ i j d low high. h (suc i) (suc j) d (omega (arith, low)) (omega (arith, high))

no_pairs : {X : Type 0} (R : X → X → Type 0) → AllPairs R []
no_pairs R = λ i j d low high. absurd (omega (arith, high))

placed : (p : Piece) (ps : List Piece) → is_zeros p ≡ false → extents_of (p ∷ ps) ≡ extent_of p ∷ extents_of ps
placed p ps is = rw is refl

without_place : (p : Piece) (ps : List Piece) → is_zeros p ≡ true → extents_of (p ∷ ps) ≡ extents_of ps
without_place p ps is = rw is refl

-- what holds of all extents holds of the first piece, if it has one, and of the others
head_of : (P : Extent → Type 0) (p : Piece) (ps : List Piece) → is_zeros p ≡ false → All P (extents_of (p ∷ ps)) → P (extent_of p)
head_of P p ps is all = All-head P (extent_of p) (extents_of ps) (subst (All P) (placed p ps is) all)

rest_of : (P : Extent → Type 0) (p : Piece) (ps : List Piece) → All P (extents_of (p ∷ ps)) → All P (extents_of ps)
rest_of P p ps all = elim (cases_Bool (is_zeros p)) [
  | inl zeros ↦ subst (All P) (without_place p ps zeros) all
  | inr bytes ↦ All-tail P (extent_of p) (extents_of ps) (subst (All P) (placed p ps bytes) all)
]

module _ (q : Piece → Bool) where
  abbrev left : List Piece → List Piece
  left ps = filter (λ p. not (q p)) ps

  pub all_left : (P : Extent → Type 0) (ps : List Piece) → All P (extents_of ps) → All P (extents_of (left ps))
  all_left P [] all = All-nil P
  all_left P (p ∷ ps) all = elim (cases_Bool (q p)) [
    | inl gone ↦ rw gone (all_left P ps (rest_of P p ps all))
    | inr stays ↦ rw stays (elim (cases_Bool (is_zeros p)) [
      | inl zeros ↦ subst (All P) (sym (without_place p (left ps) zeros)) (all_left P ps (rest_of P p ps all))
      | inr bytes ↦ subst (All P) (sym (placed p (left ps) bytes)) (All-cons P (extent_of p) (extents_of (left ps)) (head_of P p ps bytes all)
          (all_left P ps (rest_of P p ps all)))
    ])
  ]

  pairs_left : (R : Extent → Extent → Type 0) (ps : List Piece) → AllPairs R (extents_of ps) → AllPairs R (extents_of (left ps))
  pairs_left R [] all = no_pairs R
  pairs_left R (p ∷ ps) all = elim (cases_Bool (is_zeros p)) [
    | inl zeros ↦
        let rest = pairs_left R ps (subst (AllPairs R) (without_place p ps zeros) all) in
        elim (cases_Bool (q p)) [
          | inl gone ↦ rw gone rest
          | inr stays ↦ rw stays (subst (AllPairs R) (sym (without_place p (left ps) zeros)) rest)
        ]
    | inr bytes ↦
        let both = subst (AllPairs R) (placed p ps bytes) all in
        let rest = pairs_left R ps (pairs_tail R (extent_of p) (extents_of ps) both) in
        elim (cases_Bool (q p)) [
          | inl gone ↦ rw gone rest
          | inr stays ↦ rw stays (subst (AllPairs R) (sym (placed p (left ps) bytes)) (AllPairs-cons R (extent_of p) (extents_of (left ps))
              (all_left (R (extent_of p)) ps (pairs_head R (extent_of p) (extents_of ps) both)) rest))
        ]
  ]

  -- ---- blocks that are left

  module _ (file : List ℕ) (is_out : ℕ → ℕ → Bool) where
    -- the piece goes exactly where its blocks are out
    abbrev pub GoesWhole : Piece → Type 0
    GoesWhole p = (n k : ℕ) → has_block n k p ≡ true → is_out n k ≡ q p

    blocks_left : (ps : List Piece) → AllByRecursion GoesWhole ps → (n k : ℕ)
        → piece_block file (left ps) n k ≡ cond (is_out n k) None (piece_block file ps n k)
    blocks_left [] all n k = by (is_out n k)
      where
        by : (b : Bool) → ◌≡◌ {A = Option (List ℕ)} None (cond b None None)
        by true = refl
        by false = refl
    blocks_left (p ∷ ps) all n k = elim (cases_Bool (has_block n k p)) [
      | inl here ↦
          let out = all.0 n k here in
          elim (cases_Bool (q p)) [
            | inl gone ↦ let is = out ∙ gone in rw (gone, is) (rw is at (blocks_left ps all.1 n k))
            | inr stays ↦ rw (stays, out ∙ stays) (rw here refl)
          ]
      | inr other ↦ elim (cases_Bool (q p)) [
        | inl gone ↦ rw (gone, other) (blocks_left ps all.1 n k)
        | inr stays ↦ rw stays (rw other (blocks_left ps all.1 n k))
      ]
    ]

    lasts_left : (ps : List Piece) → AllByRecursion GoesWhole ps → AllByRecursion (λ p. 1 ≤ p.count) ps
        → AllByRecursion (λ p. is_out p.node (end_of p - 1) ≡ false) (left ps)
    lasts_left [] all some = tt
    lasts_left (p ∷ ps) all some = elim (cases_Bool (q p)) [
      | inl gone ↦ rw gone (lasts_left ps all.1 some.1)
      | inr stays ↦ rw stays (all.0 p.node (end_of p - 1) (last p.node p.first p.count some.0) ∙ stays, lasts_left ps all.1 some.1)
    ]
      where
        last : (n a m : ℕ) → 1 ≤ m → ((n == n) && (nat_le a (a + m - 1) && nat_lt (a + m - 1) (a + m))) ≡ true
        last n a m low = grind (arith, nat_tests)

    -- ---- the rows that are left

    parts_left : (ps : List Piece) → AllByRecursion (IsPartOfOne ps) (left ps)
    parts_left ps = all_filter (IsPartOfOne ps) (λ p. not (q p)) ps (each ps (recursion_from_All (Contains ps) ps (All-contains_itself ps)))
      where
        each : (rs : List Piece) → AllByRecursion (Contains ps) rs → AllByRecursion (IsPartOfOne ps) rs
        each [] all = tt
        each (r ∷ rs) all = (record { of = r; there = all.0; node = refl; begins = omega arith; ends = omega arith }, each rs all.1)

    pub taken_left : (c : Content) → AllByRecursion GoesWhole c.pieces → IsSound file c → TakenOut file is_out c (record c { pieces = left c.pieces })
    taken_left c whole (fits, pieces) = record {
      blocks = blocks_left c.pieces whole;
      lasts = lasts_left c.pieces whole pieces.some;
      parts = parts_left c.pieces;
      others = refl;
      sound = (
        record {
          nodes = fits.nodes;
          entries = fits.entries;
          handles = fits.handles;
          blocks = fits.blocks;
          kept = fits.kept;
          pieces = all_filter KeepsPiece (λ p. not (q p)) c.pieces fits.pieces;
          no_pieces = λ is. ap left (fits.no_pieces is);
        },
        record {
          some = all_filter (λ p. 1 ≤ p.count) (λ p. not (q p)) c.pieces pieces.some;
          whole = all_left (IsWholeExtent file) c.pieces pieces.whole;
          apart = pairs_left AreDisjoint c.pieces pieces.apart;
          own = AllPairs-filter OwnApart (λ p. not (q p)) c.pieces pieces.own;
        },
      );
    }

-- ---- their rows

abbrev piece_in : Row → Piece
piece_in r = record {
  slot = number_in_row r 0;
  node = number_in_row r 1;
  first = number_in_row r 2;
  count = number_in_row r 3;
  place = number_in_row r 4;
  sum = cast_unsigned w64 (int_in (column r 5));
}

sum_back : (n : ℕ) → n < 2 ^ 64 → cast_unsigned w64 (cast_signed w64 n) ≡ n
sum_back n low = of_z-to_z w64 n low

rows_back : (ps : List Piece) → AllByRecursion KeepsPiece ps → map piece_in (map piece_row ps) ≡ ps
rows_back [] all = refl
rows_back (p ∷ ps) all =
    ap (λ q. q ∷ map piece_in (map piece_row ps)) (ap (λ s. record p { sum = s }) (sum_back p.sum all.0.sum)) ∙ ap (λ l. p ∷ l) (rows_back ps all.1)

-- rows are those of one list alone
pub same_pieces : (xs ys : List Piece) → AllByRecursion KeepsPiece xs → AllByRecursion KeepsPiece ys → map piece_row xs ≡ map piece_row ys → xs ≡ ys
same_pieces xs ys all each same = sym (rows_back xs all) ∙ ap (map piece_in) same ∙ rows_back ys each

-- the rows of version 3
pub pieces_stored : (c : Content) (d : Database) → Holds c d → c.layout ≡ Third → HasRows (stored c) d.trees tables.pieces
pieces_stored c d at is = by c.layout is at.rows
  where
    by : (layout : Layout) → layout ≡ Third → AllByRecursion (HasRows (stored c) d.trees) (schema_for layout).tables → HasRows (stored c) d.trees tables.pieces
    by Second is rows = absurd cc
    by Third is rows = rows.1.1.1.1.1.1.1.0
