-- Pieces whose rows are deleted.
use Rattle.std.proofs.Common.{◌≡◌, ◌≤◌, ◌+◌, ◌-◌, ◌==◌, ◌&&◌, inl, inr, ℕ, suc, List, [], ◌∷◌, filter, not, nat_lt}
use Rattle.std.proofs.Common.{Bool, true, false, cond, Option, None, refl, sym, ap, subst, arith, ◌∙◌}
use Rattle.std.specs.Prelude.{nat_le}
use Rattle.std.specs.Ordering.{is_eq, nat_cmp}
use Rattle.std.specs.List.{All, AllPairs, AllByRecursion, Contains}
use Rattle.std.proofs.lemmas.Bool.{cases_Bool}
use Rattle.std.proofs.lemmas.Bool.Decides.{nat_tests}
use Rattle.std.proofs.lemmas.List.Elements.{All-nil, All-cons, All-contains_itself, recursion_from_All}
use Rattle.std.proofs.lemmas.List.Kept.{AllPairs-cons, AllPairs-filter}
use Rattle.fuse_data.specs.declared.extent.Extent.{Extent}
use Rattle.fuse_data.specs.Extents.{IsWhole as IsWholeExtent, AreDisjoint}
use Rattle.fuse_store_tables.specs.Pieces.{Piece}
use Rattle.fuse_store_tables.specs.Content.{Content, is_piece_of}
use Rattle.fuse_store_tree.specs.Fits.{KeepsPiece}
use Rattle.fuse_store_tree.specs.Pieces.{is_zeros, extent_of, extents_of, end_of, has_block, OwnApart}
use Rattle.fuse_store_tree.specs.inner.Reading.{IsSound}
use Rattle.fuse_store_tree.specs.inner.Relisting.{is_from_on, piece_block, TakenOut, IsPartOfOne}
use Rattle.fuse_store_tree.proofs.Orders.{all_filter}
use Rattle.fuse_store_tree.proofs.StoredBytes.{head_of, rest_of}

-- ---- extents that are left

pairs_head : {X : Type 0} (R : X → X → Type 0) (x : X) (xs : List X) → AllPairs R (x ∷ xs) → All (R x) xs
pairs_head R x xs h = λ k d low. h 0 (suc k) d (omega arith) (omega (arith, low))

pairs_tail : {X : Type 0} (R : X → X → Type 0) (x : X) (xs : List X) → AllPairs R (x ∷ xs) → AllPairs R xs
pairs_tail R x xs h = λ i j d low high. h (suc i) (suc j) d (omega (arith, low)) (omega (arith, high))

no_pairs : {X : Type 0} (R : X → X → Type 0) → AllPairs R []
no_pairs R = λ i j d low high. absurd (omega (arith, high))

placed : (p : Piece) (ps : List Piece) → is_zeros p ≡ false → extents_of (p ∷ ps) ≡ extent_of p ∷ extents_of ps
placed p ps is = rw is refl

without_place : (p : Piece) (ps : List Piece) → is_zeros p ≡ true → extents_of (p ∷ ps) ≡ extents_of ps
without_place p ps is = rw is refl

module _ (q : Piece → Bool) where
  abbrev left : List Piece → List Piece
  left ps = filter (λ p. not (q p)) ps

  pub all_left : (P : Extent → Type 0) (ps : List Piece) → All P (extents_of ps) → All P (extents_of (left ps))
  all_left P [] all = All-nil P
  all_left P (p ∷ ps) all = elim (cases_Bool (q p)) [
    | inl gone ↦ rw gone (all_left P ps (rest_of P p ps all))
    | inr stays ↦ rw stays (elim (cases_Bool (is_zeros p)) [
      | inl zeros ↦ subst (All P) (sym (without_place p (left ps) zeros)) (all_left P ps (rest_of P p ps all))
      | inr bytes ↦ subst (All P) (sym (placed p (left ps) bytes)) (All-cons P (extent_of p) (extents_of (left ps)) (head_of P p ps bytes all)
          (all_left P ps (rest_of P p ps all)))
    ])
  ]

  pairs_left : (R : Extent → Extent → Type 0) (ps : List Piece) → AllPairs R (extents_of ps) → AllPairs R (extents_of (left ps))
  pairs_left R [] all = no_pairs R
  pairs_left R (p ∷ ps) all = elim (cases_Bool (is_zeros p)) [
    | inl zeros ↦
        let rest = pairs_left R ps (subst (AllPairs R) (without_place p ps zeros) all) in
        elim (cases_Bool (q p)) [
          | inl gone ↦ rw gone rest
          | inr stays ↦ rw stays (subst (AllPairs R) (sym (without_place p (left ps) zeros)) rest)
        ]
    | inr bytes ↦
        let both = subst (AllPairs R) (placed p ps bytes) all in
        let rest = pairs_left R ps (pairs_tail R (extent_of p) (extents_of ps) both) in
        elim (cases_Bool (q p)) [
          | inl gone ↦ rw gone rest
          | inr stays ↦ rw stays (subst (AllPairs R) (sym (placed p (left ps) bytes)) (AllPairs-cons R (extent_of p) (extents_of (left ps))
              (all_left (R (extent_of p)) ps (pairs_head R (extent_of p) (extents_of ps) both)) rest))
        ]
  ]

  -- ---- blocks that are left

  module _ (file : List ℕ) (is_out : ℕ → ℕ → Bool) where
    -- the piece goes exactly where its blocks are out
    abbrev pub GoesWhole : Piece → Type 0
    GoesWhole p = (n k : ℕ) → has_block n k p ≡ true → is_out n k ≡ q p

    blocks_left : (ps : List Piece) → AllByRecursion GoesWhole ps → (n k : ℕ)
        → piece_block file (left ps) n k ≡ cond (is_out n k) None (piece_block file ps n k)
    blocks_left [] all n k = by (is_out n k)
      where
        by : (b : Bool) → ◌≡◌ {A = Option (List ℕ)} None (cond b None None)
        by true = refl
        by false = refl
    blocks_left (p ∷ ps) all n k = elim (cases_Bool (has_block n k p)) [
      | inl here ↦
          let out = all.0 n k here in
          elim (cases_Bool (q p)) [
            | inl gone ↦ let is = out ∙ gone in rw (gone, is) (rw is at (blocks_left ps all.1 n k))
            | inr stays ↦ rw (stays, out ∙ stays) (rw here refl)
          ]
      | inr other ↦ elim (cases_Bool (q p)) [
        | inl gone ↦ rw (gone, other) (blocks_left ps all.1 n k)
        | inr stays ↦ rw stays (rw other (blocks_left ps all.1 n k))
      ]
    ]

    lasts_left : (ps : List Piece) → AllByRecursion GoesWhole ps → AllByRecursion (λ p. 1 ≤ p.count) ps
        → AllByRecursion (λ p. is_out p.node (end_of p - 1) ≡ false) (left ps)
    lasts_left [] all some = tt
    lasts_left (p ∷ ps) all some = elim (cases_Bool (q p)) [
      | inl gone ↦ rw gone (lasts_left ps all.1 some.1)
      | inr stays ↦ rw stays (all.0 p.node (end_of p - 1) (last p.node p.first p.count some.0) ∙ stays, lasts_left ps all.1 some.1)
    ]
      where
        last : (n a m : ℕ) → 1 ≤ m → ((n == n) && (nat_le a (a + m - 1) && nat_lt (a + m - 1) (a + m))) ≡ true
        last n a m low = grind (arith, nat_tests)

    -- ---- the rows that are left

    parts_left : (ps : List Piece) → AllByRecursion (IsPartOfOne ps) (left ps)
    parts_left ps = all_filter (λ (p : Piece). p.slot) (IsPartOfOne ps) (λ p. not (q p)) ps (each ps (recursion_from_All (Contains ps) ps (All-contains_itself ps)))
      where
        each : (rs : List Piece) → AllByRecursion (Contains ps) rs → AllByRecursion (IsPartOfOne ps) rs
        each [] all = tt
        each (r ∷ rs) all = (record { of = r; there = all.0; node = refl; begins = omega arith; ends = omega arith }, each rs all.1)

    pub taken_left : (c : Content) → AllByRecursion GoesWhole c.pieces → IsSound file c → TakenOut file is_out c (record c { pieces = left c.pieces })
    taken_left c whole (fits, pieces) = record {
      blocks = blocks_left c.pieces whole;
      lasts = lasts_left c.pieces whole pieces.some;
      parts = parts_left c.pieces;
      others = refl;
      sound = (
        record {
          nodes = fits.nodes;
          entries = fits.entries;
          handles = fits.handles;
          blocks = fits.blocks;
          kept = fits.kept;
          pieces = all_filter (λ (p : Piece). p.slot) KeepsPiece (λ p. not (q p)) c.pieces fits.pieces;
          no_pieces = λ is. ap left (fits.no_pieces is);
        },
        record {
          some = all_filter (λ (p : Piece). p.slot) (λ p. 1 ≤ p.count) (λ p. not (q p)) c.pieces pieces.some;
          whole = all_left (IsWholeExtent file) c.pieces pieces.whole;
          apart = pairs_left AreDisjoint c.pieces pieces.apart;
          own = AllPairs-filter OwnApart (λ p. not (q p)) c.pieces pieces.own;
        },
      );
    }

-- ---- all pieces of a node

node_whole : (node : ℕ) (ps : List Piece) → AllByRecursion (λ p. (n k : ℕ) → has_block n k p ≡ true → is_from_on node 0 n k ≡ is_piece_of node p) ps
node_whole node [] = tt
node_whole node (p ∷ ps) = (λ n k here. one p.node n k (nat_le p.first k && nat_lt k (end_of p)) here, node_whole node ps)
  where
    one : (a n k : ℕ) (t : Bool) → ((a == n) && t) ≡ true → ((n == node) && not (nat_lt k 0)) ≡ is_eq (nat_cmp a node)
    one a n k t here = grind (arith, nat_tests)

-- they go with it
pub node_taken : (file : List ℕ) (node : ℕ) (c : Content) → IsSound file c
    → TakenOut file (is_from_on node 0) c (record c { pieces = filter (λ p. not (is_piece_of node p)) c.pieces })
node_taken file node c sound = taken_left (is_piece_of node) file (is_from_on node 0) c (node_whole node c.pieces) sound
