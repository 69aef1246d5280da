-- A piece that was written before the transaction is listed in the place of what was stored there.
use Rattle.std.proofs.Common.{◌≡◌, ◌⊎◌, ◌≤◌, ◌<◌, ◌^◌, ◌+◌, ◌-◌, ◌*◌, ◌==◌, ◌&&◌, ◌++◌, inl, inr, ℕ, zero, suc, List, [], ◌∷◌, filter, find, length, not, nat_lt}
use Rattle.std.proofs.Common.{Bool, true, false, cond, Option, Some, None, Ok, refl, sym, ap, subst, arith, ◌∙◌}
use Rattle.std.specs.Prelude.{nat_le}
use Rattle.std.specs.Ordering.{is_eq, is_ge, is_lt, nat_cmp}
use Rattle.std.specs.List.{All, AllByRecursion, list_any}
use Rattle.std.proofs.lemmas.Bool.{cases_Bool, cases_lt}
use Rattle.std.proofs.lemmas.Bool.Decides.{nat_tests}
use Rattle.fuse_data.specs.declared.extent.Extent.{Extent}
use Rattle.fuse_data.specs.Extents.{past, IsBlockOf, IsWhole, AreDisjoint}
use Rattle.fuse_data.specs.Space.{IsListed}
use Rattle.fuse_data.specs.Leaving.{KeepsInUse}
use Rattle.fuse_store_tables.specs.declared.pieces.PieceRow.{PieceRow}
use Rattle.fuse_store_tables.specs.declared.version.Layout.TheVariants.{Second, Third}
use Rattle.fuse_store_tables.specs.Blocks.{Block, block_at, is_at}
use Rattle.fuse_store_tables.specs.Ranges as tables
use Rattle.fuse_store_tables.specs.Ranges.{without_blocks_between}
use Rattle.fuse_store_tables.specs.Pieces.{Piece, FitsPiece, new_piece}
use Rattle.fuse_store_tables.specs.Content.{Content, HoldsIn, with_piece, node_key, has_by}
use Rattle.fuse_store_tables.specs.Moves.{Makes, Takes}
use Rattle.fuse_store_tables.specs.inner.Following.{earlier, inside_then, stays_then}
use Rattle.sqlite.specs.State.{State}
use Rattle.sqlite.specs.declared.error.Error.{Error}
use Rattle.fuse_store_tree.specs.declared.piece_cuts.Gone.{Gone}
use Rattle.fuse_store_tree.specs.Fits.{Fits, KeepsPiece, IsWhole as IsWholeBlock}
use Rattle.fuse_store_tree.specs.Pieces.{File, is_zeros, extent_of, extents_of, end_of, has_block, piece_at, block_found, block_in_piece, stored_block, OwnApart, ArePieces}
use Rattle.fuse_store_tree.specs.inner.Reading.{IsSound, IsInFile}
use Rattle.fuse_store_tree.specs.inner.Relisting.{is_between, piece_block, extent_in, IsPartOfOne, IsAny, Relists, TakenOff, Listed}
use Rattle.fuse_store_tree.specs.inner.Listing.{CanList, IsBeside, ListsPiece}
use Rattle.fuse_store_tree.proofs.BlockBytes.{others_left}
use Rattle.fuse_store_tree.proofs.Described.{Rises, put_last}
use Rattle.fuse_store_tree.proofs.PieceParts.{piece_added}
use Rattle.fuse_store_tree.proofs.PieceSets.{In, of_in, in_of, all_in, each_in, all_filter, all_push, all_weaker, pairs_push, to_pieces, Apart, AreWell, well_of, pieces_of, HasPlace, listed_in, in_listed}
use Rattle.fuse_store_tree.proofs.PieceSlots.{next_above, pieces_rise, slot_given}
use Rattle.fuse_store_tree.proofs.Outs.{third_in, third_out}

-- ---- tests of a block

has_of : (n b : ℕ) (q : Piece) → q.node ≡ n → q.first ≤ b → b < end_of q → has_block n b q ≡ true
has_of n b q is from to = by q.node n q.first (end_of q) is from to
  where
    by : (a m k l : ℕ) → a ≡ m → k ≤ b → b < l → ((a == m) && (nat_le k b && nat_lt b l)) ≡ true
    by a m k l is from to = grind (arith, nat_tests)

between_of : (node from to n b : ℕ) → n ≡ node → from ≤ b → b < to → is_between node from to n b ≡ true
between_of node from to n b is low high = grind (arith, nat_tests)

-- the range of a piece, as its blocks
range_is : (p : Piece) (n b : ℕ) → has_block n b p ≡ is_between p.node p.first (end_of p) n b
range_is p n b = ap (λ t. t && (nat_le p.first b && nat_lt b (end_of p))) (swap p.node n)
  where
    swap : (a m : ℕ) → (a == m) ≡ (m == a)
    swap a m = grind (arith, nat_tests)

-- a piece of a list that has the block is found
found_there : (n b : ℕ) (qs : List Piece) (q : Piece) → In q qs → has_block n b q ≡ true → piece_at n b qs ≡ None → ⊥
found_there n b [] q at has none = absurd at
found_there n b (r ∷ qs) q (inl is) has none =
    let here : has_block n b r ≡ true = subst (λ z. has_block n b z ≡ true) (sym is) has in
    let some = rw here at none in cc
found_there n b (r ∷ qs) q (inr more) has none = elim (cases_Bool (has_block n b r)) [
  | inl here ↦ let some = rw here at none in cc
  | inr off ↦ found_there n b qs q more has (rw off at none)
]

none_found : (file : List ℕ) (b : ℕ) (o : Option Piece) → block_found file b None o ≡ None → o ≡ None
none_found file b None is = refl
none_found file b (Some p) is = absurd cc

-- a row is in the range as the statement has it
row_between : (node from to : ℕ) (b : Block) → tables.is_between node from to b ≡ is_between node from to b.node b.block
row_between node from to b = by b.node b.block
  where
    by : (m k : ℕ) → (is_eq (nat_cmp m node) && (is_ge (nat_cmp k from) && is_lt (nat_cmp k to))) ≡ ((m == node) && (nat_le from k && nat_lt k to))
    by m k = grind (arith, nat_tests)

same_filter : {X : Type 0} (p q : X → Bool) (xs : List X) → ((x : X) → p x ≡ q x) → filter p xs ≡ filter q xs
same_filter p q [] same = refl
same_filter p q (x ∷ xs) same = ap (λ t. cond t (x ∷ filter p xs) (filter p xs)) (same x) ∙ ap (λ l. cond (q x) (x ∷ l) l) (same_filter p q xs same)

-- rows that are all gone, and a row over a piece
none_from : (q r : Block → Bool) → ((b : Block) → q b ≡ true → r b ≡ true) → (bs : List Block) → find q (filter (λ b. not (r b)) bs) ≡ None
none_from q r under [] = refl
none_from q r under (b ∷ bs) = elim (cases_Bool (q b)) [
  | inl here ↦ rw (under b here) (none_from q r under bs)
  | inr off ↦ by (r b) (none_from q r under bs) off
]
  where
    by : (t : Bool) → find q (filter (λ z. not (r z)) bs) ≡ None → q b ≡ false
        → find q (cond (not t) (b ∷ filter (λ z. not (r z)) bs) (filter (λ z. not (r z)) bs)) ≡ None
    by true e miss = e
    by false e miss = rw miss e

under_row : (file : List ℕ) (j : ℕ) (b : Option Block) (p q : Option Piece) → block_found file j None p ≡ block_found file j None q
    → block_found file j b p ≡ block_found file j b q
under_row file j (Some b) p q same = refl
under_row file j None p q same = same

-- ---- the contents

module _ (f g : List ℕ) (x : PieceRow) (c k : Content) (was is : Gone) (keeps : KeepsInUse [] f g) (beside : IsBeside f (extent_in x)) (whole : IsWhole g (extent_in x))
    (fits : FitsPiece x) (sum : x.sum < 2 ^ 64) (some : 1 ≤ x.count) (end : x.first + x.count < 2 ^ 63) (sound : IsSound f c) (can : CanList x.node c)
    (off : TakenOff g (is_between x.node x.first (x.first + x.count)) was is c k) (fresh : was.extents.items ≡ []) (rises : Rises (λ (p : Piece). p.slot) k.pieces) where
  abbrev to : ℕ
  to = x.first + x.count

  abbrev p : Piece
  p = new_piece x k.pieces

  abbrev made : Content
  made = with_piece x (without_blocks_between x.node x.first to k)

  pieces_are : made.pieces ≡ k.pieces ++ p ∷ []
  pieces_are = put_last (λ (q : Piece). q.slot) p k.pieces (next_above x k.pieces rises)

  old_well : AreWell g k.pieces
  old_well = well_of g k.pieces off.out.sound.1

  -- what is left lies where the pieces lay before
  old_block : (b : ℕ) → IsListed (extents_of k.pieces) b → IsListed (extents_of c.pieces) b
  old_block b at = elim (off.gone.from b (inl at)) [ inl before ↦ before | inr none ↦ absurd (subst (λ es. IsListed es b) fresh none) ]

  common : (b : ℕ) → IsListed (extents_of c.pieces) b → IsBlockOf (extent_in x) b → ⊥
  common b listed here =
      let (q, at, has) = listed_in c.pieces b listed in
      let there = all_in (IsInFile f) c.pieces q (to_pieces (IsWhole f) c.pieces sound.1.whole) at has.bytes in
      elim (beside (extent_of q) there) [
        | inl low ↦ omega (arith, low, here.1, has.at.0)
        | inr high ↦ omega (arith, high, here.0, has.at.1)
      ]

  disjoint : (q : Piece) → In q k.pieces → 1 ≤ q.count → is_zeros q ≡ false → AreDisjoint (extent_of q) (extent_in x)
  disjoint q at many bytes = elim (cases_lt q.place (x.place + x.count)) [
    | inr far ↦ inr far
    | inl near ↦ elim (cases_lt x.place (q.place + q.count)) [
      | inr far ↦ inl far
      | inl both ↦ elim (cases_lt x.place q.place) [
        | inl first ↦ absurd (common q.place (old_block q.place (in_listed k.pieces q.place q at (record { bytes = bytes; at = (omega arith, omega (arith, many)) }))) (omega (arith, first), near))
        | inr last ↦ absurd (common x.place (old_block x.place (in_listed k.pieces x.place q at (record { bytes = bytes; at = (last, both) }))) (omega arith, omega (arith, some)))
      ]
    ]
  ]

  -- no piece that is left has a block of the range
  none_here : (n b : ℕ) → is_between x.node x.first to n b ≡ true → piece_at n b k.pieces ≡ None
  none_here n b inside = none_found g b (piece_at n b k.pieces) (rw inside at (off.out.blocks n b))

  own_apart : (q : Piece) → In q k.pieces → 1 ≤ q.count → OwnApart q p
  own_apart q at many same = elim (cases_lt x.first (end_of q)) [
    | inr before ↦ inl before
    | inl near ↦ elim (cases_lt q.first to) [
      | inr after ↦ inr after
      | inl both ↦ elim (cases_lt x.first q.first) [
        | inl inside ↦ absurd (found_there q.node q.first k.pieces q at (has_of q.node q.first q refl (omega arith) (omega (arith, many)))
            (none_here q.node q.first (between_of x.node x.first to q.node q.first same (omega (arith, inside)) both)))
        | inr over ↦ absurd (found_there q.node x.first k.pieces q at (has_of q.node x.first q refl over near)
            (none_here q.node x.first (between_of x.node x.first to q.node x.first same (omega arith) (omega (arith, some)))))
      ]
    ]
  ]

  well : AreWell g made.pieces
  well = subst (AreWell g) (sym pieces_are) (record {
    some = all_push (λ (q : Piece). 1 ≤ q.count) k.pieces p old_well.some some;
    whole = all_push (IsInFile g) k.pieces p old_well.whole (λ bytes. whole);
    apart = pairs_push Apart k.pieces p old_well.apart (each_in (λ q. Apart q p) k.pieces (λ q at.
        let many = all_in (λ (r : Piece). 1 ≤ r.count) k.pieces q old_well.some at in
        record { own = own_apart q at many; data_apart = λ bytes more. disjoint q at many bytes }));
  })

  made_fits : Fits made
  made_fits =
      let before = off.out.sound.0 in
      record {
        nodes = before.nodes;
        entries = before.entries;
        handles = before.handles;
        blocks = all_filter IsWholeBlock (λ b. not (tables.is_between x.node x.first to b)) k.blocks before.blocks;
        kept = before.kept;
        pieces = subst (AllByRecursion KeepsPiece) (sym pieces_are) (all_push KeepsPiece k.pieces p before.pieces (record {
          slot = slot_given x k.pieces;
          node = fits.node;
          first = fits.first;
          count = fits.count;
          end = end;
          place = fits.place;
          sum = sum;
        }));
        no_pieces = λ second. absurd (let e = sym second ∙ ap (λ (z : Content). z.layout) off.out.others ∙ can.third in cc);
      }

  -- ---- blocks

  -- the rows of the range are gone, and the others stay
  abbrev rows : List Block
  rows = filter (λ b. not (tables.is_between x.node x.first to b)) k.blocks

  at_inside : (n j : ℕ) (b : Block) → is_between x.node x.first to n j ≡ true → is_at n j b ≡ true → tables.is_between x.node x.first to b ≡ true
  at_inside n j b inside at = row_between x.node x.first to b ∙ by b.node b.block inside at
    where
      by : (m l : ℕ) → is_between x.node x.first to n j ≡ true → (is_eq (nat_cmp m n) && is_eq (nat_cmp l j)) ≡ true → is_between x.node x.first to m l ≡ true
      by m l inside at = grind (arith, nat_tests)

  at_outside : (n j : ℕ) (b : Block) → is_between x.node x.first to n j ≡ false → is_at n j b ≡ true → tables.is_between x.node x.first to b ≡ false
  at_outside n j b outside at = row_between x.node x.first to b ∙ by b.node b.block outside at
    where
      by : (m l : ℕ) → is_between x.node x.first to n j ≡ false → (is_eq (nat_cmp m n) && is_eq (nat_cmp l j)) ≡ true → is_between x.node x.first to m l ≡ false
      by m l outside at = grind (arith, nat_tests)

  rows_before : k.blocks ≡ c.blocks
  rows_before = ap (λ (z : Content). z.blocks) off.out.others

  added : (n j : ℕ) → piece_block g made.pieces n j ≡ cond (is_between x.node x.first to n j) (Some (block_in_piece g j p)) (piece_block g k.pieces n j)
  added n j =
      ap (λ ps. piece_block g ps n j) pieces_are
      ∙ piece_added g k.pieces p n j (λ has. none_here n j (sym (range_is p n j) ∙ has))
      ∙ ap (λ t. cond t (Some (block_in_piece g j p)) (piece_block g k.pieces n j)) (range_is p n j)

  stored : (n j : ℕ) → stored_block g made n j ≡ cond (is_between x.node x.first to n j) (Some (block_in_piece g j p)) (stored_block g c n j)
  stored n j = elim (cases_Bool (is_between x.node x.first to n j)) [
    | inl inside ↦
        rw inside (ap (λ o. block_found g j o (piece_at n j made.pieces))
        (none_from (is_at n j) (tables.is_between x.node x.first to) (λ b at. at_inside n j b inside at) k.blocks)
        ∙ rw inside at (added n j))
    | inr outside ↦
        rw outside (ap (λ o. block_found g j o (piece_at n j made.pieces))
        (others_left (is_at n j) (tables.is_between x.node x.first to) (λ b at. at_outside n j b outside at) k.blocks)
        ∙ ap (λ bs. block_found g j (block_at n j bs) (piece_at n j made.pieces)) rows_before
        ∙ under_row g j (block_at n j c.blocks) (piece_at n j made.pieces) (piece_at n j c.pieces) (rw outside at (added n j) ∙ rw outside at (off.out.blocks n j)))
  ]

  -- the piece stands in the place of what was stored there
  pub listed_so : Listed g p c made
  listed_so = record {
    blocks = stored;
    rows = same_filter (λ b. not (tables.is_between x.node x.first to b)) (λ b. not (is_between x.node x.first to b.node b.block)) k.blocks
        (λ b. ap not (row_between x.node x.first to b))
        ∙ ap (filter (λ b. not (is_between x.node x.first to b.node b.block))) rows_before;
    parts = subst (AllByRecursion (IsPartOfOne (p ∷ c.pieces))) (sym pieces_are)
        (all_push (IsPartOfOne (p ∷ c.pieces)) k.pieces p (all_weaker (IsPartOfOne c.pieces) (IsPartOfOne (p ∷ c.pieces)) more k.pieces off.out.parts)
        (record { of = p; there = (0, omega arith, refl); node = refl; begins = omega arith; ends = omega arith }));
    there = can.there;
    others = ap (λ (z : Content). record z { blocks = []; pieces = [] }) off.out.others;
    sound = (made_fits, pieces_of g made.pieces well);
  }
    where
      more : (q : Piece) → IsPartOfOne c.pieces q → IsPartOfOne (p ∷ c.pieces) q
      more q part = record { of = part.of; there = of_in (p ∷ c.pieces) part.of (inr (in_of c.pieces part.of part.there)); node = part.node; begins = part.begins; ends = part.ends }

-- ---- the step

wider_all : (f g : List ℕ) → KeepsInUse [] f g → (es : List Extent) → All (IsWhole f) es → All (IsWhole g) es
wider_all f g keeps es all j d low = (keeps.extents _ (λ b block free. free) (all j d low)).whole

pub sound_wider : (f g : List ℕ) → KeepsInUse [] f g → (c : Content) → IsSound f c → IsSound g c
sound_wider f g keeps c sound = (
  sound.0,
  record {
    some = sound.1.some;
    whole = wider_all f g keeps (extents_of c.pieces) sound.1.whole;
    apart = sound.1.apart;
    own = sound.1.own;
  },
)

-- blocks are taken out of pieces, rows go, and the piece comes
pub piece_put : {X Y : Type 0} (g : File) (f : List ℕ) (x : PieceRow) (was is : Gone) (a b d e : State) (r : X) (s : Y) → was.extents.items ≡ []
    → KeepsInUse [] f g.bytes → IsWhole g.bytes (extent_in x) → FitsPiece x → x.sum < 2 ^ 64 → 1 ≤ x.count → x.first + x.count < 2 ^ 63
    → Relists g.is_clean g.bytes IsAny (TakenOff g.bytes (is_between x.node x.first (x.first + x.count)) was is) a b
    → Makes {E = Error} (without_blocks_between x.node x.first (x.first + x.count)) b d (Ok r)
    → Takes {E = Error} (HoldsIn Third) (λ c. HoldsIn Third (with_piece x c)) d e (Ok s) → ListsPiece g f x a e
piece_put g f x was is a b d e r s fresh keeps whole fits sum some end p q t = record {
  stays = stays_then a d e (stays_then a b d p.stays p.within q.stays) (inside_then a b d p.within q.stays.survives q.within) t.stays;
  within = inside_then a d e (inside_then a b d p.within q.stays.survives q.within) t.stays.survives t.within;
  turns = λ read clean beside c sound can at.
      let last = earlier d e _ t.stays.survives clean in
      let mid = earlier b d _ q.stays.survives last in
      let (k, inside, off) = p.turns read mid c (sound_wider f g.bytes keeps c sound) tt at in
      let third : k.layout ≡ Third = ap (λ (z : Content). z.layout) off.out.others ∙ can.third in
      let gone = q.turns last k inside in
      let now = t.turns clean (without_blocks_between x.node x.first (x.first + x.count) k) (third_in (without_blocks_between x.node x.first (x.first + x.count) k) d third gone) in (
        with_piece x (without_blocks_between x.node x.first (x.first + x.count) k),
        third_out (with_piece x (without_blocks_between x.node x.first (x.first + x.count) k)) e now,
        (
          (new_piece x k.pieces).slot,
          listed_so f g.bytes x c k was is keeps beside whole fits sum some end sound can off fresh (pieces_rise k b.now inside.holds third),
        ),
      );
}
