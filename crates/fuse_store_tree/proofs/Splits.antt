-- A piece that becomes two.
use Rattle.std.proofs.Common.{◌≡◌, ◌≢◌, ◌≤◌, ◌<◌, ◌⊎◌, ◌+◌, ◌-◌, ◌*◌, ◌^◌, ◌==◌, ◌&&◌, ◌++◌, inl, inr, ℕ, List, [], ◌∷◌, filter, length, not, nat_lt, take, drop}
use Rattle.std.proofs.Common.{Bool, true, false, cond, Some, None, refl, sym, ap, subst, arith, ◌∙◌}
use Rattle.std.specs.Ordering.{is_eq, is_ge, is_lt, nat_cmp}
use Rattle.std.specs.List.{AllByRecursion}
use Rattle.std.proofs.lemmas.Bool.{cases_Bool}
use Rattle.std.proofs.lemmas.Bool.Decides.{nat_tests}
use Rattle.std.proofs.lemmas.List.{take_all}
use Rattle.fuse_data.specs.Extents.{IsPlaced, AreDisjoint, bytes_of, sum_of}
use Rattle.fuse_data.specs.Laws.{PartsHold}
use Rattle.fuse_data.specs.Space.{IsListed}
use Rattle.fuse_rows.specs.Bounds.{block_bytes}
use Rattle.fuse_store_tables.specs.declared.pieces.PieceRow.{PieceRow}
use Rattle.fuse_store_tables.specs.declared.version.Layout.TheVariants.{Third}
use Rattle.fuse_store_tables.specs.Pieces.{Piece, new_piece, begins_between}
use Rattle.fuse_store_tables.specs.Ranges.{row_of}
use Rattle.fuse_store_tables.specs.Content.{Content, with_piece}
use Rattle.fuse_store_tree.specs.Fits.{KeepsPiece}
use Rattle.fuse_store_tree.specs.Pieces.{is_zeros, extent_of, extents_of, end_of, has_block, block_found, block_in_piece, OwnApart}
use Rattle.fuse_store_tree.specs.inner.Reading.{IsSound, IsInFile}
use Rattle.fuse_store_tree.specs.inner.Relisting.{no_block, piece_block, IsPartOfOne, TakenOut, IsCutAt, Split, HasSums, extent_in, part_in, with_parts}
use Rattle.fuse_store_tree.proofs.Described.{Rises, put_last}
use Rattle.fuse_store_tree.proofs.PieceParts.{IsRunOf, run_same, piece_added}
use Rattle.fuse_store_tree.proofs.PiecesOut.{taken_left}
use Rattle.fuse_store_tree.proofs.Ranges.{drop_length}
use Rattle.fuse_store_tree.proofs.PieceSlots.{next_above, slot_given}
use Rattle.fuse_store_tree.proofs.PieceSets.{In, in_filter, of_filter, in_first, in_last, in_either, of_in, all_in, each_in, all_weaker, all_filter, pairs_filter, all_push, pairs_push, Apart, apart_swap, AreWell, well_of, pieces_of, apart_others, HasPlace, listed_in, in_listed, has_of, of_has, one_has, none_at, found_at}

-- some blocks of a piece as one of its own, in the same file
pub record IsRunIn (p q : Piece) : Type 0 where
  pub node : q.node ≡ p.node
  pub some : 1 ≤ q.count
  pub run : IsRunOf p q

pub run_apart : (r p q : Piece) → IsRunIn p q → Apart r p → Apart r q
run_apart r p q in_p apart =
    let node = in_p.node in
    let from = in_p.run.from in
    let to = in_p.run.to in
    record {
      own = λ same. own node from to (apart.own (same ∙ node));
      data_apart = λ first second. beside from to (in_p.run.place (sym in_p.run.kind ∙ second)) (apart.data_apart first (sym in_p.run.kind ∙ second));
    }
  where
    own : q.node ≡ p.node → p.first ≤ q.first → end_of q ≤ end_of p → (end_of r ≤ p.first) ⊎ (end_of p ≤ r.first) → (end_of r ≤ q.first) ⊎ (end_of q ≤ r.first)
    own node from to (inl low) = inl (omega (arith, low, from))
    own node from to (inr low) = inr (omega (arith, low, to))

    beside : p.first ≤ q.first → end_of q ≤ end_of p → q.place ≡ p.place + (q.first - p.first) → AreDisjoint (extent_of r) (extent_of p)
        → AreDisjoint (extent_of r) (extent_of q)
    beside from to place (inl low) = inl (omega (arith, low, from, to, place))
    beside from to place (inr low) = inr (omega (arith, low, from, to, place))

-- it has its digest
pub run_whole : PartsHold → (file : List ℕ) (p q : Piece) → IsRunIn p q → (is_zeros q ≡ false → sum_of (bytes_of file (extent_of q)) ≡ q.sum) → IsInFile file p → IsInFile file q
run_whole laws file p q in_p sum whole bytes =
    let from = in_p.run.from in
    let to = in_p.run.to in
    let some = in_p.some in
    let here = sym in_p.run.kind ∙ bytes in
    let place = in_p.run.place here in
    laws.whole file (extent_of p) (extent_of q) (record { begins = omega (arith, place); some = some; ends = omega (arith, place, from, to) }) (whole here) (sum bytes)

pub zero_test : (a : ℕ) → a ≢ 0 → (a == 0) ≡ false
zero_test a other = grind (arith, nat_tests)

-- zeros have none
pub sums_zeros : (file : List ℕ) (x : PieceRow) (block : ℕ) → x.place ≡ 0 → HasSums file x block 0 0
sums_zeros file x block is = record { before = λ bytes. never (rw is at bytes); from_on = λ bytes. never (rw is at bytes) }
  where
    never : {A : Type 0} → true ≡ false → A
    never e = absurd cc

-- the digests of its bytes before a block and from there on
pub sums_are : PartsHold → (file : List ℕ) (x : PieceRow) (block front back : ℕ) (bytes : List ℕ) → x.first < block → block < x.first + x.count
    → bytes ≡ bytes_of file (extent_in x) → length bytes ≡ x.count * block_bytes → front ≡ sum_of (take ((block - x.first) * block_bytes) bytes)
    → back ≡ sum_of (drop ((block - x.first) * block_bytes) bytes) → HasSums file x block front back
sums_are laws file x block front back bytes begins ends are long first last = record {
  before = λ is. first ∙ ap sum_of (sym (first_bytes is));
  from_on = λ is. last ∙ ap sum_of (sym (last_bytes is));
}
  where
    place_of : (from : ℕ) → (x.place == 0) ≡ false → cond (x.place == 0) 0 (x.place + (from - x.first)) ≡ x.place + (from - x.first)
    place_of from is = rw is refl

    first_bytes : (x.place == 0) ≡ false → bytes_of file (extent_in (part_in x x.first block 0)) ≡ take ((block - x.first) * block_bytes) bytes
    first_bytes is =
        let at = place_of x.first is in
        let none : cond (x.place == 0) 0 (x.place + (x.first - x.first)) - x.place ≡ 0 = omega (arith, at) in
        laws.bytes file (extent_in x) (extent_in (part_in x x.first block 0))
        (record { begins = omega (arith, at); some = omega (arith, begins); ends = omega (arith, at, begins, ends) })
        ∙ ap (λ n. take ((block - x.first) * block_bytes) (drop (n * block_bytes) (bytes_of file (extent_in x)))) none
        ∙ ap (take ((block - x.first) * block_bytes)) (sym are)

    last_bytes : (x.place == 0) ≡ false → bytes_of file (extent_in (part_in x block (x.first + x.count) 0)) ≡ drop ((block - x.first) * block_bytes) bytes
    last_bytes is =
        let at = place_of block is in
        let far : cond (x.place == 0) 0 (x.place + (block - x.first)) - x.place ≡ block - x.first = omega (arith, at) in
        laws.bytes file (extent_in x) (extent_in (part_in x block (x.first + x.count) 0))
        (record { begins = omega (arith, at); some = omega (arith, ends); ends = omega (arith, at, begins, ends) })
        ∙ ap (λ n. take ((x.first + x.count - block) * block_bytes) (drop (n * block_bytes) (bytes_of file (extent_in x)))) far
        ∙ ap (λ l. take ((x.first + x.count - block) * block_bytes) (drop ((block - x.first) * block_bytes) l)) (sym are)
        ∙ take_all ((x.first + x.count - block) * block_bytes) (drop ((block - x.first) * block_bytes) bytes)
        (omega (arith, drop_length ((block - x.first) * block_bytes) bytes, long, begins, ends))

-- ---- the piece goes

module _ (p : Piece) where
  abbrev gone : Piece → Bool
  gone = begins_between p.node p.first (p.first + 1)

  abbrev left : List Piece → List Piece
  left ps = filter (λ r. not (gone r)) ps

  itself_goes : gone p ≡ true
  itself_goes = test p.node p.first
    where
      test : (a b : ℕ) → (is_eq (nat_cmp a a) && (is_ge (nat_cmp b b) && is_lt (nat_cmp b (b + 1)))) ≡ true
      test a b = grind (arith, nat_tests)

  other_stays : (r : Piece) → 1 ≤ r.count → 1 ≤ p.count → OwnApart r p → gone r ≡ false
  other_stays r some many apart = elim (cases_Bool (gone r)) [
    | inr stays ↦ stays
    | inl goes ↦ absurd (by (apart (same r.node p.node (is_ge (nat_cmp r.first p.first) && is_lt (nat_cmp r.first (p.first + 1))) goes))
        (begins (is_eq (nat_cmp r.node p.node)) r.first p.first goes))
  ]
    where
      same : (a b : ℕ) (t : Bool) → (is_eq (nat_cmp a b) && t) ≡ true → a ≡ b
      same a b t is = grind (arith, nat_tests)

      begins : (t : Bool) (a b : ℕ) → (t && (is_ge (nat_cmp a b) && is_lt (nat_cmp a (b + 1)))) ≡ true → a ≡ b
      begins t a b is = grind (arith, nat_tests)

      by : (end_of r ≤ p.first) ⊎ (end_of p ≤ r.first) → r.first ≡ p.first → ⊥
      by (inl low) is = absurd (omega (arith, low, is, some))
      by (inr low) is = absurd (omega (arith, low, is, many))

  left_apart : (ps : List Piece) → AllByRecursion (λ r. (r ≡ p) ⊎ Apart r p) ps → AllByRecursion (λ r. Apart r p) (left ps)
  left_apart ps all = each_in (λ r. Apart r p) (left ps) (λ r at.
      let both = of_filter (λ r. not (gone r)) ps r at in one r both.1 (all_in (λ r. (r ≡ p) ⊎ Apart r p) ps r all both.0))
    where
      one : (r : Piece) → not (gone r) ≡ true → (r ≡ p) ⊎ Apart r p → Apart r p
      one r stays (inl is) = absurd (let e = subst (λ z. not (gone z) ≡ true) is stays in let f : not (gone p) ≡ false = ap not itself_goes in let g = sym e ∙ f in cc)
      one r stays (inr apart) = apart

  -- it goes whole, and no other does
  goes_whole : (ps : List Piece) → AllByRecursion (λ r. 1 ≤ r.count) ps → 1 ≤ p.count → AllByRecursion (λ r. (r ≡ p) ⊎ Apart r p) ps
      → AllByRecursion (λ r. (n k : ℕ) → has_block n k r ≡ true → has_block n k p ≡ gone r) ps
  goes_whole [] some many all = tt
  goes_whole (r ∷ ps) some many all = (one r some.0 all.0, goes_whole ps some.1 many all.1)
    where
      one : (r : Piece) → 1 ≤ r.count → (r ≡ p) ⊎ Apart r p → (n k : ℕ) → has_block n k r ≡ true → has_block n k p ≡ gone r
      one r count (inl is) n k has = subst (λ z. has_block n k z ≡ true) is has ∙ sym (subst (λ z. gone z ≡ true) (sym is) itself_goes)
      one r count (inr apart) n k has = one_has n k p r (apart_swap r p apart).own has ∙ sym (other_stays r count many apart.own)

-- ---- its parts come

-- the part with this slot
abbrev pub run_at : Piece → PieceRow → Piece
run_at s x = record s { node = x.node; first = x.first; count = x.count; place = x.place; sum = x.sum }

module _ (laws : PartsHold) (file : List ℕ) (c : Content) (sound : IsSound file c) (third : c.layout ≡ Third) (rises : Rises (λ (p : Piece). p.slot) c.pieces) (p : Piece)
    (at : In p c.pieces) (block front back : ℕ) (begins : p.first < block) (ends : block < end_of p) (sums : HasSums file (row_of p) block front back) where
  abbrev first_row : PieceRow
  first_row = part_in (row_of p) p.first block front

  abbrev last_row : PieceRow
  last_row = part_in (row_of p) block (p.first + p.count) back

  abbrev mid : List Piece
  mid = left p c.pieces

  abbrev f : Piece
  f = new_piece first_row mid

  abbrev more : List Piece
  more = mid ++ f ∷ []

  abbrev b : Piece
  b = new_piece last_row more

  abbrev made : List Piece
  made = more ++ b ∷ []

  well : AreWell file c.pieces
  well = well_of file c.pieces sound.1

  all_apart : AllByRecursion (λ r. (r ≡ p) ⊎ Apart r p) c.pieces
  all_apart = apart_others file c.pieces p well at

  many : 1 ≤ p.count
  many = all_in (λ r. 1 ≤ r.count) c.pieces p well.some at

  mid_apart : AllByRecursion (λ r. Apart r p) mid
  mid_apart = left_apart p c.pieces all_apart

  -- the place of a part, by whether the piece has one
  placed : (from : ℕ) → is_zeros p ≡ false → cond (p.place == 0) 0 (p.place + (from - p.first)) ≡ p.place + (from - p.first)
  placed from bytes = rw bytes refl

  same_kind : (from : ℕ) → (cond (p.place == 0) 0 (p.place + (from - p.first)) == 0) ≡ (p.place == 0)
  same_kind from = elim (cases_Bool (p.place == 0)) [
    | inl zeros ↦ rw zeros refl
    | inr bytes ↦ rw bytes (higher p.place (from - p.first) bytes)
  ]
    where
      higher : (x y : ℕ) → (x == 0) ≡ false → (x + y == 0) ≡ false
      higher x y is = grind (arith, nat_tests)

  f_run : IsRunIn p f
  f_run = record {
    node = refl;
    some = omega (arith, begins);
    run = record { from = omega arith; to = omega (arith, begins, ends); kind = same_kind p.first; place = λ bytes. placed p.first bytes };
  }

  b_run : IsRunIn p b
  b_run = record {
    node = refl;
    some = omega (arith, ends);
    run = record { from = omega (arith, begins); to = omega (arith, begins, ends); kind = same_kind block; place = λ bytes. placed block bytes };
  }

  parts_apart : Apart f b
  parts_apart = record {
    own = λ same. inl (omega (arith, begins));
    data_apart = λ first second.
        let bytes : is_zeros p ≡ false = sym (same_kind p.first) ∙ first in
        let one = placed p.first bytes in
        let two = placed block bytes in
        inl (omega (arith, one, two, begins));
  }

  more_apart : AllByRecursion (λ r. Apart r b) more
  more_apart = all_push (λ r. Apart r b) mid f (all_weaker (λ r. Apart r p) (λ r. Apart r b) (λ r apart. run_apart r p b b_run apart) mid mid_apart) parts_apart

  mid_f : AllByRecursion (λ r. Apart r f) mid
  mid_f = all_weaker (λ r. Apart r p) (λ r. Apart r f) (λ r apart. run_apart r p f f_run apart) mid mid_apart

  p_whole : IsInFile file p
  p_whole = all_in (IsInFile file) c.pieces p well.whole at

  well_made : AreWell file made
  well_made = record {
    some = all_push (λ r. 1 ≤ r.count) more b (all_push (λ r. 1 ≤ r.count) mid f (all_filter (λ r. 1 ≤ r.count) (λ r. not (gone p r)) c.pieces well.some)
        f_run.some) b_run.some;
    whole = all_push (IsInFile file) more b (all_push (IsInFile file) mid f (all_filter (IsInFile file) (λ r. not (gone p r)) c.pieces well.whole)
        (run_whole laws file p f f_run (λ bytes. sym (sums.before (sym (same_kind p.first) ∙ bytes))) p_whole))
        (run_whole laws file p b b_run (λ bytes. sym (sums.from_on (sym (same_kind block) ∙ bytes))) p_whole);
    apart = pairs_push Apart more b (pairs_push Apart mid f (pairs_filter Apart (λ r. not (gone p r)) c.pieces well.apart) mid_f) more_apart;
  }

  -- ---- blocks

  out : TakenOut file (λ n k. has_block n k p) c (record c { pieces = mid })
  out = taken_left (gone p) file (λ n k. has_block n k p) c (goes_whole p c.pieces well.some many all_apart) sound

  either : (n k : ℕ) → has_block n k p ≡ true → has_block n k b ≡ false → has_block n k f ≡ true
  either n k is other =
      let has = has_of n k p is in
      let from = has.from in
      of_has n k f (record {
        of = has.of;
        from = from;
        to = elim (cases_Bool (nat_lt k block)) [
          | inl low ↦ lower k low
          | inr high ↦
              let far = upper k high in
              let to = has.to in
              absurd (let e = of_has n k b (record { of = has.of; from = far; to = omega (arith, to, begins, ends) }) in let g = sym e ∙ other in cc)
        ];
      })
    where
      lower : (k : ℕ) → nat_lt k block ≡ true → k < p.first + (block - p.first)
      lower k is = let low : k < block = grind (arith, nat_tests) in omega (arith, low, begins)

      upper : (k : ℕ) → nat_lt k block ≡ false → block ≤ k
      upper k is = grind (arith, nat_tests)

  not_in : (n k : ℕ) (q : Piece) → IsRunIn p q → has_block n k p ≡ false → has_block n k q ≡ false
  not_in n k q in_p none = elim (cases_Bool (has_block n k q)) [
    | inr other ↦ other
    | inl both ↦
        let has = has_of n k q both in
        let from = has.from in
        let to = has.to in
        let low = in_p.run.from in
        let high = in_p.run.to in
        absurd (let e = of_has n k p (record { of = sym in_p.node ∙ has.of; from = omega (arith, from, low); to = omega (arith, to, high) }) in let g = sym e ∙ none in cc)
  ]

  same_run : (n k : ℕ) (q : Piece) → IsRunIn p q → has_block n k q ≡ true → block_in_piece file k q ≡ block_in_piece file k p
  same_run n k q in_p is = let has = has_of n k q is in run_same file p q k in_p.run has.from has.to

  blocks : (n k : ℕ) → piece_block file made n k ≡ piece_block file c.pieces n k
  blocks n k =
      piece_added file more b n k (λ has. none_at n k b more more_apart has)
      ∙ ap (λ o. cond (has_block n k b) (Some (block_in_piece file k b)) o)
      (piece_added file mid f n k (λ has. none_at n k f mid mid_f has) ∙ ap (λ o. cond (has_block n k f) (Some (block_in_piece file k f)) o) (out.blocks n k))
      ∙ elim (cases_Bool (has_block n k p)) [
        | inr other ↦ rw (not_in n k b b_run other, not_in n k f f_run other, other) refl
        | inl here ↦
            let whole : piece_block file c.pieces n k ≡ Some (block_in_piece file k p) = ap (block_found file k None) (found_at n k p c.pieces all_apart at here) in
            elim (cases_Bool (has_block n k b)) [
              | inl last ↦ rw last (ap Some (same_run n k b b_run last) ∙ sym whole)
              | inr not_last ↦
                  let first = either n k here not_last in
                  rw (not_last, first) (ap Some (same_run n k f f_run first) ∙ sym whole)
            ]
      ]

  -- ---- the rest

  lasts : AllByRecursion (λ (q : Piece). no_block q.node (end_of q - 1) ≡ false) made
  lasts = each_in (λ (q : Piece). no_block q.node (end_of q - 1) ≡ false) made (λ q at. refl)

  part_of_p : (q : Piece) → IsRunIn p q → IsPartOfOne c.pieces q
  part_of_p q in_p = record { of = p; there = of_in c.pieces p at; node = in_p.node; begins = in_p.run.from; ends = in_p.run.to }

  parts : AllByRecursion (IsPartOfOne c.pieces) made
  parts = all_push (IsPartOfOne c.pieces) more b (all_push (IsPartOfOne c.pieces) mid f out.parts (part_of_p f f_run)) (part_of_p b b_run)

  keeps : (q : Piece) → IsRunIn p q → 1 ≤ q.slot → q.sum < 2 ^ 64 → KeepsPiece p → (is_zeros p ≡ false → IsPlaced (extent_of p)) → (is_zeros p ≡ true → q.place ≡ 0) → KeepsPiece q
  keeps q in_p given low was is_placed at_zero =
      let from = in_p.run.from in
      let to = in_p.run.to in
      let end = was.end in
      record {
        slot = given;
        node = subst (λ n. n < 2 ^ 63) (sym in_p.node) was.node;
        first = omega (arith, from, to, end);
        count = omega (arith, from, to, end);
        end = omega (arith, to, end);
        place = elim (cases_Bool (is_zeros p)) [
          | inl zeros ↦ let none = at_zero zeros in omega (arith, none)
          | inr bytes ↦
              let place = in_p.run.place bytes in
              let last = (is_placed bytes).low in
              let some = in_p.some in
              omega (arith, place, last, from, to, some)
        ];
        sum = low;
      }

  module _ (low_front : front < 2 ^ 64) (low_back : back < 2 ^ 64) where
    zero_place : (from : ℕ) → is_zeros p ≡ true → cond (p.place == 0) 0 (p.place + (from - p.first)) ≡ 0
    zero_place from zeros = rw zeros refl

    fits_made : AllByRecursion KeepsPiece made
    fits_made =
        let was = all_in KeepsPiece c.pieces p sound.0.pieces at in
        let is_placed : is_zeros p ≡ false → IsPlaced (extent_of p) = λ bytes. (p_whole bytes).placed in
        all_push KeepsPiece more b (all_push KeepsPiece mid f (all_filter KeepsPiece (λ r. not (gone p r)) c.pieces sound.0.pieces)
        (keeps f f_run (slot_given first_row mid) low_front was is_placed (λ zeros. zero_place p.first zeros)))
        (keeps b b_run (slot_given last_row more) low_back was is_placed (λ zeros. zero_place block zeros))

    sound_made : IsSound file (record c { pieces = made })
    sound_made = (
      record {
        nodes = sound.0.nodes;
        entries = sound.0.entries;
        handles = sound.0.handles;
        blocks = sound.0.blocks;
        kept = sound.0.kept;
        pieces = fits_made;
        no_pieces = λ is. absurd (let e = sym is ∙ third in cc);
      },
      pieces_of file made well_made,
    )

    -- ---- the data file

    p_in_parts : (n : ℕ) → HasPlace p n → HasPlace f n ⊎ HasPlace b n
    p_in_parts n has =
        let bytes = has.bytes in
        let from = has.at.0 in
        let to = has.at.1 in
        let one = placed p.first bytes in
        let two = placed block bytes in
        elim (cases_Bool (nat_lt n (p.place + (block - p.first)))) [
          | inl low ↦ inl (record { bytes = same_kind p.first ∙ bytes; at = (omega (arith, from, one), let l = lower n (p.place + (block - p.first)) low in omega (arith, l, one)) })
          | inr high ↦ inr (record { bytes = same_kind block ∙ bytes; at = (let h = upper n (p.place + (block - p.first)) high in omega (arith, h, two), omega (arith, to, two, begins, ends)) })
        ]
      where
        lower : (a b : ℕ) → nat_lt a b ≡ true → a < b
        lower a b is = grind (arith, nat_tests)

        upper : (a b : ℕ) → nat_lt a b ≡ false → b ≤ a
        upper a b is = grind (arith, nat_tests)

    run_in_p : (q : Piece) (n : ℕ) → IsRunIn p q → HasPlace q n → HasPlace p n
    run_in_p q n in_p has =
        let bytes : is_zeros p ≡ false = sym in_p.run.kind ∙ has.bytes in
        let place = in_p.run.place bytes in
        let from = has.at.0 in
        let to = has.at.1 in
        let low = in_p.run.from in
        let high = in_p.run.to in
        record { bytes = bytes; at = (omega (arith, place, from), omega (arith, place, to, low, high)) }

    listed_made : (n : ℕ) → IsListed (extents_of c.pieces) n → IsListed (extents_of made) n
    listed_made n is =
        let at = listed_in c.pieces n is in
        by at.0 at.1 at.2 (all_in (λ r. (r ≡ p) ⊎ Apart r p) c.pieces at.0 all_apart at.1)
      where
        parts_in : HasPlace f n ⊎ HasPlace b n → IsListed (extents_of made) n
        parts_in (inl has) = in_listed made n f (in_first more (b ∷ []) f (in_last mid (f ∷ []) f (inl refl))) has
        parts_in (inr has) = in_listed made n b (in_last more (b ∷ []) b (inl refl)) has

        by : (r : Piece) → In r c.pieces → HasPlace r n → (r ≡ p) ⊎ Apart r p → IsListed (extents_of made) n
        by r there has (inl is) = parts_in (p_in_parts n (subst (λ z. HasPlace z n) is has))
        by r there has (inr apart) =
            let stays = other_stays p r (all_in (λ r. 1 ≤ r.count) c.pieces r well.some there) many apart.own in
            in_listed made n r (in_first more (b ∷ []) r (in_first mid (f ∷ []) r (in_filter (λ r. not (gone p r)) c.pieces r there (ap not stays)))) has

    made_listed : (n : ℕ) → IsListed (extents_of made) n → IsListed (extents_of c.pieces) n
    made_listed n is = let at = listed_in made n is in by at.0 at.2 (in_either more (b ∷ []) at.0 at.1)
      where
        whole : HasPlace p n → IsListed (extents_of c.pieces) n
        whole has = in_listed c.pieces n p at has

        first : (r : Piece) → HasPlace r n → In r mid ⊎ In r (f ∷ []) → IsListed (extents_of c.pieces) n
        first r has (inl there) = in_listed c.pieces n r (of_filter (λ r. not (gone p r)) c.pieces r there).0 has
        first r has (inr (inl is)) = whole (run_in_p f n f_run (subst (λ z. HasPlace z n) (sym is) has))
        first r has (inr (inr none)) = absurd none

        by : (r : Piece) → HasPlace r n → In r more ⊎ In r (b ∷ []) → IsListed (extents_of c.pieces) n
        by r has (inl there) = first r has (in_either mid (f ∷ []) r there)
        by r has (inr (inl is)) = whole (run_in_p b n b_run (subst (λ z. HasPlace z n) (sym is) has))
        by r has (inr (inr none)) = absurd none

    -- ---- the cut

    cut_made : IsCutAt p.node block made
    cut_made = all_push P more b (all_push P mid f (all_weaker (λ r. Apart r p) P (λ r apart same. one r (apart.own same)) mid mid_apart)
        (λ same. inl (omega (arith, begins)))) (λ same. inr (omega arith))
      where
        P : Piece → Type 0
        P r = r.node ≡ p.node → (end_of r ≤ block) ⊎ (block ≤ r.first)

        one : (r : Piece) → (end_of r ≤ p.first) ⊎ (end_of p ≤ r.first) → (end_of r ≤ block) ⊎ (block ≤ r.first)
        one r (inl low) = inl (omega (arith, low, begins))
        one r (inr low) = inr (omega (arith, low, ends))

    made_is : with_parts (row_of p) block front back c ≡ record c { pieces = made }
    made_is =
        ap (λ ps. with_piece last_row (record c { pieces = ps })) (put_last (λ (r : Piece). r.slot) f mid (next_above first_row mid mid_rises))
        ∙ ap (λ ps. record c { pieces = ps }) (put_last (λ (r : Piece). r.slot) b more (next_above last_row more more_rises))
      where
        mid_rises : Rises (λ (r : Piece). r.slot) mid
        mid_rises = pairs_filter (λ (r s : Piece). r.slot < s.slot) (λ r. not (gone p r)) c.pieces rises

        more_rises : Rises (λ (r : Piece). r.slot) more
        more_rises = pairs_push (λ (r s : Piece). r.slot < s.slot) mid f mid_rises (next_above first_row mid mid_rises)

    pub was_split : Split file p.node block c (with_parts (row_of p) block front back c)
    was_split = subst (Split file p.node block c) (sym made_is) (record {
      same = record { blocks = blocks; lasts = lasts; parts = parts; others = refl; sound = sound_made };
      listed = λ n. (made_listed n, listed_made n);
      cut = cut_made;
    })
