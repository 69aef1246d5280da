-- The piece of a node that begins last, and the pieces that are found one before the other.
use Rattle.std.proofs.Common.{◌≡◌, ◌≤◌, ◌<◌, ◌⊎◌, ◌+◌, ◌-◌, ◌^◌, ◌==◌, ◌&&◌, inl, inr, ℕ, suc, List, [], ◌∷◌, ◌++◌, filter, find, length, nat_lt, Bool, true, false, cond}
use Rattle.std.proofs.Common.{Option, Some, None, IfSome, option_map, refl, sym, ap, subst, arith, ◌∙◌}
use Rattle.std.specs.Prelude.{nat_le}
use Rattle.std.specs.Ordering.{is_eq, is_le, nat_cmp}
use Rattle.std.specs.List.{All, AllPairs, AllByRecursion, Contains}
use Rattle.std.proofs.lemmas.Bool.{cases_Bool}
use Rattle.std.proofs.lemmas.Bool.Decides.{nat_tests}
use Rattle.sqlite.specs.Order.{Row}
use Rattle.fuse_store_tables.specs.declared.version.Layout.{Layout}
use Rattle.fuse_store_tables.specs.declared.version.Layout.TheVariants.{Second, Third}
use Rattle.fuse_store_tables.specs.declared.pieces.PieceRow.{PieceRow}
use Rattle.fuse_store_tables.specs.Content.{Content}
use Rattle.fuse_store_tables.specs.Pieces.{Piece, shown_piece}
use Rattle.fuse_store_tables.specs.Ranges.{pieces_in, held_pieces, begins_by, IsLast, ShowsLast, row_of}
use Rattle.fuse_store_tree.specs.Fits.{Fits, KeepsPiece}
use Rattle.fuse_store_tree.specs.Pieces.{end_of, has_block, piece_at, OwnApart}
use Rattle.fuse_store_tree.specs.inner.Showing.{row_has, BeginsLast, TellsLast}
use Rattle.fuse_store_tree.proofs.Members.{first_in, later_in, none_in, first_or_later, all_in, into_kept, out_of_kept, none_found_of, or_else, found_end}

-- ---- pieces of a node are apart

swapped : (p q : Piece) → OwnApart p q → OwnApart q p
swapped p q apart same = elim (apart (sym same)) [ inl low ↦ inr low | inr high ↦ inl high ]

pairs_head : (p q : Piece) (ps : List Piece) → AllPairs OwnApart (p ∷ ps) → Contains ps q → OwnApart p q
pairs_head p q ps own (k, low, is) = subst (OwnApart p) is (own 0 (suc k) q (omega arith) (omega (arith, low)))

pairs_tail : (p : Piece) (ps : List Piece) → AllPairs OwnApart (p ∷ ps) → AllPairs OwnApart ps
pairs_tail p ps own = λ i j d low high. own (suc i) (suc j) d (omega (arith, low)) (omega (arith, high))

pub apart_of : (ps : List Piece) (p q : Piece) → AllPairs OwnApart ps → Contains ps p → Contains ps q → (p ≡ q) ⊎ OwnApart p q
apart_of [] p q own there other = absurd (none_in p there)
apart_of (x ∷ ps) p q own there other = elim (first_or_later x p ps there) [
  | inl one ↦ elim (first_or_later x q ps other) [
    | inl two ↦ inl (sym one ∙ two)
    | inr more ↦ inr (subst (λ (z : Piece). OwnApart z q) one (pairs_head x q ps own more))
  ]
  | inr more ↦ elim (first_or_later x q ps other) [
    | inl two ↦ inr (subst (OwnApart p) two (swapped x p (pairs_head x p ps own more)))
    | inr rest ↦ apart_of ps p q (pairs_tail x ps own) more rest
  ]
]

-- ---- the piece that has a block

pub record HasBlock (node block : ℕ) (p : Piece) : Type 0 where
  pub of : p.node ≡ node
  pub from : p.first ≤ block
  pub to : block < end_of p

pub has_tells : (node block : ℕ) (p : Piece) → has_block node block p ≡ true → HasBlock node block p
has_tells node block p has = record {
  of = number p.node node (nat_le p.first block && nat_lt block (end_of p)) has;
  from = low (p.node == node) p.first block (nat_lt block (end_of p)) has;
  to = high (p.node == node) (nat_le p.first block) block (end_of p) has;
}
  where
    number : (a b : ℕ) (t : Bool) → ((a == b) && t) ≡ true → a ≡ b
    number a b t is = grind (arith, nat_tests)

    low : (t : Bool) (a b : ℕ) (u : Bool) → (t && (nat_le a b && u)) ≡ true → a ≤ b
    low t a b u is = grind (arith, nat_tests)

    high : (t u : Bool) (a b : ℕ) → (t && (u && nat_lt a b)) ≡ true → a < b
    high t u a b is = grind (arith, nat_tests)

pub has_told : (node block : ℕ) (p : Piece) → HasBlock node block p → has_block node block p ≡ true
has_told node block p h = tests p.node node p.first block (end_of p) h.of h.from h.to
  where
    tests : (n m a b e : ℕ) → n ≡ m → a ≤ b → b < e → ((n == m) && (nat_le a b && nat_lt b e)) ≡ true
    tests n m a b e same low high = grind (arith, nat_tests)

-- two that have a block aren't apart
clash : (node block : ℕ) (p q : Piece) → OwnApart p q → HasBlock node block p → HasBlock node block q → ⊥
clash node block p q apart one two = elim (apart (one.of ∙ sym two.of)) [
  | inl low ↦ (let to = one.to in let from = two.from in omega (arith, low, to, from))
  | inr high ↦ (let to = two.to in let from = one.from in omega (arith, high, to, from))
]

pub only_one : (node block : ℕ) (ps : List Piece) (p : Piece) → AllPairs OwnApart ps → Contains ps p → has_block node block p ≡ true
    → piece_at node block ps ≡ Some p
only_one node block [] p own there has = absurd (none_in p there)
only_one node block (x ∷ ps) p own there has = elim (cases_Bool (has_block node block x)) [
  | inl here ↦ rw here (elim (first_or_later x p ps there) [
    | inl same ↦ ap Some same
    | inr more ↦ absurd (clash node block x p (pairs_head x p ps own more) (has_tells node block x here) (has_tells node block p has))
  ])
  | inr off ↦ rw off (elim (first_or_later x p ps there) [
    | inl same ↦ absurd (let e = sym off ∙ ap (has_block node block) same ∙ has in cc)
    | inr more ↦ only_one node block ps p (pairs_tail x ps own) more has
  ])
]

-- ---- the one that begins last

-- the blocks from its first one on
pub last_has : (node block k : ℕ) (ps : List Piece) (p : Piece) → AllPairs OwnApart ps → BeginsLast node block ps p → p.first ≤ k → k ≤ block
    → piece_at node k ps ≡ cond (nat_lt k (end_of p)) (Some p) None
last_has node block k ps p own last from by = elim (cases_Bool (nat_lt k (end_of p))) [
  | inl low ↦ rw low (only_one node k ps p own last.there (has_told node k p (record { of = last.of; from = from; to = below k (end_of p) low })))
  | inr high ↦ rw high (none_found_of (has_block node k) ps (λ q there has.
      let h = has_tells node k q has in
      elim (last.last q there h.of (omega (arith, h.from, by))) [
        | inl same ↦ (let to = subst (λ (z : Piece). k < end_of z) same h.to in let end = above k (end_of p) high in omega (arith, to, end))
        | inr before ↦ elim (apart_of ps q p own there last.there) [
          | inl same ↦ (let e : q.first ≡ p.first = ap (λ (z : Piece). z.first) same in omega (arith, before, e))
          | inr apart ↦ elim (apart (h.of ∙ sym last.of)) [
            | inl low ↦ (let to = h.to in omega (arith, low, to, from))
            | inr end ↦ (let more : p.first ≤ end_of p = omega arith in omega (arith, end, before, more))
          ]
        ]
      ]))
]
  where
    below : (a b : ℕ) → nat_lt a b ≡ true → a < b
    below a b is = grind (arith, nat_tests)

    above : (a b : ℕ) → nat_lt a b ≡ false → b ≤ a
    above a b is = grind (arith, nat_tests)

-- no piece begins by then
pub none_by : (node block k : ℕ) (ps : List Piece) → TellsLast node block ps None → k ≤ block → piece_at node k ps ≡ None
none_by node block k ps none by = none_found_of (has_block node k) ps (λ q there has.
    let h = has_tells node k q has in let from = h.from in none q there h.of (omega (arith, from, by)))

-- ---- as the tables show it

held_is : (c : Content) → Fits c → held_pieces c ≡ c.pieces
held_is c fits = by c.layout refl
  where
    by : (l : Layout) → c.layout ≡ l → pieces_in c.layout c.pieces ≡ c.pieces
    by Second is = ap (λ l. pieces_in l c.pieces) is ∙ sym (fits.no_pieces is)
    by Third is = ap (λ l. pieces_in l c.pieces) is

begins_tells : (node block : ℕ) (p : Piece) → begins_by node block p ≡ true → (p.node ≡ node) × (p.first ≤ block)
begins_tells node block p is = (number p.node node (is_le (nat_cmp p.first block)) is, low (is_eq (nat_cmp p.node node)) p.first block is)
  where
    number : (a b : ℕ) (t : Bool) → (is_eq (nat_cmp a b) && t) ≡ true → a ≡ b
    number a b t is = grind (arith, nat_tests)

    low : (t : Bool) (a b : ℕ) → (t && is_le (nat_cmp a b)) ≡ true → a ≤ b
    low t a b is = grind (arith, nat_tests)

begins_told : (node block : ℕ) (p : Piece) → p.node ≡ node → p.first ≤ block → begins_by node block p ≡ true
begins_told node block p of from = tests p.node node p.first block of from
  where
    tests : (n m a b : ℕ) → n ≡ m → a ≤ b → (is_eq (nat_cmp n m) && is_le (nat_cmp a b)) ≡ true
    tests n m a b same low = grind (arith, nat_tests)

-- none is shown
pub none_shown : (node block : ℕ) (c : Content) → Fits c → ShowsLast (filter (begins_by node block) (held_pieces c)) None → TellsLast node block c.pieces None
none_shown node block c fits none q there of from =
    let kept = into_kept (begins_by node block) c.pieces q there (begins_told node block q of from) in
    none_in q (subst (λ l. Contains l q) (subst (λ l. filter (begins_by node block) l ≡ []) (held_is c fits) none) kept)

-- the piece that is shown
pub last_shown : (node block : ℕ) (c : Content) (row : Row) → Fits c → ShowsLast (filter (begins_by node block) (held_pieces c)) (Some row)
    → (p : Piece) × BeginsLast node block c.pieces p × (row ≡ shown_piece p)
last_shown node block c row fits (p, last, is) =
    let now = subst (λ l. IsLast p (filter (begins_by node block) l)) (held_is c fits) last in
    let kept = out_of_kept (begins_by node block) c.pieces p now.there in
    let tells = begins_tells node block p kept.1 in (
      p,
      record {
        there = kept.0;
        of = tells.0;
        begins = tells.1;
        last = λ q there of from.
            all_in (λ (r : Piece). (r ≡ p) ⊎ (r.first < p.first)) (filter (begins_by node block) c.pieces) q now.last
            (into_kept (begins_by node block) c.pieces q there (begins_told node block q of from));
      },
      is,
    )

-- what the row says of the piece that was found
pub row_told : (node block : ℕ) (c : Content) (r : PieceRow) → AllPairs OwnApart c.pieces → TellsLast node block c.pieces (Some r)
    → cond (nat_lt (block - r.first) r.count) (Some r) None ≡ option_map row_of (piece_at node block c.pieces)
row_told node block c r own (p, last, is) =
    ap (λ (x : PieceRow). cond (nat_lt (block - x.first) x.count) (Some x) None) is ∙ by (nat_lt (block - p.first) p.count) (tests p.first block p.count last.begins)
    ∙ ap (option_map row_of) (sym (last_has node block block c.pieces p own last last.begins (omega arith)))
  where
    tests : (a b k : ℕ) → a ≤ b → nat_lt (b - a) k ≡ nat_lt b (a + k)
    tests a b k low = grind (arith, nat_tests)

    by : (b : Bool) → b ≡ nat_lt block (end_of p) → cond b (Some (row_of p)) None ≡ option_map row_of (cond (nat_lt block (end_of p)) (Some p) None)
    by true e = rw (sym e) refl
    by false e = rw (sym e) refl

pub row_there : (node block : ℕ) (c : Content) (r : PieceRow) → AllPairs OwnApart c.pieces → TellsLast node block c.pieces (Some r) → block - r.first < r.count
    → Some r ≡ option_map row_of (piece_at node block c.pieces)
row_there node block c r own last low = rw (test (block - r.first) r.count low) at (row_told node block c r own last)
  where
    test : (a b : ℕ) → a < b → nat_lt a b ≡ true
    test a b less = grind (arith, nat_tests)

pub row_not_there : (node block : ℕ) (c : Content) (r : PieceRow) → AllPairs OwnApart c.pieces → TellsLast node block c.pieces (Some r)
    → r.count ≤ block - r.first → None ≡ option_map row_of (piece_at node block c.pieces)
row_not_there node block c r own last high = rw (test (block - r.first) r.count high) at (row_told node block c r own last)
  where
    test : (a b : ℕ) → b ≤ a → nat_lt a b ≡ false
    test a b more = grind (arith, nat_tests)

pub none_there : (node block : ℕ) (c : Content) → TellsLast node block c.pieces None → None ≡ option_map row_of (piece_at node block c.pieces)
none_there node block c none = ap (option_map row_of) (sym (none_by node block block c.pieces none (omega arith)))

pub told_so : (node block : ℕ) (c : Content) (o : Option PieceRow) (p : Piece) → BeginsLast node block c.pieces p → o ≡ Some (row_of p)
    → TellsLast node block c.pieces o
told_so node block c o p last is = subst (TellsLast node block c.pieces) (sym is) (p, last, refl)

pub keeps_sum : (c : Content) (p : Piece) → Fits c → Contains c.pieces p → p.sum < 2 ^ 64
keeps_sum c p fits there = (all_in KeepsPiece c.pieces p fits.pieces there).sum

-- ---- one before the other

row_test : (node block : ℕ) (p : Piece) → p.node ≡ node → row_has block (row_of p) ≡ has_block node block p
row_test node block p of = by p.node of
  where
    tests : (a b k n m : ℕ) → n ≡ m → (nat_le a b && nat_lt (b - a) k) ≡ ((n == m) && (nat_le a b && nat_lt b (a + k)))
    tests a b k n m same = grind (arith, nat_tests)

    by : (n : ℕ) → n ≡ node → row_has block (row_of p) ≡ ((n == node) && (nat_le p.first block && nat_lt block (end_of p)))
    by n same = tests p.first block p.count n node same

pub row_from : (block first count : ℕ) → (nat_le first block && nat_lt (block - first) count) ≡ true → first ≤ block
row_from block first count has = grind (arith, nat_tests)

pub row_to : (block first count : ℕ) → (nat_le first block && nat_lt (block - first) count) ≡ true → block < first + count
row_to block first count has = grind (arith, nat_tests)

-- the pieces that have blocks from one on, below another
pub record FoundDown (node end to : ℕ) (found : List PieceRow) (ps : List Piece) : Type 0 where
  pub begin : AllByRecursion (λ (r : PieceRow). end ≤ r.first) found
  pub each : (block : ℕ) → end ≤ block → block < to → find (row_has block) found ≡ option_map row_of (piece_at node block ps)

pub found_nothing : (node to : ℕ) (ps : List Piece) → FoundDown node to to [] ps
found_nothing node to ps = record { begin = tt; each = λ block from low. absurd (omega (arith, from, low)) }

-- a block below all that were found
none_below : (end block : ℕ) (found : List PieceRow) → block < end → AllByRecursion (λ (r : PieceRow). end ≤ r.first) found → find (row_has block) found ≡ None
none_below end block [] low all = refl
none_below end block (r ∷ found) low all = rw (off r.first block r.count (omega (arith, low, all.0))) (none_below end block found low all.1)
  where
    off : (a b k : ℕ) → b < a → (nat_le a b && nat_lt (b - a) k) ≡ false
    off a b k less = grind (arith, nat_tests)

begin_more : (end low : ℕ) (found : List PieceRow) (r : PieceRow) → low ≤ end → low ≤ r.first → AllByRecursion (λ (x : PieceRow). end ≤ x.first) found
    → AllByRecursion (λ (x : PieceRow). low ≤ x.first) (found ++ r ∷ [])
begin_more end low [] r by here all = (here, tt)
begin_more end low (x ∷ found) r by here all = (omega (arith, by, all.0), begin_more end low found r by here all.1)

abbrev itself : {X : Type 0} → X → X
itself x = x

same_map : {X : Type 0} (o : Option X) → option_map itself o ≡ o
same_map None = refl
same_map (Some x) = refl

end_found : (block : ℕ) (found : List PieceRow) (r : PieceRow)
    → find (row_has block) (found ++ r ∷ []) ≡ or_else (find (row_has block) found) (cond (row_has block r) (Some r) None)
end_found block found r =
    sym (same_map (find (row_has block) (found ++ r ∷ []))) ∙ found_end (row_has block) itself found r
    ∙ ap (λ o. or_else o (cond (row_has block r) (Some r) None)) (same_map (find (row_has block) found))

-- one more piece, which begins before them
pub found_more : (node end to : ℕ) (found : List PieceRow) (ps : List Piece) (p : Piece) → AllPairs OwnApart ps → 1 ≤ end → FoundDown node end to found ps
    → BeginsLast node (end - 1) ps p → FoundDown node p.first to (found ++ row_of p ∷ []) ps
found_more node end to found ps p own some f last =
    let begins = last.begins in
    record {
      begin = begin_more end p.first found (row_of p) (omega (arith, begins, some)) (omega arith) f.begin;
      each = λ block from low. elim (cases_Bool (nat_lt block end)) [
        | inl before ↦
            let less = below block end before in
            end_found block found (row_of p)
            ∙ ap (λ o. or_else o (cond (row_has block (row_of p)) (Some (row_of p)) None)) (none_below end block found less f.begin)
            ∙ shown block from
            ∙ ap (option_map row_of) (sym (last_has node (end - 1) block ps p own last from (omega (arith, less))))
        | inr behind ↦
            end_found block found (row_of p)
            ∙ ap (λ o. or_else o (cond (row_has block (row_of p)) (Some (row_of p)) None)) (f.each block (above block end behind) low)
            ∙ kept block (piece_at node block ps) refl
      ];
    }
  where
    below : (a b : ℕ) → nat_lt a b ≡ true → a < b
    below a b is = grind (arith, nat_tests)

    above : (a b : ℕ) → nat_lt a b ≡ false → b ≤ a
    above a b is = grind (arith, nat_tests)

    tests : (a b k : ℕ) → a ≤ b → (nat_le a b && nat_lt (b - a) k) ≡ nat_lt b (a + k)
    tests a b k less = grind (arith, nat_tests)

    shown : (block : ℕ) → p.first ≤ block
        → or_else None (cond (row_has block (row_of p)) (Some (row_of p)) None) ≡ option_map row_of (cond (nat_lt block (end_of p)) (Some p) None)
    shown block from = rw (tests p.first block p.count from) (by (nat_lt block (end_of p)))
      where
        by : (b : Bool) → cond b (Some (row_of p)) None ≡ option_map row_of (cond b (Some p) None)
        by true = refl
        by false = refl

    kept : (block : ℕ) (o : Option Piece) → piece_at node block ps ≡ o
        → or_else (option_map row_of (piece_at node block ps)) (cond (row_has block (row_of p)) (Some (row_of p)) None) ≡ option_map row_of (piece_at node block ps)
    kept block (Some q) is = rw is refl
    kept block None is = rw is (elim (cases_Bool (row_has block (row_of p))) [
      | inl has ↦ absurd (let e = sym is ∙ only_one node block ps p own last.there (sym (row_test node block p last.of) ∙ has) in cc)
      | inr off ↦ rw off refl
    ])

pub found_first : (node to : ℕ) (found : List PieceRow) (c : Content) → found ≡ [] → FoundDown node to to found c.pieces
found_first node to found c none = subst (λ l. FoundDown node to to l c.pieces) (sym none) (found_nothing node to c.pieces)

pub found_next : (node end to : ℕ) (found now : List PieceRow) (c : Content) (r : PieceRow) → AllPairs OwnApart c.pieces → 1 ≤ end
    → FoundDown node end to found c.pieces → TellsLast node (end - 1) c.pieces (Some r) → now ≡ found ++ r ∷ [] → FoundDown node r.first to now c.pieces
found_next node end to found now c r own some f (p, last, is) more =
    subst (λ l. FoundDown node r.first to l c.pieces) (sym more)
    (subst (λ (x : PieceRow). FoundDown node x.first to (found ++ x ∷ []) c.pieces) (sym is) (found_more node end to found c.pieces p own some f last))

-- no piece begins before them
pub found_all : (node end to : ℕ) (found : List PieceRow) (ps : List Piece) → 1 ≤ end → FoundDown node end to found ps → TellsLast node (end - 1) ps None
    → (block : ℕ) → block < to → find (row_has block) found ≡ option_map row_of (piece_at node block ps)
found_all node end to found ps some f none block low = elim (cases_Bool (nat_lt block end)) [
  | inl before ↦
      let less = below block end before in
      none_below end block found less f.begin ∙ ap (option_map row_of) (sym (none_by node (end - 1) block ps none (omega (arith, less))))
  | inr behind ↦ f.each block (above block end behind) low
]
  where
    below : (a b : ℕ) → nat_lt a b ≡ true → a < b
    below a b is = grind (arith, nat_tests)

    above : (a b : ℕ) → nat_lt a b ≡ false → b ≤ a
    above a b is = grind (arith, nat_tests)
