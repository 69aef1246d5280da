-- Blocks that are taken out of the pieces of contents.
use Rattle.std.proofs.Common.{◌≡◌, ◌≤◌, ◌⊎◌, ◌+◌, ◌-◌, ◌^◌, ◌==◌, ◌&&◌, inl, inr, ℕ, List, [], ◌∷◌, not, nat_lt}
use Rattle.std.proofs.Common.{Bool, true, false, cond, Option, Some, None, refl, sym, ap, subst, arith, ◌∙◌}
use Rattle.std.specs.Prelude.{nat_le}
use Rattle.std.specs.List.{AllByRecursion}
use Rattle.std.proofs.lemmas.Bool.{cases_Bool}
use Rattle.std.proofs.lemmas.Bool.Decides.{nat_tests}
use Rattle.sqlite.specs.State.{State}
use Rattle.fuse_data.specs.Space.{IsListed}
use Rattle.fuse_store_tables.specs.declared.version.Layout.TheVariants.{Third}
use Rattle.fuse_store_tables.specs.Pieces.{Piece}
use Rattle.fuse_store_tables.specs.Content.{Content, HoldsIn}
use Rattle.fuse_store_tables.specs.Moves.{Inside, InsideAs}
use Rattle.fuse_store_tree.specs.Fits.{KeepsPiece}
use Rattle.fuse_store_tree.specs.Pieces.{extents_of, end_of, has_block, piece_at, block_found}
use Rattle.fuse_store_tree.specs.declared.piece_cuts.Gone.{Gone}
use Rattle.fuse_store_tree.specs.inner.Reading.{IsSound}
use Rattle.fuse_store_tree.specs.inner.Relisting.{is_between, is_from_on, no_block, piece_block, IsPartOfOne, TakenOut, IsCutAt, IsHeldIn, GivesUp}
use Rattle.fuse_store_tree.proofs.PieceSets.{In, in_of, of_in, all_in, each_in, all_weaker, has_of}

-- ---- contents

some_found : (n k : ℕ) (q : Piece) (ps : List Piece) → In q ps → has_block n k q ≡ true → piece_at n k ps ≡ None → ⊥
some_found n k q [] found has none = found
some_found n k q (p ∷ ps) found has none = elim (cases_Bool (has_block n k p)) [
  | inl here ↦ absurd (let e = rw here at none in cc)
  | inr off ↦ by off (λ more empty. some_found n k q ps more has empty) found (rw off at none)
]
  where
    by : has_block n k p ≡ false → (In q ps → piece_at n k ps ≡ None → ⊥) → (p ≡ q) ⊎ In q ps → piece_at n k ps ≡ None → ⊥
    by off rest (inl is) none = absurd (let e = sym (subst (λ z. has_block n k z ≡ false) is off) ∙ has in cc)
    by off rest (inr more) none = rest more none

none_there : (file : List ℕ) (k : ℕ) (o : Option Piece) → block_found file k None o ≡ None → o ≡ None
none_there file k None is = refl
none_there file k (Some p) is = absurd cc

-- a piece has no block that is out
not_out : (file : List ℕ) (is_out : ℕ → ℕ → Bool) (ps : List Piece) → ((n k : ℕ) → is_out n k ≡ true → piece_block file ps n k ≡ None)
    → (n k : ℕ) (q : Piece) → In q ps → has_block n k q ≡ true → is_out n k ≡ false
not_out file is_out ps out n k q at has = elim (cases_Bool (is_out n k)) [
  | inr stays ↦ stays
  | inl gone ↦ absurd (some_found n k q ps at has (none_there file k (piece_at n k ps) (out n k gone)))
]

lasts_of : (file : List ℕ) (is_out : ℕ → ℕ → Bool) (ps : List Piece) → AllByRecursion (λ p. 1 ≤ p.count) ps
    → ((n k : ℕ) → is_out n k ≡ true → piece_block file ps n k ≡ None) → AllByRecursion (λ q. is_out q.node (end_of q - 1) ≡ false) ps
lasts_of file is_out ps some out = each_in (λ q. is_out q.node (end_of q - 1) ≡ false) ps (λ q at.
    not_out file is_out ps out q.node (end_of q - 1) q at (last q.node q.first q.count (all_in (λ p. 1 ≤ p.count) ps q some at)))
  where
    last : (n a m : ℕ) → 1 ≤ m → ((n == n) && (nat_le a (a + m - 1) && nat_lt (a + m - 1) (a + m))) ≡ true
    last n a m low = grind (arith, nat_tests)

parts_then : (xs ys zs : List Piece) → AllByRecursion (IsPartOfOne xs) ys → AllByRecursion (IsPartOfOne ys) zs → AllByRecursion (IsPartOfOne xs) zs
parts_then xs ys zs first second = all_weaker (IsPartOfOne ys) (IsPartOfOne xs) (λ q part.
    let one = all_in (IsPartOfOne xs) ys part.of first (in_of ys part.of part.there) in
    let begins = part.begins in
    let early = one.begins in
    let ends = part.ends in
    let late = one.ends in
    record { of = one.of; there = one.there; node = part.node ∙ one.node; begins = omega (arith, begins, early); ends = omega (arith, ends, late) }) zs second

pub out_then : (file : List ℕ) (p q r : ℕ → ℕ → Bool) (a b d : Content) → TakenOut file p a b → TakenOut file q b d
    → ((n k : ℕ) → cond (q n k) true (p n k) ≡ r n k) → TakenOut file r a d
out_then file p q r a b d first second both = record {
  blocks = blocks;
  lasts = lasts_of file r d.pieces second.sound.1.some (λ n k is. blocks n k ∙ rw is refl);
  parts = parts_then a.pieces b.pieces d.pieces first.parts second.parts;
  others = second.others ∙ first.others;
  sound = second.sound;
}
  where
    twice : (s t : Bool) (o : Option (List ℕ)) → cond s None (cond t None o) ≡ cond (cond s true t) None o
    twice true t o = refl
    twice false t o = refl

    blocks : (n k : ℕ) → piece_block file d.pieces n k ≡ cond (r n k) None (piece_block file a.pieces n k)
    blocks n k =
        second.blocks n k ∙ ap (λ o. cond (q n k) None o) (first.blocks n k) ∙ twice (q n k) (p n k) (piece_block file a.pieces n k)
        ∙ ap (λ t. cond t None (piece_block file a.pieces n k)) (both n k)

-- nothing is out
pub out_none : (file : List ℕ) (c : Content) → IsSound file c → TakenOut file no_block c c
out_none file c sound = record {
  blocks = λ n k. refl;
  lasts = each_in (λ (q : Piece). no_block q.node (end_of q - 1) ≡ false) c.pieces (λ q at. refl);
  parts = each_in (IsPartOfOne c.pieces) c.pieces (λ q at. record { of = q; there = of_in c.pieces q at; node = refl; begins = omega arith; ends = omega arith });
  others = refl;
  sound = sound;
}

-- the same by another test that no block passes
pub out_same : (file : List ℕ) (p r : ℕ → ℕ → Bool) (c k : Content) → ((n j : ℕ) → p n j ≡ r n j) → TakenOut file p c k → TakenOut file r c k
out_same file p r c k same out = record {
  blocks = λ n j. out.blocks n j ∙ ap (λ t. cond t None (piece_block file c.pieces n j)) (same n j);
  lasts = all_weaker (λ q. p q.node (end_of q - 1) ≡ false) (λ q. r q.node (end_of q - 1) ≡ false) (λ q is. sym (same q.node (end_of q - 1)) ∙ is) k.pieces out.lasts;
  parts = out.parts;
  others = out.others;
  sound = out.sound;
}

pub gives_then : (w i j : Gone) (xs ys zs : List Piece) → GivesUp w i xs ys → GivesUp i j ys zs → GivesUp w j xs zs
gives_then w i j xs ys zs first second = record {
  from = λ b at. first.from b (second.from b at);
  all = λ none. let late = second.all none in let early = first.all late.0 in (early.0, λ b at. late.1 b (early.1 b at));
  apart = λ is. second.apart (first.apart is);
}

pub gives_same : (w : Gone) (xs : List Piece) → GivesUp w w xs xs
gives_same w xs = record { from = λ b at. at; all = λ none. (none, λ b at. at); apart = λ is. is }

-- the same blocks of the data file are listed
abbrev pub SameListed : List Piece → List Piece → Type 0
SameListed xs ys = (b : ℕ) → (IsListed (extents_of ys) b → IsListed (extents_of xs) b) × (IsListed (extents_of xs) b → IsListed (extents_of ys) b)

pub gives_listed : (w i : Gone) (xs ys zs : List Piece) → SameListed xs ys → GivesUp w i ys zs → GivesUp w i xs zs
gives_listed w i xs ys zs same gives = record {
  from = λ b at. back b (gives.from b at);
  all = λ none. let all = gives.all none in (all.0, λ b at. all.1 b (on b at));
  apart = λ is. gives.apart (λ b gone listed. is b gone ((same b).0 listed));
}
  where
    back : (b : ℕ) → IsHeldIn w.extents.items ys b → IsHeldIn w.extents.items xs b
    back b (inl at) = inl ((same b).0 at)
    back b (inr at) = inr at

    on : (b : ℕ) → IsHeldIn w.extents.items xs b → IsHeldIn w.extents.items ys b
    on b (inl at) = inl ((same b).1 at)
    on b (inr at) = inr at

-- ---- cuts

-- the parts of pieces that don't reach over a block's begin don't either
pub cut_parts : (node block : ℕ) (xs ys : List Piece) → AllByRecursion (IsPartOfOne xs) ys → IsCutAt node block xs → IsCutAt node block ys
cut_parts node block xs ys parts cut = all_weaker (IsPartOfOne xs) (λ q. q.node ≡ node → (end_of q ≤ block) ⊎ (block ≤ q.first)) (λ q part of.
    by q part (all_in (λ p. p.node ≡ node → (end_of p ≤ block) ⊎ (block ≤ p.first)) xs part.of cut (in_of xs part.of part.there) (sym part.node ∙ of))) ys parts
  where
    by : (q : Piece) (part : IsPartOfOne xs q) → (end_of part.of ≤ block) ⊎ (block ≤ part.of.first) → (end_of q ≤ block) ⊎ (block ≤ q.first)
    by q part (inl low) = let ends = part.ends in inl (omega (arith, low, ends))
    by q part (inr low) = let begins = part.begins in inr (omega (arith, low, begins))

-- where the blocks up to one are out, none reaches over its begin
pub cut_on : (file : List ℕ) (node from at : ℕ) (c k : Content) → from ≤ at → TakenOut file (is_between node from at) c k → IsCutAt node from c.pieces → IsCutAt node at k.pieces
cut_on file node from at c k order out cut = each_in (λ q. q.node ≡ node → (end_of q ≤ at) ⊎ (at ≤ q.first)) k.pieces (λ q there of.
    by q there of (all_in (λ q. q.node ≡ node → (end_of q ≤ from) ⊎ (from ≤ q.first)) k.pieces q (cut_parts node from c.pieces k.pieces out.parts cut) there of))
  where
    first_of : (a n x m : ℕ) → a ≡ n → 1 ≤ m → ((a == n) && (nat_le x x && nat_lt x (x + m))) ≡ true
    first_of a n x m same some = grind (arith, nat_tests)

    high : (n x : ℕ) → from ≤ x → ((n == n) && (nat_le from x && nat_lt x at)) ≡ false → at ≤ x
    high n x low is = grind (arith, nat_tests)

    by : (q : Piece) → In q k.pieces → q.node ≡ node → (end_of q ≤ from) ⊎ (from ≤ q.first) → (end_of q ≤ at) ⊎ (at ≤ q.first)
    by q there of (inl low) = inl (omega (arith, low, order))
    by q there of (inr low) = inr (high node q.first low
        (not_out file (is_between node from at) k.pieces (λ n j is. out.blocks n j ∙ rw is refl) node q.first q there
        (first_of q.node node q.first q.count of (all_in (λ p. 1 ≤ p.count) k.pieces q out.sound.1.some there))))

-- no piece reaches up to the last number
pub cut_top : (node top : ℕ) (ps : List Piece) → 2 ^ 63 ≤ top + 1 → AllByRecursion KeepsPiece ps → IsCutAt node top ps
cut_top node top ps high all = all_weaker KeepsPiece (λ p. p.node ≡ node → (end_of p ≤ top) ⊎ (top ≤ p.first)) (λ p keeps of. let end = keeps.end in inl (omega (arith, end, high))) ps all

pub cut_first : (node : ℕ) (ps : List Piece) → IsCutAt node 0 ps
cut_first node ps = each_in (λ p. p.node ≡ node → (end_of p ≤ 0) ⊎ (0 ≤ p.first)) ps (λ p at of. inr (omega arith))

-- so all from a block on are those of a range
pub out_rest : (file : List ℕ) (node from top : ℕ) (c k : Content) → 2 ^ 63 ≤ top + 1 → AllByRecursion KeepsPiece c.pieces → TakenOut file (is_between node from top) c k
    → TakenOut file (is_from_on node from) c k
out_rest file node from top c k high keeps out = record {
  blocks = blocks;
  lasts = lasts_of file (is_from_on node from) k.pieces out.sound.1.some (λ n j is. blocks n j ∙ rw is refl);
  parts = out.parts;
  others = out.others;
  sound = out.sound;
}
  where
    less : (n j : ℕ) → is_between node from top n j ≡ true → is_from_on node from n j ≡ true
    less n j is = test (n == node) is
      where
        test : (t : Bool) → (t && (nat_le from j && nat_lt j top)) ≡ true → (t && not (nat_lt j from)) ≡ true
        test t is = grind (arith, nat_tests)

    beyond : (n j : ℕ) → is_between node from top n j ≡ false → is_from_on node from n j ≡ true → top ≤ j
    beyond n j is on = test (n == node) is on
      where
        test : (t : Bool) → (t && (nat_le from j && nat_lt j top)) ≡ false → (t && not (nat_lt j from)) ≡ true → top ≤ j
        test t is on = grind (arith, nat_tests)

    none_high : (n j : ℕ) → top ≤ j → (ps : List Piece) → AllByRecursion KeepsPiece ps → piece_at n j ps ≡ None
    none_high n j far [] all = refl
    none_high n j far (p ∷ ps) all = elim (cases_Bool (has_block n j p)) [
      | inl here ↦ let has = has_of n j p here in let to = has.to in let end = all.0.end in absurd (omega (arith, to, end, high, far))
      | inr off ↦ rw off (none_high n j far ps all.1)
    ]

    blocks : (n j : ℕ) → piece_block file k.pieces n j ≡ cond (is_from_on node from n j) None (piece_block file c.pieces n j)
    blocks n j = out.blocks n j ∙ elim (cases_Bool (is_between node from top n j)) [
      | inl inside ↦ rw (inside, less n j inside) refl
      | inr outside ↦ rw outside (elim (cases_Bool (is_from_on node from n j)) [
        | inl on ↦ rw on (ap (block_found file j None) (none_high n j (beyond n j outside on) c.pieces keeps))
        | inr before ↦ rw before refl
      ])
    ]

pub the_layout : (file : List ℕ) (p : ℕ → ℕ → Bool) (c k : Content) → TakenOut file p c k → k.layout ≡ c.layout
the_layout file p c k out = ap (λ (z : Content). z.layout) out.others

pub third_in : (c : Content) (s : State) → c.layout ≡ Third → Inside c s → InsideAs (HoldsIn Third c) s
third_in c s third at = record { is_open = at.is_open; in_transaction = at.in_transaction; holds = (at.holds, third) }

pub third_out : (c : Content) (s : State) → InsideAs (HoldsIn Third c) s → Inside c s
third_out c s at = record { is_open = at.is_open; in_transaction = at.in_transaction; holds = at.holds.0 }
