-- Lists of pieces.
use Rattle.std.proofs.Common.{◌<◌, ◌≤◌, ℕ, zero, suc, List, [], ◌∷◌, ◌++◌, length, refl, inl, inr, arith}
use Rattle.std.specs.Prelude.{slice_index_or}
use Rattle.std.specs.List.{All, AllPairs, Contains}
use Rattle.std.proofs.lemmas.Bool.{cases_lt}
use Rattle.std.proofs.lemmas.List.Elements.{All-cons, All-nil, All-head, All-tail, All-append, All-contains}
use Rattle.std.proofs.lemmas.List.Kept.{AllPairs-cons}
use Rattle.fuse_data.specs.declared.extent.Extent.{Extent}
use Rattle.fuse_data.specs.declared.gaps.Gap.{Gap}
use Rattle.fuse_data.specs.Extents.{past, IsBlockOf, AreDisjoint}
use Rattle.fuse_data.specs.Space.{IsFreeExtent, InUse, IsListed}
use Rattle.guest_values.specs.Space.{ShareNoBlock, FreesSome}

-- ---- parts of a list

pub all_left : {X : Type 0} (P : X → Type 0) (xs ys : List X) → All P (xs ++ ys) → All P xs
all_left P [] ys h = All-nil P
all_left P (x ∷ xs) ys h = All-cons P x xs (All-head P x (xs ++ ys) h) (all_left P xs ys (All-tail P x (xs ++ ys) h))

pub all_right : {X : Type 0} (P : X → Type 0) (xs ys : List X) → All P (xs ++ ys) → All P ys
all_right P [] ys h = h
all_right P (x ∷ xs) ys h = all_right P xs ys (All-tail P x (xs ++ ys) h)

pairs_head : {X : Type 0} (R : X → X → Type 0) (x : X) (xs : List X) → AllPairs R (x ∷ xs) → All (R x) xs
pairs_head R x xs pairs k d low = pairs 0 (suc k) d (omega arith) (omega (arith, low))

pairs_tail : {X : Type 0} (R : X → X → Type 0) (x : X) (xs : List X) → AllPairs R (x ∷ xs) → AllPairs R xs
pairs_tail R x xs pairs i j d before low = pairs (suc i) (suc j) d (omega (arith, before)) (omega (arith, low))

pub pairs_right : {X : Type 0} (R : X → X → Type 0) (xs ys : List X) → AllPairs R (xs ++ ys) → AllPairs R ys
pairs_right R [] ys pairs = pairs
pairs_right R (x ∷ xs) ys pairs = pairs_right R xs ys (pairs_tail R x (xs ++ ys) pairs)

pub pairs_across : {X : Type 0} (R : X → X → Type 0) (xs ys : List X) → AllPairs R (xs ++ ys) → All (λ x. All (R x) ys) xs
pairs_across R [] ys pairs = All-nil (λ x. All (R x) ys)
pairs_across R (x ∷ xs) ys pairs =
    All-cons (λ x. All (R x) ys) x xs (all_right (R x) xs ys (pairs_head R x (xs ++ ys) pairs)) (pairs_across R xs ys (pairs_tail R x (xs ++ ys) pairs))

pub pairs_joined : {X : Type 0} (R : X → X → Type 0) (xs ys : List X) → AllPairs R xs → AllPairs R ys → All (λ x. All (R x) ys) xs → AllPairs R (xs ++ ys)
pairs_joined R [] ys first last across = last
pairs_joined R (x ∷ xs) ys first last across =
    AllPairs-cons R x (xs ++ ys) (All-append (R x) xs ys (pairs_head R x xs first) (All-head (λ x. All (R x) ys) x xs across))
    (pairs_joined R xs ys (pairs_tail R x xs first) last (All-tail (λ x. All (R x) ys) x xs across))

-- ---- blocks of pieces

pub block_of : (ps : List Extent) (b : ℕ) → IsListed ps b → (p : Extent) × Contains ps p × IsBlockOf p b
block_of [] b e = absurd e
block_of (p ∷ later) b e = elim e [
  | inl here ↦ (p, (0, omega arith, refl), here)
  | inr rest ↦ let (q, has, block) = block_of later b rest in (q, (suc has.0, (let low = has.1 in omega arith), has.2), block)
]

pub listed_at : (ps : List Extent) (k : ℕ) (d : Extent) (b : ℕ) → k < length ps → IsBlockOf (slice_index_or ps k d) b → IsListed ps b
listed_at [] k d b low block = absurd (omega arith)
listed_at (p ∷ ps) zero d b low block = inl block
listed_at (p ∷ ps) (suc k) d b low block = inr (listed_at ps k d b (omega (arith, low)) block)

pub turned : (p q : Extent) → AreDisjoint p q → AreDisjoint q p
turned p q (inl first) = inr first
turned p q (inr last) = inl last

-- a free piece and one in use share no block
pub free_apart : (gaps : List Gap) (p q : Extent) → 1 ≤ p.count → 1 ≤ q.count → IsFreeExtent gaps p → InUse gaps q → AreDisjoint p q
free_apart gaps p q some some' free used = elim (cases_lt p.place q.place) [
  | inl less ↦ elim (cases_lt q.place (past p)) [
    | inl common ↦ absurd (used q.place (omega arith, omega arith) (free q.place (omega arith, common)))
    | inr out ↦ inl out
  ]
  | inr more ↦ elim (cases_lt p.place (past q)) [
    | inl common ↦ absurd (used p.place (more, common) (free p.place (omega arith, omega arith)))
    | inr out ↦ inr out
  ]
]

-- what shares no block with the pieces that become free stays in use
pub frees_used : (gs : List Extent) (q : Extent) (g h : List Gap) → FreesSome gs g h → All (λ p. AreDisjoint p q) gs → InUse g q → InUse h q
frees_used gs q g h frees apart used b block free = elim (frees.only b free) [
  | inl was ↦ used b block was
  | inr mine ↦
      let (p, has, inside) = block_of gs b mine in
      elim (All-contains (λ p. AreDisjoint p q) gs p apart has) [
        | inl after ↦ omega (arith, inside.1, block.0, after)
        | inr before ↦ omega (arith, inside.0, block.1, before)
      ]
]

pub apart_from : (ps qs : List Extent) (q : Extent) → ShareNoBlock ps qs → Contains qs q → All (λ p. AreDisjoint p q) ps
apart_from ps qs q apart has k d low = All-contains (AreDisjoint (slice_index_or ps k d)) qs q (apart k d low) has
