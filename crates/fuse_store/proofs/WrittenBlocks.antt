-- The rows of `blocks` of a node are as many as its written blocks.
use Rattle.std.proofs.Common.{◌≡◌, ◌≤◌, ◌<◌, ◌^◌, ◌==◌, ◌&&◌, ◌||◌, ℕ, List, [], ◌∷◌, map, filter, find, length, Bool, true, false, cond, Option, Some, None, inl, inr, min}
use Rattle.std.proofs.Common.{refl, sym, ap, subst, arith, ◌∙◌}
use Rattle.std.specs.List.{AllByRecursion, IsDistinct, list_any}
use Rattle.std.specs.Option.{is_some}
use Rattle.std.specs.Ordering.{is_eq, nat_cmp}
use Rattle.std.specs.Cmp.{nat_eq_equiv}
use Rattle.std.proofs.Math.Dec.{eqb}
use Rattle.std.proofs.lemmas.Bool.{cases_Bool}
use Rattle.std.proofs.lemmas.Bool.Decides.{nat_tests}
use Rattle.std.proofs.lemmas.List.{length-map}
use Rattle.std.proofs.lemmas.Map.Made.{length-from_same_keys}
use Rattle.std.proofs.lemmas.Map.Steps.{length-le_from_distinct_below}
use Rattle.sqlite_trees.specs.Tree.{IsAscending}
use Rattle.fuse_tree.specs.State.{Apart}
use Rattle.fuse_store_tables.specs.Blocks.{Block, block_at, is_at}
use Rattle.fuse_store_tables.specs.Counted.{counted_to}
use Rattle.fuse_store_tables.specs.Migrating.{is_block_of}
use Rattle.fuse_store_tree.specs.Store.{is_among}

-- the numbers of the blocks of a node
abbrev numbers_of : ℕ → List Block → List ℕ
numbers_of node bs = map (λ (b : Block). b.block) (filter (is_block_of node) bs)

abbrev pub NoneTwice : List Block → Type 0
NoneTwice = IsAscending (λ a b. is_at a.node a.block b ≡ false)

-- ---- none comes twice

other_block : (node block : ℕ) (b : Block) → is_block_of node b ≡ true → is_at node block b ≡ false → eqb block b.block ≡ false
other_block node block b here off = by (is_block_of node b) (is_eq (nat_cmp b.block block)) refl here off
  where
    unequal : (k m : ℕ) → is_eq (nat_cmp k m) ≡ false → eqb m k ≡ false
    unequal k m is = grind (arith, nat_tests)

    by : (p q : Bool) → is_eq (nat_cmp b.block block) ≡ q → p ≡ true → (p && q) ≡ false → eqb block b.block ≡ false
    by true false is here off = unequal b.block block is
    by true true is here off = absurd cc
    by false q is here off = absurd cc

others : (node block : ℕ) (bs : List Block) → AllByRecursion (λ b. is_at node block b ≡ false) bs → AllByRecursion (λ k. eqb block k ≡ false) (numbers_of node bs)
others node block [] all = tt
others node block (b ∷ bs) all = by (others node block bs all.1) (is_block_of node b) refl
  where
    by : AllByRecursion (λ k. eqb block k ≡ false) (numbers_of node bs) → (t : Bool) → is_block_of node b ≡ t
        → AllByRecursion (λ k. eqb block k ≡ false) (map (λ (b : Block). b.block) (cond t (b ∷ filter (is_block_of node) bs) (filter (is_block_of node) bs)))
    by more true here = (other_block node block b here all.0, more)
    by more false off = more

same_node : (m n : ℕ) → is_eq (nat_cmp m n) ≡ true → m ≡ n
same_node m n is = grind (arith, nat_tests)

distinct : (node : ℕ) (bs : List Block) → NoneTwice bs → IsDistinct eqb (numbers_of node bs)
unfolding IsDistinct
distinct node [] apart = tt
distinct node (a ∷ bs) apart = by (distinct node bs apart.1) (is_block_of node a) refl
  where
    by : IsDistinct eqb (numbers_of node bs) → (t : Bool) → is_block_of node a ≡ t
        → IsDistinct eqb (map (λ (b : Block). b.block) (cond t (a ∷ filter (is_block_of node) bs) (filter (is_block_of node) bs)))
    by more true here = (others node a.block bs (subst (λ n. AllByRecursion (λ b. is_at n a.block b ≡ false) bs) (same_node a.node node here) apart.0), more)
    by more false off = more

rising : (ks : List ℕ) → Apart (λ b later. b < later) ks → IsDistinct eqb ks
unfolding IsDistinct
rising [] rise = tt
rising (k ∷ ks) rise = (above k ks rise.0, rising ks rise.1)
  where
    unequal : (k m : ℕ) → k < m → eqb k m ≡ false
    unequal k m low = grind (arith, nat_tests)

    above : (k : ℕ) (ms : List ℕ) → AllByRecursion (λ later. k < later) ms → AllByRecursion (λ m. eqb k m ≡ false) ms
    above k [] all = tt
    above k (m ∷ ms) all = (unequal k m all.0, above k ms all.1)

-- ---- both have the same members

same_test : (a b : ℕ) → is_eq (nat_cmp a b) ≡ eqb b a
same_test a b = elim (cases_Bool (eqb b a)) [
  | inl here ↦ (let e : is_eq (nat_cmp a b) ≡ true = grind (arith, nat_tests) in e) ∙ sym here
  | inr off ↦ (let e : is_eq (nat_cmp a b) ≡ false = grind (arith, nat_tests) in e) ∙ sym off
]

listed : (node : ℕ) (bs : List Block) (k : ℕ) → is_some (block_at node k bs) ≡ list_any (eqb k) (numbers_of node bs)
listed node [] k = refl
listed node (b ∷ bs) k = by (listed node bs k) (is_block_of node b) refl
  where
    found : is_some (block_at node k bs) ≡ list_any (eqb k) (numbers_of node bs) → (q : Bool) → is_eq (nat_cmp b.block k) ≡ q
        → is_some (cond q (Some b) (block_at node k bs)) ≡ (q || list_any (eqb k) (numbers_of node bs))
    found more true is = refl
    found more false is = more

    by : is_some (block_at node k bs) ≡ list_any (eqb k) (numbers_of node bs) → (t : Bool) → is_block_of node b ≡ t → is_some (cond (t && is_eq (nat_cmp b.block k)) (Some b) (block_at node k bs))
        ≡ list_any (eqb k) (map (λ (b : Block). b.block) (cond t (b ∷ filter (is_block_of node) bs) (filter (is_block_of node) bs)))
    by more true here =
        found more (is_eq (nat_cmp b.block k)) refl ∙ ap (λ q. q || list_any (eqb k) (numbers_of node bs)) (same_test b.block k)
    by more false off = more

among : (ks : List ℕ) (k : ℕ) → is_among ks k ≡ list_any (eqb k) ks
among [] k = refl
among (m ∷ ks) k = ap (λ b. b || is_among ks k) (nat_eq_equiv.symm m k) ∙ ap (λ b. eqb k m || b) (among ks k)

pub as_many : (node : ℕ) (bs : List Block) (ks : List ℕ) → NoneTwice bs → Apart (λ b later. b < later) ks
    → ((k : ℕ) → is_some (block_at node k bs) ≡ is_among ks k) → length (filter (is_block_of node) bs) ≡ length ks
as_many node bs ks apart rise same =
    sym (length-map (filter (is_block_of node) bs) (λ (b : Block). b.block))
    ∙ length-from_same_keys nat_eq_equiv (numbers_of node bs) ks (distinct node bs apart) (rising ks rise) (λ k. sym (listed node bs k) ∙ same k ∙ among ks k)

-- ---- and are few

below_all : (ks : List ℕ) (end : ℕ) → AllByRecursion (λ b. b < end) ks → (q : ℕ) → list_any (eqb q) ks ≡ true → q < end
below_all [] end all q any = absurd cc
below_all (k ∷ ks) end all q any = elim (cases_Bool (eqb q k)) [
  | inl here ↦ let same : q ≡ k = grind (arith, nat_tests) in subst (λ n. n < end) (sym same) all.0
  | inr off ↦ below_all ks end all.1 q (sym (ap (λ b. b || list_any (eqb q) ks) off) ∙ any)
]

pub few_of : (ks : List ℕ) (end : ℕ) → Apart (λ b later. b < later) ks → AllByRecursion (λ b. b < end) ks → length ks ≤ end
few_of ks end rise all = length-le_from_distinct_below ks end (rising ks rise) (below_all ks end all)

least : (n : ℕ) → n ≤ 9223372036854775807 → min n 9223372036854775807 ≡ n
least n low = omega (arith, low)

pub counted_as : (node : ℕ) (bs : List Block) (ks : List ℕ) → NoneTwice bs → Apart (λ b later. b < later) ks
    → ((k : ℕ) → is_some (block_at node k bs) ≡ is_among ks k) → length ks ≤ 9223372036854775807 → counted_to (filter (is_block_of node) bs) ≡ length ks
counted_as node bs ks apart rise same low =
    ap (λ n. min n 9223372036854775807) (as_many node bs ks apart rise same) ∙ least (length ks) low
