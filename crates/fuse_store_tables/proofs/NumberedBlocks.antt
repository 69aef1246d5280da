-- How many numbers of a range have a block.
use Rattle.std.proofs.Common.{◌≡◌, ◌≤◌, ◌<◌, ◌⊎◌, inl, inr, ◌+◌, ◌-◌, ℕ, zero, suc, List, [], ◌∷◌, filter, length, Bool, true, false, cond, ◌&&◌, ◌||◌, Some, None, Option, Result, Ok, Err, IfOk, refl, sym, ap, subst, arith, ◌∙◌}
use Rattle.std.specs.List.{AllByRecursion}
use Rattle.std.specs.Option.{is_some, option_to_list}
use Rattle.std.specs.Ordering.{is_eq, is_ge, is_lt, nat_cmp}
use Rattle.std.proofs.lemmas.Bool.{cases_Bool, cases_lt}
use Rattle.std.proofs.lemmas.Bool.Decides.{nat_tests}
use Rattle.fuse_keeper.specs.declared.fault.StoreFault.{StoreFault}
use Rattle.fuse_rows.specs.Blocks.{numbers_from}
use Rattle.sqlite.specs.State.{State}
use Rattle.fuse_store_tables.specs.Blocks.{Block, block_at, is_at}
use Rattle.fuse_store_tables.specs.Ranges.{is_between}
use Rattle.fuse_store_tables.specs.Content.{Content}
use Rattle.fuse_store_tables.specs.Moves.{Inside}
use Rattle.fuse_store_tables.proofs.Apart.{AreApart, blocks_apart}
use Rattle.fuse_store_tables.proofs.BlockRanges.{both_of}
use Rattle.fuse_store_tables.proofs.BlockRows.{both_are, found_one, same_number}

-- ---- Booleans and comparisons

same_bool : (a b : Bool) → (a ≡ true → b ≡ true) → (b ≡ true → a ≡ true) → a ≡ b
same_bool true b there back = sym (there refl)
same_bool false true there back = back refl
same_bool false false there back = refl

or_left : (a b : Bool) → a ≡ true → (a || b) ≡ true
or_left true b p = refl
or_left false b p = absurd cc

or_right : (a b : Bool) → b ≡ true → (a || b) ≡ true
or_right true b p = refl
or_right false b p = p

or_cases : (a b : Bool) → (a || b) ≡ true → (a ≡ true) ⊎ (b ≡ true)
or_cases true b p = inl refl
or_cases false b p = inr p

eq_of : (m n : ℕ) → m ≡ n → is_eq (nat_cmp m n) ≡ true
eq_of m n same = grind (arith, nat_tests)

of_ge : (m n : ℕ) → is_ge (nat_cmp m n) ≡ true → n ≤ m
of_ge m n is = grind (arith, nat_tests)

ge_of : (m n : ℕ) → n ≤ m → is_ge (nat_cmp m n) ≡ true
ge_of m n high = grind (arith, nat_tests)

of_lt : (m n : ℕ) → is_lt (nat_cmp m n) ≡ true → m < n
of_lt m n is = grind (arith, nat_tests)

lt_of : (m n : ℕ) → m < n → is_lt (nat_cmp m n) ≡ true
lt_of m n low = grind (arith, nat_tests)

-- ---- two parts of a list

one_more : {X : Type 0} (a : Bool) (x : X) (xs : List X) → length (cond a (x ∷ xs) xs) ≡ cond a 1 0 + length xs
one_more true x xs = omega arith
one_more false x xs = omega arith

bits : (a b d : Bool) → a ≡ (b || d) → (b ≡ true → d ≡ false) → cond a 1 0 ≡ cond b 1 0 + cond d 1 0
bits a true true is apart = absurd (let off = apart refl in cc)
bits a true false is apart = ap (λ t. cond t 1 0) is
bits a false true is apart = ap (λ t. cond t 1 0) is
bits a false false is apart = ap (λ t. cond t 1 0) is

two_parts : (p q r : Block → Bool) → ((b : Block) → p b ≡ (q b || r b)) → ((b : Block) → q b ≡ true → r b ≡ false) → (bs : List Block)
    → length (filter p bs) ≡ length (filter q bs) + length (filter r bs)
two_parts p q r is apart [] = refl
two_parts p q r is apart (b ∷ bs) =
    let more = two_parts p q r is apart bs in
    let first : length (filter p (b ∷ bs)) ≡ cond (p b) 1 0 + length (filter p bs) = one_more (p b) b (filter p bs) in
    let second : length (filter q (b ∷ bs)) ≡ cond (q b) 1 0 + length (filter q bs) = one_more (q b) b (filter q bs) in
    let third : length (filter r (b ∷ bs)) ≡ cond (r b) 1 0 + length (filter r bs) = one_more (r b) b (filter r bs) in
    omega (arith, more, first, second, third, bits (p b) (q b) (r b) (is b) (apart b))

-- ---- the first number of a range, and the others

splits : (node from n : ℕ) (b : Block) → is_between node from (from + suc n) b ≡ (is_at node from b || is_between node (from + 1) (from + 1 + n) b)
splits node from n b = same_bool _ _ there back
  where
    there : is_between node from (from + suc n) b ≡ true → (is_at node from b || is_between node (from + 1) (from + 1 + n) b) ≡ true
    there h =
        let one = both_are _ _ h in
        let two = both_are _ _ one.1 in
        let low = of_ge b.block from two.0 in
        let high = of_lt b.block (from + suc n) two.1 in
        elim (cases_lt from b.block) [
          | inl above ↦
              or_right (is_at node from b) (is_between node (from + 1) (from + 1 + n) b)
              (both_of _ _ one.0 (both_of _ _ (ge_of b.block (from + 1) (omega (arith, above))) (lt_of b.block (from + 1 + n) (omega (arith, high)))))
          | inr below ↦
              or_left (is_at node from b) (is_between node (from + 1) (from + 1 + n) b) (both_of _ _ one.0 (eq_of b.block from (omega (arith, low, below))))
        ]

    back : (is_at node from b || is_between node (from + 1) (from + 1 + n) b) ≡ true → is_between node from (from + suc n) b ≡ true
    back h = elim (or_cases (is_at node from b) (is_between node (from + 1) (from + 1 + n) b) h) [
      | inl at ↦
          let one = both_are _ _ at in
          let same = same_number b.block from one.1 in
          both_of _ _ one.0 (both_of _ _ (ge_of b.block from (omega (arith, same))) (lt_of b.block (from + suc n) (omega (arith, same))))
      | inr between ↦
          let one = both_are _ _ between in
          let two = both_are _ _ one.1 in
          let low = of_ge b.block (from + 1) two.0 in
          let high = of_lt b.block (from + 1 + n) two.1 in
          both_of _ _ one.0 (both_of _ _ (ge_of b.block from (omega (arith, low))) (lt_of b.block (from + suc n) (omega (arith, high))))
    ]

after : (node from to : ℕ) (b : Block) → is_at node from b ≡ true → is_between node (from + 1) to b ≡ false
after node from to b at = elim (cases_Bool (is_between node (from + 1) to b)) [
  | inl between ↦
      let low = of_ge b.block (from + 1) (both_are _ _ (both_are _ _ between).1).0 in
      let same = same_number b.block from (both_are _ _ at).1 in
      absurd (omega (arith, low, same))
  | inr off ↦ off
]

none : (node from to : ℕ) → to ≤ from → (bs : List Block) → length (filter (is_between node from to) bs) ≡ 0
none node from to empty [] = refl
none node from to empty (b ∷ bs) = elim (cases_Bool (is_between node from to b)) [
  | inl between ↦
      let two = both_are _ _ (both_are _ _ between).1 in
      absurd (omega (arith, empty, of_ge b.block from two.0, of_lt b.block to two.1))
  | inr off ↦ ap (λ t. length (cond t (b ∷ filter (is_between node from to) bs) (filter (is_between node from to) bs))) off ∙ none node from to empty bs
]

-- ---- each number has one block at most

abbrev has : ℕ → List Block → ℕ → Bool
has node bs k = is_some (block_at node k bs)

many : (o : Option Block) → length (option_to_list o) ≡ cond (is_some o) 1 0
many None = refl
many (Some b) = refl

one_at : (node k : ℕ) (bs : List Block) → AreApart bs → length (filter (is_at node k) bs) ≡ cond (has node bs k) 1 0
one_at node k bs apart = ap length (found_one node k bs apart) ∙ many (block_at node k bs)

from_on : (node from n : ℕ) (bs : List Block) → AreApart bs
    → length (filter (is_between node from (from + n)) bs) ≡ length (filter (has node bs) (numbers_from from n))
from_on node from zero bs apart = none node from (from + 0) (omega arith) bs
from_on node from (suc n) bs apart =
    let parts = two_parts (is_between node from (from + suc n)) (is_at node from) (is_between node (from + 1) (from + 1 + n)) (splits node from n)
    (after node from (from + 1 + n)) bs in
    let first = one_at node from bs apart in
    let rest = from_on node (from + 1) n bs apart in
    let all : length (filter (has node bs) (numbers_from from (suc n))) ≡ cond (has node bs from) 1 0 + length (filter (has node bs) (numbers_from (from + 1) n)) =
    one_more (has node bs from) from (filter (has node bs) (numbers_from (from + 1) n)) in
    omega (arith, parts, first, rest, all)

numbered : (node from to : ℕ) (bs : List Block) → AreApart bs
    → length (filter (is_between node from to) bs) ≡ length (filter (has node bs) (numbers_from from (to - from)))
numbered node from to bs apart = elim (cases_lt from to) [
  | inl some ↦
      let end : from + (to - from) ≡ to = omega (arith, some) in
      subst (λ k. length (filter (is_between node from k) bs) ≡ length (filter (has node bs) (numbers_from from (to - from)))) end
      (from_on node from (to - from) bs apart)
  | inr empty ↦
      let zeroed : to - from ≡ 0 = omega (arith, empty) in
      subst (λ n. length (filter (is_between node from to) bs) ≡ length (filter (has node bs) (numbers_from from n))) (sym zeroed) (none node from to empty bs)
]

-- a count of blocks is one of numbers
pub told_numbers : (node from to : ℕ) (a : State) (r : Result ℕ StoreFault)
    → IfOk r (λ n. (c : Content) → Inside c a → n ≡ length (filter (is_between node from to) c.blocks))
    → IfOk r (λ n. (c : Content) → Inside c a → n ≡ length (filter (λ k. is_some (block_at node k c.blocks)) (numbers_from from (to - from))))
told_numbers node from to a (Ok n) told = λ c at. told c at ∙ numbered node from to c.blocks (blocks_apart c a.now at.holds)
told_numbers node from to a (Err f) told = tt
