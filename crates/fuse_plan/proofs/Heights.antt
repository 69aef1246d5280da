-- Ways up in a tree: each ends, within as many steps as there are nodes.
use Rattle.std.proofs.Common.{◌≡◌, ◌≢◌, ◌<◌, ◌≤◌, ◌+◌, ◌-◌, ◌||◌, ℕ, zero, suc, Bool, true, false, not, cond, eqb, List, [], ◌∷◌, length, refl, sym, ap, subst, ◌∙◌, arith}
use Rattle.std.specs.Prelude.{filter}
use Rattle.std.specs.List.{AllByRecursion, list_any}
use Rattle.std.proofs.lemmas.Bool.{eqb-true, eqb-false, ne_eqb, eq-eqb}
use Rattle.fuse_rows.specs.declared.rows.EntryRow.{EntryRow}
use Rattle.fuse_tree.specs.State.{State, terms_of, Node, Shape, IsNode, IsEntry, Reaches, above, is_dir_of, has_number, up_of}
use Rattle.fuse_plan.proofs.Lists.{all_more, any_gives, any_kept, and_true, length_filtered}
use Rattle.fuse_plan.proofs.Ups.{named_reaches}

-- ---- where nothing lies above

-- no entry leads to the node
pub up_none : (es : List EntryRow) (k : ℕ) → AllByRecursion (λ e. e.child ≢ k) es → up_of es k ≡ 0
up_none [] k children = refl
up_none (e ∷ es) k children = rw (ne_eqb e.child k children.0) (up_none es k children.1)

pub stays_none : (es : List EntryRow) → up_of es 0 ≡ 0 → (steps : ℕ) → above es steps 0 ≡ 0
stays_none es none zero = refl
stays_none es none (suc steps) = ap (above es steps) none ∙ stays_none es none steps

-- nothing lies above 0 and above the root
pub record IsRooted (es : List EntryRow) : Type 0 where
  pub none : up_of es 0 ≡ 0
  pub top : up_of es 1 ≡ 0

pub dirs_given : (s : State) → Shape s → AllByRecursion (λ e. e.dir ≢ 0) s.entries
dirs_given s tree =
    all_more (IsEntry s.nodes s.entries s.next_cookie) (λ e. e.dir ≢ 0) s.entries
    (λ e p. any_gives (IsNode (terms_of s) s.next_node) (is_dir_of e.dir) (e.dir ≢ 0) s.nodes tree.nodes p.dir
    (λ n q is. let at : n.number ≡ e.dir = eqb-true n.number e.dir (and_true _ _ is).0 in let one : 1 ≤ n.number = q.from_one in omega arith))
    tree.entries

pub children_given : (s : State) → Shape s → AllByRecursion (λ e. e.child ≢ 0) s.entries
children_given s tree =
    all_more (IsEntry s.nodes s.entries s.next_cookie) (λ e. e.child ≢ 0) s.entries
    (λ e p. any_gives (IsNode (terms_of s) s.next_node) (has_number e.child) (e.child ≢ 0) s.nodes tree.nodes p.child
    (λ n q is. let at : n.number ≡ e.child = eqb-true n.number e.child is in let one : 1 ≤ n.number = q.from_one in omega arith))
    tree.entries

pub rooted : (s : State) → Shape s → IsRooted s.entries
rooted s tree = record {
  none = up_none s.entries 0 (children_given s tree);
  top = up_none s.entries 1 (all_more (IsEntry s.nodes s.entries s.next_cookie) (λ e. e.child ≢ 1) s.entries (λ e p. p.not_root) tree.entries);
}

past_top : (es : List EntryRow) → IsRooted es → (steps : ℕ) → above es (suc steps) 1 ≡ 0
past_top es root steps = ap (above es steps) root.top ∙ stays_none es root.none steps

-- ---- heights

pub above_on : (es : List EntryRow) (i j k : ℕ) → above es (i + j) k ≡ above es j (above es i k)
above_on es zero j k = let e : 0 + j ≡ j = omega arith in ap (λ (n : ℕ). above es n k) e
above_on es (suc i) j k = let e : suc i + j ≡ suc (i + j) = omega arith in ap (λ (n : ℕ). above es n k) e ∙ above_on es i j (up_of es k)

-- a node stands at one height
pub one_height : (es : List EntryRow) → IsRooted es → (i j k : ℕ) → above es i k ≡ 1 → above es j k ≡ 1 → i ≤ j
one_height es root zero j k here there = omega arith
one_height es root (suc i) zero k here there = absurd (let e = ap (above es (suc i)) (sym there) in let f = past_top es root i in cc)
one_height es root (suc i) (suc j) k here there = let rest = one_height es root i j (up_of es k) here there in omega arith

-- what a way up passes are nodes
child_there : (ns : List Node) (es : List EntryRow) (k : ℕ) → AllByRecursion (λ e. list_any (has_number e.child) ns ≡ true) es → up_of es k ≢ 0
    → list_any (has_number k) ns ≡ true
child_there ns [] k there up = absurd (up refl)
child_there ns (e ∷ es) k there up =
    let step : (b : Bool) → eqb e.child k ≡ b → cond b e.dir (up_of es k) ≢ 0 → list_any (has_number k) ns ≡ true =
    elim [
      | true ↦ λ is ne. subst (λ (i : ℕ). list_any (has_number i) ns ≡ true)
          (eqb-true e.child k is) there.0
      | false ↦ λ is ne. child_there ns es k there.1 ne
    ] in
    step (eqb e.child k) refl up

any_more : {A : Type 0} (p q : A → Bool) (xs : List A) → ((x : A) → p x ≡ true → q x ≡ true) → list_any p xs ≡ true → list_any q xs ≡ true
any_more p q [] more is = absurd cc
any_more p q (x ∷ xs) more is =
    let step : (b : Bool) → p x ≡ b → (b || list_any p xs) ≡ true → (q x || list_any q xs) ≡ true =
    elim [ true ↦ λ here e. rw (more x here) refl | false ↦ λ here e. rw (any_more p q xs more e) (or_true (q x)) ] in
    step (p x) refl is
  where
    or_true : (b : Bool) → (b || true) ≡ true
    or_true true = refl
    or_true false = refl

-- from where going up reaches the root, there is a node
pub climber_there : (s : State) → Shape s → (i k : ℕ) → above s.entries i k ≡ 1 → list_any (has_number k) s.nodes ≡ true
climber_there s tree zero k at =
    any_more (is_dir_of 1) (has_number k) s.nodes (λ n is. eq-eqb n.number k (eqb-true n.number 1 (and_true _ _ is).0 ∙ sym at)) tree.root
climber_there s tree (suc i) k at =
    child_there s.nodes s.entries k
    (all_more (IsEntry s.nodes s.entries s.next_cookie) (λ e. list_any (has_number e.child) s.nodes ≡ true) s.entries (λ e p. p.child) tree.entries)
    (λ none. let e = ap (above s.entries i) none in let f = stays_none s.entries (rooted s tree).none i in absurd cc)

-- ---- as many steps as there are nodes

shorter : {A : Type 0} (test : A → Bool) (xs : List A) → list_any test xs ≡ true → length (filter (λ x. not (test x)) xs) < length xs
shorter test [] is = absurd cc
shorter test (x ∷ xs) is =
    let step : (b : Bool) → (b || list_any test xs) ≡ true → length (cond (not b) (x ∷ filter (λ y. not (test y)) xs) (filter (λ y. not (test y)) xs)) < length
    (x ∷ xs) =
    elim [
      | true ↦ λ here. let less = length_filtered (λ y. not (test y)) xs in omega arith
      | false ↦ λ there. let less = shorter test xs there in omega arith
    ] in
    step (test x) is

-- tests of which no element passes two, and each is passed: there are as many elements
pigeons : {A : Type 0} (test : ℕ → A → Bool) → ((i j : ℕ) (x : A) → test i x ≡ true → test j x ≡ true → i ≡ j) → (n : ℕ) (xs : List A)
    → ((i : ℕ) → i < n → list_any (test i) xs ≡ true) → n ≤ length xs
pigeons test one zero xs all = omega arith
pigeons test one (suc n) xs all =
    let last : n < suc n = omega arith in
    let rest : n ≤ length (filter (λ x. not (test n x)) xs) =
    pigeons test one n (filter (λ x. not (test n x)) xs)
    (λ i lt. let less : i < suc n = omega arith in any_kept (test i) (λ x. not (test n x)) xs (λ x is. fails i x lt is (test n x) refl) (all i less)) in
    let less = shorter (test n) xs (all n last) in
    omega arith
  where
    fails : (i : ℕ) (x : _) → i < n → test i x ≡ true → (b : Bool) → test n x ≡ b → not b ≡ true
    fails i x lt is true at = absurd (let same = one i n x is at in omega arith)
    fails i x lt is false at = refl

-- a way up to the root passes as many nodes as it has steps, and one more
few_steps : (s : State) → Shape s → (m k : ℕ) → above s.entries m k ≡ 1 → m < length s.nodes
few_steps s tree m k at =
    let root = rooted s tree in
    let each : (i : ℕ) → i < suc m → list_any (λ (n : Node). eqb (above s.entries i n.number) 1) s.nodes ≡ true =
    λ i lt. (
    let split : m ≡ (m - i) + i = omega arith in
    let there : above s.entries i (above s.entries (m - i) k) ≡ 1 =
    sym (above_on s.entries (m - i) i k) ∙ ap (λ (n : ℕ). above s.entries n k) (sym split) ∙ at in
    any_more (has_number (above s.entries (m - i) k)) (λ n. eqb (above s.entries i n.number) 1) s.nodes
    (λ n is. eq-eqb _ 1 (ap (above s.entries i) (eqb-true n.number _ is) ∙ there)) (climber_there s tree i (above s.entries (m - i) k) there)) in
    let enough = pigeons (λ i n. eqb (above s.entries i n.number) 1) (λ i j n here there. (
    let one = eqb-true _ 1 here in let two = eqb-true _ 1 there in
    let le = one_height s.entries root i j n.number one two in let ge = one_height s.entries root j i n.number two one in
    omega arith)) (suc m) s.nodes each in
    omega arith

-- each way up ends within as many steps as there are nodes
pub ends_within : (s : State) → Shape s → (k : ℕ) → above s.entries (length s.nodes) k ≡ 0
ends_within s tree k = step (eqb (up_of s.entries k) 0) refl
  where
    root : IsRooted s.entries
    root = rooted s tree

    some : 0 < length s.nodes
    some = few_steps s tree 0 1 refl

    step : (b : Bool) → eqb (up_of s.entries k) 0 ≡ b → above s.entries (length s.nodes) k ≡ 0
    step true is =
        let split : length s.nodes ≡ suc (length s.nodes - 1) = omega (arith, some) in
        ap (λ (n : ℕ). above s.entries n k) split ∙ ap (above s.entries (length s.nodes - 1)) (eqb-true _ 0 is)
        ∙ stays_none s.entries root.none (length s.nodes - 1)
    step false is =
        let climb =
        named_reaches s.entries k (all_more (IsEntry s.nodes s.entries s.next_cookie) (λ e. Reaches s.entries e.dir) s.entries (λ e p. p.reaches) tree.entries)
        (eqb-false _ 0 is) in
        let less = few_steps s tree climb.0 k climb.1 in
        let split : length s.nodes ≡ climb.0 + suc (length s.nodes - suc climb.0) = omega arith in
        let left = length s.nodes - suc climb.0 in
        ap (λ (n : ℕ). above s.entries n k) split ∙ above_on s.entries climb.0 (suc left) k ∙ ap (above s.entries (suc left)) climb.1
        ∙ past_top s.entries root left

-- no node lies under itself
pub not_under_own : (es : List EntryRow) → IsRooted es → (k q : ℕ) → up_of es k ≡ q → Reaches es q → (n : ℕ) → above es n q ≢ k
not_under_own es root k q up climb n under =
    let m = climb.0 in
    let high : above es (suc m) k ≡ 1 = ap (above es m) up ∙ climb.1 in
    let round : above es (n + suc m) q ≡ 1 = above_on es n (suc m) q ∙ ap (above es (suc m)) under ∙ high in
    let le = one_height es root (n + suc m) m q round climb.1 in
    omega arith
