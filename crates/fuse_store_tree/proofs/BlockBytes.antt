-- What a block that is written does to the bytes of a node.
use Rattle.std.proofs.Common.{◌≡◌, ◌<◌, ◌≤◌, ◌+◌, ◌-◌, ◌*◌, ◌/◌, ◌%◌, ◌==◌, ◌&&◌, inl, inr, ℕ, zero, suc, List, [], ◌∷◌, ◌++◌, take, drop, length, filter, Option}
use Rattle.std.proofs.Common.{find, fold, not, nat_lt, Bool, true, false, cond, Some, None, refl, sym, ap, subst, arith, ◌∙◌}
use Rattle.std.specs.List.{AllByRecursion}
use Rattle.std.specs.Prelude.{◌||◌, nat_le, unwrap_or, option_map}
use Rattle.std.specs.Option.{is_some}
use Rattle.std.proofs.lemmas.Bool.{cases_Bool}
use Rattle.std.proofs.lemmas.Bool.Decides.{nat_tests}
use Rattle.fuse_rows.specs.Bounds.{block_bytes}
use Rattle.fuse_store_tables.specs.Blocks.{Block, block_at, is_at, new_block, next_slot, rewritten, set_at}
use Rattle.fuse_store_tables.specs.Pieces.{Piece}
use Rattle.fuse_store_tables.specs.Content.{Content, put_by, put_at, put_block}
use Rattle.fuse_rows.specs.Blocks.{first_touched, touched_end}
use Rattle.fuse_store_tree.specs.Pieces.{block_found, stored_block, is_written_in, piece_at, byte_at, byte_in}
use Rattle.std.proofs.lemmas.List.{get_or-take, get_or-drop}
use Rattle.std.proofs.Math.ListN.{get_or-append}
use Rattle.std.proofs.Math.Seq.{get_or-append_right}
use Rattle.fuse_store_tree.specs.Store.{IsWrittenAs}
use Rattle.fuse_store_tree.specs.inner.Reading.{whole_of}
use Rattle.fuse_store_tree.specs.inner.Writing.{overlay, spliced, wrote_between}
use Rattle.fuse_store_tree.proofs.Ranges.{whole_byte}
use Rattle.fuse_store_tree.proofs.Described.{Rises, put_last, same_test, grouped}
use Rattle.fuse_store_tree.proofs.Orders.{all_put}

abbrev slot : Block → ℕ
slot b = b.slot

abbrev next_from : ℕ → List Block → ℕ
next_from a bs = fold (λ _ b. b.slot + 1) a bs

above_all : (a : ℕ) (bs : List Block) → Rises slot bs → AllByRecursion (λ b. a ≤ b.slot) bs → (a ≤ next_from a bs)
    × AllByRecursion (λ b. b.slot < next_from a bs) bs
above_all a [] rises low = (omega arith, tt)
above_all a (b ∷ bs) rises low =
    let more = above_all (b.slot + 1) bs rises.1 (up bs rises.0) in
    (omega (arith, low.0, more.0), (omega (arith, more.0), more.1))
  where
    up : (xs : List Block) → AllByRecursion (λ x. b.slot < x.slot) xs → AllByRecursion (λ x. b.slot + 1 ≤ x.slot) xs
    up [] all = tt
    up (x ∷ xs) all = (omega (arith, all.0), up xs all.1)

next_above : (bs : List Block) → Rises slot bs → AllByRecursion (λ b. b.slot < next_slot bs) bs
next_above [] rises = tt
next_above (b ∷ bs) rises =
    let more = above_all (b.slot + 1) bs rises.1 (up bs rises.0) in
    (omega (arith, more.0), more.1)
  where
    up : (xs : List Block) → AllByRecursion (λ x. b.slot < x.slot) xs → AllByRecursion (λ x. b.slot + 1 ≤ x.slot) xs
    up [] all = tt
    up (x ∷ xs) all = (omega (arith, all.0), up xs all.1)

pub put_new : (node block : ℕ) (bytes : List ℕ) (bs : List Block) → Rises slot bs → put_by slot (new_block node block bytes bs) bs ≡ bs
    ++ new_block node block bytes bs ∷ []
put_new node block bytes bs rises = put_last slot (new_block node block bytes bs) bs (next_above bs rises)

find_last : (p : Block → Bool) (xs : List Block) (y : Block) → find p xs ≡ None → p y ≡ true → find p (xs ++ y ∷ []) ≡ Some y
find_last p [] y none here = rw here refl
find_last p (x ∷ xs) y none here = elim (cases_Bool (p x)) [
  | inl found ↦ absurd (let e = rw found at none in cc)
  | inr not_found ↦ rw not_found (find_last p xs y (rw not_found at none) here)
]

find_before : (p : Block → Bool) (xs : List Block) (y : Block) → p y ≡ false → find p (xs ++ y ∷ []) ≡ find p xs
find_before p [] y not_here = rw not_here refl
find_before p (x ∷ xs) y not_here = elim (cases_Bool (p x)) [
  | inl found ↦ rw found refl
  | inr not_found ↦ rw not_found (find_before p xs y not_here)
]

pub others_left : (p q : Block → Bool) → ((b : Block) → p b ≡ true → q b ≡ false) → (xs : List Block) → find p (filter (λ x. not (q x)) xs) ≡ find p xs
others_left p q apart [] = refl
others_left p q apart (x ∷ xs) = elim (cases_Bool (p x)) [
  | inl here ↦ rw (here, apart x here) (rw here refl)
  | inr not_here ↦ rw not_here (by (q x) (others_left p q apart xs) not_here)
]
  where
    by : (b : Bool) → find p (filter (λ y. not (q y)) xs) ≡ find p xs → p x ≡ false
        → find p (cond (not b) (x ∷ filter (λ y. not (q y)) xs) (filter (λ y. not (q y)) xs)) ≡ find p xs
    by true e miss = e
    by false e miss = rw miss e

place_test : (node block n k : ℕ) (bytes : List ℕ) (bs : List Block) → is_at n k (new_block node block bytes bs) ≡ ((node == n) && (block == k))
place_test node block n k bytes bs = rw (same_test node n, same_test block k) refl

same_place : (node block n k : ℕ) (b : Block) → ((node == n) && (block == k)) ≡ false → is_at n k b ≡ true → is_at node block b ≡ false
same_place node block n k b apart is =
    rw (same_test b.node node, same_test b.block block) (told node block n k b.node b.block apart (rw (same_test b.node n, same_test b.block k) at is))
  where
    told : (a x e y m w : ℕ) → ((a == e) && (x == y)) ≡ false → ((m == e) && (w == y)) ≡ true → ((m == a) && (w == x)) ≡ false
    told a x e y m w apart is = grind (arith, nat_tests)

-- over these pieces
module _ (file : List ℕ) (j : ℕ) (piece : Option Piece) where
  abbrev found : Option Block → Option (List ℕ)
  found o = block_found file j o piece

  -- the block at its place, once its bytes are changed
  set_here : (node block : ℕ) (bytes : List ℕ) (bs : List Block) → is_some (block_at node block bs) ≡ true
      → found (block_at node block (set_at node block bytes bs)) ≡ Some bytes
  set_here node block bytes [] there = absurd cc
  set_here node block bytes (b ∷ bs) there = elim (cases_Bool (is_at node block b)) [
    | inl here ↦ rw here (rw here refl)
    | inr not_here ↦ rw not_here (rw not_here (set_here node block bytes bs (rw not_here at there)))
  ]

  set_apart : (node block : ℕ) (bytes : List ℕ) (n k : ℕ) → ((node == n) && (block == k)) ≡ false → (bs : List Block)
      → found (block_at n k (set_at node block bytes bs)) ≡ found (block_at n k bs)
  set_apart node block bytes n k apart [] = refl
  set_apart node block bytes n k apart (b ∷ bs) = elim (cases_Bool (is_at n k b)) [
    | inl its ↦ rw (its, same_place node block n k b apart its) (rw its refl)
    | inr other ↦ rw other (by (is_at node block b) other (set_apart node block bytes n k apart bs))
  ]
    where
      by : (t : Bool) → is_at n k b ≡ false → found (block_at n k (set_at node block bytes bs)) ≡ found (block_at n k bs)
          → found (cond (is_at n k (cond t (rewritten bytes b) b)) (Some (cond t (rewritten bytes b) b)) (block_at n k (set_at node block bytes bs)))
          ≡ found (block_at n k bs)
      by true other more = rw other more
      by false other more = rw other more

  -- the block at any place, once one is written
  pub block_put : (node block : ℕ) (bytes : List ℕ) (bs : List Block) → Rises slot bs → (n k : ℕ)
      → found (block_at n k (put_at node block bytes bs)) ≡ cond ((node == n) && (block == k)) (Some bytes) (found (block_at n k bs))
  block_put node block bytes bs rises n k = elim (cases_Bool (is_some (block_at node block bs))) [
    | inl there ↦ rw there (elim (cases_Bool ((node == n) && (block == k))) [
      | inl here ↦
          let at = same_both node block n k here in
          rw here (subst (λ m. found (block_at m k (set_at node block bytes bs)) ≡ Some bytes) at.0
          (subst (λ m. found (block_at node m (set_at node block bytes bs)) ≡ Some bytes) at.1 (set_here node block bytes bs there)))
      | inr not_here ↦ rw not_here (set_apart node block bytes n k not_here bs)
    ])
    | inr missing ↦ rw missing (ap (λ l. found (block_at n k l)) (put_new node block bytes bs rises)
        ∙ elim (cases_Bool ((node == n) && (block == k))) [
          | inl here ↦
              let at = same_both node block n k here in
              let none = no_block (block_at node block bs) missing in
              rw here (ap found (find_last (is_at n k) bs (new_block node block bytes bs) (subst (λ m. block_at m k bs ≡ None) at.0
              (subst (λ m. block_at node m bs ≡ None) at.1 none)) (place_test node block n k bytes bs ∙ here)))
          | inr not_here ↦
              rw not_here (ap found (find_before (is_at n k) bs (new_block node block bytes bs) (place_test node block n k bytes bs ∙ not_here)))
        ])
  ]
    where
      same_both : (a x e y : ℕ) → ((a == e) && (x == y)) ≡ true → (a ≡ e) × (x ≡ y)
      same_both a x e y h = (grind (arith, nat_tests), grind (arith, nat_tests))

      no_block : (o : Option Block) → is_some o ≡ false → o ≡ None
      no_block None is = refl
      no_block (Some b) is = absurd cc

-- over all pieces
pub stored_put : (file : List ℕ) (c : Content) (node block : ℕ) (bytes : List ℕ) → Rises slot c.blocks → (n k : ℕ)
    → stored_block file (put_block node block bytes c) n k ≡ cond ((node == n) && (block == k)) (Some bytes) (stored_block file c n k)
stored_put file c node block bytes rises n k = block_put file k (piece_at n k c.pieces) node block bytes c.blocks rises n k

-- what holds of every block, once one is written
pub all_put_at : (P : Block → Type 0) (node block : ℕ) (bytes : List ℕ) (bs : List Block) → P (new_block node block bytes bs)
    → ((b : Block) → P b → P (rewritten bytes b)) → AllByRecursion P bs → AllByRecursion P (put_at node block bytes bs)
all_put_at P node block bytes bs new set all = by (is_some (block_at node block bs))
  where
    all_set : (xs : List Block) → AllByRecursion P xs → AllByRecursion P (set_at node block bytes xs)
    all_set [] old = tt
    all_set (x ∷ xs) old = (one (is_at node block x), all_set xs old.1)
      where
        one : (t : Bool) → P (cond t (rewritten bytes x) x)
        one true = set x old.0
        one false = old.0

    by : (t : Bool) → AllByRecursion P (cond t (set_at node block bytes bs) (put_by slot (new_block node block bytes bs) bs))
    by true = all_set bs all
    by false = all_put slot P (new_block node block bytes bs) bs new all

-- ---- bytes within a block

taken_length : (n : ℕ) (xs : List ℕ) → n ≤ length xs → length (take n xs) ≡ n
taken_length zero xs low = refl
taken_length (suc n) [] low = absurd (omega (arith, low))
taken_length (suc n) (x ∷ xs) low = ap suc (taken_length n xs (omega (arith, low)))

pub lower : (j start : ℕ) → nat_lt j start ≡ true → j < start
lower j start is = grind (arith, nat_tests)

pub upper : (j start : ℕ) → nat_lt j start ≡ false → start ≤ j
upper j start is = grind (arith, nat_tests)

-- the byte of a block with a part written over it
pub byte_spliced : (old part : List ℕ) (start j : ℕ) → start + length part ≤ length old
    → byte_at (spliced old start part) j ≡ cond (not (nat_lt j start) && nat_lt j (start + length part)) (byte_at part (j - start)) (byte_at old j)
byte_spliced old part start j within =
    let first : length (take start old) ≡ start = taken_length start old (omega (arith, within)) in
    let rest = part ++ drop (start + length part) old in
    ap (λ l. byte_at l j) (grouped (take start old) part (drop (start + length part) old)) ∙ elim (cases_Bool (nat_lt j start)) [
      | inl before ↦
          let low = lower j start before in
          rw before (get_or-append (take start old) rest 0 j (omega (arith, first, low)) ∙ get_or-take start old j 0 low)
      | inr behind ↦
          let high = upper j start behind in
          rw behind (get_or-append_right (take start old) rest j 0 (omega (arith, first, high)) ∙ ap (λ k. byte_at rest (j - k)) first
          ∙ elim (cases_Bool (nat_lt j (start + length part))) [
            | inl inside ↦
                let low = lower j (start + length part) inside in
                rw inside (get_or-append part (drop (start + length part) old) 0 (j - start) (omega (arith, low, high)))
            | inr outside ↦
                let far = upper j (start + length part) outside in
                let e : start + length part + (j - start - length part) ≡ j = omega (arith, far, high) in
                rw outside (get_or-append_right part (drop (start + length part) old) (j - start) 0 (omega (arith, far, high))
                ∙ get_or-drop (start + length part) old (j - start - length part) 0 ∙ ap (byte_at old) e)
          ])
    ]

shifted : (a b k : ℕ) → nat_lt a b ≡ nat_lt (k + a) (k + b)
shifted a b k = grind (arith, nat_tests)

shifted_end : (a b m k : ℕ) → nat_lt a (b + m) ≡ nat_lt (k + a) (k + b + m)
shifted_end a b m k = grind (arith, nat_tests)

whole_place : (i : ℕ) → i / block_bytes * block_bytes + i % block_bytes ≡ i
whole_place i = omega arith

both_of : (a b : Bool) → (a && b) ≡ true → (a ≡ true) × (b ≡ true)
both_of true true e = (refl, refl)
both_of true false e = absurd cc
both_of false b e = absurd cc

equal_to : (a b : ℕ) → (a == b) ≡ true → a ≡ b
equal_to a b is = grind (arith, nat_tests)

same_self : (a : ℕ) → (a == a) ≡ true
same_self a = grind (arith, nat_tests)

flipped : (a b : ℕ) → (a == b) ≡ (b == a)
flipped a b = grind (arith, nat_tests)

not_within : (here m i : ℕ) → here % block_bytes + m ≤ block_bytes → (here / block_bytes == i / block_bytes) ≡ false
    → (not (nat_lt i here) && nat_lt i (here + m)) ≡ false
not_within here m i within apart = elim (cases_Bool (nat_lt i here)) [
  | inl before ↦ rw before refl
  | inr behind ↦ rw behind (elim (cases_Bool (nat_lt i (here + m))) [
    | inl inside ↦
        let low = lower i (here + m) inside in
        let high = upper i here behind in
        let e : here / block_bytes ≡ i / block_bytes = omega (arith, low, high, within) in
        absurd (let f : (here / block_bytes == i / block_bytes) ≡ true = subst (λ k. (here / block_bytes == k) ≡ true) e (same_self (here / block_bytes)) in
        let g = sym f ∙ apart in cc)
    | inr outside ↦ rw outside refl
  ])
]

-- a part of one block written: over the bytes of the node
pub part_put : (file : List ℕ) (node here : ℕ) (part : List ℕ) (c : Content) (old : List ℕ) → Rises slot c.blocks
    → old ≡ whole_of (stored_block file c node (here / block_bytes)) → length old ≡ block_bytes → here % block_bytes + length part ≤ block_bytes → (n i : ℕ)
    → byte_in file (put_block node (here / block_bytes) (spliced old (here % block_bytes) part) c) n i ≡ overlay node here part (byte_in file c) n i
part_put file node here part c old rises is whole within n i =
    ap (λ o. byte_at (unwrap_or o []) (i % block_bytes))
    (stored_put file c node (here / block_bytes) (spliced old (here % block_bytes) part) rises n (i / block_bytes))
    ∙ elim (cases_Bool (node == n)) [
      | inl here_node ↦ rw (sym (flipped node n), here_node) (elim (cases_Bool (here / block_bytes == i / block_bytes)) [
        | inl here_block ↦
            let k = equal_to (here / block_bytes) (i / block_bytes) here_block in
            let place : here / block_bytes * block_bytes + i % block_bytes ≡ i = ap (λ b. b * block_bytes + i % block_bytes) k ∙ whole_place i in
            let lows : nat_lt (i % block_bytes) (here % block_bytes) ≡ nat_lt i here =
            shifted (i % block_bytes) (here % block_bytes) (here / block_bytes * block_bytes)
            ∙ ap (λ a. nat_lt a (here / block_bytes * block_bytes + here % block_bytes)) place ∙ ap (nat_lt i) (whole_place here) in
            let ends : nat_lt (i % block_bytes) (here % block_bytes + length part) ≡ nat_lt i (here + length part) =
            shifted_end (i % block_bytes) (here % block_bytes) (length part) (here / block_bytes * block_bytes)
            ∙ ap (λ a. nat_lt a (here / block_bytes * block_bytes + here % block_bytes + length part)) place
            ∙ ap (λ a. nat_lt i (a + length part)) (whole_place here) in
            let gap : i % block_bytes - here % block_bytes ≡ i - here = omega (arith, place, whole_place here) in
            let was : byte_at old (i % block_bytes) ≡ byte_in file c n i =
            ap (λ l. byte_at l (i % block_bytes)) is ∙ whole_byte (stored_block file c node (here / block_bytes)) (i % block_bytes)
            ∙ ap (λ b. byte_at (unwrap_or (stored_block file c node b) []) (i % block_bytes)) k
            ∙ ap (λ m. byte_at (unwrap_or (stored_block file c m (i / block_bytes)) []) (i % block_bytes)) (equal_to node n here_node) in
            rw here_block (byte_spliced old part (here % block_bytes) (i % block_bytes) (omega (arith, whole, within))
            ∙ ap (λ t. cond (not t && nat_lt (i % block_bytes) (here % block_bytes + length part)) (byte_at part (i % block_bytes - here % block_bytes))
            (byte_at old (i % block_bytes))) lows
            ∙ ap (λ t. cond (not (nat_lt i here) && t) (byte_at part (i % block_bytes - here % block_bytes)) (byte_at old (i % block_bytes))) ends
            ∙ ap (λ a. cond (not (nat_lt i here) && nat_lt i (here + length part)) (byte_at part a) (byte_at old (i % block_bytes))) gap
            ∙ ap (λ b. cond (not (nat_lt i here) && nat_lt i (here + length part)) (byte_at part (i - here)) b) was)
        | inr other_block ↦ rw (other_block, not_within here (length part) i within other_block) refl
      ])
      | inr other_node ↦ rw (sym (flipped node n), other_node) refl
    ]

-- and its block is written then
pub part_written : (file : List ℕ) (node here : ℕ) (part bytes : List ℕ) (c : Content) (written : ℕ → Option (ℕ → Bool)) → Rises slot c.blocks
    → 1 ≤ length part → here % block_bytes + length part ≤ block_bytes → (n k : ℕ) → IsWrittenAs (is_written_in file c n k) (written n) k
    → IsWrittenAs (is_written_in file (put_block node (here / block_bytes) bytes c) n k)
    (wrote_between node (first_touched here) (touched_end here (length part)) written n) k
part_written file node here part bytes c written rises some within n k was =
    subst (λ b. IsWrittenAs b (wrote_between node (first_touched here) (touched_end here (length part)) written n) k) (sym put)
    (by (n == node) (written n) (length part) some within was)
  where
    some_if : (b : Bool) (o : Option (List ℕ)) → is_some (cond b (Some bytes) o) ≡ (b || is_some o)
    some_if true o = refl
    some_if false o = refl

    swapped : (a m x : ℕ) → ((m == a) && (x == k)) ≡ ((a == m) && (x == k))
    swapped a m x = grind (arith, nat_tests)

    put : is_written_in file (put_block node (here / block_bytes) bytes c) n k ≡ (((n == node) && (here / block_bytes == k)) || is_written_in file c n k)
    put =
        ap is_some (stored_put file c node (here / block_bytes) bytes rises n k)
        ∙ some_if ((node == n) && (here / block_bytes == k)) (stored_block file c n k)
        ∙ ap (λ b. b || is_written_in file c n k) (swapped n node (here / block_bytes))

    one_block : (x : ℕ) → (x == k) ≡ (nat_le x k && nat_lt k (x + 1))
    one_block x = grind (arith, nat_tests)

    only_one : (m : ℕ) → 1 ≤ m → here % block_bytes + m ≤ block_bytes
        → (here / block_bytes == k) ≡ (nat_le (first_touched here) k && nat_lt k (touched_end here m))
    only_one zero low high = absurd (omega (arith, low))
    only_one (suc m) low high =
        let e : here / block_bytes + 1 ≡ (here + m) / block_bytes + 1 = omega (arith, high) in
        one_block (here / block_bytes) ∙ ap (λ z. nat_le (here / block_bytes) k && nat_lt k z) e

    by : (b : Bool) (o : Option (ℕ → Bool)) (m : ℕ) → 1 ≤ m → here % block_bytes + m ≤ block_bytes → IsWrittenAs (is_written_in file c n k) o k
        → IsWrittenAs ((b && (here / block_bytes == k)) || is_written_in file c n k)
        (cond b (option_map (λ p block. (nat_le (first_touched here) block && nat_lt block (touched_end here m)) || p block) o) o) k
    by b None m low high is = none b
      where
        none : (b : Bool) → IsWrittenAs ((b && (here / block_bytes == k)) || is_written_in file c n k)
            (cond b (option_map (λ (p : ℕ → Bool) block. (nat_le (first_touched here) block && nat_lt block (touched_end here m)) || p block) None) None) k
        none true = tt
        none false = tt
    by true (Some p) m low high is =
        ap (λ t. t || is_written_in file c n k) (only_one m low high)
        ∙ ap (λ t. (nat_le (first_touched here) k && nat_lt k (touched_end here m)) || t) is
    by false (Some p) m low high is = is
