-- Pieces that share no block, as some go and others come.
use Rattle.std.proofs.Common.{◌≡◌, ◌≤◌, ◌<◌, ◌⊎◌, ◌==◌, ◌&&◌, ◌++◌, inl, inr, ℕ, zero, suc, List, [], ◌∷◌, filter, nat_lt}
use Rattle.std.proofs.Common.{Bool, true, false, cond, Some, None, refl, sym, ap, subst, arith, ◌∙◌}
use Rattle.std.specs.Prelude.{nat_le}
use Rattle.std.specs.List.{All, AllPairs, AllByRecursion, Contains}
use Rattle.std.proofs.lemmas.Bool.{cases_Bool}
use Rattle.std.proofs.lemmas.Bool.Decides.{nat_tests}
use Rattle.std.proofs.lemmas.List.Elements.{All-nil, All-cons, All-from_recursion, recursion_from_All}
use Rattle.std.proofs.lemmas.List.Kept.{AllPairs-cons}
use Rattle.sqlite_trees.specs.Tree.{IsAscending}
use Rattle.fuse_data.specs.declared.extent.Extent.{Extent}
use Rattle.fuse_data.specs.Extents.{IsWhole, IsBlockOf, AreDisjoint}
use Rattle.fuse_data.specs.Space.{IsListed}
use Rattle.fuse_store_tables.specs.Pieces.{Piece}
use Rattle.fuse_store_tree.specs.Pieces.{is_zeros, extent_of, extents_of, end_of, has_block, piece_at, OwnApart, ArePieces}
use Rattle.fuse_store_tree.specs.inner.Reading.{IsInFile}
use Rattle.fuse_store_tree.proofs.StoredBytes.{head_of, rest_of}

-- ---- lists

module _ {X : Type 0} where
  -- it is one of these
  abbrev pub In : X → List X → Type 0
  In x [] = ⊥
  In x (y ∷ ys) = (y ≡ x) ⊎ In x ys

  pub in_of : (xs : List X) (x : X) → Contains xs x → In x xs
  in_of [] x (k, low, is) = absurd (omega (arith, low))
  in_of (y ∷ ys) x (zero, low, is) = inl is
  in_of (y ∷ ys) x (suc k, low, is) = inr (in_of ys x (k, omega (arith, low), is))

  pub of_in : (xs : List X) (x : X) → In x xs → Contains xs x
  of_in [] x at = absurd at
  of_in (y ∷ ys) x (inl is) = (0, omega arith, is)
  of_in (y ∷ ys) x (inr at) = let rest = of_in ys x at in let low = rest.1 in (suc rest.0, omega (arith, low), rest.2)

  pub all_in : (P : X → Type 0) (xs : List X) (x : X) → AllByRecursion P xs → In x xs → P x
  all_in P [] x all at = absurd at
  all_in P (y ∷ ys) x all (inl is) = subst P is all.0
  all_in P (y ∷ ys) x all (inr at) = all_in P ys x all.1 at

  pub each_in : (P : X → Type 0) (xs : List X) → ((x : X) → In x xs → P x) → AllByRecursion P xs
  each_in P [] each = tt
  each_in P (y ∷ ys) each = (each y (inl refl), each_in P ys (λ x at. each x (inr at)))

  pub in_filter : (q : X → Bool) (xs : List X) (x : X) → In x xs → q x ≡ true → In x (filter q xs)
  in_filter q [] x at is = absurd at
  in_filter q (y ∷ ys) x (inl same) is = rw (subst (λ z. q z ≡ true) (sym same) is) (inl same)
  in_filter q (y ∷ ys) x (inr at) is = by (q y) (in_filter q ys x at is)
    where
      by : (b : Bool) → In x (filter q ys) → In x (cond b (y ∷ filter q ys) (filter q ys))
      by true more = inr more
      by false more = more

  pub of_filter : (q : X → Bool) (xs : List X) (x : X) → In x (filter q xs) → In x xs × (q x ≡ true)
  of_filter q [] x found = absurd found
  of_filter q (y ∷ ys) x found = elim (cases_Bool (q y)) [
    | inl stays ↦ by stays (of_filter q ys x) (rw stays at found)
    | inr goes ↦ let more = of_filter q ys x (rw goes at found) in (inr more.0, more.1)
  ]
    where
      by : q y ≡ true → (In x (filter q ys) → In x ys × (q x ≡ true)) → In x (y ∷ filter q ys) → In x (y ∷ ys) × (q x ≡ true)
      by stays rest (inl is) = (inl is, subst (λ z. q z ≡ true) is stays)
      by stays rest (inr more) = let both = rest more in (inr both.0, both.1)

  pub in_first : (xs ys : List X) (x : X) → In x xs → In x (xs ++ ys)
  in_first [] ys x at = absurd at
  in_first (y ∷ xs) ys x (inl is) = inl is
  in_first (y ∷ xs) ys x (inr at) = inr (in_first xs ys x at)

  pub in_last : (xs ys : List X) (x : X) → In x ys → In x (xs ++ ys)
  in_last [] ys x at = at
  in_last (y ∷ xs) ys x at = inr (in_last xs ys x at)

  pub in_either : (xs ys : List X) (x : X) → In x (xs ++ ys) → In x xs ⊎ In x ys
  in_either [] ys x at = inr at
  in_either (y ∷ xs) ys x (inl is) = inl (inl is)
  in_either (y ∷ xs) ys x (inr at) = elim (in_either xs ys x at) [
    | inl first ↦ inl (inr first)
    | inr last ↦ inr last
  ]

  -- ---- of each two, by recursion

  pub to_ascending : (R : X → X → Type 0) (xs : List X) → AllPairs R xs → IsAscending R xs
  to_ascending R [] h = tt
  to_ascending R (x ∷ xs) h = (
    recursion_from_All (R x) xs (λ k d low. h 0 (suc k) d (omega arith) (omega (arith, low))),
    to_ascending R xs (λ i j d low high. h (suc i) (suc j) d (omega (arith, low)) (omega (arith, high))),
  )

  pub from_ascending : (R : X → X → Type 0) (xs : List X) → IsAscending R xs → AllPairs R xs
  from_ascending R [] h = λ i j d low high. absurd (omega (arith, high))
  from_ascending R (x ∷ xs) h = AllPairs-cons R x xs (All-from_recursion (R x) xs h.0) (from_ascending R xs h.1)

  pub all_weaker : (P Q : X → Type 0) → ((x : X) → P x → Q x) → (xs : List X) → AllByRecursion P xs → AllByRecursion Q xs
  all_weaker P Q f [] all = tt
  all_weaker P Q f (x ∷ xs) all = (f x all.0, all_weaker P Q f xs all.1)

  pub all_filter : (P : X → Type 0) (q : X → Bool) (xs : List X) → AllByRecursion P xs → AllByRecursion P (filter q xs)
  all_filter P q [] all = tt
  all_filter P q (x ∷ xs) all = by (q x) (all_filter P q xs all.1)
    where
      by : (b : Bool) → AllByRecursion P (filter q xs) → AllByRecursion P (cond b (x ∷ filter q xs) (filter q xs))
      by true more = (all.0, more)
      by false more = more

  pub pairs_filter : (R : X → X → Type 0) (q : X → Bool) (xs : List X) → IsAscending R xs → IsAscending R (filter q xs)
  pairs_filter R q [] all = tt
  pairs_filter R q (x ∷ xs) all = by (q x) (pairs_filter R q xs all.1)
    where
      by : (b : Bool) → IsAscending R (filter q xs) → IsAscending R (cond b (x ∷ filter q xs) (filter q xs))
      by true more = (all_filter (R x) q xs all.0, more)
      by false more = more

  pub all_push : (P : X → Type 0) (xs : List X) (y : X) → AllByRecursion P xs → P y → AllByRecursion P (xs ++ y ∷ [])
  all_push P [] y all last = (last, tt)
  all_push P (x ∷ xs) y all last = (all.0, all_push P xs y all.1 last)

  pub pairs_push : (R : X → X → Type 0) (xs : List X) (y : X) → IsAscending R xs → AllByRecursion (λ x. R x y) xs → IsAscending R (xs ++ y ∷ [])
  pairs_push R [] y all last = (tt, tt)
  pairs_push R (x ∷ xs) y all last = (all_push (R x) xs y all.0 last.0, pairs_push R xs y all.1 last.1)

  -- each other one beside one of these, where the order of two doesn't matter
  pub others : (R : X → X → Type 0) → ((x y : X) → R x y → R y x) → (xs : List X) (p : X) → IsAscending R xs → In p xs
      → AllByRecursion (λ x. (x ≡ p) ⊎ R x p) xs
  others R swap [] p all at = tt
  others R swap (x ∷ xs) p all (inl is) =
      (inl is, all_weaker (R x) (λ y. (y ≡ p) ⊎ R y p) (λ y r. inr (subst (R y) is (swap x y r))) xs all.0)
  others R swap (x ∷ xs) p all (inr at) = (inr (all_in (R x) xs p all.0 at), others R swap xs p all.1 at)

-- ---- pieces, and the extents of those with a place

placed : (p : Piece) (ps : List Piece) → is_zeros p ≡ false → extents_of (p ∷ ps) ≡ extent_of p ∷ extents_of ps
placed p ps is = rw is refl

without_place : (p : Piece) (ps : List Piece) → is_zeros p ≡ true → extents_of (p ∷ ps) ≡ extents_of ps
without_place p ps is = rw is refl

pub to_pieces : (P : Extent → Type 0) (ps : List Piece) → All P (extents_of ps) → AllByRecursion (λ p. is_zeros p ≡ false → P (extent_of p)) ps
to_pieces P [] all = tt
to_pieces P (p ∷ ps) all = (λ bytes. head_of P p ps bytes all, to_pieces P ps (rest_of P p ps all))

pub to_extents : (P : Extent → Type 0) (ps : List Piece) → AllByRecursion (λ p. is_zeros p ≡ false → P (extent_of p)) ps → All P (extents_of ps)
to_extents P [] all = All-nil P
to_extents P (p ∷ ps) all = elim (cases_Bool (is_zeros p)) [
  | inl zeros ↦ subst (All P) (sym (without_place p ps zeros)) (to_extents P ps all.1)
  | inr bytes ↦ subst (All P) (sym (placed p ps bytes)) (All-cons P (extent_of p) (extents_of ps) (all.0 bytes) (to_extents P ps all.1))
]

-- neither a block of a node nor one of the data file is in both
pub record Apart (p q : Piece) : Type 0 where
  pub own : OwnApart p q
  pub data_apart : is_zeros p ≡ false → is_zeros q ≡ false → AreDisjoint (extent_of p) (extent_of q)

pub apart_swap : (p q : Piece) → Apart p q → Apart q p
apart_swap p q at = record {
  own = λ same. other (at.own (sym same));
  data_apart = λ first second. other (at.data_apart second first);
}
  where
    other : {A B : Type 0} → A ⊎ B → B ⊎ A
    other (inl a) = inr a
    other (inr b) = inl b

apart_data : (ps : List Piece) → IsAscending OwnApart ps → IsAscending AreDisjoint (extents_of ps) → IsAscending Apart ps
apart_data [] own disjoint = tt
apart_data (p ∷ ps) own disjoint = elim (cases_Bool (is_zeros p)) [
  | inl zeros ↦ (none zeros ps own.0, apart_data ps own.1 (subst (IsAscending AreDisjoint) (without_place p ps zeros) disjoint))
  | inr bytes ↦
      let both = subst (IsAscending AreDisjoint) (placed p ps bytes) disjoint in (
        some ps own.0 (to_pieces (AreDisjoint (extent_of p)) ps (All-from_recursion (AreDisjoint (extent_of p)) (extents_of ps) both.0)),
        apart_data ps own.1 both.1,
      )
]
  where
    none : is_zeros p ≡ true → (qs : List Piece) → AllByRecursion (OwnApart p) qs → AllByRecursion (Apart p) qs
    none zeros [] own = tt
    none zeros (q ∷ qs) own = (record { own = own.0; data_apart = λ first second. absurd (let e = sym zeros ∙ first in cc) }, none zeros qs own.1)

    some : (qs : List Piece) → AllByRecursion (OwnApart p) qs → AllByRecursion (λ q. is_zeros q ≡ false → AreDisjoint (extent_of p) (extent_of q)) qs
        → AllByRecursion (Apart p) qs
    some [] own apart = tt
    some (q ∷ qs) own apart = (record { own = own.0; data_apart = λ first second. apart.0 second }, some qs own.1 apart.1)

data_of_apart : (ps : List Piece) → IsAscending Apart ps → IsAscending AreDisjoint (extents_of ps)
data_of_apart [] all = tt
data_of_apart (p ∷ ps) all = elim (cases_Bool (is_zeros p)) [
  | inl zeros ↦ subst (IsAscending AreDisjoint) (sym (without_place p ps zeros)) (data_of_apart ps all.1)
  | inr bytes ↦ subst (IsAscending AreDisjoint) (sym (placed p ps bytes)) (
    recursion_from_All (AreDisjoint (extent_of p)) (extents_of ps)
        (to_extents (AreDisjoint (extent_of p)) ps (all_weaker (Apart p) (λ q. is_zeros q ≡ false → AreDisjoint (extent_of p) (extent_of q))
        (λ q at second. at.data_apart bytes second) ps all.0)),
    data_of_apart ps all.1,
  )
]

own_of_apart : (ps : List Piece) → IsAscending Apart ps → IsAscending OwnApart ps
own_of_apart [] all = tt
own_of_apart (p ∷ ps) all = (all_weaker (Apart p) (OwnApart p) (λ q at. at.own) ps all.0, own_of_apart ps all.1)

-- pieces in order, by recursion
pub record AreWell (file : List ℕ) (ps : List Piece) : Type 0 where
  pub some : AllByRecursion (λ p. 1 ≤ p.count) ps
  pub whole : AllByRecursion (IsInFile file) ps
  pub apart : IsAscending Apart ps

pub well_of : (file : List ℕ) (ps : List Piece) → ArePieces file ps → AreWell file ps
well_of file ps at = record {
  some = at.some;
  whole = to_pieces (IsWhole file) ps at.whole;
  apart = apart_data ps (to_ascending OwnApart ps at.own) (to_ascending AreDisjoint (extents_of ps) at.apart);
}

pub pieces_of : (file : List ℕ) (ps : List Piece) → AreWell file ps → ArePieces file ps
pieces_of file ps at = record {
  some = at.some;
  whole = to_extents (IsWhole file) ps at.whole;
  apart = from_ascending AreDisjoint (extents_of ps) (data_of_apart ps at.apart);
  own = from_ascending OwnApart ps (own_of_apart ps at.apart);
}

pub apart_others : (file : List ℕ) (ps : List Piece) (p : Piece) → AreWell file ps → In p ps → AllByRecursion (λ r. (r ≡ p) ⊎ Apart r p) ps
apart_others file ps p well at = others Apart apart_swap ps p well.apart at

-- ---- blocks of the data file

-- the block of the data file is one of the piece
pub record HasPlace (p : Piece) (b : ℕ) : Type 0 where
  pub bytes : is_zeros p ≡ false
  pub at : IsBlockOf (extent_of p) b

pub listed_in : (ps : List Piece) (b : ℕ) → IsListed (extents_of ps) b → (p : Piece) × In p ps × HasPlace p b
listed_in [] b found = absurd found
listed_in (p ∷ ps) b found = elim (cases_Bool (is_zeros p)) [
  | inl zeros ↦ let more = listed_in ps b (subst (λ es. IsListed es b) (without_place p ps zeros) found) in (more.0, inr more.1, more.2)
  | inr bytes ↦ by bytes (listed_in ps b) (subst (λ es. IsListed es b) (placed p ps bytes) found)
]
  where
    by : is_zeros p ≡ false → (IsListed (extents_of ps) b → (q : Piece) × In q ps × HasPlace q b) → IsListed (extent_of p ∷ extents_of ps) b
        → (q : Piece) × In q (p ∷ ps) × HasPlace q b
    by bytes rest (inl here) = (p, inl refl, record { bytes = bytes; at = here })
    by bytes rest (inr later) = let more = rest later in (more.0, inr more.1, more.2)

pub in_listed : (ps : List Piece) (b : ℕ) (p : Piece) → In p ps → HasPlace p b → IsListed (extents_of ps) b
in_listed [] b p found has = absurd found
in_listed (q ∷ ps) b p found has = elim (cases_Bool (is_zeros q)) [
  | inl zeros ↦ subst (λ es. IsListed es b) (sym (without_place q ps zeros)) (none zeros (λ more. in_listed ps b p more has) found)
  | inr bytes ↦ subst (λ es. IsListed es b) (sym (placed q ps bytes)) (some (λ more. in_listed ps b p more has) found)
]
  where
    none : is_zeros q ≡ true → (In p ps → IsListed (extents_of ps) b) → (q ≡ p) ⊎ In p ps → IsListed (extents_of ps) b
    none zeros rest (inl is) = absurd (let e = sym (subst (λ z. is_zeros z ≡ true) is zeros) ∙ has.bytes in cc)
    none zeros rest (inr more) = rest more

    some : (In p ps → IsListed (extents_of ps) b) → (q ≡ p) ⊎ In p ps → IsListed (extent_of q ∷ extents_of ps) b
    some rest (inl is) = inl (subst (λ z. IsBlockOf (extent_of z) b) (sym is) has.at)
    some rest (inr more) = inr (rest more)

-- no block is in two that are apart
pub not_both : (p q : Piece) (b : ℕ) → Apart p q → HasPlace p b → HasPlace q b → ⊥
not_both p q b apart first second = by (apart.data_apart first.bytes second.bytes)
  where
    by : AreDisjoint (extent_of p) (extent_of q) → ⊥
    by (inl low) = let f = first.at in let s = second.at in absurd (omega (arith, low, f.1, s.0))
    by (inr low) = let f = first.at in let s = second.at in absurd (omega (arith, low, f.0, s.1))

-- ---- blocks of a node

pub record Has (node block : ℕ) (p : Piece) : Type 0 where
  pub of : p.node ≡ node
  pub from : p.first ≤ block
  pub to : block < end_of p

pub has_of : (n k : ℕ) (p : Piece) → has_block n k p ≡ true → Has n k p
has_of n k p is = record {
  of = number p.node n (nat_le p.first k && nat_lt k (end_of p)) is;
  from = low (p.node == n) p.first k (nat_lt k (end_of p)) is;
  to = high (p.node == n) (nat_le p.first k) k (end_of p) is;
}
  where
    number : (a b : ℕ) (t : Bool) → ((a == b) && t) ≡ true → a ≡ b
    number a b t is = grind (arith, nat_tests)

    low : (t : Bool) (a b : ℕ) (u : Bool) → (t && (nat_le a b && u)) ≡ true → a ≤ b
    low t a b u is = grind (arith, nat_tests)

    high : (t u : Bool) (a b : ℕ) → (t && (u && nat_lt a b)) ≡ true → a < b
    high t u a b is = grind (arith, nat_tests)

pub of_has : (n k : ℕ) (p : Piece) → Has n k p → has_block n k p ≡ true
of_has n k p has = test p.node n p.first k (end_of p) has.of has.from has.to
  where
    test : (a b x y z : ℕ) → a ≡ b → x ≤ y → y < z → ((a == b) && (nat_le x y && nat_lt y z)) ≡ true
    test a b x y z same from to = grind (arith, nat_tests)

-- of two that are apart not both have it
pub one_has : (n k : ℕ) (p q : Piece) → OwnApart p q → has_block n k q ≡ true → has_block n k p ≡ false
one_has n k p q apart is = elim (cases_Bool (has_block n k p)) [
  | inr other ↦ other
  | inl both ↦ absurd (by (has_of n k p both) (has_of n k q is))
]
  where
    by : Has n k p → Has n k q → ⊥
    by first second = disjoint (apart (first.of ∙ sym second.of))
      where
        disjoint : (end_of p ≤ q.first) ⊎ (end_of q ≤ p.first) → ⊥
        disjoint (inl low) = let f = first.to in let s = second.from in absurd (omega (arith, low, f, s))
        disjoint (inr low) = let f = first.from in let s = second.to in absurd (omega (arith, low, f, s))

-- none of those that are apart from it
pub none_at : (n k : ℕ) (q : Piece) (ps : List Piece) → AllByRecursion (λ p. Apart p q) ps → has_block n k q ≡ true → piece_at n k ps ≡ None
none_at n k q [] all is = refl
none_at n k q (p ∷ ps) all is = rw (one_has n k p q all.0.own is) (none_at n k q ps all.1 is)

-- it is the one that has its blocks
pub found_at : (n k : ℕ) (q : Piece) (ps : List Piece) → AllByRecursion (λ p. (p ≡ q) ⊎ Apart p q) ps → In q ps → has_block n k q ≡ true
    → piece_at n k ps ≡ Some q
found_at n k q [] all found is = absurd found
found_at n k q (p ∷ ps) all found is = by (λ more. found_at n k q ps all.1 more is) all.0 found
  where
    by : (In q ps → piece_at n k ps ≡ Some q) → (p ≡ q) ⊎ Apart p q → (p ≡ q) ⊎ In q ps → piece_at n k (p ∷ ps) ≡ Some q
    by rest (inl same) more = rw (subst (λ z. has_block n k z ≡ true) (sym same) is) (ap Some same)
    by rest (inr apart) (inl same) = rw (subst (λ z. has_block n k z ≡ true) (sym same) is) (ap Some same)
    by rest (inr apart) (inr more) = rw (one_has n k p q apart.own is) (rest more)
