-- The free space of a listing, extent by extent.
use Rattle.std.proofs.Common.{IsTrue, true, false, ◌≡◌, ◌⊎◌, ◌↔◌, ℕ, zero, suc, ◌+◌, ◌<◌, ◌≤◌, List, [], ◌∷◌, ◌++◌, length, take, drop, slice_index_or, refl, sym, subst, ap, ◌∙◌, inl, inr, arith}
use Rattle.std.specs.List.{All, Contains}
use Rattle.std.proofs.Math.Seq.{split_at}
use Rattle.std.proofs.lemmas.Bool.{cases_lt}
use Rattle.std.proofs.lemmas.List.{take_more, get_or_default, take_all}
use Rattle.fuse_data.specs.declared.extent.Extent.{Extent}
use Rattle.fuse_data.specs.declared.extent.TheConstants.{END}
use Rattle.fuse_data.specs.declared.gaps.Gap.{Gap}
use Rattle.fuse_data.specs.declared.fault.DataFault.TheVariants.{Overlapping, Beyond}
use Rattle.fuse_data.specs.Extents.{past, IsPlaced, IsBlockOf, AreByPlace}
use Rattle.fuse_data.specs.Space.{IsFreeBlock, AreGaps, InUse, IsListed, IsSpaceOf}
use Rattle.fuse_data.specs.Causes.{FailsToFit}
use Rattle.fuse_data.specs.inner.Listing.{past_all, GapsBelow, AddsGap, Claimed, ClaimsAll}
use Rattle.fuse_data.proofs.Blocks.{free_left, free_right, free_cases}

below_weaker : (low n m : ℕ) (gaps : List Gap) → n ≤ m → GapsBelow low gaps n → GapsBelow low gaps m
below_weaker low n m [] le h = omega arith
below_weaker low n m (g ∷ gaps) le h = (h.0, h.1, h.2, below_weaker (g.to + 1) n m gaps le h.3)

below_more : (low from to n : ℕ) (gaps : List Gap) → from < to → to ≤ END → to < n → GapsBelow low gaps from → GapsBelow low (gaps ++ (record { from = from; to = to }) ∷ []) n
below_more low from to n [] some end le h = (h, some, end, omega arith)
below_more low from to n (g ∷ gaps) some end le h = (h.0, h.1, h.2, below_more (g.to + 1) from to n gaps some end le h.3)

pub below_gaps : (low n : ℕ) (gaps : List Gap) → GapsBelow low gaps n → AreGaps low gaps
below_gaps low n [] h = tt
below_gaps low n (g ∷ gaps) h = (h.0, h.1, h.2, below_gaps (g.to + 1) n gaps h.3)

-- a gap is pushed, and none where it would be empty
pub pushed : (from to : ℕ) (gaps : List Gap) → from < to → AddsGap from to gaps (gaps ++ (record { from = from; to = to }) ∷ [])
pushed from to gaps some =
    let g : Gap = record { from = from; to = to } in
    record {
      exact = λ b. (
        λ free. elim (free_cases gaps (g ∷ []) b free) [ inl old ↦ inl old | inr (inl here) ↦ inr here | inr (inr none) ↦ absurd none ],
        λ e. elim e [ inl old ↦ free_left gaps (g ∷ []) b old | inr here ↦ free_right gaps (g ∷ []) b (inl here) ],
      );
      gaps = λ h end n le. below_more 1 from to n gaps some end le h;
    }

pub not_pushed : (from to : ℕ) (gaps : List Gap) → from ≡ to → AddsGap from to gaps gaps
not_pushed from to gaps same =
    record {
      exact = λ b. (λ free. inl free, λ e. elim e [ inl old ↦ old | inr here ↦ absurd (omega (arith, here.0, here.1)) ]);
      gaps = λ h end n le. below_weaker 1 from n gaps (omega arith) h;
    }

listed_left : (xs ys : List Extent) (b : ℕ) → IsListed xs b → IsListed (xs ++ ys) b
listed_left [] ys b h = absurd h
listed_left (x ∷ xs) ys b h = elim h [ inl here ↦ inl here | inr rest ↦ inr (listed_left xs ys b rest) ]

listed_last : (xs : List Extent) (p : Extent) (b : ℕ) → IsBlockOf p b → IsListed (xs ++ p ∷ []) b
listed_last [] p b h = inl h
listed_last (x ∷ xs) p b h = inr (listed_last xs p b h)

listed_cases : (xs : List Extent) (p : Extent) (b : ℕ) → IsListed (xs ++ p ∷ []) b → IsListed xs b ⊎ IsBlockOf p b
listed_cases [] p b h = elim h [ inl here ↦ inr here | inr none ↦ absurd none ]
listed_cases (x ∷ xs) p b h = elim h [
  | inl here ↦ inl (inl here)
  | inr rest ↦ elim (listed_cases xs p b rest) [ inl old ↦ inl (inr old) | inr mine ↦ inr mine ]
]

past_all_more : (low : ℕ) (xs : List Extent) (p : Extent) → past_all low (xs ++ p ∷ []) ≡ past p
past_all_more low [] p = refl
past_all_more low (x ∷ xs) p = past_all_more (past x) xs p

by_place_more : (low : ℕ) (xs : List Extent) (p : Extent) → AreByPlace low xs → past_all low xs ≤ p.place → IsPlaced p → AreByPlace low (xs ++ p ∷ [])
by_place_more low [] p h le placed = (le, placed, tt)
by_place_more low (x ∷ xs) p h le placed = (h.0, h.1, by_place_more (past x) xs p h.2 le placed)

by_place_at : (low : ℕ) (xs ys : List Extent) (p : Extent) → AreByPlace low (xs ++ p ∷ ys) → (past_all low xs ≤ p.place) × IsPlaced p
by_place_at low [] ys p h = (h.0, h.1)
by_place_at low (x ∷ xs) ys p h = by_place_at (past x) xs ys p h.2

past_rises : (low : ℕ) (xs : List Extent) → AreByPlace low xs → low ≤ past_all low xs
past_rises low [] h = omega arith
past_rises low (x ∷ xs) h = let n = past_rises (past x) xs h.2 in omega (arith, h.0)

listed_below : (low b : ℕ) (xs : List Extent) → AreByPlace low xs → IsListed xs b → b < past_all low xs
listed_below low b [] h e = absurd e
listed_below low b (x ∷ xs) h e = elim e [
  | inl here ↦ let n = past_rises (past x) xs h.2 in omega (arith, here.1)
  | inr rest ↦ listed_below (past x) b xs h.2 rest
]

-- one more extent of the list
pub claimed_more : (listed : List Extent) (n from blocks : ℕ) (old new : List Gap) (e : Extent) → n < length listed → Claimed listed n from blocks old → IsPlaced (slice_index_or listed n e) → from ≤ (slice_index_or listed n e).place → past (slice_index_or listed n e) ≤ blocks → AddsGap from (slice_index_or listed n e).place old new → Claimed listed (n + 1) (past (slice_index_or listed n e)) blocks new
claimed_more listed n from blocks old new e low was placed le within adds =
    let p : Extent = slice_index_or listed n e in
    let is : p ≡ slice_index_or listed n p = get_or_default listed n e p low in
    let more : take (n + 1) listed ≡ take n listed ++ p ∷ [] = take_more listed n p low ∙ ap (λ (x : Extent). take n listed ++ x ∷ []) (sym is) in
    let xs = take n listed in
    let end : p.place ≤ END = omega (arith, placed.low) in
    let at : past_all 1 xs ≤ p.place = omega (arith, was.from_is) in
    let same = λ (b : ℕ). let it : IsFreeBlock new b ↔ ((1 ≤ b) × (b < past p) × ¬ IsListed (xs ++ p ∷ []) b) = (
      λ free. elim ((adds.exact b).0 free) [
        | inl before ↦ let w = (was.exact b).0 before in
            (w.0, omega (arith, w.1), λ e. elim (listed_cases xs p b e) [ inl old_one ↦ w.2 old_one | inr mine ↦ omega (arith, mine.0, w.1) ])
        | inr here ↦ (
          omega (arith, here.0, was.low),
          omega (arith, here.1),
          λ e. elim (listed_cases xs p b e) [
            | inl old_one ↦ let n = listed_below 1 b xs was.by_place old_one in omega (arith, here.0, was.from_is)
            | inr mine ↦ omega (arith, mine.0, here.1)
          ],
        )
      ],
      λ h. elim (cases_lt b from) [
        | inl before ↦ (adds.exact b).1 (inl ((was.exact b).1 (h.0, before, λ e. h.2 (listed_left xs (p ∷ []) b e))))
        | inr behind ↦ elim (cases_lt b p.place) [
          | inl gap ↦ (adds.exact b).1 (inr (behind, gap))
          | inr mine ↦ absurd (h.2 (listed_last xs p b (mine, h.1)))
        ]
      ],
    ) in it in
    record {
      by_place = subst (AreByPlace 1) (sym more) (by_place_more 1 xs p was.by_place at placed);
      from_is = ap (past_all 1) more ∙ past_all_more 1 xs p;
      low = omega (arith, placed.place);
      high = placed.low;
      sound = adds.gaps was.sound end (past p) (omega (arith, placed.some));
      exact = λ b. subst (λ (l : List Extent). IsFreeBlock new b ↔ ((1 ≤ b) × (b < past p) × ¬ IsListed l b)) (sym more) (same b);
      within = λ k d less. elim (cases_lt k n) [
        | inl before ↦ was.within k d before
        | inr here ↦ subst (λ (x : Extent). past x ≤ blocks) (is ∙ get_or_default listed n p d low ∙ ap (λ (i : ℕ). slice_index_or listed i d) (let e : n ≡ k = omega arith in e)) within
      ];
    }

member : (listed : List Extent) (n : ℕ) (e : Extent) → n < length listed → Contains listed (slice_index_or listed n e)
member listed n e low = (n, low, sym (get_or_default listed n e (slice_index_or listed n e) low))

-- an extent that begins before the end of those before it, or that can't be
not_by_place : (listed : List Extent) (n from blocks : ℕ) (gaps : List Gap) (e : Extent) → n < length listed → Claimed listed n from blocks gaps → AreByPlace 1 listed → (from ≤ (slice_index_or listed n e).place) × IsPlaced (slice_index_or listed n e)
not_by_place listed n from blocks gaps e low was all =
    let p : Extent = slice_index_or listed n e in
    let is : p ≡ slice_index_or listed n p = get_or_default listed n e p low in
    let cut : listed ≡ take n listed ++ p ∷ drop (suc n) listed = split_at listed n p low ∙ ap (λ (x : Extent). take n listed ++ x ∷ drop (suc n) listed) (sym is) in
    let at = by_place_at 1 (take n listed) (drop (suc n) listed) p (subst (AreByPlace 1) cut all) in
    (omega (arith, at.0, was.from_is), at.1)

-- an extent that begins before the end of those before it; one that no data file can have; one that ends too late
pub too_early : (listed : List Extent) (n from blocks : ℕ) (gaps : List Gap) (e : Extent) → n < length listed → Claimed listed n from blocks gaps → (slice_index_or listed n e).place < from → FailsToFit listed blocks (Overlapping (slice_index_or listed n e))
too_early listed n from blocks gaps e low was early = (member listed n e low, λ all. let at = not_by_place listed n from blocks gaps e low was all in omega (arith, at.0))

pub unplaced : (listed : List Extent) (n from blocks : ℕ) (gaps : List Gap) (e : Extent) → n < length listed → Claimed listed n from blocks gaps → (IsPlaced (slice_index_or listed n e) → IsTrue false) → FailsToFit listed blocks (Overlapping (slice_index_or listed n e))
unplaced listed n from blocks gaps e low was other = (member listed n e low, λ all. let at = not_by_place listed n from blocks gaps e low was all in let no_way : false ≡ true = other at.1 in cc)

pub too_far : (listed : List Extent) (n blocks : ℕ) (e : Extent) → n < length listed → blocks < past (slice_index_or listed n e) → FailsToFit listed blocks (Beyond (slice_index_or listed n e))
too_far listed n blocks e low far = (member listed n e low, far)

-- all of it
pub claimed_all : (listed : List Extent) (n from blocks : ℕ) (gaps : List Gap) → length listed ≤ n → Claimed listed n from blocks gaps → ClaimsAll listed from blocks gaps
claimed_all listed n from blocks gaps all was =
    let whole : take n listed ≡ listed = take_all n listed all in
    record {
      by_place = subst (AreByPlace 1) whole was.by_place;
      from_is = ap (past_all 1) (sym whole) ∙ was.from_is;
      low = was.low;
      high = was.high;
      sound = was.sound;
      exact = λ b. subst (λ (l : List Extent). IsFreeBlock gaps b ↔ ((1 ≤ b) × (b < from) × ¬ IsListed l b)) whole (was.exact b);
      within = λ k d low. was.within k d (omega arith);
    }

pub space_of : (listed : List Extent) (from blocks : ℕ) (old new : List Gap) → ClaimsAll listed from blocks old → AddsGap from END old new → IsSpaceOf listed new
space_of listed from blocks old new was adds b = (
  λ free. elim ((adds.exact b).0 free) [
    | inl before ↦ let w = (was.exact b).0 before in (w.0, omega (arith, w.1, was.high), w.2)
    | inr here ↦ (omega (arith, here.0, was.low), here.1, λ e. let n = listed_below 1 b listed was.by_place e in omega (arith, here.0, was.from_is))
  ],
  λ h. elim (cases_lt b from) [
    | inl before ↦ (adds.exact b).1 (inl ((was.exact b).1 (h.0, before, h.2)))
    | inr behind ↦ (adds.exact b).1 (inr (behind, h.1))
  ],
)

pub gaps_of_all : (listed : List Extent) (from blocks : ℕ) (old new : List Gap) → ClaimsAll listed from blocks old → AddsGap from END old new → AreGaps 1 new
gaps_of_all listed from blocks old new was adds = below_gaps 1 (END + 1) new (adds.gaps was.sound (omega arith) (END + 1) (omega arith))

pub listed_at : (listed : List Extent) (k : ℕ) (d : Extent) (b : ℕ) → k < length listed → IsBlockOf (slice_index_or listed k d) b → IsListed listed b
listed_at [] k d b low h = absurd (omega arith)
listed_at (p ∷ later) zero d b low h = inl h
listed_at (p ∷ later) (suc k) d b low h = inr (listed_at later k d b (omega arith) h)

-- no listed extent has a free block
pub listed_in_use : (listed : List Extent) (gaps : List Gap) → IsSpaceOf listed gaps → All (InUse gaps) listed
listed_in_use listed gaps space k d low b block free = ((space b).0 free).2 (listed_at listed k d b low block)
