-- Which blocks are free, as gaps come and go.
use Rattle.std.proofs.Common.{◌≡◌, ◌⊎◌, ◌↔◌, ℕ, ◌+◌, ◌<◌, ◌≤◌, List, [], ◌∷◌, ◌++◌, zero, suc, length, slice_index_or, inl, inr, arith}
use Rattle.std.proofs.lemmas.Bool.{cases_lt}
use Rattle.fuse_data.specs.declared.extent.Extent.{Extent}
use Rattle.fuse_data.specs.declared.extent.TheConstants.{END}
use Rattle.fuse_data.specs.declared.gaps.Gap.{Gap}
use Rattle.fuse_data.specs.Extents.{past, IsBlockOf}
use Rattle.fuse_data.specs.Space.{IsWithin, IsFreeBlock, AreGaps, IsFreeExtent, TakesOut, PutsIn}

pub free_left : (xs ys : List Gap) (b : ℕ) → IsFreeBlock xs b → IsFreeBlock (xs ++ ys) b
free_left [] ys b f = absurd f
free_left (x ∷ xs) ys b f = elim f [ inl here ↦ inl here | inr rest ↦ inr (free_left xs ys b rest) ]

pub free_right : (xs ys : List Gap) (b : ℕ) → IsFreeBlock ys b → IsFreeBlock (xs ++ ys) b
free_right [] ys b f = f
free_right (x ∷ xs) ys b f = inr (free_right xs ys b f)

pub free_cases : (xs ys : List Gap) (b : ℕ) → IsFreeBlock (xs ++ ys) b → IsFreeBlock xs b ⊎ IsFreeBlock ys b
free_cases [] ys b f = inr f
free_cases (x ∷ xs) ys b f = elim f [
  | inl here ↦ inl (inl here)
  | inr rest ↦ elim (free_cases xs ys b rest) [ inl left ↦ inl (inr left) | inr right ↦ inr right ]
]

-- gaps have nothing below the block where they begin, and nothing from the end on
pub free_low : (low b : ℕ) (gaps : List Gap) → AreGaps low gaps → IsFreeBlock gaps b → low ≤ b
free_low low b [] h f = absurd f
free_low low b (g ∷ gaps) h f = elim f [
  | inl here ↦ omega (arith, h.0, here.0)
  | inr rest ↦ let n = free_low (g.to + 1) b gaps h.3 rest in omega (arith, h.0, h.1)
]

pub free_high : (low b : ℕ) (gaps : List Gap) → AreGaps low gaps → IsFreeBlock gaps b → b < END
free_high low b [] h f = absurd f
free_high low b (g ∷ gaps) h f = elim f [
  | inl here ↦ omega (arith, here.1, h.2)
  | inr rest ↦ free_high (g.to + 1) b gaps h.3 rest
]

pub gap_low : (low : ℕ) (xs ys : List Gap) (g : Gap) → AreGaps low (xs ++ g ∷ ys) → low ≤ g.from
gap_low low [] ys g h = h.0
gap_low low (x ∷ xs) ys g h = let n = gap_low (x.to + 1) xs ys g h.3 in omega (arith, h.0, h.1)

-- the gaps before a gap have nothing from its first block on
pub free_before : (low b : ℕ) (xs ys : List Gap) (g : Gap) → AreGaps low (xs ++ g ∷ ys) → IsFreeBlock xs b → b < g.from
free_before low b [] ys g h f = absurd f
free_before low b (x ∷ xs) ys g h f = elim f [
  | inl here ↦ let n = gap_low (x.to + 1) xs ys g h.3 in omega (arith, here.1)
  | inr rest ↦ free_before (x.to + 1) b xs ys g h.3 rest
]

pub gaps_at : (low : ℕ) (xs ys : List Gap) (g : Gap) → AreGaps low (xs ++ g ∷ ys) → AreGaps g.from (g ∷ ys)
gaps_at low [] ys g h = (omega arith, h.1, h.2, h.3)
gaps_at low (x ∷ xs) ys g h = gaps_at (x.to + 1) xs ys g h.3

-- an extent at the head of a gap is free
pub head_free : (xs ys : List Gap) (g : Gap) (p : Extent) → g.from ≡ p.place → past p ≤ g.to → IsFreeExtent (xs ++ g ∷ ys) p
head_free xs ys g p begins ends b block = free_right xs (g ∷ ys) b (inl (omega (arith, block.0), omega (arith, block.1)))

-- it is taken, where the gap's other blocks are left
pub takes_out : (low : ℕ) (xs ys zs : List Gap) (g : Gap) (p : Extent) → AreGaps low (xs ++ g ∷ ys) → g.from ≡ p.place → past p ≤ g.to
    → ((b : ℕ) → IsFreeBlock zs b ↔ (((past p ≤ b) × (b < g.to)) ⊎ IsFreeBlock ys b)) → TakesOut p (xs ++ g ∷ ys) (xs ++ zs)
takes_out low xs ys zs g p h begins ends rest b =
    let at = gaps_at low xs ys g h in
    let old = xs ++ g ∷ ys in
    let there : IsFreeBlock (xs ++ zs) b → IsFreeBlock old b × ¬ IsBlockOf p b = λ f. elim (free_cases xs zs b f) [
      | inl left ↦ (free_left xs (g ∷ ys) b left, λ block. let n = free_before low b xs ys g h left in omega (arith, block.0))
      | inr right ↦ elim ((rest b).0 right) [
        | inl cut ↦ (free_right xs (g ∷ ys) b (inl (omega (arith, cut.0), cut.1)), λ block. omega (arith, block.1, cut.0))
        | inr after ↦ (free_right xs (g ∷ ys) b (inr after), λ block. let n = free_low (g.to + 1) b ys at.3 after in omega (arith, block.1))
      ]
    ] in
    let back : IsFreeBlock old b × ¬ IsBlockOf p b → IsFreeBlock (xs ++ zs) b = λ both. elim (free_cases xs (g ∷ ys) b both.0) [
      | inl left ↦ free_left xs zs b left
      | inr (inl here) ↦ elim (cases_lt b (past p)) [
        | inl mine ↦ absurd (both.1 (omega (arith, here.0), mine))
        | inr cut ↦ free_right xs zs b ((rest b).1 (inl (cut, here.1)))
      ]
      | inr (inr after) ↦ free_right xs zs b ((rest b).1 (inr after))
    ] in
    (there, back)

-- one gap in place of some, with the extent
pub puts_in : (xs mid ys : List Gap) (g : Gap) (p : Extent) → ((b : ℕ) → IsWithin g b ↔ (IsFreeBlock mid b ⊎ IsBlockOf p b)) → PutsIn p (xs ++ (mid ++ ys)) (xs ++ g ∷ ys)
puts_in xs mid ys g p same b =
    let old = xs ++ (mid ++ ys) in
    let new = xs ++ g ∷ ys in
    let there : IsFreeBlock new b → IsFreeBlock old b ⊎ IsBlockOf p b = λ f. elim (free_cases xs (g ∷ ys) b f) [
      | inl left ↦ inl (free_left xs (mid ++ ys) b left)
      | inr (inl here) ↦ elim ((same b).0 here) [
        | inl was ↦ inl (free_right xs (mid ++ ys) b (free_left mid ys b was))
        | inr mine ↦ inr mine
      ]
      | inr (inr after) ↦ inl (free_right xs (mid ++ ys) b (free_right mid ys b after))
    ] in
    let back : IsFreeBlock old b ⊎ IsBlockOf p b → IsFreeBlock new b = λ f. elim f [
      | inl was ↦ elim (free_cases xs (mid ++ ys) b was) [
        | inl left ↦ free_left xs (g ∷ ys) b left
        | inr right ↦ elim (free_cases mid ys b right) [
          | inl middle ↦ free_right xs (g ∷ ys) b (inl ((same b).1 (inl middle)))
          | inr after ↦ free_right xs (g ∷ ys) b (inr after)
        ]
      ]
      | inr mine ↦ free_right xs (g ∷ ys) b (inl ((same b).1 (inr mine)))
    ] in
    (there, back)

-- the extent's blocks are all in one gap
abbrev pub LiesIn : List Gap → Extent → Type 0
LiesIn [] p = ⊥
LiesIn (g ∷ gaps) p = ((g.from ≤ p.place) × (past p ≤ g.to)) ⊎ LiesIn gaps p

-- those of a free extent are, since no two gaps touch
pub one_gap : (low : ℕ) (gaps : List Gap) (p : Extent) → AreGaps low gaps → 1 ≤ p.count → IsFreeExtent gaps p → LiesIn gaps p
one_gap low [] p h some free = free p.place (omega arith, omega arith)
one_gap low (g ∷ gaps) p h some free = elim (free p.place (omega arith, omega arith)) [
  | inl here ↦ elim (cases_lt g.to (past p)) [
    | inl over ↦ elim (free g.to (omega (arith, here.1), over)) [
      | inl again ↦ absurd (omega (arith, again.1))
      | inr rest ↦ absurd (let n = free_low (g.to + 1) g.to gaps h.3 rest in omega arith)
    ]
    | inr whole ↦ inl (here.0, whole)
  ]
  | inr rest ↦
      let n = free_low (g.to + 1) p.place gaps h.3 rest in
      let later : IsFreeExtent gaps p = λ b block. elim (free b block) [ inl here ↦ absurd (omega (arith, here.1, block.0)) | inr more ↦ more ] in
      inr (one_gap (g.to + 1) gaps p h.3 some later)
]

pub none_lies : (gaps : List Gap) (p : Extent) (count : ℕ) → p.count ≡ count → ((k : ℕ) (d : Gap) → k < length gaps → ¬ ((slice_index_or gaps k d).from + count ≤ (slice_index_or gaps k d).to)) → LiesIn gaps p → ⊥
none_lies [] p count is none lies = lies
none_lies (g ∷ gaps) p count is none lies = elim lies [
  | inl here ↦ none 0 g (omega arith) (omega (arith, here.0, here.1))
  | inr rest ↦ none_lies gaps p count is (λ k d low. none (suc k) d (omega arith)) rest
]

lies_low : (low : ℕ) (gaps : List Gap) (p : Extent) → AreGaps low gaps → LiesIn gaps p → low ≤ p.place
lies_low low [] p h lies = absurd lies
lies_low low (g ∷ gaps) p h lies = elim lies [
  | inl here ↦ omega (arith, h.0, here.0)
  | inr rest ↦ let n = lies_low (g.to + 1) gaps p h.3 rest in omega (arith, h.0, h.1)
]

-- it doesn't begin before the first gap that has room
pub first_lies : (low : ℕ) (gaps : List Gap) (i : ℕ) (d : Gap) (p : Extent) (count : ℕ) → AreGaps low gaps → p.count ≡ count → ((k : ℕ) (e : Gap) → k < i → ¬ ((slice_index_or gaps k e).from + count ≤ (slice_index_or gaps k e).to)) → LiesIn gaps p → (slice_index_or gaps i d).from ≤ p.place
first_lies low [] i d p count h is none lies = absurd lies
first_lies low (g ∷ gaps) zero d p count h is none lies = elim lies [
  | inl here ↦ here.0
  | inr rest ↦ let n = lies_low (g.to + 1) gaps p h.3 rest in omega (arith, h.1)
]
first_lies low (g ∷ gaps) (suc i) d p count h is none lies = elim lies [
  | inl here ↦ absurd (none 0 g (omega arith) (omega (arith, here.0, here.1)))
  | inr rest ↦ first_lies (g.to + 1) gaps i d p count h.3 is (λ k e low. none (suc k) e (omega arith)) rest
]
