-- The space of a list, as extents come and go.
use Rattle.std.proofs.Common.{◌⊎◌, ℕ, suc, List, [], ◌∷◌, refl, sym, subst, inl, inr, arith}
use Rattle.std.specs.List.{All, Contains}
use Rattle.std.proofs.lemmas.Bool.{cases_lt}
use Rattle.fuse_data.specs.declared.extent.Extent.{Extent}
use Rattle.fuse_data.specs.declared.gaps.Gap.{Gap}
use Rattle.fuse_data.specs.Extents.{past, IsPlaced, IsBlockOf, AreDisjoint}
use Rattle.fuse_data.specs.Space.{TakesOut, PutsIn, IsListed, IsSpaceOf}
use Rattle.fuse_data.proofs.Listings.{listed_at}

cases_block : (p : Extent) (b : ℕ) → IsBlockOf p b ⊎ (¬ IsBlockOf p b)
cases_block p b = elim (cases_lt b p.place) [
  | inl before ↦ inr (λ block. omega (arith, block.0))
  | inr from ↦ elim (cases_lt b (past p)) [
    | inl mine ↦ inl (from, mine)
    | inr behind ↦ inr (λ block. omega (arith, block.1))
  ]
]

-- a listed block is one of an extent of the list
block_of : (listed : List Extent) (b : ℕ) → IsListed listed b → (p : Extent) × Contains listed p × IsBlockOf p b
block_of [] b e = absurd e
block_of (p ∷ later) b e = elim e [
  | inl here ↦ (p, (0, omega arith, refl), here)
  | inr rest ↦ let (q, has, block) = block_of later b rest in (q, (suc has.0, (let low = has.1 in omega arith), has.2), block)
]

listed_by : (listed : List Extent) (p : Extent) (b : ℕ) → Contains listed p → IsBlockOf p b → IsListed listed b
listed_by listed p b has block =
    let (k, low, is) = has in
    listed_at listed k p b low (subst (λ (q : Extent). IsBlockOf q b) (sym is) block)

listed_more : (listed others : List Extent) (b : ℕ) → ((p : Extent) → Contains listed p → Contains others p) → IsListed listed b → IsListed others b
listed_more listed others b more e = let (p, has, block) = block_of listed b e in listed_by others p b (more p has) block

pub same_members : (listed others : List Extent) (gaps : List Gap) → ((p : Extent) → Contains listed p → Contains others p) → ((p : Extent) → Contains others p → Contains listed p) → IsSpaceOf listed gaps → IsSpaceOf others gaps
same_members listed others gaps there back space b = (
  λ free. let w = (space b).0 free in (w.0, w.1, λ e. w.2 (listed_more others listed b back e)),
  λ h. (space b).1 (h.0, h.1, λ e. h.2 (listed_more listed others b there e)),
)

pub taken_space : (listed : List Extent) (p : Extent) (old new : List Gap) → IsSpaceOf listed old → TakesOut p old new → IsSpaceOf (p ∷ listed) new
taken_space listed p old new space taken b = (
  λ f. let was = (taken b).0 f in let w = (space b).0 was.0 in (w.0, w.1, λ e. elim e [ inl mine ↦ was.1 mine | inr rest ↦ w.2 rest ]),
  λ h. (taken b).1 ((space b).1 (h.0, h.1, λ e. h.2 (inr e)), λ mine. h.2 (inl mine)),
)

-- no block of an extent is listed, if it shares none with each one of the list
not_listed : (listed : List Extent) (p : Extent) (b : ℕ) → All (AreDisjoint p) listed → IsBlockOf p b → IsListed listed b → ⊥
not_listed listed p b apart mine e =
    let (q, has, block) = block_of listed b e in
    let (k, low, is) = has in
    let one : AreDisjoint p q = subst (AreDisjoint p) is (apart k q low) in
    elim one [ inl after ↦ omega (arith, mine.1, block.0) | inr before ↦ omega (arith, mine.0, block.1) ]

pub given_space : (listed : List Extent) (p : Extent) (old new : List Gap) → IsSpaceOf (p ∷ listed) old → IsPlaced p → All (AreDisjoint p) listed → PutsIn p old new → IsSpaceOf listed new
given_space listed p old new space placed apart given b = (
  λ f. elim ((given b).0 f) [
    | inl was ↦ let w = (space b).0 was in (w.0, w.1, λ e. w.2 (inr e))
    | inr mine ↦ (omega (arith, placed.place, mine.0), omega (arith, placed.low, mine.1), λ e. not_listed listed p b apart mine e)
  ],
  λ h. elim (cases_block p b) [
    | inl mine ↦ (given b).1 (inr mine)
    | inr other ↦ (given b).1 (inl ((space b).1 (h.0, h.1, λ e. elim e [ inl here ↦ other here | inr rest ↦ h.2 rest ])))
  ],
)
