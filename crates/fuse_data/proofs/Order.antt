-- Gaps stay in order and apart, as one of them changes.
use Rattle.std.proofs.Common.{◌≡◌, ℕ, ◌+◌, ◌<◌, ◌≤◌, List, [], ◌∷◌, ◌++◌, suc, length, zero, take, drop, slice_index_or, slice_set, sym, subst, ap, ◌∙◌, inl, inr, arith, drop-cons, append_assoc, length-take}
use Rattle.std.proofs.Math.Seq.{split_at}
use Rattle.std.proofs.lemmas.Bool.{cases_lt}
use Rattle.std.proofs.lemmas.List.{get_or-take, get_or_default, take_more_set, drop-set-lt}
use Rattle.std.specs.List.{remove}
use Rattle.fuse_data.specs.declared.extent.TheConstants.{END}
use Rattle.fuse_data.specs.declared.gaps.Gap.{Gap}
use Rattle.fuse_data.specs.Space.{IsFreeBlock, AreGaps}
use Rattle.fuse_data.proofs.Blocks.{gap_low}

-- each gap ends before this block
abbrev pub EndBefore : List Gap → ℕ → Type 0
EndBefore [] n = Unit {0}
EndBefore (g ∷ gaps) n = (g.to < n) × EndBefore gaps n

pub gaps_weaker : (low high : ℕ) (gaps : List Gap) → low ≤ high → AreGaps high gaps → AreGaps low gaps
gaps_weaker low high [] le h = tt
gaps_weaker low high (g ∷ gaps) le h = (omega (arith, h.0), h.1, h.2, h.3)

-- one gap, in place of whatever came after those before it
pub gaps_with : (low : ℕ) (xs old ys : List Gap) (g : Gap) → AreGaps low (xs ++ old) → EndBefore xs g.from → low ≤ g.from → g.from < g.to → g.to ≤ END → AreGaps (g.to + 1) ys → AreGaps low (xs ++ g ∷ ys)
gaps_with low [] old ys g h ends le some end after = (le, some, end, after)
gaps_with low (x ∷ xs) old ys g h ends le some end after =
    (h.0, h.1, h.2, gaps_with (x.to + 1) xs old ys g h.3 ends.1 (omega (arith, ends.0)) some end after)

pub gaps_without : (low : ℕ) (xs ys : List Gap) (g : Gap) → AreGaps low (xs ++ g ∷ ys) → AreGaps low (xs ++ ys)
gaps_without low [] ys g h = gaps_weaker low (g.to + 1) ys (omega (arith, h.0, h.1)) h.3
gaps_without low (x ∷ xs) ys g h = (h.0, h.1, h.2, gaps_without (x.to + 1) xs ys g h.3)

-- a gap that begins later, and ends where it did
pub gaps_shrink : (low from : ℕ) (xs ys : List Gap) (g : Gap) → g.from ≤ from → from < g.to → AreGaps low (xs ++ g ∷ ys) → AreGaps low (xs ++ (record { from = from; to = g.to }) ∷ ys)
gaps_shrink low from [] ys g le some h = (omega (arith, h.0), some, h.2, h.3)
gaps_shrink low from (x ∷ xs) ys g le some h = (h.0, h.1, h.2, gaps_shrink (x.to + 1) from xs ys g le some h.3)

pub ends_before : (low : ℕ) (xs ys : List Gap) (g : Gap) → AreGaps low (xs ++ g ∷ ys) → EndBefore xs g.from
ends_before low [] ys g h = tt
ends_before low (x ∷ xs) ys g h = (let n = gap_low (x.to + 1) xs ys g h.3 in omega arith, ends_before (x.to + 1) xs ys g h.3)

pub gaps_right : (low : ℕ) (xs ys : List Gap) → AreGaps low (xs ++ ys) → AreGaps 0 ys
gaps_right low [] ys h = gaps_weaker 0 low ys (omega arith) h
gaps_right low (x ∷ xs) ys h = gaps_right (x.to + 1) xs ys h.3

ends_each : (n : ℕ) (xs : List Gap) → ((k : ℕ) (d : Gap) → k < length xs → (slice_index_or xs k d).to < n) → EndBefore xs n
ends_each n [] f = tt
ends_each n (x ∷ xs) f = (f 0 x (omega arith), ends_each n xs (λ k d low. f (suc k) d (omega arith)))

-- the first i gaps end before a block
pub ends_below : (n i : ℕ) (gaps : List Gap) → i ≤ length gaps → ((k : ℕ) (d : Gap) → k < i → (slice_index_or gaps k d).to < n) → EndBefore (take i gaps) n
ends_below n i gaps low f = ends_each n (take i gaps) (λ k d k_low.
    let inside : k < i = omega (arith, k_low, length-take i gaps) in
    subst (λ (g : Gap). g.to < n) (sym (get_or-take i gaps k d inside)) (f k d inside))

-- the gaps after each other rise
pub gap_first : (low : ℕ) (gaps : List Gap) (k : ℕ) (d : Gap) → k < length gaps → AreGaps low gaps → (low ≤ (slice_index_or gaps k d).from) × ((slice_index_or gaps k d).from < (slice_index_or gaps k d).to) × ((slice_index_or gaps k d).to ≤ END)
gap_first low [] k d k_low h = absurd (omega arith)
gap_first low (g ∷ gaps) zero d k_low h = (h.0, h.1, h.2)
gap_first low (g ∷ gaps) (suc k) d k_low h = let r = gap_first (g.to + 1) gaps k d (omega arith) h.3 in (omega (arith, r.0, h.0, h.1), r.1, r.2)

pub gaps_rise : (low : ℕ) (gaps : List Gap) (j k : ℕ) (d e : Gap) → j < k → k < length gaps → AreGaps low gaps → (slice_index_or gaps j d).to < (slice_index_or gaps k e).from
gaps_rise low [] j k d e order k_low h = absurd (omega arith)
gaps_rise low (g ∷ gaps) j zero d e order k_low h = absurd (omega arith)
gaps_rise low (g ∷ gaps) zero (suc k) d e order k_low h = let r = gap_first (g.to + 1) gaps k e (omega arith) h.3 in omega (arith, r.0)
gaps_rise low (g ∷ gaps) (suc j) (suc k) d e order k_low h = gaps_rise (g.to + 1) gaps j k d e (omega arith) (omega arith) h.3

-- gaps that begin at a block or after it
pub gaps_after : (n : ℕ) (gaps : List Gap) → AreGaps 0 gaps → ((d : Gap) → 0 < length gaps → n ≤ (slice_index_or gaps 0 d).from) → AreGaps n gaps
gaps_after n [] h f = tt
gaps_after n (g ∷ gaps) h f = (f g (omega arith), h.1, h.2, h.3)

-- what is free in gaps that end before a block lies before the block before it
pub free_ends : (n b : ℕ) (gaps : List Gap) → EndBefore gaps n → IsFreeBlock gaps b → b + 1 < n
free_ends n b [] h f = absurd f
free_ends n b (g ∷ gaps) h f = elim f [ inl here ↦ omega (arith, here.1, h.0) | inr rest ↦ free_ends n b gaps h.1 rest ]

-- the gaps, cut at one of them, and at two
pub gap_cut : (gaps : List Gap) (i k : ℕ) (g : Gap) → i < length gaps → k ≡ suc i → g ≡ slice_index_or gaps i g → gaps ≡ take i gaps ++ g ∷ drop k gaps
gap_cut gaps i k g low next is =
    split_at gaps i g low ∙ ap (λ (x : Gap). take i gaps ++ x ∷ drop (suc i) gaps) (sym is) ∙ ap (λ (n : ℕ). take i gaps ++ g ∷ drop n gaps) (sym next)

pub two_cut : (gaps : List Gap) (i k : ℕ) (g r : Gap) → i + 1 < length gaps → k ≡ i + 2 → g ≡ slice_index_or gaps i g → r ≡ slice_index_or gaps (i + 1) r → gaps ≡ take i gaps ++ g ∷ r ∷ drop k gaps
two_cut gaps i k g r low next is is' =
    let here : i < length gaps = omega arith in
    let one : i + 1 ≡ suc i = omega arith in
    let two : suc (i + 1) ≡ k = omega arith in
    let rest : drop (i + 1) gaps ≡ r ∷ drop k gaps = drop-cons gaps (i + 1) r low ∙ ap (λ (x : Gap). x ∷ drop (suc (i + 1)) gaps) (sym is') ∙ ap (λ (n : ℕ). r ∷ drop n gaps) two in
    gap_cut gaps i (i + 1) g here one is ∙ ap (λ (l : List Gap). take i gaps ++ g ∷ l) rest

-- a gap is set, and the next one removed
pub set_removed : (gaps : List Gap) (i k : ℕ) (g : Gap) → i + 1 < length gaps → k ≡ i + 2 → remove (slice_set gaps i g) (i + 1) ≡ take i gaps ++ g ∷ drop k gaps
set_removed gaps i k g low next =
    let here : i < length gaps = omega arith in
    let two : suc (i + 1) ≡ k = omega arith in
    let front = take_more_set gaps i g here in
    let back = drop-set-lt (suc (i + 1)) gaps i g (omega arith) in
    ap (λ (l : List Gap). l ++ drop (suc (i + 1)) (slice_set gaps i g)) front ∙ ap (λ (l : List Gap). (take i gaps ++ g ∷ []) ++ l) back ∙ append_assoc (take i gaps) (g ∷ []) (drop (suc (i + 1)) gaps) ∙ ap (λ (n : ℕ). take i gaps ++ g ∷ drop n gaps) two

ends_same : (gaps : List Gap) (j k : ℕ) (d e : Gap) → j ≡ k → k < length gaps → (slice_index_or gaps j d).to ≤ (slice_index_or gaps k e).to
ends_same gaps j k d e same low =
    let is = ap (λ (i : ℕ). slice_index_or gaps i d) same ∙ get_or_default gaps k d e low in
    let to = ap (λ (x : Gap). x.to) is in omega arith

pub ends_rise : (low : ℕ) (gaps : List Gap) (j k : ℕ) (d e : Gap) → j ≤ k → k < length gaps → AreGaps low gaps → (slice_index_or gaps j d).to ≤ (slice_index_or gaps k e).to
ends_rise low gaps j k d e order k_low h = elim (cases_lt j k) [
  | inl less ↦ let n = gaps_rise low gaps j k d e less k_low h in let m = gap_first low gaps k e k_low h in omega (arith, m.1)
  | inr same ↦ ends_same gaps j k d e (omega arith) k_low
]

-- how far a search for a block has come
pub before_more : (gaps : List Gap) (m n : ℕ) (e : Gap) → AreGaps 1 gaps → m < length gaps → (slice_index_or gaps m e).to < n → (k : ℕ) (d : Gap) → k < m + 1 → (slice_index_or gaps k d).to < n
before_more gaps m n e h low less k d k_low = let r = ends_rise 1 gaps k m d e (omega arith) low h in omega arith

pub after_more : (gaps : List Gap) (m n : ℕ) (e : Gap) → AreGaps 1 gaps → m < length gaps → n ≤ (slice_index_or gaps m e).to → (k : ℕ) (d : Gap) → m ≤ k → k < length gaps → n ≤ (slice_index_or gaps k d).to
after_more gaps m n e h low least k d order k_low = let r = ends_rise 1 gaps m k e d order k_low h in omega arith
