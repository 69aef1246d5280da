-- Parts of an extent.
use Rattle.std.proofs.Common.{◌≡◌, ℕ, zero, suc, ◌+◌, ◌-◌, ◌*◌, ◌≤◌, ◌<◌, List, [], ◌∷◌, take, drop, sym, ap, subst, ◌∙◌, inl, inr, arith}
use Rattle.std.specs.List.{All, AllPairs}
use Rattle.std.proofs.lemmas.List.{take-take, drop-take, drop-drop, get_or-drop}
use Rattle.std.proofs.lemmas.List.Kept.{AllPairs-cons}
use Rattle.fuse_data.specs.declared.extent.Extent.{Extent}
use Rattle.fuse_data.specs.declared.extent.TheConstants.{BLOCK}
use Rattle.fuse_data.specs.declared.gaps.Gap.{Gap}
use Rattle.fuse_data.specs.Extents.{past, bytes_of, sum_of, IsPlaced, AreDisjoint, AreBytes, IsWhole, AreByPlace}
use Rattle.fuse_data.specs.Space.{InUse}
use Rattle.fuse_data.specs.Laws.{IsPartOf}

pub part_placed : (p part : Extent) → IsPartOf p part → IsPlaced p → IsPlaced part
part_placed p part of placed =
    let begins = of.begins in
    let ends = of.ends in
    record { place = omega (arith, placed.place); some = of.some; few = omega (arith, placed.few); low = omega (arith, placed.low) }

pub part_in_use : (gaps : List Gap) (p part : Extent) → IsPartOf p part → InUse gaps p → InUse gaps part
part_in_use gaps p part of used b block =
    let begins = of.begins in
    let ends = of.ends in
    used b (omega (arith, block.0), omega (arith, block.1))

pub part_disjoint : (p q part : Extent) → IsPartOf p part → AreDisjoint p q → AreDisjoint part q
part_disjoint p q part of apart =
    let begins = of.begins in
    let ends = of.ends in
    elim apart [ inl after ↦ inl (omega arith) | inr before ↦ inr (omega arith) ]

-- so many elements, from so far on, of the first ones from a place on
within_first : (xs : List ℕ) (at k m n : ℕ) → k + m ≤ n → take m (drop k (take n (drop at xs))) ≡ take m (drop (at + k) xs)
within_first xs at k m n low =
    let rest : ℕ = n - k in
    let split : n ≡ k + rest = omega arith in
    let first : drop k (take n (drop at xs)) ≡ take rest (drop k (drop at xs)) = ap (λ (i : ℕ). drop k (take i (drop at xs))) split ∙ drop-take k rest (drop at xs) in
    ap (take m) first ∙ take-take m rest (drop k (drop at xs)) (omega arith) ∙ ap (take m) (drop-drop k at xs)

pub part_bytes : (file : List ℕ) (p part : Extent) → IsPartOf p part → bytes_of file part ≡ take (part.count * BLOCK) (drop ((part.place - p.place) * BLOCK) (bytes_of file p))
part_bytes file p part of =
    let begins = of.begins in
    let ends = of.ends in
    let k : ℕ = (part.place - p.place) * BLOCK in
    let m : ℕ = part.count * BLOCK in
    let at : part.place * BLOCK ≡ p.place * BLOCK + k = omega arith in
    ap (λ (i : ℕ). take m (drop i file)) at ∙ sym (within_first file (p.place * BLOCK) k m (p.count * BLOCK) (omega arith))

bytes_taken : (n : ℕ) (xs : List ℕ) → AreBytes xs → AreBytes (take n xs)
bytes_taken zero xs small i = omega arith
bytes_taken (suc n) [] small i = omega arith
bytes_taken (suc n) (x ∷ xs) small zero = small zero
bytes_taken (suc n) (x ∷ xs) small (suc i) = bytes_taken n xs (λ j. small (suc j)) i

bytes_left : (k : ℕ) (xs : List ℕ) → AreBytes xs → AreBytes (drop k xs)
bytes_left k xs small i = subst (λ (b : ℕ). b < 256) (sym (get_or-drop k xs i 0)) (small (k + i))

pub part_whole : (file : List ℕ) (p part : Extent) → IsPartOf p part → IsWhole file p → sum_of (bytes_of file part) ≡ part.sum → IsWhole file part
part_whole file p part of whole sum =
    let ends = of.ends in
    record {
      placed = part_placed p part of whole.placed;
      within = omega (arith, whole.within);
      bytes = subst AreBytes (sym (part_bytes file p part of)) (bytes_taken (part.count * BLOCK) _ (bytes_left ((part.place - p.place) * BLOCK) (bytes_of file p) whole.bytes));
      sum = sum;
    }

-- lists by place
all_past : (low : ℕ) (listed : List Extent) → AreByPlace low listed → All (λ p. (low ≤ p.place) × IsPlaced p) listed
all_past low [] h k d less = absurd (omega arith)
all_past low (p ∷ later) h zero d less = (h.0, h.1)
all_past low (p ∷ later) h (suc k) d less = let one = all_past (past p) later h.2 k d (omega arith) in (omega (arith, one.0, h.0), one.1)

pub all_placed : (listed : List Extent) → AreByPlace 1 listed → All IsPlaced listed
all_placed listed h k d less = (all_past 1 listed h k d less).1

pub all_apart : (low : ℕ) (listed : List Extent) → AreByPlace low listed → AllPairs AreDisjoint listed
all_apart low [] h = λ i j d less within. absurd (omega arith)
all_apart low (p ∷ later) h = AllPairs-cons AreDisjoint p later (λ k d less. inl (all_past (past p) later h.2 k d less).0) (all_apart (past p) later h.2)
