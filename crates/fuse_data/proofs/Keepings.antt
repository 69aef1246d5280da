-- A write into free space, and a cut of it, leave the header and the extents in use.
use Rattle.std.proofs.Common.{◌≡◌, ◌≢◌, ◌⊎◌, ℕ, ◌+◌, ◌-◌, ◌*◌, ◌<◌, ◌≤◌, List, length, drop, slice_index_or, refl, sym, ap, subst, ◌∙◌, inl, inr, arith, length-drop}
use Rattle.std.proofs.lemmas.Bool.{cases_lt}
use Rattle.std.proofs.lemmas.List.{ext_get_or, get_or-take, get_or-drop, length-take-le}
use Rattle.sqlite_disk.specs.Disk.{Holds, Torn, Cut, Follows}
use Rattle.fuse_wire.specs.Bytes.{le}
use Rattle.fuse_data.specs.declared.extent.Extent.{Extent}
use Rattle.fuse_data.specs.declared.extent.TheConstants.{BLOCK, END}
use Rattle.fuse_data.specs.declared.gaps.Gap.{Gap}
use Rattle.fuse_data.specs.Extents.{past, bytes_of, sum_of, IsPlaced, AreDisjoint, AreBytes, IsWhole, IsKept}
use Rattle.fuse_data.specs.Space.{IsFreeBlock, IsFreeExtent, InUse, AllInUse}
use Rattle.fuse_data.specs.Header.{header_of}
use Rattle.fuse_data.specs.Leaving.{KeepsInUse, KeepsListed, AreSafe}

pub header_len : (store : ℕ) → length (header_of store) ≡ 32
unfolding le
header_len store = refl

-- the bytes of an extent, as a list and by their places
pub bytes_len : (file : List ℕ) (p : Extent) → past p * BLOCK ≤ length file → length (bytes_of file p) ≡ p.count * BLOCK
bytes_len file p within =
    let n : ℕ = p.count * BLOCK in
    let at : ℕ = p.place * BLOCK in
    length-take-le n (drop at file) (omega (arith, length-drop at file))

pub held_bytes : (file : List ℕ) (p : Extent) → past p * BLOCK ≤ length file → Holds file (p.place * BLOCK) (bytes_of file p)
held_bytes file p within =
    let n : ℕ = p.count * BLOCK in
    let at : ℕ = p.place * BLOCK in
    let len = bytes_len file p within in
    record {
      within = omega (arith, len);
      each = λ i low. sym (get_or-take n (drop at file) i 0 (omega (arith, len)) ∙ get_or-drop at file i 0);
    }

pub same_bytes : (file bytes : List ℕ) (p : Extent) → length bytes ≡ p.count * BLOCK → Holds file (p.place * BLOCK) bytes → bytes_of file p ≡ bytes
same_bytes file bytes p size h =
    let n : ℕ = p.count * BLOCK in
    let at : ℕ = p.place * BLOCK in
    let len = bytes_len file p (omega (arith, h.within)) in
    ext_get_or 0 (bytes_of file p) bytes (len ∙ sym size) (λ i low. get_or-take n (drop at file) i 0 (omega (arith, len)) ∙ get_or-drop at file i 0 ∙ h.each i (omega (arith, len)))

pub held_whole : (file bytes : List ℕ) (p : Extent) → IsPlaced p → length bytes ≡ p.count * BLOCK → AreBytes bytes → sum_of bytes ≡ p.sum → Holds file (p.place * BLOCK) bytes → IsWhole file p
held_whole file bytes p placed size small sum h =
    let same = same_bytes file bytes p size h in
    record { placed = placed; within = omega (arith, h.within); bytes = subst AreBytes (sym same) small; sum = ap sum_of same ∙ sum }

whole_kept : (old new : List ℕ) (p : Extent) → IsWhole old p → Holds new (p.place * BLOCK) (bytes_of old p) → IsKept old new p
whole_kept old new p was h =
    let size = bytes_len old p was.within in
    record { whole = held_whole new (bytes_of old p) p was.placed size was.bytes was.sum h; same = same_bytes new (bytes_of old p) p size h }

-- bytes that a disk read
pub not_whole : (file bytes : List ℕ) (p : Extent) → length bytes ≡ p.count * BLOCK → sum_of bytes ≢ p.sum → Holds file (p.place * BLOCK) bytes → IsWhole file p → ⊥
not_whole file bytes p size other h whole = other (sym (ap sum_of (same_bytes file bytes p size h)) ∙ whole.sum)

torn_bytes : (old new bytes : List ℕ) (at n k : ℕ) → Torn at n old new → (k + length bytes ≤ at) ⊎ (at + n ≤ k) → Holds old k bytes → Holds new k bytes
torn_bytes old new bytes at n k torn apart h =
    record {
      within = omega (arith, h.within, torn.no_shorter);
      each = λ i low. elim apart [
        | inl before ↦ torn.below (k + i) (omega (arith, h.within)) (omega arith) ∙ h.each i low
        | inr after ↦ torn.above (k + i) (omega (arith, h.within)) (omega arith) ∙ h.each i low
      ];
    }

cut_bytes : (old new bytes : List ℕ) (n k : ℕ) → Cut n old new → k + length bytes ≤ n → Holds old k bytes → Holds new k bytes
cut_bytes old new bytes n k cut ends h =
    record {
      within = omega (arith, h.within, cut.no_shorter);
      each = λ i low. cut.below (k + i) (omega (arith, h.within)) (omega arith) ∙ h.each i low;
    }

-- a free extent and one in use share no block
pub disjoint : (gaps : List Gap) (p q : Extent) → 1 ≤ p.count → 1 ≤ q.count → IsFreeExtent gaps p → InUse gaps q → AreDisjoint p q
disjoint gaps p q some some' free used = elim (cases_lt p.place q.place) [
  | inl less ↦ elim (cases_lt q.place (past p)) [
    | inl common ↦ absurd (used q.place (omega arith, omega arith) (free q.place (omega arith, common)))
    | inr out ↦ inl out
  ]
  | inr more ↦ elim (cases_lt p.place (past q)) [
    | inl common ↦ absurd (used p.place (more, common) (free p.place (omega arith, omega arith)))
    | inr out ↦ inr out
  ]
]

torn_extent : (old new : List ℕ) (p q : Extent) → Torn (p.place * BLOCK) (p.count * BLOCK) old new → AreDisjoint p q → IsWhole old q → IsKept old new q
torn_extent old new p q torn apart h =
    let len = bytes_len old q h.within in
    let where' : (q.place * BLOCK + length (bytes_of old q) ≤ p.place * BLOCK) ⊎ (p.place * BLOCK + p.count * BLOCK ≤ q.place * BLOCK) = elim apart [
      | inl after ↦ inr (omega arith)
      | inr before ↦ inl (omega (arith, len))
    ] in
    whole_kept old new q h (torn_bytes old new (bytes_of old q) (p.place * BLOCK) (p.count * BLOCK) (q.place * BLOCK) torn where' (held_bytes old q h.within))

pub kept : (gaps : List Gap) (p : Extent) (n : ℕ) (old new : List ℕ) → IsPlaced p → IsFreeExtent gaps p → n ≡ p.count * BLOCK → Torn (p.place * BLOCK) n old new → KeepsInUse gaps old new
kept gaps p n old new placed free is torn =
    let torn' : Torn (p.place * BLOCK) (p.count * BLOCK) old new = rw (← is) torn in
    record {
      header = λ store h. torn_bytes old new (header_of store) (p.place * BLOCK) n 0 torn (inl (omega (arith, header_len store, placed.place))) h;
      extents = λ q used whole. torn_extent old new p q torn' (disjoint gaps p q placed.some whole.placed.some free used) whole;
    }

pub kept_after : (gaps : List Gap) (p : Extent) (n : ℕ) (old new : List ℕ → Type 0) → IsPlaced p → IsFreeExtent gaps p → n ≡ p.count * BLOCK → Follows (Torn (p.place * BLOCK) n) old new → Follows (KeepsInUse gaps) old new
kept_after gaps p n old new placed free is steps c may =
    let (d, was, torn) = steps c may in
    (d, was, kept gaps p n d c placed free is torn)

cut_extent : (gaps : List Gap) (tail : ℕ) (old new : List ℕ) (q : Extent) → ((b : ℕ) → tail ≤ b → b < END → IsFreeBlock gaps b) → Cut (tail * BLOCK) old new → InUse gaps q → IsWhole old q → IsKept old new q
cut_extent gaps tail old new q free cut used h =
    let low = h.placed.low in
    let some = h.placed.some in
    let len = bytes_len old q h.within in
    let ends : past q ≤ tail = elim (cases_lt tail (past q)) [
      | inl over ↦ absurd (used (past q - 1) (omega arith, omega arith) (free (past q - 1) (omega arith) (omega arith)))
      | inr within ↦ within
    ] in
    whole_kept old new q h (cut_bytes old new (bytes_of old q) (tail * BLOCK) (q.place * BLOCK) cut (omega (arith, len)) (held_bytes old q h.within))

pub cut_kept : (gaps : List Gap) (tail : ℕ) (old new : List ℕ) → 1 ≤ tail → ((b : ℕ) → tail ≤ b → b < END → IsFreeBlock gaps b) → Cut (tail * BLOCK) old new → KeepsInUse gaps old new
cut_kept gaps tail old new some free cut =
    record {
      header = λ store h. cut_bytes old new (header_of store) (tail * BLOCK) 0 cut (omega (arith, header_len store)) h;
      extents = λ q used whole. cut_extent gaps tail old new q free cut used whole;
    }

pub cut_kept_after : (gaps : List Gap) (tail : ℕ) (old new : List ℕ → Type 0) → 1 ≤ tail → ((b : ℕ) → tail ≤ b → b < END → IsFreeBlock gaps b) → Follows (Cut (tail * BLOCK)) old new → Follows (KeepsInUse gaps) old new
cut_kept_after gaps tail old new some free steps c may =
    let (d, was, cut) = steps c may in
    (d, was, cut_kept gaps tail d c some free cut)

pub kept_same : (c : List ℕ) (p : Extent) → IsWhole c p → IsKept c c p
kept_same c p whole = record { whole = whole; same = refl }

pub same_kept : (gaps : List Gap) (c : List ℕ) → KeepsInUse gaps c c
same_kept gaps c = record { header = λ store h. h; extents = λ p used whole. kept_same c p whole }

-- where no more is left than before, each is kept
pub fewer_kept : (gaps : List Gap) (old new : List ℕ → Type 0) → ((c : List ℕ) → new c → old c) → Follows (KeepsInUse gaps) old new
fewer_kept gaps old new fewer c may = (c, fewer c may, same_kept gaps c)

-- what is said of all extents in use, of a list of them
pub lists_kept : (listed : List Extent) (gaps : List Gap) (old new : List ℕ) → KeepsInUse gaps old new → AllInUse gaps listed → KeepsListed listed old new
lists_kept listed gaps old new kept used whole k d low = kept.extents (slice_index_or listed k d) (used k d low) (whole k d low)

pub lists_kept_after : (listed : List Extent) (gaps : List Gap) (old new : List ℕ → Type 0) → Follows (KeepsInUse gaps) old new → AllInUse gaps listed → Follows (KeepsListed listed) old new
lists_kept_after listed gaps old new steps used c may =
    let (d, was, kept) = steps c may in
    (d, was, lists_kept listed gaps d c kept used)

pub lists_safe : (listed : List Extent) (gaps : List Gap) (old new : List ℕ → Type 0) → Follows (KeepsInUse gaps) old new → AllInUse gaps listed → AreSafe listed old → AreSafe listed new
lists_safe listed gaps old new steps used safe c may =
    let (d, was, kept) = steps c may in
    λ k e low. (lists_kept listed gaps d c kept used (safe d was) k e low).whole
