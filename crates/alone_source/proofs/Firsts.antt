-- The first message of bytes, and their bad length.
use Rattle.std.proofs.Common.{◌≡◌, ◌≤◌, ◌<◌, ℕ, Bool, true, false, cond, ltb, leb, List, ◌++◌, length, Option, Some, None, inl, inr}
use Rattle.std.proofs.Common.{refl, arith}
use Rattle.std.specs.Prelude.{◌⊎◌, is_some}
use Rattle.std.proofs.lemmas.Bool.{le-leb, leb-true, ltb-true, ltb-false, lt-ltb, le-ltb, and_parts, cases_lt}
use Rattle.std.proofs.lemmas.List.{length-append}
use Rattle.fuse_wire.specs.Bytes.{number_of}
use Rattle.fuse_wire.specs.Laws.{NumbersRead}
use Rattle.fuse_request.specs.declared.framer.FrameFault.{FrameFault}
use Rattle.fuse_request.specs.declared.framer.FrameFault.TheVariants.{Short, TooLong}
use Rattle.fuse_request.specs.Stream.{is_whole, cut, IsOneCut}
use Rattle.alone_source.specs.Holding.{is_bad}

-- the length of a whole first message
pub record IsFirst (w : List ℕ) : Type 0 where
  pub some : 4 ≤ length w
  pub low : 40 ≤ number_of 4 w
  pub high : number_of 4 w ≤ 135168
  pub there : number_of 4 w ≤ length w

pub first_of : (w : List ℕ) → is_whole w ≡ true → IsFirst w
first_of w e =
    let a = and_parts (leb 4 (length w)) _ e in
    let b = and_parts (leb 40 (number_of 4 w)) _ a.1 in
    let c = and_parts (leb (number_of 4 w) 135168) _ b.1 in
    record { some = leb-true _ _ a.0; low = leb-true _ _ b.0; high = leb-true _ _ c.0; there = leb-true _ _ c.1 }

pub whole_from : (w : List ℕ) → IsFirst w → is_whole w ≡ true
whole_from w f =
    let some = f.some in
    let low = f.low in
    let high = f.high in
    let there = f.there in
    rw (le-leb 4 (length w) some, le-leb 40 (number_of 4 w) low, le-leb (number_of 4 w) 135168 high, le-leb (number_of 4 w) (length w) there) refl

pub not_whole : (b : Bool) → (b ≡ true → ⊥) → b ≡ false
not_whole true h = absurd (h refl)
not_whole false h = refl

-- bytes that aren't whole end before the first message that they begin
pub begun_short : NumbersRead → (b h : List ℕ) → is_whole b ≡ false → is_whole (b ++ h) ≡ true → length b < number_of 4 (b ++ h)
begun_short laws b h stuck whole =
    elim (cases_lt (length b) (number_of 4 (b ++ h))) [
      | inl less ↦ less
      | inr more ↦ (
          let f = first_of (b ++ h) whole in
          let low = f.low in
          let high = f.high in
          let some : 4 ≤ length b = omega arith in
          let same : number_of 4 (b ++ h) ≡ number_of 4 b = laws.apart 4 b h some in
          let full : is_whole b ≡ true = whole_from b (record { some = some; low = omega arith; high = omega arith; there = omega arith }) in
          absurd cc)
    ]

-- the tests of a bad length
pub record IsBadFirst (w : List ℕ) : Type 0 where
  pub some : 4 ≤ length w
  pub outside : (number_of 4 w < 40) ⊎ (135168 < number_of 4 w)

bad_by : (few low high : Bool) (at n : ℕ)
    → is_some (cond {A = Option FrameFault} few None (cond {A = Option FrameFault} low (Some (Short at n))
    (cond {A = Option FrameFault} high (Some (TooLong at n)) None))) ≡ true
    → (few ≡ false) × ((low ≡ true) ⊎ (high ≡ true))
bad_by true low high at n e = absurd cc
bad_by false true high at n e = (refl, inl refl)
bad_by false false true at n e = (refl, inr refl)
bad_by false false false at n e = absurd cc

pub bad_first : (w : List ℕ) → is_bad w ≡ true → IsBadFirst w
bad_first w e =
    let p = bad_by (ltb (length w) 4) (ltb (number_of 4 w) 40) (ltb 135168 (number_of 4 w)) 0 (number_of 4 w) e in
    record {
      some = ltb-false _ _ p.0;
      outside = elim p.1 [ inl l ↦ inl (ltb-true _ _ l) | inr h ↦ inr (ltb-true _ _ h) ];
    }

pub bad_from : (w : List ℕ) → IsBadFirst w → is_bad w ≡ true
bad_from w f =
    let some = f.some in
    elim f.outside [
      | inl low ↦ rw (le-ltb (length w) 4 some, lt-ltb (number_of 4 w) 40 low) refl
      | inr high ↦ (
          let not_low : 40 ≤ number_of 4 w = omega arith in
          rw (le-ltb (length w) 4 some, le-ltb (number_of 4 w) 40 not_low, lt-ltb 135168 (number_of 4 w) high) refl)
    ]

-- no message follows a bad length
pub bad_more : NumbersRead → (w b : List ℕ) → is_bad w ≡ true → (is_bad (w ++ b) ≡ true) × (is_whole (w ++ b) ≡ false)
bad_more laws w b e =
    let f = bad_first w e in
    let some = f.some in
    let same : number_of 4 (w ++ b) ≡ number_of 4 w = laws.apart 4 w b some in
    let long : 4 ≤ length (w ++ b) = omega (arith, length-append w b) in (
      bad_from (w ++ b) (record { some = long; outside = rw same f.outside }),
      not_whole (is_whole (w ++ b)) (λ whole. (
          let g = first_of (w ++ b) whole in
          let low = g.low in
          let high = g.high in
          elim f.outside [ inl l ↦ omega arith | inr h ↦ omega arith ])),
    )

-- bytes that aren't whole and have no bad length are shorter than the longest message
pub stuck_short : (w : List ℕ) → is_whole w ≡ false → is_bad w ≡ false → length w < 135168
stuck_short w stuck good =
    elim (cases_lt (length w) 135168) [
      | inl less ↦ less
      | inr more ↦ (
          let some : 4 ≤ length w = omega arith in
          elim (cases_lt (number_of 4 w) 40) [
            | inl low ↦ (let bad : is_bad w ≡ true = bad_from w (record { some = some; outside = inl low }) in absurd cc)
            | inr low ↦ elim (cases_lt 135168 (number_of 4 w)) [
              | inl high ↦ (let bad : is_bad w ≡ true = bad_from w (record { some = some; outside = inr high }) in absurd cc)
              | inr high ↦ (
                  let full : is_whole w ≡ true = whole_from w (record { some = some; low = low; high = high; there = omega arith }) in
                  absurd cc)
            ]
          ])
    ]

-- the rest of a cut begins with no whole message
pub rest_stuck : IsOneCut → (w : List ℕ) → is_whole (cut w).1 ≡ false
rest_stuck one w = (one w).0.stuck
