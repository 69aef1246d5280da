-- The content of the tables, read from the rows of a database.
use Rattle.std.proofs.Common.{◌≡◌, ◌<◌, ◌^◌, ℕ, List, [], ◌∷◌, map, refl, sym, ap, ap₂, subst, arith, ◌∙◌}
use Rattle.std.specs.Int.{w64, cast_signed, cast_unsigned}
use Rattle.std.specs.List.{AllByRecursion}
use Rattle.std.proofs.lemmas.Int.{of_z-to_z}
use Rattle.fuse_store_tables.specs.Content.{Counter, Kept, lot_row, kept_row}
use Rattle.guest_tables.specs.Rows.{PairRow, pair_row, IsFitPair}
use Rattle.guest_tables.specs.Content.{GuestContent, counter_row}
use Rattle.guest_tables.specs.Opening.{meta_keys}
use Rattle.guest_tables.specs.Holding.{holding_in}
use Rattle.guest_tables.specs.Reading.{counter_in, pair_in, lot_in, kept_in, ContentsAreRead, HoldingsAreRead}
use Rattle.guest_tables.proofs.MetaLemmas.{AreBits, meta_bits}
use Rattle.guest_tables.proofs.Tables.{laid}

counter_back : (x : Counter) → x.value < 2 ^ 64 → counter_in (counter_row x) ≡ x
counter_back x low = ap made (of_z-to_z w64 x.value low)
  where
    made : ℕ → Counter
    made value = record { key = x.key; value = value }

counters_back : (xs : List Counter) → AreBits xs → map counter_in (map counter_row xs) ≡ xs
counters_back [] bits = refl
counters_back (x ∷ xs) bits = ap₂ (λ y ys. y ∷ ys) (counter_back x bits.0) (counters_back xs bits.1)

pair_back : (p : PairRow) → IsFitPair p → pair_in (pair_row p) ≡ p
pair_back p fit = ap made (of_z-to_z w64 p.sum (subst (λ n. n < 2 ^ 64) (sym fit.sum) (omega arith)))
  where
    made : ℕ → PairRow
    made sum = record { slot = p.slot; key = p.key; value = p.value; place = p.place; len = p.len; sum = sum }

pairs_back : (ps : List PairRow) → AllByRecursion IsFitPair ps → map pair_in (map pair_row ps) ≡ ps
pairs_back [] fit = refl
pairs_back (p ∷ ps) fit = ap₂ (λ q qs. q ∷ qs) (pair_back p fit.0) (pairs_back ps fit.1)

lots_back : (lots : List ℕ) → map lot_in (map lot_row lots) ≡ lots
lots_back [] = refl
lots_back (x ∷ xs) = ap (λ ys. x ∷ ys) (lots_back xs)

kept_back : (ks : List Kept) → map kept_in (map kept_row ks) ≡ ks
kept_back [] = refl
kept_back (k ∷ ks) = ap (λ xs. k ∷ xs) (kept_back ks)

abbrev content : List Counter → List PairRow → List ℕ → List Kept → GuestContent
content counters pairs lots kept = record { counters = counters; pairs = pairs; lots = lots; kept = kept }

pub contents_read : ContentsAreRead
contents_read c d at fit =
    let was = laid c d at in
    let counters = ap (map counter_in) was.counters.0 ∙ counters_back c.counters (meta_bits meta_keys c.counters fit.meta.meta) in
    let pairs = ap (map pair_in) was.pairs.0 ∙ pairs_back c.pairs fit.pairs in
    let lots = ap (map lot_in) was.lots.0 ∙ lots_back c.lots in
    let kept = ap (map kept_in) was.kept.0 ∙ kept_back c.kept in
    ap (λ cs. content cs (map pair_in (d.trees 1)) (map lot_in (d.trees 3)) (map kept_in (d.trees 4))) counters
    ∙ ap (λ ps. content c.counters ps (map lot_in (d.trees 3)) (map kept_in (d.trees 4))) pairs
    ∙ ap (λ ls. content c.counters c.pairs ls (map kept_in (d.trees 4))) lots
    ∙ ap (content c.counters c.pairs c.lots) kept

pub holdings_read : HoldingsAreRead
holdings_read y d held = ap holding_in (contents_read held.0 d held.1 held.2) ∙ held.3
