-- A value, and the columns of its row.
use Rattle.std.proofs.Common.{◌≡◌, ◌≢◌, ◌⊎◌, ◌+◌, ◌-◌, ◌<◌, ◌^◌, ℕ, List, [], ◌∷◌, ◌++◌, length, drop, refl, sym, subst, ap, ◌∙◌, inl, inr, arith, length-append, length-drop}
use Rattle.std.specs.Prelude.{Option, Some, None, IfSome, min}
use Rattle.std.specs.Option.{IfNone}
use Rattle.std.proofs.lemmas.List.{append-nil}
use Rattle.fuse_wire.specs.Bytes.{le, number_of, IsBytes}
use Rattle.fuse_wire.specs.Laws.{NumbersRead}
use Rattle.fuse_data.specs.declared.extent.Extent.{Extent}
use Rattle.fuse_data.specs.declared.extent.TheConstants.{MOST}
use Rattle.fuse_data.specs.Extents.{IsPlaced}
use Rattle.guest_values.specs.declared.large_value.LargeValue.{LargeValue}
use Rattle.guest_values.specs.Columns.{HasColumns, rest_bytes, second_bytes}
use Rattle.guest_values.specs.Values.{IsFitValue, IsLarge, HasRest, value_blocks}

-- ---- options

pub some_by : {X : Type 0} (P Q : X → Type 0) (o : Option X) → ((x : X) → P x → Q x) → IfSome o P → IfSome o Q
some_by P Q None f h = tt
some_by P Q (Some x) f h = f x h

pub none_by : {X : Type 0} (P Q : Type 0) (o : Option X) → (P → Q) → IfNone o P → IfNone o Q
none_by P Q None f h = f h
none_by P Q (Some x) f h = tt

-- ---- bytes

nothing : (xs : List ℕ) → length xs ≡ 0 → xs ≡ []
nothing [] is = refl
nothing (x ∷ xs) is = absurd (omega arith)

pub read_back : NumbersRead → (b : List ℕ) → length b ≡ 16 → IsBytes b → le 8 (number_of 8 b) ++ le 8 (number_of 8 (drop 8 b)) ≡ b
read_back law b long small =
    let rest_long : length (drop 8 b) ≡ 8 = omega (arith, length-drop 8 b, long) in
    let first = law.prefix 8 b (omega (arith, long)) small in
    let second = law.prefix 8 (drop 8 b) (omega (arith, rest_long)) (law.rest_bytes 8 b small) in
    let none : drop 8 (drop 8 b) ≡ [] = nothing (drop 8 (drop 8 b)) (omega (arith, length-drop 8 (drop 8 b), rest_long)) in
    let whole : drop 8 b ≡ le 8 (number_of 8 (drop 8 b)) = second.1 ∙ ap (λ (x : List ℕ). le 8 (number_of 8 (drop 8 b)) ++ x) none ∙ append-nil (le 8 (number_of 8 (drop 8 b))) in
    sym (first.1 ∙ ap (λ (x : List ℕ). le 8 (number_of 8 b) ++ x) whole)

second_long : NumbersRead → (p : Extent) → length (second_bytes p) ≡ 16
second_long law p = length-append (le 8 p.place) (le 8 p.sum) ∙ ap (λ (n : ℕ). n + length (le 8 p.sum)) (law.len 8 p.place) ∙ ap (λ (n : ℕ). 8 + n) (law.len 8 p.sum)

rest_long : NumbersRead → (o : Option Extent) → (length (rest_bytes o) ≡ 0) ⊎ (length (rest_bytes o) ≡ 16)
rest_long law None = inl refl
rest_long law (Some p) = inr (second_long law p)

same_place : NumbersRead → (p q : Extent) → p.place < 2 ^ 64 → q.place < 2 ^ 64 → second_bytes p ≡ second_bytes q → p.place ≡ q.place
same_place law p q low low' same = sym (law.read 8 p.place (le 8 p.sum) low) ∙ ap (number_of 8) same ∙ law.read 8 q.place (le 8 q.sum) low'

-- ---- a value with these columns

-- its length isn't that of the rest
pub other_length : NumbersRead → (v : LargeValue) (rest : List ℕ) (place len sum : ℕ) → length rest ≢ 0 → length rest ≢ 16 → ¬ HasColumns v rest place len sum
other_length law v rest place len sum some other has = elim (rest_long law v.second) [
  | inl none ↦ some (sym (ap length has.value_is) ∙ none)
  | inr two ↦ other (sym (ap length has.value_is) ∙ two)
]

placed_as : (p q : Extent) → p.place ≡ q.place → p.count ≡ q.count → IsPlaced p → IsPlaced q
placed_as p q place count is =
    let begins = is.place in
    let some = is.some in
    let few = is.few in
    let low = is.low in
    record { place = omega (arith, begins, place); some = omega (arith, some, count); few = omega (arith, few, count); low = omega (arith, low, place, count) }

one_fit : (first : Extent) (o : Option Extent) (place len sum : ℕ) → NumbersRead → IsLarge len → IsPlaced first → HasRest first (value_blocks len) o → length (rest_bytes o) ≡ 0
    → first.place ≡ place → IsFitValue (record { len = len; first = record { place = place; count = min (value_blocks len) MOST; sum = sum }; second = None })
one_fit first None place len sum law large placed rest none at =
    let few = placed.few in
    let count : first.count ≡ min (value_blocks len) MOST = omega (arith, few, rest) in
    record { large = large; first = placed_as first (record { place = place; count = min (value_blocks len) MOST; sum = sum }) at count placed; second = tt; rest = omega (arith, count, rest) }
one_fit first (Some q) place len sum law large placed rest none at = absurd (omega (arith, none, second_long law q))

-- the value that is read of the columns is fit, if any value that has them is
pub fit_in_one : NumbersRead → (v : LargeValue) (rest : List ℕ) (place len sum : ℕ) → length rest ≡ 0 → IsFitValue v → HasColumns v rest place len sum
    → IsFitValue (record { len = len; first = record { place = place; count = min (value_blocks len) MOST; sum = sum }; second = None })
fit_in_one law v rest place len sum none fit has =
    one_fit v.first v.second place len sum law (subst IsLarge has.len_is fit.large) fit.first (subst (λ (n : ℕ). HasRest v.first (value_blocks n) v.second) has.len_is fit.rest)
    (ap length has.value_is ∙ none) has.place_is

two_fit : (first second : Extent) (o : Option Extent) (place len sum : ℕ) → NumbersRead → IsLarge len → IsPlaced first → IfSome o IsPlaced → HasRest first (value_blocks len) o
    → rest_bytes o ≡ second_bytes second → second.place < 2 ^ 64 → second.count ≡ value_blocks len - MOST → first.place ≡ place
    → IsFitValue (record { len = len; first = record { place = place; count = min (value_blocks len) MOST; sum = sum }; second = Some second })
two_fit first second None place len sum law large placed placed' rest same low count at = absurd (omega (arith, ap length same, second_long law second))
two_fit first second (Some q) place len sum law large placed placed' rest same low count at =
    let begins : q.place ≡ second.place = same_place law q second (let high = placed'.low in omega (arith, high)) low same in
    let most = rest.0 in
    let both = rest.1 in
    let first_count : first.count ≡ min (value_blocks len) MOST = omega (arith, most, both) in
    let second_count : q.count ≡ second.count = omega (arith, most, both, count) in
    record {
      large = large;
      first = placed_as first (record { place = place; count = min (value_blocks len) MOST; sum = sum }) at first_count placed;
      second = placed_as q second begins second_count placed';
      rest = (
        omega (arith, first_count, most),
        omega (arith, first_count, second_count, both),
        elim rest.2 [
          | inl before ↦ inl (omega (arith, before, at, first_count, begins))
          | inr after ↦ inr (omega (arith, after, at, begins, second_count))
        ],
      );
    }

pub fit_in_two : NumbersRead → (v : LargeValue) (second : Extent) (rest : List ℕ) (place len sum : ℕ) → second_bytes second ≡ rest → second.place < 2 ^ 64
    → second.count ≡ value_blocks len - MOST → IsFitValue v → HasColumns v rest place len sum
    → IsFitValue (record { len = len; first = record { place = place; count = min (value_blocks len) MOST; sum = sum }; second = Some second })
fit_in_two law v second rest place len sum same low count fit has =
    two_fit v.first second v.second place len sum law (subst IsLarge has.len_is fit.large) fit.first fit.second
    (subst (λ (n : ℕ). HasRest v.first (value_blocks n) v.second) has.len_is fit.rest) (has.value_is ∙ sym same) low count has.place_is
