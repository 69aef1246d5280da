-- The blocks in use, lowered by those of the nodes without a name.
use Rattle.std.proofs.Common.{◌≡◌, ◌≢◌, ◌≤◌, ◌<◌, ◌==◌, ◌+◌, ◌-◌, ℕ, zero, suc, List, [], ◌∷◌, map, filter, length, take, slice_index_or, true, false, cond}
use Rattle.std.proofs.Common.{Some, None, Option, inl, inr, unwrap_or, option_map, refl, sym, ap, subst, arith, ◌∙◌}
use Rattle.std.proofs.lemmas.Bool.{cases_Bool, eqb-true}
use Rattle.std.proofs.lemmas.List.{nil_from_length}
use Rattle.std.proofs.lemmas.Bool.Decides.{nat_tests}
use Rattle.std.proofs.lemmas.List.Sums.{sum_by-cons, sum_by_more}
use Rattle.std.specs.List.{find, sum_by}
use Rattle.std.specs.Option.{option_to_list}
use Rattle.std.specs.Ordering.{is_eq, nat_cmp}
use Rattle.sqlite.specs.Order.{Row}
use Rattle.fuse_init.specs.declared.profile.Profile.{Profile}
use Rattle.fuse_init.specs.declared.profile.Profile.TheVariants.{Plain, Everyday}
use Rattle.fuse_rows.specs.declared.rows.NodeRow.{NodeRow}
use Rattle.fuse_store_tables.specs.Clearing.{blocks_in, extent_of, lowered, unnamed_blocks}
use Rattle.fuse_store_tables.specs.declared.version.Layout.{Layout}
use Rattle.fuse_store_tables.specs.Content.{Content, Counter, counter_key, has_by, at_by, set_by, valued, value_at, set_counter, is_unnamed, shown_counter}
use Rattle.fuse_store_tables.specs.Opening.{IsMetaFrom, HasRoomOf, greatest_value}
use Rattle.fuse_store_tables.specs.inner.Columns.{number_of_row, shown_number}
use Rattle.fuse_store_tables.specs.inner.Steps.{lowered_from, read_blocks, unnamed_extents}
use Rattle.fuse_store_tables.proofs.CounterValues.{value_set}

-- ---- what was read of nodes

extents_read : (l : Layout) (ns : List NodeRow) → read_blocks l (map shown_number (map (extent_of l) ns)) ≡ sum_by (λ n. blocks_in l (extent_of l n)) ns
extents_read l [] = refl
extents_read l (n ∷ ns) =
    sum_by-cons (λ r. blocks_in l (number_of_row r)) (shown_number (extent_of l n)) (map shown_number (map (extent_of l) ns))
    ∙ ap (λ more. blocks_in l (extent_of l n) + more) (extents_read l ns) ∙ sym (sum_by-cons (λ (m : NodeRow). blocks_in l (extent_of l m)) n ns)

-- the number that is left is that of the content
pub left_is : (l : Layout) (rows : List Row) (c : Content) (used left : ℕ) → l ≡ c.layout → rows ≡ map shown_number (unnamed_extents l c.nodes)
    → left ≡ used - read_blocks l rows → set_counter 14 left c ≡ lowered_from used c
left_is l rows c used left same are is =
    ap (λ n. set_counter 14 n c) (is ∙ ap (λ rs. used - read_blocks l rs) are ∙ ap (λ n. used - n) (extents_read l (filter is_unnamed c.nodes))
    ∙ ap (λ k. used - unnamed_blocks k c.nodes) same)

minus_more : (left used so_far size next : ℕ) → left ≡ used - so_far → next ≡ so_far + size → left - size ≡ used - next
minus_more left used so_far size next is more = omega (arith, is, more)

pub left_low : (used so_far left : ℕ) → left ≡ used - so_far → left ≤ used
left_low used so_far left is = omega (arith, is)

-- one node more
pub left_more : (l : Layout) (rows : List Row) (at : ℕ) (d : Row) (used left : ℕ) → at < length rows → left ≡ used - read_blocks l (take at rows)
    → left - blocks_in l (number_of_row (slice_index_or rows at d)) ≡ used - read_blocks l (take (at + 1) rows)
left_more l rows at d used left low is =
    minus_more left used (read_blocks l (take at rows)) (blocks_in l (number_of_row (slice_index_or rows at d))) (read_blocks l (take (at + 1) rows)) is
    (sum_by_more (λ r. blocks_in l (number_of_row r)) rows at d low)

-- ---- the number that was in use

abbrev value_in : Option Counter → ℕ
value_in o = unwrap_or (option_map (λ (x : Counter). x.value) o) 0

used_in : (o : Option Counter) (rows : List Row) (used : ℕ) → rows ≡ map shown_counter (option_to_list o) → rows ≢ []
    → ((m : ℕ) → rows ≡ shown_number m ∷ [] → used ≡ m) → used ≡ value_in o
used_in None rows used are some is = absurd (some are)
used_in (Some x) rows used are some is = is x.value are

pub from_used : (rows : List Row) (c : Content) (used : ℕ) → rows ≡ map shown_counter (option_to_list (at_by counter_key 14 c.counters)) → rows ≢ []
    → ((m : ℕ) → rows ≡ shown_number m ∷ [] → used ≡ m) → lowered_from used c ≡ lowered c
from_used rows c used are some is = ap (λ n. lowered_from n c) (used_in (at_by counter_key 14 c.counters) rows used are some is)

-- the row that is there has a number
pub one_number : (rows : List Row) (c : Content) → rows ≡ map shown_counter (option_to_list (at_by counter_key 14 c.counters)) → rows ≢ []
    → rows ≡ shown_number (value_at 14 c) ∷ []
one_number rows c are some = by (at_by counter_key 14 c.counters) are
  where
    by : (o : Option Counter) → rows ≡ map shown_counter (option_to_list o) → rows ≡ shown_number (value_in o) ∷ []
    by None is = absurd (some is)
    by (Some x) is = is

pub no_rows : (rows : List Row) (n : ℕ) → n ≡ length rows → (n == 0) ≡ true → rows ≡ []
no_rows rows n long is = nil_from_length rows (sym long ∙ eqb-true n 0 is)

pub some_rows : (rows : List Row) (n : ℕ) → n ≡ length rows → (n == 0) ≡ false → rows ≢ []
some_rows rows n long off is =
    let clash = subst (λ (rs : List Row). (length rs == 0) ≡ false) is (subst (λ m. (m == 0) ≡ false) long off) in
    absurd cc

-- ---- no row of this key

none_set : (key v : ℕ) (cs : List Counter) → at_by counter_key key cs ≡ None → set_by counter_key key (valued v) cs ≡ cs
none_set key v [] none = refl
none_set key v (c ∷ cs) none = elim (cases_Bool (has_by counter_key key c)) [
  | inl here ↦ absurd (let some = sym (ap (λ b. cond b (Some c) (at_by counter_key key cs)) here) ∙ none in cc)
  | inr off ↦
      ap (λ b. cond b (valued v c) c ∷ set_by counter_key key (valued v) cs) off
      ∙ ap (λ more. c ∷ more) (none_set key v cs (sym (ap (λ b. cond b (Some c) (at_by counter_key key cs)) off) ∙ none))
]

-- a plain store stays as it is
pub lowered_plain : (c : Content) → at_by counter_key 14 c.counters ≡ None → lowered c ≡ c
lowered_plain c none = ap (λ cs. record c { counters = cs }) (none_set 14 (value_at 14 c - unnamed_blocks c.layout c.nodes) c.counters none)

no_row : (o : Option Counter) → map shown_counter (option_to_list o) ≡ [] → o ≡ None
no_row None is = refl
no_row (Some x) is = absurd cc

pub none_lowered : (rows : List Row) (c : Content) → rows ≡ map shown_counter (option_to_list (at_by counter_key 14 c.counters)) → rows ≡ [] → c ≡ lowered c
none_lowered rows c are none = sym (lowered_plain c (no_row (at_by counter_key 14 c.counters) (sym are ∙ none)))

-- ---- in range

not_above : (v : ℕ) → v ≤ v
not_above v = omega arith

from_zero : (n : ℕ) → 0 ≤ n
from_zero n = omega arith

pub set_at_most : (key v : ℕ) (cs : List Counter) → value_in (at_by counter_key key (set_by counter_key key (valued v) cs)) ≤ v
set_at_most key v [] = from_zero v
set_at_most key v (c ∷ cs) =
    let rest = set_by counter_key key (valued v) cs in
    elim (cases_Bool (has_by counter_key key c)) [
      | inl here ↦
          subst (λ b. value_in (find (has_by counter_key key) (cond b (valued v c) c ∷ rest)) ≤ v) (sym here)
          (subst (λ b. value_in (cond b (Some (valued v c)) (find (has_by counter_key key) rest)) ≤ v) (sym here) (not_above v))
      | inr off ↦
          subst (λ b. value_in (find (has_by counter_key key) (cond b (valued v c) c ∷ rest)) ≤ v) (sym off)
          (subst (λ b. value_in (cond b (Some c) (find (has_by counter_key key) rest)) ≤ v) (sym off) (set_at_most key v cs))
    ]

is_key : (a b : ℕ) → is_eq (nat_cmp a b) ≡ true → a ≡ b
is_key a b is = grind (arith, nat_tests)

pub value_low : (p : Profile) (k n key : ℕ) (cs : List Counter) → IsMetaFrom p k n cs → value_in (at_by counter_key key cs) ≤ greatest_value p key
value_low p k zero key [] meta = from_zero (greatest_value p key)
value_low p k zero key (c ∷ cs) meta = absurd meta
value_low p k (suc n) key [] meta = absurd meta
value_low p k (suc n) key (c ∷ cs) meta = elim (cases_Bool (has_by counter_key key c)) [
  | inl here ↦
      subst (λ b. value_in (cond b (Some c) (at_by counter_key key cs)) ≤ greatest_value p key) (sym here)
      (subst (λ m. c.value ≤ greatest_value p m) (is_key c.key key here) meta.1)
  | inr off ↦
      subst (λ b. value_in (cond b (Some c) (at_by counter_key key cs)) ≤ greatest_value p key) (sym off) (value_low p (k + 1) n key cs meta.2)
]

minus_low : (a b c : ℕ) → a ≤ c → a - b ≤ c
minus_low a b c low = omega (arith, low)

pub lowered_low : (p : Profile) (n : ℕ) (c : Content) → IsMetaFrom p 1 n c.counters → value_at 14 c - unnamed_blocks c.layout c.nodes ≤ greatest_value p 14
lowered_low p n c meta = minus_low (value_at 14 c) (unnamed_blocks c.layout c.nodes) (greatest_value p 14) (value_low p 1 n 14 c.counters meta)

lower_still : (x a b c y : ℕ) → x ≤ a - b → a ≤ c → y ≡ c → x ≤ y
lower_still x a b c y one two three = omega (arith, one, two, three)

pub room_lowered : (p : Profile) (c : Content) → HasRoomOf p c → HasRoomOf p (lowered c)
room_lowered Plain c room = tt
room_lowered Everyday c room =
    let left = value_at 14 c - unnamed_blocks c.layout c.nodes in (
      value_set 14 left 12 refl c ∙ room.0,
      lower_still _ (value_at 14 c) (unnamed_blocks c.layout c.nodes) (value_at 13 c) _ (set_at_most 14 left c.counters) room.1 (value_set 14 left 13 refl c),
    )
