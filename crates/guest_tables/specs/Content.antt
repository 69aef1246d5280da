-- The content of the tables of a guest's store, as lists of typed rows (defined by this project).
use Rattle.std.specs.Prelude.{ℕ, ◌+◌, pos, not, List, [], ◌∷◌, map, filter, if◌then◌else◌, unwrap_or, option_map}
use Rattle.std.specs.Option.{is_some}
use Rattle.std.specs.Int.{w64, cast_signed}
use Rattle.sqlite.specs.declared.types.Value.TheVariants.{Null, Int}
use Rattle.sqlite.specs.Order.{Row}
use Rattle.sqlite.specs.Tree.{Trees}
use Rattle.sqlite.specs.Effect.{Database}
use Rattle.sqlite_trees.specs.Tree.{with_tree, no_trees}
use Rattle.fuse_store_tables.specs.Content.{Counter, Kept, HoldsAs, lot_row, kept_row, put_by, at_by, without_by, set_by}
use Rattle.fuse_store_tables.specs.Content.{counter_key, kept_key, valued}
use Rattle.guest_tables.specs.Layout.{guest_schema}
use Rattle.guest_tables.specs.Rows.{PairRow, pair_row, pair_at, new_pair, set_at, has_key, has_key_within}

-- in rising order of their keys, and the pairs in that of their hidden rowids
pub record GuestContent : Type 0 where
  pub counters : List Counter
  pub pairs : List PairRow
  pub lots : List ℕ
  pub kept : List Kept

-- ---- the tables

-- the value is the signed number with the same bits
abbrev pub counter_row : Counter → Row
counter_row c = Int (pos c.key) ∷ Null ∷ Int (cast_signed w64 c.value) ∷ []

-- the rows of each tree of a table
abbrev pub stored : GuestContent → Trees
stored c = with_tree (with_tree (with_tree (with_tree no_trees
    0 (map counter_row c.counters)) 1 (map pair_row c.pairs)) 3 (map lot_row c.lots)) 4 (map kept_row c.kept)

abbrev pub Holds : GuestContent → Database → Type 0
Holds c = HoldsAs guest_schema (stored c)

-- ---- the counters of `meta`

-- the keys of a tree's store are those of the same things; no tree has the last two

abbrev pub agreed_key : ℕ
agreed_key = 7

abbrev pub minor_key : ℕ
minor_key = 8

abbrev pub readahead_key : ℕ
readahead_key = 9

abbrev pub flags_key : ℕ
flags_key = 10

abbrev pub next_lot_key : ℕ
next_lot_key = 11

abbrev pub number_key : ℕ
number_key = 15

-- A tree's store has its version under key 1, which a guest's doesn't have.
abbrev pub version_key : ℕ
version_key = 16

abbrev pub pledged_key : ℕ
pledged_key = 17

-- the value of this key, 0 where there is no such key
abbrev pub value_at : ℕ → GuestContent → ℕ
value_at key c = unwrap_or (option_map (λ x. x.value) (at_by counter_key key c.counters)) 0

abbrev pub set_counter : ℕ → ℕ → GuestContent → GuestContent
set_counter key value c = record c { counters = set_by counter_key key (valued value) c.counters }

-- what a query for a counter shows
abbrev pub shown_counter : Counter → Row
shown_counter c = Int (cast_signed w64 c.value) ∷ []

-- ---- lots and records

abbrev pub with_lot : ℕ → GuestContent → GuestContent
with_lot lot c = record c { lots = put_by (λ n. n) lot c.lots }

-- the next lot is there, and the one after it is the next
abbrev pub with_next_lot : GuestContent → GuestContent
with_next_lot c = set_counter next_lot_key (value_at next_lot_key c + 1) (with_lot (value_at next_lot_key c) c)

abbrev pub put_kept : Kept → GuestContent → GuestContent
put_kept k c = record c { kept = put_by kept_key k c.kept }

abbrev pub without_kept : ℕ → GuestContent → GuestContent
without_kept id c = record c { kept = without_by kept_key id c.kept }

abbrev pub without_four : ℕ → ℕ → ℕ → ℕ → GuestContent → GuestContent
without_four first second third last c = without_kept last (without_kept third (without_kept second (without_kept first c)))

-- ---- pairs

-- a new pair
abbrev pub with_pair : List ℕ → List ℕ → GuestContent → GuestContent
with_pair key value c = record c { pairs = put_by (λ p. p.slot) (new_pair key value c.pairs) c.pairs }

-- another value of a pair that is there
abbrev pub set_pair : List ℕ → List ℕ → GuestContent → GuestContent
set_pair key value c = record c { pairs = set_at key value c.pairs }

-- in place of the value before, or as a new pair
abbrev pub put_value : List ℕ → List ℕ → GuestContent → GuestContent
put_value key value c = if is_some (pair_at key c.pairs) then set_pair key value c else with_pair key value c

abbrev pub without_pair : List ℕ → GuestContent → GuestContent
without_pair key c = record c { pairs = filter (λ p. not (has_key key p)) c.pairs }

-- without the pairs of a range
abbrev pub without_pairs_within : List ℕ → List ℕ → GuestContent → GuestContent
without_pairs_within from to c = record c { pairs = filter (λ p. not (has_key_within from to p)) c.pairs }
