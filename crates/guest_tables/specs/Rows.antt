-- The rows of pairs, and the pairs that they are (defined by this project).
use Rattle.std.specs.Prelude.{◌≡◌, ◌+◌, ℕ, pos, Bool, false, List, [], ◌∷◌, map, find, fold, if◌then◌else◌, Option}
use Rattle.std.specs.Int.{w64, cast_signed}
use Rattle.sqlite.specs.declared.types.Value.TheVariants.{Int, Blob}
use Rattle.sqlite.specs.Order.{Row}
use Rattle.sqlite_trees.specs.Tree.{IsAscending}
use Rattle.guest_frames.specs.Frames.{PairContent, IsPair}
use Rattle.fuse_guest.specs.Pairs.{Pairs, put_pair, is_same_key, is_in_range}

-- a row of the table; the slot is the hidden rowid
pub record PairRow : Type 0 where
  pub slot : ℕ
  pub key : List ℕ
  pub value : List ℕ
  pub place : ℕ
  pub len : ℕ
  pub sum : ℕ

-- the digest is the signed number with the same bits
abbrev pub pair_row : PairRow → Row
pair_row p = Int (pos p.slot) ∷ Blob p.key ∷ Blob p.value ∷ Int (pos p.place) ∷ Int (pos p.len) ∷ Int (cast_signed w64 p.sum) ∷ []

-- ---- the pairs

abbrev pub pair_of : PairRow → PairContent
pair_of p = record { key = p.key; value = p.value }

-- in the order of their keys
abbrev pub pairs_of : List PairRow → Pairs
pairs_of rows = fold (λ ps p. put_pair (pair_of p) ps) [] rows

-- the value lies in the row, and the pair is within the limits
pub record IsFitPair (p : PairRow) : Type 0 where
  pub pair : IsPair (pair_of p)
  pub place : p.place ≡ 0
  pub len : p.len ≡ 0
  pub sum : p.sum ≡ 0

-- each key stands once
abbrev pub AreApart : List PairRow → Type 0
AreApart = IsAscending (λ a b. is_same_key a.key b.key ≡ false)

-- ---- by keys

abbrev pub has_key : List ℕ → PairRow → Bool
has_key key p = is_same_key p.key key

abbrev pub pair_at : List ℕ → List PairRow → Option PairRow
pair_at key = find (has_key key)

-- from `from` on and below `to`; an empty `to` is no bound
abbrev pub has_key_within : List ℕ → List ℕ → PairRow → Bool
has_key_within from to p = is_in_range from to p.key

-- ---- changes

-- one above the last slot
abbrev pub next_slot : List PairRow → ℕ
next_slot = fold (λ _ p. p.slot + 1) 1

abbrev pub new_pair : List ℕ → List ℕ → List PairRow → PairRow
new_pair key value ps = record { slot = next_slot ps; key = key; value = value; place = 0; len = 0; sum = 0 }

abbrev pub revalued : List ℕ → PairRow → PairRow
revalued value p = record p { value = value; place = 0; len = 0; sum = 0 }

-- the pair of this key, with this value
abbrev pub set_at : List ℕ → List ℕ → List PairRow → List PairRow
set_at key value = map (λ p. if has_key key p then revalued value p else p)
