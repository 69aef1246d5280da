-- Pairs of keys and values, which are all that a guest keeps (defined by this project: the guest protocol, 'Frames' and 'A life').
use Rattle.std.specs.Prelude.{◌≡◌, ◌==◌, ◌&&◌, ◌||◌, ℕ, Bool, not, nat_eq, List, [], ◌∷◌, length, filter, fold, if◌then◌else◌, Option, Some, None}
use Rattle.std.specs.Cmp.Lexicographic.{slice_cmp, pointwise}
use Rattle.std.specs.List.{AllByRecursion}
use Rattle.std.specs.declared.cmp.Ordering.{Ordering}
use Rattle.std.specs.declared.cmp.Ordering.TheVariants.{Less, Equal, Greater}
use Rattle.std.specs.Ordering.{nat_cmp, is_lt}
use Rattle.guest_frames.specs.Frames.{PairContent, ChangeContent, put, delete, clear, IsPair}

-- in rising order of keys
abbrev pub Pairs : Type 0
Pairs = List PairContent

-- the order of bytes; a key that another one begins with comes before it
abbrev pub key_order : List ℕ → List ℕ → Ordering
key_order j k = slice_cmp nat_cmp j k

abbrev pub is_key_below : List ℕ → List ℕ → Bool
is_key_below j k = is_lt (key_order j k)

abbrev pub is_same_key : List ℕ → List ℕ → Bool
is_same_key j k = pointwise nat_eq j k

-- from `from` on and below `to`; an empty `to` is no bound
abbrev pub is_in_range : List ℕ → List ℕ → List ℕ → Bool
is_in_range from to key = not (is_key_below key from) && ((length to == 0) || is_key_below key to)

-- the key is below those of all these pairs
abbrev pub IsBelowAll : List ℕ → Pairs → Type 0
IsBelowAll key ps = AllByRecursion (λ p. key_order key p.key ≡ Less) ps

-- each key stands once, in order, and each pair is within the limits
unfoldable pub ArePairs : Pairs → Type 0
ArePairs [] = Unit {0}
ArePairs (p ∷ ps) = IsPair p × IsBelowAll p.key ps × ArePairs ps

-- the value of a key
abbrev pub value_for : Pairs → List ℕ → Option (List ℕ)
value_for [] key = None
value_for (p ∷ ps) key = if is_same_key p.key key then Some p.value else value_for ps key

-- a pair in its place before, for, or after the first one
abbrev pub place_by : Ordering → PairContent → PairContent → Pairs → Pairs → Pairs
place_by Less p first ps later = p ∷ first ∷ ps
place_by Equal p first ps later = p ∷ ps
place_by Greater p first ps later = first ∷ later

-- with this pair, in place of that of its key
abbrev pub put_pair : PairContent → Pairs → Pairs
put_pair p [] = p ∷ []
put_pair p (first ∷ ps) = place_by (key_order p.key first.key) p first ps (put_pair p ps)

abbrev pub pairs_within : List ℕ → List ℕ → Pairs → Pairs
pairs_within from to ps = filter (λ p. is_in_range from to p.key) ps

abbrev pub without_key : List ℕ → Pairs → Pairs
without_key key ps = filter (λ p. not (is_same_key p.key key)) ps

abbrev pub without_range : List ℕ → List ℕ → Pairs → Pairs
without_range from to ps = filter (λ p. not (is_in_range from to p.key)) ps

-- PUT, DELETE, which may name no pair, and CLEAR
abbrev pub pairs_after : Pairs → ChangeContent → Pairs
pairs_after ps (put key value) = put_pair (record { key = key; value = value }) ps
pairs_after ps (delete key) = without_key key ps
pairs_after ps (clear from to) = without_range from to ps

-- the changes of an ANSWER, in their order
abbrev pub changed_pairs : List ChangeContent → Pairs → Pairs
changed_pairs changes ps = fold pairs_after ps changes
