-- A scan by slices: the pairs that one statement shows, and which of them are taken (defined by this project).
use Rattle.std.specs.Prelude.{◌≡◌, ℕ, ◌+◌, ◌-◌, ◌<◌, ◌==◌, ◌&&◌, ◌||◌, Bool, true, false, nat_le, nat_lt, if◌then◌else◌, List, [], ◌∷◌, ◌++◌, map, filter, length, codes}
use Rattle.std.specs.Ordering.{is_ge, is_lt}
use Rattle.sqlite.specs.declared.types.Value.TheVariants.{Blob}
use Rattle.sqlite.specs.Order.{Row}
use Rattle.guest_frames.specs.Limits.{max_reply_len}
use Rattle.guest_frames.specs.Frames.{PairContent}
use Rattle.fuse_guest.specs.Pairs.{Pairs, key_order}
use Rattle.fuse_guest.specs.Telling.{told_head, pair_size, bare_if, turned_if}
use Rattle.guest_tables.specs.declared.slices.Cursor.{Cursor}
use Rattle.guest_tables.specs.declared.taking.Taken.{Taken}
use Rattle.guest_tables.specs.Rows.{PairRow}
use Rattle.guest_tables.specs.Scanned.{owned_contents}

-- ---- one statement

-- from a key on, and below another one where there is a bound
abbrev pub is_in_slice : Bool → List ℕ → List ℕ → List ℕ → Bool
is_in_slice true from to key = is_ge (key_order key from) && is_lt (key_order key to)
is_in_slice false from to key = is_ge (key_order key from)

abbrev pub slice_of : Bool → List ℕ → List ℕ → Pairs → Pairs
slice_of bounded from to ps = filter (λ p. is_in_slice bounded from to p.key) ps

-- by whether keys are shown alone, whether there is a bound, and whether it goes downwards
abbrev pub slice_text : Bool → Bool → Bool → List ℕ
slice_text false true false = codes "SELECT key, value FROM pairs WHERE key >= ?1 AND key < ?2 ORDER BY key LIMIT ?3"
slice_text false true true = codes "SELECT key, value FROM pairs WHERE key >= ?1 AND key < ?2 ORDER BY key DESC LIMIT ?3"
slice_text false false false = codes "SELECT key, value FROM pairs WHERE key >= ?1 ORDER BY key LIMIT ?3"
slice_text false false true = codes "SELECT key, value FROM pairs WHERE key >= ?1 ORDER BY key DESC LIMIT ?3"
slice_text true true false = codes "SELECT key FROM pairs WHERE key >= ?1 AND key < ?2 ORDER BY key LIMIT ?3"
slice_text true true true = codes "SELECT key FROM pairs WHERE key >= ?1 AND key < ?2 ORDER BY key DESC LIMIT ?3"
slice_text true false false = codes "SELECT key FROM pairs WHERE key >= ?1 ORDER BY key LIMIT ?3"
slice_text true false true = codes "SELECT key FROM pairs WHERE key >= ?1 ORDER BY key DESC LIMIT ?3"

-- a pair, by whether its key is shown alone
abbrev pub shown_pair : Bool → PairContent → Row
shown_pair true p = Blob p.key ∷ []
shown_pair false p = Blob p.key ∷ Blob p.value ∷ []

-- the value of a row
abbrev pub shown_value : PairRow → Row
shown_value p = Blob p.value ∷ []

-- ---- what is left, and what is taken

-- the first key after another one has a byte more, which is 0
abbrev pub next_key : List ℕ → List ℕ
next_key key = key ++ 0 ∷ []

-- the pairs that are still to be read, in the order that is asked for
abbrev pub left_at : Bool → Cursor → Pairs → Pairs
left_at downwards at ps = turned_if downwards (slice_of at.is_bounded at.from.items at.to.items ps)

-- the same, without values where keys are asked for
abbrev pub bare_left : Bool → Bool → Cursor → Pairs → Pairs
bare_left keys_alone downwards at ps = map (bare_if keys_alone) (left_at downwards at ps)

-- the bytes of PAIRS that pairs may have
abbrev pub whole_room : ℕ
whole_room = max_reply_len - told_head

-- whether a pair is taken, where so many were and so much room is left: the first one is, whatever its size
abbrev pub is_taken : ℕ → ℕ → ℕ → PairContent → Bool
is_taken limit count room p = ((limit == 0) || nat_lt count limit) && (nat_lt 0 room && ((count == 0) || nat_le (pair_size p) room))

abbrev pub taken : ℕ → ℕ → ℕ → List PairContent → List PairContent
taken limit count room [] = []
taken limit count room (p ∷ ps) = if is_taken limit count room p then p ∷ taken limit (count + 1) (room - pair_size p) ps else []

abbrev pub room_after : ℕ → List PairContent → ℕ
room_after room [] = room
room_after room (p ∷ ps) = room_after (room - pair_size p) ps

-- the pairs so far
abbrev pub so_far : Taken → List PairContent
so_far t = owned_contents t.pairs.items

-- these were taken, too
pub record TakesMore (more : List PairContent) (old new : Taken) : Type 0 where
  pub pairs : so_far new ≡ so_far old ++ more
  pub room : new.room ≡ room_after old.room more

-- a pair was taken, or it isn't one that is, and nothing was
abbrev pub TakesPair : ℕ → PairContent → Taken → Taken → Bool → Type 0
TakesPair limit p old new true = (is_taken limit (length (so_far old)) old.room p ≡ true) × TakesMore (p ∷ []) old new
TakesPair limit p old new false = (is_taken limit (length (so_far old)) old.room p ≡ false) × (so_far new ≡ so_far old) × (new.room ≡ old.room)

-- all of a page, or less
abbrev pub IsWholeOrLess : Bool → List PairContent → List PairContent → Type 0
IsWholeOrLess true some page = some ≡ page
IsWholeOrLess false some page = length some < length page

-- one of these pairs after the other, up to the first that isn't taken; and whether all of them were
pub record TakesOf (limit : ℕ) (page : List PairContent) (old new : Taken) (all : Bool) : Type 0 where
  pub takes : TakesMore (taken limit (length (so_far old)) old.room page) old new
  pub whole : IsWholeOrLess all (taken limit (length (so_far old)) old.room page) page

-- ---- a scan under way

-- of all pairs, these were taken, and those are left
pub record IsUnderWay (limit : ℕ) (all left : List PairContent) (t : Taken) : Type 0 where
  pub first : so_far t ++ left ≡ all
  pub goes_on : taken limit 0 whole_room all ≡ so_far t ++ taken limit (length (so_far t)) t.room left

-- these were taken, and no more is
pub record HasTaken (limit : ℕ) (all : List PairContent) (t : Taken) : Type 0 where
  pub pairs : taken limit 0 whole_room all ≡ so_far t
  pub more : t.more ≡ nat_lt (length (so_far t)) (length all)

-- ---- the next page

-- a cursor that goes on after a key
abbrev pub MovesOn : Bool → List ℕ → Cursor → Cursor → Type 0
MovesOn true last old new = (new.from.items ≡ old.from.items) × (new.to.items ≡ last) × (new.is_bounded ≡ true)
MovesOn false last old new = (new.from.items ≡ next_key last) × (new.to.items ≡ old.to.items) × (new.is_bounded ≡ old.is_bounded)
