-- What VALUES and PAIRS show of pairs (defined by this project: the guest protocol, 'A life').
use Rattle.std.specs.Prelude.{◌+◌, ◌-◌, ◌==◌, ℕ, Bool, nat_le, nat_lt, if◌then◌else◌, List, [], ◌∷◌, length, map, reverse, take, Option, Some, None}
use Rattle.guest_frames.specs.Limits.{max_reply_len}
use Rattle.guest_frames.specs.Frames.{PairContent, ScanContent, Frame, of_get, of_values, of_scan, of_pairs}
use Rattle.fuse_guest.specs.Pairs.{Pairs, pairs_within, value_for}

-- the bytes of VALUES and of PAIRS before the first value or pair
abbrev pub told_head : ℕ
told_head = 16

abbrev pub value_size : Option (List ℕ) → ℕ
value_size None = 4
value_size (Some value) = 4 + length value

abbrev pub pair_size : PairContent → ℕ
pair_size p = 8 + length p.key + length p.value

-- items from the first on, as long as each fits into the room that is left
abbrev pub filling : {A : Type 0} → (A → ℕ) → List A → ℕ → List A
filling size [] room = []
filling size (x ∷ xs) room = if nat_le (size x) room then x ∷ filling size xs (room - size x) else []

-- as many as fit into a frame, but one at least if there is one
abbrev pub told_of : {A : Type 0} → (A → ℕ) → List A → List A
told_of size [] = []
told_of size (x ∷ xs) = x ∷ filling size xs (max_reply_len - (told_head + size x))

-- the values of these keys
abbrev pub values_told : Pairs → List (List ℕ) → Frame
values_told ps keys = of_values (told_of value_size (map (value_for ps) keys))

abbrev pub bare_if : Bool → PairContent → PairContent
bare_if keys_alone p = if keys_alone then record { key = p.key; value = [] } else p

abbrev pub turned_if : Bool → Pairs → Pairs
turned_if downwards ps = if downwards then reverse ps else ps

-- the pairs of a range, in the order that is asked for
abbrev pub scanned : ScanContent → Pairs → Pairs
scanned s ps = map (bare_if s.keys_alone) (turned_if s.downwards (pairs_within s.from s.to ps))

-- 0 is no limit
abbrev pub limited : ℕ → Pairs → Pairs
limited limit ps = if limit == 0 then ps else take limit ps

abbrev pub pairs_told : Pairs → ScanContent → List PairContent
pairs_told ps s = told_of pair_size (limited s.limit (scanned s ps))

-- and whether there are more
abbrev pub scan_told : Pairs → ScanContent → Frame
scan_told ps s = of_pairs (pairs_told ps s) (nat_lt (length (pairs_told ps s)) (length (scanned s ps)))

-- the frame that one of the guest gets; none, if it asks for nothing
abbrev pub told_for : Pairs → Frame → Option Frame
told_for ps (of_get keys) = Some (values_told ps keys)
told_for ps (of_scan s) = Some (scan_told ps s)
told_for ps _ = None
