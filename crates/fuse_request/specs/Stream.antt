-- A stream of bytes as messages, each of which begins with its length in four bytes (fuse.h: len of fuse_in_header).
use Rattle.std.specs.Prelude.{◌≡◌, ◌≤◌, ◌&&◌, ℕ, zero, suc, Bool, true, false, nat_le, if◌then◌else◌, List, [], ◌∷◌, ◌++◌, length, take, drop}
use Rattle.std.specs.List.{flat_map, AllByRecursion}
use Rattle.fuse_wire.specs.Bytes.{number_of}
use Rattle.fuse_wire.specs.Bounds.{min_message_len, max_message_len}

-- the first message is whole
abbrev pub is_whole : List ℕ → Bool
is_whole w =
    nat_le 4 (length w)
    && (nat_le min_message_len (number_of 4 w) && (nat_le (number_of 4 w) max_message_len && nat_le (number_of 4 w) (length w)))

-- the first messages, n of them at most, and the rest
abbrev pub cut_by : ℕ → List ℕ → List (List ℕ) × List ℕ
cut_by zero w = ([], w)
cut_by (suc n) w =
    if is_whole w then (let more = cut_by n (drop (number_of 4 w) w) in (take (number_of 4 w) w ∷ more.0, more.1))
    else ([], w)

-- the messages of a stream, and the rest: there are no more of them than bytes
unfoldable pub cut : List ℕ → List (List ℕ) × List ℕ
cut w = cut_by (length w) w

pub record IsMessage (m : List ℕ) : Type 0 where
  pub size : number_of 4 m ≡ length m
  pub low : min_message_len ≤ length m
  pub high : length m ≤ max_message_len

abbrev pub joined : List (List ℕ) → List ℕ
joined ms = flat_map (λ m. m) ms

-- the stream is these messages, and a rest that begins with no whole message
pub record Cuts (w : List ℕ) (ms : List (List ℕ)) (rest : List ℕ) : Type 0 where
  pub whole : w ≡ joined ms ++ rest
  pub each : AllByRecursion IsMessage ms
  pub stuck : is_whole rest ≡ false

-- a stream has one cut
abbrev pub IsOneCut : Type 0
IsOneCut = (w : List ℕ) → Cuts w (cut w).0 (cut w).1 × ((ms : List (List ℕ)) (rest : List ℕ) → Cuts w ms rest → cut w ≡ (ms, rest))

-- it doesn't matter in which pieces the stream came
abbrev pub CutJoins : Type 0
CutJoins = (a b : List ℕ) → cut (a ++ b) ≡ ((cut a).0 ++ (cut ((cut a).1 ++ b)).0, (cut ((cut a).1 ++ b)).1)

-- a message that is whole is the first of the cut, and else there is none
abbrev pub CutSteps : Type 0
CutSteps = (w : List ℕ)
    → (is_whole w ≡ true → cut w ≡ (take (number_of 4 w) w ∷ (cut (drop (number_of 4 w) w)).0, (cut (drop (number_of 4 w) w)).1))
    × (is_whole w ≡ false → cut w ≡ ([], w))
