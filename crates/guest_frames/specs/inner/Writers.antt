-- How long frames of the engine are, while they are measured, and what their writers owe each other (defined by this project).
use Rattle.std.specs.Prelude.{◌≡◌, ◌+◌, ◌==◌, ℕ, nat_lt, if◌then◌else◌, List, [], ◌∷◌, ◌++◌, length, Option, Some, None, Result, OnOk}
use Rattle.fuse_wire.specs.Layout.{Part, form}
use Rattle.fuse_wire.specs.Written.{AllFit}
use Rattle.std.specs.Option.{option_and_then}
use Rattle.guest_frames.specs.Limits.{max_reply_len, max_key_len, max_value_len}
use Rattle.guest_frames.specs.Frames.{PairContent}

-- how many bytes an item takes; None where it is beyond the limits
abbrev pub value_room : Option (List ℕ) → Option ℕ
value_room None = Some 4
value_room (Some v) = if nat_lt max_value_len (length v) then None else Some (4 + length v)

abbrev pub pair_room : PairContent → Option ℕ
pair_room p =
    if length p.key == 0 then None
    else if nat_lt max_key_len (length p.key) then None
    else if nat_lt max_value_len (length p.value) then None
    else Some (8 + length p.key + length p.value)

-- so much more, where it isn't too long then
abbrev pub room_added : ℕ → Option ℕ → Option ℕ
room_added len None = None
room_added len (Some room) = if nat_lt max_reply_len (len + room) then None else Some (len + room)

-- items after so many bytes
abbrev pub measured : {A : Type 0} → (A → Option ℕ) → ℕ → List A → Option ℕ
measured room len [] = Some len
measured room len (x ∷ xs) = option_and_then (λ n. measured room n xs) (room_added len (room x))

-- the parts are appended, and their numbers fit; with an error some bytes may be
pub record PutsWhole {T E : Type 0} (ps : List Part) (old new : List ℕ) (result : Result T E) : Type 0 where
  pub ok : OnOk result (new ≡ old ++ form ps)
  pub fits : OnOk result (AllFit ps)
  pub grows : List ℕ
  pub old_stays : new ≡ old ++ grows
