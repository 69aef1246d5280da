-- The state of a framer, and its answers (defined by this project).
use Rattle.std.specs.Prelude.{◌≡◌, ◌≤◌, ◌+◌, ◌-◌, ℕ, nat_lt, if◌then◌else◌, List, [], ◌∷◌, ◌++◌, length, Option, Some, None, Result, Ok, Err, IfSome}
use Rattle.std.specs.Option.{option_or}
use Rattle.fuse_wire.specs.Bytes.{number_of}
use Rattle.fuse_wire.specs.Bounds.{min_message_len, max_message_len, max_fed_len}
use Rattle.fuse_request.specs.declared.framer.FrameFault.{FrameFault}
use Rattle.fuse_request.specs.declared.framer.FrameFault.TheVariants.{Short, TooLong, Cut, Memory}
use Rattle.fuse_request.specs.Stream.{cut, IsMessage}

-- the bytes fed and not given out, the offset at which they begin, and the bad length that was answered
pub record HeldBytes : Type 0 where
  pub bytes : List ℕ
  pub at : ℕ
  pub fault : Option FrameFault

-- how many bytes were fed
abbrev pub fed_of : HeldBytes → ℕ
fed_of h = h.at + length h.bytes

-- the bad length of a message that would begin here
abbrev pub bad_length : ℕ → List ℕ → Option FrameFault
bad_length at w =
    if nat_lt (length w) 4 then None
    else if nat_lt (number_of 4 w) min_message_len then Some (Short at (number_of 4 w))
    else if nat_lt max_message_len (number_of 4 w) then Some (TooLong at (number_of 4 w))
    else None

-- no more was fed than may be, and a fault that is held is that of the first length
pub record IsHeld (h : HeldBytes) : Type 0 where
  pub fed : fed_of h ≤ max_fed_len
  pub fault : IfSome h.fault (λ f. bad_length h.at h.bytes ≡ Some f)

-- the first message of the cut is given out, and the bytes after it are held then
pub record Gives (old new : HeldBytes) (m : List ℕ) : Type 0 where
  pub message : IsMessage m
  pub first : cut old.bytes ≡ (m ∷ (cut new.bytes).0, (cut new.bytes).1)
  pub rest : old.bytes ≡ m ++ new.bytes
  pub at : new.at ≡ old.at + length m
  pub fault : new.fault ≡ old.fault

-- there is no message yet
abbrev pub HasNone : List ℕ → Type 0
HasNone w = cut w ≡ ([], w)

-- the next answer, and the state then
abbrev pub GivesNext : HeldBytes → HeldBytes → Result (Option (List ℕ)) FrameFault → Type 0
GivesNext old new (Ok (Some m)) = Gives old new m
GivesNext old new (Ok None) = HasNone old.bytes × (bad_length old.at old.bytes ≡ None) × (new ≡ old)
GivesNext old new (Err Memory) = ¬ (HasNone old.bytes) × (new ≡ old)
GivesNext old new (Err f) = HasNone old.bytes × (bad_length old.at old.bytes ≡ Some f) × (new ≡ record old { fault = Some f })

-- how many bytes a message needs that isn't whole
abbrev pub needed : List ℕ → ℕ
needed w = if nat_lt (length w) 4 then 4 else number_of 4 w

-- the fault of a stream that ends with these bytes, in which there is no message
abbrev pub end_fault : ℕ → List ℕ → Option FrameFault
end_fault at [] = None
end_fault at (x ∷ w) = option_or (bad_length at (x ∷ w)) (Some (Cut at (length (x ∷ w)) (needed (x ∷ w))))

-- the same of all that is held, past its whole messages
abbrev pub ends : HeldBytes → Option FrameFault
ends h = end_fault (h.at + (length h.bytes - length (cut h.bytes).1)) (cut h.bytes).1
