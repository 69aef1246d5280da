-- Bytes that were read and not handed on (defined by this project).
use Rattle.std.specs.Prelude.{◌≡◌, ◌≢◌, ◌<◌, ◌||◌, ℕ, Bool, false, if◌then◌else◌, is_some, List, [], ◌++◌, length, take, drop, Option, Result, Ok}
use Rattle.std.specs.Io.{ReadsAtMost}
use Rattle.std.specs.declared.io.Error.{Error}
use Rattle.fuse_wire.specs.declared.id.Id.{Id}
use Rattle.fuse_request.specs.Framing.{bad_length}
use Rattle.fuse_request.specs.Stream.{cut}
use Rattle.alone_source.specs.Turns.{turn_of}

-- the id of the request that is to be alone; whether a bad length was handed on; the bytes handed on of a message that isn't whole yet,
-- none after a bad length; the bytes that are held
pub record HeldState : Type 0 where
  pub alone : Option Id
  pub is_lost : Bool
  pub begun : List ℕ
  pub held : List ℕ

abbrev pub nothing_held : Option Id → HeldState
nothing_held id = record { alone = id; is_lost = false; begun = []; held = [] }

-- the bytes with which messages begin have a length that none has: no message follows
abbrev pub is_bad : List ℕ → Bool
is_bad w = is_some (bad_length 0 w)

-- the bytes that are handed on next, if there is room for them: those of the next turn that aren't yet. After a bad length all are
abbrev pub to_hand : HeldState → List ℕ
to_hand s = if s.is_lost then s.held else drop (length s.begun) (turn_of s.alone (s.begun ++ s.held))

-- the bytes after the last whole message, where these were handed on too
abbrev pub rest_after : HeldState → List ℕ → List ℕ
rest_after s piece = (cut (s.begun ++ piece)).1

abbrev pub lost_after : HeldState → List ℕ → Bool
lost_after s piece = s.is_lost || is_bad (rest_after s piece)

-- the state after them
abbrev pub handed : HeldState → List ℕ → HeldState
handed s piece = record {
  alone = s.alone;
  is_lost = lost_after s piece;
  begun = if lost_after s piece then [] else rest_after s piece;
  held = drop (length piece) s.held;
}

-- the result of a read that gave so many bytes
abbrev pub count_of : ℕ → Result ℕ Error
count_of n = Ok n

-- so many of the bytes that are held were handed on, at the start of this buffer
pub record HandsOn (old new : HeldState) (n : ℕ) (buffer : List ℕ) : Type 0 where
  pub within : ReadsAtMost (count_of n) buffer
  -- the next bytes of those that are held, and the rest of them is held then
  pub order : old.held ≡ take n buffer ++ new.held
  -- as many of the next turn as there is room for
  pub turn : take n buffer ≡ take (length buffer) (to_hand old)
  pub some : 0 < length buffer → n ≢ 0
  pub state : new ≡ handed old (take n buffer)
