-- The state of a port that loses answers (defined by this project).
use Rattle.std.specs.Prelude.{◌≡◌, ℕ, nat_lt, ◌-◌, ◌==◌, if◌then◌else◌, min, false, List, [], ◌∷◌, ◌++◌, length, drop, Some}
use Rattle.fuse_session.specs.declared.port.Received.{Received as Receipt}
use Rattle.fuse_session.specs.declared.port.Received.TheVariants.{Got, End}
use Rattle.fuse_session.specs.declared.port.Sent.{Sent}
use Rattle.fuse_session.specs.declared.port.Sent.TheVariants.{Took, Gone, Failed}
use Rattle.fuse_session.specs.Port.{PortState}
use Rattle.fuse_session.specs.Stepping.{Stepped}
use Rattle.fuse_session.specs.Transcript.{PortEvent, Received, Handed}
use Rattle.lossy_port.specs.declared.port.LossyPort.{LossyPort}
use Rattle.lossy_port.specs.Losing.{Delivers, HasRoom, LacksRoom}

-- an answer that is lost after the port was sent all the same; so that an answer was sent does not settle it
abbrev pub lossy_told : LossyPort → PortState
lossy_told p = record {
  coming = Some (drop p.at p.input.items);
  sent = Some p.line.sent.items;
  receives = p.receives;
  has_ended = nat_lt 0 p.ends;
  ends = p.ends;
  failures = p.failures;
  receive_failures = 0;
  confirms = false;
  gone = [];
}

-- how many bytes are to come
abbrev pub bytes_left : LossyPort → ℕ
bytes_left p = length p.input.items - p.at

-- the result of a receive, of so many bytes that are left, into a buffer with so much room
abbrev pub received_by : ℕ → ℕ → Receipt
received_by left room = if left == 0 then End else Got (min left room)

-- the bytes that got through
abbrev pub delivered_of : LossyPort → List ℕ
delivered_of p = p.line.delivered.items

-- each answer of this number is lost; at 0 none is
abbrev pub every_of : LossyPort → ℕ
every_of p = p.line.every

-- the place of the next answer to be lost: 1 is the very next, 0 none
abbrev pub next_lost : LossyPort → ℕ
next_lost p = p.line.left

-- so many more bytes fit what it has allocated
abbrev pub HasRoomFor : LossyPort → ℕ → Type 0
HasRoomFor p n = HasRoom p.line n

-- a slice is taken whole; or nothing of it, where it doesn't fit what is allocated
abbrev pub Passes : LossyPort → LossyPort → List ℕ → Sent → Type 0
Passes old new bytes (Took n) = (n ≡ length bytes) × Delivers old.line new.line (bytes ∷ [])
Passes old new bytes Gone = ⊥
Passes old new bytes Failed = Delivers old.line new.line [] × LacksRoom old.line (length bytes)

-- the answers that were taken by these calls
abbrev pub taken_by : Sent → List ℕ → List (List ℕ)
taken_by (Took n) slice = slice ∷ []
taken_by Gone slice = []
taken_by Failed slice = []

abbrev pub taken_with : PortEvent → List (List ℕ)
taken_with (Received result bytes) = []
taken_with (Handed slice result) = taken_by result slice

abbrev pub taken_in : List PortEvent → List (List ℕ)
taken_in [] = []
taken_in (e ∷ es) = taken_with e ++ taken_in es

-- the second is what became of the first by these calls, and of the answers that were taken those got through that weren't lost
pub record Delivered (old new : LossyPort) (events : List PortEvent) : Type 0 where
  pub steps : Stepped lossy_told old new events
  pub delivers : Delivers old.line new.line (taken_in events)
