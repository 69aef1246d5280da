-- The state of a port in memory (defined by this project).
use Rattle.std.specs.Prelude.{◌≡◌, ◌⊎◌, ◌<◌, ◌≤◌, ◌+◌, ℕ, nat_lt, ◌-◌, ◌==◌, if◌then◌else◌, min, List, [], ◌∷◌, drop, length, Some, vec_capacity, vec_len}
use Rattle.fuse_session.specs.declared.memory.Arrival.{Arrival}
use Rattle.fuse_session.specs.declared.memory.Arrival.TheVariants as arrivals
use Rattle.fuse_session.specs.declared.memory.MemoryPort.{MemoryPort}
use Rattle.fuse_session.specs.declared.memory.Outcome.{Outcome}
use Rattle.fuse_session.specs.declared.memory.Outcome.TheVariants as outcomes
use Rattle.fuse_session.specs.declared.port.Received.{Received}
use Rattle.fuse_session.specs.declared.port.Received.TheVariants as received
use Rattle.fuse_session.specs.declared.port.Sent.{Sent}
use Rattle.fuse_session.specs.declared.port.Sent.TheVariants as sent
use Rattle.fuse_session.specs.Port.{PortState}

abbrev pub memory_told : MemoryPort → PortState
memory_told p = record {
  coming = Some (drop p.at p.input.items);
  sent = Some p.sent.items;
  receives = p.receives;
  has_ended = nat_lt 0 p.ends;
  ends = p.ends;
  failures = p.failures;
  receive_failures = p.receive_failures;
  confirms = p.confirms;
  gone = p.gone.items;
}

-- the results of its next calls
abbrev pub arrivals_left : MemoryPort → List Arrival
arrivals_left p = drop p.arrived p.arrivals.items

abbrev pub outcomes_left : MemoryPort → List Outcome
outcomes_left p = drop p.answered p.outcomes.items

-- how many bytes are to come
abbrev pub bytes_left : MemoryPort → ℕ
bytes_left p = length p.input.items - p.at

-- the next of these, or one that lets all through
abbrev pub first_arrival : List Arrival → Arrival
first_arrival [] = arrivals.Piece 18446744073709551615
first_arrival (a ∷ more) = a

abbrev pub first_outcome : List Outcome → Outcome
first_outcome [] = outcomes.Take 18446744073709551615
first_outcome (o ∷ more) = o

-- the result of a receive, of so many bytes that are left, into a buffer with so much room
abbrev pub received_by : Arrival → ℕ → ℕ → Received
received_by (arrivals.Piece most) left room = if left == 0 then received.End else received.Got (min (min left most) room)
received_by arrivals.Failed left room = received.Failed

-- the result of a send of so many bytes, unless it lacks room
abbrev pub sent_by : Outcome → ℕ → Sent
sent_by (outcomes.Take most) len = sent.Took (min len most)
sent_by outcomes.Gone len = sent.Gone
sent_by outcomes.Failed len = sent.Failed

-- how many bytes of a slice it is to keep
abbrev pub kept_by : Outcome → ℕ → ℕ
kept_by (outcomes.Take most) len = min len most
kept_by outcomes.Gone len = len
kept_by outcomes.Failed len = 0

-- it has room for so many more bytes, or lacks it
abbrev pub HasRoom : MemoryPort → ℕ → Type 0
HasRoom p n = vec_len p.sent + n ≤ vec_capacity p.sent

abbrev pub LacksRoom : MemoryPort → ℕ → Type 0
LacksRoom p n = vec_capacity p.sent < vec_len p.sent + n

-- the outcome decides the result; but where it lacks room, it may fail
abbrev pub AnswersSend : MemoryPort → Outcome → ℕ → Sent → Type 0
AnswersSend p o len result = (result ≡ sent_by o len) ⊎ ((result ≡ sent.Failed) × LacksRoom p (kept_by o len))
