-- The bytes that a port gives and takes (defined by this project).
use Rattle.std.specs.Prelude.{◌≡◌, ℕ, ◌+◌, ◌<◌, ◌≤◌, ◌^◌, Bool, true, false, ◌==◌, if◌then◌else◌, List, [], ◌∷◌, ◌++◌, length, take, Option, IfSome}
use Rattle.std.specs.Io.KnownBytes.{Keeps, Appends, Consumes, IsAtEnd}
use Rattle.fuse_session.specs.declared.port.Received.{Received}
use Rattle.fuse_session.specs.declared.port.Received.TheVariants.{Got, End, Failed as ReceiveFailed}
use Rattle.fuse_session.specs.declared.port.Sent.{Sent}
use Rattle.fuse_session.specs.declared.port.Sent.TheVariants.{Took, Gone, Failed}

-- the bytes to come and the bytes sent, where they are known; how often it was asked to receive; whether it has ended,
-- and how often a receive said so; how often it failed, and how often in receiving; whether an answer taken whole
-- counts as taken by the kernel; at which places in the bytes sent a slice ends that was answered Gone
pub record PortState : Type 0 where
  pub coming : Option (List ℕ)
  pub sent : Option (List ℕ)
  pub receives : ℕ
  pub has_ended : Bool
  pub ends : ℕ
  pub failures : ℕ
  pub receive_failures : ℕ
  pub confirms : Bool
  pub gone : List ℕ

-- it has ended, and nothing is known to come
abbrev pub HasEnded : PortState → Type 0
HasEnded p = (p.has_ended ≡ true) × IsAtEnd p.coming

-- it was asked and failed so seldom that its counts can rise
pub record IsYoung (p : PortState) : Type 0 where
  pub receives : p.receives < 2 ^ 63
  pub failures : p.failures < 2 ^ 63

-- the bytes that came are at the start of the buffer; at the end nothing is known to come
abbrev pub GaveBytes : Option (List ℕ) → Option (List ℕ) → Received → List ℕ → Type 0
GaveBytes old new (Got n) buffer = (n ≤ length buffer) × Consumes old new (take n buffer)
GaveBytes old new End buffer = Keeps old new × IsAtEnd new
GaveBytes old new ReceiveFailed buffer = Keeps old new

abbrev pub ended_by : Received → Bool → Bool
ended_by (Got n) ended = ended
ended_by End ended = true
ended_by ReceiveFailed ended = ended

abbrev pub ends_of : Received → ℕ
ends_of (Got n) = 0
ends_of End = 1
ends_of ReceiveFailed = 0

abbrev pub receive_failures_of : Received → ℕ
receive_failures_of (Got n) = 0
receive_failures_of End = 0
receive_failures_of ReceiveFailed = 1

pub record Receives (old new : PortState) (result : Received) (buffer : List ℕ) : Type 0 where
  pub bytes : GaveBytes old.coming new.coming result buffer
  pub sent : new.sent ≡ old.sent
  pub receives : new.receives ≡ old.receives + 1
  pub has_ended : new.has_ended ≡ ended_by result old.has_ended
  pub ends : new.ends ≡ old.ends + ends_of result
  pub failures : new.failures ≡ old.failures + receive_failures_of result
  pub receive_failures : new.receive_failures ≡ old.receive_failures + receive_failures_of result
  pub confirms : new.confirms ≡ old.confirms
  pub gone : new.gone ≡ old.gone

-- how many bytes of a slice went out
abbrev pub CountsSent : Sent → ℕ → List ℕ → Type 0
CountsSent (Took n) count bytes = count ≡ n
CountsSent Gone count bytes = count ≡ length bytes
CountsSent Failed count bytes = Unit {0}

-- a slice of which no byte was taken is a failure, unless it is empty
abbrev pub send_failures_of : Sent → ℕ → ℕ
send_failures_of (Took n) len = if n == 0 then (if len == 0 then 0 else 1) else 0
send_failures_of Gone len = 0
send_failures_of Failed len = 1

-- a place more where a slice was answered Gone: where it ends in the bytes sent
abbrev pub MoreGone : Bool → List ℕ → List ℕ → Option (List ℕ) → Type 0
MoreGone true old new sent = (place : ℕ) × (new ≡ old ++ place ∷ []) × IfSome sent (λ bytes. place ≡ length bytes)
MoreGone false old new sent = new ≡ old

abbrev pub is_gone : Sent → Bool
is_gone (Took n) = false
is_gone Gone = true
is_gone Failed = false

-- neither a send nor its fault changes these
pub record IsQuiet (old new : PortState) : Type 0 where
  pub coming : new.coming ≡ old.coming
  pub receives : new.receives ≡ old.receives
  pub has_ended : new.has_ended ≡ old.has_ended
  pub ends : new.ends ≡ old.ends
  pub receive_failures : new.receive_failures ≡ old.receive_failures
  pub confirms : new.confirms ≡ old.confirms

pub record Sends (old new : PortState) (result : Sent) (bytes : List ℕ) : Type 0 where
  pub count : ℕ
  pub within : count ≤ length bytes
  pub counts : CountsSent result count bytes
  pub sent : Appends old.sent new.sent (take count bytes)
  pub failures : new.failures ≡ old.failures + send_failures_of result (length bytes)
  pub gone : MoreGone (is_gone result) old.gone new.gone new.sent
  pub quiet : IsQuiet old new

-- all of a slice was sent, as one answer, and whether it was answered Gone, which an empty one never is
pub record SentWhole (old new : PortState) (bytes : List ℕ) (gone_at_end : Bool) : Type 0 where
  pub sent : Appends old.sent new.sent bytes
  pub some : bytes ≡ [] → gone_at_end ≡ false
  pub failures : new.failures ≡ old.failures
  pub gone : MoreGone gone_at_end old.gone new.gone new.sent
  pub quiet : IsQuiet old new

-- the port failed, with a prefix of a slice sent
pub record SentPart (old new : PortState) (bytes : List ℕ) : Type 0 where
  pub part : List ℕ
  pub rest : List ℕ
  pub parts : bytes ≡ part ++ rest
  pub sent : Appends old.sent new.sent part
  pub failures : old.failures < new.failures
  pub gone : new.gone ≡ old.gone
  pub quiet : IsQuiet old new

-- a port that was not used yet
abbrev pub fresh : Option (List ℕ) → Option (List ℕ) → Bool → PortState
fresh coming sent confirms = record {
  coming = coming;
  sent = sent;
  receives = 0;
  has_ended = false;
  ends = 0;
  failures = 0;
  receive_failures = 0;
  confirms = confirms;
  gone = [];
}
