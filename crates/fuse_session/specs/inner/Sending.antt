-- How the answers of a group are sent (defined by this project).
use Rattle.std.specs.Prelude.{◌≡◌, ℕ, Bool, true, false, List, [], ◌++◌, length}
use Rattle.fuse_request.specs.Opcodes.{Service}
use Rattle.fuse_session.specs.declared.fault.Fault.{Fault}
use Rattle.fuse_session.specs.declared.fault.Fault.TheVariants.{PortFailed, Store, Memory}
use Rattle.fuse_session.specs.declared.port.Passed.{Passed}
use Rattle.fuse_session.specs.declared.port.Passed.TheVariants.{Taken, Gone}
use Rattle.fuse_session.specs.declared.port.Sent.{Sent}
use Rattle.fuse_session.specs.Port.{PortState, IsQuiet, SentWhole}
use Rattle.fuse_session.specs.Transcript.{PortEvent, Hands, SendsPart, sends_of}
use Rattle.fuse_session.specs.Settling.{Mark, replies, settles_by_mark, settled_in, SentUpTo, Replied}
use Rattle.fuse_session.specs.Slices.{RestsOfAll, RestsOfSome}
use Rattle.fuse_session.specs.Ended.{ended_store}
use Rattle.fuse_session.specs.inner.Finishing.{ended_at, ended_port}
use Rattle.fuse_session.specs.inner.Moves.{FailedBy}

-- whether an answer was sent by being answered Gone
abbrev pub reports_gone : Passed → Bool
reports_gone Taken = false
reports_gone Gone = true

-- slices of this kind were handed over, and nothing else happened at the port
pub record HandsSlices (became : List PortEvent → Type 0) (Kind : List (List ℕ × Sent) → Type 0) : Type 0 where
  pub slices : List (List ℕ × Sent)
  pub calls : became (sends_of slices)
  pub kind : Kind slices

-- an answer wasn't sent whole
abbrev pub SendFails : Fault → (List PortEvent → Type 0) → PortState → PortState → List ℕ → Type 0
SendFails Memory became old new bytes = (new ≡ old) × became []
SendFails PortFailed became old new bytes = SendsPart became old new bytes
SendFails (Store fault) became old new bytes = ⊥

-- a port and the pending ids, before and after answers were sent
pub record Sending : Type 1 where
  pub became : List PortEvent → Type 0
  pub port : PortState
  pub port' : PortState
  pub pending : List ℕ
  pub pending' : List ℕ

abbrev pub sending : (List PortEvent → Type 0) → PortState → PortState → List ℕ → List ℕ → Sending
sending became port port' pending pending' = record { became = became; port = port; port' = port'; pending = pending; pending' = pending' }

-- what is to be sent for a message was sent, and the id that it settles is pending
pub record SentNext (V : Service) (x : Sending) (message bytes : List ℕ) : Type 0 where
  pub mark : Mark
  pub reply : mark.reply ≡ bytes
  pub sent : SentWhole x.port x.port' mark.reply mark.gone
  pub hands : Hands x.became mark.reply true
  pub handed : x.pending' ≡ x.pending ++ settles_by_mark V x.port.confirms message mark

-- so it was for messages, whose answers were these
pub record SentAll (V : Service) (x : Sending) (messages answers : List (List ℕ)) : Type 0 where
  pub marks : List Mark
  pub whole : replies marks ≡ answers
  pub full : length marks ≡ length messages
  pub replied : Replied x.port x.port' marks []
  pub failures : x.port'.failures ≡ x.port.failures
  pub quiet : IsQuiet x.port x.port'
  pub hands : HandsSlices x.became (RestsOfAll marks)
  pub handed : x.pending' ≡ x.pending ++ settled_in V x.port.confirms messages marks

-- the first of these answers were sent whole, and of the next one a part
pub record SentSome (became : List PortEvent → Type 0) (old new : PortState) (answers : List (List ℕ)) (fault : Fault) : Type 0 where
  pub marks : List Mark
  pub answer : List ℕ
  pub part : List ℕ
  pub sent : SentUpTo answers marks answer
  pub replied : Replied old new marks part
  pub memory : fault ≡ Memory → part ≡ []
  pub hands : HandsSlices became (RestsOfSome marks answer part)
  pub all : fault ≡ Memory → HandsSlices became (RestsOfAll marks)
  pub sends : ended_store (ended_at fault) ≡ false
  pub failed : FailedBy (ended_port (ended_at fault)) old.failures new.failures
  pub quiet : IsQuiet old new
