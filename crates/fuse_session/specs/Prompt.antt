-- All messages that came are answered before more is received (defined by this project).
use Rattle.std.specs.Prelude.{◌≡◌, ◌⊎◌, ℕ, Bool, List, [], ◌∷◌, ◌++◌, length, None}
use Rattle.std.specs.List.{AllByRecursion}
use Rattle.fuse_request.specs.Framing.{bad_length}
use Rattle.fuse_request.specs.Stream.{cut, joined}
use Rattle.fuse_keeper.specs.Model.{Model}
use Rattle.fuse_keeper.specs.KeeperState.{KeeperState}
use Rattle.fuse_session.specs.declared.port.Received.{Received as ReceiveResult}
use Rattle.fuse_session.specs.Transcript.{PortEvent, Received, received_in, handed_in, Gave}
use Rattle.fuse_session.specs.Deeds.{Deeds}
use Rattle.fuse_session.specs.Processed.{Timed, bytes_of, own_answers, GoesOn}
use Rattle.fuse_session.specs.Settling.{Mark, replies}
use Rattle.fuse_session.specs.Slices.{RestsOfAll}
use Rattle.fuse_session.specs.Passage.{Passage}
use Rattle.fuse_session.specs.Exchange.{IfNoneComesAgain}

-- after these events: all messages of the bytes that came were processed, and exactly their answers were handed over, each whole;
-- nothing ended the session yet: no message, no bad length after them, and no receive.
-- `k` is the keeper at first and `new` the one in the end
pub record CaughtUp {M : Model} (k new : KeeperState M) (confirms : Bool) (events : List PortEvent) : Type 0 where
  pub timed : List Timed
  pub marks : List Mark
  pub bytes : (cut (received_in events)).0 ≡ bytes_of timed
  pub full : length marks ≡ length timed
  pub slices : RestsOfAll marks (handed_in events)
  pub sent : new.is_honest → IfNoneComesAgain k [] (record { confirms = confirms; timed = timed; marks = marks })
      (λ at. replies marks ≡ own_answers M at.state at.history timed)
  pub goes : new.is_honest → IfNoneComesAgain k [] (record { confirms = confirms; timed = timed; marks = marks })
      (λ at. GoesOn M at.state at.history timed)
  pub good : bad_length (length (joined (bytes_of timed))) (cut (received_in events)).1 ≡ None
  pub gave : AllByRecursion Gave events

-- so it was before each receive
abbrev pub AnswersFirst : {M : Model} → KeeperState M → KeeperState M → Bool → List PortEvent → Type 0
AnswersFirst k new confirms events = (before after : List PortEvent) (result : ReceiveResult) (bytes : List ℕ)
    → events ≡ before ++ Received result bytes ∷ after → CaughtUp k new confirms before

-- a receive that reported an end or a failure was the last call
abbrev pub StopsThere : List PortEvent → Type 0
StopsThere events = (before after : List PortEvent) (result : ReceiveResult) (bytes : List ℕ)
    → events ≡ before ++ Received result bytes ∷ after → Gave (Received result bytes) ⊎ (after ≡ [])

-- a session that did this answered all that came before it received more, and stopped where nothing came
pub record Prompt {M : Model} (p : Passage M) (deeds : Deeds) : Type 0 where
  pub first : AnswersFirst p.keeper p.keeper' p.port.confirms deeds.events
  pub stops : StopsThere deeds.events
