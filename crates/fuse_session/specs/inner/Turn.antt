-- One turn of a session (defined by this project).
use Rattle.std.specs.Prelude.{◌≡◌, ◌⊎◌, ◌^◌, ℕ, Bool, true, false, List, [], ◌∷◌, ◌++◌}
use Rattle.fuse_request.specs.Act.{Asked}
use Rattle.fuse_request.specs.Framing.{HeldBytes}
use Rattle.fuse_request.specs.Opcodes.{Service}
use Rattle.fuse_request.specs.Stream.{cut}
use Rattle.fuse_keeper.specs.Performance.{Performance}
use Rattle.fuse_keeper.specs.Model.{Model}
use Rattle.fuse_session.specs.declared.counts.SessionCounts.{SessionCounts}
use Rattle.fuse_session.specs.declared.ended.Ended.TheVariants.{Turns}
use Rattle.fuse_session.specs.declared.ended.Served.{Served}
use Rattle.fuse_session.specs.declared.port.Received.{Received as ReceiveResult}
use Rattle.fuse_session.specs.declared.port.Sent.{Sent}
use Rattle.fuse_session.specs.Transcript.{Received, sends_of, Gave}
use Rattle.fuse_session.specs.Deeds.{Deeds}
use Rattle.fuse_session.specs.Grouping.{groups_of, groups_asked}
use Rattle.fuse_session.specs.Starts.{KeptRecords, HoldsUnder}
use Rattle.fuse_session.specs.Passage.{Passage, doing}
use Rattle.fuse_session.specs.Ended.{ended_store, IsIntact}
use Rattle.fuse_session.specs.Serving.{Waiting, KeepsFirm, Whole, Run}
use Rattle.fuse_session.specs.Ends.{EndsNot, EndsAs, receive_failed, counts_at}
use Rattle.fuse_session.specs.inner.Counting.{IsBelow}
use Rattle.fuse_session.specs.inner.Finishing.{ended_port}
use Rattle.fuse_session.specs.inner.Moves.{FailedBy, HandsOn}

-- nothing was received
pub record Mute (did : Deeds → Type 0) (deeds : Deeds) : Type 0 where
  pub done : did deeds
  pub slices : List (List ℕ × Sent)
  pub events : deeds.events ≡ sends_of slices

-- it was asked to perform groups of these messages, and these are left of them
abbrev pub Grouped : Service → List (List ℕ) → List (List Asked) → (List Performance → Type 0) → List Performance → Type 0
Grouped V messages later performed list = performed list × (groups_of V messages ≡ groups_asked list ++ later)

abbrev pub GroupedSome : Service → List (List ℕ) → (List Performance → Type 0) → List Performance → Type 0
GroupedSome V messages performed list = (later : List (List Asked)) × Grouped V messages later performed list

abbrev pub muted : {M : Model} → Passage M → Passage M
muted p = record p { did = Mute p.did }

-- it received once, and then handed over slices, but none where that reported an end or a failure; and it asked for the groups of what
-- came, or the first of them, where these bytes waited
pub record OneTurn (V : Service) (held : List ℕ) (all : Bool) (did : Deeds → Type 0) (deeds : Deeds) : Type 0 where
  pub done : did deeds
  pub result : ReceiveResult
  pub bytes : List ℕ
  pub slices : List (List ℕ × Sent)
  pub events : deeds.events ≡ Received result bytes ∷ sends_of slices
  pub gave : Gave (Received result bytes) ⊎ (slices ≡ [])
  pub later : List (List Asked)
  pub groups : groups_of V (cut (held ++ bytes)).0 ≡ groups_asked deeds.asked ++ later
  pub none_later : all ≡ true → later ≡ []

abbrev pub in_one_turn : {M : Model} → Passage M → List ℕ → Passage M
in_one_turn {M} p held = record p { did = OneTurn M.service held true p.did }

-- what waits between two turns
abbrev pub waits : List ℕ → HeldBytes → Waiting
waits pending held = record { pending = pending; bytes = held.bytes; at = held.at }

-- all messages that came are processed and answered, and the session goes on
pub record TurnPassed {M : Model} (p : Passage M) (before after : Waiting) (counts : SessionCounts) : Type 0 where
  pub whole : Whole (in_one_turn p before.bytes) before after counts
  pub below : IsBelow counts (2 ^ 20)
  pub going : p.keeper'.has_failed ≡ false
  pub firm : KeepsFirm p.keeper p.keeper'
  pub more : p.port.confirms ≡ true → p.keeper'.is_honest → (kept : KeptRecords) → HandsOn kept p.keeper before.pending
      → HandsOn kept p.keeper' after.pending
  pub failures : p.port'.failures ≡ p.port.failures
  pub receive_failures : p.port'.receive_failures ≡ p.port.receive_failures
  pub not_ended : EndsNot p.port p.port'

-- the session ended
pub record TurnEnded {M : Model} (p : Passage M) (before : Waiting) (served : Served) : Type 0 where
  pub deeds : Deeds
  pub done : OneTurn M.service before.bytes false p.did deeds
  pub life : Run (doing p deeds) before served.ended
  pub counts : SessionCounts
  pub below : IsBelow counts (2 ^ 20)
  pub ends : EndsAs (doing p deeds) before 0 served.ended counts
  pub told_are : served.counts ≡ counts_at (receive_failed p.port p.port') served.ended counts
  pub at_most : p.port.confirms ≡ true → IsIntact p.keeper' served.ended → (kept : KeptRecords) → HandsOn kept p.keeper before.pending
      → HoldsUnder kept p.keeper'
  pub firm : ended_store served.ended ≡ false → KeepsFirm p.keeper p.keeper'
  pub failed : FailedBy (ended_port served.ended) p.port.failures p.port'.failures
  pub store : p.keeper'.has_failed ≡ ended_store served.ended
  pub not_turns : served.ended ≡ Turns → ⊥
