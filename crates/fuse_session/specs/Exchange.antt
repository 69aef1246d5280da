-- Messages and the answers to them, over the history that a keeper stands for (defined by this project).
use Rattle.std.specs.Prelude.{◌≡◌, ℕ, Bool, true, false, List, ◌++◌, length, take}
use Rattle.fuse_keeper.specs.History.{History, grown, Includes}
use Rattle.fuse_keeper.specs.Model.{Model}
use Rattle.fuse_keeper.specs.Stands.{Standing}
use Rattle.fuse_keeper.specs.KeeperState.{KeeperState, StandsFor}
use Rattle.fuse_session.specs.declared.counts.SessionCounts.{SessionCounts}
use Rattle.fuse_session.specs.Processed.{Timed, bytes_of, kept_in, own_answers, GoesOn, Works, EndsLast}
use Rattle.fuse_session.specs.Settling.{Mark, replies, settled_in, NoneComesAgain, SentUpTo}
use Rattle.fuse_session.specs.Counting.{counted}

-- messages, the whole answers that were sent for the first of them, and whether the port confirms
pub record Exchange : Type 0 where
  pub confirms : Bool
  pub timed : List Timed
  pub marks : List Mark

-- the history with the messages added, and the ids that their answers settled with those that were settled before
abbrev pub grown_by : {M : Model} → Standing M → Exchange → Standing M
grown_by {M} at x = record {
  state = at.state;
  history = grown at.history (kept_in M.service x.timed);
  settled = at.settled ++ settled_in M.service x.confirms (bytes_of x.timed) x.marks;
}

-- what a keeper holds stands so
abbrev pub HoldsAt : {M : Model} → KeeperState M → Standing M → Type 0
HoldsAt k at = StandsFor k at.state at.history at.settled

-- this is so whatever the keeper stood for and whatever was settled, of which these ids are pending, where no message comes again
abbrev pub IfNoneComesAgain : {M : Model} → KeeperState M → List ℕ → Exchange → (Standing M → Type 0) → Type 0
IfNoneComesAgain {M} k pending x P = (s : M.State) (h : History) (t : List ℕ) → StandsFor k s h t → Includes t pending
    → NoneComesAgain M.service x.confirms t (bytes_of x.timed) x.marks → P (record { state = s; history = h; settled = t })

-- all messages were processed, and their answers sent
pub record Answered (M : Model) (at : Standing M) (x : Exchange) (Stood : Standing M → Type 0) (going : Bool) (counts : SessionCounts) : Type 0 where
  pub works : Works M at.state at.history x.timed
  pub goes : going ≡ true → GoesOn M at.state at.history x.timed
  pub last : going ≡ false → EndsLast M at.state at.history x.timed
  pub stands : Stood (grown_by at x)
  pub sent : replies x.marks ≡ own_answers M at.state at.history x.timed
  pub counts_are : counts ≡ counted M.service at.history x.timed

-- some of the messages were processed, and their first answers were sent: whole ones, and then this one was begun
pub record Lived (M : Model) (at : Standing M) (x : Exchange) (Stood : Standing M → Type 0) (answer : List ℕ) : Type 0 where
  pub worked : List Timed
  pub unprocessed : List Timed
  pub parts : x.timed ≡ worked ++ unprocessed
  pub works : Works M at.state at.history worked
  pub stands : Stood (grown_by at (record x { timed = worked }))
  pub sent : SentUpTo (own_answers M at.state at.history worked) x.marks answer

-- some of the messages were processed, and exactly their answers were sent
pub record Exact (M : Model) (at : Standing M) (x : Exchange) (Stood : Standing M → Type 0) : Type 0 where
  pub worked : List Timed
  pub unprocessed : List Timed
  pub parts : x.timed ≡ worked ++ unprocessed
  pub works : Works M at.state at.history worked
  pub stands : Stood (grown_by at (record x { timed = worked }))
  pub sent : replies x.marks ≡ own_answers M at.state at.history worked

-- these messages were processed, and the whole answers that were sent for them are the first of those that are said, where just
-- these messages are added
pub record AnswersBegin (M : Model) (at : Standing M) (x : Exchange) : Type 0 where
  pub works : Works M at.state at.history x.timed
  pub unsent : List (List ℕ)
  pub sent : own_answers M at.state at.history x.timed ≡ replies (take (length x.timed) x.marks) ++ unsent

-- so it is up to the first message that comes again: of any of the first messages, whatever comes after them
abbrev pub FirstAnswered : {M : Model} → KeeperState M → List ℕ → Exchange → Type 0
FirstAnswered {M} k pending x = (first others : List Timed) → x.timed ≡ first ++ others
    → IfNoneComesAgain k pending (record x { timed = first }) (λ at. AnswersBegin M at (record x { timed = first }))
