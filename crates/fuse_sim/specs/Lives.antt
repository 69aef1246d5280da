-- Lives of a server within one mount, one after another, each over what the one before left (defined by this project).
use Rattle.std.specs.Prelude.{◌≡◌, List, [], ◌∷◌, ◌++◌, ℕ}
use Rattle.fuse_request.specs.Opcodes.{Service}
use Rattle.fuse_request.specs.Stream.{cut, joined}
use Rattle.fuse_keeper.specs.History.{History, grown}
use Rattle.fuse_keeper.specs.Model.{Model}
use Rattle.fuse_keeper.specs.Stands.{Standing, StandsAt}
use Rattle.fuse_keeper.specs.KeeperState.{Leaves, IsFirm}
use Rattle.fuse_session.specs.declared.ended.Ended.{Ended}
use Rattle.fuse_session.specs.Passage.{Passage}
use Rattle.fuse_session.specs.Batches.{TimedFirst}
use Rattle.fuse_session.specs.Ended.{IsIntact}
use Rattle.fuse_session.specs.Exchange.{HoldsAt, IfNoneComesAgain}
use Rattle.fuse_session.specs.Serving.{nothing_waits, Run, exchange}
use Rattle.fuse_session.specs.Settling.{replies, settled_in, SentUpTo}
use Rattle.fuse_session.specs.Slices.{RestsOfSome}
use Rattle.fuse_session.specs.Transcript.{handed_in}
use Rattle.fuse_session.specs.Processed.{Timed, bytes_of, kept_in, answers_to, own_answers, out, Works}

-- the bytes that came, those that were sent, the messages that were processed, and the ids that their answers settled
pub record Lifetime : Type 0 where
  pub received : List ℕ
  pub sent : List ℕ
  pub worked : List Timed
  pub settled : List ℕ

-- the first messages that came were processed, up to one that ends the session at most, and a prefix of the bytes that are
-- to be sent for them was sent
pub record IsLife (M : Model) (s : M.State) (h : History) (life : Lifetime) : Type 0 where
  pub others : List (List ℕ)
  pub prefix : (cut life.received).0 ≡ bytes_of life.worked ++ others
  pub works : Works M s h life.worked
  pub unsent : List ℕ
  pub sends : out M s h life.worked ≡ life.sent ++ unsent

-- each life begins with the history that the one before left
abbrev pub AreLives : (M : Model) → M.State → History → List Lifetime → Type 0
AreLives M s h [] = Unit {0}
AreLives M s h (life ∷ lives) = IsLife M s h life × AreLives M s (grown h (kept_in M.service life.worked)) lives

-- the last history
abbrev pub after_lives : Service → History → List Lifetime → History
after_lives V h [] = h
after_lives V h (life ∷ lives) = after_lives V (grown h (kept_in V life.worked)) lives

-- all messages that were processed, in a row
abbrev pub all_processed : List Lifetime → List Timed
all_processed [] = []
all_processed (life ∷ lives) = life.worked ++ all_processed lives

-- each life sent a prefix of the bytes that are to be sent after the history that the lives before it left, where `last` is the
-- history in the end
abbrev pub AllSend : (M : Model) → M.State → History → History → List Lifetime → Type 0
AllSend M s last h [] = Unit {0}
AllSend M s last h (life ∷ lives) = ((unsent : List ℕ) × (joined (answers_to M s last h life.worked) ≡ life.sent ++ unsent))
    × AllSend M s last (grown h (kept_in M.service life.worked)) lives

-- a run of a server was a life, of which its port was handed the answers slice by slice: these bytes came, the first messages were
-- processed, with the moments that the clock gave, and the answers that were sent whole and the one that was begun are the run's;
-- and this is left
pub record RanAsLife {M : Model} {p : Passage M} {ended : Ended} (run : Run p nothing_waits ended) (at : Standing M) (Stood : Standing M → Type 0)
    : Type 0 where
  pub life : Lifetime
  pub lived : IsLife M at.state at.history life
  pub received : life.received ≡ run.received
  pub unprocessed : List Timed
  pub parts : run.broken.work.timed ≡ life.worked ++ unprocessed
  pub moments : TimedFirst M.service run.broken.work.deeds.moments life.worked
  pub sent : life.sent ≡ joined (replies run.broken.work.marks) ++ run.broken.part
  pub up_to : SentUpTo (own_answers M at.state at.history life.worked) run.broken.work.marks run.broken.answer
  pub slices : RestsOfSome run.broken.work.marks run.broken.answer run.broken.part (handed_in run.broken.work.deeds.events)
  pub settled_are : life.settled ≡ settled_in M.service p.port.confirms (bytes_of life.worked) run.broken.work.marks
  pub stands : Stood (record { state = at.state; history = grown at.history (kept_in M.service life.worked); settled = at.settled ++ life.settled })

-- a run of `serve`, as the part `life` of its promise says, was such a life, whatever the keeper stood for and whatever was settled,
-- where no kept message comes again whose answer was settled before or by the run
pub record IsLived {M : Model} (p : Passage M) (ended : Ended) (run : Run p nothing_waits ended) : Type 0 where
  -- what the keeper holds stands for the history that the life leaves, where its store gave back what was written and, after a fault
  -- of the store, has no write open
  pub ends : IsIntact p.keeper' ended → IfNoneComesAgain p.keeper [] (exchange run.broken.work) (λ at. RanAsLife run at (HoldsAt p.keeper'))
  -- and so does whatever a crash then leaves, where the keeper was firm
  pub crashes : p.keeper'.is_honest → IsFirm p.keeper → IfNoneComesAgain p.keeper [] (exchange run.broken.work)
      (λ at. Leaves p.keeper' (λ x r. RanAsLife run at (StandsAt M (record { rows = x; records = r }))))

-- so it is of each run, at whatever end
abbrev pub RunsAreLives : {M : Model} → Passage M → Type 0
RunsAreLives p = (ended : Ended) (run : Run p nothing_waits ended) → IsLived p ended run
