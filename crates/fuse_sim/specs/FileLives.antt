-- Runs of a server over files, one after another within a mount, each over what a crash left of the files of the one
-- before (defined by this project).
use Rattle.std.specs.Prelude.{◌≡◌, true, List, [], ◌∷◌, ◌++◌, ℕ}
use Rattle.fuse_request.specs.Opcodes.{Service}
use Rattle.fuse_request.specs.Stream.{cut, joined}
use Rattle.fuse_keeper.specs.History.{History, Distinct, grown}
use Rattle.fuse_keeper.specs.Model.{Model}
use Rattle.fuse_keeper.specs.Stands.{Standing}
use Rattle.fuse_session.specs.Batches.{TimedFirst}
use Rattle.fuse_session.specs.Deeds.{Deeds}
use Rattle.fuse_session.specs.declared.ended.Ended.{Ended}
use Rattle.fuse_session.specs.Exchange.{Exchange}
use Rattle.fuse_session.specs.Passage.{Passage}
use Rattle.fuse_session.specs.Processed.{Timed, bytes_of, kept_in, own_answers}
use Rattle.fuse_session.specs.Serving.{nothing_waits, Run, exchange}
use Rattle.fuse_session.specs.Settling.{replies, settled_in, NoneComesAgain, SentUpTo}
use Rattle.fuse_session.specs.Slices.{RestsOfSome}
use Rattle.fuse_session.specs.Transcript.{received_in, handed_in}
use Rattle.fuse_sim.specs.Lives.{Lifetime, IsLife, after_lives, all_processed, AllSend}

-- a run: what its clock gave and what happened at its port, the messages that it took up and the whole answers that were sent for
-- the first of them, the answer that was begun and the part of it that was sent, and the files as the next run finds them
pub record FileRun (Image : Type 0) : Type 0 where
  pub deeds : Deeds
  pub exchange : Exchange
  pub answer : List ℕ
  pub part : List ℕ
  pub left : Image

-- the run of `serve` whose promise is this, and these files
abbrev pub run_over : {M : Model} {p : Passage M} {ended : Ended} {Image : Type 0} → Run p nothing_waits ended → Image → FileRun Image
run_over run image = record {
  deeds = run.broken.work.deeds;
  exchange = exchange run.broken.work;
  answer = run.broken.answer;
  part = run.broken.part;
  left = image;
}

-- no message came, and nothing was sent
abbrev pub no_run : {Image : Type 0} → Image → FileRun Image
no_run image = record {
  deeds = record { moments = []; asked = []; events = [] };
  exchange = record { confirms = true; timed = []; marks = [] };
  answer = [];
  part = [];
  left = image;
}

-- the ids that its answers settled
abbrev pub run_settled : {Image : Type 0} → Service → FileRun Image → List ℕ
run_settled V r = settled_in V r.exchange.confirms (bytes_of r.exchange.timed) r.exchange.marks

-- no kept message comes again whose answer was settled before or by the run
abbrev pub RunHasNew : {Image : Type 0} → Service → List ℕ → FileRun Image → Type 0
RunHasNew V t r = NoneComesAgain V r.exchange.confirms t (bytes_of r.exchange.timed) r.exchange.marks

-- it was this life: these bytes came to its port, the first messages of these were taken up and the first of those processed, with the
-- moments that its clock gave, and its answers were handed to the port slice by slice, up to the one that was begun
pub record LivedAs {Image : Type 0} (M : Model) (s : M.State) (h : History) (r : FileRun Image) (life : Lifetime) : Type 0 where
  pub lived : IsLife M s h life
  pub came : life.received ≡ received_in r.deeds.events
  pub others : List (List ℕ)
  pub taken_up : (cut life.received).0 ≡ bytes_of r.exchange.timed ++ others
  pub unprocessed : List Timed
  pub parts : r.exchange.timed ≡ life.worked ++ unprocessed
  pub moments : TimedFirst M.service r.deeds.moments life.worked
  pub sent : life.sent ≡ joined (replies r.exchange.marks) ++ r.part
  pub up_to : SentUpTo (own_answers M s h life.worked) r.exchange.marks r.answer
  pub slices : RestsOfSome r.exchange.marks r.answer r.part (handed_in r.deeds.events)
  pub settled : life.settled ≡ settled_in M.service r.exchange.confirms (bytes_of life.worked) r.exchange.marks

-- ---- one run: `Stand` are the histories that files stand for

-- the run was a life from this history, and the files that are left stand for the history after it
pub record RanFrom {M : Model} {Image : Type 0} (Stand : Image → Standing M → Type 0) (at : Standing M) (r : FileRun Image) : Type 0 where
  pub life : Lifetime
  pub lived : LivedAs M at.state at.history r life
  pub left : Stand r.left (record {
    state = at.state;
    history = grown at.history (kept_in M.service life.worked);
    settled = at.settled ++ run_settled M.service r;
  })

-- so it is where no settled message comes again
abbrev pub IsRunFrom : {M : Model} {Image : Type 0} → (Image → Standing M → Type 0) → Standing M → FileRun Image → Type 0
IsRunFrom {M} Stand at r = RunHasNew M.service at.settled r → RanFrom Stand at r

-- so it is from whatever history these files stood for
abbrev pub IsRunOver : {M : Model} {Image : Type 0} → (Image → Standing M → Type 0) → M.State → Image → FileRun Image → Type 0
IsRunOver {M} Stand s first r = (h : History) (t : List ℕ) → Stand first (record { state = s; history = h; settled = t })
    → IsRunFrom Stand (record { state = s; history = h; settled = t }) r

-- ---- all runs of a mount

-- each run is over the files that the one before left
abbrev pub AreRuns : {M : Model} {Image : Type 0} → (Image → Standing M → Type 0) → M.State → Image → List (FileRun Image) → Type 0
AreRuns Stand s first [] = Unit {0}
AreRuns Stand s first (r ∷ runs) = IsRunOver Stand s first r × AreRuns Stand s r.left runs

-- the first run begins the mount in this state
abbrev pub IsMount : {M : Model} {Image : Type 0} → (Image → Standing M → Type 0) → M.State → FileRun Image → List (FileRun Image) → Type 0
IsMount Stand s r runs = IsRunFrom Stand (record { state = s; history = []; settled = [] }) r × AreRuns Stand s r.left runs

-- no kept message comes again whose answer was settled before, by whichever run
abbrev pub AllHaveNew : {Image : Type 0} → Service → List ℕ → List (FileRun Image) → Type 0
AllHaveNew V t [] = Unit {0}
AllHaveNew V t (r ∷ runs) = RunHasNew V t r × AllHaveNew V (t ++ run_settled V r) runs

-- the ids that are settled in the end
abbrev pub all_settled : {Image : Type 0} → Service → List ℕ → List (FileRun Image) → List ℕ
all_settled V t [] = t
all_settled V t (r ∷ runs) = all_settled V (t ++ run_settled V r) runs

-- the files that are left in the end
abbrev pub files_left_by : {Image : Type 0} → Image → List (FileRun Image) → Image
files_left_by first [] = first
files_left_by first (r ∷ runs) = files_left_by r.left runs

-- the runs were these lives, one for one, each from the history that the one before left
abbrev pub LivedInTurn : {Image : Type 0} → (M : Model) → M.State → History → List (FileRun Image) → List Lifetime → Type 0
LivedInTurn M s h [] [] = Unit {0}
LivedInTurn M s h [] (life ∷ lives) = ⊥
LivedInTurn M s h (r ∷ runs) [] = ⊥
LivedInTurn M s h (r ∷ runs) (life ∷ lives) = LivedAs M s h r life × LivedInTurn M s (grown h (kept_in M.service life.worked)) runs lives

-- the runs were lives of one mount: the last history is that of all kept messages that they processed, in a row, in which no request
-- stands twice; each run sent a prefix of its answers, to a kept message by that history, to a seen one by the history before it; and the
-- files stand for the last history in the end
pub record FilesLived {M : Model} {Image : Type 0} (Stand : Image → Standing M → Type 0) (s : M.State) (r : FileRun Image) (runs : List (FileRun Image))
    : Type 0 where
  pub lives : List Lifetime
  pub lived : LivedInTurn M s [] (r ∷ runs) lives
  pub in_a_row : after_lives M.service [] lives ≡ grown [] (kept_in M.service (all_processed lives))
  pub once : Distinct (after_lives M.service [] lives)
  pub send : AllSend M s (after_lives M.service [] lives) [] lives
  pub left : Stand (files_left_by r.left runs) (record {
    state = s;
    history = after_lives M.service [] lives;
    settled = all_settled M.service [] (r ∷ runs);
  })
