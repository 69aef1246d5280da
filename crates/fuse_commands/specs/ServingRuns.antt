-- What serving a port does: at Resume the notices, then a session (defined by this project).
use Rattle.std.specs.Prelude.{◌≡◌, ◌⊎◌, ℕ, List, [], Option, None, Ok, Err, OnOk}
use Rattle.fuse_wire.specs.declared.moment.Moment.{Moment}
use Rattle.fuse_keeper.specs.Model.{Model}
use Rattle.fuse_keeper.specs.Performance.{Performance}
use Rattle.fuse_keeper.specs.KeeperState.{KeeperState, Looked, WhereHeld, IsFirm}
use Rattle.fuse_session.specs.declared.counts.SessionCounts.{SessionCounts}
use Rattle.fuse_session.specs.declared.ended.Served.{Served}
use Rattle.fuse_session.specs.declared.resend.ResumeFault.{ResumeFault}
use Rattle.fuse_session.specs.declared.resend.ResumeFault.TheVariants as resume
use Rattle.fuse_session.specs.Port.{PortState}
use Rattle.fuse_session.specs.Transcript.{PortEvent}
use Rattle.fuse_session.specs.Deeds.{Did}
use Rattle.fuse_session.specs.Passage.{passage_for}
use Rattle.fuse_session.specs.Session.{Session}
use Rattle.fuse_session.specs.Resuming.{Resumed, NotResumed, of_store}
use Rattle.fuse_commands.specs.declared.ending.Ending.{Ending}
use Rattle.fuse_commands.specs.declared.serve.Begin.{Begin}
use Rattle.fuse_commands.specs.declared.serve.Begin.TheVariants.{Fresh, Resume}
use Rattle.fuse_commands.specs.declared.ending.Ending.TheVariants.{NotOffered, PortFailed}
use Rattle.fuse_commands.specs.Endings.{session_ending, store_ending}

-- how contracts see a keeper and a port
pub record Views (M : Model) (K P : Type 0) : Type 1 where
  pub keeper : K → KeeperState M
  pub performed : K → K → List Performance → Type 0
  pub port : P → PortState
  pub became : P → P → List PortEvent → Type 0

-- a keeper and a port, before and after
pub record Between (K P : Type 0) : Type 0 where
  pub keeper : K
  pub keeper' : K
  pub port : P
  pub port' : P

abbrev pub views : {M : Model} {K P : Type 0} → (K → KeeperState M) → (K → K → List Performance → Type 0) → (P → PortState)
    → (P → P → List PortEvent → Type 0) → Views M K P
views keeper performed port became = record { keeper = keeper; performed = performed; port = port; became = became }

abbrev pub between : {K P : Type 0} → K → K → P → P → Between K P
between keeper keeper' port port' = record { keeper = keeper; keeper' = keeper'; port = port; port' = port' }

-- the bound on turns
abbrev pub most_turns : ℕ
most_turns = 4294967295

-- the notices were sent, and nothing else; the keeper holds the same, is as firm and was asked to perform nothing
pub record Notified {M : Model} {K P : Type 0} (v : Views M K P) (b : Between K P) : Type 0 where
  pub resumed : Resumed (v.keeper b.keeper) (v.keeper b.keeper') (v.port b.port) (v.port b.port') (v.became b.port b.port')
  pub looked : Looked (v.keeper b.keeper) (v.keeper b.keeper') (of_store (Ok tt))
  pub firm : (v.keeper b.keeper').is_honest → WhereHeld (v.keeper b.keeper) (IsFirm (v.keeper b.keeper) → IsFirm (v.keeper b.keeper'))
  pub unasked : v.performed b.keeper b.keeper' []

-- the notices before the session, at Resume
abbrev pub BeginsServing : {M : Model} {K P : Type 0} → Begin → Views M K P → Between K P → Type 0
BeginsServing Resume v b = Notified v b
BeginsServing Fresh v b = (b.keeper' ≡ b.keeper) × (b.port' ≡ b.port)

-- a session was served after it, and how it ended is the ending: it is said with the service that the keeper gives
pub record SessionServed {M : Model} {K P : Type 0} (v : Views M K P) (gave : List Moment → Type 0) (b : Between K P) (begin : Begin) (ending : Ending)
    (counts : Option SessionCounts) : Type 0 where
  pub begun : K
  pub now : P
  pub begins : BeginsServing begin v (record { keeper = b.keeper; keeper' = begun; port = b.port; port' = now })
  pub served : Served
  pub session : Session (passage_for (v.keeper begun).service (v.keeper begun) (v.keeper b.keeper') (v.port now) (v.port b.port')
      (Did gave (v.performed begun b.keeper') (v.became now b.port'))) most_turns served
  pub ending_is : ending ≡ session_ending served.ended
  pub counts_are : counts ≡ served.counts

-- the ending of a command whose notices could not be sent
abbrev pub resume_ending : ResumeFault → Ending
resume_ending resume.NotOffered = NotOffered
resume_ending resume.PortFailed = PortFailed
resume_ending (resume.Store fault) = store_ending fault

-- no session was served, since the notices could not be sent
pub record NotServed {M : Model} {K P : Type 0} (v : Views M K P) (b : Between K P) (begin : Begin) (ending : Ending) (counts : Option SessionCounts)
    : Type 0 where
  pub resumes : begin ≡ Resume
  pub fault : ResumeFault
  pub not_resumed : NotResumed (v.keeper b.keeper) (v.keeper b.keeper') (v.port b.port) (v.port b.port') (v.became b.port b.port') fault
  pub looked : Looked (v.keeper b.keeper) (v.keeper b.keeper') (of_store (Err fault))
  pub firm : OnOk (of_store (Err fault))
      ((v.keeper b.keeper').is_honest → WhereHeld (v.keeper b.keeper) (IsFirm (v.keeper b.keeper) → IsFirm (v.keeper b.keeper')))
  pub unasked : v.performed b.keeper b.keeper' []
  pub ending_is : ending ≡ resume_ending fault
  pub uncounted : counts ≡ None

abbrev pub ServesPort : {M : Model} {K P : Type 0} → Views M K P → (List Moment → Type 0) → Between K P → Begin → Ending → Option SessionCounts → Type 0
ServesPort v gave b begin ending counts = SessionServed v gave b begin ending counts ⊎ NotServed v b begin ending counts
