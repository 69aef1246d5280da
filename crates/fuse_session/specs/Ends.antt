-- How serving ends: one case for each line of the table of ends (defined by this project).
use Rattle.std.specs.Prelude.{◌≡◌, ◌⊎◌, ◌<◌, ◌==◌, if◌then◌else◌, not, ℕ, ◌+◌, Bool, List, [], ◌++◌, length, take, Option, Some, None}
use Rattle.std.specs.Io.KnownBytes.{Consumes}
use Rattle.fuse_request.specs.Framing.{HasNone, bad_length, end_fault}
use Rattle.fuse_request.specs.declared.framer.FrameFault.{FrameFault}
use Rattle.fuse_request.specs.Stream.{cut, joined}
use Rattle.fuse_keeper.specs.Model.{Model}
use Rattle.fuse_session.specs.declared.counts.SessionCounts.{SessionCounts}
use Rattle.fuse_session.specs.declared.ended.Ended.{Ended}
use Rattle.fuse_session.specs.declared.ended.Ended.TheVariants.{End, Destroyed, Turns, Frame, ZeroUnique, PortFailed, Store, Memory}
use Rattle.fuse_session.specs.declared.ended.Served.{Served}
use Rattle.fuse_session.specs.declared.group.Next.TheVariants.{Destroyed as ByDestroy, ZeroUnique as ByZero}
use Rattle.fuse_session.specs.declared.group.Progress.{Progress}
use Rattle.fuse_session.specs.Port.{PortState, HasEnded}
use Rattle.fuse_session.specs.Passage.{Passage, hearing}
use Rattle.fuse_session.specs.Serving.{Waiting, nothing_waits, ProcessedAll, Whole}

-- ---- the counts

-- a receive failed on the way
abbrev pub receive_failed : PortState → PortState → Bool
receive_failed old new = not (new.receive_failures == old.receive_failures)

-- the counts, where no fault ended it but that of a receive, which the first argument says
abbrev pub counts_at : Bool → Ended → SessionCounts → Option SessionCounts
counts_at unheard End counts = Some counts
counts_at unheard Destroyed counts = Some counts
counts_at unheard Turns counts = Some counts
counts_at unheard (Frame f) counts = Some counts
counts_at unheard (ZeroUnique at) counts = Some counts
counts_at unheard PortFailed counts = if unheard then Some counts else None
counts_at unheard (Store fault) counts = None
counts_at unheard Memory counts = None

-- ---- the ends

-- all messages that came were processed and answered, and this kind of rest waits
pub record Rested {M : Model} (p : Passage M) (before : Waiting) (counts : SessionCounts) (Rest : Waiting → Type 0) : Type 0 where
  pub after : Waiting
  pub whole : Whole p before after counts
  pub so : Rest after

-- bytes came, and their messages were processed up to one that stops the session; this one begins, or ended, at a place
pub record Halted {M : Model} (p : Passage M) (before : Waiting) (progress : Progress) (place : ℕ) : Type 0 where
  pub received : List ℕ
  pub came : Consumes p.port.coming p.port'.coming received
  pub pending' : List ℕ
  pub processed : ProcessedAll (hearing p received) before.pending pending' (cut (before.bytes ++ received)).0 progress
  pub at : place ≡ before.at + length (joined (take progress.count (cut (before.bytes ++ received)).0))

-- no whole message is left, and no bad length
abbrev pub IsGoodRest : Waiting → Type 0
IsGoodRest rest = HasNone rest.bytes × (bad_length rest.at rest.bytes ≡ None)

-- it ended meanwhile
abbrev pub EndsNow : PortState → PortState → Type 0
EndsNow old new = HasEnded new × (old.ends < new.ends)

-- it didn't end meanwhile, whether or not it had ended before
pub record EndsNot (old new : PortState) : Type 0 where
  pub ends : new.ends ≡ old.ends
  pub has_ended : new.has_ended ≡ old.has_ended

-- the fault of a rest: its bad length, or that the port ended on it
abbrev pub FaultOf : PortState → PortState → FrameFault → Waiting → Type 0
FaultOf old new f rest =
    (bad_length rest.at rest.bytes ≡ Some f) ⊎ (EndsNow old new × (bad_length rest.at rest.bytes ≡ None) × (end_fault rest.at rest.bytes ≡ Some f))

-- at each of the ends; of Store and Memory the clause `exactly` of a run says it
abbrev pub EndsAs : {M : Model} → Passage M → Waiting → ℕ → Ended → SessionCounts → Type 0
EndsAs p before turns End counts = EndsNow p.port p.port' × Rested p before counts (λ rest. rest.bytes ≡ [])
EndsAs p before turns Destroyed counts =
    (count : ℕ) × (place : ℕ) × Halted p before (record { count = count; next = ByDestroy; counts = counts }) place
EndsAs p before turns Turns counts =
    (p.port'.receives ≡ p.port.receives + turns) × EndsNot p.port p.port' × Rested p before counts IsGoodRest
EndsAs p before turns (Frame f) counts = Rested p before counts (FaultOf p.port p.port' f)
EndsAs p before turns (ZeroUnique at) counts = (count : ℕ) × Halted p before (record { count = count; next = ByZero; counts = counts }) at
EndsAs p before turns PortFailed counts =
    p.port.receive_failures < p.port'.receive_failures → EndsNot p.port p.port' × Rested p before counts IsGoodRest
EndsAs p before turns (Store fault) counts = Unit {0}
EndsAs p before turns Memory counts = Unit {0}

-- a whole session: it ended so, and its counts are returned where no fault ended it
pub record SessionEnds {M : Model} (p : Passage M) (turns : ℕ) (served : Served) : Type 0 where
  pub counts : SessionCounts
  pub ends : EndsAs p nothing_waits turns served.ended counts
  pub told_are : served.counts ≡ counts_at (receive_failed p.port p.port') served.ended counts
