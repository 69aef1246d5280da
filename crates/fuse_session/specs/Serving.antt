-- A session so far: the bytes that came, the messages processed, the answers sent, and the history of the keeper (defined by this project).
use Rattle.std.specs.Prelude.{◌≡◌, ℕ, ◌+◌, Bool, true, false, List, [], ◌++◌, length, take, drop}
use Rattle.std.specs.Io.KnownBytes.{Consumes}
use Rattle.fuse_request.specs.Stream.{cut, joined}
use Rattle.fuse_keeper.specs.Lots.{SameLots}
use Rattle.fuse_keeper.specs.Model.{Model}
use Rattle.fuse_keeper.specs.Stands.{Records, StandsAt}
use Rattle.fuse_keeper.specs.KeeperState.{KeeperState, Leaves, IsFirm, KeepsHeld, WhereHeld}
use Rattle.fuse_session.specs.declared.counts.SessionCounts.{SessionCounts}
use Rattle.fuse_session.specs.declared.ended.Ended.{Ended}
use Rattle.fuse_session.specs.declared.group.Next.{Next}
use Rattle.fuse_session.specs.declared.group.Next.TheVariants.{GoesOn, Destroyed, ZeroUnique}
use Rattle.fuse_session.specs.declared.group.Progress.{Progress}
use Rattle.fuse_session.specs.Transcript.{handed_in}
use Rattle.fuse_session.specs.Deeds.{Deeds}
use Rattle.fuse_session.specs.Processed.{Timed, bytes_of, kept_in, StartsZero, LastDestroys, moments_in}
use Rattle.fuse_session.specs.Settling.{Mark, settled_in, NoneComesAgain, Replied, FewHave, FewRecorded}
use Rattle.fuse_session.specs.Slices.{RestsOfAll, RestsOfSome}
use Rattle.fuse_session.specs.Batches.{Batch, AreBatches, AllAnswered, AnsweredButLast, handed_over, left_over, TimedFirst}
use Rattle.fuse_session.specs.Ended.{ended_store, ended_between, MayEnd, IsIntact}
use Rattle.fuse_session.specs.Passage.{Passage, hearing}
use Rattle.fuse_session.specs.Exchange.{Exchange, HoldsAt, IfNoneComesAgain, Answered, Lived, Exact, FirstAnswered}

-- it is firm if it was
abbrev pub KeepsFirm : {M : Model} → KeeperState M → KeeperState M → Type 0
KeepsFirm old new = new.is_honest → IsFirm old → IsFirm new

-- it only saw requests: where it is intact it holds what it held, and no lot was taken; and a crash leaves no more than before
pub record OnlySaw {M : Model} (old new : KeeperState M) (Intact : Type 0) : Type 0 where
  pub same : Intact → KeepsHeld old new
  pub lots : Intact → WhereHeld old (SameLots old.lots new.lots)
  pub whole : new.is_honest → WhereHeld old (old.leaves_whole → new.leaves_whole)
  pub crash : new.is_honest → (x : M.Rows) (r : Records) → WhereHeld old (new.may_leave x r → old.may_leave x r)

-- messages, the whole answers that were sent for the first of them, and what was done: the keeper was asked to perform them batch by
-- batch, with all ids that were settled by then
pub record Work {M : Model} (p : Passage M) (pending : List ℕ) : Type 0 where
  pub timed : List Timed
  pub marks : List Mark
  pub deeds : Deeds
  pub done : p.did deeds
  pub batches : List Batch
  pub are : AreBatches batches timed marks
  pub asked : deeds.asked ≡ handed_over M.service p.port.confirms pending batches
  -- up to the first message that comes again, each whole answer is the one that is said
  pub first : p.keeper'.is_honest → FirstAnswered p.keeper pending (record { confirms = p.port.confirms; timed = timed; marks = marks })

abbrev pub exchange : {M : Model} {p : Passage M} {pending : List ℕ} → Work p pending → Exchange
exchange {p = p} work = record { confirms = p.port.confirms; timed = work.timed; marks = work.marks }

-- the ids that were settled before, and those that the answers settled
abbrev pub settled_with : {M : Model} {p : Passage M} {pending : List ℕ} → List ℕ → Work p pending → List ℕ
settled_with {M} {p} t work = t ++ settled_in M.service p.port.confirms (bytes_of work.timed) work.marks

-- ---- all messages were answered

-- these messages were processed and answered, and the session goes on after them, or the last one ended it. Of the settled ids few
-- have a record, all of them pending, if so it was before
pub record TookTurn {M : Model} (p : Passage M) (pending pending' : List ℕ) (prefix : List (List ℕ)) (going : Bool) (counts : SessionCounts) : Type 0 where
  pub work : Work p pending
  pub bytes : prefix ≡ bytes_of work.timed
  pub full : length work.marks ≡ length work.timed
  pub moments : work.deeds.moments ≡ moments_in M.service work.timed
  pub answered : AllAnswered work.batches
  pub left : pending' ≡ left_over M.service p.port.confirms pending work.batches
  pub slices : RestsOfAll work.marks (handed_in work.deeds.events)
  pub replied : Replied p.port p.port' work.marks []
  pub all : p.keeper'.is_honest
      → IfNoneComesAgain p.keeper pending (exchange work) (λ at. Answered M at (exchange work) (HoldsAt p.keeper') going counts)
  pub few : p.keeper'.is_honest → (t : List ℕ) → NoneComesAgain M.service p.port.confirms t (bytes_of work.timed) work.marks
      → FewHave p.keeper t pending → FewHave p.keeper' (settled_with t work) pending'
  -- whatever came again, only a kept DESTROY ended it
  pub destroyed : going ≡ false → LastDestroys M.service work.timed
  -- if no message is kept, the keeper only looked
  pub looked : kept_in M.service work.timed ≡ [] → OnlySaw p.keeper p.keeper' p.keeper'.is_honest

-- nothing ended the session so far
abbrev pub lasts : Next → Bool
lasts GoesOn = true
lasts ZeroUnique = true
lasts Destroyed = false

abbrev pub goes_on : Next → Bool
goes_on GoesOn = true
goes_on Destroyed = false
goes_on ZeroUnique = false

-- messages were processed, all of them where it goes on, and else up to one that stops it
pub record ProcessedAll {M : Model} (p : Passage M) (pending pending' : List ℕ) (messages : List (List ℕ)) (progress : Progress) : Type 0 where
  pub all : goes_on progress.next ≡ true → drop progress.count messages ≡ []
  pub zero : progress.next ≡ ZeroUnique → StartsZero (drop progress.count messages)
  pub turned : TookTurn p pending pending' (take progress.count messages) (lasts progress.next) progress.counts

-- what a session holds between two receives: the settled ids that are pending, the bytes of a message that isn't whole yet, and the
-- offset at which these begin
pub record Waiting : Type 0 where
  pub pending : List ℕ
  pub bytes : List ℕ
  pub at : ℕ

abbrev pub nothing_waits : Waiting
nothing_waits = record { pending = []; bytes = []; at = 0 }

-- bytes came, and all messages of these and of the bytes that waited were processed and answered; this waits then
pub record Whole {M : Model} (p : Passage M) (before after : Waiting) (counts : SessionCounts) : Type 0 where
  pub received : List ℕ
  pub came : Consumes p.port.coming p.port'.coming received
  pub rest_is : after.bytes ≡ (cut (before.bytes ++ received)).1
  pub at : after.at ≡ before.at + length (joined (cut (before.bytes ++ received)).0)
  pub turned : TookTurn (hearing p received) before.pending after.pending (cut (before.bytes ++ received)).0 true counts

-- ---- however it ended

-- exactly the answers to some of the messages were sent, and no part of another one. A fault of the store is one that the keeper may
-- answer, and the keeper stands for those messages, where its store is clean
pub record SentExactly {M : Model} (p : Passage M) (pending : List ℕ) (work : Work p pending) (part : List ℕ) (ended : Ended) : Type 0 where
  pub no_part : part ≡ []
  pub slices : RestsOfAll work.marks (handed_in work.deeds.events)
  pub exact : p.keeper'.is_honest → IfNoneComesAgain p.keeper pending (exchange work) (λ at. Exact M at (exchange work)
      (λ after. ended_store ended ≡ true → p.keeper'.is_clean → HoldsAt p.keeper' after × MayEnd p.keeper.may_answer ended))

-- some of these messages were processed, and a prefix of the answers to those was sent: whole ones, and a part of the next one. No
-- other bytes were handed to the port. The keeper stands for the messages processed, and where it was firm so does whatever a crash
-- leaves. Few of the settled ids have a record, if so it was before
pub record Broken {M : Model} (p : Passage M) (pending : List ℕ) (messages : List (List ℕ)) (ended : Ended) : Type 0 where
  pub work : Work p pending
  pub others : List (List ℕ)
  pub answer : List ℕ
  pub part : List ℕ
  pub prefix : messages ≡ bytes_of work.timed ++ others
  pub moments : TimedFirst M.service work.deeds.moments work.timed
  pub answered : AnsweredButLast work.batches
  pub slices : RestsOfSome work.marks answer part (handed_in work.deeds.events)
  pub replied : Replied p.port p.port' work.marks part
  pub exactly : ended_between ended ≡ true → SentExactly p pending work part ended
  pub life : IsIntact p.keeper' ended
      → IfNoneComesAgain p.keeper pending (exchange work) (λ at. Lived M at (exchange work) (HoldsAt p.keeper') answer)
  pub crash : p.keeper'.is_honest → IsFirm p.keeper → IfNoneComesAgain p.keeper pending (exchange work) (λ at. Leaves p.keeper'
      (λ x r. Lived M at (exchange work) (StandsAt M (record { rows = x; records = r })) answer))
  pub few : IsIntact p.keeper' ended → (t : List ℕ) → NoneComesAgain M.service p.port.confirms t (bytes_of work.timed) work.marks
      → FewHave p.keeper t pending → FewRecorded p.keeper' (settled_with t work)
  -- if none of these messages is kept, the keeper only looked
  pub looked : kept_in M.service work.timed ≡ [] → OnlySaw p.keeper p.keeper' (IsIntact p.keeper' ended)

-- bytes came, and some of their messages were processed and answered so, however it ended
pub record Run {M : Model} (p : Passage M) (before : Waiting) (ended : Ended) : Type 0 where
  pub received : List ℕ
  pub came : Consumes p.port.coming p.port'.coming received
  pub broken : Broken (hearing p received) before.pending (cut (before.bytes ++ received)).0 ended
