-- What was done, once for all that is said of it.
use Rattle.std.proofs.Common.{◌≡◌, ℕ, Bool, List, [], ◌∷◌, refl}
use Rattle.fuse_request.specs.Framing.{HeldBytes}
use Rattle.fuse_keeper.specs.Model.{Model}
use Rattle.fuse_keeper.specs.KeeperState.{KeeperState}
use Rattle.fuse_session.specs.declared.counts.SessionCounts.{SessionCounts}
use Rattle.fuse_session.specs.declared.ended.Ended.{Ended}
use Rattle.fuse_session.specs.declared.ended.Ended.TheVariants.{End, Destroyed, Turns, Frame, ZeroUnique, PortFailed, Store, Memory}
use Rattle.fuse_session.specs.declared.group.Progress.{Progress}
use Rattle.fuse_session.specs.Port.{PortState}
use Rattle.fuse_session.specs.declared.port.Received.TheVariants.{End as NoMore}
use Rattle.fuse_session.specs.Deeds.{Deeds}
use Rattle.fuse_session.specs.Done.{broken_did}
use Rattle.fuse_session.specs.Passage.{passage}
use Rattle.fuse_session.specs.Serving.{TookTurn, ProcessedAll, Waiting, Whole, Broken}
use Rattle.fuse_session.specs.Transcript.{PortEvent, Received}
use Rattle.fuse_session.specs.inner.Receiving.{SaidEnd, NotHeard}
use Rattle.fuse_session.proofs.Sessions.{ByOne, came_by}

pub turned_done : (M : Model) → (k new : KeeperState M) (did did' : Deeds → Type 0) (p q : PortState) (ids ids' : List ℕ) (prefix : List (List ℕ)) (going : Bool)
    (counts : SessionCounts) → (t : TookTurn (passage k new p q did) ids ids' prefix going counts) → did' t.work.deeds
    → TookTurn (passage k new p q did') ids ids' prefix going counts
turned_done M k new did did' p q ids ids' prefix going counts t done = record {
  work = record {
    timed = t.work.timed;
    marks = t.work.marks;
    deeds = t.work.deeds;
    done = done;
    batches = t.work.batches;
    are = t.work.are;
    asked = t.work.asked;
    first = t.work.first;
  };
  bytes = t.bytes;
  full = t.full;
  moments = t.moments;
  answered = t.answered;
  left = t.left;
  slices = t.slices;
  replied = t.replied;
  all = t.all;
  few = t.few;
  destroyed = t.destroyed;
  looked = t.looked;
}

-- these messages were processed by just these deeds
pub processed_just : (M : Model) → (k new : KeeperState M) (did : Deeds → Type 0) (p q : PortState) (ids ids' : List ℕ) (messages : List (List ℕ))
    (progress : Progress) → (w : ProcessedAll (passage k new p q did) ids ids' messages progress)
    → ProcessedAll (passage k new p q (λ d. d ≡ w.turned.work.deeds)) ids ids' messages progress
processed_just M k new did p q ids ids' messages progress w = record {
  all = w.all;
  zero = w.zero;
  turned = turned_done M k new did (λ d. d ≡ w.turned.work.deeds) p q ids ids' _ _ progress.counts w.turned refl;
}

pub broken_just : (M : Model) → (k new : KeeperState M) (did : Deeds → Type 0) (p q : PortState) (ids : List ℕ) (messages : List (List ℕ)) (e : Ended)
    → (b : Broken (passage k new p q did) ids messages e) → Broken (passage k new p q (λ d. d ≡ b.work.deeds)) ids messages e
broken_just M k new did p q ids messages e b = broken_did (passage k new p q did) (λ d. d ≡ b.work.deeds) ids messages e b refl

pub whole_just : (M : Model) → (k new : KeeperState M) (did : Deeds → Type 0) (p q : PortState) (before after : Waiting) (counts : SessionCounts)
    → (w : Whole (passage k new p q did) before after counts) → Whole (passage k new p q (λ d. d ≡ w.turned.work.deeds)) before after counts
whole_just M k new did p q before after counts w = record {
  received = w.received;
  came = w.came;
  rest_is = w.rest_is;
  at = w.at;
  turned = turned_done M k new _ _ p q before.pending after.pending _ _ counts w.turned (refl, w.turned.work.done.1);
}

-- nothing was heard, by just this receive
abbrev pub by_just : {became : List PortEvent → Type 0} {p q : PortState} → ByOne became p q → List PortEvent → Type 0
by_just one events = events ≡ Received one.result one.received ∷ []

ended_just : (became : List PortEvent → Type 0) (p q : PortState) → (n : SaidEnd became p q) → (alone : List PortEvent → Type 0)
    → alone (Received NoMore [] ∷ []) → SaidEnd alone p q
ended_just became p q n alone once = record {
  once = once;
  has_ended = n.has_ended;
  ends = n.ends;
  bytes = n.bytes;
  failures = n.failures;
  receive_failures = n.receive_failures;
}

pub unheard_just : (e : Ended) (became : List PortEvent → Type 0) (p q : PortState) (h : HeldBytes) → (n : NotHeard e became p q h)
    → NotHeard e (by_just (came_by e became p q h n)) p q h
unheard_just End became p q h n = (ended_just became p q n.0 _ refl, n.1)
unheard_just (Frame f) became p q h n = (ended_just became p q n.0 _ refl, n.1)
unheard_just PortFailed became p q h n = record {
  once = refl;
  ends = n.ends;
  has_ended = n.has_ended;
  bytes = n.bytes;
  failures = n.failures;
  receive_failures = n.receive_failures;
}
unheard_just Memory became p q h n = (
  n.0,
  record {
    result = n.1.result;
    once = refl;
    gave = n.1.gave;
    bytes = n.1.bytes;
    ends = n.1.ends;
    has_ended = n.1.has_ended;
    failures = n.1.failures;
    receive_failures = n.1.receive_failures;
  },
)
unheard_just Destroyed became p q h n = absurd n
unheard_just Turns became p q h n = absurd n
unheard_just (ZeroUnique at) became p q h n = absurd n
unheard_just (Store fault) became p q h n = absurd n
