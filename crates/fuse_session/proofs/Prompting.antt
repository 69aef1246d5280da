-- What came was answered, turn after turn.
use Rattle.std.proofs.Common.{◌≡◌, ◌⊎◌, inl, inr, ℕ, Bool, List, [], ◌∷◌, ◌++◌, length, None, refl, sym, ap, subst, arith, ◌∙◌}
use Rattle.std.specs.List.{AllByRecursion}
use Rattle.fuse_request.specs.Framing.{bad_length}
use Rattle.fuse_request.specs.Opcodes.{Service}
use Rattle.fuse_request.specs.Stream.{cut, joined}
use Rattle.fuse_keeper.specs.Model.{Model}
use Rattle.fuse_keeper.specs.KeeperState.{KeeperState}
use Rattle.fuse_session.specs.declared.counts.SessionCounts.{SessionCounts}
use Rattle.fuse_session.specs.declared.port.Received.{Received as Receipt}
use Rattle.fuse_session.specs.declared.port.Sent.{Sent}
use Rattle.fuse_session.specs.Port.{PortState}
use Rattle.fuse_session.specs.Transcript.{PortEvent, Received, sends_of, Gave}
use Rattle.fuse_session.specs.Deeds.{Deeds}
use Rattle.fuse_session.specs.Processed.{bytes_of}
use Rattle.fuse_session.specs.Passage.{passage}
use Rattle.fuse_session.specs.Serving.{Waiting, nothing_waits, Whole}
use Rattle.fuse_session.specs.Prompt.{CaughtUp, AnswersFirst, StopsThere}
use Rattle.fuse_session.specs.Grouping.{groups_in, groups_asked}
use Rattle.fuse_session.specs.inner.Turn.{OneTurn}

-- this was done, all that came was answered before each receive, and the keeper was asked for all groups of it
pub record Answering {M : Model} (k new : KeeperState M) (did : Deeds → Type 0) (confirms : Bool) (deeds : Deeds) : Type 0 where
  pub done : did deeds
  pub first : AnswersFirst k new confirms deeds.events
  pub stops : StopsThere deeds.events
  pub groups : groups_in M.service deeds.events ≡ groups_asked deeds.asked

-- all messages that came were processed, and nothing ended the session
pub caught_whole : (M : Model) → (k new : KeeperState M) (did : Deeds → Type 0) (p q : PortState) (after : Waiting)
    (counts : SessionCounts) → (w : Whole (passage k new p q did) nothing_waits after counts) → bad_length after.at after.bytes ≡ None
    → AllByRecursion Gave w.turned.work.deeds.events → CaughtUp k new p.confirms w.turned.work.deeds.events
caught_whole M k new did p q after counts w good gave = record {
  timed = w.turned.work.timed;
  marks = w.turned.work.marks;
  bytes = ap (λ r. (cut r).0) w.turned.work.done.1 ∙ w.turned.bytes;
  full = w.turned.full;
  slices = w.turned.slices;
  sent = λ honest s h t so within again. (w.turned.all honest s h t so within again).sent;
  goes = λ honest s h t so within again. (w.turned.all honest s h t so within again).goes refl;
  good =
      ap (λ (r : List ℕ). bad_length (length (joined (bytes_of w.turned.work.timed))) (cut r).1) w.turned.work.done.1
      ∙ ap (λ (r : List ℕ). bad_length (length (joined (bytes_of w.turned.work.timed))) r) (sym w.rest_is)
      ∙ ap (λ ms. bad_length (length (joined ms)) after.bytes) (sym w.turned.bytes)
      ∙ ap (λ n. bad_length n after.bytes) (omega (arith, w.at)) ∙ good;
  gave = gave;
}

caught_later : (M : Model) → (k mid new : KeeperState M) (confirms : Bool) (events : List PortEvent) → (new.is_honest → mid.is_honest)
    → CaughtUp k mid confirms events → CaughtUp k new confirms events
caught_later M k mid new confirms events honest_too c = record {
  timed = c.timed;
  marks = c.marks;
  bytes = c.bytes;
  full = c.full;
  slices = c.slices;
  sent = λ honest. c.sent (honest_too honest);
  goes = λ honest. c.goes (honest_too honest);
  good = c.good;
  gave = c.gave;
}

-- no receive is among sends
no_receive : (slices : List (List ℕ × Sent)) (before after : List PortEvent) (result : Receipt) (bytes : List ℕ)
    → sends_of slices ≡ before ++ Received result bytes ∷ after → ⊥
no_receive [] [] after result bytes is = cc is
no_receive [] (b ∷ before) after result bytes is = cc is
no_receive (x ∷ slices) [] after result bytes is = cc is
no_receive (x ∷ slices) (b ∷ before) after result bytes is = no_receive slices before after result bytes (cc is)

-- a receive is one of those before the last one, or the last one
which : (es : List PortEvent) (r : Receipt) (x : List ℕ) (slices : List (List ℕ × Sent)) (before after : List PortEvent) (result : Receipt) (bytes : List ℕ)
    → es ++ Received r x ∷ sends_of slices ≡ before ++ Received result bytes ∷ after
    → ((later : List PortEvent) × (es ≡ before ++ Received result bytes ∷ later))
    ⊎ ((before ≡ es) × (Received r x ≡ Received result bytes) × (sends_of slices ≡ after))
which [] r x slices [] after result bytes is = inr (refl, cc is, cc is)
which [] r x slices (b ∷ before) after result bytes is = absurd (no_receive slices before after result bytes (cc is))
which (e ∷ es) r x slices [] after result bytes is =
    let head : e ≡ Received result bytes = cc is in
    inl (es, ap (λ y. y ∷ es) head)
which (e ∷ es) r x slices (b ∷ before) after result bytes is =
    let head : e ≡ b = cc is in
    let tail : es ++ Received r x ∷ sends_of slices ≡ before ++ Received result bytes ∷ after = cc is in
    elim (which es r x slices before after result bytes tail) [
      | inl earlier ↦ inl (earlier.0, ap (λ y. y ∷ es) head ∙ ap (λ (l : List PortEvent). b ∷ l) earlier.1)
      | inr here ↦ inr (ap (λ (l : List PortEvent). b ∷ l) here.0 ∙ ap (λ y. y ∷ es) (sym head), here.1, here.2)
    ]

-- nothing was received yet
pub first_none : (M : Model) → (k new : KeeperState M) (confirms : Bool) → AnswersFirst k new confirms []
first_none M k new confirms before after result bytes is = absurd (no_receive [] before after result bytes is)

-- a turn more
pub first_more : (M : Model) → (k mid new : KeeperState M) (did : Deeds → Type 0) (held : List ℕ) (all : Bool) (confirms : Bool) (a b : Deeds) → (new.is_honest → mid.is_honest)
    → CaughtUp k mid confirms a.events → AnswersFirst k mid confirms a.events → OneTurn M.service held all did b → AnswersFirst k new confirms (a.events ++ b.events)
first_more M k mid new did held all confirms a b honest_too up first turn before after result bytes is =
    elim (which a.events turn.result turn.bytes turn.slices before after result bytes
    (ap (λ (l : List PortEvent). a.events ++ l) (sym turn.events) ∙ is)) [
      | inl earlier ↦ caught_later M k mid new confirms before honest_too (first before earlier.0 result bytes earlier.1)
      | inr here ↦ subst (CaughtUp k new confirms) (sym here.0) (caught_later M k mid new confirms a.events honest_too up)
    ]

gave_there : (before later : List PortEvent) (e : PortEvent) → AllByRecursion Gave (before ++ e ∷ later) → Gave e
gave_there [] later e gave = gave.0
gave_there (b ∷ before) later e gave = gave_there before later e gave.1

pub stops_none : StopsThere []
stops_none before after result bytes is = absurd (no_receive [] before after result bytes is)

-- where each receive of the turns before gave bytes
pub stops_more : (V : Service) (did : Deeds → Type 0) (held : List ℕ) (all : Bool) (a b : Deeds) → AllByRecursion Gave a.events → OneTurn V held all did b → StopsThere (a.events ++ b.events)
stops_more V did held all a b gave turn before after result bytes is =
    elim (which a.events turn.result turn.bytes turn.slices before after result bytes
    (ap (λ (l : List PortEvent). a.events ++ l) (sym turn.events) ∙ is)) [
      | inl earlier ↦ inl (gave_there before earlier.0 (Received result bytes) (subst (AllByRecursion Gave) earlier.1 gave))
      | inr here ↦ elim turn.gave [
        | inl came ↦ inl (subst Gave here.1 came)
        | inr none ↦ inr (sym here.2 ∙ ap sends_of none)
      ]
    ]
