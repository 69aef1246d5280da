-- What a session did, step after step.
use Rattle.std.proofs.Common.{◌≡◌, inl, inr, ℕ, Bool, true, false, List, [], ◌∷◌, ◌++◌, refl, sym, ap, ◌∙◌}
use Rattle.std.proofs.lemmas.List.{append-nil}
use Rattle.fuse_wire.specs.declared.moment.Moment.{Moment}
use Rattle.fuse_request.specs.Act.{Asked}
use Rattle.fuse_request.specs.Opcodes.{Service}
use Rattle.fuse_request.specs.Stream.{cut}
use Rattle.fuse_keeper.specs.Performance.{Performance, IsPerformanceLog}
use Rattle.fuse_session.specs.declared.port.Received.{Received as Receipt}
use Rattle.fuse_session.specs.Clock.{IsLog}
use Rattle.fuse_session.specs.Transcript.{PortEvent, Received, received_in, sends_of, Gave, IsTranscript}
use Rattle.fuse_session.specs.Deeds.{Deeds, Did, Hears}
use Rattle.fuse_session.specs.Grouping.{groups_of}
use Rattle.fuse_session.specs.inner.Turn.{Mute, Grouped, OneTurn}
use Rattle.fuse_session.proofs.Transcripts.{received_more, sends_more, received_sends}

abbrev pub no_deeds : Deeds
no_deeds = record { moments = []; asked = []; events = [] }

-- these, and then those
abbrev pub then_did : Deeds → Deeds → Deeds
then_did a b = record { moments = a.moments ++ b.moments; asked = a.asked ++ b.asked; events = a.events ++ b.events }

-- nothing was done
pub did_none : {K P C : Type 0} (gave : C → C → List Moment → Type 0) (performed : K → K → List Performance → Type 0) (became : P → P → List PortEvent → Type 0)
    → IsLog gave → IsPerformanceLog performed → IsTranscript became → (c : C) (k : K) (p : P) → Did (gave c c) (performed k k) (became p p) no_deeds
did_none gave performed became log asks path c k p = record { moments = log.none c; asked = asks.none k; events = path.none p }

-- these, and then those
pub did_more : {K P C : Type 0} (gave : C → C → List Moment → Type 0) (performed : K → K → List Performance → Type 0) (became : P → P → List PortEvent → Type 0)
    → IsLog gave → IsPerformanceLog performed → IsTranscript became → (c c' c'' : C) (k k' k'' : K) (p p' p'' : P) (a b : Deeds)
    → Did (gave c c') (performed k k') (became p p') a → Did (gave c' c'') (performed k' k'') (became p' p'') b
    → Did (gave c c'') (performed k k'') (became p p'') (then_did a b)
did_more gave performed became log asks path c c' c'' k k' k'' p p' p'' a b one two = record {
  moments = log.onward c c' c'' a.moments b.moments one.moments two.moments;
  asked = asks.onward k k' k'' a.asked b.asked one.asked two.asked;
  events = path.onward p p' p'' a.events b.events one.events two.events;
}

pub mute_none : (did : Deeds → Type 0) → did no_deeds → Mute did no_deeds
mute_none did done = record { done = done; slices = []; events = refl }

pub mute_more : {K P C : Type 0} (gave : C → C → List Moment → Type 0) (performed : K → K → List Performance → Type 0) (became : P → P → List PortEvent → Type 0)
    → IsLog gave → IsPerformanceLog performed → IsTranscript became → (c c' c'' : C) (k k' k'' : K) (p p' p'' : P) (a b : Deeds)
    → Mute (Did (gave c c') (performed k k') (became p p')) a → Mute (Did (gave c' c'') (performed k' k'') (became p' p'')) b
    → Mute (Did (gave c c'') (performed k k'') (became p p'')) (then_did a b)
mute_more gave performed became log asks path c c' c'' k k' k'' p p' p'' a b one two = record {
  done = did_more gave performed became log asks path c c' c'' k k' k'' p p' p'' a b one.done two.done;
  slices = one.slices ++ two.slices;
  events = ap (λ (l : List PortEvent). l ++ b.events) one.events ∙ ap (λ (l : List PortEvent). sends_of one.slices ++ l) two.events
      ∙ sym (sends_more one.slices two.slices);
}

-- what came, and then what came after it
pub hears_more : (did' did'' : Deeds → Type 0) (a b : Deeds) (r1 r2 : List ℕ) → received_in a.events ≡ r1 → (did' b → did'' (then_did a b)) → Hears did' r2 b
    → Hears did'' (r1 ++ r2) (then_did a b)
hears_more did' did'' a b r1 r2 one f two = (
  f two.0,
  received_more a.events b.events ∙ ap (λ (l : List ℕ). l ++ received_in b.events) one ∙ ap (λ (l : List ℕ). r1 ++ l) two.1,
)

-- one receive
abbrev pub one_heard : Receipt → List ℕ → Deeds
one_heard result bytes = record { moments = []; asked = []; events = Received result bytes ∷ [] }

-- a receive, and the sends after it
pub turn_of : {P : Type 0} (gave : List Moment → Type 0) (performed : List Performance → Type 0) (became : P → P → List PortEvent → Type 0) → IsTranscript became
    → (p q r : P) (result : Receipt) (bytes : List ℕ) (b : Deeds) (V : Service) (held : List ℕ) (messages : List (List ℕ)) (later : List (List Asked)) (all : Bool)
    → messages ≡ (cut (held ++ bytes)).0 → (all ≡ true → later ≡ []) → became p q (Received result bytes ∷ []) → Gave (Received result bytes)
    → Mute (Did gave (Grouped V messages later performed) (became q r)) b
    → OneTurn V held all (Did gave performed (became p r)) (then_did (one_heard result bytes) b)
turn_of gave performed became path p q r result bytes b V held messages later all same none one came two = record {
  later = later;
  groups = ap (groups_of V) (sym same) ∙ two.done.asked.1;
  none_later = none;
  done = record {
    moments = two.done.moments;
    asked = two.done.asked.0;
    events = path.onward p q r (Received result bytes ∷ []) b.events one two.done.events;
  };
  result = result;
  bytes = bytes;
  slices = two.slices;
  events = ap (λ (l : List PortEvent). Received result bytes ∷ l) two.events;
  gave = inl came;
}

pub heard_by : (result : Receipt) (bytes : List ℕ) → received_in (one_heard result bytes).events ≡ bytes
heard_by result bytes = append-nil bytes

pub turn_none : {P : Type 0} (gave : List Moment → Type 0) (performed : List Performance → Type 0) (became : P → P → List PortEvent → Type 0)
    → (p q : P) (result : Receipt) (bytes : List ℕ) (V : Service) (held : List ℕ) → gave [] → performed [] → became p q (Received result bytes ∷ [])
    → OneTurn V held false (Did gave performed (became p q)) (one_heard result bytes)
turn_none gave performed became p q result bytes V held none unasked one = record {
  done = record { moments = none; asked = unasked; events = one };
  result = result;
  bytes = bytes;
  slices = [];
  events = refl;
  gave = inr refl;
  later = groups_of V (cut (held ++ bytes)).0;
  groups = refl;
  none_later = λ isnt. absurd (cc isnt);
}

-- a receive and the sends after it, and what came
pub turn_hears : {P : Type 0} (gave : List Moment → Type 0) (performed : List Performance → Type 0) (became : P → P → List PortEvent → Type 0)
    → IsTranscript became → (p q r : P) (result : Receipt) (bytes : List ℕ) (b : Deeds) (V : Service) (held : List ℕ) (messages : List (List ℕ))
    (later : List (List Asked)) (all : Bool) → messages ≡ (cut (held ++ bytes)).0 → (all ≡ true → later ≡ []) → became p q (Received result bytes ∷ [])
    → Gave (Received result bytes) → Mute (Did gave (Grouped V messages later performed) (became q r)) b
    → Hears (OneTurn V held all (Did gave performed (became p r))) bytes (then_did (one_heard result bytes) b)
turn_hears gave performed became path p q r result bytes b V held messages later all same none one came two = (
  turn_of gave performed became path p q r result bytes b V held messages later all same none one came two,
  ap (λ (l : List PortEvent). bytes ++ received_in l) two.events ∙ ap (λ (l : List ℕ). bytes ++ l) (received_sends two.slices) ∙ append-nil bytes,
)

abbrev only_events : List PortEvent → Deeds
only_events events = record { moments = []; asked = []; events = events }

-- what came then was this receive alone
pub just_heard : (result result' : Receipt) (bytes bytes' : List ℕ) → Received result bytes ∷ [] ≡ Received result' bytes' ∷ []
    → Hears (λ d. d ≡ one_heard result' bytes') bytes (one_heard result bytes)
just_heard result result' bytes bytes' is = (ap only_events is, heard_by result bytes)

-- and then just these
pub just_more : (a b d : Deeds) (bytes : List ℕ) → d ≡ b → received_in (then_did a b).events ≡ bytes → Hears (λ x. x ≡ then_did a b) bytes (then_did a d)
just_more a b d bytes is heard = (ap (then_did a) is, ap (λ x. received_in (then_did a x).events) is ∙ heard)
