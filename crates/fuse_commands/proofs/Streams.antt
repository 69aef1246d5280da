-- The messages of a stream that a session processed.
use Rattle.std.proofs.Common.{◌≡◌, inl, inr, ◌+◌, ℕ, Bool, true, false, List, [], ◌∷◌, ◌++◌, length, take, drop, Option}
use Rattle.std.proofs.Common.{Some, None, refl, sym, ap, subst, ◌∙◌, append_assoc, append-nil, arith}
use Rattle.std.specs.Prelude.{IfSome}
use Rattle.std.specs.List.{AllByRecursion}
use Rattle.std.specs.Io.KnownBytes.{Appends, Consumes}
use Rattle.std.proofs.lemmas.List.{take-append-drop}
use Rattle.fuse_wire.specs.declared.moment.Moment.{Moment}
use Rattle.fuse_request.specs.declared.framer.FrameFault.{FrameFault}
use Rattle.fuse_request.specs.declared.framer.FrameFault.TheVariants as frame
use Rattle.fuse_request.specs.Stream.{cut, joined, CutJoins, CutSteps}
use Rattle.fuse_request.specs.Framing.{end_fault}
use Rattle.fuse_keeper.specs.declared.fault.StoreFault.{StoreFault}
use Rattle.fuse_keeper.specs.declared.fault.StoreFault.TheVariants as store
use Rattle.fuse_keeper.specs.Model.{Model}
use Rattle.fuse_keeper.specs.History.{History, grown}
use Rattle.fuse_keeper.specs.Performance.{Performance}
use Rattle.fuse_keeper.specs.Stands.{Standing, Stands}
use Rattle.fuse_keeper.specs.KeeperState.{KeeperState, StandsFor}
use Rattle.fuse_session.specs.declared.counts.SessionCounts.{SessionCounts}
use Rattle.fuse_session.specs.declared.ended.Ended.{Ended}
use Rattle.fuse_session.specs.declared.ended.Ended.TheVariants as session
use Rattle.fuse_session.specs.Port.{PortState, fresh}
use Rattle.fuse_session.specs.Batches.{timed_in}
use Rattle.fuse_session.specs.Processed.{Timed, bytes_of, kept_in, GoesOn, EndsLast, StartsZero, moments_in}
use Rattle.fuse_session.specs.Ended.{IsIntact}
use Rattle.fuse_session.specs.Settling.{replies, MayCome}
use Rattle.fuse_session.specs.Counting.{counted}
use Rattle.fuse_session.specs.Deeds.{Deeds, Hears}
use Rattle.fuse_session.specs.Passage.{Passage, passage, passage_for}
use Rattle.fuse_session.specs.Session.{Session}
use Rattle.fuse_session.specs.declared.ended.Served.{Served}
use Rattle.fuse_session.specs.Exchange.{HoldsAt}
use Rattle.fuse_session.specs.Serving.{Waiting, TookTurn, Whole, Run, nothing_waits}
use Rattle.fuse_session.specs.Ends.{EndsAs, counts_at}
use Rattle.fuse_commands.specs.declared.ending.Ending.{Ending}
use Rattle.fuse_commands.specs.declared.ending.Ending.TheVariants.{Done, ZeroUnique}
use Rattle.fuse_commands.specs.Endings.{session_ending, stream_ending, store_ending, status_of, IsOfStream}
use Rattle.fuse_commands.specs.Replaying.{Parts, Processed, EndsAt, EndsFaulty, Replayed, Faulted, StandsForPrefix, AsksForGroups}
use Rattle.fuse_commands.specs.inner.Sending.{SendsAnswers}
use Rattle.fuse_commands.proofs.Rests.{came, cut_came, all_came, bad_came}
use Rattle.fuse_commands.proofs.Unsettled.{IsTaken, all_taken, nothing_settled, none_again, asks_for}

-- a session over the stream of an input
abbrev over : {M : Model} → KeeperState M → KeeperState M → (Deeds → Type 0) → List ℕ → PortState → Passage M
over k k' did input port = passage k k' (fresh (Some input) (Some []) false) port did

-- each moment that the clock gave is this one
abbrev pub IsFixed : (Deeds → Type 0) → Moment → Type 0
IsFixed did moment = (d : Deeds) → did d → AllByRecursion (λ t. t ≡ moment) d.moments

-- the port at the end of the session
pub record PortEnds (port : PortState) (sent : List ℕ) : Type 0 where
  pub gone : port.gone ≡ []
  pub sent_is : port.sent ≡ Some sent

abbrev at_standing : {M : Model} → M.State → History → List ℕ → Standing M
at_standing s h t = record { state = s; history = h; settled = t }

abbrev parts_in : List ℕ → List Timed → List (List ℕ) → Parts
parts_in input timed others = record { timed = timed; others = others; rest = (cut input).1 }

sent_is : (o : Option (List ℕ)) (sent all : List ℕ) → o ≡ Some sent → Appends (Some []) o all → sent ≡ all
sent_is None sent all is more = absurd (cc is)
sent_is (Some xs) sent all is more = let same : xs ≡ sent = cc is in sym same ∙ more

each_prefix : (P : Moment → Type 0) (xs ys : List Moment) → AllByRecursion P (xs ++ ys) → AllByRecursion P xs
each_prefix P [] ys all = tt
each_prefix P (x ∷ xs) ys all = (all.0, each_prefix P xs ys all.1)

-- processed messages
record Settled {M : Model} (k' : KeeperState M) (at : Standing M) (timed : List Timed) (going : Bool) (sent : List ℕ) (counts : SessionCounts) : Type 0 where
  pub goes : going ≡ true → GoesOn M at.state at.history timed
  pub last : going ≡ false → EndsLast M at.state at.history timed
  pub processed : Processed at timed (HoldsAt k') (λ answers. SendsAnswers sent counts answers (counted M.service at.history timed))

settled : {M : Model} (k k' : KeeperState M) (did : Deeds → Type 0) (input sent : List ℕ) (port : PortState) (pending' : List ℕ)
    (prefix : List (List ℕ)) (going : Bool) (counts : SessionCounts) → PortEnds port sent
    → (turned : TookTurn (over k k' did input port) [] pending' prefix going counts) → k'.is_honest
    → (s : M.State) (h : History) (t : List ℕ) → StandsFor k s h t → AllByRecursion (MayCome M.service t) (bytes_of turned.work.timed)
    → Settled k' (at_standing s h t) turned.work.timed going sent counts
settled {M} k k' did input sent port pending' prefix going counts port_ends turned honest s h t so may =
    let r = turned.replied in
    let timed = turned.work.timed in
    let marks = turned.work.marks in
    let taken = all_taken (Some []) marks r.places (sym r.gone ∙ port_ends.gone) r.placed in
    let a = turned.all honest s h t so (λ i there. absurd (cc there)) (none_again M.service t (bytes_of timed) marks taken may) in
    record {
      goes = a.goes;
      last = a.last;
      processed = record {
        works = a.works;
        stood = subst (StandsFor k' s (grown h (kept_in M.service timed))) (nothing_settled M.service t (bytes_of timed) marks taken) a.stands;
        gave = (
          sent_is port.sent sent (joined (replies marks) ++ []) port_ends.sent_is r.sent ∙ append-nil (joined (replies marks)) ∙ ap joined a.sent,
          a.counts_are,
        );
      };
    }

-- ---- each end

-- what is said with the service that the keeper gives, where that is the model's
pub at_model : {M : Model} (k k' : KeeperState M) (p q : PortState) (did : Deeds → Type 0) (turns : ℕ) (served : Served) → k.service ≡ M.service
    → Session (passage_for k.service k k' p q did) turns served → Session (passage k k' p q did) turns served
at_model k k' p q did turns served is session = subst (λ V. Session (passage_for V k k' p q did) turns served) is session

of_store : (f : StoreFault) → IsOfStream (store_ending f) → ⊥
of_store store.Memory h = omega (arith, h)
of_store (store.Sql e) h = omega (arith, h)
of_store store.NotAStore h = omega (arith, h)
of_store (store.Version n) h = omega (arith, h)
of_store store.Damaged h = omega (arith, h)
of_store store.Guest h = omega (arith, h)

-- the counts of a stream that was served to its end or first fault
pub counts_shown : (e : Ended) (counts n : SessionCounts) (shown : Option SessionCounts) (unheard : Bool) → IsOfStream (session_ending e)
    → shown ≡ counts_at unheard e counts
    → IfSome shown (λ c. n ≡ c) → n ≡ counts
counts_shown session.End counts n shown unheard of_stream is so = subst (λ o. IfSome o (λ c. n ≡ c)) is so
counts_shown session.Destroyed counts n shown unheard of_stream is so = subst (λ o. IfSome o (λ c. n ≡ c)) is so
counts_shown session.Turns counts n shown unheard of_stream is so = subst (λ o. IfSome o (λ c. n ≡ c)) is so
counts_shown (session.Frame f) counts n shown unheard of_stream is so = subst (λ o. IfSome o (λ c. n ≡ c)) is so
counts_shown (session.ZeroUnique at) counts n shown unheard of_stream is so = subst (λ o. IfSome o (λ c. n ≡ c)) is so
counts_shown session.PortFailed counts n shown unheard of_stream is so = absurd (omega (arith, of_stream))
counts_shown (session.Store f) counts n shown unheard of_stream is so = absurd (of_store f of_stream)
counts_shown session.Memory counts n shown unheard of_stream is so = absurd (omega (arith, of_stream))

-- these messages of the input were processed
processed_so : {M : Model} (k k' : KeeperState M) (moment : Moment) (did : Deeds → Type 0) (input sent : List ℕ) (port : PortState)
    (received pending' : List ℕ) (prefix others : List (List ℕ)) (going : Bool) (counts : SessionCounts) (ending : Ending)
    → IsFixed did moment → PortEnds port sent → (cut input).0 ≡ prefix ++ others
    → (turned : TookTurn (over k k' (Hears did received) input port) [] pending' prefix going counts)
    → ((at : Standing M) → (going ≡ true → GoesOn M at.state at.history turned.work.timed) → (going ≡ false → EndsLast M at.state at.history turned.work.timed)
    → EndsAt at (parts_in input turned.work.timed others) ending)
    → Replayed k k' moment input ending (SendsAnswers sent counts)
processed_so {M} k k' moment did input sent port received pending' prefix others going counts ending fixed port_ends parts turned ends =
    let timed = turned.work.timed in
    let here = settled k k' (Hears did received) input sent port pending' prefix going counts port_ends turned in
    record {
      parts = parts_in input timed others;
      are = record {
        messages = parts ∙ ap (λ ms. ms ++ others) turned.bytes;
        rest = refl;
        moments = subst (AllByRecursion (λ t. t ≡ moment)) turned.moments (fixed turned.work.deeds turned.work.done.0);
      };
      processed = λ honest s h t so may. (here honest s h t so may).processed;
      ends = λ honest s h t so may.
          let d = here honest s h t so may in
          ends (at_standing s h t) d.goes d.last;
    }

-- all messages were processed
rested : {M : Model} (k k' : KeeperState M) (moment : Moment) (did : Deeds → Type 0) (input sent : List ℕ) (port : PortState)
    (after : Waiting) (counts : SessionCounts) (ending : Ending) → IsFixed did moment → PortEnds port sent
    → (w : Whole (over k k' did input port) nothing_waits after counts) → (cut input).0 ≡ (cut w.received).0
    → ((at : Standing M) (timed : List Timed) → GoesOn M at.state at.history timed → after.at ≡ length (joined (bytes_of timed))
    → EndsAt at (parts_in input timed []) ending)
    → Replayed k k' moment input ending (SendsAnswers sent counts)
rested k k' moment did input sent port after counts ending fixed port_ends w same ends =
    let place : after.at ≡ length (joined (bytes_of w.turned.work.timed)) = omega (arith, w.at, ap (λ ms. length (joined ms)) w.turned.bytes) in
    processed_so k k' moment did input sent port w.received after.pending (cut w.received).0 [] true counts ending fixed port_ends
    (same ∙ sym (append-nil (cut w.received).0)) w.turned (λ at goes last. ends at w.turned.work.timed (goes refl) place)

zero_more : (ms more : List (List ℕ)) → StartsZero ms → StartsZero (ms ++ more)
zero_more [] more zero = absurd zero
zero_more (m ∷ ms) more zero = zero

-- some were
halted : CutJoins → {M : Model} (k k' : KeeperState M) (moment : Moment) (did : Deeds → Type 0) (input sent : List ℕ) (port : PortState)
    (received pending' : List ℕ) (n : ℕ) (going : Bool) (counts : SessionCounts) (place : ℕ) (ending : Ending) → IsFixed did moment → PortEnds port sent
    → Consumes (Some input) port.coming received → place ≡ 0 + length (joined (take n (cut received).0))
    → TookTurn (over k k' (Hears did received) input port) [] pending' (take n (cut received).0) going counts
    → ((at : Standing M) (timed : List Timed) (more : List (List ℕ)) → (going ≡ true → GoesOn M at.state at.history timed)
    → (going ≡ false → EndsLast M at.state at.history timed) → place ≡ length (joined (bytes_of timed))
    → EndsAt at (parts_in input timed (drop n (cut received).0 ++ more)) ending)
    → Replayed k k' moment input ending (SendsAnswers sent counts)
halted joins k k' moment did input sent port received pending' n going counts place ending fixed port_ends came_from place_is turned ends =
    let c = came input port.coming received came_from in
    let more = (cut ((cut received).1 ++ c.later)).0 in
    let first = take n (cut received).0 in
    let others = drop n (cut received).0 in
    let here : place ≡ length (joined (bytes_of turned.work.timed)) = omega (arith, place_is, ap (λ ms. length (joined ms)) turned.bytes) in
    processed_so k k' moment did input sent port received pending' first (others ++ more) going counts ending fixed port_ends
    (ap (λ (y : List (List ℕ) × List ℕ). y.0) (cut_came joins input received c.later c.parts)
    ∙ ap (λ ms. ms ++ more) (sym (take-append-drop n (cut received).0)) ∙ append_assoc first others more)
    turned (λ at goes last. ends at turned.work.timed more goes last here)

faulty : {M : Model} (f : FrameFault) (at : Standing M) (parts : Parts) → IsOfStream (stream_ending f) → EndsFaulty at parts f
    → EndsAt at parts (stream_ending f)
faulty (frame.Short at len) standing parts of_stream e = e
faulty (frame.TooLong at len) standing parts of_stream e = e
faulty (frame.Cut at have need) standing parts of_stream e = e
faulty frame.Memory standing parts of_stream e = absurd (omega (arith, of_stream))

replayed : CutJoins → CutSteps → {M : Model} (k k' : KeeperState M) (moment : Moment) (did : Deeds → Type 0) (input sent : List ℕ) (port : PortState)
    (turns : ℕ) (e : Ended) (counts : SessionCounts) → IsFixed did moment → PortEnds port sent
    → EndsAs (over k k' did input port) nothing_waits turns e counts → IsOfStream (session_ending e)
    → Replayed k k' moment input (session_ending e) (SendsAnswers sent counts)
replayed joins steps k k' moment did input sent port turns session.End counts fixed port_ends e of_stream =
    let r = e.1 in
    let c = came input port.coming r.whole.received r.whole.came in
    let same = all_came input r.whole.received c.later c.parts (c.over e.0.0.1) in
    rested k k' moment did input sent port r.after counts Done fixed port_ends r.whole (ap (λ (x : List (List ℕ) × List ℕ). x.0) same)
    (λ at timed goes place. inr (goes, refl, ap (λ (x : List (List ℕ) × List ℕ). x.1) same ∙ sym r.whole.rest_is ∙ r.so))
replayed joins steps k k' moment did input sent port turns session.Destroyed counts fixed port_ends e of_stream =
    let x = e.2 in
    halted joins k k' moment did input sent port x.received x.pending' e.0 false counts e.1 Done fixed port_ends x.came x.at x.processed.turned
    (λ at timed more goes last place. inl (last refl))
replayed joins steps k k' moment did input sent port turns (session.Frame f) counts fixed port_ends r of_stream =
    let c = came input port.coming r.whole.received r.whole.came in
    elim r.so [
      | inl length_bad ↦
          let b = bad_came joins steps input r.whole.received c.later r.after.bytes r.after.at f c.parts r.whole.rest_is length_bad in
          rested k k' moment did input sent port r.after counts (stream_ending f) fixed port_ends r.whole b.0
          (λ at timed goes place. faulty f at (parts_in input timed []) of_stream (goes, refl, subst (λ n. end_fault n (cut input).1 ≡ Some f) place b.1))
      | inr cut_off ↦
          let same = all_came input r.whole.received c.later c.parts (c.over cut_off.0.0.1) in
          let fault : end_fault r.after.at (cut input).1 ≡ Some f =
          subst (λ w. end_fault r.after.at w ≡ Some f) (r.whole.rest_is ∙ sym (ap (λ (x : List (List ℕ) × List ℕ). x.1) same)) cut_off.2 in
          rested k k' moment did input sent port r.after counts (stream_ending f) fixed port_ends r.whole (ap (λ (x : List (List ℕ) × List ℕ). x.0) same)
          (λ at timed goes place. faulty f at (parts_in input timed []) of_stream (goes, refl, subst (λ n. end_fault n (cut input).1 ≡ Some f) place fault))
    ]
replayed joins steps k k' moment did input sent port turns (session.ZeroUnique at) counts fixed port_ends e of_stream =
    let x = e.1 in
    halted joins k k' moment did input sent port x.received x.pending' e.0 true counts at (ZeroUnique at) fixed port_ends x.came x.at x.processed.turned
    (λ standing timed more goes last place. (goes refl, zero_more _ more (x.processed.zero refl), place))
replayed joins steps k k' moment did input sent port turns session.Turns counts fixed port_ends e of_stream = absurd (omega (arith, of_stream))
replayed joins steps k k' moment did input sent port turns session.PortFailed counts fixed port_ends e of_stream = absurd (omega (arith, of_stream))
replayed joins steps k k' moment did input sent port turns (session.Store f) counts fixed port_ends e of_stream = absurd (of_store f of_stream)
replayed joins steps k k' moment did input sent port turns session.Memory counts fixed port_ends e of_stream = absurd (omega (arith, of_stream))

-- the same for this port and this ending
pub session_replayed : CutJoins → CutSteps → {M : Model} (k k' : KeeperState M) (moment : Moment) (did : Deeds → Type 0) (input sent : List ℕ)
    (old port : PortState) (turns : ℕ) (e : Ended) (counts : SessionCounts) (ending : Ending) → IsFixed did moment → PortEnds port sent
    → ending ≡ session_ending e → old ≡ fresh (Some input) (Some []) false → EndsAs (passage k k' old port did) nothing_waits turns e counts
    → IsOfStream ending
    → Replayed k k' moment input ending (SendsAnswers sent counts)
session_replayed joins steps k k' moment did input sent old port turns e counts ending fixed port_ends is start ends of_stream =
    subst (λ x. Replayed k k' moment input x (SendsAnswers sent counts)) (sym is)
    (replayed joins steps k k' moment did input sent port turns e counts fixed port_ends
    (subst (λ x. EndsAs (passage k k' x port did) nothing_waits turns e counts) start ends) (subst IsOfStream is of_stream))

-- ---- a fault of the store

faulted : CutJoins → {M : Model} (k k' : KeeperState M) (fault : StoreFault) (moment : Moment) (did : Deeds → Type 0) (input sent : List ℕ) (port : PortState)
    → IsFixed did moment → PortEnds port sent → (k'.is_clean → k'.is_honest)
    → Run (over k k' did input port) nothing_waits (session.Store fault)
    → Faulted k k' moment input (store_ending fault) (λ answers. sent ≡ joined answers)
faulted joins {M} k k' fault moment did input sent port fixed port_ends clean_honest run =
    let b = run.broken in
    let timed = b.work.timed in
    let marks = b.work.marks in
    let exactly = b.exactly refl in
    let r = b.replied in
    let c = came input port.coming run.received run.came in
    let more = (cut ((cut run.received).1 ++ c.later)).0 in
    let taken = all_taken (Some []) marks r.places (sym r.gone ∙ port_ends.gone) r.placed in
    let sent_so =
    sent_is port.sent sent (joined (replies marks) ++ b.part) port_ends.sent_is r.sent ∙ ap (λ (x : List ℕ). joined (replies marks) ++ x) exactly.no_part
    ∙ append-nil (joined (replies marks)) in
    record {
      fault = fault;
      ending_is = refl;
      parts = parts_in input timed (b.others ++ more);
      are = record {
        messages = ap (λ (x : List (List ℕ) × List ℕ). x.0) (cut_came joins input run.received c.later c.parts) ∙ ap (λ ms. ms ++ more) b.prefix
            ∙ append_assoc (bytes_of timed) b.others more;
        rest = refl;
        moments =
            each_prefix (λ t. t ≡ moment) (moments_in M.service timed) b.moments.0
            (subst (AllByRecursion (λ t. t ≡ moment)) b.moments.1 (fixed b.work.deeds b.work.done.0));
      };
      processed = λ clean s h t so may.
          let l = exactly.exact (clean_honest clean) s h t so (λ i there. absurd (cc there)) (none_again M.service t (bytes_of timed) marks taken may) in
          record {
            prefix = l.worked;
            unprocessed = l.unprocessed;
            parts = l.parts;
            processed = record {
              works = l.works;
              stood = subst (StandsFor k' s (grown h (kept_in M.service l.worked))) (nothing_settled M.service t (bytes_of l.worked) marks taken) (l.stands refl clean).0;
              gave = sent_so ∙ ap joined l.sent;
            };
          };
      may = λ clean s h t so may.
          let l = exactly.exact (clean_honest clean) s h t so (λ i there. absurd (cc there)) (none_again M.service t (bytes_of timed) marks taken may) in
          (l.stands refl clean).1;
    }

-- status 3 comes by a fault of the store alone
store_faulted : CutJoins → {M : Model} (k k' : KeeperState M) (moment : Moment) (did : Deeds → Type 0) (input sent : List ℕ) (port : PortState) (e : Ended)
    → IsFixed did moment → PortEnds port sent → (k'.is_clean → k'.is_honest) → status_of (session_ending e) ≡ 3
    → Run (over k k' did input port) nothing_waits e
    → Faulted k k' moment input (session_ending e) (λ answers. sent ≡ joined answers)
store_faulted joins k k' moment did input sent port (session.Store f) fixed port_ends clean_honest is run =
    faulted joins k k' f moment did input sent port fixed port_ends clean_honest run
store_faulted joins k k' moment did input sent port session.End fixed port_ends clean_honest is run = absurd (omega (arith, is))
store_faulted joins k k' moment did input sent port session.Destroyed fixed port_ends clean_honest is run = absurd (omega (arith, is))
store_faulted joins k k' moment did input sent port session.Turns fixed port_ends clean_honest is run = absurd (omega (arith, is))
store_faulted joins k k' moment did input sent port (session.Frame (frame.Short at len)) fixed port_ends clean_honest is run = absurd (omega (arith, is))
store_faulted joins k k' moment did input sent port (session.Frame (frame.TooLong at len)) fixed port_ends clean_honest is run = absurd (omega (arith, is))
store_faulted joins k k' moment did input sent port (session.Frame (frame.Cut at have need)) fixed port_ends clean_honest is run = absurd (omega (arith, is))
store_faulted joins k k' moment did input sent port (session.Frame frame.Memory) fixed port_ends clean_honest is run = absurd (omega (arith, is))
store_faulted joins k k' moment did input sent port (session.ZeroUnique at) fixed port_ends clean_honest is run = absurd (omega (arith, is))
store_faulted joins k k' moment did input sent port session.PortFailed fixed port_ends clean_honest is run = absurd (omega (arith, is))
store_faulted joins k k' moment did input sent port session.Memory fixed port_ends clean_honest is run = absurd (omega (arith, is))

pub session_faulted : CutJoins → {M : Model} (k k' : KeeperState M) (moment : Moment) (did : Deeds → Type 0) (input sent : List ℕ) (old port : PortState)
    (e : Ended) (ending : Ending) → IsFixed did moment → PortEnds port sent → (k'.is_clean → k'.is_honest)
    → ending ≡ session_ending e → old ≡ fresh (Some input) (Some []) false → Run (passage k k' old port did) nothing_waits e
    → status_of ending ≡ 3
    → Faulted k k' moment input ending (λ answers. sent ≡ joined answers)
session_faulted joins k k' moment did input sent old port e ending fixed port_ends clean_honest is start run three =
    subst (λ x. Faulted k k' moment input x (λ answers. sent ≡ joined answers)) (sym is)
    (store_faulted joins k k' moment did input sent port e fixed port_ends clean_honest (sym (ap status_of is) ∙ three)
    (subst (λ x. Run (passage k k' x port did) nothing_waits e) start run))

-- ---- however it ended

kept : CutJoins → {M : Model} (k k' : KeeperState M) (e : Ended) (moment : Moment) (did : Deeds → Type 0) (performed : List Performance → Type 0)
    (input : List ℕ) (port : PortState) → IsFixed did moment → ((d : Deeds) → did d → performed d.asked) → port.gone ≡ [] → (k'.is_clean → k'.is_honest)
    → Run (over k k' did input port) nothing_waits e → StandsForPrefix k k' performed moment input
kept joins {M} k k' e moment did performed input port fixed asks gone clean_honest run =
    let b = run.broken in
    let timed = b.work.timed in
    let marks = b.work.marks in
    let c = came input port.coming run.received run.came in
    let more = (cut ((cut run.received).1 ++ c.later)).0 in
    let taken = all_taken (Some []) marks b.replied.places (sym b.replied.gone ∙ gone) b.replied.placed in
    record {
      parts = parts_in input timed (b.others ++ more);
      are = record {
        messages = ap (λ (x : List (List ℕ) × List ℕ). x.0) (cut_came joins input run.received c.later c.parts) ∙ ap (λ ms. ms ++ more) b.prefix
            ∙ append_assoc (bytes_of timed) b.others more;
        rest = refl;
        moments =
            each_prefix (λ t. t ≡ moment) (moments_in M.service timed) b.moments.0
            (subst (AllByRecursion (λ t. t ≡ moment)) b.moments.1 (fixed b.work.deeds b.work.done.0));
      };
      asked = b.work.deeds.asked;
      was_asked = asks b.work.deeds b.work.done.0;
      asks =
          subst (λ (x : List Timed). AsksForGroups M.service x b.work.deeds.asked) (sym b.work.are.messages)
          (subst (λ (a : List Performance). AsksForGroups M.service (timed_in b.work.batches) a) (sym b.work.asked)
          (asks_for M.service b.work.batches (subst (AllByRecursion IsTaken) b.work.are.answers taken)));
      stands = λ clean s h t so may.
          let intact : IsIntact k' e = record { honest = clean_honest clean; clean = λ _. clean } in
          let l = b.life intact s h t so (λ i there. absurd (cc there)) (none_again M.service t (bytes_of timed) marks taken may) in
          record {
            prefix = l.worked;
            unprocessed = l.unprocessed;
            parts = l.parts;
            processed = record {
              works = l.works;
              stood = subst (StandsFor k' s (grown h (kept_in M.service l.worked))) (nothing_settled M.service t (bytes_of l.worked) marks taken) l.stands;
              gave = tt;
            };
          };
      crash = λ honest firm s h t so may.
          let left = b.crash honest firm s h t so (λ i there. absurd (cc there)) (none_again M.service t (bytes_of timed) marks taken may) in (
            left.0,
            λ x r may_leave.
                let l = left.1 x r may_leave in
                record {
                  prefix = l.worked;
                  unprocessed = l.unprocessed;
                  parts = l.parts;
                  processed = record {
                    works = l.works;
                    stood = subst (Stands M x r s (grown h (kept_in M.service l.worked))) (nothing_settled M.service t (bytes_of l.worked) marks taken) l.stands;
                    gave = tt;
                  };
                },
          );
    }

pub session_kept : CutJoins → {M : Model} (k k' : KeeperState M) (e : Ended) (moment : Moment) (did : Deeds → Type 0) (performed : List Performance → Type 0)
    (input : List ℕ) (old port : PortState) → IsFixed did moment → ((d : Deeds) → did d → performed d.asked) → port.gone ≡ []
    → (k'.is_clean → k'.is_honest) → old ≡ fresh (Some input) (Some []) false → Run (passage k k' old port did) nothing_waits e
    → StandsForPrefix k k' performed moment input
session_kept joins k k' e moment did performed input old port fixed asks gone clean_honest start run =
    kept joins k k' e moment did performed input port fixed asks gone clean_honest
    (subst (λ x. Run (passage k k' x port did) nothing_waits e) start run)
