-- Lives, one after another, and how a run of a server is one.
use Rattle.std.proofs.Common.{◌≡◌, ◌⊎◌, inl, inr, ℕ, List, [], ◌∷◌, ◌++◌, refl, sym, ap, subst, ◌∙◌, append_assoc}
use Rattle.std.proofs.lemmas.List.{map-append}
use Rattle.std.proofs.lemmas.List.Concat.{flat_map-append}
use Rattle.fuse_wire.specs.declared.moment.Moment.{Moment}
use Rattle.fuse_request.specs.Classes.{class_for}
use Rattle.fuse_request.specs.Opcodes.{Service}
use Rattle.fuse_request.specs.Stream.{joined}
use Rattle.fuse_keeper.specs.Model.{Model}
use Rattle.fuse_keeper.specs.History.{Entry, History, Distinct, grown, HistoriesGrow}
use Rattle.fuse_keeper.specs.Stands.{Standing, StandsAt}
use Rattle.fuse_session.specs.Batches.{TimedFirst}
use Rattle.fuse_session.specs.Passage.{Passage}
use Rattle.fuse_session.specs.declared.ended.Ended.{Ended}
use Rattle.fuse_session.specs.Exchange.{Lived, HoldsAt}
use Rattle.fuse_session.specs.Serving.{Run, nothing_waits, exchange}
use Rattle.fuse_session.specs.Settling.{replies, settled_in}
use Rattle.fuse_session.specs.Processed.{Timed, bytes_of, kept_in, entries_at, answered, answers_to, out}
use Rattle.fuse_session.specs.Processed.{moment_if, moments_in, AnswersStay}
use Rattle.fuse_sim.specs.Lives.{Lifetime, AreLives, after_lives, all_processed, AllSend, RanAsLife, IsLived}
use Rattle.fuse_sim.proofs.Driven.{grown-append}

-- ---- no request stands twice

Distinct-none : Distinct []
unfolding Distinct
Distinct-none = tt

-- ---- the last history

grown_kept : (V : Service) → (h : History) (xs ys : List Timed) → grown h (kept_in V (xs ++ ys)) ≡ grown (grown h (kept_in V xs)) (kept_in V ys)
grown_kept V h xs ys = ap (grown h) (flat_map-append (entries_at V) xs ys) ∙ grown-append h (kept_in V xs) (kept_in V ys)

later : (V : Service) (h : History) (ls : List Lifetime) → after_lives V h ls ≡ grown h (kept_in V (all_processed ls))
later V h [] = refl
later V h (l ∷ ls) = later V (grown h (kept_in V l.worked)) ls ∙ sym (grown_kept V h l.worked (all_processed ls))

pub in_a_row : (V : Service) (ls : List Lifetime) → after_lives V [] ls ≡ grown [] (kept_in V (all_processed ls))
in_a_row V ls = later V [] ls

pub once_each : (M : Model) → HistoriesGrow M → (ls : List Lifetime) → Distinct (after_lives M.service [] ls)
once_each M grows ls = subst Distinct (sym (in_a_row M.service ls)) (grows.distinct [] (kept_in M.service (all_processed ls)) Distinct-none)

-- ---- later requests change no answer

-- what is answered where two histories agree on what follows each message
answers_stay : (M : Model) → AnswersStay M → (s : M.State) (h : History) (ts : List Timed) (es ds : List Entry)
    → answers_to M s (grown (grown h (kept_in M.service ts)) es) h ts ≡ answers_to M s (grown (grown h (kept_in M.service ts)) ds) h ts
answers_stay M stay s h [] es ds = refl
answers_stay M stay s h (t ∷ ts) es ds =
    let g = grown h (entries_at M.service t) in
    let end : List Entry → History = λ xs. grown (grown g (kept_in M.service ts)) xs in
    let place : (xs : List Entry) → grown (grown h (kept_in M.service (t ∷ ts))) xs ≡ end xs =
    λ xs. ap (λ x. grown x xs) (grown-append h (entries_at M.service t) (kept_in M.service ts)) in
    let first : (xs : List Entry) → answered M s (end xs) h t ≡ answered M s g h t =
    λ xs. ap (λ x. answered M s x h t) (sym (grown-append g (kept_in M.service ts) xs)) ∙ stay s h t (kept_in M.service ts ++ xs) in
    ap (λ x. answered M s x h t ∷ answers_to M s x g ts) (place es)
    ∙ ap (λ r. r ∷ answers_to M s (end es) g ts) (first es ∙ sym (first ds))
    ∙ ap (λ r. answered M s (end ds) h t ∷ r) (answers_stay M stay s g ts es ds)
    ∙ ap (λ x. answered M s x h t ∷ answers_to M s x g ts) (sym (place ds))

sends_by : (M : Model) → AnswersStay M → (s : M.State) (h : History) (ls : List Lifetime) → AreLives M s h ls → AllSend M s (after_lives M.service h ls) h ls
sends_by M stay s h [] lives = tt
sends_by M stay s h (l ∷ ls) lives =
    let g = grown h (kept_in M.service l.worked) in
    let same : joined (answers_to M s (after_lives M.service g ls) h l.worked) ≡ out M s h l.worked =
    ap (λ x. joined (answers_to M s x h l.worked)) (later M.service g ls)
    ∙ ap joined (answers_stay M stay s h l.worked (kept_in M.service (all_processed ls)) []) in
    ((lives.0.unsent, same ∙ lives.0.sends), sends_by M stay s g ls lives.1)

pub all_send : (M : Model) → AnswersStay M → (s : M.State) (ls : List Lifetime) → AreLives M s [] ls → AllSend M s (after_lives M.service [] ls) [] ls
all_send M stay s ls lives = sends_by M stay s [] ls lives

-- ---- a run of a server is a life

timed_prefix : (V : Service) (given : List Moment) (xs ys : List Timed) → TimedFirst V given (xs ++ ys) → TimedFirst V given xs
timed_prefix V given xs ys timed = (
  moments_in V ys ++ timed.0,
  timed.1 ∙ ap (λ (r : List Moment). r ++ timed.0) (flat_map-append (λ t. moment_if (class_for V t.bytes) t.moment) xs ys) ∙ append_assoc (moments_in V xs) (moments_in V ys) timed.0,
)

-- the bytes of the answers that are left begin with a part of the first one
begun_bytes : (later : List (List ℕ)) (answer part rest : List ℕ) → (answer ≡ []) ⊎ ((others : List (List ℕ)) × (later ≡ answer ∷ others))
    → answer ≡ part ++ rest → (unsent : List ℕ) × (joined later ≡ part ++ unsent)
begun_bytes later answer [] rest next sent = (joined later, refl)
begun_bytes later answer (x ∷ part) rest (inl none) sent = absurd (cc (none, sent))
begun_bytes later answer (x ∷ part) rest (inr next) sent = (
  rest ++ joined next.0,
  ap joined next.1 ∙ ap (λ (bytes : List ℕ). bytes ++ joined next.0) sent ∙ append_assoc (x ∷ part) rest (joined next.0),
)

pub run_lived : (M : Model) (Stood : Standing M → Type 0) (p : Passage M) (ended : Ended) (run : Run p nothing_waits ended) (s : M.State) (h : History) (t : List ℕ)
    → Lived M (record { state = s; history = h; settled = t }) (exchange run.broken.work) Stood run.broken.answer
    → RanAsLife run (record { state = s; history = h; settled = t }) Stood
run_lived M Stood p ended run s h t l =
    let b = run.broken in
    let w = b.work in
    let marks = w.marks in
    let sent = joined (replies marks) ++ b.part in
    let parts : bytes_of w.timed ++ b.others ≡ bytes_of l.worked ++ (bytes_of l.unprocessed ++ b.others) =
    ap (λ (x : List Timed). bytes_of x ++ b.others) l.parts ∙ ap (λ (x : List (List ℕ)). x ++ b.others) (map-append (λ (x : Timed). x.bytes) l.worked l.unprocessed)
    ∙ append_assoc (bytes_of l.worked) (bytes_of l.unprocessed) b.others in
    let split : out M s h l.worked ≡ joined (replies marks) ++ joined l.sent.later =
    ap joined l.sent.first ∙ flat_map-append (λ (m : List ℕ). m) (replies marks) l.sent.later in
    let more = begun_bytes l.sent.later b.answer b.part b.slices.unsent l.sent.next b.slices.sent in
    let begun : joined (replies marks) ++ joined l.sent.later ≡ sent ++ more.0 =
    ap (λ (x : List ℕ). joined (replies marks) ++ x) more.1 ∙ sym (append_assoc (joined (replies marks)) b.part more.0) in
    record {
      life = record { received = run.received; sent = sent; worked = l.worked; settled = settled_in M.service p.port.confirms (bytes_of l.worked) marks };
      lived = record { others = bytes_of l.unprocessed ++ b.others; prefix = b.prefix ∙ parts; works = l.works; unsent = more.0; sends = split ∙ begun };
      received = refl;
      unprocessed = l.unprocessed;
      parts = l.parts;
      moments = timed_prefix M.service w.deeds.moments l.worked l.unprocessed (subst (TimedFirst M.service w.deeds.moments) l.parts b.moments);
      sent = refl;
      up_to = l.sent;
      slices = b.slices;
      settled_are = refl;
      stands = l.stands;
    }

pub run_is_lived : (M : Model) (p : Passage M) (ended : Ended) (run : Run p nothing_waits ended) → IsLived p ended run
run_is_lived M p ended run =
    let b = run.broken in
    record {
      ends = λ intact s h t stands within none. run_lived M (HoldsAt p.keeper') p ended run s h t (b.life intact s h t stands within none);
      crashes = λ honest firm s h t stands within none.
          let left = b.crash honest firm s h t stands within none in (
            left.0,
            λ x r may. run_lived M (StandsAt M (record { rows = x; records = r })) p ended run s h t (left.1 x r may),
          );
    }
