-- What is sent for messages, one after another.
use Rattle.std.proofs.Common.{◌≡◌, inl, inr, ℕ, true, false, List, [], ◌∷◌, ◌++◌, length, map, Some, refl, sym, ap, subst, ◌∙◌}
use Rattle.std.proofs.Common.{arith}
use Rattle.std.proofs.lemmas.List.Concat.{flat_map-append}
use Rattle.std.proofs.lemmas.List.Sums.{fold-append}
use Rattle.fuse_request.specs.Opcodes.{Service}
use Rattle.fuse_answer.specs.Said.{Said}
use Rattle.fuse_request.specs.declared.class.Class.{Class}
use Rattle.fuse_request.specs.declared.class.Class.TheVariants.{Silent, Bare, Kept, Seen}
use Rattle.fuse_request.specs.Classes.{class_for, SeenByClass}
use Rattle.fuse_keeper.specs.Model.{Model}
use Rattle.fuse_keeper.specs.History.{Entry, History, answer_to, has, after, add, said, grown, unless_seen, kept_of, answer_if}
use Rattle.fuse_keeper.specs.History.{answers_over, HistoriesGrow}
use Rattle.fuse_session.specs.Processed.{Timed, bytes_of, kept_in, entries_at, entry_if, timed_entry, message_id, unique_of, answered, answers_to, own_answers, answer_by, performed_if, performed_of, GoesOn}
use Rattle.fuse_session.specs.Processed.{Works}
use Rattle.fuse_session.specs.Settling.{Mark, replies}
use Rattle.fuse_session.specs.inner.Group.{head_wire, left_by, wires}
use Rattle.fuse_answer.specs.Wire.{wire}

pub kept_in-append : (V : Service) → (xs ys : List Timed) → kept_in V (xs ++ ys) ≡ kept_in V xs ++ kept_in V ys
kept_in-append V xs ys = flat_map-append (entries_at V) xs ys

pub grown-append : (h : History) (xs ys : List Entry) → grown h (xs ++ ys) ≡ grown (grown h xs) ys
grown-append h xs ys = fold-append add h xs ys

pub grown_kept : (V : Service) → (h : History) (xs ys : List Timed) → grown h (kept_in V (xs ++ ys)) ≡ grown (grown h (kept_in V xs)) (kept_in V ys)
grown_kept V h xs ys = ap (grown h) (kept_in-append V xs ys) ∙ grown-append h (kept_in V xs) (kept_in V ys)

-- ---- the kept ones of those that are performed

kept_of_one : SeenByClass → (V : Service) (t : Timed) (rest : List Entry) (class : Class) → class_for V t.bytes ≡ class
    → kept_of V (performed_if class (timed_entry t) ++ rest) ≡ entry_if class (timed_entry t) ++ kept_of V rest
kept_of_one sees V t rest Silent is = refl
kept_of_one sees V t rest (Bare errno) is = refl
kept_of_one sees V t rest Kept is = ap (λ b. unless_seen b (timed_entry t) ++ kept_of V rest) (sees V t.bytes false is)
kept_of_one sees V t rest Seen is = ap (λ b. unless_seen b (timed_entry t) ++ kept_of V rest) (sees V t.bytes true is)

pub kept_performed : SeenByClass → (V : Service) (ts : List Timed) → kept_of V (performed_of V ts) ≡ kept_in V ts
kept_performed sees V [] = refl
kept_performed sees V (t ∷ ts) =
    kept_of_one sees V t (performed_of V ts) (class_for V t.bytes) refl ∙ ap (λ r. entries_at V t ++ r) (kept_performed sees V ts)

pub performed_of-append : (V : Service) → (xs ys : List Timed) → performed_of V (xs ++ ys) ≡ performed_of V xs ++ performed_of V ys
performed_of-append V xs ys = flat_map-append (λ t. performed_if (class_for V t.bytes) (timed_entry t)) xs ys

-- ---- the answers

-- each in the history right after its message
abbrev pub outs : (M : Model) → M.State → History → List Timed → List (List ℕ)
outs M s h [] = []
outs M s h (t ∷ ts) = answered M s (grown h (entries_at M.service t)) h t ∷ outs M s (grown h (entries_at M.service t)) ts

kept_there : (M : Model) → HistoriesGrow M → (h : History) (t : Timed) (class : Class) → class ≡ Kept
    → has (grown h (entry_if class (timed_entry t))) (message_id t.bytes) ≡ true
kept_there M grows h t Silent kept = absurd (cc kept)
kept_there M grows h t (Bare errno) kept = absurd (cc kept)
kept_there M grows h t Kept kept = grows.added h (timed_entry t)
kept_there M grows h t Seen kept = absurd (cc kept)

answer_stays : (M : Model) → HistoriesGrow M → (s : M.State) (g : History) (es : List Entry) (id : ℕ) (a : Said) (unique : ℕ) (class : Class)
    → (class ≡ Kept → has g id ≡ true)
    → answer_by class (said M s (grown g es) id) a unique ≡ answer_by class (said M s g id) a unique
answer_stays M grows s g es id a unique Silent there = refl
answer_stays M grows s g es id a unique (Bare errno) there = refl
answer_stays M grows s g es id a unique Kept there = ap (λ o. answer_by Kept o a unique) (grows.stays s g es id (there refl))
answer_stays M grows s g es id a unique Seen there = refl

pub answered_stays : (M : Model) → HistoriesGrow M → (s : M.State) (h : History) (t : Timed) (es : List Entry)
    → answered M s (grown (grown h (entries_at M.service t)) es) h t ≡ answered M s (grown h (entries_at M.service t)) h t
answered_stays M grows s h t es = answer_stays M grows s (grown h (entries_at M.service t)) es (message_id t.bytes) (answer_to M (after M s h) (timed_entry t))
    (unique_of t.bytes) (class_for M.service t.bytes) (kept_there M grows h t (class_for M.service t.bytes))

-- later entries change no answer
pub answers_stay : (M : Model) → HistoriesGrow M → (s : M.State) (h : History) (ts : List Timed) (es : List Entry)
    → answers_to M s (grown (grown h (kept_in M.service ts)) es) h ts ≡ outs M s h ts
answers_stay M grows s h [] es = refl
answers_stay M grows s h (t ∷ ts) es =
    let g = grown h (entries_at M.service t) in
    let split = ap (λ x. grown x es) (grown-append h (entries_at M.service t) (kept_in M.service ts)) in
    ap (λ x. answered M s x h t ∷ answers_to M s x g ts) split
    ∙ ap (λ x. answered M s x h t ∷ answers_to M s (grown (grown g (kept_in M.service ts)) es) g ts) (sym (grown-append g (kept_in M.service ts) es))
    ∙ ap (λ r. r ∷ answers_to M s (grown (grown g (kept_in M.service ts)) es) g ts) (answered_stays M grows s h t (kept_in M.service ts ++ es))
    ∙ ap (λ r. answered M s g h t ∷ r) (answers_stay M grows s g ts es)

pub answers_are_outs : (M : Model) → HistoriesGrow M → (s : M.State) (h : History) (ts : List Timed) → own_answers M s h ts ≡ outs M s h ts
answers_are_outs M grows s h ts = answers_stay M grows s h ts []

outs-append : (M : Model) → (s : M.State) (h : History) (xs ys : List Timed) → outs M s h (xs ++ ys) ≡ outs M s h xs ++ outs M s (grown h (kept_in M.service xs)) ys
outs-append M s h [] ys = refl
outs-append M s h (x ∷ xs) ys =
    let g = grown h (entries_at M.service x) in
    ap (λ r. answered M s g h x ∷ r) (outs-append M s g xs ys)
    ∙ ap (λ f. answered M s g h x ∷ (outs M s g xs ++ outs M s f ys)) (sym (grown-append h (entries_at M.service x) (kept_in M.service xs)))

prefix_none : (xs ys : List Timed) → xs ++ ys ≡ [] → xs ≡ []
prefix_none [] ys is = refl
prefix_none (x ∷ xs) ys is = absurd (cc is)

-- the first answers are those of the first messages
pub record Prefix (M : Model) (s : M.State) (h : History) (ts : List Timed) (ms : List Mark) : Type 0 where
  pub first : List Timed
  pub others : List Timed
  pub parts : ts ≡ first ++ others
  pub works : Works M s h first
  pub sent : replies ms ≡ outs M s h first

prefix_more : (M : Model) → (s : M.State) (h : History) (t : Timed) (ts : List Timed) (m : Mark) (ms : List Mark) → Works M s h (t ∷ ts)
    → answered M s (grown h (entries_at M.service t)) h t ≡ m.reply → Prefix M s (grown h (entries_at M.service t)) ts ms → Prefix M s h (t ∷ ts) (m ∷ ms)
prefix_more M s h t ts m ms works is f = record {
  first = t ∷ f.first;
  others = f.others;
  parts = ap (λ (x : List Timed). t ∷ x) f.parts;
  works = (works.0, elim works.1 [ inl none ↦ inl (prefix_none f.first f.others (sym f.parts ∙ none)) | inr goes ↦ inr goes ], f.works);
  sent = ap (λ x. x ∷ replies ms) (sym is) ∙ ap (λ x. answered M s (grown h (entries_at M.service t)) h t ∷ x) f.sent;
}

pub outs_prefix : (M : Model) → (s : M.State) (h : History) (ts : List Timed) (ms : List Mark) (later : List (List ℕ)) → Works M s h ts
    → outs M s h ts ≡ replies ms ++ later → Prefix M s h ts ms
outs_prefix M s h ts [] later works is = record { first = []; others = ts; parts = refl; works = tt; sent = refl }
outs_prefix M s h [] (m ∷ ms) later works is = absurd (cc is)
outs_prefix M s h (t ∷ ts) (m ∷ ms) later works is = prefix_more M s h t ts m ms works (cc is)
    (outs_prefix M s (grown h (entries_at M.service t)) ts ms later works.2 (cc is))

pub own_answers-append : (M : Model) → HistoriesGrow M → (s : M.State) (h : History) (xs ys : List Timed)
    → own_answers M s h (xs ++ ys) ≡ own_answers M s h xs ++ own_answers M s (grown h (kept_in M.service xs)) ys
own_answers-append M grows s h xs ys = answers_are_outs M grows s h (xs ++ ys) ∙ outs-append M s h xs ys
    ∙ ap (λ r. r ++ outs M s (grown h (kept_in M.service xs)) ys) (sym (answers_are_outs M grows s h xs))
    ∙ ap (λ r. own_answers M s h xs ++ r) (sym (answers_are_outs M grows s (grown h (kept_in M.service xs)) ys))

pub Works-append : (M : Model) → (s : M.State) (h : History) (xs ys : List Timed) → GoesOn M s h xs → Works M s (grown h (kept_in M.service xs)) ys
    → Works M s h (xs ++ ys)
Works-append M s h [] ys goes works = works
Works-append M s h (x ∷ xs) ys goes works = (
  goes.0,
  inr goes.1,
  Works-append M s (grown h (entries_at M.service x)) xs ys goes.2
      (subst (λ g. Works M s g ys) (grown-append h (entries_at M.service x) (kept_in M.service xs)) works),
)

pub GoesOn-append : (M : Model) → (s : M.State) (h : History) (xs ys : List Timed) → GoesOn M s h xs → GoesOn M s (grown h (kept_in M.service xs)) ys
    → GoesOn M s h (xs ++ ys)
GoesOn-append M s h [] ys goes more = more
GoesOn-append M s h (x ∷ xs) ys goes more =
    (goes.0, goes.1, GoesOn-append M s (grown h (entries_at M.service x)) xs ys goes.2 (subst (λ g. GoesOn M s g ys) (grown-append h (entries_at M.service x) (kept_in M.service xs)) more))

-- there is one for each message
pub length_outs : (M : Model) → (s : M.State) (h : History) (ts : List Timed) → length (outs M s h ts) ≡ length ts
length_outs M s h [] = refl
length_outs M s h (t ∷ ts) = omega (arith, length_outs M s (grown h (entries_at M.service t)) ts)

-- the answers to a group that begins with a kept entry, or with a seen one
pub answers_kept_first : (M : Model) → SeenByClass → (s : M.State) (h : History) (t : Timed) (es : List Entry) → class_for M.service t.bytes ≡ Kept
    → answers_over M s h (timed_entry t ∷ es) ≡ said M s (add h (timed_entry t)) (message_id t.bytes) ∷ answers_over M s (add h
    (timed_entry t)) es
answers_kept_first M sees s h t es is =
    ap (λ b. answer_if M b s h (timed_entry t) ∷ answers_over M s (grown h (unless_seen b (timed_entry t))) es)
    (sees M.service t.bytes false is)

pub answers_seen_first : (M : Model) → SeenByClass → (s : M.State) (h : History) (t : Timed) (es : List Entry) → class_for M.service t.bytes ≡ Seen
    → answers_over M s h (timed_entry t ∷ es) ≡ Some (answer_to M (after M s h) (timed_entry t)) ∷ answers_over M s h es
answers_seen_first M sees s h t es is =
    ap (λ b. answer_if M b s h (timed_entry t) ∷ answers_over M s (grown h (unless_seen b (timed_entry t))) es)
    (sees M.service t.bytes true is)

-- ---- what one list of answers sends is what is to be sent

pub head_is : (M : Model) → SeenByClass → (s : M.State) (h : History) (t : Timed) (es : List Entry) (class : Class) (list : List Said)
    → class_for M.service t.bytes ≡ class
    → map (λ a. Some a) list ≡ answers_over M s h (performed_if class (timed_entry t) ++ es)
    → (head_wire class (unique_of t.bytes) list ≡ answer_by class (said M s (grown h (entry_if class (timed_entry t))) (message_id t.bytes))
    (answer_to M (after M s h) (timed_entry t)) (unique_of t.bytes))
    × (map (λ a. Some a) (left_by class list) ≡ answers_over M s (grown h (entry_if class (timed_entry t))) es)
head_is M sees s h t es Silent list is are = (refl, are)
head_is M sees s h t es (Bare errno) list is are = (refl, are)
head_is M sees s h t es Kept [] is are = absurd (cc are)
head_is M sees s h t es Kept (a ∷ list) is are =
    let kept = are ∙ answers_kept_first M sees s h t es is in
    let here : Some a ≡ said M s (add h (timed_entry t)) (message_id t.bytes) = cc kept in
    (ap (λ o. answer_by Kept o (answer_to M (after M s h) (timed_entry t)) (unique_of t.bytes)) here, cc kept)
head_is M sees s h t es Seen [] is are = absurd (cc are)
head_is M sees s h t es Seen (a ∷ list) is are =
    let seen = are ∙ answers_seen_first M sees s h t es is in
    let here : a ≡ answer_to M (after M s h) (timed_entry t) = cc seen in
    (ap (λ (x : Said). wire x.errno x.body (unique_of t.bytes)) here, cc seen)

wires_outs : (M : Model) → SeenByClass → (s : M.State) (ts : List Timed) (h : History) (list : List Said) → map (λ a. Some a) list ≡ answers_over M s h (performed_of M.service ts)
    → wires M.service (bytes_of ts) list ≡ outs M s h ts
wires_outs M sees s [] h list are = refl
wires_outs M sees s (t ∷ ts) h list are =
    let p = head_is M sees s h t (performed_of M.service ts) (class_for M.service t.bytes) list refl are in
    ap (λ r. r ∷ wires M.service (bytes_of ts) (left_by (class_for M.service t.bytes) list)) p.0
    ∙ ap (λ r. answered M s (grown h (entries_at M.service t)) h t ∷ r) (wires_outs M sees s ts (grown h (entries_at M.service t)) (left_by (class_for M.service t.bytes) list) p.1)

pub wires_are : (M : Model) → HistoriesGrow M → SeenByClass → (s : M.State) (h : History) (ts : List Timed) (list : List Said)
    → map (λ a. Some a) list ≡ answers_over M s h (performed_of M.service ts) → wires M.service (bytes_of ts) list ≡ own_answers M s h ts
wires_are M grows sees s h ts list are = wires_outs M sees s ts h list are ∙ sym (answers_are_outs M grows s h ts)
