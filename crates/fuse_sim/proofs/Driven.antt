-- Events, one after another.
use Rattle.std.proofs.Common.{◌≡◌, ℕ, false, List, [], ◌∷◌, ◌++◌, All, Option, option_map, refl, sym, ap, ◌∙◌}
use Rattle.std.proofs.lemmas.List.{map-append}
use Rattle.std.proofs.lemmas.List.Elements.{All-append, All-nil}
use Rattle.std.proofs.lemmas.List.Sums.{fold-append}
use Rattle.fuse_request.specs.Opcodes.{Service}
use Rattle.fuse_answer.specs.Said.{Said}
use Rattle.fuse_answer.specs.Wire.{wire}
use Rattle.fuse_request.specs.declared.class.Class.{Class}
use Rattle.fuse_request.specs.declared.class.Class.TheVariants.{Silent, Bare, Kept, Seen}
use Rattle.fuse_request.specs.Classes.{class_for}
use Rattle.fuse_wire.specs.declared.moment.Moment.{Moment}
use Rattle.fuse_keeper.specs.Model.{Model}
use Rattle.fuse_keeper.specs.History.{Entry, entry_id, History, HistoriesGrow, add, after, answer_to, grown, said, ids_in, Includes, IsUnsettled, is_in}
use Rattle.fuse_session.specs.Processed.{entry_if, message_entry, message_id, unique_of}
use Rattle.fuse_session.specs.Settling.{settles_if, comes_again, MayCome}
use Rattle.fuse_sim.specs.declared.event.Fate.{Fate}
use Rattle.fuse_sim.specs.declared.event.Fate.TheVariants.{Answered, AnswerLost, DiedBeforeCommit, DiedAfterCommit}
use Rattle.fuse_sim.specs.declared.event.Event.{Event}
use Rattle.fuse_sim.specs.Driving.{commits, commits_by, commits_in, committed, answer_in, outcome_of, outcomes_after, outcomes_of, is_taken, where_taken}
use Rattle.fuse_sim.specs.Driving.{settles, settled_by, NoneReused}
use Rattle.fuse_sim.specs.inner.HandedBy.{handed_on}
use Rattle.fuse_sim.proofs.Gathered.{commits-append, only_one}
use Rattle.fuse_sim.proofs.Ledgers.{includes_none, handed_settled}
use Rattle.fuse_sim.proofs.Settled.{includes_left, includes_right, includes_both, unsettled_too}

-- ---- histories

pub grown-append : (h : History) (xs ys : List Entry) → grown h (xs ++ ys) ≡ grown (grown h xs) ys
grown-append h xs ys = fold-append add h xs ys

pub committed-append : (V : Service) (h : History) (xs ys : List Event) → committed V h (xs ++ ys) ≡ committed V (committed V h xs) ys
committed-append V h xs ys = ap (grown h) (commits-append V xs ys) ∙ grown-append h (commits_in V xs) (commits_in V ys)

-- ---- outcomes

-- each in the history right after its event
abbrev pub gives : (M : Model) → M.State → History → List Event → List (Option (List ℕ))
gives M s h [] = []
gives M s h (e ∷ es) = outcome_of M s (grown h (commits M.service e)) h e ∷ gives M s (grown h (commits M.service e)) es

stays_by : (M : Model) → HistoriesGrow M → (s : M.State) (h : History) (fate : Fate) (class : Class) (bytes : List ℕ) (moment : Moment) (es : List Entry) (a : Said)
    → where_taken (is_taken fate)
    (answer_in class (said M s (grown (grown h (commits_by fate (entry_if class (message_entry bytes moment)))) es) (message_id bytes)) a (unique_of bytes))
    ≡ where_taken (is_taken fate) (answer_in class (said M s (grown h (commits_by fate (entry_if class (message_entry bytes moment)))) (message_id bytes)) a (unique_of bytes))
stays_by M grows s h Answered Silent bytes moment es a = refl
stays_by M grows s h Answered (Bare errno) bytes moment es a = refl
stays_by M grows s h Answered Kept bytes moment es a =
    let e = message_entry bytes moment in
    ap (option_map (λ (x : Said). wire x.errno x.body (unique_of bytes))) (grows.stays s (add h e) es (entry_id e) (grows.added h e))
stays_by M grows s h Answered Seen bytes moment es a = refl
stays_by M grows s h AnswerLost class bytes moment es a = refl
stays_by M grows s h DiedBeforeCommit class bytes moment es a = refl
stays_by M grows s h DiedAfterCommit class bytes moment es a = refl

-- what comes later changes no outcome
outcome_stays : (M : Model) → HistoriesGrow M → (s : M.State) (h : History) (e : Event) (es : List Entry)
    → outcome_of M s (grown (grown h (commits M.service e)) es) h e ≡ outcome_of M s (grown h (commits M.service e)) h e
outcome_stays M grows s h e es =
    stays_by M grows s h e.fate (class_for M.service e.bytes) e.bytes e.moment es (answer_to M (after M s h) (message_entry e.bytes e.moment))

outcomes_stay : (M : Model) → HistoriesGrow M → (s : M.State) (h : History) (events : List Event) (es : List Entry)
    → outcomes_after M s (grown (committed M.service h events) es) h events ≡ gives M s h events
outcomes_stay M grows s h [] es = refl
outcomes_stay M grows s h (e ∷ events) es =
    let g = grown h (commits M.service e) in
    let split : grown (committed M.service h (e ∷ events)) es ≡ grown (grown g (commits_in M.service events)) es =
    ap (λ x. grown x es) (grown-append h (commits M.service e) (commits_in M.service events)) in
    let first : grown (grown g (commits_in M.service events)) es ≡ grown g (commits_in M.service events ++ es) = sym (grown-append g (commits_in M.service events) es) in
    ap (λ x. outcome_of M s x h e ∷ outcomes_after M s x g events) split
    ∙ ap (λ x. outcome_of M s x h e ∷ outcomes_after M s (grown (grown g (commits_in M.service events)) es) g events) first
    ∙ ap (λ o. o ∷ outcomes_after M s (grown (grown g (commits_in M.service events)) es) g events)
    (outcome_stays M grows s h e (commits_in M.service events ++ es))
    ∙ ap (λ r. outcome_of M s g h e ∷ r) (outcomes_stay M grows s g events es)

pub outcomes_are : (M : Model) → HistoriesGrow M → (s : M.State) (h : History) (events : List Event) → outcomes_of M s h events ≡ gives M s h events
outcomes_are M grows s h events = outcomes_stay M grows s h events []

gives-append : (M : Model) (s : M.State) (h : History) (xs ys : List Event) → gives M s h (xs ++ ys) ≡ gives M s h xs ++ gives M s (committed M.service h xs) ys
gives-append M s h [] ys = refl
gives-append M s h (x ∷ xs) ys =
    ap (λ r. outcome_of M s (grown h (commits M.service x)) h x ∷ r) (gives-append M s (grown h (commits M.service x)) xs ys)
    ∙ ap (λ g. outcome_of M s (grown h (commits M.service x)) h x ∷ (gives M s (grown h (commits M.service x)) xs ++ gives M s g ys))
    (sym (grown-append h (commits M.service x) (commits_in M.service xs)))

pub outcomes-append : (M : Model) → HistoriesGrow M → (s : M.State) (h : History) (xs ys : List Event)
    → outcomes_of M s h (xs ++ ys) ≡ outcomes_of M s h xs ++ outcomes_of M s (committed M.service h xs) ys
outcomes-append M grows s h xs ys = outcomes_are M grows s h (xs ++ ys) ∙ gives-append M s h xs ys ∙ ap (λ r. r ++ gives M s (committed M.service h xs) ys)
    (sym (outcomes_are M grows s h xs))
    ∙ ap (λ r. outcomes_of M s h xs ++ r) (sym (outcomes_are M grows s (committed M.service h xs) ys))

-- ---- settled ids

unsettled_kept : (u : List ℕ) (class : Class) (bytes : List ℕ) (moment : Moment) → comes_again u class (message_id bytes) ≡ false
    → All (IsUnsettled u) (entry_if class (message_entry bytes moment))
unsettled_kept u Silent bytes moment may = All-nil (IsUnsettled u)
unsettled_kept u (Bare errno) bytes moment may = All-nil (IsUnsettled u)
unsettled_kept u Kept bytes moment may = only_one (IsUnsettled u) (message_entry bytes moment) may
unsettled_kept u Seen bytes moment may = All-nil (IsUnsettled u)

unsettled_by : (u : List ℕ) (fate : Fate) (es : List Entry) → All (IsUnsettled u) es → All (IsUnsettled u) (commits_by fate es)
unsettled_by u Answered es each = each
unsettled_by u AnswerLost es each = each
unsettled_by u DiedBeforeCommit es each = All-nil (IsUnsettled u)
unsettled_by u DiedAfterCommit es each = each

unsettled_one : (V : Service) (u : List ℕ) (e : Event) → MayCome V u e.bytes → All (IsUnsettled u) (commits V e)
unsettled_one V u e may = unsettled_by u e.fate (entry_if (class_for V e.bytes) (message_entry e.bytes e.moment))
    (unsettled_kept u (class_for V e.bytes) e.bytes e.moment may)

pub all_unsettled_too : (u t : List ℕ) (es : List Entry) → Includes u t → All (IsUnsettled u) es → All (IsUnsettled t) es
all_unsettled_too u t es within each k d lt = unsettled_too u t _ within (each k d lt)

-- no message that is committed has an id that was settled before
pub none_reused : (V : Service) (u : List ℕ) (es : List Event) → NoneReused V u es → All (IsUnsettled u) (commits_in V es)
none_reused V u [] none = All-nil (IsUnsettled u)
none_reused V u (e ∷ es) none = All-append (IsUnsettled u) (commits V e) (commits_in V es) (unsettled_one V u e none.0)
    (all_unsettled_too (u ++ settles V e) u (commits_in V es) (includes_left u (settles V e)) (none_reused V (u ++ settles V e) es none.1))

pub settled-append : (V : Service) (u : List ℕ) (xs ys : List Event) → settled_by V u (xs ++ ys) ≡ settled_by V (settled_by V u xs) ys
settled-append V u [] ys = refl
settled-append V u (x ∷ xs) ys = settled-append V (u ++ settles V x) xs ys

-- events, and then others
pub reused-parts : (V : Service) (u : List ℕ) (xs ys : List Event) → NoneReused V u (xs ++ ys) → NoneReused V u xs × NoneReused V (settled_by V u xs) ys
reused-parts V u [] ys none = (tt, none)
reused-parts V u (x ∷ xs) ys none =
    let more = reused-parts V (u ++ settles V x) xs ys none.1 in
    ((none.0, more.0), more.1)

pub settled_still : (V : Service) (u : List ℕ) (es : List Event) → Includes (settled_by V u es) u
settled_still V u [] i there = there
settled_still V u (e ∷ es) i there = settled_still V (u ++ settles V e) es i (includes_left u (settles V e) i there)

-- with those that were handed on
pub settled_all : (V : Service) (u t p : List ℕ) (es : List Event) → Includes u t → Includes u p → Includes (settled_by V u es) (t ++ handed_on V p es)
settled_all V u t p es within pending = includes_both (settled_by V u es) t (handed_on V p es) (λ i there. settled_still V u es i (within i there))
    (handed_settled V u p es pending)

-- what is settled came
settles_came_by : (fate : Fate) (class : Class) (bytes : List ℕ) (moment : Moment)
    → Includes (ids_in (commits_by fate (entry_if class (message_entry bytes moment)))) (settles_if (is_taken fate) class (message_id bytes))
settles_came_by Answered Silent bytes moment = includes_none []
settles_came_by Answered (Bare errno) bytes moment = includes_none []
settles_came_by Answered Kept bytes moment = λ i there. there
settles_came_by Answered Seen bytes moment = includes_none []
settles_came_by AnswerLost class bytes moment = includes_none _
settles_came_by DiedBeforeCommit class bytes moment = includes_none []
settles_came_by DiedAfterCommit class bytes moment = includes_none _

settled_came : (V : Service) (u : List ℕ) (es : List Event) → Includes (u ++ ids_in (commits_in V es)) (settled_by V u es)
settled_came V u [] = includes_left u []
settled_came V u (e ∷ es) =
    let ids : ids_in (commits_in V (e ∷ es)) ≡ ids_in (commits V e) ++ ids_in (commits_in V es) = map-append entry_id (commits V e) (commits_in V es) in
    let whole = u ++ ids_in (commits_in V (e ∷ es)) in
    let here : Includes whole (ids_in (commits V e)) = λ i there. includes_right u (ids_in (commits_in V (e ∷ es))) i
    (ap (λ x. is_in x i) ids ∙ includes_left (ids_in (commits V e)) (ids_in (commits_in V es)) i there) in
    let later : Includes whole (ids_in (commits_in V es)) = λ i there. includes_right u (ids_in (commits_in V (e ∷ es))) i
    (ap (λ x. is_in x i) ids ∙ includes_right (ids_in (commits V e)) (ids_in (commits_in V es)) i there) in
    let first : Includes whole (u ++ settles V e) = includes_both whole u (settles V e) (includes_left u (ids_in (commits_in V (e ∷ es))))
    (λ i there. here i (settles_came_by e.fate (class_for V e.bytes) e.bytes e.moment i there)) in
    λ i there. includes_both whole (u ++ settles V e) (ids_in (commits_in V es)) first later i (settled_came V (u ++ settles V e) es i there)

pub handed_came : (V : Service) (es : List Event) → Includes (ids_in (commits_in V es)) (handed_on V [] es)
handed_came V es i there = settled_came V [] es i (handed_settled V [] [] es (includes_none []) i there)
