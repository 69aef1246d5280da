-- A group that was performed.
use Rattle.std.proofs.Common.{◌≡◌, ℕ, suc, ◌<◌, true, false, List, [], ◌∷◌, ◌++◌, length, map, All, Option, Some, Ok, Err, option_map, refl, sym}
use Rattle.std.proofs.Common.{ap, subst, ◌∙◌, arith}
use Rattle.std.proofs.lemmas.List.{length-map, map-append}
use Rattle.std.proofs.lemmas.List.Elements.{All-nil, All-cons}
use Rattle.fuse_request.specs.Opcodes.{Service}
use Rattle.std.proofs.lemmas.Simd.{map-map}
use Rattle.fuse_wire.specs.declared.moment.Moment.{Moment}
use Rattle.fuse_answer.specs.Said.{Said}
use Rattle.fuse_answer.specs.Wire.{wire}
use Rattle.fuse_request.specs.declared.request.Request.{Request}
use Rattle.fuse_request.specs.declared.class.Class.{Class}
use Rattle.fuse_request.specs.declared.class.Class.TheVariants.{Silent, Bare, Kept, Seen}
use Rattle.fuse_request.specs.Classes.{class_for, SeenByClass}
use Rattle.fuse_keeper.specs.History.{Entry, entry_id, History, HistoriesGrow, add, after, answer_if, answer_to, answers_over, grown, kept_of, said, unless_seen}
use Rattle.fuse_keeper.specs.History.{IsUnsettled}
use Rattle.fuse_keeper.specs.declared.fault.StoreFault.{StoreFault}
use Rattle.fuse_keeper.specs.Model.{Model, serving, IsOfGoodState}
use Rattle.fuse_keeper.specs.KeeperState.{KeeperState, of_service, StandsFor, IsFirm, ActsOn, KeepsOthers, Called}
use Rattle.fuse_keeper.specs.Taking.{GroupsGrow}
use Rattle.fuse_keeper.specs.Group.{entry_of, entries_of, handed_to, left_pending}
use Rattle.fuse_keeper.specs.declared.keeper.Done.{Done}
use Rattle.fuse_session.specs.Grouping.{is_performed_class}
use Rattle.fuse_session.specs.Processed.{entry_if, performed_if, message_entry, message_id, unique_of}
use Rattle.fuse_session.specs.inner.Group.{left_by}
use Rattle.fuse_sim.specs.declared.event.Event.{Event}
use Rattle.fuse_sim.specs.declared.event.Outcome.{Outcome}
use Rattle.fuse_sim.specs.Driving.{commits, commits_in, performs_in, settles_in, answer_in, OutcomesBegin, bytes_given, dies_before, is_taken, where_taken}
use Rattle.fuse_sim.specs.inner.Running.{NoneDiesBefore, answers_in, head_answer, outcomes_by, HasAnswers, Adds}
use Rattle.fuse_sim.specs.inner.Running.{Worked, stage}
use Rattle.fuse_sim.proofs.Gathered.{commits_kept}
use Rattle.fuse_sim.proofs.Cutting.{performs-append, kept_performs}
use Rattle.fuse_sim.proofs.Driven.{gives, outcomes_are}

abbrev entry_at : Event → Entry
entry_at e = message_entry e.bytes e.moment

first_goes : (e : Event) (run : List Event) → NoneDiesBefore (e ∷ run) → dies_before e.fate ≡ false
first_goes e run goes = goes 0 e (omega arith)

others_go : (e : Event) (run : List Event) → NoneDiesBefore (e ∷ run) → NoneDiesBefore run
others_go e run goes k d lt = goes (suc k) d (omega (arith, lt))

-- what is performed first, and then the others
performs_first : (V : Service) (e : Event) (run : List Event) → NoneDiesBefore (e ∷ run)
    → performs_in V (e ∷ run) ≡ performed_if (class_for V e.bytes) (entry_at e) ++ performs_in V run
performs_first V e run goes = ap (λ r. r ++ performs_in V run) (commits_kept e.fate (performed_if (class_for V e.bytes) (message_entry e.bytes e.moment))
    (first_goes e run goes))

commits_first : (V : Service) (e : Event) (run : List Event) → NoneDiesBefore (e ∷ run) → commits V e ≡ entry_if (class_for V e.bytes) (entry_at e)
commits_first V e run goes = commits_kept e.fate (entry_if (class_for V e.bytes) (message_entry e.bytes e.moment)) (first_goes e run goes)

-- ---- each kept or seen message has an answer

enough_by : (class : Class) (e : Entry) (es : List Entry) (answers : List Said) → length answers ≡ length (performed_if class e ++ es)
    → (is_performed_class class ≡ true → 0 < length answers) × (length (left_by class answers) ≡ length es)
enough_by Silent e es answers is = (λ isnt. absurd (cc isnt), is)
enough_by (Bare errno) e es answers is = (λ isnt. absurd (cc isnt), is)
enough_by Kept e es [] is = absurd (omega arith)
enough_by Kept e es (a ∷ answers) is = (λ _. omega arith, omega arith)
enough_by Seen e es [] is = absurd (omega arith)
enough_by Seen e es (a ∷ answers) is = (λ _. omega arith, omega arith)

pub has_answers : (V : Service) (run : List Event) (answers : List Said) → NoneDiesBefore run → length answers ≡ length (performs_in V run) → HasAnswers V run answers
has_answers V [] answers goes is = tt
has_answers V (e ∷ run) answers goes is =
    let p = enough_by (class_for V e.bytes) (entry_at e) (performs_in V run) answers (is ∙ ap length (performs_first V e run goes)) in
    (p.0, has_answers V run (left_by (class_for V e.bytes) answers) (others_go e run goes) p.1)

pub answers_for : (V : Service) (run : List Event) (taken : List (Request × Moment)) (dones : List Done) → NoneDiesBefore run → entries_of taken ≡ performs_in V run
    → length dones ≡ length taken → HasAnswers V run (answers_in dones)
answers_for V run taken dones goes entries count =
    has_answers V run (answers_in dones) goes (length-map dones (λ (d : Done). d.answer) ∙ count ∙ sym (length-map taken entry_of) ∙ ap length entries)

-- ---- the first of them are those that the events get at their places

-- what the first answers say of an event, and what is left for the others
record HeadSays (M : Model) (s : M.State) (h : History) (bytes : List ℕ) (moment : Moment) (class : Class) (es : List Entry) (answers others : List Said)
    : Type 0 where
  head : head_answer class (unique_of bytes) (answers ++ others)
      ≡ answer_in class (said M s (grown h (entry_if class (message_entry bytes moment))) (message_id bytes))
      (answer_to M (after M s h) (message_entry bytes moment)) (unique_of bytes)
  left : left_by class (answers ++ others) ≡ left_by class answers ++ others
  are : map (λ a. Some a) (left_by class answers) ≡ answers_over M s (grown h (entry_if class (message_entry bytes moment))) es

head_says : (M : Model) → SeenByClass → (s : M.State) (h : History) (bytes : List ℕ) (moment : Moment) (class : Class) (es : List Entry) (answers others : List Said)
    → class_for M.service bytes ≡ class → map (λ a. Some a) answers ≡ answers_over M s h (performed_if class (message_entry bytes moment) ++ es)
    → HeadSays M s h bytes moment class es answers others
head_says M sees s h bytes moment Silent es answers others is are = record { head = refl; left = refl; are = are }
head_says M sees s h bytes moment (Bare errno) es answers others is are = record { head = refl; left = refl; are = are }
head_says M sees s h bytes moment Kept es [] others is are = absurd (cc are)
head_says M sees s h bytes moment Kept es (a ∷ answers) others is are =
    let e = message_entry bytes moment in
    let kept : map (λ x. Some x) (a ∷ answers) ≡ said M s (add h e) (entry_id e) ∷ answers_over M s (add h e) es =
    subst (λ b. map (λ x. Some x) (a ∷ answers) ≡ answer_if M b s h e ∷ answers_over M s (grown h (unless_seen b e)) es) (sees M.service bytes false is) are in
    let here : Some a ≡ said M s (add h e) (entry_id e) = cc kept in
    record { head = ap (option_map (λ (x : Said). wire x.errno x.body (unique_of bytes))) here; left = refl; are = cc kept }
head_says M sees s h bytes moment Seen es [] others is are = absurd (cc are)
head_says M sees s h bytes moment Seen es (a ∷ answers) others is are =
    let e = message_entry bytes moment in
    let seen : map (λ x. Some x) (a ∷ answers) ≡ Some (answer_to M (after M s h) e) ∷ answers_over M s h es =
    subst (λ b. map (λ x. Some x) (a ∷ answers) ≡ answer_if M b s h e ∷ answers_over M s (grown h (unless_seen b e)) es) (sees M.service bytes true is) are in
    let here : a ≡ answer_to M (after M s h) e = cc seen in
    record { head = ap (λ (x : Said). Some (wire x.errno x.body (unique_of bytes))) here; left = refl; are = cc seen }

outcomes_say : (M : Model) → SeenByClass → (s : M.State) (h : History) (run later : List Event) (answers others : List Said) → NoneDiesBefore run
    → map (λ a. Some a) answers ≡ answers_over M s h (performs_in M.service run)
    → outcomes_by M.service (run ++ later) (answers ++ others) ≡ gives M s h run ++ outcomes_by M.service later others
outcomes_say M sees s h [] later [] others goes are = refl
outcomes_say M sees s h [] later (a ∷ answers) others goes are = absurd (cc are)
outcomes_say M sees s h (e ∷ run) later answers others goes are =
    let V = M.service in
    let class = class_for V e.bytes in
    let is = head_says M sees s h e.bytes e.moment class (performs_in V run) answers others refl (are ∙ ap (answers_over M s h) (performs_first V e run goes)) in
    let g = grown h (entry_if class (entry_at e)) in
    let one : grown h (commits V e) ≡ g = ap (grown h) (commits_first V e run goes) in
    let first = λ (x : History). where_taken (is_taken e.fate) (answer_in class (said M s x (message_id e.bytes)) (answer_to M (after M s h) (entry_at e)) (unique_of e.bytes)) in
    ap (λ o. where_taken (is_taken e.fate) o ∷ outcomes_by V (run ++ later) (left_by class (answers ++ others))) is.head
    ∙ ap (λ (rest : List Said). first g ∷ outcomes_by V (run ++ later) rest) is.left
    ∙ ap (λ os. first g ∷ os) (outcomes_say M sees s g run later (left_by class answers) others (others_go e run goes) is.are)
    ∙ ap (λ x. first x ∷ (gives M s x run ++ outcomes_by V later others)) (sym one)

outcomes_count : (V : Service) (run : List Event) (answers : List Said) → length (outcomes_by V run answers) ≡ length run
outcomes_count V [] answers = refl
outcomes_count V (e ∷ run) answers = ap suc (outcomes_count V run (left_by (class_for V e.bytes) answers))

-- ---- all of it

first_go : (earlier later : List Event) → NoneDiesBefore (earlier ++ later) → NoneDiesBefore earlier
first_go [] later goes = All-nil (λ (e : Event). dies_before e.fate ≡ false)
first_go (e ∷ earlier) later goes = All-cons (λ (x : Event). dies_before x.fate ≡ false) e earlier (first_goes e (earlier ++ later) goes)
    (first_go earlier later (others_go e (earlier ++ later) goes))

none_first : (run earlier later : List Event) → run ≡ earlier ++ later → NoneDiesBefore run → NoneDiesBefore earlier
none_first run earlier later parts goes = first_go earlier later (subst NoneDiesBefore parts goes)

answers-append : (xs ys : List Done) → answers_in (xs ++ ys) ≡ answers_in xs ++ answers_in ys
answers-append xs ys = map-append (λ (d : Done). d.answer) xs ys

outcomes_first : (M : Model) → GroupsGrow M → HistoriesGrow M → SeenByClass → (k k' : KeeperState M) (run : List Event) (handed : List ℕ) (dones : List Done)
    (added : List (Option Outcome))
    → NoneDiesBefore run → ActsOn k k' handed (performs_in M.service run) dones → map bytes_given added ≡ outcomes_by M.service run (answers_in dones)
    → k'.is_honest → (earlier later : List Event) → run ≡ earlier ++ later → (s : M.State) (h : History) (t : List ℕ) → StandsFor k s h t
    → All (IsUnsettled (t ++ handed)) (commits_in M.service earlier) → OutcomesBegin M s h earlier (map bytes_given added)
unfolding IsOfGoodState
outcomes_first M grows histories sees k k' run handed dones added goes acts are honest earlier later parts s h t so fresh =
    let entries = ap (performs_in M.service) parts ∙ performs-append M.service earlier later in
    let unsettled = subst (All (IsUnsettled (t ++ handed))) (sym (kept_performs sees M.service earlier)) fresh in
    let done = acts honest so.rows so.records so.held (after M s h, so.stands.tree, so.stands.rows_are) in
    let first = grows.first_said (record { rows = so.rows; records = so.records }) handed (performs_in M.service run) (performs_in M.service earlier)
    (performs_in M.service later) (record { rows = done.rows; records = done.records }) dones (record { state = s; history = h; settled = t }) done.taken
    entries so.stands unsettled in (
      outcomes_by M.service later (answers_in first.others),
      are ∙ ap (λ (es : List Event). outcomes_by M.service es (answers_in dones)) parts
          ∙ ap (λ (ds : List Done). outcomes_by M.service (earlier ++ later) (answers_in ds)) first.parts
          ∙ ap (λ (said : List Said). outcomes_by M.service (earlier ++ later) said) (answers-append first.some first.others)
          ∙ outcomes_say M sees s h earlier later (answers_in first.some) (answers_in first.others) (none_first run earlier later parts goes)
          (map-map (λ a. Some a) (λ (d : Done). d.answer) first.some ∙ first.says)
          ∙ ap (λ os. os ++ outcomes_by M.service later (answers_in first.others)) (sym (outcomes_are M histories s h earlier)),
    )

-- what a keeper did with a group and with these ids, and what it then held
pub record GroupDone {M : Model} (k k' : KeeperState M) (handed : List ℕ) (group kept : List Entry) (dones : List Done) : Type 0 where
  pub performed : k'.is_honest → (s : M.State) (h : History) (t : List ℕ) → StandsFor k s h t → All (IsUnsettled (t ++ handed)) kept
      → StandsFor k' s (grown h kept) (t ++ handed)
  pub acts : ActsOn k k' handed group dones
  pub others : KeepsOthers k k' handed group

pub worked : (M : Model) → GroupsGrow M → HistoriesGrow M → SeenByClass → (holds holds' : KeeperState M) (run : List Event) (taken : List (Request × Moment))
    (pending mid pending' : List ℕ) (dones : List Done) (old new : List (Option Outcome))
    → NoneDiesBefore run → entries_of taken ≡ performs_in M.service run
    → GroupDone holds holds' (handed_to (kept_of M.service (entries_of taken)) pending) (entries_of taken) (kept_of M.service (entries_of taken)) dones
    → (holds'.is_honest → IsFirm holds → IsFirm holds')
    → mid ≡ left_pending (kept_of M.service (entries_of taken)) pending → Adds old new (outcomes_by M.service run (answers_in dones))
    → pending' ≡ mid ++ settles_in M.service run
    → Worked (stage holds pending old) (stage holds' pending' new) run
worked M grows histories sees holds holds' run taken pending mid pending' dones old new goes entries done firm left adds settled =
    let V = M.service in
    let kept : kept_of V (entries_of taken) ≡ commits_in V run = ap (kept_of V) entries ∙ kept_performs sees V run in
    let of_run = subst (λ (cs : List Entry). GroupDone holds holds' (handed_to cs pending) (performs_in V run) cs dones) kept
    (subst (λ (es : List Entry). GroupDone holds holds' (handed_to (kept_of V (entries_of taken)) pending) es (kept_of V (entries_of taken)) dones) entries done) in
    record {
      added = adds.added;
      items = adds.items;
      count = sym (length-map adds.added bytes_given) ∙ ap length adds.are ∙ outcomes_count V run (answers_in dones);
      stands = of_run.performed;
      outcomes = outcomes_first M grows histories sees holds holds' run (handed_to (commits_in V run) pending) dones adds.added goes of_run.acts adds.are;
      records = of_run.others;
      handed = settled ∙ ap (λ (m : List ℕ). m ++ settles_in V run) (left ∙ ap (λ es. left_pending es pending) kept);
      firm = firm;
    }

-- a call of a keeper is one of the keeper of the model with its service, whatever it answers
pub called_err : (M : Model) → {A B : Type 0} (V : Service) (k k' : KeeperState M) (fault : StoreFault) → (k'.is_clean → V ≡ M.service)
    → Called {M = M} {A = A} k k' (Err fault) → Called {M = serving V M} {A = B} (of_service V k) (of_service V k') (Err fault)
called_err M V k k' fault same called = record {
  failed = called.failed;
  honest = called.honest;
  medium = called.medium;
  service = called.service;
  clean = tt;
  err = called.err;
  err_lots = called.err_lots;
  fault = λ clean s h t so. called.fault clean s h t (subst (λ W. StandsFor (of_service W k) s h t) (same clean) so);
}

pub called_ok : (M : Model) → {A B : Type 0} (V : Service) (k k' : KeeperState M) (a : A) (b : B)
    → Called {M = M} {A = A} k k' (Ok a) → Called {M = serving V M} {A = B} (of_service V k) (of_service V k') (Ok b)
called_ok M V k k' a b called = record {
  failed = called.failed;
  honest = called.honest;
  medium = called.medium;
  service = called.service;
  clean = called.clean;
  err = tt;
  err_lots = tt;
  fault = λ clean s h t so. tt;
}
