-- The runs of scripts, and their output.
use Rattle.std.proofs.Common.{◌≡◌, ◌⊎◌, inl, inr, refl, Bool, true, false, ℕ, zero, suc, ◌+◌, ◌<◌, ◌≤◌, List, [], ◌∷◌, ◌++◌, take, drop, map, get_or, length, All}
use Rattle.std.proofs.Common.{Option, Some, None, sym, ap, subst, ◌∙◌, Result, Ok, Err, append_assoc, arith}
use Rattle.std.specs.Prelude.{IfSome, IfOk, IfErr, OnOk, IsSomeAnd, slice_get}
use Rattle.std.specs.List.{AllByRecursion}
use Rattle.std.specs.Io.KnownBytes.{Appends, Consumes, IsAtEnd}
use Rattle.std.proofs.KnownBytes.{Appends-trans}
use Rattle.std.proofs.lemmas.List.{append-nil, map-append, length-map, take_more, take-append-drop}
use Rattle.std.proofs.lemmas.List.Concat.{flat_map-append}
use Rattle.std.proofs.lemmas.List.Elements.{All-from_recursion, recursion_from_All}
use Rattle.fuse_request.specs.Classes.{is_zero}
use Rattle.fuse_request.specs.Opcodes.{Service}
use Rattle.fuse_keeper.specs.declared.fault.StoreFault.{StoreFault}
use Rattle.fuse_keeper.specs.declared.keeper.StoreCounts.{StoreCounts}
use Rattle.fuse_keeper.specs.Model.{Model, IsOfGoodState}
use Rattle.fuse_keeper.specs.History.{History, after}
use Rattle.fuse_keeper.specs.Performance.{Performance, IsPerformanceLog}
use Rattle.fuse_keeper.specs.Stands.{Records}
use Rattle.fuse_keeper.specs.KeeperState.{KeeperState, StandsFor, KeepsHeld, IsSound, IsFirm, IsCount, WhereHeld, Looked, Reports}
use Rattle.fuse_sim.specs.declared.event.Event.{Event}
use Rattle.fuse_sim.specs.declared.event.Outcome.{Outcome}
use Rattle.fuse_sim.specs.declared.event.DriveFault.{DriveFault}
use Rattle.fuse_sim.specs.declared.event.DriveFault.TheVariants.{NotAMessage, ZeroUnique, Store, Memory}
use Rattle.fuse_sim.specs.Driving.{IsFit, CausedBy, Names, StandsIn, OfRestart, AnsweredBy, is_store, settles, committed, outcomes_of, settled_by, bytes_given}
use Rattle.fuse_sim.specs.Driving.{NoneReused, told_in, became_in, performed_in, Opened, deaths, before, event_of, LeftBy}
use Rattle.fuse_sim.specs.AfterEvents.{DeletesHanded}
use Rattle.fuse_sim.specs.HandedOn.{performances, AsksUpTo, AskedSome}
use Rattle.fuse_sim.specs.Twice.{Seen}
use Rattle.fuse_commands.specs.declared.ending.Ending.{Ending}
use Rattle.fuse_commands.specs.declared.simulate.Simulation.{Simulation}
use Rattle.fuse_commands.specs.Endings.{status_of, store_ending}
use Rattle.fuse_commands.specs.Scripts.{lines_of, WritesAll}
use Rattle.fuse_commands.specs.Output.{line, store_line}
use Rattle.fuse_commands.specs.Simulating.{outcome_line, outcome_lines, state_after, StandsFromStart, BeginSo, AnsweredFault, StoreEnded, AreOfFirst}
use Rattle.fuse_commands.specs.Simulating.{RefusedAgain, RefusedIn, CountsAre}
use Rattle.fuse_commands.specs.Simulating.{LeftBySome, LeftByScript, StoppedIn, Shown, SimulatedAll}
use Rattle.fuse_commands.specs.inner.Simulating.{Went, RanScript}
use Rattle.fuse_commands.proofs.Known.{consumes_then}

-- ---- the input

pub read_none : (o : Option (List ℕ)) (input : List ℕ) → input ≡ [] → Consumes o o input
read_none None input none = tt
read_none (Some xs) input none = ap (λ (x : List ℕ). x ++ xs) (sym none)

pub read_more : (known mid left : Option (List ℕ)) (input input' piece : List ℕ) → Consumes known mid input → Consumes mid left piece → input' ≡ input ++ piece
    → Consumes known left input'
read_more known mid left input input' piece so came after = subst (Consumes known left) (sym after) (consumes_then known mid left input piece so came)

-- at the end of the input all of it was read
pub all_read : (known left : Option (List ℕ)) (input : List ℕ) → Consumes known left input → IsAtEnd left → IfSome known (λ xs. input ≡ xs)
all_read None left input so end = tt
all_read (Some xs) None input so end = absurd so
all_read (Some xs) (Some ys) input so end = sym (append-nil input) ∙ ap (λ (y : List ℕ). input ++ y) (sym end) ∙ sym so

-- ---- the service that a keeper gives is the model's

serves_in : {M : Model} {K : Type 0} (told : K → KeeperState M) (k : Option K) → IfSome k (λ x. (told x).service ≡ M.service) → (told_in told k).service ≡ M.service
serves_in told None is = refl
serves_in told (Some x) is = is

pub asked_for : {M : Model} {K : Type 0} (told : K → KeeperState M) (performed : K → K → List Performance → Type 0) (old new : Option K) (events : List Event)
    → IfSome old (λ x. (told x).service ≡ M.service) → performed_in performed old new (performances (told_in told old).service events)
    → performed_in performed old new (performances M.service events)
asked_for told performed old new events is asked = subst (λ V. performed_in performed old new (performances V events)) (serves_in told old is) asked

pub asked_before_for : {M : Model} {K : Type 0} (told : K → KeeperState M) (performed : K → K → List Performance → Type 0) (old new : Option K) (events : List Event)
    (fault : DriveFault) → IfSome old (λ x. (told x).service ≡ M.service)
    → (¬ (new ≡ None) → AskedSome performed old new (AsksUpTo (told_in told old).service events fault))
    → ¬ (new ≡ None) → AskedSome performed old new (AsksUpTo M.service events fault)
asked_before_for told performed old new events fault is asked there =
    subst (λ V. AskedSome performed old new (AsksUpTo V events fault)) (serves_in told old is) (asked there)

-- ---- the run

fit_each : (lines : List (List ℕ)) (events : List Event) → WritesAll lines events → AllByRecursion IsFit events
fit_each [] events none = subst (AllByRecursion IsFit) (sym none) tt
fit_each (l ∷ lines) events described = elim described [
  | inl nothing ↦ fit_each lines events nothing.1
  | inr one ↦ subst (AllByRecursion IsFit) (sym one.2) (record { message = one.3.message.whole; named = one.3.message.named }, fit_each lines one.1 one.4)
]

-- each event of a script can be run
pub all_fit : (lines : List (List ℕ)) (events : List Event) → WritesAll lines events → All IsFit events
all_fit lines events described = All-from_recursion IsFit events (fit_each lines events described)

-- the event that the fault names can't be run
abbrev pub IsUnfit : DriveFault → Type 0
IsUnfit (NotAMessage n) = Unit {0}
IsUnfit (ZeroUnique n) = Unit {0}
IsUnfit (Store n fault) = ⊥
IsUnfit (Memory n) = ⊥

-- no event of these is such a one
unfit_at : (fault : DriveFault) (events : List Event) (n : ℕ) → AllByRecursion IsFit events → IsSomeAnd (slice_get events n) (CausedBy fault)
    → (e : Event) × IsFit e × CausedBy fault e
unfit_at fault [] n fit named = absurd named
unfit_at fault (e ∷ events) zero fit named = (e, fit.0, named)
unfit_at fault (e ∷ events) (suc n) fit named = unfit_at fault events n fit.1 named

pub never_unfit : (fault : DriveFault) (events : List Event) → All IsFit events → Names fault events → IsUnfit fault → ⊥
never_unfit (NotAMessage n) events fit named unfit =
    let e = unfit_at (NotAMessage n) events n (recursion_from_All IsFit events fit) named.named in
    e.2 e.1.message
never_unfit (ZeroUnique n) events fit named unfit =
    let e = unfit_at (ZeroUnique n) events n (recursion_from_All IsFit events fit) named.named in
    let zero : is_zero e.0.bytes ≡ true = e.2.1 in
    let named : is_zero e.0.bytes ≡ false = e.1.named in
    absurd (cc (zero, named))
never_unfit (Store n fault) events fit named unfit = unfit
never_unfit (Memory n) events fit named unfit = unfit

-- the counts of a keeper that stands for a history
counted : {M : Model} (k : KeeperState M) (count : M.Rows → ℕ) (s : M.State) (h : History) (t : List ℕ) (n : ℕ) → StandsFor k s h t
    → ((rows : M.Rows) (records : _) → k.holds rows records → IsOfGoodState M rows → n ≡ count rows) → n ≡ count (M.held_for (after M s h))
unfolding IsOfGoodState
counted {M} k count s h t n so counts = counts so.rows so.records so.held (after M s h, so.stands.tree, so.stands.rows_are) ∙ ap count so.stands.rows_are

stands_kept : {M : Model} (k k' : KeeperState M) (s : M.State) (h : History) (t : List ℕ) → KeepsHeld k k' → StandsFor k s h t → StandsFor k' s h t
stands_kept k k' s h t keeps so = record { rows = so.rows; records = so.records; held = keeps so.rows so.records so.held; stands = so.stands }

-- a keeper that only looked is firm if it was
looked_firm : {M : Model} (old new : KeeperState M) (rows : M.Rows) (records : Records) → IsSound new → KeepsHeld old new
    → WhereHeld old (old.leaves_whole → new.leaves_whole)
    → ((x : M.Rows) (r : Records) → WhereHeld old (new.may_leave x r → old.may_leave x r)) → old.holds rows records → IsFirm old → IsFirm new
looked_firm old new rows records sound keeps whole crash held firm x r holds =
    let left = firm rows records held in
    let same = sound.one_holding rows x records r (keeps rows records held) holds in
    (whole rows records held left.0, λ y q may. let is = left.1 y q (crash y q rows records held may) in (is.0 ∙ same.0, λ i. is.1 i ∙ same.1 i))

-- drive ran them, and then the counts were looked up
pub went : {M : Model} {K : Type 0} (told : K → KeeperState M) (old left : Option K) (k k' : K) (s : M.State) (events : List Event)
    (simulation : Simulation) → left ≡ Some k → Looked (told k) (told k') (Ok simulation.counts) → IsSound (told k') → (told k').is_honest
    → ((told_in told left).is_honest → map bytes_given simulation.outcomes.items ≡ outcomes_of M s [] events)
    → ((told_in told left).is_honest → StandsFromStart told left s events)
    → ((told_in told left).is_honest → IsFirm (told_in told old) → IsFirm (told_in told left))
    → Reports (told k) (told k') (λ rows records. simulation.counts.nodes ≡ M.nodes rows)
    → Reports (told k) (told k') (λ rows records. simulation.counts.handles ≡ M.handles rows)
    → Went told old (Some k') s events simulation
went {M} told old left k k' s events simulation is looked sound last answers stands firm nodes handles =
    let good : (told_in told left).is_honest = subst (λ o. (told_in told o).is_honest) (sym is) (looked.called.honest last) in
    let so : StandsFor (told k) s (committed M.service [] events) (settled_by M.service [] events) = subst (λ o. StandsFromStart told o s events) is (stands good) in
    record {
      outcomes = answers good;
      nodes = counted (told k) M.nodes s (committed M.service [] events) (settled_by M.service [] events) simulation.counts.nodes so (nodes last);
      handles = counted (told k) M.handles s (committed M.service [] events) (settled_by M.service [] events) simulation.counts.handles so (handles last);
      stands = stands_kept (told k) (told k') s (committed M.service [] events) (settled_by M.service [] events) (looked.same last) so;
      firm = λ was. looked_firm (told k) (told k') so.rows so.records sound (looked.same last) looked.whole looked.crash so.held
          (subst (λ o. IsFirm (told_in told o)) is (firm good was));
    }

-- the counts are those of what is held then
pub counts_are : {M : Model} {K : Type 0} (told : K → KeeperState M) (old left : Option K) (k k' : K) (events : List Event) (counts : StoreCounts)
    → left ≡ Some k → Looked (told k) (told k') (Ok counts) → DeletesHanded told old left (performances M.service events) events
    → Reports (told k) (told k') (λ rows records. counts.nodes ≡ M.nodes rows)
    → Reports (told k) (told k') (λ rows records. counts.handles ≡ M.handles rows)
    → CountsAre told old (Some k') counts.nodes counts.handles
counts_are {M} told old left k k' events counts is looked records nodes handles = λ last rows before held rowed.
    let good = looked.called.honest last in
    let there = subst (λ o. DeletesHanded told old o (performances M.service events) events) is records good rows before held rowed in
    record {
      rows = there.rows;
      records = there.records;
      held = looked.same last there.rows there.records there.held;
      nodes_are = nodes last there.rows there.records there.held there.rowed;
      handles_are = handles last there.rows there.records there.held there.rowed;
    }

-- it was asked for nothing more then
pub asked_all : {K : Type 0} (performed : K → K → List Performance → Type 0) (old left : Option K) (k k' : K) (asked : List Performance)
    → IsPerformanceLog performed → left ≡ Some k → performed_in performed old left asked → performed k k' [] → performed_in performed old (Some k') asked
asked_all performed None left k k' asked log is so last = absurd so
asked_all performed (Some a) left k k' asked log is so last =
    let there : performed a k asked = subst (λ o. performed_in performed (Some a) o asked) is so in
    subst (performed a k') (append-nil asked) (log.onward a k k' asked [] there last)

-- a look at the end opens nothing
opened_on : {K : Type 0} (became : K → K → ℕ → Type 0) → IsCount became → (o : Option K) (k k' : K) (n : ℕ) → became_in became o (Some k) n → became k k' 0
    → became_in became o (Some k') n
opened_on became count None k k' n is last = absurd is
opened_on became count (Some a) k k' n is last =
    let all : n + 0 ≡ n = omega arith in
    subst (became a k') all (count.then a k k' n 0 is last)

pub opened_all : {M : Model} {K : Type 0} (told : K → KeeperState M) (became : K → K → ℕ → Type 0) (old left : Option K) (k k' : K) (events : List Event)
    → IsCount became → left ≡ Some k → ((told k').is_honest → (told k).is_honest) → became k k' 0 → Opened told became old left events
    → Opened told became old (Some k') events
opened_all told became old left k k' events count is honest last opened =
    let so = subst (λ o. Opened told became old o events) is opened in
    record {
      often = opened_on became count old k k' (deaths events) so.often last;
      each = λ at dies.
          let one = so.each at dies in
          record {
            left = one.left;
            opened = one.opened;
            before = one.before;
            once = one.once;
            after = opened_on became count one.opened k k' (deaths at.later) one.after last;
            kept = λ now. one.kept (honest now);
            stood = λ now. one.stood (honest now);
          };
    }

-- ---- what is left

-- where the store is clean, it is honest
clean_in : {M : Model} {K : Type 0} (told : K → KeeperState M) → ((k : K) → IsSound (told k)) → (o : Option K) → (told_in told o).is_clean
    → (told_in told o).is_honest
clean_in told sound None clean = absurd clean
clean_in told sound (Some k) clean = (sound k).clean_is_honest clean

left_by : {M : Model} (k : KeeperState M) (by_store : Bool) (P : Type 0) → LeftBy k by_store P → k.is_clean → k.is_honest → P
left_by k true P so clean honest = so clean
left_by k false P so clean honest = so honest

asks_first : {K : Type 0} (V : Service) (performed : K → K → List Performance → Type 0) (old new : Option K) (events : List Event) (fault : DriveFault)
    → AskedSome performed old new (AsksUpTo V events fault) → AskedSome performed old new (AreOfFirst V events)
asks_first V performed old new events fault a = (
  a.0,
  record {
    first = before fault events ++ a.1.run;
    rest = a.1.rest;
    parts = a.1.parts ∙ sym (append_assoc (before fault events) a.1.run a.1.rest);
    asked_are = a.1.asked_are;
  },
  a.2,
)

-- at a fault of drive: the events before the one that it names
pub fault_left : {M : Model} {K : Type 0} (k : Seen M K) (old new : Option K) (events : List Event) (fault : DriveFault)
    → ((x : K) → IsSound (k.told x))
    → ((s : M.State) (h : History) (t : List ℕ) → StandsIn k.told old s h t → NoneReused M.service t (before fault events)
    → LeftBy (told_in k.told new) (is_store fault) (StandsIn k.told new s (committed M.service h (before fault events))
    (settled_by M.service t (before fault events))))
    → LeftBy (told_in k.told new) (is_store fault) (DeletesHanded k.told old new (performances M.service (before fault events)) (before fault events))
    → (¬ (new ≡ None) → AskedSome k.performed old new (AsksUpTo M.service events fault))
    → LeftBySome k old new events
fault_left {M} k old new events fault sound stands records asked = record {
  first = before fault events;
  rest = drop (event_of fault) events;
  parts = sym (take-append-drop (event_of fault) events);
  stands = λ clean s so none.
      left_by (told_in k.told new) (is_store fault)
      (StandsIn k.told new s (committed M.service [] (before fault events)) (settled_by M.service [] (before fault events)))
      (stands s [] [] so none) clean (clean_in k.told sound new clean);
  records = λ clean.
      left_by (told_in k.told new) (is_store fault)
      (DeletesHanded k.told old new (performances M.service (before fault events)) (before fault events)) records clean (clean_in k.told sound new clean);
  asked = λ some. asks_first M.service k.performed old new events fault (asked some);
}

-- after drive, whatever the counts returned: all events
pub all_left : {M : Model} {K : Type 0} (k : Seen M K) (old left : Option K) (x x' : K) (events : List Event)
    → left ≡ Some x → IsSound (k.told x') → ((k.told x').is_honest → (k.told x).is_honest) → ((k.told x').is_clean → KeepsHeld (k.told x) (k.told x'))
    → ((told_in k.told left).is_honest → (s : M.State) (h : History) (t : List ℕ) → StandsIn k.told old s h t → NoneReused M.service t events
    → StandsIn k.told left s (committed M.service h events) (settled_by M.service t events))
    → DeletesHanded k.told old left (performances M.service events) events → performed_in k.performed old (Some x') (performances M.service events)
    → LeftBySome k old (Some x') events
all_left {M} k old left x x' events is sound honest keeps stands records asked = record {
  first = events;
  rest = [];
  parts = sym (append-nil events);
  stands = λ clean s so none.
      let good : (told_in k.told left).is_honest = subst (λ o. (told_in k.told o).is_honest) (sym is) (honest (sound.clean_is_honest clean)) in
      stands_kept (k.told x) (k.told x') s (committed M.service [] events) (settled_by M.service [] events) (keeps clean)
      (subst (λ o. StandsFromStart k.told o s events) is (stands good s [] [] so none));
  records = λ clean good rows before held rowed.
      let there = subst (λ o. DeletesHanded k.told old o (performances M.service events) events) is records (honest good) rows before held rowed in
      record {
        rows = there.rows;
        records = there.records;
        held = keeps clean there.rows there.records there.held;
        rowed = there.rowed;
        left = there.left;
      };
  asked = λ some. (
    performances M.service events,
    record { first = events; rest = []; parts = sym (append-nil events); asked_are = refl },
    asked,
  );
}

-- whatever a look returned, it keeps what is held, where the store is clean
pub keeps_by : {M : Model} {A : Type 0} (old new : KeeperState M) (r : Result A StoreFault) → IsSound new → Looked old new r → new.is_clean → KeepsHeld old new
keeps_by old new (Ok a) sound looked clean = looked.same (sound.clean_is_honest clean)
keeps_by old new (Err f) sound looked clean = looked.called.err clean

-- the same of the events of a script
pub script_left : {M : Model} {K : Type 0} (k : Seen M K) (old new : Option K) (known : Option (List ℕ)) (script slice : List ℕ) (items events : List Event)
    → IfSome known (λ xs. script ≡ xs) → slice ≡ script → WritesAll (lines_of slice) items → events ≡ items → LeftBySome k old new events
    → (input : List ℕ) → known ≡ Some input → (new ≡ old) ⊎ LeftByScript k old new input
script_left k old new known script slice items events all same described is left input knows =
    let whole : script ≡ input = subst (λ o. IfSome o (λ xs. script ≡ xs)) knows all in
    inr (record {
      events = events;
      described = subst (λ x. WritesAll (lines_of x) events) (same ∙ whole) (subst (WritesAll (lines_of slice)) (sym is) described);
      left = left;
    })

-- the events of a script were run
pub ran : {M : Model} {K : Type 0} (k : Seen M K) (old new : Option K) (r : Result Simulation Ending) (known : Option (List ℕ))
    (script slice : List ℕ) (items events : List Event)
    → IfOk r (λ simulation. (told_in k.told new).is_honest → (s : M.State) → StandsIn k.told old s [] [] → NoneReused M.service [] events
    → Went k.told old new s events simulation)
    → IfOk r (λ simulation. length simulation.outcomes.items ≡ length events)
    → IfOk r (λ simulation. BeginSo k.told old new events (map bytes_given simulation.outcomes.items))
    → OnOk r (performed_in k.performed old new (performances M.service events)) → OnOk r (Opened k.told k.became old new events)
    → IfOk r (λ simulation. CountsAre k.told old new simulation.counts.nodes simulation.counts.handles)
    → IfSome known (λ xs. script ≡ xs) → slice ≡ script → WritesAll (lines_of slice) items → events ≡ items
    → IfOk r (λ simulation. IfSome known (λ xs. RanScript k old new xs simulation))
ran k old new (Err ending) known script slice items events went count begin asked opened counts all same described is = tt
ran k old new (Ok simulation) None script slice items events went count begin asked opened counts all same described is = tt
ran k old new (Ok simulation) (Some xs) script slice items events went count begin asked opened counts all same described is =
    record {
      events = events;
      described = subst (λ x. WritesAll (lines_of x) events) (same ∙ all) (subst (WritesAll (lines_of slice)) (sym is) described);
      count = count;
      begin = begin;
      asked = asked;
      opened = opened;
      counts = counts;
      went = went;
    }

-- a fault of the store ended them
pub stopped : {M : Model} {K : Type 0} (k : Seen M K) (old new : Option K) (r : Result Simulation Ending) (known : Option (List ℕ))
    (script slice : List ℕ) (items events : List Event)
    → IfErr r (λ ending. status_of ending ≡ 3 → (s : M.State) → StandsIn k.told old s [] [] → NoneReused M.service [] events
    → StoreEnded k old new events ending)
    → LeftBySome k old new events
    → IfSome known (λ xs. script ≡ xs) → slice ≡ script → WritesAll (lines_of slice) items → events ≡ items
    → IfErr r (λ ending. IfSome known (λ xs. status_of ending ≡ 3 → StoppedIn k old new xs ending))
stopped k old new (Ok simulation) known script slice items events ended left all same described is = tt
stopped k old new (Err ending) None script slice items events ended left all same described is = tt
stopped k old new (Err ending) (Some xs) script slice items events ended left all same described is = λ three.
    record {
      events = events;
      described = subst (λ x. WritesAll (lines_of x) events) (same ∙ all) (subst (WritesAll (lines_of slice)) (sym is) described);
      asked = left.asked;
      ended = ended three;
    }

-- ---- faults of the store

-- the events before one
pub reused_prefix : (V : Service) (t : List ℕ) (n : ℕ) (events : List Event) → NoneReused V t events → NoneReused V t (take n events)
reused_prefix V t zero events none = tt
reused_prefix V t (suc n) [] none = tt
reused_prefix V t (suc n) (e ∷ events) none = (none.0, reused_prefix V (t ++ settles V e) n events none.1)

-- drive returned the fault
ended_by : {M : Model} {K : Type 0} (k : Seen M K) (old new : Option K) (events : List Event) (n : ℕ) (fault : StoreFault) (ending : Ending)
    → (new ≡ None → OfRestart k.became k.may_refuse old (before (Store n fault) events) events (Store n fault))
    → ((told_in k.told new).is_clean → AnsweredBy k.told k.became old new (before (Store n fault) events) (Store n fault)) → ending ≡ store_ending fault
    → StoreEnded k old new events ending
ended_by k old None events n fault ending emptied answered is = record { at = n; fault = fault; refused = emptied refl; ends = is }
ended_by k old (Some x) events n fault ending emptied answered is = λ good.
    let a = answered good in
    record { keeper = a.keeper; often = deaths (before (Store n fault) events); before = a.before; after = a.after; fault = fault; may = a.may; ends = is }

pub drive_ended : {M : Model} {K : Type 0} (k : Seen M K) (old new : Option K)
    (events : List Event) (n : ℕ) (of : DriveFault) (fault : StoreFault) (ending : Ending)
    → of ≡ Store n fault → (new ≡ None → OfRestart k.became k.may_refuse old (before of events) events of)
    → (is_store of ≡ true → (told_in k.told new).is_clean → AnsweredBy k.told k.became old new (before of events) of) → ending ≡ store_ending fault
    → StoreEnded k old new events ending
drive_ended k old new events n of fault ending same emptied answered is =
    ended_by k old new events n fault ending (subst (λ f. new ≡ None → OfRestart k.became k.may_refuse old (before f events) events f) same emptied)
    (subst (λ f. is_store f ≡ true → (told_in k.told new).is_clean → AnsweredBy k.told k.became old new (before f events) f) same answered refl) is

-- no keeper is left
pub refused_again : {M : Model} {K : Type 0} (k : Seen M K) (old new : Option K) (events : List Event) (n : ℕ) (of : DriveFault) (fault : StoreFault)
    (ending : Ending) → of ≡ Store n fault → (new ≡ None → OfRestart k.became k.may_refuse old (before of events) events of)
    → ending ≡ store_ending fault → new ≡ None → RefusedAgain k old events ending
refused_again k old new events n of fault ending same emptied is none = record {
  at = n;
  fault = fault;
  refused = subst (λ f. OfRestart k.became k.may_refuse old (before f events) events f) same (emptied none);
  ends = is;
}

no_refusal : {K : Type 0} (keeper : Option K) → IsSomeAnd keeper (λ x. ⊥) → ⊥
no_refusal None so = so
no_refusal (Some x) so = so

pub never_emptied : {K X : Type 0} (became : K → K → ℕ → Type 0) (may : K → StoreFault → Type 0) (old new : Option K) (events : List Event) (n : ℕ)
    (of : DriveFault) → of ≡ Memory n → (new ≡ None → OfRestart became may old (before of events) events of) → new ≡ None → X
never_emptied became may old new events n of same emptied none =
    let r = subst (λ f. OfRestart became may old (before f events) events f) same (emptied none) in
    absurd (no_refusal r.keeper r.refused)

pub still_left : {K X : Type 0} (told : K → Bool) (keeper : Option K) → IsSomeAnd keeper (λ x. told x ≡ false) → keeper ≡ None → X
still_left told None so none = absurd so
still_left told (Some x) so none = absurd (cc)

pub refused_in : {M : Model} {K : Type 0} (k : Seen M K) (old new : Option K) (r : Result Simulation Ending) (known : Option (List ℕ))
    (script slice : List ℕ) (items events : List Event) → IfErr r (λ ending. new ≡ None → RefusedAgain k old events ending)
    → IfSome known (λ xs. script ≡ xs) → slice ≡ script → WritesAll (lines_of slice) items → events ≡ items
    → IfErr r (λ ending. IfSome known (λ xs. new ≡ None → RefusedIn k old xs ending))
refused_in k old new (Ok simulation) known script slice items events emptied all same described is = tt
refused_in k old new (Err ending) None script slice items events emptied all same described is = tt
refused_in k old new (Err ending) (Some xs) script slice items events emptied all same described is = λ none. record {
  events = events;
  described = subst (λ x. WritesAll (lines_of x) events) (same ∙ all) (subst (WritesAll (lines_of slice)) (sym is) described);
  refused = emptied none;
}

-- counts returned the fault, after drive
pub counts_ended : {M : Model} {K : Type 0} (k : Seen M K) (old left : Option K) (x x' : K) (events : List Event)
    (s : M.State) (h : History) (t : List ℕ) (fault : StoreFault) (ending : Ending)
    → left ≡ Some x → (k.told x).is_honest → ((told_in k.told left).is_honest → StandsIn k.told left s h t)
    → (StandsFor (k.told x) s h t → (k.told x).may_answer fault)
    → Opened k.told k.became old left events → k.became x x' 0 → ending ≡ store_ending fault → AnsweredFault k old (Some x') ending
counts_ended k old left x x' events s h t fault ending is good stands answered opened same ends =
    let so = subst (λ o. StandsIn k.told o s h t) is (stands (subst (λ o. (told_in k.told o).is_honest) (sym is) good)) in
    record {
      keeper = Some x;
      often = deaths events;
      before = subst (λ o. became_in k.became old o (deaths events)) is opened.often;
      after = same;
      fault = fault;
      may = answered so;
      ends = ends;
    }

-- ---- the output

pub printed_more : (old mid new : Option (List ℕ)) (outcomes : List (Option Outcome)) (i : ℕ) (d : Option Outcome) → i < length outcomes
    → Appends old mid (outcome_lines (map bytes_given (take i outcomes)))
    → Appends mid new (outcome_line (bytes_given (get_or outcomes i d))) → Appends old new (outcome_lines (map bytes_given (take (i + 1) outcomes)))
printed_more old mid new outcomes i d there so one =
    let text : outcome_lines (map bytes_given (take (i + 1) outcomes)) ≡ outcome_lines (map bytes_given (take i outcomes))
    ++ outcome_line (bytes_given (get_or outcomes i d)) =
    ap (λ x. outcome_lines (map bytes_given x)) (take_more outcomes i d there)
    ∙ ap outcome_lines (map-append bytes_given (take i outcomes) (get_or outcomes i d ∷ []))
    ∙ flat_map-append outcome_line (map bytes_given (take i outcomes)) (bytes_given (get_or outcomes i d) ∷ [])
    ∙ ap (λ (x : List ℕ). outcome_lines (map bytes_given (take i outcomes)) ++ x) (append-nil (outcome_line (bytes_given (get_or outcomes i d)))) in
    subst (Appends old new) (sym text) (Appends-trans old mid new _ _ so one)

-- the output of these events
shown : {M : Model} {K : Type 0} (told : K → KeeperState M) (keeper keeper' : Option K) (old new : Option (List ℕ)) (s : M.State) (events : List Event)
    (simulation : Simulation) → Went told keeper keeper' s events simulation
    → Appends old new (outcome_lines (map bytes_given simulation.outcomes.items) ++ line (store_line simulation.counts.nodes simulation.counts.handles))
    → Shown told keeper keeper' (Appends old new) s events
shown {M} told keeper keeper' old new s events simulation w printed =
    let held = M.held_for (state_after M s events) in
    record {
      printed =
          subst (λ (o : List (Option (List ℕ))). Appends old new (outcome_lines o ++ line (store_line (M.nodes held) (M.handles held)))) w.outcomes
          (subst (λ n. Appends old new (outcome_lines (map bytes_given simulation.outcomes.items) ++ line (store_line (M.nodes held) n))) w.handles
          (subst (λ n. Appends old new (outcome_lines (map bytes_given simulation.outcomes.items) ++ line (store_line n simulation.counts.handles))) w.nodes
          printed));
      stands = w.stands;
      firm = w.firm;
    }

-- the output of a script that was run
pub simulated : {M : Model} {K : Type 0} (k : Seen M K) (keeper keeper' : Option K) (known : Option (List ℕ)) (simulation : Simulation)
    (old new : Option (List ℕ)) → IfSome known (λ script. RanScript k keeper keeper' script simulation)
    → Appends old new (outcome_lines (map bytes_given simulation.outcomes.items) ++ line (store_line simulation.counts.nodes simulation.counts.handles))
    → IfSome known (λ script. 0 ≤ 1 → SimulatedAll k keeper keeper' (Appends old new) script)
simulated k keeper keeper' None simulation old new ran printed = tt
simulated k keeper keeper' (Some script) simulation old new ran printed = λ small.
    record {
      events = ran.events;
      described = ran.described;
      shown = λ honest s so none. shown k.told keeper keeper' old new s ran.events simulation (ran.went honest s so none) printed;
      asked = ran.asked;
      opened = ran.opened;
      outcomes = map bytes_given simulation.outcomes.items;
      nodes = simulation.counts.nodes;
      handles = simulation.counts.handles;
      printed = printed;
      count = length-map simulation.outcomes.items bytes_given ∙ ran.count;
      begin = ran.begin;
      counts = ran.counts;
    }
