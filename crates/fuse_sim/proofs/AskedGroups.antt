-- What a keeper was asked for by one group, and where a fault came.
use Rattle.std.proofs.Common.{◌≡◌, ℕ, ◌<◌, true, false, if◌then◌else◌, List, [], ◌∷◌, ◌++◌, length, take, drop, get_or, Option, Some, None, IsSomeAnd}
use Rattle.std.proofs.Common.{refl, sym, ap, subst, ◌∙◌, arith}
use Rattle.std.proofs.lemmas.List.{append-nil, take-append-drop}
use Rattle.std.proofs.lemmas.List.Elements.{All-nil}
use Rattle.fuse_request.specs.Opcodes.{Service}
use Rattle.fuse_request.specs.Classes.{SeenByClass}
use Rattle.fuse_request.specs.Classes.{class_for}
use Rattle.fuse_keeper.specs.History.{Entry, kept_of}
use Rattle.fuse_keeper.specs.Group.{handed_to}
use Rattle.fuse_keeper.specs.Model.{Model}
use Rattle.fuse_keeper.specs.Performance.{Performance, performances_of, IsPerformanceLog}
use Rattle.fuse_session.specs.Processed.{performed_if, message_entry}
use Rattle.fuse_sim.specs.declared.event.Event.{Event}
use Rattle.fuse_sim.specs.declared.event.Fate.TheVariants.{DiedBeforeCommit}
use Rattle.fuse_sim.specs.declared.event.DriveFault.{DriveFault}
use Rattle.fuse_sim.specs.declared.group.Group.{Group}
use Rattle.fuse_sim.specs.Driving.{commits_by, commits_in, performs_in, dies, dies_before, IsFit, is_store, performed_in}
use Rattle.fuse_sim.specs.Twice.{Seen}
use Rattle.fuse_sim.specs.inner.HandedBy.{IsOneGroup}
use Rattle.fuse_sim.specs.inner.Running.{GathersEvents, AsksGroup, StopsAsking}
use Rattle.fuse_sim.proofs.Cutting.{kept_performs, group_alone, lost_alone}
use Rattle.fuse_sim.proofs.Moves.{count_taken, few_taken, is_lost, lost_one}

pub performed_then : {K : Type 0} (performed : K → K → List Performance → Type 0) → IsPerformanceLog performed → (a b c : Option K) (xs ys zs : List Performance)
    → performed_in performed a b xs → performed_in performed b c ys → xs ++ ys ≡ zs → performed_in performed a c zs
performed_then performed law None b c xs ys zs one two sum = absurd one
performed_then performed law (Some a) None c xs ys zs one two sum = absurd one
performed_then performed law (Some a) (Some b) None xs ys zs one two sum = absurd two
performed_then performed law (Some a) (Some b) (Some c) xs ys zs one two sum = subst (performed a c) sum (law.onward a b c xs ys one two)

pub performed_none : {K : Type 0} (performed : K → K → List Performance → Type 0) → IsPerformanceLog performed → (P : K → Type 0) (k : Option K) → IsSomeAnd k P
    → performed_in performed k k []
performed_none performed law P None is = absurd is
performed_none performed law P (Some k) is = law.none k

-- ---- a group

-- it was performed, and then nothing was asked for
pub asked_run : (V : Service) → {K : Type 0} (performed : K → K → List Performance → Type 0) → IsPerformanceLog performed → (old mid new : Option K)
    (p p_mid : List ℕ) (slice run : List Event) → slice ≡ run → p_mid ≡ p → AsksGroup V performed old mid p_mid slice → performed_in performed mid new []
    → AsksGroup V performed old new p run
asked_run V performed law old mid new p p_mid slice run is same asked none =
    let whole = performances_of (performs_in V run) (handed_to (commits_in V run) p) in
    performed_then performed law old mid new whole [] whole
    (subst (λ q. AsksGroup V performed old mid q run) same (subst (λ es. AsksGroup V performed old mid p_mid es) is asked)) none (append-nil whole)

-- what was asked of the keeper for the requests of a group
pub asked_taken : SeenByClass → (V : Service) → {K : Type 0} (performed : K → K → List Performance → Type 0) (old new : Option K) (p : List ℕ) (es : List Entry) (run : List Event)
    → es ≡ performs_in V run → performed_in performed old new (performances_of es (handed_to (kept_of V es) p)) → AsksGroup V performed old new p run
asked_taken sees V performed old new p es run is asked =
    subst (λ cs. performed_in performed old new (performances_of (performs_in V run) (handed_to cs p))) (kept_performs sees V run)
    (subst (λ (x : List Entry). performed_in performed old new (performances_of x (handed_to (kept_of V x) p))) is asked)

one_performance : (es : List Entry) (p : List ℕ) → 0 < length es → length (performances_of es p) ≡ 1
one_performance [] p some = absurd (omega (arith, some))
one_performance (e ∷ es) p some = refl

-- ---- an event that is lost

pub lost_is_one : (V : Service) (events : List Event) (at : ℕ) (e : Event) → at < length events → e ≡ get_or events at e
    → dies_before e.fate ≡ true → IsOneGroup V (take 1 (drop at events))
lost_is_one V events at e lt is before = subst (IsOneGroup V) (lost_one events at e lt is) (lost_alone V e (ap dies (is_lost e.fate before)))

-- nothing is performed
none_lost : (V : Service) (e : Event) → e.fate ≡ DiedBeforeCommit → performs_in V (e ∷ []) ≡ []
none_lost V e is = ap (λ f. commits_by f (performed_if (class_for V e.bytes) (message_entry e.bytes e.moment)) ++ []) is

pub lost_asked : (V : Service) → {K : Type 0} (performed : K → K → List Performance → Type 0) (old new : Option K) (events : List Event) (at : ℕ) (e : Event)
    (p : List ℕ) → at < length events → e ≡ get_or events at e → dies_before e.fate ≡ true → performed_in performed old new []
    → AsksGroup V performed old new p (take 1 (drop at events))
lost_asked V performed old new events at e p lt is before none =
    subst (AsksGroup V performed old new p) (lost_one events at e lt is)
    (subst (λ es. performed_in performed old new (performances_of es (handed_to (commits_in V (e ∷ [])) p))) (sym (none_lost V e (is_lost e.fate before))) none)

-- ---- faults

-- nothing was asked for
pub stops_unasked : (M : Model) → {K : Type 0} (seen : Seen M K) → IsPerformanceLog seen.performed → (P : K → Type 0) (k : Option K)
    (p : List ℕ) (events : List Event) (fault : DriveFault) → IsSomeAnd k P → is_store fault ≡ false → StopsAsking seen k k p events fault
stops_unasked M seen law P k p events fault there kind = record {
  run = [];
  rest = events;
  parts = refl;
  fit = All-nil IsFit;
  one = refl;
  asked = λ _. performed_none seen.performed law P k there;
  count = λ _. ap (λ b. if b then 1 else 0) (sym kind);
}

-- the store answered a fault to a group
pub stops_performing : (M : Model) → {K : Type 0} (seen : Seen M K) (old new : Option K) (p p_mid : List ℕ)
    (events slice : List Event) (count : ℕ) (group : Group) (fault : DriveFault) → GathersEvents M (take count events) group → 0 < length group.taken.items
    → slice ≡ take count events → p_mid ≡ p → AsksGroup M.service seen.performed old new p_mid slice → is_store fault ≡ true
    → StopsAsking seen old new p events fault
stops_performing M seen old new p p_mid events slice count group fault gathers some is same asked kind =
    let V = M.service in
    let run = take count events in
    let number = count_taken V run group.taken.items gathers.entries in
    record {
      run = run;
      rest = drop count events;
      parts = sym (take-append-drop count events);
      fit = gathers.fit;
      one = group_alone V group.died run gathers.goes (few_taken V run group.taken.items 16 gathers.entries gathers.few);
      asked = λ _. subst (λ q. AsksGroup V seen.performed old new q run) same (subst (λ es. AsksGroup V seen.performed old new p_mid es) is asked);
      count = λ _. one_performance (performs_in V run) (handed_to (commits_in V run) p) (omega (arith, some, number)) ∙ ap (λ b. if b then 1 else 0) (sym kind);
    }

-- no keeper is left
pub stops_emptied : (M : Model) → {K : Type 0} (seen : Seen M K) (old new : Option K) (p : List ℕ) (events : List Event)
    (fault : DriveFault) → new ≡ None → StopsAsking seen old new p events fault
stops_emptied M seen old new p events fault none = record {
  run = [];
  rest = events;
  parts = refl;
  fit = All-nil IsFit;
  one = refl;
  asked = λ there. absurd (there none);
  count = λ there. absurd (there none);
}
