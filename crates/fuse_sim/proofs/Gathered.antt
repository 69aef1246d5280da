-- Groups, one event after another.
use Rattle.std.proofs.Common.{◌≡◌, ◌⊎◌, inl, inr, ℕ, suc, ◌+◌, ◌≤◌, ◌<◌, ◌&&◌, not, Bool, true, false, List, [], ◌∷◌, ◌++◌, length, take}
use Rattle.std.proofs.Common.{drop, get_or, All, refl, sym, ap, subst, ◌∙◌, arith, append_assoc, length-append, drop-cons}
use Rattle.std.proofs.lemmas.List.{take_more, append-nil, map-append, length-map, length-take-le, drop_all}
use Rattle.std.proofs.lemmas.List.Elements.{All-append, All-nil, All-cons}
use Rattle.std.proofs.lemmas.List.Concat.{flat_map-append}
use Rattle.fuse_request.specs.Act.{act, opcode_of, IsPerformedFor, IsKeptFor, IsSeenFor}
use Rattle.fuse_request.specs.Opcodes.{Service, is_performed_for}
use Rattle.fuse_wire.specs.declared.moment.Moment.{Moment}
use Rattle.fuse_request.specs.declared.request.Request.{Request}
use Rattle.fuse_request.specs.declared.class.Class.{Class}
use Rattle.fuse_request.specs.declared.class.Class.TheVariants.{Silent, Bare, Kept, Seen}
use Rattle.fuse_request.specs.Classes.{class_for, class_if, is_zero}
use Rattle.fuse_keeper.specs.History.{Entry}
use Rattle.fuse_keeper.specs.Model.{Model}
use Rattle.fuse_keeper.specs.declared.keeper.TheConstants.{MAX_GROUP}
use Rattle.fuse_keeper.specs.Group.{entry_of, entries_of, HasId, IsPerformed}
use Rattle.fuse_session.specs.Processed.{performed_if, message_entry, PerformedHaveIds}
use Rattle.fuse_sim.specs.declared.event.Fate.{Fate}
use Rattle.fuse_sim.specs.declared.event.Fate.TheVariants.{Answered, AnswerLost, DiedBeforeCommit, DiedAfterCommit}
use Rattle.fuse_sim.specs.declared.event.Event.{Event}
use Rattle.fuse_sim.specs.declared.group.Group.{Group}
use Rattle.fuse_sim.specs.Driving.{commits, commits_by, commits_in, performs, performs_in, dies, dies_before, IsFit}
use Rattle.fuse_sim.specs.inner.Running.{IsGroupRun, StartsNone, HasNoPlace, EndsWith, StopsAt, GathersEvents, Joins}

pub commits-append : (V : Service) (xs ys : List Event) → commits_in V (xs ++ ys) ≡ commits_in V xs ++ commits_in V ys
commits-append V [] ys = refl
commits-append V (x ∷ xs) ys = ap (λ r. commits V x ++ r) (commits-append V xs ys) ∙ sym (append_assoc (commits V x) (commits_in V xs) (commits_in V ys))

-- an event that isn't lost commits its message
pub commits_kept : (fate : Fate) (es : List Entry) → dies_before fate ≡ false → commits_by fate es ≡ es
commits_kept Answered es is = refl
commits_kept AnswerLost es is = refl
commits_kept DiedBeforeCommit es is = absurd (cc is)
commits_kept DiedAfterCommit es is = refl

-- one more event, after which the server goes on, or dies
run_more : (xs : List Event) (e : Event) (b : Bool) → IsGroupRun false xs → dies e.fate ≡ b → (b ≡ true → e.fate ≡ DiedAfterCommit) → IsGroupRun b (xs ++ e ∷ [])
run_more [] e true so is died = inr (refl, died refl, refl)
run_more [] e false so is died = inl (is, refl)
run_more (x ∷ xs) e b so is died = elim so [
  | inl more ↦ inl (more.0, run_more xs e b more.1 is died)
  | inr last ↦ absurd (cc last.0)
]

pub none_gathered : (M : Model) (group : Group) → group.classes.items ≡ [] → group.taken.items ≡ [] → group.died ≡ false → GathersEvents M [] group
none_gathered M group none is alive = record {
  fit = All-nil IsFit;
  goes = alive;
  classes_are = none;
  entries = ap entries_of is;
  few = omega (arith, ap length is);
  named = subst (λ (t : List (Request × Moment)). All HasId (entries_of t)) (sym is) (All-nil HasId);
  kept = subst (λ (t : List (Request × Moment)). All (IsPerformed M.service) (entries_of t)) (sym is) (All-nil (IsPerformed M.service));
}

-- one more
pub gathers_next : (M : Model) (events : List Event) (i : ℕ) (e : Event) (old new : Group) → i < length events → e ≡ get_or events i e
    → GathersEvents M (take i events) old → Joins M e old new → GathersEvents M (take (i + 1) events) new
gathers_next M events i e old new lt at so_far joins =
    let more : take i events ++ e ∷ [] ≡ take (i + 1) events = ap (λ x. take i events ++ x ∷ []) at ∙ sym (take_more events i e lt) in
    subst (λ run. GathersEvents M run new) more (joins (take i events) so_far)

pub gathers_count : (M : Model) (events : List Event) (i : ℕ) (group : Group) → i ≤ length events → GathersEvents M (take i events) group
    → length group.classes.items ≡ i
gathers_count M events i group le g = ap length g.classes_are ∙ length-map (take i events) (λ (e : Event). class_for M.service e.bytes)
    ∙ length-take-le i events le

pub gathers_counted : (M : Model) (events : List Event) (i : ℕ) (group : Group) → i ≤ length events → GathersEvents M (take i events) group
    → GathersEvents M (take (length group.classes.items) events) group
gathers_counted M events i group le g = subst (λ n. GathersEvents M (take n events) group) (sym (gathers_count M events i group le g)) g

-- a group ends where the server died, where it is full, or before an event that stands apart
pub ends_here : (M : Model) (events : List Event) (i : ℕ) (e : Event) (group : Group) → i < length events → e ≡ get_or events i e
    → GathersEvents M (take i events) group → EndsWith M.service group e → StopsAt M.service group (drop (length group.classes.items) events)
ends_here M events i e group lt at g ends alive =
    let V = M.service in
    let others = drop (length group.classes.items) events in
    let here : get_or events i e ∷ drop (suc i) events ≡ others =
    sym (drop-cons events i e lt) ∙ ap (λ k. drop k events) (sym (gathers_count M events i group (omega (arith, lt)) g)) in
    elim ends [
      | inl dead ↦ absurd (cc (alive, dead))
      | inr so ↦ elim so [
        | inl full ↦ inl (subst (HasNoPlace V group) here (full.0, subst (λ (x : Event). 0 < length (performs V x)) at full.1))
        | inr apart ↦ inr (subst StartsNone here (subst (λ (x : Event). (dies_before x.fate ≡ true) ⊎ (¬ IsFit x)) at apart))
      ]
    ]

pub stops_at_end : (M : Model) (events : List Event) (i : ℕ) (group : Group) → i ≤ length events → length events ≤ i → GathersEvents M (take i events) group
    → StopsAt M.service group (drop (length group.classes.items) events)
stops_at_end M events i group le past g alive =
    let n = gathers_count M events i group le g in
    inr (subst StartsNone (sym (drop_all (length group.classes.items) events (omega (arith, n, past)))) tt)

pub only_one : {A : Type 0} (P : A → Type 0) (x : A) → P x → All P (x ∷ [])
only_one P x p = All-cons P x [] p (All-nil P)

-- one of a class that is performed
one_performed : (class : Class) (x e : Entry) → x ∷ [] ≡ performed_if class e → ((seen : Bool) × (class ≡ class_if seen)) × (x ≡ e)
one_performed Silent x e is = absurd (cc is)
one_performed (Bare errno) x e is = absurd (cc is)
one_performed Kept x e is = ((false, refl), cc is)
one_performed Seen x e is = ((true, refl), cc is)

named_more : PerformedHaveIds → (V : Service) (bytes : List ℕ) (taken taken' : List (Request × Moment)) (one : Request × Moment) (t : Moment)
    → is_zero bytes ≡ false → entry_of one ∷ [] ≡ performed_if (class_for V bytes) (message_entry bytes t) → taken' ≡ taken ++ one ∷ []
    → All HasId (entries_of taken) → All HasId (entries_of taken')
named_more have V bytes taken taken' one t named some pushed each =
    let performed = one_performed (class_for V bytes) (entry_of one) (message_entry bytes t) some in
    let here : HasId (entry_of one) = subst HasId (sym performed.1) (have V bytes t performed.0.0 performed.0.1 named) in
    subst (All HasId) (sym (ap entries_of pushed ∙ map-append entry_of taken (one ∷ [])))
    (All-append HasId (entries_of taken) (entry_of one ∷ []) each (only_one HasId (entry_of one) here))

kept_more : (M : Model) (taken taken' : List (Request × Moment)) (one : Request × Moment) → All (IsPerformed M.service) (entry_of one ∷ [])
    → taken' ≡ taken ++ one ∷ [] → All (IsPerformed M.service) (entries_of taken) → All (IsPerformed M.service) (entries_of taken')
kept_more M taken taken' one here pushed each =
    subst (All (IsPerformed M.service)) (sym (ap entries_of pushed ∙ map-append entry_of taken (one ∷ [])))
    (All-append (IsPerformed M.service) (entries_of taken) (entry_of one ∷ []) each here)

entries_one : (V : Service) (run : List Event) (e : Event) (es : List Entry) → dies_before e.fate ≡ false
    → es ≡ performed_if (class_for V e.bytes) (message_entry e.bytes e.moment) → performs_in V run ++ es ≡ performs_in V (run ++ e ∷ [])
entries_one V run e es goes is =
    ap (λ r. performs_in V run ++ r)
    (is ∙ sym (append-nil (performs V e) ∙ commits_kept e.fate (performed_if (class_for V e.bytes) (message_entry e.bytes e.moment)) goes))
    ∙ sym (flat_map-append (performs V) run (e ∷ []))

-- an event whose message is performed has no place in a full group
pub no_place : (V : Service) (group : Group) (e : Event) (es : List Entry) → dies_before e.fate ≡ false
    → es ≡ performed_if (class_for V e.bytes) (message_entry e.bytes e.moment) → 0 < length es → length group.taken.items ≡ MAX_GROUP
    → EndsWith V group e
no_place V group e es goes is some full =
    let all : length group.taken.items ≡ 16 = full in
    let one = commits_kept e.fate (performed_if (class_for V e.bytes) (message_entry e.bytes e.moment)) goes in
    inr (inl (all, omega (arith, some, ap length is, ap length one)))

-- what is kept is performed, and what is seen
both_first : (a b : Bool) → (a && b) ≡ true → a ≡ true
both_first true b is = refl
both_first false b is = absurd (cc is)

pub kept_performed : (V : Service) (r : Request) → IsKeptFor V (act r.op) → IsPerformedFor V (act r.op)
kept_performed V r is = both_first (is_performed_for V (opcode_of (act r.op))) (not (V.sees (opcode_of (act r.op)))) is

pub seen_performed : (V : Service) (r : Request) → IsSeenFor V (act r.op) → IsPerformedFor V (act r.op)
seen_performed V r is = both_first (is_performed_for V (opcode_of (act r.op))) (V.sees (opcode_of (act r.op))) is

few_more : (n m : ℕ) → n ≤ MAX_GROUP → (n ≡ MAX_GROUP → ⊥) → m ≡ n + 1 → m ≤ MAX_GROUP
few_more n m few room is = grind (arith, few, room, is)

-- an event with its request
pub joins_kept : (M : Model) → PerformedHaveIds → (e : Event) (old new : Group) (one : Request × Moment) → old.died ≡ false → IsFit e → dies_before e.fate ≡ false
    → entry_of one ∷ [] ≡ performed_if (class_for M.service e.bytes) (message_entry e.bytes e.moment) → All (IsPerformed M.service) (entry_of one ∷ [])
    → (length old.taken.items ≡ MAX_GROUP → ⊥)
    → new.classes.items ≡ old.classes.items ++ class_for M.service e.bytes ∷ [] → new.taken.items ≡ old.taken.items ++ one ∷ []
    → dies e.fate ≡ new.died → (new.died ≡ true → e.fate ≡ DiedAfterCommit) → Joins M e old new
joins_kept M have e old new one alive fit goes some kept room classed pushed is dead =
    λ run g. record {
      fit = All-append IsFit run (e ∷ []) g.fit (only_one IsFit e fit);
      goes = run_more run e new.died (subst (λ b. IsGroupRun b run) alive g.goes) is dead;
      classes_are = classed ∙ ap (λ (cs : List Class). cs ++ class_for M.service e.bytes ∷ []) g.classes_are
          ∙ sym (map-append (λ (x : Event). class_for M.service x.bytes) run (e ∷ []));
      entries = ap entries_of pushed ∙ map-append entry_of old.taken.items (one ∷ []) ∙ ap (λ r. r ++ entry_of one ∷ []) g.entries
          ∙ entries_one M.service run e (entry_of one ∷ []) goes some;
      few = few_more (length old.taken.items) (length new.taken.items) g.few room (ap length pushed ∙ length-append old.taken.items (one ∷ []));
      named = named_more have M.service e.bytes old.taken.items new.taken.items one e.moment fit.named some pushed g.named;
      kept = kept_more M old.taken.items new.taken.items one kept pushed g.kept;
    }

-- an event without one
pub joins_bare : (M : Model) (e : Event) (old new : Group) → old.died ≡ false → IsFit e → dies_before e.fate ≡ false
    → [] ≡ performed_if (class_for M.service e.bytes) (message_entry e.bytes e.moment)
    → new.classes.items ≡ old.classes.items ++ class_for M.service e.bytes ∷ [] → new.taken.items ≡ old.taken.items
    → dies e.fate ≡ new.died → (new.died ≡ true → e.fate ≡ DiedAfterCommit) → Joins M e old new
joins_bare M e old new alive fit goes none classed same is dead =
    λ run g. record {
      fit = All-append IsFit run (e ∷ []) g.fit (only_one IsFit e fit);
      goes = run_more run e new.died (subst (λ b. IsGroupRun b run) alive g.goes) is dead;
      classes_are = classed ∙ ap (λ (cs : List Class). cs ++ class_for M.service e.bytes ∷ []) g.classes_are
          ∙ sym (map-append (λ (x : Event). class_for M.service x.bytes) run (e ∷ []));
      entries = ap entries_of same ∙ g.entries ∙ sym (append-nil (performs_in M.service run)) ∙ entries_one M.service run e [] goes none;
      few = omega (arith, g.few, ap length same);
      named = subst (λ (t : List (Request × Moment)). All HasId (entries_of t)) (sym same) g.named;
      kept = subst (λ (t : List (Request × Moment)). All (IsPerformed M.service) (entries_of t)) (sym same) g.kept;
    }
