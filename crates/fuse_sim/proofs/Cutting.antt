-- Where the groups of events are cut.
use Rattle.std.proofs.Common.{◌≡◌, ◌⊎◌, inl, inr, ℕ, ◌+◌, ◌≤◌, ◌<◌, ◌||◌, nat_lt, Bool, true, false, if◌then◌else◌, List, [], ◌∷◌, ◌++◌, length, All}
use Rattle.std.proofs.Common.{refl, sym, ap, subst, ◌∙◌, append_assoc, length-append, arith}
use Rattle.std.proofs.lemmas.List.{append-nil}
use Rattle.std.proofs.lemmas.List.Concat.{flat_map-append}
use Rattle.std.proofs.lemmas.Bool.{cases_Bool}
use Rattle.fuse_request.specs.Opcodes.{Service}
use Rattle.fuse_request.specs.declared.class.Class.{Class}
use Rattle.fuse_request.specs.declared.class.Class.TheVariants.{Silent, Bare, Kept, Seen}
use Rattle.fuse_request.specs.Classes.{class_for, SeenByClass}
use Rattle.fuse_wire.specs.declared.moment.Moment.{Moment}
use Rattle.fuse_keeper.specs.History.{Entry, kept_one, kept_of, unless_seen}
use Rattle.fuse_session.specs.Processed.{entry_if, performed_if, message_entry}
use Rattle.fuse_sim.specs.declared.event.Fate.{Fate}
use Rattle.fuse_sim.specs.declared.event.Fate.TheVariants.{Answered, AnswerLost, DiedBeforeCommit, DiedAfterCommit}
use Rattle.fuse_sim.specs.declared.event.Event.{Event}
use Rattle.fuse_sim.specs.Driving.{commits_by, commits_in, performs, performs_in, dies, dies_before, IsFit}
use Rattle.fuse_sim.specs.HandedOn.{one_run, begins_next, groups_from, groups_of_events, dies_in}
use Rattle.fuse_sim.specs.inner.HandedBy.{IsOneGroup, EndsGroup}
use Rattle.fuse_sim.specs.inner.Running.{IsGroupRun, StartsNone, HasNoPlace, StopsAt}
use Rattle.fuse_sim.specs.declared.group.Group.{Group}

-- ---- what is performed, and what of it is kept

pub performs-append : (V : Service) (xs ys : List Event) → performs_in V (xs ++ ys) ≡ performs_in V xs ++ performs_in V ys
performs-append V xs ys = flat_map-append (performs V) xs ys

kept_class : SeenByClass → (V : Service) (bytes : List ℕ) (moment : Moment) (class : Class) → class_for V bytes ≡ class
    → kept_of V (performed_if class (message_entry bytes moment)) ≡ entry_if class (message_entry bytes moment)
kept_class sees V bytes moment Silent is = refl
kept_class sees V bytes moment (Bare errno) is = refl
kept_class sees V bytes moment Kept is = ap (λ b. unless_seen b (message_entry bytes moment) ++ []) (sees V bytes false is)
kept_class sees V bytes moment Seen is = ap (λ b. unless_seen b (message_entry bytes moment) ++ []) (sees V bytes true is)

kept_fate : (V : Service) (fate : Fate) (es ds : List Entry) → kept_of V es ≡ ds → kept_of V (commits_by fate es) ≡ commits_by fate ds
kept_fate V Answered es ds is = is
kept_fate V AnswerLost es ds is = is
kept_fate V DiedBeforeCommit es ds is = refl
kept_fate V DiedAfterCommit es ds is = is

-- the kept ones of those that are performed are committed
pub kept_performs : SeenByClass → (V : Service) (es : List Event) → kept_of V (performs_in V es) ≡ commits_in V es
kept_performs sees V [] = refl
kept_performs sees V (e ∷ es) =
    let class = class_for V e.bytes in
    let x = message_entry e.bytes e.moment in
    flat_map-append (kept_one V) (performs V e) (performs_in V es)
    ∙ ap (λ r. r ++ kept_of V (performs_in V es)) (kept_fate V e.fate (performed_if class x) (entry_if class x) (kept_class sees V e.bytes e.moment class refl))
    ∙ ap (λ r. commits_by e.fate (entry_if class x) ++ r) (kept_performs sees V es)

one_class : (class : Class) (x : Entry) → (length (performed_if class x) ≤ 1) × (length (entry_if class x) ≤ length (performed_if class x))
one_class Silent x = (omega arith, omega arith)
one_class (Bare errno) x = (omega arith, omega arith)
one_class Kept x = (omega arith, omega arith)
one_class Seen x = (omega arith, omega arith)

one_fate : (fate : Fate) (es ds : List Entry) → (length es ≤ 1) × (length ds ≤ length es)
    → (length (commits_by fate es) ≤ 1) × (length (commits_by fate ds) ≤ length (commits_by fate es))
one_fate Answered es ds is = is
one_fate AnswerLost es ds is = is
one_fate DiedBeforeCommit es ds is = (omega arith, omega arith)
one_fate DiedAfterCommit es ds is = is

one_both : (V : Service) (e : Event) → (length (performs V e) ≤ 1) × (length (commits_by e.fate (entry_if (class_for V e.bytes) (message_entry e.bytes e.moment))) ≤ length (performs V e))
one_both V e =
    let class = class_for V e.bytes in
    let x = message_entry e.bytes e.moment in
    one_fate e.fate (performed_if class x) (entry_if class x) (one_class class x)

-- an event has at most one
pub one_performed : (V : Service) (e : Event) → length (performs V e) ≤ 1
one_performed V e = (one_both V e).0

pub commits_fewer_one : (V : Service) (e : Event) → length (commits_by e.fate (entry_if (class_for V e.bytes) (message_entry e.bytes e.moment))) ≤ length (performs V e)
commits_fewer_one V e = (one_both V e).1

-- no more are kept than are performed
pub commits_fewer : (V : Service) (es : List Event) → length (commits_in V es) ≤ length (performs_in V es)
commits_fewer V [] = omega arith
commits_fewer V (e ∷ es) =
    let c = commits_by e.fate (entry_if (class_for V e.bytes) (message_entry e.bytes e.moment)) in
    omega (
      arith,
      commits_fewer V es,
      commits_fewer_one V e,
      length-append c (commits_in V es),
      length-append (performs V e) (performs_in V es),
    )

-- ---- the next event

ended_if : Bool → List Event → List (List Event)
ended_if b begun = if b then one_run begun else []

with_if : Bool → List Event → Event → List Event
with_if b begun e = if b then e ∷ [] else begun ++ e ∷ []

-- the groups after an event, whose group this is up to it, where the server dies at the event or not
pub groups_then : Service → Bool → List Event → List Event → List (List Event)
groups_then V d group es = if d then group ∷ groups_from V [] es else groups_from V group es

next_is : (V : Service) (begun : List Event) (e : Event) (es : List Event) (b : Bool) → begins_next V begun e ≡ b
    → groups_from V begun (e ∷ es) ≡ ended_if b begun ++ groups_then V (dies e.fate) (with_if b begun e) es
unfolding ended_if with_if groups_then
next_is V begun e es b is = ap (λ x. ended_if x begun ++ groups_then V (dies e.fate) (with_if x begun e) es) is

-- it begins the next group, or it joins the one that was begun
pub next_begins : (V : Service) (begun : List Event) (e : Event) (es : List Event) → begins_next V begun e ≡ true
    → groups_from V begun (e ∷ es) ≡ one_run begun ++ groups_then V (dies e.fate) (e ∷ []) es
unfolding ended_if with_if
next_begins V begun e es is = next_is V begun e es true is

pub next_joins : (V : Service) (begun : List Event) (e : Event) (es : List Event) → begins_next V begun e ≡ false
    → groups_from V begun (e ∷ es) ≡ groups_then V (dies e.fate) (begun ++ e ∷ []) es
unfolding ended_if with_if
next_joins V begun e es is = next_is V begun e es false is

-- the first event of all
pub first_begins : (V : Service) (e : Event) (es : List Event) → groups_from V [] (e ∷ es) ≡ groups_then V (dies e.fate) (e ∷ []) es
unfolding ended_if with_if
first_begins V e es =
    next_is V [] e es (begins_next V [] e) refl
    ∙ elim (begins_next V [] e) as (λ b. ended_if b [] ++ groups_then V (dies e.fate) (with_if b [] e) es ≡ groups_then V (dies e.fate) (e ∷ []) es)
    [ true ↦ refl | false ↦ refl ]

pub then_dies : (V : Service) (d : Bool) (group es : List Event) → d ≡ true → groups_then V d group es ≡ group ∷ groups_from V [] es
unfolding groups_then
then_dies V d group es is = ap (λ b. groups_then V b group es) is

pub then_calm : (V : Service) (d : Bool) (group es : List Event) → d ≡ false → groups_then V d group es ≡ groups_from V group es
unfolding groups_then
then_calm V d group es is = ap (λ b. groups_then V b group es) is

-- ---- where it begins the next one, and where not

or_right : (a b : Bool) → b ≡ true → (a || b) ≡ true
or_right true b is = refl
or_right false b is = is

or_none : (a b : Bool) → a ≡ false → b ≡ false → (a || b) ≡ false
or_none true b isnt is = absurd (cc isnt)
or_none false b isnt is = is

or_neither : (a b : Bool) → (a || b) ≡ false → (a ≡ false) × (b ≡ false)
or_neither true b is = absurd (cc is)
or_neither false b is = (refl, is)

pub begins_lost : (V : Service) (begun : List Event) (e : Event) → dies_before e.fate ≡ true → begins_next V begun e ≡ true
begins_lost V begun e lost = ap (λ b. b || nat_lt 16 (length (performs_in V begun) + length (performs V e))) lost

pub begins_over : (V : Service) (begun : List Event) (e : Event) → 16 < length (performs_in V begun) + length (performs V e) → begins_next V begun e ≡ true
begins_over V begun e many =
    let n = length (performs_in V begun) + length (performs V e) in
    let over : nat_lt 16 n ≡ true = grind (arith, many) in
    or_right (dies_before e.fate) (nat_lt 16 n) over

pub joins_few : (V : Service) (begun : List Event) (e : Event) → dies_before e.fate ≡ false → length (performs_in V begun) + length (performs V e) ≤ 16
    → begins_next V begun e ≡ false
joins_few V begun e goes few =
    let n = length (performs_in V begun) + length (performs V e) in
    let low : nat_lt 16 n ≡ false = grind (arith, few) in
    or_none (dies_before e.fate) (nat_lt 16 n) goes low

pub few_joined : (V : Service) (begun : List Event) (e : Event) → begins_next V begun e ≡ false → length (performs_in V begun) + length (performs V e) ≤ 16
few_joined V begun e is =
    let n = length (performs_in V begun) + length (performs V e) in
    let low : nat_lt 16 n ≡ false = (or_neither (dies_before e.fate) (nat_lt 16 n) is).1 in
    grind (arith, low)

-- ---- a group

one_some : (begun : List Event) (e : Event) (es : List Event) → one_run (begun ++ e ∷ es) ≡ (begun ++ e ∷ es) ∷ []
one_some [] e es = refl
one_some (x ∷ begun) e es = refl

calm_goes : (fate : Fate) → dies fate ≡ false → dies_before fate ≡ false
calm_goes Answered is = refl
calm_goes AnswerLost is = refl
calm_goes DiedBeforeCommit is = absurd (cc is)
calm_goes DiedAfterCommit is = refl

-- the next event begins another group, if there is one
StartsNext : Service → List Event → List Event → Type 0
StartsNext V group [] = Unit {0}
StartsNext V group (e ∷ es) = begins_next V group e ≡ true

ends_now : (V : Service) (begun more : List Event) → StartsNext V begun more → groups_from V begun more ≡ one_run begun ++ groups_from V [] more
unfolding StartsNext
ends_now V begun [] starts = sym (append-nil (one_run begun))
ends_now V begun (e ∷ es) starts = next_begins V begun e es starts ∙ ap (λ gs. one_run begun ++ gs) (sym (first_begins V e es))

few_more : (V : Service) (begun : List Event) (e : Event) (es : List Event) → length (performs_in V begun) + length (performs_in V (e ∷ es)) ≤ 16
    → (length (performs_in V begun) + length (performs V e) ≤ 16) × (length (performs_in V (begun ++ e ∷ [])) + length (performs_in V es) ≤ 16)
few_more V begun e es few =
    let one = length-append (performs V e) (performs_in V es) in
    let first : performs_in V (begun ++ e ∷ []) ≡ performs_in V begun ++ (performs V e ++ []) = performs-append V begun (e ∷ []) in (
      omega (arith, few, one),
      omega (arith, few, one, ap length first, length-append (performs_in V begun) (performs V e ++ []), ap length (append-nil (performs V e))),
    )

ends_after : (V : Service) (died : Bool) (begun run more : List Event) → IsGroupRun died run → length (performs_in V begun) + length (performs_in V run) ≤ 16
    → (died ≡ false → StartsNext V (begun ++ run) more) → groups_from V begun (run ++ more) ≡ one_run (begun ++ run) ++ groups_from V [] more
ends_after V died begun [] more so few starts =
    ap (λ g. groups_from V g more) (sym (append-nil begun)) ∙ ends_now V (begun ++ []) more (starts so)
ends_after V died begun (e ∷ es) more so few starts =
    let rest = few_more V begun e es few in
    elim so [
      | inl calm ↦
          let parts : (begun ++ e ∷ []) ++ es ≡ begun ++ e ∷ es = append_assoc begun (e ∷ []) es in
          next_joins V begun e (es ++ more) (joins_few V begun e (calm_goes e.fate calm.0) rest.0)
          ∙ then_calm V (dies e.fate) (begun ++ e ∷ []) (es ++ more) calm.0
          ∙ ends_after V died (begun ++ e ∷ []) es more calm.1 rest.1 (λ alive. subst (λ g. StartsNext V g more) (sym parts) (starts alive))
          ∙ ap (λ g. one_run g ++ groups_from V [] more) parts
      | inr last ↦
          next_joins V begun e (es ++ more) (joins_few V begun e (ap dies_before last.1) rest.0)
          ∙ then_dies V (dies e.fate) (begun ++ e ∷ []) (es ++ more) (ap dies last.1)
          ∙ ap (λ (xs : List Event). (begun ++ e ∷ []) ∷ groups_from V [] (xs ++ more)) last.2
          ∙ ap (λ (xs : List Event). (begun ++ e ∷ xs) ∷ groups_from V [] more) (sym last.2)
          ∙ ap (λ gs. gs ++ groups_from V [] more) (sym (one_some begun e es))
    ]

pub group_alone : (V : Service) (died : Bool) (run : List Event) → IsGroupRun died run → length (performs_in V run) ≤ 16 → IsOneGroup V run
unfolding StartsNext
group_alone V died run so few =
    ap (groups_from V []) (sym (append-nil run)) ∙ ends_after V died [] run [] so (omega (arith, few)) (λ _. tt) ∙ append-nil (one_run run)

-- the next one is among the others
starts_here : (V : Service) (group : Group) (run : List Event) (others more rest : List Event) → length (performs_in V run) ≡ length group.taken.items
    → HasNoPlace V group others ⊎ StartsNone others → others ≡ more ++ rest → All IsFit more → StartsNext V run more
unfolding StartsNext
starts_here V group run others [] rest count stops parts fit = tt
starts_here V group run others (e ∷ more) rest count stops parts fit = elim stops [
  | inl full ↦
      let here = subst (HasNoPlace V group) parts full in
      let all : length group.taken.items ≡ 16 = here.0 in
      let some : 0 < length (performs V e) = here.1 in
      begins_over V run e (omega (arith, count, all, some))
  | inr none ↦ elim (subst StartsNone parts none) [
    | inl lost ↦ begins_lost V run e lost
    | inr unfit ↦ absurd (unfit (fit 0 e (omega arith)))
  ]
]

pub group_ends : (V : Service) (group : Group) (run others : List Event) → IsGroupRun group.died run → length (performs_in V run) ≡ length group.taken.items
    → length (performs_in V run) ≤ 16 → StopsAt V group others → EndsGroup V run others
group_ends V group run others so count few stops more rest parts fit =
    ends_after V group.died [] run more so (omega (arith, few)) (λ alive. starts_here V group run others more rest count (stops alive) parts fit)
    ∙ ap (λ gs. gs ++ groups_from V [] more) (sym (group_alone V group.died run so few))

-- ---- an event that is lost

lost_first : (V : Service) (e : Event) (more : List Event) → dies e.fate ≡ true → groups_from V [] (e ∷ more) ≡ (e ∷ []) ∷ groups_from V [] more
lost_first V e more died = first_begins V e more ∙ then_dies V (dies e.fate) (e ∷ []) more died

pub lost_alone : (V : Service) (e : Event) → dies e.fate ≡ true → IsOneGroup V (e ∷ [])
lost_alone V e died = lost_first V e [] died

pub lost_ends : (V : Service) (e : Event) (others : List Event) → dies e.fate ≡ true → EndsGroup V (e ∷ []) others
lost_ends V e others died more rest parts fit =
    lost_first V e more died ∙ ap (λ gs. gs ++ groups_from V [] more) (sym (lost_first V e [] died))

-- ---- events, and then others

pub none_ends : (V : Service) (others : List Event) → EndsGroup V [] others
none_ends V others more rest parts fit = refl

pub ends_more : (V : Service) (xs run others others' : List Event) → EndsGroup V xs others → EndsGroup V run others' → others ≡ run ++ others'
    → All IsFit run → ((ys : List Event) → All IsFit ys → All IsFit (run ++ ys)) → EndsGroup V (xs ++ run) others'
ends_more V xs run others others' one two parts fit both more rest split each =
    let all : others ≡ (run ++ more) ++ rest = parts ∙ ap (λ es. run ++ es) split ∙ sym (append_assoc run more rest) in
    ap (groups_from V []) (append_assoc xs run more) ∙ one (run ++ more) rest all (both more each)
    ∙ ap (λ gs. groups_from V [] xs ++ gs) (two more rest split each)
    ∙ sym (append_assoc (groups_from V [] xs) (groups_from V [] run) (groups_from V [] more))
    ∙ ap (λ gs. gs ++ groups_from V [] more) (sym (one run others' parts fit))

-- no event is left out
abbrev pub all_in : List (List Event) → List Event
all_in [] = []
all_in (group ∷ groups) = group ++ all_in groups

all_in-append : (xs ys : List (List Event)) → all_in (xs ++ ys) ≡ all_in xs ++ all_in ys
all_in-append [] ys = refl
all_in-append (x ∷ xs) ys = ap (λ es. x ++ es) (all_in-append xs ys) ∙ sym (append_assoc x (all_in xs) (all_in ys))

all_one : (group : List Event) → all_in (one_run group) ≡ group
all_one [] = refl
all_one (e ∷ es) = append-nil (e ∷ es)

all_then : (V : Service) (d : Bool) (group es : List Event) → ((begun : List Event) → all_in (groups_from V begun es) ≡ begun ++ es)
    → all_in (groups_then V d group es) ≡ group ++ es
unfolding groups_then
all_then V true group es each = ap (λ x. group ++ x) (each [])
all_then V false group es each = each group

pub tested_next : (V : Service) (begun : List Event) (e : Event) → (begins_next V begun e ≡ true) ⊎ (begins_next V begun e ≡ false)
tested_next V begun e = cases_Bool (begins_next V begun e)

all_from : (V : Service) (begun es : List Event) → all_in (groups_from V begun es) ≡ begun ++ es
all_from V begun [] = all_one begun ∙ sym (append-nil begun)
all_from V begun (e ∷ es) =
    let each = λ (g : List Event). all_from V g es in
    elim (tested_next V begun e) [
      | inl begins ↦
          ap all_in (next_begins V begun e es begins) ∙ all_in-append (one_run begun) (groups_then V (dies e.fate) (e ∷ []) es)
          ∙ ap (λ x. x ++ all_in (groups_then V (dies e.fate) (e ∷ []) es)) (all_one begun)
          ∙ ap (λ x. begun ++ x) (all_then V (dies e.fate) (e ∷ []) es each)
      | inr joins ↦
          ap all_in (next_joins V begun e es joins) ∙ all_then V (dies e.fate) (begun ++ e ∷ []) es each ∙ append_assoc begun (e ∷ []) es
    ]

pub all_of_events : (V : Service) (es : List Event) → all_in (groups_of_events V es) ≡ es
all_of_events V es = all_from V [] es

-- ---- deaths

pub group_dies : (died : Bool) (run : List Event) → IsGroupRun died run → dies_in run ≡ died
group_dies died [] so = sym so
group_dies died (e ∷ es) so = elim so [
  | inl calm ↦ ap (λ b. b || dies_in es) calm.0 ∙ group_dies died es calm.1
  | inr last ↦ ap (λ b. b || dies_in es) (ap dies last.1) ∙ sym last.0
]

pub dies-append : (xs ys : List Event) → dies_in xs ≡ false → dies_in (xs ++ ys) ≡ dies_in ys
dies-append [] ys calm = refl
dies-append (x ∷ xs) ys calm =
    let both = or_neither (dies x.fate) (dies_in xs) calm in
    ap (λ b. b || dies_in (xs ++ ys)) both.0 ∙ dies-append xs ys both.1
