-- Which records go: an id is handed on soon after its answer was taken, and not before.
use Rattle.std.proofs.Common.{◌≡◌, ◌⊎◌, inl, inr, ℕ, zero, suc, ◌+◌, ◌≤◌, ◌<◌, ◌==◌, ◌||◌, Bool, true, false, if◌then◌else◌, List, [], ◌∷◌, ◌++◌, length, All, refl, sym}
use Rattle.std.proofs.Common.{ap, ◌∙◌, length-append, arith}
use Rattle.std.proofs.lemmas.List.{append-nil}
use Rattle.std.proofs.lemmas.List.Elements.{All-nil, All-cons}
use Rattle.std.proofs.lemmas.Bool.{cases_Bool}
use Rattle.fuse_request.specs.Opcodes.{Service}
use Rattle.fuse_request.specs.declared.class.Class.{Class}
use Rattle.fuse_request.specs.declared.class.Class.TheVariants.{Silent, Bare, Kept, Seen}
use Rattle.fuse_request.specs.Classes.{class_for}
use Rattle.fuse_keeper.specs.History.{Entry, is_in}
use Rattle.fuse_keeper.specs.Group.{handed_to, left_pending}
use Rattle.fuse_keeper.specs.Performance.{performances_of}
use Rattle.fuse_session.specs.Processed.{message_id}
use Rattle.fuse_session.specs.Settling.{settles_if}
use Rattle.fuse_sim.specs.declared.event.Fate.{Fate}
use Rattle.fuse_sim.specs.declared.event.Fate.TheVariants.{Answered, AnswerLost, DiedBeforeCommit, DiedAfterCommit}
use Rattle.fuse_sim.specs.declared.event.Event.{Event}
use Rattle.fuse_sim.specs.Driving.{commits, commits_in, performs, performs_in, settles, settles_in, is_taken, dies, Calm, EventIn, up_to}
use Rattle.fuse_sim.specs.HandedOn.{one_run, begins_next, groups_from, dies_in, pending_then, asked_by_groups, handed_on_in}
use Rattle.fuse_sim.specs.inner.HandedBy.{handed_on}
use Rattle.fuse_sim.specs.LeftRecords.{Follow, SettledBefore}
use Rattle.fuse_sim.proofs.Settled.{includes_left, includes_right, in_either}
use Rattle.fuse_sim.proofs.Gathered.{commits-append}
use Rattle.fuse_sim.proofs.Cutting.{one_performed, commits_fewer_one, performs-append, groups_then, next_begins, next_joins, then_dies, then_calm, few_joined, tested_next, dies-append}
use Rattle.fuse_sim.proofs.Ledgers.{commits_one, settles-append, handed_on_in-append, group_hands}

-- ---- what an event settles

settles_only_by : (b : Bool) (class : Class) (n i : ℕ) → is_in (settles_if b class n) i ≡ true → settles_if b class n ≡ i ∷ []
settles_only_by false class n i there = absurd (cc there)
settles_only_by true Silent n i there = absurd (cc there)
settles_only_by true (Bare errno) n i there = absurd (cc there)
settles_only_by true Kept n i there = elim (cases_Bool (n == i)) [
  | inl same ↦ let e : n ≡ i = grind (arith, same) in ap (λ (x : ℕ). x ∷ []) e
  | inr other ↦ absurd (let isnt = sym there ∙ ap (λ b. b || false) other in cc isnt)
]
settles_only_by true Seen n i there = absurd (cc there)

settles_only : (V : Service) (e : Event) (i : ℕ) → is_in (settles V e) i ≡ true → settles V e ≡ i ∷ []
settles_only V e i there = settles_only_by (is_taken e.fate) (class_for V e.bytes) (message_id e.bytes) i there

settled_calm : (fate : Fate) (class : Class) (n i : ℕ) → settles_if (is_taken fate) class n ≡ i ∷ [] → dies fate ≡ false
settled_calm Answered class n i is = refl
settled_calm AnswerLost class n i is = refl
settled_calm DiedBeforeCommit class n i is = absurd (cc is)
settled_calm DiedAfterCommit class n i is = absurd (cc is)

itself : (i : ℕ) → (i == i) ≡ true
itself i = grind arith

one_in : (i : ℕ) → is_in (i ∷ []) i ≡ true
one_in i = ap (λ b. b || false) (itself i)

-- ---- the group that was begun, and the event that comes next

-- the ids that are handed on with a group
hands : Service → List ℕ → List Event → List ℕ
hands V p group = handed_on_in (performances_of (performs_in V group) (handed_to (commits_in V group) p))

-- and with the groups of events, where the first one was begun with these
hands_from : Service → List ℕ → List Event → List Event → List ℕ
hands_from V p begun es = handed_on_in (asked_by_groups V p (groups_from V begun es))

-- where this is the group of the event before them
hands_then : Service → List ℕ → Bool → List Event → List Event → List ℕ
hands_then V p d group es = handed_on_in (asked_by_groups V p (groups_then V d group es))

first_hands : (V : Service) (p : List ℕ) (group : List Event) (groups : List (List Event))
    → handed_on_in (asked_by_groups V p (group ∷ groups)) ≡ hands V p group ++ handed_on_in (asked_by_groups V (pending_then V p group) groups)
unfolding hands
first_hands V p group groups =
    handed_on_in-append (performances_of (performs_in V group) (handed_to (commits_in V group) p)) (asked_by_groups V (pending_then V p group) groups)

run_hands : (V : Service) (p : List ℕ) (group : List Event) (groups : List (List Event))
    → handed_on_in (asked_by_groups V p (one_run group ++ groups)) ≡ hands V p group ++ handed_on_in (asked_by_groups V (pending_then V p group) groups)
unfolding hands
run_hands V p [] groups = ap (λ q. handed_on_in (asked_by_groups V q groups)) (sym (append-nil p))
run_hands V p (e ∷ es) groups = first_hands V p (e ∷ es) groups

end_hands : (V : Service) (p : List ℕ) (begun : List Event) → hands_from V p begun [] ≡ hands V p begun ++ []
unfolding hands_from
end_hands V p begun = ap (λ gs. handed_on_in (asked_by_groups V p gs)) (sym (append-nil (one_run begun))) ∙ run_hands V p begun []

hands_begins : (V : Service) (p : List ℕ) (begun : List Event) (e : Event) (es : List Event) → begins_next V begun e ≡ true
    → hands_from V p begun (e ∷ es) ≡ hands V p begun ++ hands_then V (pending_then V p begun) (dies e.fate) (e ∷ []) es
unfolding hands_from hands_then
hands_begins V p begun e es is =
    ap (λ gs. handed_on_in (asked_by_groups V p gs)) (next_begins V begun e es is) ∙ run_hands V p begun (groups_then V (dies e.fate) (e ∷ []) es)

hands_joins : (V : Service) (p : List ℕ) (begun : List Event) (e : Event) (es : List Event) → begins_next V begun e ≡ false
    → hands_from V p begun (e ∷ es) ≡ hands_then V p (dies e.fate) (begun ++ e ∷ []) es
unfolding hands_from hands_then
hands_joins V p begun e es is = ap (λ gs. handed_on_in (asked_by_groups V p gs)) (next_joins V begun e es is)

hands_dies : (V : Service) (p : List ℕ) (d : Bool) (group es : List Event) → d ≡ true
    → hands_then V p d group es ≡ hands V p group ++ hands_from V (pending_then V p group) [] es
unfolding hands_from hands_then
hands_dies V p d group es is = ap (λ gs. handed_on_in (asked_by_groups V p gs)) (then_dies V d group es is) ∙ first_hands V p group (groups_from V [] es)

hands_calm : (V : Service) (p : List ℕ) (d : Bool) (group es : List Event) → d ≡ false → hands_then V p d group es ≡ hands_from V p group es
unfolding hands_from hands_then
hands_calm V p d group es is = ap (λ gs. handed_on_in (asked_by_groups V p gs)) (then_calm V d group es is)

-- ---- which ids are handed on with a group, and which are pending after it

handed_some : (cs : List Entry) (p : List ℕ) (i : ℕ) → is_in p i ≡ true → 0 < length cs → is_in (handed_to cs p) i ≡ true
handed_some [] p i there some = absurd (omega (arith, some))
handed_some (x ∷ cs) p i there some = there

hands_some : (V : Service) (p : List ℕ) (group : List Event) (i : ℕ) → is_in p i ≡ true → 0 < length (commits_in V group) → is_in (hands V p group) i ≡ true
unfolding hands
hands_some V p group i there some = ap (λ x. is_in x i) (group_hands V group p) ∙ handed_some (commits_in V group) p i there some

handed_only : (cs : List Entry) (p : List ℕ) (i : ℕ) → is_in (handed_to cs p) i ≡ true → (is_in p i ≡ true) × (0 < length cs)
handed_only [] p i there = absurd (cc there)
handed_only (x ∷ cs) p i there = (there, omega arith)

hands_only : (V : Service) (p : List ℕ) (group : List Event) (i : ℕ) → is_in (hands V p group) i ≡ true → (is_in p i ≡ true) × (0 < length (commits_in V group))
unfolding hands
hands_only V p group i there = handed_only (commits_in V group) p i (sym (ap (λ x. is_in x i) (group_hands V group p)) ∙ there)

then_is : (V : Service) (p : List ℕ) (group : List Event) → dies_in group ≡ false → pending_then V p group ≡ left_pending (commits_in V group) p ++ settles_in V group
then_is V p group calm = ap (λ b. if b then [] else left_pending (commits_in V group) p ++ settles_in V group) calm

left_all : (cs : List Entry) (p : List ℕ) (i : ℕ) → cs ≡ [] → is_in p i ≡ true → is_in (left_pending cs p) i ≡ true
left_all [] p i none there = there
left_all (x ∷ cs) p i none there = absurd (cc none)

then_pending : (V : Service) (p : List ℕ) (group : List Event) (i : ℕ) → dies_in group ≡ false → commits_in V group ≡ [] → is_in p i ≡ true
    → is_in (pending_then V p group) i ≡ true
then_pending V p group i calm none there = ap (λ x. is_in x i) (then_is V p group calm)
    ∙ includes_left (left_pending (commits_in V group) p) (settles_in V group) i (left_all (commits_in V group) p i none there)

then_settled : (V : Service) (p : List ℕ) (group : List Event) (i : ℕ) → dies_in group ≡ false → is_in (settles_in V group) i ≡ true
    → is_in (pending_then V p group) i ≡ true
then_settled V p group i calm there = ap (λ x. is_in x i) (then_is V p group calm)
    ∙ includes_right (left_pending (commits_in V group) p) (settles_in V group) i there

left_only : (cs : List Entry) (p : List ℕ) (i : ℕ) → is_in (left_pending cs p) i ≡ true → is_in p i ≡ true
left_only [] p i there = there
left_only (x ∷ cs) p i there = absurd (cc there)

then_only : (V : Service) (p : List ℕ) (group : List Event) (i : ℕ) → dies_in group ≡ false → is_in (pending_then V p group) i ≡ true
    → (is_in p i ≡ true) ⊎ (is_in (settles_in V group) i ≡ true)
then_only V p group i calm there = elim (in_either (left_pending (commits_in V group) p) (settles_in V group) i (sym (ap (λ x. is_in x i) (then_is V p group calm)) ∙ there)) [
  | inl left ↦ inl (left_only (commits_in V group) p i left)
  | inr settled ↦ inr settled
]

-- ---- the group with one event more

dies_one : (e : Event) → Calm e → dies_in (e ∷ []) ≡ false
dies_one e calm = ap (λ b. b || false) calm

dies_more : (begun : List Event) (e : Event) → dies_in begun ≡ false → Calm e → dies_in (begun ++ e ∷ []) ≡ false
dies_more begun e calm here = dies-append begun (e ∷ []) calm ∙ dies_one e here

commits_last : (V : Service) (begun : List Event) (e : Event) → length (commits_in V (begun ++ e ∷ [])) ≡ length (commits_in V begun) + length (commits V e)
commits_last V begun e = ap length (commits-append V begun (e ∷ [])) ∙ length-append (commits_in V begun) (commits V e ++ [])
    ∙ ap (λ (cs : List Entry). length (commits_in V begun) + length cs) (append-nil (commits V e))

performs_last : (V : Service) (begun : List Event) (e : Event) → length (performs_in V (begun ++ e ∷ [])) ≡ length (performs_in V begun) + length (performs V e)
performs_last V begun e = ap length (performs-append V begun (e ∷ [])) ∙ length-append (performs_in V begun) (performs V e ++ [])
    ∙ ap (λ (cs : List Entry). length (performs_in V begun) + length cs) (append-nil (performs V e))

commits_more : (V : Service) (e : Event) (es : List Event) → length (commits_in V (e ∷ es)) ≡ length (commits V e) + length (commits_in V es)
commits_more V e es = length-append (commits V e) (commits_in V es)

-- ---- what is pending is handed on with the next kept one

rest_kept : (V : Service) (p : List ℕ) (d : Bool) (group es : List Event) (i : ℕ) → is_in p i ≡ true → 0 < length (commits_in V group)
    → is_in (hands_from V p group es) i ≡ true → is_in (hands_then V p d group es) i ≡ true
rest_kept V p d group es i there some more = elim (cases_Bool d) [
  | inl died ↦ ap (λ x. is_in x i) (hands_dies V p d group es died)
      ∙ includes_left (hands V p group) (hands_from V (pending_then V p group) [] es) i (hands_some V p group i there some)
  | inr calm ↦ ap (λ x. is_in x i) (hands_calm V p d group es calm) ∙ more
]

-- with the group that was begun, where it has a kept one
begun_kept : (V : Service) (p : List ℕ) (begun es : List Event) (i : ℕ) → is_in p i ≡ true → 0 < length (commits_in V begun) → is_in (hands_from V p begun es) i ≡ true
begun_kept V p begun [] i there some = ap (λ x. is_in x i) (end_hands V p begun) ∙ includes_left (hands V p begun) [] i (hands_some V p begun i there some)
begun_kept V p begun (e ∷ es) i there some = elim (tested_next V begun e) [
  | inl begins ↦ ap (λ x. is_in x i) (hands_begins V p begun e es begins)
      ∙ includes_left (hands V p begun) (hands_then V (pending_then V p begun) (dies e.fate) (e ∷ []) es) i (hands_some V p begun i there some)
  | inr joins ↦
      let more : 0 < length (commits_in V (begun ++ e ∷ [])) = omega (arith, some, commits_last V begun e) in
      ap (λ x. is_in x i) (hands_joins V p begun e es joins)
      ∙ rest_kept V p (dies e.fate) (begun ++ e ∷ []) es i there more (begun_kept V p (begun ++ e ∷ []) es i there more)
]

-- where the next event is kept
next_kept : (V : Service) (p : List ℕ) (d : Bool) (group es : List Event) (i : ℕ) → is_in p i ≡ true → 0 < length (commits_in V group)
    → is_in (hands_then V p d group es) i ≡ true
next_kept V p d group es i there some = rest_kept V p d group es i there some (begun_kept V p group es i there some)

-- the event comes, and then what is said of any ids and any group of it
comes_next : (V : Service) (p : List ℕ) (begun : List Event) (e : Event) (es : List Event) (i : ℕ) → is_in p i ≡ true → dies_in begun ≡ false → commits_in V begun ≡ []
    → ((q : List ℕ) (group : List Event) → is_in q i ≡ true → length (commits_in V group) ≡ length (commits V e) → (Calm e → dies_in group ≡ false)
    → is_in (hands_then V q (dies e.fate) group es) i ≡ true)
    → is_in (hands_from V p begun (e ∷ es)) i ≡ true
comes_next V p begun e es i there calm none more = elim (tested_next V begun e) [
  | inl begins ↦
      ap (λ x. is_in x i) (hands_begins V p begun e es begins)
      ∙ includes_right (hands V p begun) (hands_then V (pending_then V p begun) (dies e.fate) (e ∷ []) es) i
      (more (pending_then V p begun) (e ∷ []) (then_pending V p begun i calm none there) (omega (arith, commits_more V e [])) (dies_one e))
  | inr joins ↦
      ap (λ x. is_in x i) (hands_joins V p begun e es joins)
      ∙ more p (begun ++ e ∷ []) there (omega (arith, commits_last V begun e, ap length none)) (dies_more begun e calm)
]

some_kept : (cs : List Entry) → (cs ≡ []) ⊎ (0 < length cs)
some_kept [] = inl refl
some_kept (x ∷ cs) = inr (omega arith)

pending_soon : (V : Service) (p : List ℕ) (begun between : List Event) (last : Event) (later : List Event) (i : ℕ) → is_in p i ≡ true → dies_in begun ≡ false
    → All Calm between → 0 < length (commits_in V (between ++ last ∷ [])) → is_in (hands_from V p begun (between ++ last ∷ later)) i ≡ true
pending_soon V p begun [] last later i there calm each some = elim (some_kept (commits_in V begun)) [
  | inr kept ↦ begun_kept V p begun (last ∷ later) i there kept
  | inl none ↦ comes_next V p begun last later i there calm none
      (λ q group has count here. next_kept V q (dies last.fate) group later i has (omega (arith, some, count, commits_more V last [])))
]
pending_soon V p begun (e ∷ between) last later i there calm each some =
    let first : Calm e = each 0 e (omega arith) in
    let others : All Calm between = λ k d lt. each (suc k) d (omega (arith, lt)) in
    let rest = between ++ last ∷ later in
    elim (some_kept (commits_in V begun)) [
      | inr kept ↦ begun_kept V p begun (e ∷ rest) i there kept
      | inl none ↦ comes_next V p begun e rest i there calm none (λ q group has count here. elim (some_kept (commits_in V group)) [
        | inr kept ↦ next_kept V q (dies e.fate) group rest i has kept
        | inl nothing ↦ ap (λ x. is_in x i) (hands_calm V q (dies e.fate) group rest first)
            ∙ pending_soon V q group between last later i has (here first) others
            (omega (arith, some, count, ap length nothing, commits_more V e (between ++ last ∷ [])))
      ])
    ]

-- ---- what a group settles is handed on once 16 more are committed

settled_soon : (V : Service) (p : List ℕ) (begun between : List Event) (last : Event) (later : List Event) (i : ℕ) → is_in (settles_in V begun) i ≡ true
    → dies_in begun ≡ false → length (performs_in V begun) ≤ 16 → All Calm between
    → 16 < length (performs_in V begun) + length (commits_in V (between ++ last ∷ [])) → is_in (hands_from V p begun (between ++ last ∷ later)) i ≡ true
settled_soon V p begun [] last later i there calm few each many = elim (tested_next V begun last) [
  | inl begins ↦
      ap (λ x. is_in x i) (hands_begins V p begun last later begins)
      ∙ includes_right (hands V p begun) (hands_then V (pending_then V p begun) (dies last.fate) (last ∷ []) later) i
      (next_kept V (pending_then V p begun) (dies last.fate) (last ∷ []) later i (then_settled V p begun i calm there) (omega (arith, few, many)))
  | inr joins ↦ absurd (omega (arith, few_joined V begun last joins, many, commits_more V last [], commits_fewer_one V last))
]
settled_soon V p begun (e ∷ between) last later i there calm few each many =
    let first : Calm e = each 0 e (omega arith) in
    let others : All Calm between = λ k d lt. each (suc k) d (omega (arith, lt)) in
    let rest = between ++ last ∷ later in
    let count = commits_more V e (between ++ last ∷ []) in
    elim (tested_next V begun e) [
      | inl begins ↦
          let q = pending_then V p begun in
          let has = then_settled V p begun i calm there in
          ap (λ x. is_in x i) (hands_begins V p begun e rest begins)
          ∙ includes_right (hands V p begun) (hands_then V q (dies e.fate) (e ∷ []) rest) i (elim (some_kept (commits_in V (e ∷ []))) [
            | inr kept ↦ next_kept V q (dies e.fate) (e ∷ []) rest i has kept
            | inl nothing ↦ ap (λ x. is_in x i) (hands_calm V q (dies e.fate) (e ∷ []) rest first)
                ∙ pending_soon V q (e ∷ []) between last later i has (dies_one e first) others
                (omega (arith, few, many, count, commits_more V e [], ap length nothing))
          ])
      | inr joins ↦
          let more : is_in (settles_in V (begun ++ e ∷ [])) i ≡ true = ap (λ x. is_in x i) (settles-append V begun (e ∷ []))
          ∙ includes_left (settles_in V begun) (settles_in V (e ∷ [])) i there in
          ap (λ x. is_in x i) (hands_joins V p begun e rest joins) ∙ ap (λ x. is_in x i) (hands_calm V p (dies e.fate) (begun ++ e ∷ []) rest first)
          ∙ settled_soon V p (begun ++ e ∷ []) between last later i more (dies_more begun e calm first)
          (omega (arith, few_joined V begun e joins, performs_last V begun e)) others
          (omega (arith, many, count, performs_last V begun e, commits_fewer_one V e))
    ]

-- ---- after the first events

-- whatever is pending then, and whatever group was begun
after_events : (V : Service) (p : List ℕ) (begun earlier rest : List Event) (i : ℕ) → dies_in begun ≡ false → length (performs_in V begun) ≤ 16
    → ((q : List ℕ) (group : List Event) → dies_in group ≡ false → length (performs_in V group) ≤ 16 → is_in (hands_from V q group rest) i ≡ true)
    → is_in (hands_from V p begun (earlier ++ rest)) i ≡ true
after_events V p begun [] rest i calm few more = more p begun calm few
after_events V p begun (e ∷ earlier) rest i calm few more =
    let es = earlier ++ rest in
    let next : (q : List ℕ) (group : List Event) → length (performs_in V group) ≤ 16 → (Calm e → dies_in group ≡ false)
    → is_in (hands_then V q (dies e.fate) group es) i ≡ true = λ q group fits goes.
    elim (cases_Bool (dies e.fate)) [
      | inl died ↦ ap (λ x. is_in x i) (hands_dies V q (dies e.fate) group es died)
          ∙ includes_right (hands V q group) (hands_from V (pending_then V q group) [] es) i
          (after_events V (pending_then V q group) [] earlier rest i refl (omega arith) more)
      | inr here ↦ ap (λ x. is_in x i) (hands_calm V q (dies e.fate) group es here) ∙ after_events V q group earlier rest i (goes here) fits more
    ] in
    elim (tested_next V begun e) [
      | inl begins ↦
          let q = pending_then V p begun in
          ap (λ x. is_in x i) (hands_begins V p begun e es begins)
          ∙ includes_right (hands V p begun) (hands_then V q (dies e.fate) (e ∷ []) es) i
          (next q (e ∷ []) (omega (arith, performs_last V [] e, one_performed V e)) (dies_one e))
      | inr joins ↦ ap (λ x. is_in x i) (hands_joins V p begun e es joins)
          ∙ next p (begun ++ e ∷ []) (omega (arith, few_joined V begun e joins, performs_last V begun e)) (dies_more begun e calm)
    ]

-- one settles the id
one_settles : (V : Service) (p : List ℕ) (begun : List Event) (one : Event) (later : List Event) (i : ℕ) → dies_in begun ≡ false → settles V one ≡ i ∷ []
    → Follow V 16 later → is_in (hands_from V p begun (one ∷ later)) i ≡ true
one_settles V p begun one later i calm settled follow = elim (commits_one V one) [
  | inl none ↦ absurd (let isnt = sym settled ∙ none.1 in cc isnt)
  | inr x ↦
      let here : Calm one = settled_calm one.fate (class_for V one.bytes) (message_id one.bytes) i settled in
      let last = follow.last in
      let many = follow.many in
      let kept = ap length x.1 in
      let soon : (q : List ℕ) (group : List Event) → is_in (settles_in V group) i ≡ true → dies_in group ≡ false → length (performs_in V group) ≤ 16
      → length (performs V one) ≤ length (performs_in V group) → is_in (hands_then V q (dies one.fate) group later) i ≡ true =
      λ q group has goes few some.
      ap (λ y. is_in y i) (hands_calm V q (dies one.fate) group later here) ∙ ap (λ es. is_in (hands_from V q group es) i) last.parts
      ∙ settled_soon V q group last.earlier last.one last.later i has goes few follow.calm (omega (arith, many, some, kept, commits_fewer_one V one)) in
      let it : is_in (settles_in V (one ∷ [])) i ≡ true = ap (λ (s : List ℕ). is_in (s ++ []) i) settled ∙ one_in i in
      elim (tested_next V begun one) [
        | inl begins ↦
            let q = pending_then V p begun in
            ap (λ y. is_in y i) (hands_begins V p begun one later begins)
            ∙ includes_right (hands V p begun) (hands_then V q (dies one.fate) (one ∷ []) later) i
            (soon q (one ∷ []) it (dies_one one here) (omega (arith, performs_last V [] one, one_performed V one)) (omega (arith, performs_last V [] one)))
        | inr joins ↦
            ap (λ y. is_in y i) (hands_joins V p begun one later joins)
            ∙ soon p (begun ++ one ∷ []) (ap (λ y. is_in y i) (settles-append V begun (one ∷ [])) ∙ includes_right (settles_in V begun) (settles_in V (one ∷ [])) i it)
            (dies_more begun one calm here) (omega (arith, few_joined V begun one joins, performs_last V begun one)) (omega (arith, performs_last V begun one))
      ]
]

pub settled_handed : (V : Service) (es : List Event) (i : ℕ) → SettledBefore V 16 es i → is_in (handed_on V [] es) i ≡ true
unfolding hands_from
settled_handed V es i b =
    let at = b.at in
    ap (λ x. is_in (hands_from V [] [] x) i) at.parts
    ∙ after_events V [] [] at.earlier (at.one ∷ at.later) i refl (omega arith) (λ q group calm few. one_settles V q group at.one at.later i calm b.settled b.follow)

-- ---- none is handed on before the first that is committed after it

-- an event of a list, where one more comes first
abbrev one_later : (e : Event) (es : List Event) → EventIn es → EventIn (e ∷ es)
one_later e es at = record { earlier = e ∷ at.earlier; one = at.one; later = at.later; parts = ap (λ (x : List Event). e ∷ x) at.parts }

abbrev first_in : (e : Event) (es : List Event) → EventIn (e ∷ es)
first_in e es = record { earlier = []; one = e; later = es; parts = refl }

follow_more : (V : Service) (e : Event) (es : List Event) → Calm e → Follow V 1 es → Follow V 1 (e ∷ es)
follow_more V e es calm follow = record {
  last = one_later e es follow.last;
  calm = All-cons Calm e follow.last.earlier calm follow.calm;
  many =
      let many = follow.many in
      omega (arith, many, commits_more V e (up_to follow.last));
}

follow_here : (V : Service) (e : Event) (es : List Event) → 0 < length (commits V e) → Follow V 1 (e ∷ es)
follow_here V e es some = record {
  last = first_in e es;
  calm = All-nil Calm;
  many = omega (arith, some, commits_more V e []);
}

before_more : (V : Service) (e : Event) (es : List Event) (i : ℕ) → SettledBefore V 1 es i → SettledBefore V 1 (e ∷ es) i
before_more V e es i b = record { at = one_later e es b.at; settled = b.settled; follow = b.follow }

before_here : (V : Service) (e : Event) (es : List Event) (i : ℕ) → is_in (settles V e) i ≡ true → Follow V 1 es → SettledBefore V 1 (e ∷ es) i
before_here V e es i there follow = record { at = first_in e es; settled = settles_only V e i there; follow = follow }

-- the group that was begun has a kept one, or one follows
Comes : Service → List Event → List Event → Type 0
Comes V begun es = (0 < length (commits_in V begun)) ⊎ Follow V 1 es

-- it was pending before the group that was begun, or it is settled by this group or by one of the events
Waits : Service → List ℕ → List Event → List Event → ℕ → Type 0
Waits V p begun es i = ((is_in p i ≡ true) × Comes V begun es) ⊎ (((is_in (settles_in V begun) i ≡ true) × Follow V 1 es) ⊎ SettledBefore V 1 es i)

forgotten : (V : Service) (p : List ℕ) (group : List Event) → dies_in group ≡ true → pending_then V p group ≡ []
forgotten V p group died = ap (λ b. if b then [] else left_pending (commits_in V group) p ++ settles_in V group) died

ends_one : (e : Event) → dies e.fate ≡ true → dies_in (e ∷ []) ≡ true
ends_one e died = ap (λ b. b || false) died

ends_more : (begun : List Event) (e : Event) → dies_in begun ≡ false → dies e.fate ≡ true → dies_in (begun ++ e ∷ []) ≡ true
ends_more begun e calm died = dies-append begun (e ∷ []) calm ∙ ends_one e died

-- what is said of the group of the event
Found : Service → List ℕ → List Event → Event → List Event → ℕ → Type 0
Found V p group e es i = ((is_in p i ≡ true) × ((0 < length (commits_in V group)) ⊎ (Calm e × Follow V 1 es)))
    ⊎ ((Calm e × ((is_in (settles_in V group) i ≡ true) × Follow V 1 es)) ⊎ SettledBefore V 1 es i)

-- what is handed on with the group of the event
waits_then : (V : Service) (p : List ℕ) (group : List Event) (e : Event) (es : List Event) (i : ℕ) → (Calm e → dies_in group ≡ false) → (dies e.fate ≡ true → dies_in group ≡ true)
    → ((q : List ℕ) (begun : List Event) → dies_in begun ≡ false → is_in (hands_from V q begun es) i ≡ true → Waits V q begun es i)
    → is_in (hands_then V p (dies e.fate) group es) i ≡ true → Found V p group e es i
unfolding Waits Comes Found
waits_then V p group e es i goes ends more there = elim (cases_Bool (dies e.fate)) [
  | inl died ↦
      let q = pending_then V p group in
      elim (in_either (hands V p group) (hands_from V q [] es) i (sym (ap (λ x. is_in x i) (hands_dies V p (dies e.fate) group es died)) ∙ there)) [
        | inl now ↦ let both = hands_only V p group i now in inl (both.0, inl both.1)
        | inr later ↦ elim (more q [] refl later) [
          | inl was ↦ absurd (let isnt = sym was.0 ∙ ap (λ x. is_in x i) (forgotten V p group (ends died)) in cc isnt)
          | inr rest ↦ elim rest [
            | inl none ↦ absurd (let isnt = none.0 in cc isnt)
            | inr b ↦ inr (inr b)
          ]
        ]
      ]
  | inr calm ↦ elim (more p group (goes calm) (sym (ap (λ x. is_in x i) (hands_calm V p (dies e.fate) group es calm)) ∙ there)) [
    | inl was ↦ elim was.1 [
      | inl kept ↦ inl (was.0, inl kept)
      | inr follow ↦ inl (was.0, inr (calm, follow))
    ]
    | inr rest ↦ elim rest [
      | inl now ↦ inr (inl (calm, now))
      | inr b ↦ inr (inr b)
    ]
  ]
]

settled_one : (V : Service) (e : Event) (i : ℕ) → is_in (settles_in V (e ∷ [])) i ≡ true → is_in (settles V e) i ≡ true
settled_one V e i there = ap (λ (s : List ℕ). is_in s i) (sym (append-nil (settles V e))) ∙ there

follow_from : (V : Service) (e : Event) (es : List Event) → (0 < length (commits V e)) ⊎ (Calm e × Follow V 1 es) → Follow V 1 (e ∷ es)
follow_from V e es comes = elim comes [ inl kept ↦ follow_here V e es kept | inr later ↦ follow_more V e es later.0 later.1 ]

one_commits : (V : Service) (e : Event) (es : List Event) → (0 < length (commits_in V (e ∷ []))) ⊎ (Calm e × Follow V 1 es)
    → (0 < length (commits V e)) ⊎ (Calm e × Follow V 1 es)
one_commits V e es comes = elim comes [ inl kept ↦ inl (omega (arith, kept, commits_more V e [])) | inr later ↦ inr later ]

-- where it begins another group
waits_begun : (V : Service) (p : List ℕ) (begun : List Event) (e : Event) (es : List Event) (i : ℕ) → dies_in begun ≡ false
    → Found V (pending_then V p begun) (e ∷ []) e es i → Waits V p begun (e ∷ es) i
unfolding Waits Comes Found
waits_begun V p begun e es i calm found = elim found [
  | inl was ↦
      let follow = follow_from V e es (one_commits V e es was.1) in
      elim (then_only V p begun i calm was.0) [
        | inl before ↦ inl (before, inr follow)
        | inr settled ↦ inr (inl (settled, follow))
      ]
  | inr rest ↦ elim rest [
    | inl now ↦ let both = now.1 in inr (inr (before_here V e es i (settled_one V e i both.0) both.1))
    | inr b ↦ inr (inr (before_more V e es i b))
  ]
]

kept_either : (a b : ℕ) → 0 < a + b → (0 < a) ⊎ (0 < b)
kept_either zero b some = inr (omega (arith, some))
kept_either (suc a) b some = inl (omega arith)

comes_joined : (V : Service) (begun : List Event) (e : Event) (es : List Event) → (0 < length (commits_in V (begun ++ e ∷ []))) ⊎ (Calm e × Follow V 1 es)
    → Comes V begun (e ∷ es)
unfolding Comes
comes_joined V begun e es comes = elim comes [
  | inl kept ↦ elim (kept_either (length (commits_in V begun)) (length (commits V e)) (omega (arith, kept, commits_last V begun e))) [
    | inl before ↦ inl before
    | inr here ↦ inr (follow_here V e es here)
  ]
  | inr later ↦ inr (follow_more V e es later.0 later.1)
]

-- where it joins the one that was begun
waits_joined : (V : Service) (p : List ℕ) (begun : List Event) (e : Event) (es : List Event) (i : ℕ) → Found V p (begun ++ e ∷ []) e es i → Waits V p begun (e ∷ es) i
unfolding Waits Comes Found
waits_joined V p begun e es i found = elim found [
  | inl was ↦ inl (was.0, comes_joined V begun e es was.1)
  | inr rest ↦ elim rest [
    | inl now ↦
        let both = now.1 in
        elim (in_either (settles_in V begun) (settles_in V (e ∷ [])) i (sym (ap (λ x. is_in x i) (settles-append V begun (e ∷ []))) ∙ both.0)) [
          | inl before ↦ inr (inl (before, follow_more V e es now.0 both.1))
          | inr here ↦ inr (inr (before_here V e es i (settled_one V e i here) both.1))
        ]
    | inr b ↦ inr (inr (before_more V e es i b))
  ]
]

handed_waits : (V : Service) (p : List ℕ) (begun es : List Event) (i : ℕ) → dies_in begun ≡ false → is_in (hands_from V p begun es) i ≡ true → Waits V p begun es i
unfolding Waits Comes
handed_waits V p begun [] i calm there = elim (in_either (hands V p begun) [] i (sym (ap (λ x. is_in x i) (end_hands V p begun)) ∙ there)) [
  | inl now ↦ let both = hands_only V p begun i now in inl (both.0, inl both.1)
  | inr none ↦ absurd (cc none)
]
handed_waits V p begun (e ∷ es) i calm there =
    let more = λ (q : List ℕ) (group : List Event) (goes : dies_in group ≡ false) (has : is_in (hands_from V q group es) i ≡ true). handed_waits V q group es i goes has in
    elim (tested_next V begun e) [
      | inl begins ↦
          let q = pending_then V p begun in
          elim (in_either (hands V p begun) (hands_then V q (dies e.fate) (e ∷ []) es) i (sym (ap (λ x. is_in x i) (hands_begins V p begun e es begins)) ∙ there)) [
            | inl now ↦ let both = hands_only V p begun i now in inl (both.0, inl both.1)
            | inr later ↦ waits_begun V p begun e es i calm (waits_then V q (e ∷ []) e es i (dies_one e) (ends_one e) more later)
          ]
      | inr joins ↦ waits_joined V p begun e es i
          (waits_then V p (begun ++ e ∷ []) e es i (dies_more begun e calm) (ends_more begun e calm) more (sym (ap (λ x. is_in x i) (hands_joins V p begun e es joins)) ∙ there))
    ]

pub handed_settled : (V : Service) (es : List Event) (i : ℕ) → is_in (handed_on V [] es) i ≡ true → SettledBefore V 1 es i
unfolding Waits Comes hands_from
handed_settled V es i there = elim (handed_waits V [] [] es i refl there) [
  | inl was ↦ absurd (let isnt = was.0 in cc isnt)
  | inr rest ↦ elim rest [
    | inl none ↦ absurd (let isnt = none.0 in cc isnt)
    | inr b ↦ b
  ]
]
