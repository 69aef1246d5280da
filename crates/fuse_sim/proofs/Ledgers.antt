-- Which ids are handed on and pending, group after group.
use Rattle.std.proofs.Common.{◌≡◌, ◌⊎◌, inl, inr, ℕ, ◌≤◌, Bool, true, false, if◌then◌else◌, List, [], ◌∷◌, ◌++◌, length, refl, sym, ap, subst}
use Rattle.std.proofs.Common.{◌∙◌, append_assoc, length-append, arith}
use Rattle.std.proofs.lemmas.List.{append-nil}
use Rattle.std.proofs.lemmas.List.Concat.{flat_map-append}
use Rattle.fuse_request.specs.Opcodes.{Service}
use Rattle.fuse_request.specs.declared.class.Class.{Class}
use Rattle.fuse_request.specs.declared.class.Class.TheVariants.{Silent, Bare, Kept, Seen}
use Rattle.fuse_request.specs.Classes.{class_for}
use Rattle.fuse_keeper.specs.History.{Entry, Includes}
use Rattle.fuse_keeper.specs.Group.{handed_to, left_pending}
use Rattle.fuse_keeper.specs.Performance.{Performance, performances_of}
use Rattle.fuse_session.specs.Processed.{entry_if, message_entry, message_id}
use Rattle.fuse_session.specs.Settling.{settles_if}
use Rattle.fuse_sim.specs.declared.event.Fate.{Fate}
use Rattle.fuse_sim.specs.declared.event.Fate.TheVariants.{Answered, AnswerLost, DiedBeforeCommit, DiedAfterCommit}
use Rattle.fuse_sim.specs.declared.event.Event.{Event}
use Rattle.fuse_sim.specs.Driving.{commits, commits_by, commits_in, performs_in, settles, settles_in, settled_by, is_taken}
use Rattle.fuse_sim.specs.HandedOn.{one_run, groups_of_events, dies_in, pending_then, asked_by_groups, performances, handed_on_in}
use Rattle.fuse_sim.specs.inner.HandedBy.{pending_over, pending_by, handed_on, IsOneGroup, IsCutAt}
use Rattle.fuse_sim.proofs.Settled.{includes_left, includes_right, includes_both}
use Rattle.fuse_sim.proofs.Cutting.{commits_fewer, all_in, all_of_events}

-- ---- what is settled

-- an event commits nothing and settles nothing, or it commits one message
one_by : (fate : Fate) (class : Class) (e : Entry) (i : ℕ) → ((commits_by fate (entry_if class e) ≡ []) × (settles_if (is_taken fate) class i ≡ []))
    ⊎ ((x : Entry) × (commits_by fate (entry_if class e) ≡ x ∷ []))
one_by Answered Silent e i = inl (refl, refl)
one_by Answered (Bare errno) e i = inl (refl, refl)
one_by Answered Kept e i = inr (e, refl)
one_by Answered Seen e i = inl (refl, refl)
one_by AnswerLost Silent e i = inl (refl, refl)
one_by AnswerLost (Bare errno) e i = inl (refl, refl)
one_by AnswerLost Kept e i = inr (e, refl)
one_by AnswerLost Seen e i = inl (refl, refl)
one_by DiedBeforeCommit class e i = inl (refl, refl)
one_by DiedAfterCommit Silent e i = inl (refl, refl)
one_by DiedAfterCommit (Bare errno) e i = inl (refl, refl)
one_by DiedAfterCommit Kept e i = inr (e, refl)
one_by DiedAfterCommit Seen e i = inl (refl, refl)

pub commits_one : (V : Service) (e : Event) → ((commits V e ≡ []) × (settles V e ≡ [])) ⊎ ((x : Entry) × (commits V e ≡ x ∷ []))
commits_one V e = one_by e.fate (class_for V e.bytes) (message_entry e.bytes e.moment) (message_id e.bytes)

pub settles-append : (V : Service) (xs ys : List Event) → settles_in V (xs ++ ys) ≡ settles_in V xs ++ settles_in V ys
settles-append V xs ys = flat_map-append (settles V) xs ys

settles_fewer_by : (fate : Fate) (class : Class) (e : Entry) (i : ℕ) → length (settles_if (is_taken fate) class i) ≤ length (commits_by fate (entry_if class e))
settles_fewer_by Answered Silent e i = omega arith
settles_fewer_by Answered (Bare errno) e i = omega arith
settles_fewer_by Answered Kept e i = omega arith
settles_fewer_by Answered Seen e i = omega arith
settles_fewer_by AnswerLost class e i = omega arith
settles_fewer_by DiedBeforeCommit class e i = omega arith
settles_fewer_by DiedAfterCommit class e i = omega arith

settles_fewer : (V : Service) (es : List Event) → length (settles_in V es) ≤ length (commits_in V es)
settles_fewer V [] = omega arith
settles_fewer V (e ∷ es) = omega (
  arith,
  settles_fewer V es,
  settles_fewer_by e.fate (class_for V e.bytes) (message_entry e.bytes e.moment)
      (message_id e.bytes),
  length-append (settles V e) (settles_in V es),
  length-append (commits V e) (commits_in V es),
)

few_by : (cs : List Entry) (p settled : List ℕ) (n : ℕ) → length p ≤ n → length cs ≤ n → length settled ≤ length cs → length (left_pending cs p ++ settled) ≤ n
few_by [] p settled n few many within = omega (arith, few, within, length-append p settled)
few_by (x ∷ cs) p settled n few many within = omega (arith, many, within)

-- no more than 16 are pending after a group
pub few_pending : (V : Service) (es : List Event) (p : List ℕ) (n : ℕ) → length p ≤ n → length (commits_in V es) ≤ n
    → length (left_pending (commits_in V es) p ++ settles_in V es) ≤ n
few_pending V es p n few many = few_by (commits_in V es) p (settles_in V es) n few many (settles_fewer V es)

settled_is : (V : Service) (u : List ℕ) (es : List Event) → settled_by V u es ≡ u ++ settles_in V es
settled_is V u [] = sym (append-nil u)
settled_is V u (e ∷ es) = settled_is V (u ++ settles V e) es ∙ append_assoc u (settles V e) (settles_in V es)

-- ---- one group

pub handed_on_in-append : (ps qs : List Performance) → handed_on_in (ps ++ qs) ≡ handed_on_in ps ++ handed_on_in qs
handed_on_in-append [] qs = refl
handed_on_in-append (p ∷ ps) qs = ap (λ (r : List ℕ). p.settled ++ r) (handed_on_in-append ps qs) ∙ sym (append_assoc p.settled (handed_on_in ps) (handed_on_in qs))

hands_if_kept : (es cs : List Entry) (p : List ℕ) → length cs ≤ length es → handed_on_in (performances_of es (handed_to cs p)) ≡ handed_to cs p
hands_if_kept [] [] p few = refl
hands_if_kept [] (c ∷ cs) p few = absurd (omega (arith, few))
hands_if_kept (e ∷ es) cs p few = append-nil (handed_to cs p)

-- all pending ids are handed on with a group, if one of its messages is kept
pub group_hands : (V : Service) (group : List Event) (p : List ℕ)
    → handed_on_in (performances_of (performs_in V group) (handed_to (commits_in V group) p)) ≡ handed_to (commits_in V group) p
group_hands V group p = hands_if_kept (performs_in V group) (commits_in V group) p (commits_fewer V group)

-- ---- groups, and then others

pub pending_over-append : (V : Service) (p : List ℕ) (xs ys : List (List Event)) → pending_over V p (xs ++ ys) ≡ pending_over V (pending_over V p xs) ys
pending_over-append V p [] ys = refl
pending_over-append V p (x ∷ xs) ys = pending_over-append V (pending_then V p x) xs ys

pub asked-append : (V : Service) (p : List ℕ) (xs ys : List (List Event))
    → asked_by_groups V p (xs ++ ys) ≡ asked_by_groups V p xs ++ asked_by_groups V (pending_over V p xs) ys
asked-append V p [] ys = refl
asked-append V p (x ∷ xs) ys =
    let first = performances_of (performs_in V x) (handed_to (commits_in V x) p) in
    let p' = pending_then V p x in
    ap (λ (ps : List Performance). first ++ ps) (asked-append V p' xs ys)
    ∙ sym (append_assoc first (asked_by_groups V p' xs) (asked_by_groups V (pending_over V p' xs) ys))

-- ---- events, and then others

pub pending-append : (V : Service) (p : List ℕ) (xs ys : List Event) → IsCutAt V xs ys → pending_by V p (xs ++ ys) ≡ pending_by V (pending_by V p xs) ys
pending-append V p xs ys cut = ap (pending_over V p) cut ∙ pending_over-append V p (groups_of_events V xs) (groups_of_events V ys)

asked_then : (V : Service) (p : List ℕ) (xs ys : List Event) → IsCutAt V xs ys
    → asked_by_groups V p (groups_of_events V (xs ++ ys))
    ≡ asked_by_groups V p (groups_of_events V xs) ++ asked_by_groups V (pending_by V p xs) (groups_of_events V ys)
asked_then V p xs ys cut = ap (asked_by_groups V p) cut ∙ asked-append V p (groups_of_events V xs) (groups_of_events V ys)

pub handed-append : (V : Service) (p : List ℕ) (xs ys : List Event) → IsCutAt V xs ys
    → handed_on V p (xs ++ ys) ≡ handed_on V p xs ++ handed_on V (pending_by V p xs) ys
handed-append V p xs ys cut = ap handed_on_in (asked_then V p xs ys cut)
    ∙ handed_on_in-append (asked_by_groups V p (groups_of_events V xs)) (asked_by_groups V (pending_by V p xs) (groups_of_events V ys))

-- ---- events that are one group

asked_one : (V : Service) (p : List ℕ) (run : List Event)
    → asked_by_groups V p (one_run run) ≡ performances_of (performs_in V run) (handed_to (commits_in V run) p)
asked_one V p [] = refl
asked_one V p (e ∷ es) = append-nil (performances_of (performs_in V (e ∷ es)) (handed_to (commits_in V (e ∷ es)) p))

pending_one : (V : Service) (p : List ℕ) (run : List Event) → pending_over V p (one_run run) ≡ pending_then V p run
pending_one V p [] = sym (append-nil p)
pending_one V p (e ∷ es) = refl

pub handed_group : (V : Service) (p : List ℕ) (run : List Event) → IsOneGroup V run → handed_on V p run ≡ handed_to (commits_in V run) p
handed_group V p run one = ap (λ gs. handed_on_in (asked_by_groups V p gs)) one ∙ ap handed_on_in (asked_one V p run) ∙ group_hands V run p

pub pending_group : (V : Service) (p : List ℕ) (run : List Event) → IsOneGroup V run → pending_by V p run ≡ pending_then V p run
pending_group V p run one = ap (pending_over V p) one ∙ pending_one V p run

-- what is asked for by events, and then by a group
pub performances_more : (V : Service) (xs run : List Event) (p : List ℕ) → pending_by V [] xs ≡ p → IsCutAt V xs run → IsOneGroup V run
    → performances V (xs ++ run) ≡ performances V xs ++ performances_of (performs_in V run) (handed_to (commits_in V run) p)
performances_more V xs run p is cut one =
    asked_then V [] xs run cut
    ∙ ap (λ gs. performances V xs ++ asked_by_groups V (pending_by V [] xs) gs) one
    ∙ ap (λ (ps : List Performance). performances V xs ++ ps) (asked_one V (pending_by V [] xs) run)
    ∙ ap (λ (q : List ℕ). performances V xs ++ performances_of (performs_in V run) (handed_to (commits_in V run) q)) is

-- ---- what is handed on was settled

pub includes_none : (u : List ℕ) → Includes u []
includes_none u i there = absurd (cc there)

pub handed_within : (u p : List ℕ) (es : List Entry) → Includes u p → Includes u (handed_to es p)
handed_within u p [] within = includes_none u
handed_within u p (e ∷ es) within = within

left_within : (u p : List ℕ) (es : List Entry) → Includes u p → Includes u (left_pending es p)
left_within u p [] within = within
left_within u p (e ∷ es) within = includes_none u

-- of a group
then_if : (u p settled : List ℕ) (es : List Entry) (died : Bool) → Includes u p → Includes (u ++ settled) (if died then [] else left_pending es p ++ settled)
then_if u p settled es true within = includes_none (u ++ settled)
then_if u p settled es false within = includes_both (u ++ settled) (left_pending es p) settled
    (λ i there. includes_left u settled i (left_within u p es within i there)) (includes_right u settled)

then_within : (V : Service) (u p : List ℕ) (group : List Event) → Includes u p → Includes (u ++ settles_in V group) (pending_then V p group)
then_within V u p group within = then_if u p (settles_in V group) (commits_in V group) (dies_in group) within

group_within : (V : Service) (u p : List ℕ) (group : List Event) → Includes u p
    → Includes u (handed_on_in (performances_of (performs_in V group) (handed_to (commits_in V group) p)))
group_within V u p group within = subst (Includes u) (sym (group_hands V group p)) (handed_within u p (commits_in V group) within)

-- of groups
more_settled : (V : Service) (u : List ℕ) (group rest : List Event) → (u ++ settles_in V group) ++ settles_in V rest ≡ u ++ settles_in V (group ++ rest)
more_settled V u group rest = append_assoc u (settles_in V group) (settles_in V rest) ∙ ap (λ (x : List ℕ). u ++ x) (sym (settles-append V group rest))

over_within : (V : Service) (u p : List ℕ) (groups : List (List Event)) → Includes u p → Includes (u ++ settles_in V (all_in groups)) (pending_over V p groups)
over_within V u p [] within = subst (λ (x : List ℕ). Includes x p) (sym (append-nil u)) within
over_within V u p (group ∷ groups) within =
    subst (λ (x : List ℕ). Includes x (pending_over V p (group ∷ groups))) (more_settled V u group (all_in groups))
    (over_within V (u ++ settles_in V group) (pending_then V p group) groups (then_within V u p group within))

asked_within : (V : Service) (u p : List ℕ) (groups : List (List Event)) → Includes u p
    → Includes (u ++ settles_in V (all_in groups)) (handed_on_in (asked_by_groups V p groups))
asked_within V u p [] within = includes_none (u ++ [])
asked_within V u p (group ∷ groups) within =
    let here = performances_of (performs_in V group) (handed_to (commits_in V group) p) in
    let p' = pending_then V p group in
    let all = u ++ settles_in V (group ++ all_in groups) in
    let later : Includes all (handed_on_in (asked_by_groups V p' groups)) =
    subst (λ (x : List ℕ). Includes x (handed_on_in (asked_by_groups V p' groups))) (more_settled V u group (all_in groups))
    (asked_within V (u ++ settles_in V group) p' groups (then_within V u p group within)) in
    subst (Includes all) (sym (handed_on_in-append here (asked_by_groups V p' groups)))
    (includes_both all (handed_on_in here) (handed_on_in (asked_by_groups V p' groups))
    (λ i there. includes_left u (settles_in V (group ++ all_in groups)) i (group_within V u p group within i there)) later)

-- of events
whole : (V : Service) (u : List ℕ) (es : List Event) → u ++ settles_in V (all_in (groups_of_events V es)) ≡ settled_by V u es
whole V u es = ap (λ x. u ++ settles_in V x) (all_of_events V es) ∙ sym (settled_is V u es)

pub pending_settled : (V : Service) (u p : List ℕ) (es : List Event) → Includes u p → Includes (settled_by V u es) (pending_by V p es)
pending_settled V u p es within = subst (λ (x : List ℕ). Includes x (pending_by V p es)) (whole V u es) (over_within V u p (groups_of_events V es) within)

pub handed_settled : (V : Service) (u p : List ℕ) (es : List Event) → Includes u p → Includes (settled_by V u es) (handed_on V p es)
handed_settled V u p es within = subst (λ (x : List ℕ). Includes x (handed_on V p es)) (whole V u es) (asked_within V u p (groups_of_events V es) within)
