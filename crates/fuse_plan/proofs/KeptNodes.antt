-- Which nodes have a name or an fh after a change of the state.
use Rattle.std.proofs.Common.{◌≡◌, ◌≢◌, ◌||◌, ◌&&◌, ◌==◌, ℕ, Bool, true, false, not, cond, eqb, List, [], ◌∷◌, ◌++◌, map, refl, sym, subst, ◌∙◌}
use Rattle.std.specs.Prelude.{filter}
use Rattle.std.specs.List.{AllByRecursion, list_any}
use Rattle.std.proofs.lemmas.Bool.{eqb-true, eqb-false, ne_eqb, eq-eqb}
use Rattle.fuse_rows.specs.declared.rows.EntryRow.{EntryRow}
use Rattle.fuse_rows.specs.declared.rows.HandleRow.{HandleRow}
use Rattle.fuse_tree.specs.State.{State, Node, is_named, up_of, is_kept}
use Rattle.fuse_plan.proofs.Lists.{all_more, all_grown, all_mapped, any_grown, or_true}

-- each node is kept, but for those of which the test says nothing
abbrev pub KeptBut : (ℕ → Bool) → State → Type 0
KeptBut free s = AllByRecursion (λ n. free n.number ≡ false → is_kept s n.number ≡ true) s.nodes

-- ---- sums of tests

or_either : (b c d e : Bool) → (b ≡ true → d ≡ true) → (c ≡ true → e ≡ true) → (b || c) ≡ true → (d || e) ≡ true
or_either true c d e left right is = rw (left refl) refl
or_either false c d e left right is = rw (right is) (or_true d)

-- a node with a directory above is named
pub up_named : (s : State) (k : ℕ) → up_of s.entries k ≢ 0 → is_kept s k ≡ true
up_named s k up = step (eqb k 1)
  where
    step : (b : Bool) → ((b || not (eqb (up_of s.entries k) 0)) || list_any (λ h. h.node == k) s.handles) ≡ true
    step true = refl
    step false = rw (ne_eqb (up_of s.entries k) 0 up) refl

named_up : (b : Bool) (up later : ℕ) → (up ≢ 0 → later ≢ 0) → (b || not (eqb up 0)) ≡ true → (b || not (eqb later 0)) ≡ true
named_up true up later more is = refl
named_up false up later more is = step (eqb up 0) refl is
  where
    step : (c : Bool) → eqb up 0 ≡ c → not c ≡ true → not (eqb later 0) ≡ true
    step true zero is = absurd cc
    step false given is = rw (ne_eqb later 0 (more (eqb-false up 0 given))) refl

-- what is kept of one state is kept of another, where its directory above and its fhs stay
pub kept_on : (s t : State) (k : ℕ) → (up_of s.entries k ≢ 0 → up_of t.entries k ≢ 0)
    → (list_any (λ h. h.node == k) s.handles ≡ true → list_any (λ h. h.node == k) t.handles ≡ true) → is_kept s k ≡ true → is_kept t k ≡ true
kept_on s t k ups handles kept =
    or_either (is_named s k) (list_any (λ h. h.node == k) s.handles) (is_named t k) (list_any (λ h. h.node == k) t.handles)
    (named_up (eqb k 1) (up_of s.entries k) (up_of t.entries k) ups) handles kept

-- ---- the same nodes

-- fewer nodes are free of it
pub kept_more : (free fewer : ℕ → Bool) (s : State) → ((k : ℕ) → fewer k ≡ false → free k ≡ false) → KeptBut free s → KeptBut fewer s
kept_more free fewer s less all =
    all_more (λ n. free n.number ≡ false → is_kept s n.number ≡ true) (λ n. fewer n.number ≡ false → is_kept s n.number ≡ true) s.nodes
    (λ n kept is. kept (less n.number is)) all

-- the nodes changed in place, each with its number
pub kept_mapped : (free : ℕ → Bool) (s : State) (f : Node → Node) → ((n : Node) → (f n).number ≡ n.number) → KeptBut free s
    → KeptBut free (record s { nodes = map f s.nodes })
kept_mapped free s f numbers all =
    all_mapped (λ n. free n.number ≡ false → is_kept s n.number ≡ true) f s.nodes
    (all_more (λ n. free n.number ≡ false → is_kept s n.number ≡ true) (λ n. free (f n).number ≡ false → is_kept s (f n).number ≡ true) s.nodes
    (λ n kept. subst (λ (k : ℕ). free k ≡ false → is_kept s k ≡ true) (sym (numbers n)) kept) all)

-- ---- entries

up_stays : (es : List EntryRow) (e : EntryRow) (k : ℕ) → up_of es k ≢ 0 → up_of (es ++ e ∷ []) k ≢ 0
up_stays [] e k up = absurd (up refl)
up_stays (x ∷ es) e k up =
    let step : (b : Bool) → cond b x.dir (up_of es k) ≢ 0 → cond b x.dir (up_of (es ++ e ∷ []) k) ≢ 0 =
    elim [ true ↦ λ given. given | false ↦ λ given. up_stays es e k given ] in
    step (eqb x.child k) up

up_last : (es : List EntryRow) (e : EntryRow) → AllByRecursion (λ x. x.dir ≢ 0) es → e.dir ≢ 0 → up_of (es ++ e ∷ []) e.child ≢ 0
up_last [] e dirs given = rw (eq-eqb e.child e.child refl) given
up_last (x ∷ es) e dirs given =
    elim (eqb x.child e.child) as (λ b. cond b x.dir (up_of (es ++ e ∷ []) e.child) ≢ 0) [ true ↦ dirs.0 | false ↦ up_last es e dirs.1 given ]

-- an entry more: its child is free of nothing
pub kept_placed : (free : ℕ → Bool) (s : State) (e : EntryRow) → AllByRecursion (λ x. x.dir ≢ 0) s.entries → e.dir ≢ 0 → KeptBut free s
    → KeptBut (λ k. free k && not (k == e.child)) (record s { entries = s.entries ++ e ∷ [] })
kept_placed free s e dirs given all =
    all_more (λ n. free n.number ≡ false → is_kept s n.number ≡ true)
    (λ n. (free n.number && not (n.number == e.child)) ≡ false → is_kept (record s { entries = s.entries ++ e ∷ [] }) n.number ≡ true) s.nodes
    (λ n kept. each n.number kept) all
  where
    each : (k : ℕ) → (free k ≡ false → is_kept s k ≡ true) → (free k && not (k == e.child)) ≡ false
        → is_kept (record s { entries = s.entries ++ e ∷ [] }) k ≡ true
    each k kept is =
        let step : (b c : Bool) → free k ≡ b → eqb k e.child ≡ c → (b && not c) ≡ false → is_kept (record s { entries = s.entries ++ e ∷ [] }) k ≡ true =
        elim [
          | true ↦ elim [
            | true ↦ λ _ child _. up_named (record s { entries = s.entries ++ e ∷ [] }) k
                (subst (λ (j : ℕ). up_of (s.entries ++ e ∷ []) j ≢ 0) (sym (eqb-true k e.child child)) (up_last s.entries e dirs given))
            | false ↦ λ _ _ no. absurd cc
          ]
          | false ↦ elim [
            | true ↦ λ here _ _. kept_on s (record s { entries = s.entries ++ e ∷ [] }) k (up_stays s.entries e k) (λ used. used) (kept here)
            | false ↦ λ here _ _. kept_on s (record s { entries = s.entries ++ e ∷ [] }) k (up_stays s.entries e k) (λ used. used) (kept here)
          ]
        ] in
        step (free k) (eqb k e.child) refl refl is

-- the entries that pass a test, where those that fail it lead to node c
pub kept_less : (free : ℕ → Bool) (s : State) (test : EntryRow → Bool) (c : ℕ)
    → ((k : ℕ) → k ≢ c → up_of (filter test s.entries) k ≡ up_of s.entries k) → KeptBut free s
    → KeptBut (λ k. free k || (k == c)) (record s { entries = filter test s.entries })
kept_less free s test c ups all =
    all_more (λ n. free n.number ≡ false → is_kept s n.number ≡ true)
    (λ n. (free n.number || (n.number == c)) ≡ false → is_kept (record s { entries = filter test s.entries }) n.number ≡ true) s.nodes
    (λ n kept. each n.number kept) all
  where
    each : (k : ℕ) → (free k ≡ false → is_kept s k ≡ true) → (free k || (k == c)) ≡ false
        → is_kept (record s { entries = filter test s.entries }) k ≡ true
    each k kept is =
        let parts = both_false (free k) (eqb k c) is in
        let up = ups k (eqb-false k c parts.1) in
        kept_on s (record s { entries = filter test s.entries }) k (λ given. subst (λ (j : ℕ). j ≢ 0) (sym up) given) (λ used. used) (kept parts.0)
      where
        both_false : (b d : Bool) → (b || d) ≡ false → (b ≡ false) × (d ≡ false)
        both_false true d e = absurd cc
        both_false false d e = (refl, e)

-- ---- fhs

-- an fh more
pub kept_opened : (free : ℕ → Bool) (s : State) (h : HandleRow) → KeptBut free s → KeptBut free (record s { handles = s.handles ++ h ∷ [] })
kept_opened free s h all =
    all_more (λ n. free n.number ≡ false → is_kept s n.number ≡ true)
    (λ n. free n.number ≡ false → is_kept (record s { handles = s.handles ++ h ∷ [] }) n.number ≡ true) s.nodes
    (λ n kept is. kept_on s (record s { handles = s.handles ++ h ∷ [] }) n.number (λ up. up)
    (λ used. any_grown (λ x. x.node == n.number) s.handles h used) (kept is)) all

-- the fhs that pass a test, where those that fail it are of node c
pub kept_closed : (free : ℕ → Bool) (s : State) (test : HandleRow → Bool) (c : ℕ) → AllByRecursion (λ h. test h ≡ false → h.node ≡ c) s.handles
    → KeptBut free s → KeptBut (λ k. free k || (k == c)) (record s { handles = filter test s.handles })
kept_closed free s test c closed all =
    all_more (λ n. free n.number ≡ false → is_kept s n.number ≡ true)
    (λ n. (free n.number || (n.number == c)) ≡ false → is_kept (record s { handles = filter test s.handles }) n.number ≡ true) s.nodes
    (λ n kept. each n.number kept) all
  where
    stay : (hs : List HandleRow) (k : ℕ) → k ≢ c → AllByRecursion (λ h. test h ≡ false → h.node ≡ c) hs → list_any (λ h. h.node == k) hs ≡ true
        → list_any (λ h. h.node == k) (filter test hs) ≡ true
    stay [] k other all is = absurd cc
    stay (h ∷ hs) k other all is =
        let step : (b d : Bool) → test h ≡ b → eqb h.node k ≡ d → (d || list_any (λ x. x.node == k) hs) ≡ true
        → list_any (λ x. x.node == k) (cond b (h ∷ filter test hs) (filter test hs)) ≡ true =
        elim [
          | true ↦ elim [
            | true ↦ λ _ here _. rw here refl
            | false ↦ λ _ here e. rw here (stay hs k other all.1 e)
          ]
          | false ↦ elim [
            | true ↦ λ fails here _. absurd (other (sym (eqb-true h.node k here) ∙ all.0 fails))
            | false ↦ λ _ here e. stay hs k other all.1 e
          ]
        ] in
        step (test h) (eqb h.node k) refl refl is

    both_false : (b d : Bool) → (b || d) ≡ false → (b ≡ false) × (d ≡ false)
    both_false true d e = absurd cc
    both_false false d e = (refl, e)

    each : (k : ℕ) → (free k ≡ false → is_kept s k ≡ true) → (free k || (k == c)) ≡ false → is_kept (record s { handles = filter test s.handles }) k ≡ true
    each k kept is =
        let parts = both_false (free k) (eqb k c) is in
        kept_on s (record s { handles = filter test s.handles }) k (λ up. up) (stay s.handles k (eqb-false k c parts.1) closed) (kept parts.0)

-- ---- a node more

pub kept_grown : (s : State) (n : Node) → KeptBut (λ k. false) s → is_kept s n.number ≡ true → KeptBut (λ k. false) (record s { nodes = s.nodes ++ n ∷ [] })
kept_grown s n all new = all_grown (λ m. false ≡ false → is_kept s m.number ≡ true) s.nodes n all (λ _. new)
