-- What the walk upwards reads off the rows of a tree.
use Rattle.std.proofs.Common.{◌≡◌, ◌==◌, ◌≤◌, ◌<◌, ◌≢◌, ◌+◌, ◌-◌, ◌&&◌, ◌||◌, ℕ, zero, suc, Bool, true, false, eqb, List, length, Option, Some, None, refl, sym, ap, subst, ◌∙◌, inl, inr, arith}
use Rattle.std.specs.Option.{option_map}
use Rattle.std.proofs.lemmas.Bool.{eqb-true, eqb-false, ne_eqb, eq-eqb, cases_lt}
use Rattle.fuse_rows.specs.Bounds.{node_limit}
use Rattle.fuse_rows.specs.declared.rows.EntryRow.{EntryRow}
use Rattle.fuse_rows.specs.declared.rows.NodeRow.{NodeRow}
use Rattle.fuse_tree.specs.State.{State, Node, Shape, profile_of, IsEntry, has_number, node_at, up_of, above}
use Rattle.fuse_rows.specs.Rows.{Rows, row_at}
use Rattle.fuse_tree.specs.Rowed.{IsRowed, row_of, rows_of_state}
use Rattle.fuse_tree.specs.Renaming.{leads_to, lies_in, is_dir_at, holds}
use Rattle.fuse_plan.proofs.Lists.{all_more, any_gives, none_found}
use Rattle.fuse_plan.proofs.Most.{nodes_most}
use Rattle.fuse_plan.proofs.Ups.{up_in}
use Rattle.fuse_plan.proofs.Puts.{row_found, node_found}
use Rattle.fuse_plan.proofs.Bounds.{map_none, rowed_is}
use Rattle.fuse_plan.proofs.Heights.{rooted, up_none, above_on, stays_none, ends_within}

-- ---- the directory above

state_up : (s : State) (number : ℕ) (row : NodeRow) (o : Option Node) → Shape s → node_at s number ≡ o → option_map (row_of s) o ≡ Some row
    → up_of s.entries number ≡ row.up
state_up s number row None tree e is = absurd cc
state_up s number row (Some n) tree e is =
    let same : row_of s n ≡ row = cc in
    ap (up_of s.entries) (sym (node_found s number n tree e).0) ∙ ap (λ (r : NodeRow). r.up) same

-- the row that is found has the directory above
pub row_up : (rows : Rows) (number : ℕ) (row : NodeRow) → IsRowed rows → row_at rows number ≡ Some row → up_of rows.entries number ≡ row.up
unfolding IsRowed
row_up rows number row is e =
    let s = is.0 in
    let same : rows ≡ rows_of_state s = is.2 ∙ rowed_is s in
    let here : row_at (rows_of_state s) number ≡ Some row = subst (λ (r : Rows). row_at r number ≡ Some row) same e in
    ap (λ (r : Rows). up_of r.entries number) same ∙ state_up s number row (node_at s number) is.1.shape refl (sym (row_found s number) ∙ here)

state_none : (s : State) (number : ℕ) → Shape s → node_at s number ≡ None → up_of s.entries number ≡ 0
state_none s number tree none =
    up_none s.entries number (all_more (IsEntry s.nodes s.entries s.next_cookie) (λ e. e.child ≢ number) s.entries
    (λ e p. any_gives (λ n. (n.number == number) ≡ false) (has_number e.child) (e.child ≢ number) s.nodes
    (none_found (λ n. n.number == number) s.nodes none) p.child
    (λ n fails passes same. eqb-false n.number number fails (eqb-true n.number e.child passes ∙ same)))
    tree.entries)

-- where there is no row, no entry leads
pub none_up : (rows : Rows) (number : ℕ) → IsRowed rows → row_at rows number ≡ None → up_of rows.entries number ≡ 0
unfolding IsRowed
none_up rows number is e =
    let s = is.0 in
    let same : rows ≡ rows_of_state s = is.2 ∙ rowed_is s in
    let here : row_at (rows_of_state s) number ≡ None = subst (λ (r : Rows). row_at r number ≡ None) same e in
    ap (λ (r : Rows). up_of r.entries number) same ∙ state_none s number is.1.shape (map_none (row_of s) (node_at s number) (sym (row_found s number) ∙ here))

-- ---- the way up

-- each way up ends within as many steps as are counted nodes
pub rows_end : (rows : Rows) (k : ℕ) → IsRowed rows → above rows.entries rows.counters.nodes k ≡ 0
unfolding IsRowed
rows_end rows k is =
    let s = is.0 in
    ap (λ (r : Rows). above r.entries r.counters.nodes k) (is.2 ∙ rowed_is s) ∙ ends_within s is.1.shape k

-- there are no more nodes than a tree has
pub rows_few : (rows : Rows) → IsRowed rows → rows.counters.nodes ≤ node_limit
unfolding IsRowed
rows_few rows is = let s = is.0 in subst (λ (r : Rows). r.counters.nodes ≤ node_limit) (sym (is.2 ∙ rowed_is s))
    (omega (arith, is.1.shape.limits.nodes, nodes_most (profile_of s)))

rows_none : (rows : Rows) → IsRowed rows → up_of rows.entries 0 ≡ 0
unfolding IsRowed
rows_none rows is = let s = is.0 in ap (λ (r : Rows). up_of r.entries 0) (is.2 ∙ rowed_is s) ∙ (rooted s is.1.shape).none

or_true : (b : Bool) → (b || true) ≡ true
or_true true = refl
or_true false = refl

leads_later : (es : List EntryRow) (n i node dir : ℕ) → i < n → above es i dir ≡ node → leads_to es n node dir ≡ true
leads_later es zero i node dir lt at = absurd (omega arith)
leads_later es (suc n) i node dir lt at =
    let step : (b : Bool) → eqb i n ≡ b → leads_to es (suc n) node dir ≡ true =
    elim [
      | true ↦ λ is. rw (eq-eqb (above es n dir) node (ap (λ (j : ℕ). above es j dir) (sym (eqb-true i n is)) ∙ at)) (or_true (leads_to es n node dir))
      | false ↦ λ is. (let other = eqb-false i n is in let less : i < n = omega arith in rw (leads_later es n i node dir less at) refl)
    ] in
    step (eqb i n) refl

-- a place of the first ones is the node
pub leads_at : (rows : Rows) (n i node dir place : ℕ) → i < n → above rows.entries i dir ≡ place → place ≡ node → leads_to rows.entries n node dir ≡ true
leads_at rows n i node dir place lt at same = leads_later rows.entries n i node dir lt (at ∙ same)

leads_not : (es : List EntryRow) (i d node dir : ℕ) → up_of es 0 ≡ 0 → 0 ≢ node → above es i dir ≡ 0 → leads_to es i node dir ≡ false
    → leads_to es (i + d) node dir ≡ false
leads_not es i zero node dir none other at none_yet = ap (λ (n : ℕ). leads_to es n node dir) (let e : i + 0 ≡ i = omega arith in e) ∙ none_yet
leads_not es i (suc d) node dir none other at none_yet =
    let e : i + suc d ≡ suc (i + d) = omega arith in
    let here : above es (i + d) dir ≡ 0 = above_on es i d dir ∙ ap (above es d) at ∙ stays_none es none d in
    ap (λ (n : ℕ). leads_to es n node dir) e ∙ rw (leads_not es i d node dir none other at none_yet, here, ne_eqb 0 node other) refl

-- past the end of the way there is nothing
pub leads_no_more : (rows : Rows) (n i node dir place : ℕ) → IsRowed rows → i ≤ n → above rows.entries i dir ≡ place → place ≡ 0 → place ≢ node
    → leads_to rows.entries i node dir ≡ false → leads_to rows.entries n node dir ≡ false
leads_no_more rows n i node dir place is le at end other none_yet =
    let e : n ≡ i + (n - i) = omega arith in
    ap (λ (m : ℕ). leads_to rows.entries m node dir) e
    ∙ leads_not rows.entries i (n - i) node dir (rows_none rows is) (λ same. other (end ∙ same)) (at ∙ end) none_yet

-- a step more
pub above_next : (rows : Rows) (i dir place up : ℕ) → above rows.entries i dir ≡ place → up_of rows.entries place ≡ up → above rows.entries (i + 1) dir ≡ up
above_next rows i dir place up at step = above_on rows.entries i 1 dir ∙ ap (up_of rows.entries) at ∙ step

pub leads_next : (rows : Rows) (i node dir place : ℕ) → above rows.entries i dir ≡ place → place ≢ node → leads_to rows.entries i node dir ≡ false
    → leads_to rows.entries (i + 1) node dir ≡ false
leads_next rows i node dir place at other none_yet =
    let e : i + 1 ≡ suc i = omega arith in ap (λ (n : ℕ). leads_to rows.entries n node dir) e ∙ rw (none_yet, at, ne_eqb place node other) refl

-- ---- what a directory doesn't lie in

earlier_not : (es : List EntryRow) (n i node dir : ℕ) → leads_to es n node dir ≡ false → i < n → above es i dir ≢ node
earlier_not es n i node dir none lt at = absurd (let e = leads_later es n i node dir lt at in cc)

-- no way up leads to a node that the first places aren't
pub never_leads : (s : State) (node dir : ℕ) → Shape s → node ≢ 0 → lies_in s node dir ≡ false → (n : ℕ) → above s.entries n dir ≢ node
never_leads s node dir tree given none n =
    elim (cases_lt n (length s.nodes)) [
      | inl lt ↦ earlier_not s.entries (length s.nodes) n node dir none lt
      | inr le ↦ λ at. given (
          let more = n - length s.nodes in
          let split : n ≡ length s.nodes + more = omega arith in
          sym at ∙ ap (λ (i : ℕ). above s.entries i dir) split ∙ above_on s.entries (length s.nodes) more dir
          ∙ ap (above s.entries more) (ends_within s tree dir) ∙ stays_none s.entries (rooted s tree).none more)
    ]

-- what lies above a directory is a directory
dirs_above : (s : State) (n k : ℕ) → Shape s → is_dir_at s k ≡ true → above s.entries n k ≢ 0 → is_dir_at s (above s.entries n k) ≡ true
dirs_above s zero k tree dir given = dir
dirs_above s (suc n) k tree dir given =
    dirs_above s n (up_of s.entries k) tree
    (up_in (λ i. i ≢ 0 → is_dir_at s i ≡ true) s.entries k
    (all_more (IsEntry s.nodes s.entries s.next_cookie) (λ e. e.dir ≢ 0 → is_dir_at s e.dir ≡ true) s.entries (λ e p ne. p.dir) tree.entries)
    (λ ne. absurd (ne refl))
    (λ none. given (ap (above s.entries n) none ∙ stays_none s.entries (rooted s tree).none n)))
    given

-- no way up from a directory leads to a node that can come to stand in it
pub never_held : (s : State) (node dir : ℕ) → Shape s → node ≢ 0 → is_dir_at s dir ≡ true → holds s node dir ≡ false → (n : ℕ) → above s.entries n dir ≢ node
never_held s node dir tree given is_dir none n = step (is_dir_at s node) refl none
  where
    step : (b : Bool) → is_dir_at s node ≡ b → (b && lies_in s node dir) ≡ false → above s.entries n dir ≢ node
    step true is isnt = never_leads s node dir tree given isnt n
    step false is isnt = λ at. (
        let there = dirs_above s n dir tree is_dir (λ zero_there. given (sym at ∙ zero_there)) in
        let here : is_dir_at s node ≡ true = subst (λ (i : ℕ). is_dir_at s i ≡ true) at there in
        absurd cc)
