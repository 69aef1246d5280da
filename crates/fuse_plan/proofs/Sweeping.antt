-- A tree without the nodes that have neither a name nor an fh.
use Rattle.std.proofs.Common.{◌≡◌, ◌≢◌, ◌<◌, ◌≤◌, ◌+◌, ◌||◌, ◌==◌, ℕ, suc, Bool, true, false, not, cond, eqb, List, [], ◌∷◌, length, map, Some, refl, sym, ap, subst, ◌∙◌, inl, inr, arith}
use Rattle.std.specs.Prelude.{find, filter}
use Rattle.std.specs.List.{AllByRecursion, list_any, sum_by}
use Rattle.std.proofs.lemmas.Bool.{eqb-true, ne_eqb, eq-eqb}
use Rattle.std.proofs.lemmas.List.Sums.{sum_by-cons}
use Rattle.fuse_rows.specs.declared.rows.EntryRow.{EntryRow}
use Rattle.fuse_rows.specs.declared.rows.HandleRow.{HandleRow}
use Rattle.fuse_tree.specs.State.{State, Node, Shape, Apart, IsNode, IsEntry, IsHandle, is_dir, is_dir_of, is_open_at, has_number, is_below, is_named, subdirs_of, up_of, terms_of, used_of, is_kept}
use Rattle.fuse_tree.specs.Rowed.{full_of}
use Rattle.fuse_tree.specs.Removal.{swept}
use Rattle.fuse_plan.proofs.Lists.{all_more, all_both, all_kept, any_kept, apart_filtered, length_filtered, cond_found, and_true, or_true}
use Rattle.fuse_plan.proofs.Blocks.{used_without, space_less}
use Rattle.fuse_plan.proofs.Heights.{rooted, dirs_given}
use Rattle.fuse_plan.proofs.Mounts.{filter_twice, each_child, child_up, reaches_named}
use Rattle.fuse_plan.proofs.KeptNodes.{KeptBut, up_named}

-- ---- who is kept

named_kept : (s : State) (k : ℕ) → is_named s k ≡ true → is_kept s k ≡ true
named_kept s k named = rw named refl

-- each fh's node is the node of an fh
each_handle : (hs : List HandleRow) → AllByRecursion (λ h. list_any (λ x. eqb x.node h.node) hs ≡ true) hs
each_handle [] = tt
each_handle (h ∷ hs) = (
  rw (eq-eqb h.node h.node refl) refl,
  all_more (λ f. list_any (λ x. eqb x.node f.node) hs ≡ true) (λ f. (eqb h.node f.node || list_any (λ x. eqb x.node f.node) hs) ≡ true) hs
      (λ f is. rw is (or_true (eqb h.node f.node))) (each_handle hs),
)

used_kept : (s : State) (k : ℕ) → list_any (λ x. eqb x.node k) s.handles ≡ true → is_kept s k ≡ true
used_kept s k used = rw used (or_true (is_named s k))

-- ---- the tree that is left

entry_left : (s : State) (e : EntryRow) → Shape s → IsEntry s.nodes s.entries s.next_cookie e → list_any (λ x. eqb x.child e.child) s.entries ≡ true
    → IsEntry (swept s).nodes s.entries s.next_cookie e
entry_left s e tree p child =
    let kept_dir : is_kept s e.dir ≡ true = named_kept s e.dir (reaches_named s e.dir (rooted s tree).none p.reaches) in
    let kept_child : is_kept s e.child ≡ true = up_named s e.child (child_up s.entries e.child (dirs_given s tree) child) in
    record {
      dir =
          any_kept (is_dir_of e.dir) (λ n. is_kept s n.number) s.nodes
          (λ n is. subst (λ (k : ℕ). is_kept s k ≡ true) (sym (eqb-true n.number e.dir (and_true _ _ is).0)) kept_dir) p.dir;
      child =
          any_kept (has_number e.child) (λ n. is_kept s n.number) s.nodes
          (λ n is. subst (λ (k : ℕ). is_kept s k ≡ true) (sym (eqb-true n.number e.child is)) kept_child) p.child;
      not_root = p.not_root;
      name = p.name;
      reaches = p.reaches;
      from_three = p.from_three;
      below = p.below;
    }

handle_left : (s : State) (h : HandleRow) → IsHandle s.nodes s.next_fh h → list_any (λ x. eqb x.node h.node) s.handles ≡ true
    → IsHandle (swept s).nodes s.next_fh h
handle_left s h p used = record {
  node =
      any_kept (is_open_at h) (λ n. is_kept s n.number) s.nodes
      (λ n is. subst (λ (k : ℕ). is_kept s k ≡ true) (sym (eqb-true n.number h.node (and_true _ _ is).0)) (used_kept s h.node used)) p.node;
  from_one = p.from_one;
  below = p.below;
}

used_swept : (s : State) → used_of (swept s) ≤ used_of s
used_swept s = omega (arith, used_without (λ n. is_kept s n.number) s.nodes)

pub tree_swept : (s : State) → Shape s → Shape (swept s)
tree_swept s tree = record {
  root = any_kept (is_dir_of 1) (λ n. is_kept s n.number) s.nodes (λ n is. rw ((and_true (eqb n.number 1) (is_dir n.mode) is).0) refl) tree.root;
  nodes = all_kept (IsNode (terms_of s) s.next_node) (λ n. is_kept s n.number) s.nodes tree.nodes;
  nodes_rise = apart_filtered (λ n later. n.number < later.number) (λ n. is_kept s n.number) s.nodes tree.nodes_rise;
  entries =
      all_both (IsEntry s.nodes s.entries s.next_cookie) (λ e. list_any (λ x. eqb x.child e.child) s.entries ≡ true)
      (IsEntry (swept s).nodes s.entries s.next_cookie) s.entries
      (λ e p child. entry_left s e tree p child) tree.entries (each_child s.entries);
  entries_apart = tree.entries_apart;
  handles =
      all_both (IsHandle s.nodes s.next_fh) (λ h. list_any (λ x. eqb x.node h.node) s.handles ≡ true) (IsHandle (swept s).nodes s.next_fh) s.handles
      (λ h p used. handle_left s h p used) tree.handles (each_handle s.handles);
  handles_rise = tree.handles_rise;
  limits = record {
    nodes = omega (arith, tree.limits.nodes, length_filtered (λ n. is_kept s n.number) s.nodes);
    handles = tree.limits.handles;
    next_node = tree.limits.next_node;
    next_fh = tree.limits.next_fh;
    next_cookie = tree.limits.next_cookie;
    fh_from_one = tree.limits.fh_from_one;
    cookie_from_three = tree.limits.cookie_from_three;
  };
  space = space_less s (swept s) s.capacity (used_swept s) tree.space;
}

-- ---- the rows that are left

-- a node has as many directories as before, since each of these has a name
subdirs_left : (s : State) (k : ℕ) → k ≢ 0 → subdirs_of (swept s) k ≡ subdirs_of s k
subdirs_left s k given =
    ap length (filter_twice (is_below s.entries k) (λ n. is_kept s n.number) s.nodes
    (λ n below. let up : up_of s.entries n.number ≡ k = eqb-true _ _ (and_true (is_dir n.mode) _ below).1 in
    up_named s n.number (λ none. given (sym up ∙ none))))

full_left : (s : State) (n : Node) → 1 ≤ n.number → full_of (swept s) n ≡ full_of s n
full_left s n one =
    let given : n.number ≢ 0 = omega arith in
    rw (subdirs_left s n.number given) refl

-- the rows of all nodes but one
rows_but : (s : State) (k : ℕ) (ns : List Node) → AllByRecursion (λ n. full_of (swept s) n ≡ full_of s n) ns
    → AllByRecursion (λ n. is_kept s n.number ≡ not (n.number == k)) ns
    → map (full_of (swept s)) (filter (λ n. is_kept s n.number) ns) ≡ filter (λ f. not (f.row.node == k)) (map (full_of s) ns)
rows_but s k [] same tests = refl
rows_but s k (n ∷ ns) same tests =
    let rest = rows_but s k ns same.1 tests.1 in
    subst (λ (c : Bool). map (full_of (swept s)) (cond c (n ∷ filter (λ m. is_kept s m.number) ns) (filter (λ m. is_kept s m.number) ns))
    ≡ cond (not (n.number == k)) (full_of s n ∷ filter (λ f. not (f.row.node == k)) (map (full_of s) ns)) (filter (λ f. not (f.row.node == k)) (map (full_of s) ns)))
    (sym tests.0)
    (elim (not (n.number == k)) as (λ c. map (full_of (swept s)) (cond c (n ∷ filter (λ m. is_kept s m.number) ns) (filter (λ m. is_kept s m.number) ns))
    ≡ cond c (full_of s n ∷ filter (λ f. not (f.row.node == k)) (map (full_of s) ns)) (filter (λ f. not (f.row.node == k)) (map (full_of s) ns))) [
      | true ↦ rw (same.0, rest) refl
      | false ↦ rest
    ])

-- where each other node is kept, a node that isn't kept is the only one that goes
pub tests_but : (s : State) (k : ℕ) → is_kept s k ≡ false → KeptBut (λ j. j == k) s → AllByRecursion (λ n. is_kept s n.number ≡ not (n.number == k)) s.nodes
tests_but s k loose all =
    all_more (λ n. (n.number == k) ≡ false → is_kept s n.number ≡ true) (λ n. is_kept s n.number ≡ not (n.number == k)) s.nodes
    (λ n kept. each n.number kept) all
  where
    each : (j : ℕ) → ((j == k) ≡ false → is_kept s j ≡ true) → is_kept s j ≡ not (j == k)
    each j kept =
        let step : (b : Bool) → eqb j k ≡ b → is_kept s j ≡ not b =
        elim [
          | true ↦ λ is. subst (λ (i : ℕ). is_kept s i ≡ false) (sym (eqb-true j k is)) loose
          | false ↦ λ is. kept is
        ] in
        step (eqb j k) refl

-- the rows of the nodes that are left
pub nodes_swept : (s : State) (k : ℕ) → Shape s → is_kept s k ≡ false → KeptBut (λ j. j == k) s
    → map (full_of (swept s)) (swept s).nodes ≡ filter (λ f. not (f.row.node == k)) (map (full_of s) s.nodes)
nodes_swept s k tree loose all =
    rows_but s k s.nodes (all_more (IsNode (terms_of s) s.next_node) (λ n. full_of (swept s) n ≡ full_of s n) s.nodes (λ n p. full_left s n p.from_one) tree.nodes)
    (tests_but s k loose all)

-- where all are kept, nothing goes
pub all_stay : (s : State) → KeptBut (λ j. false) s → swept s ≡ s
all_stay s all = ap (λ (ns : List Node). record s { nodes = ns }) (whole s.nodes all)
  where
    whole : (ns : List Node) → AllByRecursion (λ n. false ≡ false → is_kept s n.number ≡ true) ns → filter (λ n. is_kept s n.number) ns ≡ ns
    whole [] rest = refl
    whole (n ∷ ns) rest = rw (rest.0 refl, whole ns rest.1) refl

-- where a node is kept and all others are, nothing goes
pub one_stays : (s : State) (k : ℕ) → is_kept s k ≡ true → KeptBut (λ j. j == k) s → swept s ≡ s
one_stays s k kept all =
    all_stay s (all_more (λ n. (n.number == k) ≡ false → is_kept s n.number ≡ true) (λ n. false ≡ false → is_kept s n.number ≡ true) s.nodes
    (λ n other _. each n.number other) all)
  where
    each : (j : ℕ) → ((j == k) ≡ false → is_kept s j ≡ true) → is_kept s j ≡ true
    each j other =
        let step : (b : Bool) → eqb j k ≡ b → is_kept s j ≡ true =
        elim [
          | true ↦ λ is. subst (λ (i : ℕ). is_kept s i ≡ true) (sym (eqb-true j k is)) kept
          | false ↦ λ is. other is
        ] in
        step (eqb j k) refl

-- ---- what is counted of the nodes that are left

-- the sums when one node of a list has gone
pub record LessOne (f : Node → ℕ) (c : Node) (left ns : List Node) : Type 0 where
  pub count : suc (length left) ≡ length ns
  pub sum : sum_by f left + f c ≡ sum_by f ns

none_goes : (test : Node → Bool) (k : ℕ) (ns : List Node) → AllByRecursion (λ n. k < n.number) ns → AllByRecursion (λ n. test n ≡ not (n.number == k)) ns
    → filter test ns ≡ ns
none_goes test k [] later tests = refl
none_goes test k (n ∷ ns) later tests =
    let lt : k < n.number = later.0 in
    rw (tests.0, ne_eqb n.number k (λ same. omega (arith, lt, same)), none_goes test k ns later.1 tests.1) refl

pub less_one : (f : Node → ℕ) (test : Node → Bool) (k : ℕ) (c : Node) (ns : List Node) → Apart (λ n later. n.number < later.number) ns
    → find (λ n. n.number == k) ns ≡ Some c → AllByRecursion (λ n. test n ≡ not (n.number == k)) ns → LessOne f c (filter test ns) ns
less_one f test k c [] rise at tests = absurd cc
less_one f test k c (n ∷ ns) rise at tests =
    elim (cond_found (eqb n.number k) n c (find (λ m. m.number == k) ns) at) [
      | inl h ↦ (
          let later : AllByRecursion (λ m. k < m.number) ns = subst (λ i. AllByRecursion (λ (m : Node). i < m.number) ns) (eqb-true n.number k h.0) rise.0 in
          let same : n ≡ c = h.1 in
          rw (tests.0, h.0, none_goes test k ns later tests.1) (record { count = refl; sum = omega (arith, sum_by-cons f n ns, ap f same) }))
      | inr h ↦ (
          let rest = less_one f test k c ns rise.1 h.1 tests.1 in
          rw (tests.0, h.0) (record { count = ap suc rest.count; sum = omega (arith, rest.sum, sum_by-cons f n (filter test ns), sum_by-cons f n ns) }))
    ]
