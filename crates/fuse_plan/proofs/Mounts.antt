-- What is left of a tree at a new mount.
use Rattle.std.proofs.Common.{◌≡◌, ◌≢◌, ◌<◌, ◌≤◌, ◌||◌, ℕ, zero, suc, Bool, true, false, not, cond, eqb, List, [], ◌∷◌, length, map, refl, sym, ap, subst, ◌∙◌, ◌-◌, Option, Some, None, arith}
use Rattle.std.specs.Prelude.{filter}
use Rattle.std.specs.Option.{option_map}
use Rattle.std.specs.List.{AllByRecursion, list_any, sum_by}
use Rattle.std.proofs.lemmas.Bool.{eqb-true, ne_eqb, eq-eqb}
use Rattle.std.proofs.lemmas.List.{length-map}
use Rattle.std.proofs.lemmas.List.Sums.{sum_by-cons}
use Rattle.fuse_rows.specs.Blocks.{how_many}
use Rattle.fuse_rows.specs.declared.rows.EntryRow.{EntryRow}
use Rattle.fuse_rows.specs.declared.rows.Full.{Full}
use Rattle.fuse_tree.specs.State.{State, terms_of, Node, Shape, IsNode, IsEntry, Reaches, above, is_dir, is_dir_of, has_number, is_below, is_named, is_kept, subdirs_of, up_of, used_of}
use Rattle.fuse_tree.specs.Rowed.{rowed, full_of}
use Rattle.fuse_tree.specs.Space.{room_of}
use Rattle.fuse_tree.specs.Clearing.{cleared_tree, is_named_row, blocks_freed, cleared_room, cleared_rows, Clearing}
use Rattle.fuse_plan.proofs.Lists.{all_more, all_both, all_kept, all_filtered, all_always, any_kept, apart_filtered, length_filtered, and_true}
use Rattle.fuse_plan.proofs.Heights.{rooted, stays_none, dirs_given}
use Rattle.fuse_plan.proofs.Blocks.{counted_of, blocks_of, room_with, space_less, used_without}

-- ---- lists of which elements go

-- those that pass the test are the same where the test keeps them
pub filter_twice : {A : Type 0} (test kept : A → Bool) (xs : List A) → ((x : A) → test x ≡ true → kept x ≡ true) → filter test (filter kept xs) ≡ filter test xs
filter_twice test kept [] keeps = refl
filter_twice test kept (x ∷ xs) keeps =
    let rest = filter_twice test kept xs keeps in
    let step : (b d : Bool) → test x ≡ b → kept x ≡ d
    → filter test (cond d (x ∷ filter kept xs) (filter kept xs)) ≡ cond b (x ∷ filter test xs) (filter test xs) =
    elim [
      | true ↦ elim [
        | true ↦ λ here stays. rw (here, rest) refl
        | false ↦ λ here goes. absurd (let stays = keeps x here in cc)
      ]
      | false ↦ elim [
        | true ↦ λ here stays. rw (here, rest) refl
        | false ↦ λ here goes. rest
      ]
    ] in
    step (test x) (kept x) refl refl

-- ---- entries, and who is named

-- each entry's child is the child of an entry
pub each_child : (es : List EntryRow) → AllByRecursion (λ e. list_any (λ x. eqb x.child e.child) es ≡ true) es
each_child [] = tt
each_child (e ∷ es) = (
  rw (eq-eqb e.child e.child refl) refl,
  all_more (λ f. list_any (λ x. eqb x.child f.child) es ≡ true) (λ f. (eqb e.child f.child || list_any (λ x. eqb x.child f.child) es) ≡ true) es
      (λ f is. rw is (or_true (eqb e.child f.child))) (each_child es),
)
  where
    or_true : (b : Bool) → (b || true) ≡ true
    or_true true = refl
    or_true false = refl

-- a child has a directory above
pub child_up : (es : List EntryRow) (k : ℕ) → AllByRecursion (λ e. e.dir ≢ 0) es → list_any (λ x. eqb x.child k) es ≡ true → up_of es k ≢ 0
child_up [] k dirs is = absurd cc
child_up (e ∷ es) k dirs is =
    let step : (b : Bool) → (b || list_any (λ x. eqb x.child k) es) ≡ true → cond b e.dir (up_of es k) ≢ 0 =
    elim [ true ↦ λ here. dirs.0 | false ↦ λ there. child_up es k dirs.1 there ] in
    step (eqb e.child k) is

pub named_by_up : (b : Bool) (up : ℕ) → up ≢ 0 → (b || not (eqb up 0)) ≡ true
named_by_up true up ne = refl
named_by_up false up ne = rw (ne_eqb up 0 ne) refl

-- from where going up reaches the root, there is a name
pub reaches_named : (s : State) (k : ℕ) → up_of s.entries 0 ≡ 0 → Reaches s.entries k → is_named s k ≡ true
reaches_named s k none (zero, at) = rw (eq-eqb k 1 at) refl
reaches_named s k none (suc steps, at) =
    named_by_up (eqb k 1) (up_of s.entries k) (λ zero_up. let e = stays_none s.entries none steps in let f = ap (above s.entries steps) zero_up in absurd cc)

-- ---- the tree that is left

entry_left : (s : State) (e : EntryRow) → Shape s → IsEntry s.nodes s.entries s.next_cookie e → list_any (λ x. eqb x.child e.child) s.entries ≡ true
    → IsEntry (cleared_tree s).nodes s.entries s.next_cookie e
entry_left s e tree p child =
    let named_dir : is_named s e.dir ≡ true = reaches_named s e.dir (rooted s tree).none p.reaches in
    let named_child : is_named s e.child ≡ true =
    named_by_up (eqb e.child 1) (up_of s.entries e.child) (child_up s.entries e.child (dirs_given s tree) child) in
    record {
      dir =
          any_kept (is_dir_of e.dir) (λ n. is_named s n.number) s.nodes
          (λ n is. subst (λ (k : ℕ). is_named s k ≡ true) (sym (eqb-true n.number e.dir (and_true _ _ is).0)) named_dir) p.dir;
      child =
          any_kept (has_number e.child) (λ n. is_named s n.number) s.nodes
          (λ n is. subst (λ (k : ℕ). is_named s k ≡ true) (sym (eqb-true n.number e.child is)) named_child) p.child;
      not_root = p.not_root;
      name = p.name;
      reaches = p.reaches;
      from_three = p.from_three;
      below = p.below;
    }

tree_left : (s : State) → Shape s → Shape (cleared_tree s)
tree_left s tree = record {
  root = any_kept (is_dir_of 1) (λ n. is_named s n.number) s.nodes (λ n is. rw ((and_true (eqb n.number 1) (is_dir n.mode) is).0) refl) tree.root;
  nodes = all_kept (IsNode (terms_of s) s.next_node) (λ n. is_named s n.number) s.nodes tree.nodes;
  nodes_rise = apart_filtered (λ n later. n.number < later.number) (λ n. is_named s n.number) s.nodes tree.nodes_rise;
  entries =
      all_both (IsEntry s.nodes s.entries s.next_cookie) (λ e. list_any (λ x. eqb x.child e.child) s.entries ≡ true)
      (IsEntry (cleared_tree s).nodes s.entries s.next_cookie) s.entries
      (λ e p child. entry_left s e tree p child) tree.entries (each_child s.entries);
  entries_apart = tree.entries_apart;
  handles = tt;
  handles_rise = tt;
  limits = record {
    nodes = omega (arith, tree.limits.nodes, length_filtered (λ n. is_named s n.number) s.nodes);
    handles = omega arith;
    next_node = tree.limits.next_node;
    next_fh = tree.limits.next_fh;
    next_cookie = tree.limits.next_cookie;
    fh_from_one = tree.limits.fh_from_one;
    cookie_from_three = tree.limits.cookie_from_three;
  };
  space = space_less s (cleared_tree s) s.capacity (let whole = used_without (λ n. is_named s n.number) s.nodes in omega (arith, whole)) tree.space;
}

-- ---- the rows that are left

-- a node has as many directories as before, since each of these has a name
subdirs_left : (s : State) (k : ℕ) → k ≢ 0 → subdirs_of (cleared_tree s) k ≡ subdirs_of s k
subdirs_left s k given =
    ap length (filter_twice (is_below s.entries k) (λ n. is_named s n.number) s.nodes
    (λ n below. let up : up_of s.entries n.number ≡ k = eqb-true _ _ (and_true (is_dir n.mode) _ below).1 in
    named_by_up (eqb n.number 1) (up_of s.entries n.number) (λ none. given (sym up ∙ none))))

full_left : (s : State) (n : Node) → 1 ≤ n.number → full_of (cleared_tree s) n ≡ full_of s n
full_left s n one =
    let given : n.number ≢ 0 = omega arith in
    rw (subdirs_left s n.number given) refl

nodes_left : (s : State) (ns : List Node) → AllByRecursion (λ n. full_of (cleared_tree s) n ≡ full_of s n) ns
    → map (full_of (cleared_tree s)) (filter (λ n. is_named s n.number) ns) ≡ filter is_named_row (map (full_of s) ns)
nodes_left s [] same = refl
nodes_left s (n ∷ ns) same =
    let rest = nodes_left s ns same.1 in
    elim (is_named s n.number) as
    (λ b. map (full_of (cleared_tree s)) (cond b (n ∷ filter (λ m. is_named s m.number) ns) (filter (λ m. is_named s m.number) ns)) ≡ cond b
    (full_of s n ∷ filter is_named_row (map (full_of s) ns)) (filter is_named_row (map (full_of s) ns))) [
      | true ↦ rw (same.0, rest) refl
      | false ↦ rest
    ]

-- the blocks of the nodes that go
freed : (s : State) (ns : List Node) → blocks_freed (map (full_of s) ns) ≡ sum_by blocks_of (filter (λ n. not (is_named s n.number)) ns)
freed s [] = refl
freed s (n ∷ ns) = step (is_named s n.number) (freed s ns)
  where
    step : (b : Bool) → blocks_freed (map (full_of s) ns) ≡ sum_by blocks_of (filter (λ m. not (is_named s m.number)) ns)
        → sum_by (λ (f : Full). how_many f.row.written)
        (cond (not b) (full_of s n ∷ filter (λ f. not (is_named_row f)) (map (full_of s) ns)) (filter (λ f. not (is_named_row f)) (map (full_of s) ns)))
        ≡ sum_by blocks_of (cond (not b) (n ∷ filter (λ m. not (is_named s m.number)) ns) (filter (λ m. not (is_named s m.number)) ns))
    step true rest = rest
    step false rest =
        omega (
          arith,
          rest,
          sum_by-cons (λ (f : Full). how_many f.row.written) (full_of s n) (filter (λ f. not (is_named_row f)) (map (full_of s) ns)),
          sum_by-cons blocks_of n (filter (λ m. not (is_named s m.number)) ns),
          counted_of n.blocks,
        )

used_left : (s : State) → used_of (cleared_tree s) ≡ used_of s - blocks_freed (map (full_of s) s.nodes)
used_left s = let whole = used_without (λ n. is_named s n.number) s.nodes in let gone = freed s s.nodes in omega (arith, whole, gone)

room_left : (s : State) (o : Option ℕ)
    → option_map (room_with (used_of (cleared_tree s))) o ≡ cleared_room (map (full_of s) s.nodes) (option_map (room_with (used_of s)) o)
room_left s None = refl
room_left s (Some c) = ap (λ (u : ℕ). Some (room_with u c)) (used_left s)

rows_left : (s : State) → Shape s → rowed (cleared_tree s) ≡ cleared_rows (rowed s)
unfolding rowed
rows_left s tree =
    let nodes : map (full_of (cleared_tree s)) (cleared_tree s).nodes ≡ filter is_named_row (map (full_of s) s.nodes) =
    nodes_left s s.nodes (all_more (IsNode (terms_of s) s.next_node) (λ n. full_of (cleared_tree s) n ≡ full_of s n) s.nodes (λ n p. full_left s n p.from_one) tree.nodes) in
    let room : room_of (cleared_tree s) ≡ cleared_room (map (full_of s) s.nodes) (room_of s) = room_left s s.capacity in
    let count : length (cleared_tree s).nodes ≡ length (filter is_named_row (map (full_of s) s.nodes)) =
    sym (length-map (cleared_tree s).nodes (full_of (cleared_tree s))) ∙ ap length nodes in
    cc

pub clearing : Clearing
clearing s tree = (record { shape = tree_left s tree.shape; kept = λ _. named_left s s.nodes }, rows_left s tree.shape)
  where
    named_left : (s : State) (ns : List Node) → AllByRecursion (λ n. is_kept (cleared_tree s) n.number ≡ true) (filter (λ n. is_named s n.number) ns)
    named_left s ns =
        all_more (λ n. n.number ≡ n.number × (is_named s n.number ≡ true)) (λ n. is_kept (cleared_tree s) n.number ≡ true) (filter (λ n. is_named s n.number) ns)
        (λ n p. rw p.1 refl) (all_filtered (λ n. n.number ≡ n.number) (λ n. is_named s n.number) ns (all_always (λ n. n.number ≡ n.number) ns (λ n. refl)))
