-- The rows of an entry gone are those of the state without it, and the tree goes on.
use Rattle.std.proofs.Common.{◌≡◌, ◌≢◌, ◌≤◌, ◌<◌, ◌+◌, ◌-◌, ◌==◌, ◌&&◌, ℕ, suc, Bool, true, false, cond, not, eqb, List, [], ◌∷◌, length, map, Some, refl, sym, ap, subst, ◌∙◌, inl, inr, add-zero, arith}
use Rattle.std.specs.Prelude.{find, filter}
use Rattle.std.specs.List.{AllByRecursion, list_any}
use Rattle.std.proofs.lemmas.Bool.{ne_eqb, eq-eqb, eqb-true, eqb-false}
use Rattle.std.proofs.lemmas.List.{length-map}
use Rattle.fuse_wire.specs.declared.moment.Moment.{Moment}
use Rattle.fuse_rows.specs.declared.rows.EntryRow.{EntryRow}
use Rattle.fuse_rows.specs.declared.rows.Full.{Full}
use Rattle.fuse_rows.specs.declared.rows.NodeRow.{NodeRow}
use Rattle.fuse_tree.specs.State.{State, terms_of, used_of, Node, Shape, IsNode, IsEntry, Apart, is_dir, is_dir_of, has_number, is_below, node_at, up_of, subdirs_of}
use Rattle.fuse_rows.specs.Rows.{with_row, put_node, apply}
use Rattle.fuse_tree.specs.Rowed.{body_of_node, full_of, row_of, rows_of_state, counters_of}
use Rattle.fuse_tree.specs.Space.{room_of}
use Rattle.fuse_tree.specs.Done.{touched, touch}
use Rattle.fuse_tree.specs.Removing.{marked, mark, without_entry, entry_gone, has_entries}
use Rattle.fuse_plan.specs.inner.PlanRemoving.{left_row, unnamed_row, gone_changes}
use Rattle.fuse_plan.proofs.Lists.{all_more, all_both, any_found, any_gives, cond_found, found, count_mapped, length_kept, and_true, and_false, or_false}
use Rattle.fuse_plan.proofs.Ups.{up_in}
use Rattle.fuse_plan.proofs.Trees.{SamePlace, tree_mapped}
use Rattle.fuse_plan.proofs.Blocks.{used_mapped, room_told, space_same, recounted}
use Rattle.fuse_plan.proofs.Puts.{node_found, only_one}
use Rattle.fuse_plan.proofs.Making.{tree_touched, twice}
use Rattle.fuse_plan.proofs.EntryGone.{Standing, gone_only, left_others, up_less, up_gone, tree_less}

-- ---- rows that take the place of those of nodes that are there

pub kept_number : (row : NodeRow) (f : Full) → (with_row row f).row.node ≡ f.row.node
kept_number row f = step (eqb f.row.node row.node) refl
  where
    step : (b : Bool) → eqb f.row.node row.node ≡ b → (cond b (record f { row = row }) f).row.node ≡ f.row.node
    step true is = sym (eqb-true f.row.node row.node is)
    step false is = refl

number_there : (G : Node → Full) (k : ℕ) (ns : List Node) → ((n : Node) → (G n).row.node ≡ n.number)
    → list_any (λ f. f.row.node == k) (map G ns) ≡ list_any (has_number k) ns
number_there G k [] numbers = refl
number_there G k (n ∷ ns) numbers = rw (numbers n, number_there G k ns numbers) refl

-- the rows that stand for nodes by G, and one of them in the place of its own
pub put_over : (G : Node → Full) (row : NodeRow) (ns : List Node) → ((n : Node) → (G n).row.node ≡ n.number) → list_any (has_number row.node) ns ≡ true
    → put_node row (map G ns) ≡ map (λ n. with_row row (G n)) ns
put_over G row ns numbers there = rw (number_there G row.node ns numbers ∙ there) (each ns)
  where
    each : (ms : List Node) → map (with_row row) (map G ms) ≡ map (λ n. with_row row (G n)) ms
    each [] = refl
    each (m ∷ ms) = ap (λ (fs : List Full). with_row row (G m) ∷ fs) (each ms)

-- the same rows by G as by H, where they are the same for each node
pub same_rows : (G H : Node → Full) (ns : List Node) → AllByRecursion (λ n. G n ≡ H n) ns → map G ns ≡ map H ns
same_rows G H [] same = refl
same_rows G H (n ∷ ns) same = rw (same.0, same_rows G H ns same.1) refl

-- ---- what is counted

larger : (b : Bool) (l m x : ℕ) → l ≡ m + x → cond b (suc l) l ≡ cond b (suc m) m + x
larger true l m x e = omega arith
larger false l m x e = e

one_more : (b : Bool) (l : ℕ) → cond b (suc l) l ≡ l + cond b 1 0
one_more true l = omega arith
one_more false l = sym (add-zero l)

-- the node of this number is counted no more, and the others are counted as before
pub count_less : (p q : Node → Bool) (f : Node → Node) (k : ℕ) (c : Node) (ns : List Node) → Apart (λ n m. n.number < m.number) ns
    → find (λ n. n.number == k) ns ≡ Some c
    → AllByRecursion (λ n. n.number ≢ k → p (f n) ≡ q n) ns → p (f c) ≡ false → length (filter q ns) ≡ length (filter p (map f ns)) + cond (q c) 1 0
count_less p q f k c [] rise e others here = absurd cc
count_less p q f k c (n ∷ ns) rise e others here =
    elim (cond_found (eqb n.number k) n c (find (λ m. m.number == k) ns) e) [
      | inl h ↦ (
          let at : n.number ≡ k = eqb-true n.number k h.0 in
          let gone : p (f n) ≡ false = subst (λ (m : Node). p (f m) ≡ false) (sym h.1) here in
          let rest : AllByRecursion (λ m. p (f m) ≡ q m) ns =
          all_both (λ m. n.number < m.number) (λ m. m.number ≢ k → p (f m) ≡ q m) (λ m. p (f m) ≡ q m) ns
          (λ m lt same. same (let lt = lt in omega arith)) rise.0 others.1 in
          length_kept (q n) n (filter q ns)
          ∙ one_more (q n) (length (filter q ns))
          ∙ rw (gone, count_mapped p q f ns rest) (ap (λ (m : Node). length (filter q ns) + cond (q m) 1 0) h.1))
      | inr h ↦ (
          let other : n.number ≢ k = eqb-false n.number k h.0 in
          length_kept (q n) n (filter q ns)
          ∙ larger (q n) (length (filter q ns)) (length (filter p (map f ns))) (cond (q c) 1 0) (count_less p q f k c ns rise.1 h.1 others.1 here)
          ∙ ap (λ (m : ℕ). m + cond (q c) 1 0)
          (ap (λ (b : Bool). cond b (suc (length (filter p (map f ns)))) (length (filter p (map f ns)))) (sym (others.0 other))
          ∙ sym (length_kept (p (f n)) (f n) (filter p (map f ns)))))
    ]

-- ---- times

marked_same : (k : ℕ) (now : Moment) (n : Node) → SamePlace n (marked k now n)
marked_same k now n = record { number = refl; kind = refl }

pub tree_marked : (s : State) (k : ℕ) (now : Moment) → Shape s → Shape (mark k now s)
tree_marked s k now tree =
    tree_mapped s (marked k now) (marked_same k now)
    (all_more (IsNode (terms_of s) s.next_node) (λ n. IsNode (terms_of s) s.next_node (marked k now n)) s.nodes
    (λ n p. record { from_one = p.from_one; below = p.below; mode = p.mode; content = p.content; size = p.size; blocks = p.blocks }) tree.nodes)
    (space_same s (mark k now s) s.capacity (used_mapped (marked k now) s.nodes (λ n. refl)) tree.space) tree

-- ---- the entry e of directory d leads to node c, in which no entry stands

module _ (s : State) (e : EntryRow) (d c : Node) (now : Moment) (tree : Shape s) (stands : Standing s e) (at_d : node_at s e.dir ≡ Some d)
    (at_c : node_at s e.child ≡ Some c) (empty : AllByRecursion (λ x. x.dir ≢ e.child) s.entries) where
  abbrev after : State
  after = entry_gone e now s

  abbrev changed : Node → Node
  changed n = marked e.child now (touched e.dir now n)

  abbrev stays : EntryRow → Bool
  stays x = not (x.cookie == e.cookie)

  d_is : d.number ≡ e.dir
  d_is = (node_found s e.dir d tree at_d).0

  c_is : c.number ≡ e.child
  c_is = (node_found s e.child c tree at_c).0

  given : 1 ≤ c.number
  given = (found (IsNode (terms_of s) s.next_node) (λ n. n.number == e.child) s.nodes c tree.nodes at_c).0.from_one

  dir_given : e.dir ≢ 0
  dir_given =
      let one : 1 ≤ d.number = (found (IsNode (terms_of s) s.next_node) (λ n. n.number == e.dir) s.nodes d tree.nodes at_d).0.from_one in
      let is : d.number ≡ e.dir = d_is in
      omega arith

  -- the child isn't the directory above it
  pub apart : e.dir ≢ e.child
  apart =
      let one : 1 ≤ c.number = given in
      let is : c.number ≡ e.child = c_is in
      subst (λ (k : ℕ). k ≢ e.child) stands.up (up_in (λ k. k ≢ e.child) s.entries e.child empty (omega arith))

  pub gone_tree : Shape after
  gone_tree =
      let one : 1 ≤ c.number = given in
      let is : c.number ≡ e.child = c_is in
      tree_marked (touch e.dir now (without_entry e.cookie s)) e.child now
      (tree_touched (without_entry e.cookie s) e.dir now (tree_less s stays e.child (gone_only e s.entries stands.only) empty (omega arith) tree))

  up_other : (k : ℕ) → k ≢ e.child → up_of after.entries k ≡ up_of s.entries k
  up_other k ne = up_less stays s.entries e.child k (gone_only e s.entries stands.only) ne

  up_child : up_of after.entries e.child ≡ 0
  up_child = up_gone stays s.entries e.child (left_others e s.entries stands.only)

  nodes_twice : (ns : List Node) → map (marked e.child now) (map (touched e.dir now) ns) ≡ map changed ns
  nodes_twice [] = refl
  nodes_twice (n ∷ ns) = ap (λ (ms : List Node). changed n ∷ ms) (nodes_twice ns)

  -- the directory has one less below it where the child is a directory, and each other has as many as before
  pub subdirs_then : (k : ℕ) → k ≢ 0 → subdirs_of s k ≡ subdirs_of after k + cond (is_dir c.mode && eqb e.dir k) 1 0
  subdirs_then k ne =
      let others : AllByRecursion (λ n. n.number ≢ e.child → is_below after.entries k (changed n) ≡ is_below s.entries k n) s.nodes =
      all_more (IsNode (terms_of s) s.next_node) (λ n. n.number ≢ e.child → is_below after.entries k (changed n) ≡ is_below s.entries k n) s.nodes
      (λ n p other. rw (up_other n.number other) refl) tree.nodes in
      let turned : 0 ≢ k = λ zero. ne (sym zero) in
      let here : is_below after.entries k (changed c) ≡ false = rw (c_is, up_child, ne_eqb 0 k turned) (and_false (is_dir c.mode)) in
      let was : is_below s.entries k c ≡ (is_dir c.mode && eqb e.dir k) = rw (c_is, stands.up) refl in
      count_less (is_below after.entries k) (is_below s.entries k) changed e.child c s.nodes tree.nodes_rise at_c others here
      ∙ ap (λ (b : Bool). length (filter (is_below after.entries k) (map changed s.nodes)) + cond b 1 0) was
      ∙ ap (λ (ns : List Node). length (filter (is_below after.entries k) ns) + cond (is_dir c.mode && eqb e.dir k) 1 0) (sym (nodes_twice s.nodes))

  no_less : (b : Bool) (m : ℕ) → m + cond (b && false) 1 0 ≡ m
  no_less true m = add-zero m
  no_less false m = add-zero m

  subdirs_other : (k : ℕ) → k ≢ 0 → e.dir ≢ k → subdirs_of after k ≡ subdirs_of s k
  subdirs_other k ne other =
      let tested : eqb e.dir k ≡ false = ne_eqb e.dir k other in
      sym (subdirs_then k ne ∙ rw tested (no_less (is_dir c.mode) (subdirs_of after k)))

  one_less : (b : Bool) (l m : ℕ) → l ≡ m + cond (b && true) 1 0 → m ≡ cond b (l - 1) l
  one_less true l m is = omega arith
  one_less false l m is = sym (add-zero m) ∙ sym is

  subdirs_dir : subdirs_of after e.dir ≡ cond (is_dir c.mode) (subdirs_of s e.dir - 1) (subdirs_of s e.dir)
  subdirs_dir =
      let tested : eqb e.dir e.dir ≡ true = eq-eqb e.dir e.dir refl in
      one_less (is_dir c.mode) (subdirs_of s e.dir) (subdirs_of after e.dir)
      (subst (λ (b : Bool). subdirs_of s e.dir ≡ subdirs_of after e.dir + cond (is_dir c.mode && b) 1 0) tested (subdirs_then e.dir dir_given))

  -- the rows of the two nodes, and those of the others
  pub child_then : full_of after (changed c) ≡ record { row = unnamed_row now (row_of s c); content = body_of_node c }
  child_then =
      let same : c.number ≡ e.child = c_is in
      let one : 1 ≤ c.number = given in
      let other : e.child ≢ e.dir = λ is. apart (sym is) in
      let count : subdirs_of after e.child ≡ subdirs_of s e.child = subdirs_other e.child (omega arith) apart in
      rw (same, ne_eqb e.child e.dir other, eq-eqb e.child e.child refl, up_child, count) refl

  pub dir_then : full_of after (changed d) ≡ record { row = left_row now (row_of s c) (row_of s d); content = body_of_node d }
  dir_then = rw (d_is, eq-eqb e.dir e.dir refl, ne_eqb e.dir e.child apart, up_other e.dir apart, subdirs_dir) refl

  pub other_then : (n : Node) → 1 ≤ n.number → n.number ≢ e.dir → n.number ≢ e.child → full_of after (changed n) ≡ full_of s n
  other_then n one from_dir from_child =
      let turned : e.dir ≢ n.number = λ is. from_dir (sym is) in
      let positive : n.number ≢ 0 = omega arith in
      rw (ne_eqb n.number e.dir from_dir, ne_eqb n.number e.child from_child, up_other n.number from_child, subdirs_other n.number positive turned) refl

  -- both rows among those of the state
  abbrev put : Node → Full
  put n = with_row (unnamed_row now (row_of s c)) (with_row (left_row now (row_of s c) (row_of s d)) (full_of s n))

  numbers_apart : d.number ≢ c.number
  numbers_apart = λ same. apart (sym d_is ∙ same ∙ c_is)

  put_dir : put d ≡ full_of after (changed d)
  put_dir = rw (eq-eqb d.number d.number refl, ne_eqb d.number c.number numbers_apart) (sym dir_then)

  put_child : put c ≡ full_of after (changed c)
  put_child =
      let turned : c.number ≢ d.number = λ same. numbers_apart (sym same) in
      rw (ne_eqb c.number d.number turned, eq-eqb c.number c.number refl) (sym child_then)

  put_other : (n : Node) → 1 ≤ n.number → n.number ≢ d.number → n.number ≢ c.number → put n ≡ full_of after (changed n)
  put_other n one from_dir from_child =
      rw (ne_eqb n.number d.number from_dir, ne_eqb n.number c.number from_child)
      (sym (other_then n one (λ is. from_dir (is ∙ sym d_is)) (λ is. from_child (is ∙ sym c_is))))

  put_each : (n : Node) → 1 ≤ n.number → (n.number ≡ e.dir → n ≡ d) → (n.number ≡ e.child → n ≡ c) → put n ≡ full_of after (changed n)
  put_each n one is_dir is_child =
      let by_child : (b : Bool) → eqb n.number c.number ≡ b → n.number ≢ d.number → put n ≡ full_of after (changed n) =
      elim [
        | true ↦ λ is other. subst (λ (m : Node). put m ≡ full_of after (changed m)) (sym (is_child (eqb-true n.number c.number is ∙ c_is))) put_child
        | false ↦ λ is other. put_other n one other (eqb-false n.number c.number is)
      ] in
      let by_dir : (b : Bool) → eqb n.number d.number ≡ b → put n ≡ full_of after (changed n) =
      elim [
        | true ↦ λ is. subst (λ (m : Node). put m ≡ full_of after (changed m)) (sym (is_dir (eqb-true n.number d.number is ∙ d_is))) put_dir
        | false ↦ λ is. by_child (eqb n.number c.number) refl (eqb-false n.number d.number is)
      ] in
      by_dir (eqb n.number d.number) refl

  put_all : AllByRecursion (λ n. put n ≡ full_of after (changed n)) s.nodes
  put_all =
      all_both (IsNode (terms_of s) s.next_node) (λ n. (n.number ≡ e.dir → n ≡ d) × (n.number ≡ e.child → n ≡ c)) (λ n. put n ≡ full_of after (changed n)) s.nodes
      (λ n p one. put_each n p.from_one one.0 one.1) tree.nodes
      (all_both (λ n. n.number ≡ e.dir → n ≡ d) (λ n. n.number ≡ e.child → n ≡ c) (λ n. (n.number ≡ e.dir → n ≡ d) × (n.number ≡ e.child → n ≡ c)) s.nodes
      (λ n p q. (p, q))
      (only_one e.dir d s.nodes tree.nodes_rise at_d) (only_one e.child c s.nodes tree.nodes_rise at_c))

  d_there : list_any (has_number d.number) s.nodes ≡ true
  d_there = any_found (has_number d.number) s.nodes d (subst (λ (k : ℕ). node_at s k ≡ Some d) (sym d_is) at_d)

  c_there : list_any (has_number c.number) s.nodes ≡ true
  c_there = any_found (has_number c.number) s.nodes c (subst (λ (k : ℕ). node_at s k ≡ Some c) (sym c_is) at_c)

  nodes_meet : put_node (unnamed_row now (row_of s c)) (put_node (left_row now (row_of s c) (row_of s d)) (map (full_of s) s.nodes))
      ≡ map (full_of after) after.nodes
  nodes_meet =
      let first = left_row now (row_of s c) (row_of s d) in
      ap (put_node (unnamed_row now (row_of s c))) (put_over (full_of s) first s.nodes (λ n. refl) d_there)
      ∙ put_over (λ n. with_row first (full_of s n)) (unnamed_row now (row_of s c)) s.nodes (λ n. kept_number first (full_of s n)) c_there
      ∙ same_rows put (λ n. full_of after (changed n)) s.nodes put_all
      ∙ sym (twice changed (full_of after) s.nodes)
      ∙ ap (map (full_of after)) (sym (nodes_twice s.nodes))

  -- the changes make the rows of the state that is left
  pub gone_rows : apply (rows_of_state s) (gone_changes now (record { cookie = e.cookie; child = row_of s c }) (row_of s d)) ≡ rows_of_state after
  gone_rows =
      let count : length s.nodes ≡ length after.nodes =
      sym (length-map s.nodes (touched e.dir now)) ∙ sym (length-map (map (touched e.dir now) s.nodes) (marked e.child now)) in
      let used : used_of s ≡ used_of after =
      sym (used_mapped (marked e.child now) (map (touched e.dir now) s.nodes) (λ n. refl) ∙ used_mapped (touched e.dir now) s.nodes (λ n. refl)) in
      ap (λ (fs : List Full). record (rows_of_state after) { nodes = fs; counters = record (counters_of after) { nodes = length s.nodes; room = room_of s } })
      nodes_meet
      ∙ recounted after (length s.nodes) (room_of s) count (room_told s.capacity (used_of s) (used_of after) used)

-- ---- where no entry stands

-- in a file
pub none_in_file : (s : State) (k : ℕ) (c : Node) → Shape s → node_at s k ≡ Some c → is_dir c.mode ≡ false → AllByRecursion (λ x. x.dir ≢ k) s.entries
none_in_file s k c tree at file =
    all_more (IsEntry s.nodes s.entries s.next_cookie) (λ x. x.dir ≢ k) s.entries
    (λ x p same. any_gives (λ n. n.number ≡ k → n ≡ c) (is_dir_of x.dir) ⊥ s.nodes (only_one k c s.nodes tree.nodes_rise at) p.dir
    (λ n one test.
    let parts = and_true _ _ test in
    let is : n ≡ c = one (eqb-true n.number x.dir parts.0 ∙ same) in
    let kind : is_dir c.mode ≡ true = subst (λ (m : Node). is_dir m.mode ≡ true) is parts.1 in
    absurd cc))
    tree.entries

-- and in a directory that has none
pub none_in_empty : (es : List EntryRow) (k : ℕ) → has_entries es k ≡ false → AllByRecursion (λ x. x.dir ≢ k) es
none_in_empty [] k none = tt
none_in_empty (x ∷ es) k none =
    let h = or_false (eqb x.dir k) (has_entries es k) none in
    (eqb-false x.dir k h.0, none_in_empty es k h.1)
