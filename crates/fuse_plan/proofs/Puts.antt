-- Rows that are put among those of a state.
use Rattle.std.proofs.Common.{◌≡◌, ◌≢◌, ◌<◌, ◌==◌, ℕ, Bool, true, false, cond, eqb, List, [], ◌∷◌, ◌++◌, map, Option, Some, None, refl, sym, ap, subst, ◌∙◌, inl, inr, arith}
use Rattle.std.specs.Prelude.{find}
use Rattle.std.specs.Option.{option_map}
use Rattle.std.specs.List.{AllByRecursion, list_any}
use Rattle.std.proofs.lemmas.Bool.{ne_eqb, eqb-true, eqb-false}
use Rattle.fuse_rows.specs.declared.rows.NodeRow.{NodeRow}
use Rattle.fuse_tree.specs.State.{State, Node, Shape, Apart, node_at, is_dir_of, is_dir}
use Rattle.fuse_rows.specs.declared.rows.Full.{Full}
use Rattle.fuse_rows.specs.Rows.{new_body, row_at, with_row, put_node}
use Rattle.fuse_tree.specs.Rowed.{body_of_node, full_of, rows_of_state}
use Rattle.fuse_plan.proofs.Lists.{cond_found, any_found, found}
use Rattle.fuse_plan.proofs.Trees.{nodes_below}

pub find_full : (s : State) (k : ℕ) (ns : List Node) → find (λ f. f.row.node == k) (map (full_of s) ns) ≡ option_map (full_of s) (find (λ n. n.number == k) ns)
find_full s k [] = refl
find_full s k (n ∷ ns) =
    elim (eqb n.number k) as
    (λ b. cond b (Some (full_of s n)) (find (λ f. f.row.node == k) (map (full_of s) ns)) ≡ option_map (full_of s)
    (cond b (Some n) (find (λ m. m.number == k) ns))) [
      | true ↦ refl
      | false ↦ find_full s k ns
    ]

map_twice : (s : State) (o : Option Node) → option_map (λ f. f.row) (option_map (full_of s) o) ≡ option_map (λ n. (full_of s n).row) o
map_twice s None = refl
map_twice s (Some n) = refl

pub row_found : (s : State) (k : ℕ) → row_at (rows_of_state s) k ≡ option_map (λ n. (full_of s n).row) (node_at s k)
row_found s k = ap (option_map (λ f. f.row)) (find_full s k s.nodes) ∙ map_twice s (node_at s k)

-- the node that is found has the number, and the number is given out
pub node_found : (s : State) (k : ℕ) (d : Node) → Shape s → node_at s k ≡ Some d → (d.number ≡ k) × (k < s.next_node)
node_found s k d tree e =
    let q : (d.number < s.next_node) × (eqb d.number k ≡ true) = found (λ n. n.number < s.next_node) (λ n. n.number == k) s.nodes d (nodes_below s tree) e in
    let lt : d.number < s.next_node = q.0 in
    let is : d.number ≡ k = eqb-true d.number k q.1 in (is, omega arith)

-- it is the only one with this number
pub only_one : (k : ℕ) (d : Node) (ns : List Node) → Apart (λ n m. n.number < m.number) ns → find (λ n. n.number == k) ns ≡ Some d
    → AllByRecursion (λ n. n.number ≡ k → n ≡ d) ns
only_one k d [] rise e = absurd cc
only_one k d (n ∷ ns) rise e =
    elim (cond_found (eqb n.number k) n d (find (λ m. m.number == k) ns) e) [
      | inl h ↦ (λ is. h.1, later ns (subst (λ i. AllByRecursion (λ m. i < m.number) ns) (eqb-true n.number k h.0) rise.0))
      | inr h ↦ (λ is. absurd (eqb-false n.number k h.0 is), only_one k d ns rise.1 h.1)
    ]
  where
    later : (ms : List Node) → AllByRecursion (λ m. k < m.number) ms → AllByRecursion (λ m. m.number ≡ k → m ≡ d) ms
    later [] all = tt
    later (m ∷ ms) all = let lt : k < m.number = all.0 in (λ is. absurd (omega arith), later ms all.1)

each_put : (s : State) (G : Node → Full) (row : NodeRow) (d : Node) (ns : List Node) → AllByRecursion (λ n. n.number ≡ row.node → n ≡ d) ns
    → AllByRecursion (λ n. n.number < s.next_node) ns
    → ((n : Node) → n.number < s.next_node → n.number ≢ row.node → G n ≡ full_of s n) → G d ≡ record { row = row; content = body_of_node d }
    → map G ns ≡ map (with_row row) (map (full_of s) ns)
each_put s G row d [] one below other here = refl
each_put s G row d (n ∷ ns) one below other here =
    let head : G n ≡ with_row row (full_of s n) = step (eqb n.number row.node) refl in
    rw (head, each_put s G row d ns one.1 below.1 other here) refl
  where
    step : (b : Bool) → eqb n.number row.node ≡ b → G n ≡ cond b (record { row = row; content = body_of_node n }) (full_of s n)
    step true is =
        let same : n ≡ d = one.0 (eqb-true n.number row.node is) in subst (λ (m : Node). G m ≡ record { row = row; content = body_of_node m }) (sym same) here
    step false is = other n below.0 (eqb-false n.number row.node is)

-- a row of a node that is there takes the place of its own
pub put_there : (s : State) (row : NodeRow) (d : Node) → node_at s row.node ≡ Some d
    → put_node row (map (full_of s) s.nodes) ≡ map (with_row row) (map (full_of s) s.nodes)
put_there s row d e =
    let there : list_any (λ f. f.row.node == row.node) (map (full_of s) s.nodes) ≡ true =
    any_found (λ f. f.row.node == row.node) (map (full_of s) s.nodes) (full_of s d) (find_full s row.node s.nodes ∙ ap (option_map (full_of s)) e) in
    rw there refl

-- a row in the place of a node's own: the rows are those by G, where G differs at this node alone
pub put_changed : (s : State) (G : Node → Full) (row : NodeRow) (d : Node) → Shape s → node_at s row.node ≡ Some d
    → ((n : Node) → n.number < s.next_node → n.number ≢ row.node → G n ≡ full_of s n) → G d ≡ record { row = row; content = body_of_node d }
    → put_node row (map (full_of s) s.nodes) ≡ map G s.nodes
put_changed s G row d tree e other here =
    put_there s row d e ∙ sym (each_put s G row d s.nodes (only_one row.node d s.nodes tree.nodes_rise e) (nodes_below s tree) other here)

none_there : (G : Node → Full) (row : NodeRow) (ns : List Node) → ((n : Node) → (G n).row.node ≡ n.number) → AllByRecursion (λ n. n.number < row.node) ns
    → list_any (λ f. f.row.node == row.node) (map G ns) ≡ false
none_there G row [] numbers below = refl
none_there G row (n ∷ ns) numbers below =
    let lt : n.number < row.node = below.0 in
    let ne : n.number ≢ row.node = omega arith in
    rw (numbers n, ne_eqb n.number row.node ne) (none_there G row ns numbers below.1)

-- a row of a new number comes last
pub put_new : (G : Node → Full) (row : NodeRow) (ns : List Node) → ((n : Node) → (G n).row.node ≡ n.number) → AllByRecursion (λ n. n.number < row.node) ns
    → put_node row (map G ns) ≡ map G ns ++ record { row = row; content = new_body row.written } ∷ []
put_new G row ns numbers below = rw (none_there G row ns numbers below) refl

pub dir_there : (k : ℕ) (d : Node) (ns : List Node) → find (λ n. n.number == k) ns ≡ Some d → is_dir d.mode ≡ true → list_any (is_dir_of k) ns ≡ true
dir_there k d [] e dir = absurd cc
dir_there k d (n ∷ ns) e dir =
    elim (cond_found (eqb n.number k) n d (find (λ m. m.number == k) ns) e) [
      | inl h ↦ rw (h.0, subst (λ m. is_dir m.mode ≡ true) (sym h.1) dir) refl
      | inr h ↦ rw (h.0, dir_there k d ns h.1 dir) refl
    ]
