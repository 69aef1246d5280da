-- One node is changed: the rows are those of the state that has it so, and the tree goes on.
use Rattle.std.proofs.Common.{◌≡◌, ◌≢◌, ℕ, Bool, true, false, cond, eqb, List, [], ◌∷◌, length, map, Some, refl, sym, ap, subst, ◌∙◌}
use Rattle.std.specs.Prelude.{IfSome, Option}
use Rattle.std.specs.List.{AllByRecursion}
use Rattle.std.proofs.lemmas.Bool.{ne_eqb, eq-eqb, eqb-true, eqb-false}
use Rattle.std.proofs.lemmas.List.{length-map}
use Rattle.fuse_rows.specs.declared.rows.NodeRow.{NodeRow}
use Rattle.fuse_rows.specs.declared.rows.Full.{Full}
use Rattle.fuse_rows.specs.declared.rows.Room.{Room}
use Rattle.fuse_tree.specs.State.{State, terms_of, Node, Shape, IsNode, FitsCapacity, node_at}
use Rattle.fuse_tree.specs.Space.{room_of}
use Rattle.fuse_rows.specs.Rows.{with_row, put_node, at_node}
use Rattle.fuse_rows.specs.Blocks.{Body}
use Rattle.fuse_tree.specs.Rowed.{full_of, body_of_node, counters_of, rows_of_state}
use Rattle.fuse_tree.specs.Changing.{changed_at, with_changed}
use Rattle.fuse_plan.proofs.Lists.{all_both}
use Rattle.fuse_plan.proofs.Counts.{subdirs_mapped}
use Rattle.fuse_plan.proofs.Trees.{SamePlace, tree_mapped}
use Rattle.fuse_plan.proofs.Blocks.{recounted}
use Rattle.fuse_plan.proofs.Puts.{only_one, put_there}

-- in the node d
module _ (s : State) (change : Node → Node) (same : (n : Node) → SamePlace n (change n)) (d : Node) (tree : Shape s) (e : node_at s d.number ≡ Some d) where
  abbrev after : State
  after = with_changed d.number change s

  place : (n : Node) (b : Bool) → SamePlace n (cond b (change n) n)
  place n true = same n
  place n false = record { number = refl; kind = refl }

  places : (n : Node) → SamePlace n (changed_at d.number change n)
  places n = place n (eqb n.number d.number)

  node_then : (n : Node) → IsNode (terms_of s) s.next_node (change d) → IsNode (terms_of s) s.next_node n → (n.number ≡ d.number → n ≡ d) → (b : Bool) → eqb n.number d.number ≡ b
      → IsNode (terms_of s) s.next_node (cond b (change n) n)
  node_then n ok p one true is = subst (λ (m : Node). IsNode (terms_of s) s.next_node (change m)) (sym (one (eqb-true n.number d.number is))) ok
  node_then n ok p one false is = p

  pub changed_tree : IsNode (terms_of s) s.next_node (change d) → IfSome s.capacity (FitsCapacity after) → Shape after
  changed_tree ok space =
      tree_mapped s (changed_at d.number change) places
      (all_both (IsNode (terms_of s) s.next_node) (λ n. n.number ≡ d.number → n ≡ d) (λ n. IsNode (terms_of s) s.next_node (changed_at d.number change n)) s.nodes
      (λ n p one. node_then n ok p one (eqb n.number d.number) refl)
      tree.nodes (only_one d.number d s.nodes tree.nodes_rise e))
      space tree

  -- nothing else is counted otherwise
  pub full_then : (n : Node) → full_of after n ≡ full_of s n
  full_then n = rw (subdirs_mapped s (changed_at d.number change) places n.number) refl

  module _ (row : NodeRow) (f : Body → Body) (here : full_of s (change d) ≡ record { row = row; content = f (body_of_node d) }) where
    number : row.node ≡ d.number
    number = sym (ap (λ (x : Full). x.row.node) here) ∙ (same d).number

    each_then : (n : Node) → (n.number ≡ d.number → n ≡ d) → (b : Bool) → eqb n.number d.number ≡ b
        → at_node d.number f (with_row row (full_of s n)) ≡ full_of s (cond b (change n) n)
    each_then n one true is =
        let n_is : n ≡ d = one (eqb-true n.number d.number is) in
        subst (λ (m : Node). at_node d.number f (with_row row (full_of s m)) ≡ full_of s (change m)) (sym n_is)
        (rw (eq-eqb d.number row.node (sym number), eq-eqb row.node d.number number) (sym here))
    each_then n one false is =
        let other : n.number ≢ row.node = λ e. eqb-false n.number d.number is (e ∙ number) in
        rw (ne_eqb n.number row.node other, is) refl

    each : (ns : List Node) → AllByRecursion (λ n. n.number ≡ d.number → n ≡ d) ns
        → map (at_node d.number f) (map (with_row row) (map (full_of s) ns)) ≡ map (full_of after) (map (changed_at d.number change) ns)
    each [] one = refl
    each (n ∷ ns) one =
        let head : at_node d.number f (with_row row (full_of s n)) ≡ full_of after (changed_at d.number change n) =
        each_then n one.0 (eqb n.number d.number) refl ∙ sym (full_then (changed_at d.number change n)) in
        rw (head, each ns one.1) refl

    -- where the room is counted anew
    pub changed_rows : (room : Option Room) → room ≡ room_of after
        → record (rows_of_state s) {
          nodes = map (at_node d.number f) (put_node row (map (full_of s) s.nodes));
          counters = record (counters_of s) { room = room };
        } ≡ rows_of_state after
    changed_rows room counted =
        let nodes : map (at_node d.number f) (put_node row (map (full_of s) s.nodes)) ≡ map (full_of after) (map (changed_at d.number change) s.nodes) =
        ap (map (at_node d.number f)) (put_there s row d (subst (λ (k : ℕ). node_at s k ≡ Some d) (sym number) e))
        ∙ each s.nodes (only_one d.number d s.nodes tree.nodes_rise e) in
        ap (λ (fs : List Full). record (rows_of_state s) { nodes = fs; counters = record (counters_of s) { room = room } }) nodes
        ∙ recounted after (length s.nodes) room (sym (length-map s.nodes (changed_at d.number change))) counted
