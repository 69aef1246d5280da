-- The rows of RENAME and RENAME2 are those of the state that they leave.
use Rattle.std.proofs.Common.{◌≡◌, ◌≢◌, ◌≤◌, ◌||◌, ◌==◌, ℕ, Bool, true, false, eqb, List, [], ◌∷◌, length, map, Some, refl, sym, ap, subst, ◌∙◌, arith}
use Rattle.std.specs.List.{AllByRecursion, list_any}
use Rattle.std.proofs.lemmas.Bool.{ne_eqb, eq-eqb, eqb-true, eqb-false}
use Rattle.std.proofs.lemmas.List.{length-map}
use Rattle.fuse_wire.specs.declared.moment.Moment.{Moment}
use Rattle.fuse_rows.specs.declared.rows.EntryRow.{EntryRow}
use Rattle.fuse_rows.specs.declared.rows.Full.{Full}
use Rattle.fuse_rows.specs.declared.rows.NodeRow.{NodeRow}
use Rattle.fuse_tree.specs.State.{State, terms_of, used_of, Node, Shape, IsNode, node_at, up_of, subdirs_of}
use Rattle.fuse_tree.specs.Rowed.{body_of_node, full_of, row_of, rows_of_state, counters_of}
use Rattle.fuse_tree.specs.Space.{room_of}
use Rattle.fuse_plan.specs.inner.PlanRenaming.{more, fewer, dir_row, moved_row}
use Rattle.fuse_plan.proofs.Lists.{found, or_false}
use Rattle.fuse_plan.proofs.Blocks.{used_mapped, room_told, recounted}
use Rattle.fuse_plan.proofs.Puts.{node_found}
use Rattle.fuse_plan.proofs.Making.{twice}
use Rattle.fuse_plan.proofs.MovedCounts.{Recounted}
use Rattle.fuse_plan.proofs.MovedRows.{puts, IsRowOf, puts_meet, timed, shifted, then_full, dir_then, child_then, other_then}

or_true : (b : Bool) → (b || true) ≡ true
or_true true = refl
or_true false = refl

-- rows put among those of a state, and its entries in other places, are the rows of the state in which it is so
pub rows_shifted : (s : State) (D C : ℕ → Bool) (now : Moment) (fs : List EntryRow) (next : ℕ) (rows : List NodeRow) → Shape s
    → AllByRecursion (IsRowOf s (then_full s D C now fs next)) rows
    → AllByRecursion (λ n. list_any (λ row. n.number == row.node) rows ≡ false → full_of s n ≡ then_full s D C now fs next n) s.nodes
    → record (rows_of_state s) {
      nodes = puts rows (map (full_of s) s.nodes);
      entries = fs;
      counters = record (counters_of s) { next_cookie = next };
    } ≡ rows_of_state (shifted D C now fs next s)
rows_shifted s D C now fs next rows tree each others =
    let after = shifted D C now fs next s in
    let nodes : puts rows (map (full_of s) s.nodes) ≡ map (full_of after) after.nodes =
    puts_meet s (then_full s D C now fs next) (full_of s) rows tree (λ n. refl) (λ n. refl) each others ∙ sym (twice (timed D C now) (full_of after) s.nodes) in
    let count : length s.nodes ≡ length after.nodes = sym (length-map s.nodes (timed D C now)) in
    let used : used_of s ≡ used_of after = sym (used_mapped (timed D C now) s.nodes (λ n. refl)) in
    ap (λ (fs : List Full). record (rows_of_state after) { nodes = fs; counters = record (counters_of after) { nodes = length s.nodes; room = room_of s } })
    nodes
    ∙ recounted after (length s.nodes) (room_of s) count (room_told s.capacity (used_of s) (used_of after) used)

pub at_own : (s : State) (k : ℕ) (n : Node) → Shape s → node_at s k ≡ Some n → node_at s n.number ≡ Some n
at_own s k n tree at = subst (λ (i : ℕ). node_at s i ≡ Some n) (sym (node_found s k n tree at).0) at

pub given_at : (s : State) (k : ℕ) (n : Node) → Shape s → node_at s k ≡ Some n → 1 ≤ k
given_at s k n tree at =
    let one : 1 ≤ n.number = (found (IsNode (terms_of s) s.next_node) (λ m. m.number == k) s.nodes n tree.nodes at).0.from_one in
    let is : n.number ≡ k = (node_found s k n tree at).0 in
    omega arith

-- node x comes to stand in directory `to`, it and `dir` change, and the nodes of which Y holds come to stand elsewhere
pub record Shift (s : State) (fs : List EntryRow) (dir to x : ℕ) (Y : ℕ → Bool) (d t c : Node) : Type 0 where
  pub tree : Shape s
  pub at_d : node_at s dir ≡ Some d
  pub at_t : node_at s to ≡ Some t
  pub at_c : node_at s x ≡ Some c
  pub x_dir : x ≢ dir
  pub x_to : x ≢ to
  pub y_dir : Y dir ≡ false
  pub y_to : Y to ≡ false
  pub ups : (j : ℕ) → j ≢ x → Y j ≡ false → up_of fs j ≡ up_of s.entries j
  pub up_x : up_of fs x ≡ to

module _ {s : State} {fs : List EntryRow} {dir to x : ℕ} {Y : ℕ → Bool} {d t c : Node} (now : Moment) (next : ℕ) (m : Shift s fs dir to x Y d t c) where
  abbrev D : ℕ → Bool
  D k = (k == to) || (k == dir)

  abbrev C : ℕ → Bool
  C k = (k == x) || Y k

  abbrev after : State
  after = shifted D C now fs next s

  abbrev G : Node → Full
  G = then_full s D C now fs next

  d_is : d.number ≡ dir
  d_is = (node_found s dir d m.tree m.at_d).0

  t_is : t.number ≡ to
  t_is = (node_found s to t m.tree m.at_t).0

  c_is : c.number ≡ x
  c_is = (node_found s x c m.tree m.at_c).0

  d_up : up_of fs d.number ≡ up_of s.entries d.number
  d_up = m.ups d.number (λ same. m.x_dir (sym same ∙ d_is)) (ap Y d_is ∙ m.y_dir)

  t_up : up_of fs t.number ≡ up_of s.entries t.number
  t_up = m.ups t.number (λ same. m.x_to (sym same ∙ t_is)) (ap Y t_is ∙ m.y_to)

  dir_is : (leaves enters : Bool) → subdirs_of after dir ≡ fewer leaves (more enters (subdirs_of s dir))
      → G d ≡ record { row = dir_row now leaves enters (row_of s d); content = body_of_node d }
  dir_is leaves enters count =
      dir_then s D C now fs next d _ (rw (eq-eqb d.number dir d_is) (or_true (eqb d.number to))) d_up
      (subst (λ (k : ℕ). subdirs_of after k ≡ fewer leaves (more enters (subdirs_of s k))) (sym d_is) count)

  to_is : (leaves enters : Bool) → subdirs_of after to ≡ fewer leaves (more enters (subdirs_of s to))
      → G t ≡ record { row = dir_row now leaves enters (row_of s t); content = body_of_node t }
  to_is leaves enters count =
      dir_then s D C now fs next t _ (rw (eq-eqb t.number to t_is) refl) t_up
      (subst (λ (k : ℕ). subdirs_of after k ≡ fewer leaves (more enters (subdirs_of s k))) (sym t_is) count)

  child_is : subdirs_of after x ≡ subdirs_of s x → G c ≡ record { row = moved_row now to (row_of s c); content = body_of_node c }
  child_is count =
      child_then s D C now fs next c to (rw (c_is, ne_eqb x to m.x_to, ne_eqb x dir m.x_dir) refl) (rw (eq-eqb c.number x c_is) refl)
      (ap (up_of fs) c_is ∙ m.up_x)
      (subst (λ (k : ℕ). subdirs_of after k ≡ subdirs_of s k) (sym c_is) count)

  rest_is : (n : Node) → n.number ≢ dir → n.number ≢ to → n.number ≢ x → Y n.number ≡ false → subdirs_of after n.number ≡ subdirs_of s n.number
      → full_of s n ≡ G n
  rest_is n from_dir from_to from_x isnt count =
      sym (other_then s D C now fs next n (rw (ne_eqb n.number to from_to, ne_eqb n.number dir from_dir) refl) (rw (ne_eqb n.number x from_x, isnt) refl)
      (m.ups n.number from_x isnt) count)

  module _ {moves comes lost : Bool} (recounted : Recounted (subdirs_of s) (subdirs_of after) dir to moves comes lost) where
    -- the rows of both directories, or of the one that both are, and that of x
    abbrev pub dirs_rows : Bool → List NodeRow
    dirs_rows true = dir_row now lost comes (row_of s d) ∷ moved_row now to (row_of s c) ∷ []
    dirs_rows false = dir_row now moves comes (row_of s d) ∷ dir_row now lost moves (row_of s t) ∷ moved_row now to (row_of s c) ∷ []

    one_dir : eqb d.number to ≡ true → dir ≡ to
    one_dir is = sym d_is ∙ eqb-true d.number to is

    two_dirs : eqb d.number to ≡ false → dir ≢ to
    two_dirs is same = eqb-false d.number to is (d_is ∙ same)

    child_row : IsRowOf s G (moved_row now to (row_of s c))
    child_row = (c, at_own s x c m.tree m.at_c, child_is (recounted.other x (given_at s x c m.tree m.at_c) m.x_dir m.x_to))

    pub dirs_are : (both : Bool) → eqb d.number to ≡ both → AllByRecursion (IsRowOf s G) (dirs_rows both)
    dirs_are true is = ((d, at_own s dir d m.tree m.at_d, dir_is lost comes (recounted.one (one_dir is))), (child_row, tt))
    dirs_are false is = (
      (d, at_own s dir d m.tree m.at_d, dir_is moves comes (recounted.from (two_dirs is))),
      ((t, at_own s to t m.tree m.at_t, to_is lost moves (recounted.into (two_dirs is))), (child_row, tt)),
    )

    -- a node of which Y holds
    pub lost_is : (y k : ℕ) (o : Node) → node_at s y ≡ Some o → Y y ≡ true → y ≢ dir → y ≢ to → up_of fs y ≡ k → IsRowOf s G (moved_row now k (row_of s o))
    lost_is y k o at is apart_dir apart_to up =
        let o_is : o.number ≡ y = (node_found s y o m.tree at).0 in
        let count : subdirs_of after y ≡ subdirs_of s y = recounted.other y (given_at s y o m.tree at) apart_dir apart_to in (
          o,
          at_own s y o m.tree at,
          child_then s D C now fs next o k (rw (o_is, ne_eqb y to apart_to, ne_eqb y dir apart_dir) refl) (rw (o_is, is) (or_true (eqb y x)))
              (ap (up_of fs) o_is ∙ up)
              (subst (λ (i : ℕ). subdirs_of after i ≡ subdirs_of s i) (sym o_is) count),
        )

    rest_same : (n : Node) → 1 ≤ n.number → eqb n.number d.number ≡ false → n.number ≢ to → eqb n.number c.number ≡ false → Y n.number ≡ false
        → full_of s n ≡ G n
    rest_same n one not_d from_to not_c isnt =
        let from_dir : n.number ≢ dir = λ same. eqb-false n.number d.number not_d (same ∙ sym d_is) in
        rest_is n from_dir from_to (λ same. eqb-false n.number c.number not_c (same ∙ sym c_is)) isnt (recounted.other n.number one from_dir from_to)

    pub dirs_rest : (both : Bool) → eqb d.number to ≡ both → (n : Node) → 1 ≤ n.number → Y n.number ≡ false
        → list_any (λ row. n.number == row.node) (dirs_rows both) ≡ false → full_of s n ≡ G n
    dirs_rest true is n one isnt none =
        let first = or_false (eqb n.number d.number) _ none in
        rest_same n one first.0 (λ same. eqb-false n.number d.number first.0 (same ∙ sym (eqb-true d.number to is)))
        (or_false (eqb n.number c.number) _ first.1).0 isnt
    dirs_rest false is n one isnt none =
        let first = or_false (eqb n.number d.number) _ none in
        let second = or_false (eqb n.number t.number) _ first.1 in
        rest_same n one first.0 (λ same. eqb-false n.number t.number second.0 (same ∙ sym t_is)) (or_false (eqb n.number c.number) _ second.1).0 isnt
