-- The rows of a new node are those of the state that has it, and the tree goes on.
use Rattle.std.proofs.Common.{◌≡◌, ◌≢◌, ◌<◌, ◌≤◌, ◌+◌, ◌&&◌, ℕ, Bool, true, false, cond, eqb, List, [], ◌∷◌, ◌++◌, length, map, Some, None, refl, sym, ap, subst, ◌∙◌, add-zero, arith}
use Rattle.std.specs.Prelude.{Option, IfSome, nat_le, is_some}
use Rattle.std.specs.Option.{option_map}
use Rattle.std.proofs.Math.Seq.{drop-nil}
use Rattle.std.specs.List.{AllByRecursion, list_any, sum_by}
use Rattle.std.proofs.lemmas.Bool.{ne_eqb, eq-eqb, leb-false}
use Rattle.std.proofs.lemmas.List.{length-append, length-map, map-append, append-nil}
use Rattle.fuse_wire.specs.declared.moment.Moment.{Moment}
use Rattle.fuse_tree.specs.declared.new_node.NewNode.{NewNode}
use Rattle.fuse_rows.specs.declared.rows.Full.{Full}
use Rattle.fuse_rows.specs.declared.rows.NodeRow.{NodeRow}
use Rattle.fuse_tree.specs.State.{State, terms_of, Node, Shape, HasMode, Carries, CountsBlocks, IsNode, FitsCapacity, no_blocks, is_dir, is_link, is_dir_of, node_at, is_named, name_fault, subdirs_of, used_of}
use Rattle.fuse_rows.specs.Rows.{entry_at, put_node, apply, Rows, at_node, written, body_written, new_body}
use Rattle.fuse_rows.specs.Blocks.{Body, with_touched, listed_blocks}
use Rattle.fuse_tree.specs.Rowed.{full_of, body_of_node, counters_of, rows_of_state, row_of}
use Rattle.fuse_tree.specs.Space.{room_of, has_room}
use Rattle.fuse_tree.specs.Done.{touched, touch}
use Rattle.fuse_tree.specs.Making.{new_node, new_entry, grow, with_new_node, is_full}
use Rattle.fuse_tree.specs.Symlinking.{with_target, with_link}
use Rattle.fuse_plan.specs.inner.PlanMaking.{new_row, dir_row_with, changes_of}
use Rattle.fuse_plan.specs.inner.PlanSpace.{room_with_used}
use Rattle.fuse_plan.specs.inner.PlanSymlinking.{link_row, link_changes}
use Rattle.fuse_plan.proofs.Lists.{all_more, any_mapped, and_false, or_false}
use Rattle.fuse_plan.proofs.Ups.{up_more, up_new}
use Rattle.fuse_plan.proofs.Counts.{subdirs_grown, no_subdirs}
use Rattle.fuse_plan.proofs.Trees.{SamePlace, nodes_below, children_below, tree_mapped, tree_grown}
use Rattle.fuse_plan.proofs.Puts.{node_found, put_changed, put_new, dir_there}
use Rattle.fuse_rows.specs.declared.rows.Room.{Room}
use Rattle.fuse_plan.proofs.Carried.{nothing_carried}
use Rattle.fuse_plan.proofs.WrittenBlocks.{none_counts}
use Rattle.fuse_plan.proofs.Blocks.{blocks_of, room_with, used_mapped, used_appended, room_told, space_same, space_after, recounted}

pub touched_same : (dir : ℕ) (now : Moment) (n : Node) → SamePlace n (touched dir now n)
touched_same dir now n = record { number = refl; kind = refl }

pub lasts : (dir : ℕ) (now : Moment) (ns : List Node) → sum_by blocks_of (map (touched dir now) ns) ≡ sum_by blocks_of ns
lasts dir now ns = used_mapped (touched dir now) ns (λ n. refl)

pub tree_touched : (s : State) (dir : ℕ) (now : Moment) → Shape s → Shape (touch dir now s)
tree_touched s dir now tree =
    tree_mapped s (touched dir now) (touched_same dir now)
    (all_more (IsNode (terms_of s) s.next_node) (λ n. IsNode (terms_of s) s.next_node (touched dir now n)) s.nodes
    (λ n p. record { from_one = p.from_one; below = p.below; mode = p.mode; content = p.content; size = p.size; blocks = p.blocks }) tree.nodes)
    (space_same s (touch dir now s) s.capacity (lasts dir now s.nodes) tree.space) tree

pub twice : (f : Node → Node) (g : Node → Full) (ns : List Node) → map g (map f ns) ≡ map (λ n. g (f n)) ns
twice f g [] = refl
twice f g (n ∷ ns) = rw (twice f g ns) refl

-- the bytes of a node of another number stay
others_stay : (G : Node → Full) (k : ℕ) (f : Body → Body) (ns : List Node) → ((n : Node) → (G n).row.node ≡ n.number)
    → AllByRecursion (λ n. n.number < k) ns → map (at_node k f) (map G ns) ≡ map G ns
others_stay G k f [] numbers below = refl
others_stay G k f (n ∷ ns) numbers below =
    let lt : n.number < k = below.0 in
    let ne : n.number ≢ k = omega arith in
    rw (numbers n, ne_eqb n.number k ne, others_stay G k f ns numbers below.1) refl

written_whole : (bytes : List ℕ) → written 0 bytes [] ≡ bytes
written_whole bytes = ap (λ (rest : List ℕ). bytes ++ rest) (drop-nil (0 + length bytes)) ∙ append-nil bytes

-- a node of this content
abbrev pub filled : Body → Node → Node
filled body n = record n { content = body.bytes; blocks = body.blocks }

-- the row of a new node of this content
pub record IsNewRow (s : State) (fresh : NewNode) (body : Body) (row : NodeRow) (up : ℕ) : Type 0 where
  pub is : row ≡ record (new_row (counters_of s) fresh up) { size = length body.bytes; written = option_map length body.blocks }

-- a new node with this content in the directory d, and its row
module _ (s : State) (fresh : NewNode) (body : Body) (row : NodeRow) (name : List ℕ) (d : Node) (tree : Shape s) (e : node_at s d.number ≡ Some d) (is_row : IsNewRow s fresh body row d.number) where
  abbrev made : Node
  made = filled body (new_node s fresh)

  abbrev after : State
  after = grow made (new_entry s d.number name) (touch d.number fresh.made s)

  abbrev G : Node → Full
  G n = full_of after (touched d.number fresh.made n)

  below : d.number < s.next_node
  below = (node_found s d.number d tree e).1

  subdirs_then : (k : ℕ) → subdirs_of after k ≡ subdirs_of s k + cond (is_dir fresh.mode && eqb d.number k) 1 0
  subdirs_then k = subdirs_grown s (touched d.number fresh.made) made (new_entry s d.number name) k tree (touched_same d.number fresh.made) refl refl

  other_same : (n : Node) → n.number < s.next_node → n.number ≢ d.number → G n ≡ full_of s n
  other_same n lt other =
      let apart : s.next_node ≢ n.number = omega arith in
      let turned : d.number ≢ n.number = omega arith in
      rw (
        ne_eqb n.number d.number other,
        up_more s.entries (new_entry s d.number name) n.number apart,
        subdirs_then n.number,
        ne_eqb d.number n.number turned,
        and_false (is_dir fresh.mode),
        add-zero,
      ) refl

  one_below : (b : Bool) (m : ℕ) → m + cond (b && true) 1 0 ≡ cond b (m + 1) m
  one_below true m = refl
  one_below false m = add-zero m

  here_changed : G d ≡ record { row = dir_row_with fresh (row_of s d); content = body_of_node d }
  here_changed =
      let lt : d.number < s.next_node = below in
      let apart : s.next_node ≢ d.number = omega arith in
      rw (
        eq-eqb d.number d.number refl,
        up_more s.entries (new_entry s d.number name) d.number apart,
        subdirs_then d.number,
        eq-eqb d.number d.number refl,
        one_below (is_dir fresh.mode) (subdirs_of s d.number),
      ) refl

  pub new_full : full_of after made ≡ record { row = row; content = body }
  new_full =
      let lt : d.number < s.next_node = below in
      let other : d.number ≢ s.next_node = omega arith in
      rw (
        up_new s.entries (new_entry s d.number name) s.next_node (children_below s tree) refl,
        subdirs_then s.next_node,
        no_subdirs s tree,
        ne_eqb d.number s.next_node other,
        and_false (is_dir fresh.mode),
      ) (ap (λ (r : NodeRow). record { row = r; content = body }) (sym is_row.is))

  number : row.node ≡ s.next_node
  number = ap (λ (r : NodeRow). r.node) is_row.is

  nodes_put : put_node row (put_node (dir_row_with fresh (row_of s d)) (map (full_of s) s.nodes)) ≡ map G s.nodes ++ record { row = row; content = new_body row.written } ∷ []
  nodes_put =
      ap (put_node row) (put_changed s G (dir_row_with fresh (row_of s d)) d tree e other_same here_changed)
      ∙ put_new G row s.nodes (λ n. refl) (subst (λ (k : ℕ). AllByRecursion (λ n. n.number < k) s.nodes) (sym number) (nodes_below s tree))

  nodes_meet : map G s.nodes ++ record { row = row; content = body } ∷ [] ≡ map (full_of after) (map (touched d.number fresh.made) s.nodes ++ made ∷ [])
  nodes_meet =
      ap (λ (f : Full). map G s.nodes ++ f ∷ []) (sym new_full)
      ∙ ap (λ (fs : List Full). fs ++ full_of after made ∷ []) (sym (twice (touched d.number fresh.made) (full_of after) s.nodes))
      ∙ sym (map-append (full_of after) (map (touched d.number fresh.made) s.nodes) (made ∷ []))

  used_made : used_of after ≡ used_of s + length (listed_blocks body.blocks)
  used_made =
      used_appended (map (touched d.number fresh.made) s.nodes) made
      ∙ ap (λ (used : ℕ). used + length (listed_blocks body.blocks)) (lasts d.number fresh.made s.nodes)

  -- the rows, where nodes and blocks are counted so
  counted : (room : Option Room) → room ≡ room_of after
      → record (rows_of_state after) { counters = record (counters_of after) { nodes = length s.nodes + 1; room = room } } ≡ rows_of_state after
  counted room is =
      let count : length s.nodes + 1 ≡ length (map (touched d.number fresh.made) s.nodes ++ made ∷ []) =
      omega (arith, length-append (map (touched d.number fresh.made) s.nodes) (made ∷ []), length-map s.nodes (touched d.number fresh.made)) in
      recounted after (length s.nodes + 1) room count is

  abbrev rows_with : List Full → Option Room → Rows
  rows_with fs room = record (rows_of_state after) { nodes = fs; counters = record (counters_of after) { nodes = length s.nodes + 1; room = room } }

  -- the tree goes on
  pub filled_tree : is_dir d.mode ≡ true → name_fault name ≡ None → is_named s d.number ≡ true → entry_at s.entries d.number name ≡ None
      → is_full (terms_of s).node_limit (length s.nodes) s.next_node s.next_cookie ≡ false
      → HasMode fresh.mode fresh.rdev → Carries (terms_of s) fresh.mode body.bytes → length body.bytes ≤ (terms_of s).file_limit
      → CountsBlocks (terms_of s) fresh.mode body.bytes body.blocks
      → IfSome s.capacity (FitsCapacity after) → Shape after
  filled_tree dir name_ok named free room mode carries size counts space =
      let few : nat_le (terms_of s).node_limit (length s.nodes) ≡ false = (or_false _ _ (or_false _ _ room).0).0 in
      tree_grown (touch d.number fresh.made s) made (new_entry s d.number name) (record {
        number = refl;
        mode = mode;
        content = carries;
        size = size;
        blocks = counts;
        space = space;
        child = refl;
        cookie = refl;
        dir = any_touched _ ∙ dir_there d.number d s.nodes e dir;
        named = named;
        name = name_ok;
        free = free;
        few = omega (arith, length-map s.nodes (touched d.number fresh.made), leb-false (terms_of s).node_limit (length s.nodes) few);
        node_left = leb-false _ s.next_node (or_false _ _ (or_false _ _ room).0).1;
        cookie_left = leb-false _ s.next_cookie (or_false _ _ room).1;
      }) (tree_touched s d.number fresh.made tree)
    where
      any_touched : (k : ℕ) → list_any (is_dir_of k) (map (touched d.number fresh.made) s.nodes) ≡ list_any (is_dir_of k) s.nodes
      any_touched k = any_mapped (is_dir_of k) (touched d.number fresh.made) s.nodes (λ n. refl)

-- ---- one without content

abbrev pub empty_body : State → Body
empty_body s = record { bytes = []; blocks = no_blocks s.capacity }

none_counted : {A : Type 0} (o : Option ℕ) (f : ℕ → A) → option_map {U = ℕ} (λ _. 0) (option_map f o) ≡ option_map length (no_blocks o)
none_counted None f = refl
none_counted (Some c) f = refl

pub empty_row : (s : State) (fresh : NewNode) (up : ℕ) → IsNewRow s fresh (empty_body s) (new_row (counters_of s) fresh up) up
empty_row s fresh up = record {
  is = ap (λ (w : Option ℕ). record (new_row (counters_of s) fresh up) { written = w }) (none_counted s.capacity (room_with (used_of s)));
}

body_none : (o : Option ℕ) → new_body (option_map length (no_blocks o)) ≡ record { bytes = []; blocks = no_blocks o }
body_none None = refl
body_none (Some c) = refl

listed_none : (o : Option ℕ) → length (listed_blocks (no_blocks o)) ≡ 0
listed_none None = refl
listed_none (Some c) = refl

module _ (s : State) (fresh : NewNode) (name : List ℕ) (d : Node) (tree : Shape s) (e : node_at s d.number ≡ Some d) where
  abbrev row : NodeRow
  row = new_row (counters_of s) fresh d.number

  is_row : IsNewRow s fresh (empty_body s) row d.number
  is_row = empty_row s fresh d.number

  pub empty_full : full_of (with_new_node s fresh d.number name) (new_node s fresh) ≡ record { row = row; content = empty_body s }
  empty_full = new_full s fresh (empty_body s) row name d tree e is_row

  used_same : used_of (with_new_node s fresh d.number name) ≡ used_of s
  used_same =
      used_made s fresh (empty_body s) row name d tree e is_row ∙ ap (λ (n : ℕ). used_of s + n) (listed_none s.capacity) ∙ add-zero (used_of s)

  body_is : new_body row.written ≡ empty_body s
  body_is = ap new_body (none_counted s.capacity (room_with (used_of s))) ∙ body_none s.capacity

  -- the changes make the rows of the state that is left
  pub make_rows : apply (rows_of_state s) (changes_of (counters_of s) fresh name (row_of s d)) ≡ rows_of_state (with_new_node s fresh d.number name)
  make_rows =
      ap (λ (fs : List Full). rows_with s fresh (empty_body s) row name d tree e is_row fs (room_of s))
      (nodes_put s fresh (empty_body s) row name d tree e is_row
      ∙ ap (λ (b : Body). map (G s fresh (empty_body s) row name d tree e is_row) s.nodes ++ record { row = row; content = b } ∷ []) body_is
      ∙ nodes_meet s fresh (empty_body s) row name d tree e is_row)
      ∙ counted s fresh (empty_body s) row name d tree e is_row (room_of s)
      (room_told s.capacity (used_of s) (used_of (with_new_node s fresh d.number name)) (sym used_same))

  pub make_tree : is_dir d.mode ≡ true → name_fault name ≡ None → is_named s d.number ≡ true → entry_at s.entries d.number name ≡ None
      → is_full (terms_of s).node_limit (length s.nodes) s.next_node s.next_cookie ≡ false
      → HasMode fresh.mode fresh.rdev → is_link fresh.mode ≡ false → Shape (with_new_node s fresh d.number name)
  make_tree dir name_ok named free room mode no_link =
      filled_tree s fresh (empty_body s) row name d tree e is_row dir name_ok named free room mode (nothing_carried (terms_of s) fresh.mode no_link)
      (omega arith) (none_counts s.capacity fresh.mode no_link)
      (space_same s (with_new_node s fresh d.number name) s.capacity used_same tree.space)

-- ---- one with a target

abbrev pub target_body : State → List ℕ → Body
target_body s target = record { bytes = target; blocks = option_map (with_touched 0 (length target)) (no_blocks s.capacity) }

one_counted : {A : Type 0} (o : Option ℕ) (f : ℕ → A) (len : ℕ) → with_touched 0 len [] ≡ 0 ∷ []
    → option_map {U = ℕ} (λ _. 1) (option_map f o) ≡ option_map length (option_map (with_touched 0 len) (no_blocks o))
one_counted None f len one = refl
one_counted (Some c) f len one = ap (λ (bs : List ℕ). Some (length bs)) (sym one)

listed_one : (o : Option ℕ) (len : ℕ) → with_touched 0 len [] ≡ 0 ∷ [] → is_some o ≡ true
    → length (listed_blocks (option_map (with_touched 0 len) (no_blocks o))) ≡ 1
listed_one None len one there = absurd cc
listed_one (Some c) len one there = ap length one

body_target : (o : Option ℕ) (target : List ℕ) → body_written 0 target (new_body (option_map {U = ℕ} (λ _. 1) (option_map (λ c. c) o)))
    ≡ record { bytes = target; blocks = option_map (with_touched 0 (length target)) (no_blocks o) }
body_target None target = ap (λ (bytes : List ℕ). record { bytes = bytes; blocks = None }) (written_whole target)
body_target (Some c) target = ap (λ (bytes : List ℕ). record { bytes = bytes; blocks = Some (with_touched 0 (length target) []) }) (written_whole target)

mapped_one : {A : Type 0} (o : Option ℕ) (f : ℕ → A) → option_map {U = ℕ} (λ _. 1) (option_map f o) ≡ option_map {U = ℕ} (λ _. 1) (option_map (λ c. c) o)
mapped_one None f = refl
mapped_one (Some c) f = refl

-- where the target lies in one block
module _ (s : State) (fresh : NewNode) (target name : List ℕ) (d : Node) (tree : Shape s) (e : node_at s d.number ≡ Some d)
    (one : with_touched 0 (length target) [] ≡ 0 ∷ []) where
  abbrev link : NodeRow
  link = link_row (counters_of s) fresh (length target) d.number

  is_link_row : IsNewRow s fresh (target_body s target) link d.number
  is_link_row = record {
    is =
        ap (λ (w : Option ℕ). record (new_row (counters_of s) fresh d.number) { size = length target; written = w })
        (one_counted s.capacity (room_with (used_of s)) (length target) one);
  }

  abbrev linked : State
  linked = with_link s fresh target d.number name

  pub link_full : full_of linked (with_target target (new_node s fresh)) ≡ record { row = link; content = target_body s target }
  link_full = new_full s fresh (target_body s target) link name d tree e is_link_row

  abbrev others : Node → Full
  others = G s fresh (target_body s target) link name d tree e is_link_row

  written_body : body_written 0 target (new_body link.written) ≡ target_body s target
  written_body =
      ap (λ (w : Option ℕ). body_written 0 target (new_body w)) (mapped_one s.capacity (room_with (used_of s))) ∙ body_target s.capacity target

  nodes_written : map (at_node s.next_node (body_written 0 target)) (map others s.nodes ++ record { row = link; content = new_body link.written } ∷ [])
      ≡ map others s.nodes ++ record { row = link; content = target_body s target } ∷ []
  nodes_written =
      let here : at_node s.next_node (body_written 0 target) (record { row = link; content = new_body link.written })
      ≡ record { row = link; content = target_body s target } =
      rw (eq-eqb s.next_node s.next_node refl, written_body) refl in
      map-append (at_node s.next_node (body_written 0 target)) (map others s.nodes) (record { row = link; content = new_body link.written } ∷ [])
      ∙ ap (λ (fs : List Full). fs ++ at_node s.next_node (body_written 0 target) (record { row = link; content = new_body link.written }) ∷ [])
      (others_stay others s.next_node (body_written 0 target) s.nodes (λ n. refl) (nodes_below s tree))
      ∙ ap (λ (f : Full). map others s.nodes ++ f ∷ []) here

  used_link : is_some s.capacity ≡ true → used_of linked ≡ used_of s + 1
  used_link there =
      used_made s fresh (target_body s target) link name d tree e is_link_row
      ∙ ap (λ (n : ℕ). used_of s + n) (listed_one s.capacity (length target) one there)

  room_link : (o : Option ℕ) → s.capacity ≡ o → option_map (room_with_used (λ used. used + 1)) (option_map (room_with (used_of s)) o)
      ≡ option_map (room_with (used_of linked)) o
  room_link None is = refl
  room_link (Some c) is = ap (λ (u : ℕ). Some (room_with u c)) (sym (used_link (ap is_some is)))

  pub link_rows : apply (rows_of_state s) (link_changes (counters_of s) fresh target name (row_of s d)) ≡ rows_of_state linked
  link_rows =
      let room : Option Room = option_map (room_with_used (λ used. used + 1)) (room_of s) in
      ap (λ (fs : List Full). rows_with s fresh (target_body s target) link name d tree e is_link_row fs room)
      (ap (map (at_node s.next_node (body_written 0 target))) (nodes_put s fresh (target_body s target) link name d tree e is_link_row) ∙ nodes_written
      ∙ nodes_meet s fresh (target_body s target) link name d tree e is_link_row)
      ∙ counted s fresh (target_body s target) link name d tree e is_link_row room (room_link s.capacity refl)

  pub link_tree : is_dir d.mode ≡ true → name_fault name ≡ None → is_named s d.number ≡ true → entry_at s.entries d.number name ≡ None
      → is_full (terms_of s).node_limit (length s.nodes) s.next_node s.next_cookie ≡ false
      → HasMode fresh.mode fresh.rdev → Carries (terms_of s) fresh.mode target → length target ≤ (terms_of s).file_limit
      → CountsBlocks (terms_of s) fresh.mode target (option_map (with_touched 0 (length target)) (no_blocks s.capacity))
      → IfSome s.capacity (FitsCapacity linked) → Shape linked
  link_tree = filled_tree s fresh (target_body s target) link name d tree e is_link_row

  space_link : (o : Option ℕ) → s.capacity ≡ o → has_room (option_map (room_with (used_of s)) o) 1 ≡ true → IfSome o (FitsCapacity s)
      → IfSome o (FitsCapacity linked)
  space_link None is room fits = tt
  space_link (Some c) is room fits = space_after s linked (Some c) 1 (used_link (ap is_some is)) room fits

  pub link_space : has_room (room_of s) 1 ≡ true → IfSome s.capacity (FitsCapacity linked)
  link_space left = space_link s.capacity refl left tree.space
