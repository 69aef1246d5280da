-- Two children that change places: the rows, and the tree that goes on.
use Rattle.std.proofs.Common.{◌≡◌, ◌≢◌, ◌≤◌, ◌+◌, ◌||◌, ◌==◌, ℕ, Bool, true, false, cond, eqb, List, [], ◌∷◌, ◌++◌, map, Some, refl, sym, ap, ◌∙◌, inl, inr, arith}
use Rattle.std.specs.Prelude.{filter}
use Rattle.std.specs.List.{AllByRecursion, list_any}
use Rattle.std.proofs.lemmas.Bool.{ne_eqb, eq-eqb}
use Rattle.std.proofs.lemmas.Bool.Decides.{eqb_tells}
use Rattle.fuse_wire.specs.declared.moment.Moment.{Moment}
use Rattle.fuse_rows.specs.Bounds.{number_end}
use Rattle.fuse_rows.specs.declared.rows.Change.{Change}
use Rattle.fuse_rows.specs.declared.rows.Change.TheVariants as changes
use Rattle.fuse_rows.specs.declared.rows.EntryRow.{EntryRow}
use Rattle.fuse_rows.specs.declared.rows.NodeRow.{NodeRow}
use Rattle.fuse_rows.specs.Rows.{is_entry, entry_at, apply}
use Rattle.fuse_tree.specs.State.{State, terms_of, Node, Shape, IsNode, above, is_dir, node_at, up_of, subdirs_of}
use Rattle.fuse_tree.specs.Rowed.{full_of, row_of, rows_of_state, counters_of}
use Rattle.fuse_tree.specs.Done.{touched, touch}
use Rattle.fuse_tree.specs.Removing.{marked, mark, without_entry}
use Rattle.fuse_tree.specs.Renaming.{Renaming, placed, exchanged}
use Rattle.fuse_plan.specs.inner.PlanRenaming.{dir_row, moved_row, exchange_changes}
use Rattle.fuse_plan.proofs.Lists.{all_more, or_false}
use Rattle.fuse_plan.proofs.Puts.{node_found}
use Rattle.fuse_plan.proofs.Making.{tree_touched}
use Rattle.fuse_plan.proofs.GoneRows.{tree_marked}
use Rattle.fuse_plan.proofs.Moving.{Differs, keeps, up_found}
use Rattle.fuse_plan.proofs.MovedTrees.{f_differs, up_others, up_e, up_f, tree_exchanged}
use Rattle.fuse_plan.proofs.MovedCounts.{Recounted, Sums, counts_swapped}
use Rattle.fuse_plan.proofs.MovedRows.{puts, timed, shifted, then_full, two_shifted}
use Rattle.fuse_plan.proofs.RenameRows.{Shift, rows_shifted, dirs_rows, dirs_are, dirs_rest, lost_is}

-- the times of the directories and of both children, one after the other and at once
times : (n : Node) (now : Moment) (a b c g : Bool)
    → record n {
      mtime = cond a now (cond b now n.mtime);
      ctime = cond a now (cond b now (cond c now (cond g now n.ctime)));
    } ≡ record n { mtime = cond (a || b) now n.mtime; ctime = cond ((a || b) || (c || g)) now n.ctime }
times n now true b c g = refl
times n now false true c g = refl
times n now false false true g = refl
times n now false false false true = refl
times n now false false false false = refl

each_timed : (dir to x y : ℕ) (now : Moment) (ns : List Node)
    → map (touched to now) (map (touched dir now) (map (marked x now) (map (marked y now) ns))) ≡ map
    (timed (λ k. (k == to) || (k == dir)) (λ k. (k == x) || (k == y)) now) ns
each_timed dir to x y now [] = refl
each_timed dir to x y now (n ∷ ns) = rw (times n now (eqb n.number to) (eqb n.number dir) (eqb n.number x) (eqb n.number y), each_timed dir to x y now ns) refl

-- an entry e of directory d to node c and an entry f of directory t to node o
module _ (s : State) (r : Renaming) (d t c o : Node) (e f : EntryRow) (tree : Shape s) (at_d : node_at s d.number ≡ Some d) (at_t : node_at s r.new_dir ≡ Some t)
    (at_c : node_at s e.child ≡ Some c) (at_o : node_at s f.child ≡ Some o)
    (at_e : entry_at s.entries d.number r.old_name ≡ Some e) (at_f : entry_at s.entries r.new_dir r.new_name ≡ Some f) (e_dir : e.dir ≡ d.number)
    (f_dir : f.dir ≡ r.new_dir) (apart : e.cookie ≢ f.cookie)
    (x_dir : e.child ≢ d.number) (x_to : e.child ≢ r.new_dir) (y_dir : f.child ≢ d.number) (y_to : f.child ≢ r.new_dir) where
  abbrev one : EntryRow → Bool
  one = is_entry d.number r.old_name

  abbrev two : EntryRow → Bool
  two = is_entry r.new_dir r.new_name

  abbrev there_f : EntryRow
  there_f = record { dir = d.number; name = r.old_name; child = f.child; cookie = s.next_cookie }

  abbrev there_e : EntryRow
  there_e = record { dir = r.new_dir; name = r.new_name; child = e.child; cookie = s.next_cookie + 1 }

  abbrev fs : List EntryRow
  fs = (filter (keeps f.cookie) (filter (keeps e.cookie) s.entries) ++ there_f ∷ []) ++ there_e ∷ []

  abbrev next : ℕ
  next = s.next_cookie + 2

  abbrev dirs : ℕ → Bool
  dirs k = (k == r.new_dir) || (k == d.number)

  abbrev Y : ℕ → Bool
  Y k = k == f.child

  abbrev children : ℕ → Bool
  children k = (k == e.child) || Y k

  is_shifted : exchanged r d.number e f s ≡ shifted dirs children r.now fs next s
  is_shifted =
      ap (λ (ns : List Node). record s { nodes = ns; entries = fs; next_cookie = s.next_cookie + 1 + 1 })
      (each_timed d.number r.new_dir e.child f.child r.now s.nodes)
      ∙ ap (λ (k : ℕ). shifted dirs children r.now fs k s) (let same : s.next_cookie + 1 + 1 ≡ s.next_cookie + 2 = omega arith in same)

  differ : Differs e f
  differ = f_differs s one two e f d.number r.new_dir r.old_name r.new_name tree at_e at_f apart

  y_not : (k : ℕ) → f.child ≢ k → Y k ≡ false
  y_not k ne = ne_eqb k f.child (λ same. ne (sym same))

  ups_both : (j : ℕ) → j ≢ e.child → j ≢ f.child → up_of fs j ≡ up_of s.entries j
  ups_both = up_others s one two e f d.number r.new_dir r.old_name r.new_name tree at_e at_f apart

  ups : (j : ℕ) → j ≢ e.child → Y j ≡ false → up_of fs j ≡ up_of s.entries j
  ups j ne isnt = elim (eqb_tells j f.child) [ inl same ↦ absurd (let is = same.0 in cc) | inr other ↦ ups_both j ne other.1 ]

  up_x : up_of fs e.child ≡ r.new_dir
  up_x = up_e s one two e f d.number r.new_dir r.old_name r.new_name tree at_e at_f apart

  up_y : up_of fs f.child ≡ d.number
  up_y = up_f s one two e f d.number r.new_dir r.old_name r.new_name tree at_e at_f apart

  sums : Sums (subdirs_of s) (subdirs_of (shifted dirs children r.now fs next s)) d.number r.new_dir d.number (is_dir c.mode) (is_dir o.mode)
  sums k =
      two_shifted s dirs children r.now fs next e.child f.child c o d.number r.new_dir r.new_dir d.number k tree at_c at_o (λ same. differ.child (sym same))
      (up_found one s.entries e tree.entries_apart at_e ∙ e_dir) up_x (up_found two s.entries f tree.entries_apart at_f ∙ f_dir) up_y ups_both

  recounted : Recounted (subdirs_of s) (subdirs_of (shifted dirs children r.now fs next s)) d.number r.new_dir (is_dir c.mode) (is_dir o.mode) (is_dir o.mode)
  recounted = counts_swapped (subdirs_of s) (subdirs_of (shifted dirs children r.now fs next s)) d.number r.new_dir (is_dir c.mode) (is_dir o.mode) sums

  -- ---- rows

  abbrev other_row : NodeRow
  other_row = moved_row r.now d.number (row_of s o)

  abbrev planned : Bool → ℕ → ℕ → List Change
  planned both k l =
      changes.EntryGone e.cookie ∷ changes.EntryGone f.cookie ∷ changes.Node other_row ∷ cond both
      (changes.Node (dir_row r.now (is_dir o.mode) (is_dir o.mode) (row_of s d)) ∷ [])
      (changes.Node (dir_row r.now (is_dir c.mode) (is_dir o.mode) (row_of s d)) ∷ changes.Node
      (dir_row r.now (is_dir o.mode) (is_dir c.mode) (row_of s t)) ∷ [])
      ++ changes.Node (moved_row r.now r.new_dir (row_of s c)) ∷ changes.Entry (record { dir = d.number; name = r.old_name; child = l; cookie = s.next_cookie })
      ∷ changes.Entry (record { dir = r.new_dir; name = r.new_name; child = k; cookie = s.next_cookie + 1 }) ∷ changes.Counters
      (record (counters_of s) { next_cookie = next }) ∷ []

  c_is : c.number ≡ e.child
  c_is = (node_found s e.child c tree at_c).0

  o_is : o.number ≡ f.child
  o_is = (node_found s f.child o tree at_o).0

  shift : Shift s fs d.number r.new_dir e.child Y d t c
  shift =
      record {
        tree = tree;
        at_d = at_d;
        at_t = at_t;
        at_c = at_c;
        x_dir = x_dir;
        x_to = x_to;
        y_dir = y_not d.number y_dir;
        y_to = y_not r.new_dir y_to;
        ups = ups;
        up_x = up_x;
      }

  abbrev listed : Bool → List NodeRow
  listed = dirs_rows r.now next shift recounted

  others : (rows : List NodeRow)
      → ((n : Node) → 1 ≤ n.number → Y n.number ≡ false → list_any
      (λ row. n.number == row.node) rows ≡ false → full_of s n ≡ then_full s dirs children r.now fs next n)
      → AllByRecursion
      (λ n. list_any (λ row. n.number == row.node) (other_row ∷ rows) ≡ false → full_of s n ≡ then_full s dirs children r.now fs next n) s.nodes
  others rows so =
      all_more (IsNode (terms_of s) s.next_node)
      (λ n. list_any (λ row. n.number == row.node) (other_row ∷ rows) ≡ false → full_of s n ≡ then_full s dirs children r.now fs next n) s.nodes
      (λ n p none. (
      let h = or_false (eqb n.number o.number) (list_any (λ row. n.number == row.node) rows) none in
      so n p.from_one (ap (eqb n.number) (sym o_is) ∙ h.0) h.1)) tree.nodes

  rows_then : (both : Bool) → eqb d.number r.new_dir ≡ both
      → record (rows_of_state s) {
        nodes = puts (other_row ∷ listed both) (map (full_of s) s.nodes);
        entries = fs;
        counters = record (counters_of s) { next_cookie = next };
      } ≡ rows_of_state (exchanged r d.number e f s)
  rows_then both is =
      rows_shifted s dirs children r.now fs next (other_row ∷ listed both) tree
      (lost_is r.now next shift recounted f.child d.number o at_o (eq-eqb f.child f.child refl) y_dir y_to up_y, dirs_are r.now next shift recounted both is)
      (others (listed both) (dirs_rest r.now next shift recounted both is))
      ∙ ap rows_of_state (sym is_shifted)

  each_way : (both : Bool) → eqb d.number r.new_dir ≡ both → apply (rows_of_state s) (planned both e.child f.child) ≡ rows_of_state (exchanged r d.number e f s)
  each_way true is = rows_then true is
  each_way false is = rows_then false is

  pub exchange_rows : apply (rows_of_state s)
      (exchange_changes r (counters_of s) (row_of s d) (row_of s t) (record { cookie = e.cookie; child = row_of s c })
      (record { cookie = f.cookie; child = row_of s o })) ≡ rows_of_state (exchanged r d.number e f s)
  exchange_rows =
      ap (λ (k : ℕ). apply (rows_of_state s) (planned (eqb d.number r.new_dir) k o.number)) c_is
      ∙ ap (λ (k : ℕ). apply (rows_of_state s) (planned (eqb d.number r.new_dir) e.child k)) o_is
      ∙ each_way (eqb d.number r.new_dir) refl

  -- ---- the tree

  pub exchange_tree : e.name ≡ r.old_name → f.name ≡ r.new_name → ((n : ℕ) → above s.entries n r.new_dir ≢ e.child)
      → ((n : ℕ) → above s.entries n d.number ≢ f.child) → s.next_cookie + 2 ≤ number_end → Shape (exchanged r d.number e f s)
  exchange_tree e_name f_name never_e never_f room =
      let moved = tree_exchanged s one two e f d.number r.new_dir r.old_name r.new_name tree at_e at_f apart e_dir f_dir e_name f_name never_e never_f room in
      let s2 = placed r.new_dir r.new_name e.child (placed d.number r.old_name f.child (without_entry f.cookie (without_entry e.cookie s))) in
      let s3 = mark f.child r.now s2 in
      let s4 = mark e.child r.now s3 in
      tree_touched (touch d.number r.now s4) r.new_dir r.now
      (tree_touched s4 d.number r.now (tree_marked s3 e.child r.now (tree_marked s2 f.child r.now moved)))
