-- RENAME onto a free name: its rows, and the tree that goes on.
use Rattle.std.proofs.Common.{◌≡◌, ◌≢◌, ◌<◌, ◌+◌, ◌||◌, ◌==◌, ℕ, Bool, true, false, cond, eqb, List, [], ◌∷◌, ◌++◌, map, Some, None, refl, sym, ap, ◌∙◌}
use Rattle.std.specs.Prelude.{filter}
use Rattle.fuse_wire.specs.declared.moment.Moment.{Moment}
use Rattle.fuse_rows.specs.Bounds.{number_end}
use Rattle.fuse_rows.specs.declared.rows.Change.{Change}
use Rattle.fuse_rows.specs.declared.rows.Change.TheVariants as changes
use Rattle.fuse_rows.specs.declared.rows.EntryRow.{EntryRow}
use Rattle.fuse_rows.specs.declared.rows.NodeRow.{NodeRow}
use Rattle.fuse_rows.specs.Rows.{is_entry, entry_at, apply}
use Rattle.fuse_tree.specs.State.{State, terms_of, Node, Shape, IsNode, above, is_dir, is_named, name_fault, node_at, up_of, subdirs_of}
use Rattle.fuse_tree.specs.Rowed.{full_of, row_of, rows_of_state, counters_of}
use Rattle.fuse_tree.specs.Done.{touched, touch}
use Rattle.fuse_tree.specs.Removing.{marked, mark, without_entry}
use Rattle.fuse_tree.specs.Renaming.{Renaming, placed, renamed}
use Rattle.fuse_plan.specs.inner.PlanRenaming.{dir_row, moved_row, rename_changes}
use Rattle.fuse_plan.proofs.Lists.{all_more, all_kept, none_found}
use Rattle.fuse_plan.proofs.Trees.{named_climbs}
use Rattle.fuse_plan.proofs.Puts.{node_found, dir_there}
use Rattle.fuse_plan.proofs.Making.{tree_touched}
use Rattle.fuse_plan.proofs.GoneRows.{tree_marked}
use Rattle.fuse_plan.proofs.Moving.{keeps, up_found}
use Rattle.fuse_plan.proofs.MovedTrees.{tree_moved, up_moved, up_here}
use Rattle.fuse_plan.proofs.MovedCounts.{Recounted, Sums, counts_gone}
use Rattle.fuse_plan.proofs.MovedRows.{puts, timed, shifted, one_shifted}
use Rattle.fuse_plan.proofs.RenameRows.{Shift, given_at, rows_shifted, dirs_rows, dirs_are, dirs_rest}

abbrev pub nobody : ℕ → Bool
nobody k = false

-- the times of both directories and of the child, one after the other and at once
times : (n : Node) (now : Moment) (a b c : Bool)
    → record n { mtime = cond a now (cond b now n.mtime); ctime = cond a now (cond b now (cond c now n.ctime)) } ≡ record n {
      mtime = cond (a || b) now n.mtime;
      ctime = cond ((a || b) || (c || false)) now n.ctime;
    }
times n now true b c = refl
times n now false true c = refl
times n now false false true = refl
times n now false false false = refl

each_timed : (dir to x : ℕ) (now : Moment) (ns : List Node)
    → map (touched to now) (map (touched dir now) (map (marked x now) ns)) ≡ map (timed (λ k. (k == to) || (k == dir)) (λ k. (k == x) || nobody k) now) ns
each_timed dir to x now [] = refl
each_timed dir to x now (n ∷ ns) = rw (times n now (eqb n.number to) (eqb n.number dir) (eqb n.number x), each_timed dir to x now ns) refl

-- an entry e of directory d to node c comes to stand in directory t
module _ (s : State) (r : Renaming) (d t c : Node) (e : EntryRow) (tree : Shape s) (at_d : node_at s d.number ≡ Some d) (at_t : node_at s r.new_dir ≡ Some t)
    (at_c : node_at s e.child ≡ Some c)
    (at_e : entry_at s.entries d.number r.old_name ≡ Some e) (e_dir : e.dir ≡ d.number) (x_dir : e.child ≢ d.number) (x_to : e.child ≢ r.new_dir) where
  abbrev fs : List EntryRow
  fs = filter (keeps e.cookie) s.entries ++ record { dir = r.new_dir; name = r.new_name; child = e.child; cookie = s.next_cookie } ∷ []

  abbrev next : ℕ
  next = s.next_cookie + 1

  abbrev dirs : ℕ → Bool
  dirs k = (k == r.new_dir) || (k == d.number)

  abbrev children : ℕ → Bool
  children k = (k == e.child) || nobody k

  is_shifted : renamed r d.number e None s ≡ shifted dirs children r.now fs next s
  is_shifted = ap (λ (ns : List Node). record s { nodes = ns; entries = fs; next_cookie = next }) (each_timed d.number r.new_dir e.child r.now s.nodes)

  ups : (j : ℕ) → j ≢ e.child → nobody j ≡ false → up_of fs j ≡ up_of s.entries j
  ups j other _ = up_moved s (is_entry d.number r.old_name) e r.new_dir r.new_name tree at_e j other

  up_x : up_of fs e.child ≡ r.new_dir
  up_x = up_here s (is_entry d.number r.old_name) e r.new_dir r.new_name tree at_e

  up_was : up_of s.entries e.child ≡ d.number
  up_was = up_found (is_entry d.number r.old_name) s.entries e tree.entries_apart at_e ∙ e_dir

  sums : Sums (subdirs_of s) (subdirs_of (shifted dirs children r.now fs next s)) d.number r.new_dir 0 (is_dir c.mode) false
  sums k = ap (λ (m : ℕ). m + 0) (one_shifted s dirs children r.now fs next e.child c d.number r.new_dir k tree at_c up_was up_x (λ j ne. ups j ne refl))

  recounted : Recounted (subdirs_of s) (subdirs_of (shifted dirs children r.now fs next s)) d.number r.new_dir (is_dir c.mode) false false
  recounted =
      counts_gone (subdirs_of s) (subdirs_of (shifted dirs children r.now fs next s)) d.number r.new_dir (is_dir c.mode) false (given_at s d.number d tree at_d)
      (given_at s r.new_dir t tree at_t) sums

  abbrev child : ℕ → EntryRow
  child k = record { dir = r.new_dir; name = r.new_name; child = k; cookie = s.next_cookie }

  abbrev planned : Bool → ℕ → List Change
  planned both k =
      changes.EntryGone e.cookie ∷ cond both (changes.Node (dir_row r.now false false (row_of s d)) ∷ [])
      (changes.Node (dir_row r.now (is_dir c.mode) false (row_of s d)) ∷ changes.Node (dir_row r.now false (is_dir c.mode) (row_of s t)) ∷ [])
      ++ changes.Node (moved_row r.now r.new_dir (row_of s c)) ∷ changes.Entry (child k) ∷ changes.Counters (record (counters_of s) { next_cookie = next }) ∷ []

  shift : Shift s fs d.number r.new_dir e.child nobody d t c
  shift = record { tree = tree; at_d = at_d; at_t = at_t; at_c = at_c; x_dir = x_dir; x_to = x_to; y_dir = refl; y_to = refl; ups = ups; up_x = up_x }

  abbrev listed : Bool → List NodeRow
  listed = dirs_rows r.now next shift recounted

  rows_then : (both : Bool) → eqb d.number r.new_dir ≡ both
      → record (rows_of_state s) {
        nodes = puts (listed both) (map (full_of s) s.nodes);
        entries = fs;
        counters = record (counters_of s) { next_cookie = next };
      } ≡ rows_of_state (renamed r d.number e None s)
  rows_then both is =
      rows_shifted s dirs children r.now fs next (listed both) tree (dirs_are r.now next shift recounted both is)
      (all_more (IsNode (terms_of s) s.next_node) _ s.nodes (λ n p none. dirs_rest r.now next shift recounted both is n p.from_one refl none) tree.nodes)
      ∙ ap rows_of_state (sym is_shifted)

  each_way : (both : Bool) → eqb d.number r.new_dir ≡ both → apply (rows_of_state s) (planned both e.child) ≡ rows_of_state (renamed r d.number e None s)
  each_way true is = rows_then true is
  each_way false is = rows_then false is

  pub free_rows : apply (rows_of_state s) (rename_changes r (counters_of s) (row_of s d) (row_of s t) (record { cookie = e.cookie; child = row_of s c }) None)
      ≡ rows_of_state (renamed r d.number e None s)
  free_rows =
      ap (λ (k : ℕ). apply (rows_of_state s) (planned (eqb d.number r.new_dir) k)) (node_found s e.child c tree at_c).0 ∙ each_way (eqb d.number r.new_dir) refl

  -- the tree goes on
  pub free_tree : is_dir t.mode ≡ true → is_named s r.new_dir ≡ true → name_fault r.new_name ≡ None → entry_at s.entries r.new_dir r.new_name ≡ None
      → ((n : ℕ) → above s.entries n r.new_dir ≢ e.child) → s.next_cookie < number_end → Shape (renamed r d.number e None s)
  free_tree dir named name_ok free never room =
      let moved =
      tree_moved s (is_entry d.number r.old_name) e r.new_dir r.new_name tree at_e (dir_there r.new_dir t s.nodes at_t dir)
      (named_climbs s r.new_dir tree named) never name_ok
      (all_kept (λ z. is_entry r.new_dir r.new_name z ≡ false) (keeps e.cookie) s.entries (none_found (is_entry r.new_dir r.new_name) s.entries free)) room in
      let s1 = placed r.new_dir r.new_name e.child (without_entry e.cookie s) in
      tree_touched (touch d.number r.now (mark e.child r.now s1)) r.new_dir r.now
      (tree_touched (mark e.child r.now s1) d.number r.now (tree_marked s1 e.child r.now moved))
