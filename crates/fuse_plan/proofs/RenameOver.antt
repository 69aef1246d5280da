-- RENAME onto a name that is taken: its rows, and the tree that goes on.
use Rattle.std.proofs.Common.{◌≡◌, ◌≢◌, ◌<◌, ◌≤◌, ◌+◌, ◌||◌, ◌==◌, ℕ, Bool, true, false, cond, not, eqb, List, [], ◌∷◌, ◌++◌, map, Some, None, refl, sym, ap, subst, ◌∙◌, ◌⊎◌, inl, inr, arith}
use Rattle.std.specs.Prelude.{filter, find}
use Rattle.std.specs.List.{AllByRecursion, list_any}
use Rattle.std.proofs.lemmas.Bool.{ne_eqb, eq-eqb}
use Rattle.std.proofs.lemmas.Bool.Decides.{eqb_tells}
use Rattle.fuse_wire.specs.declared.moment.Moment.{Moment}
use Rattle.fuse_rows.specs.Bounds.{number_end}
use Rattle.fuse_rows.specs.declared.rows.Change.{Change}
use Rattle.fuse_rows.specs.declared.rows.Change.TheVariants as changes
use Rattle.fuse_rows.specs.declared.rows.EntryRow.{EntryRow}
use Rattle.fuse_rows.specs.declared.rows.NodeRow.{NodeRow}
use Rattle.fuse_rows.specs.Rows.{is_entry, entry_at, apply}
use Rattle.fuse_tree.specs.State.{State, terms_of, Node, Shape, IsNode, above, is_dir, is_named, name_fault, node_at, up_of, subdirs_of}
use Rattle.fuse_tree.specs.Rowed.{full_of, row_of, rows_of_state, counters_of}
use Rattle.fuse_tree.specs.Done.{touched, touch}
use Rattle.fuse_tree.specs.Removing.{marked, mark, without_entry}
use Rattle.fuse_plan.specs.inner.PlanRemoving.{unnamed_row}
use Rattle.fuse_tree.specs.Renaming.{Renaming, placed, renamed}
use Rattle.fuse_plan.specs.inner.PlanRenaming.{dir_row, moved_row, rename_changes}
use Rattle.fuse_plan.proofs.Lists.{all_more, all_kept, cond_found, found, or_false}
use Rattle.fuse_plan.proofs.Ups.{up_in, up_more, above_same}
use Rattle.fuse_plan.proofs.Trees.{named_climbs}
use Rattle.fuse_plan.proofs.Puts.{node_found, dir_there}
use Rattle.fuse_plan.proofs.Making.{tree_touched}
use Rattle.fuse_plan.proofs.Heights.{up_none}
use Rattle.fuse_plan.proofs.EntryGone.{reaches_less, tree_less}
use Rattle.fuse_plan.proofs.GoneRows.{tree_marked}
use Rattle.fuse_plan.proofs.Moving.{Differs, others_differ, keeps, kept_differ, gone_child, up_kept, up_last, up_found}
use Rattle.fuse_plan.proofs.MovedTrees.{tree_moved}
use Rattle.fuse_plan.proofs.MovedCounts.{Recounted, Sums, counts_gone}
use Rattle.fuse_plan.proofs.MovedRows.{puts, timed, shifted, then_full, two_shifted}
use Rattle.fuse_plan.proofs.RenameRows.{Shift, given_at, rows_shifted, dirs_rows, dirs_are, dirs_rest, lost_is}

-- the times of the directories and of both children, one after the other and at once
times : (n : Node) (now : Moment) (a b c g : Bool)
    → record n { mtime = cond a now (cond b now (cond a now n.mtime)); ctime = cond a now (cond b now (cond c now (cond g now (cond a now n.ctime)))) }
    ≡ record n { mtime = cond (a || b) now n.mtime; ctime = cond ((a || b) || (c || g)) now n.ctime }
times n now true b c g = refl
times n now false true c g = refl
times n now false false true g = refl
times n now false false false true = refl
times n now false false false false = refl

each_timed : (dir to x y : ℕ) (now : Moment) (ns : List Node)
    → map (touched to now) (map (touched dir now) (map (marked x now) (map (marked y now) (map (touched to now) ns))))
    ≡ map (timed (λ k. (k == to) || (k == dir)) (λ k. (k == x) || (k == y)) now) ns
each_timed dir to x y now [] = refl
each_timed dir to x y now (n ∷ ns) = rw (times n now (eqb n.number to) (eqb n.number dir) (eqb n.number x) (eqb n.number y), each_timed dir to x y now ns) refl

-- what is found is found among those that are kept
find_kept : {A : Type 0} (test kept : A → Bool) (xs : List A) (e : A) → find test xs ≡ Some e → kept e ≡ true → find test (filter kept xs) ≡ Some e
find_kept test kept [] e at stays = absurd cc
find_kept test kept (x ∷ xs) e at stays =
    elim (cond_found (test x) x e (find test xs) at) [
      | inl h ↦ (let here : kept x ≡ true = subst (λ y. kept y ≡ true) (sym h.1) stays in rw (here, h.0) (ap Some h.1))
      | inr h ↦ (
          let rest = find_kept test kept xs e h.1 stays in
          elim (kept x) as (λ b. find test (cond b (x ∷ filter kept xs) (filter kept xs)) ≡ Some e) [ true ↦ rw (h.0) rest | false ↦ rest ])
    ]

-- an entry e of directory d to node c comes to stand where the entry f of directory t stood, in whose child o no entry stands
module _ (s : State) (r : Renaming) (d t c o : Node) (e f : EntryRow) (tree : Shape s) (at_d : node_at s d.number ≡ Some d) (at_t : node_at s r.new_dir ≡ Some t)
    (at_c : node_at s e.child ≡ Some c) (at_o : node_at s f.child ≡ Some o)
    (at_e : entry_at s.entries d.number r.old_name ≡ Some e) (at_f : entry_at s.entries r.new_dir r.new_name ≡ Some f) (e_dir : e.dir ≡ d.number)
    (f_dir : f.dir ≡ r.new_dir) (differ : Differs f e)
    (x_dir : e.child ≢ d.number) (x_to : e.child ≢ r.new_dir) (y_to : f.child ≢ r.new_dir) (empty : AllByRecursion (λ z. z.dir ≢ f.child) s.entries) where
  abbrev one : EntryRow → Bool
  one = is_entry d.number r.old_name

  abbrev two : EntryRow → Bool
  two = is_entry r.new_dir r.new_name

  abbrev without_f : List EntryRow
  without_f = filter (keeps f.cookie) s.entries

  abbrev rest : List EntryRow
  rest = filter (keeps e.cookie) without_f

  abbrev there : EntryRow
  there = record { dir = r.new_dir; name = r.new_name; child = e.child; cookie = s.next_cookie }

  abbrev fs : List EntryRow
  fs = rest ++ there ∷ []

  abbrev next : ℕ
  next = s.next_cookie + 1

  abbrev dirs : ℕ → Bool
  dirs k = (k == r.new_dir) || (k == d.number)

  abbrev Y : ℕ → Bool
  Y k = k == f.child

  abbrev children : ℕ → Bool
  children k = (k == e.child) || Y k

  is_shifted : renamed r d.number e (Some f) s ≡ shifted dirs children r.now fs next s
  is_shifted =
      ap (λ (k : ℕ). record s {
        nodes = map (touched r.new_dir r.now)
            (map (touched d.number r.now) (map (marked e.child r.now) (map (marked f.child r.now) (map (touched k r.now) s.nodes))));
        entries = fs;
        next_cookie = next;
      }) f_dir
      ∙ ap (λ (ns : List Node). record s { nodes = ns; entries = fs; next_cookie = next }) (each_timed d.number r.new_dir e.child f.child r.now s.nodes)

  others_e : AllByRecursion (λ z. (z ≡ e) ⊎ Differs e z) without_f
  others_e = all_kept (λ z. (z ≡ e) ⊎ Differs e z) (keeps f.cookie) s.entries (others_differ one s.entries e tree.entries_apart at_e)

  others_f : AllByRecursion (λ z. (z ≡ f) ⊎ Differs f z) s.entries
  others_f = others_differ two s.entries f tree.entries_apart at_f

  rest_differ_f : AllByRecursion (Differs f) rest
  rest_differ_f = all_kept (Differs f) (keeps e.cookie) without_f (kept_differ s.entries f others_f)

  y_dir : f.child ≢ d.number
  y_dir = λ same. (found (λ z. z.dir ≢ f.child) one s.entries e empty at_e).0 (e_dir ∙ sym same)

  y_not : (k : ℕ) → f.child ≢ k → Y k ≡ false
  y_not k ne = ne_eqb k f.child (λ same. ne (sym same))

  ups_both : (j : ℕ) → j ≢ e.child → j ≢ f.child → up_of fs j ≡ up_of s.entries j
  ups_both j ne nf = up_more rest there j (λ same. ne (sym same)) ∙ up_kept without_f e others_e j ne ∙ up_kept s.entries f others_f j nf

  ups : (j : ℕ) → j ≢ e.child → Y j ≡ false → up_of fs j ≡ up_of s.entries j
  ups j ne isnt = elim (eqb_tells j f.child) [ inl same ↦ absurd (let is = same.0 in cc) | inr other ↦ ups_both j ne other.1 ]

  up_x : up_of fs e.child ≡ r.new_dir
  up_x = up_last rest there (all_more (Differs e) (λ z. z.child ≢ e.child) rest (λ z p. p.child) (kept_differ without_f e others_e))

  up_y : up_of fs f.child ≡ 0
  up_y = up_more rest there f.child differ.child ∙ up_none rest f.child (all_more (Differs f) (λ z. z.child ≢ f.child) rest (λ z p. p.child) rest_differ_f)

  sums : Sums (subdirs_of s) (subdirs_of (shifted dirs children r.now fs next s)) d.number r.new_dir 0 (is_dir c.mode) (is_dir o.mode)
  sums k =
      two_shifted s dirs children r.now fs next e.child f.child c o d.number r.new_dir r.new_dir 0 k tree at_c at_o differ.child
      (up_found one s.entries e tree.entries_apart at_e ∙ e_dir) up_x (up_found two s.entries f tree.entries_apart at_f ∙ f_dir) up_y ups_both

  recounted : Recounted (subdirs_of s) (subdirs_of (shifted dirs children r.now fs next s)) d.number r.new_dir (is_dir c.mode) false (is_dir o.mode)
  recounted =
      counts_gone (subdirs_of s) (subdirs_of (shifted dirs children r.now fs next s)) d.number r.new_dir (is_dir c.mode) (is_dir o.mode)
      (given_at s d.number d tree at_d) (given_at s r.new_dir t tree at_t) sums

  -- ---- rows

  abbrev child : ℕ → EntryRow
  child k = record { dir = r.new_dir; name = r.new_name; child = k; cookie = s.next_cookie }

  abbrev lost_row : NodeRow
  lost_row = unnamed_row r.now (row_of s o)

  abbrev planned : Bool → ℕ → List Change
  planned both k =
      changes.EntryGone f.cookie ∷ changes.Node lost_row ∷ changes.EntryGone e.cookie ∷ cond both
      (changes.Node (dir_row r.now (is_dir o.mode) false (row_of s d)) ∷ [])
      (changes.Node (dir_row r.now (is_dir c.mode) false (row_of s d)) ∷ changes.Node (dir_row r.now (is_dir o.mode) (is_dir c.mode) (row_of s t)) ∷ [])
      ++ changes.Node (moved_row r.now r.new_dir (row_of s c)) ∷ changes.Entry (child k) ∷ changes.Counters (record (counters_of s) { next_cookie = next }) ∷ []

  c_is : c.number ≡ e.child
  c_is = (node_found s e.child c tree at_c).0

  o_is : o.number ≡ f.child
  o_is = (node_found s f.child o tree at_o).0

  shift : Shift s fs d.number r.new_dir e.child Y d t c
  shift =
      record {
        tree = tree;
        at_d = at_d;
        at_t = at_t;
        at_c = at_c;
        x_dir = x_dir;
        x_to = x_to;
        y_dir = y_not d.number y_dir;
        y_to = y_not r.new_dir y_to;
        ups = ups;
        up_x = up_x;
      }

  abbrev listed : Bool → List NodeRow
  listed = dirs_rows r.now next shift recounted

  others : (rows : List NodeRow)
      → ((n : Node) → 1 ≤ n.number → Y n.number ≡ false → list_any
      (λ row. n.number == row.node) rows ≡ false → full_of s n ≡ then_full s dirs children r.now fs next n)
      → AllByRecursion (λ n. list_any (λ row. n.number == row.node) (lost_row ∷ rows) ≡ false → full_of s n ≡ then_full s dirs children r.now fs next n) s.nodes
  others rows so =
      all_more (IsNode (terms_of s) s.next_node)
      (λ n. list_any (λ row. n.number == row.node) (lost_row ∷ rows) ≡ false → full_of s n ≡ then_full s dirs children r.now fs next n) s.nodes
      (λ n p none. (
      let h = or_false (eqb n.number o.number) (list_any (λ row. n.number == row.node) rows) none in
      so n p.from_one (ap (eqb n.number) (sym o_is) ∙ h.0) h.1)) tree.nodes

  rows_then : (both : Bool) → eqb d.number r.new_dir ≡ both
      → record (rows_of_state s) {
        nodes = puts (lost_row ∷ listed both) (map (full_of s) s.nodes);
        entries = fs;
        counters = record (counters_of s) { next_cookie = next };
      } ≡ rows_of_state (renamed r d.number e (Some f) s)
  rows_then both is =
      rows_shifted s dirs children r.now fs next (lost_row ∷ listed both) tree
      (lost_is r.now next shift recounted f.child 0 o at_o (eq-eqb f.child f.child refl) y_dir y_to up_y, dirs_are r.now next shift recounted both is)
      (others (listed both) (dirs_rest r.now next shift recounted both is))
      ∙ ap rows_of_state (sym is_shifted)

  each_way : (both : Bool) → eqb d.number r.new_dir ≡ both → apply (rows_of_state s) (planned both e.child) ≡ rows_of_state (renamed r d.number e (Some f) s)
  each_way true is = rows_then true is
  each_way false is = rows_then false is

  pub over_rows : apply (rows_of_state s)
      (rename_changes r (counters_of s) (row_of s d) (row_of s t) (record { cookie = e.cookie; child = row_of s c })
      (Some (record { cookie = f.cookie; child = row_of s o }))) ≡ rows_of_state (renamed r d.number e (Some f) s)
  over_rows = ap (λ (k : ℕ). apply (rows_of_state s) (planned (eqb d.number r.new_dir) k)) c_is ∙ each_way (eqb d.number r.new_dir) refl

  -- ---- the tree

  abbrev s1 : State
  s1 = without_entry f.cookie s

  given : 0 ≢ f.child
  given = let one = given_at s f.child o tree at_o in omega arith

  gone_tree : Shape s1
  gone_tree = tree_less s (keeps f.cookie) f.child (gone_child s.entries f others_f) empty given tree

  e_stays : keeps f.cookie e ≡ true
  e_stays = ap not (ne_eqb e.cookie f.cookie differ.cookie)

  never_then : ((n : ℕ) → above s.entries n r.new_dir ≢ e.child) → (n : ℕ) → above without_f n r.new_dir ≢ e.child
  never_then never n at =
      never n (sym (above_same (λ j. j ≢ f.child) s.entries without_f
      (λ j ne. (up_kept s.entries f others_f j ne, up_in (λ i. i ≢ f.child) s.entries j empty given)) n r.new_dir (λ same. y_to (sym same))) ∙ at)

  pub over_tree : is_dir t.mode ≡ true → is_named s r.new_dir ≡ true → name_fault r.new_name ≡ None → f.name ≡ r.new_name
      → ((n : ℕ) → above s.entries n r.new_dir ≢ e.child) → s.next_cookie < number_end → Shape (renamed r d.number e (Some f) s)
  over_tree dir named name_ok f_name never room =
      let climb =
      reaches_less (keeps f.cookie) s.entries f.child (gone_child s.entries f others_f) empty given r.new_dir (λ same. y_to (sym same))
      (named_climbs s r.new_dir tree named) in
      let free = all_more (Differs f) (λ z. is_entry r.new_dir r.new_name z ≡ false) rest
      (λ z p. subst (λ (n : List ℕ). is_entry r.new_dir n z ≡ false) f_name (subst (λ (k : ℕ). is_entry k f.name z ≡ false) f_dir p.place)) rest_differ_f in
      let moved =
      tree_moved s1 one e r.new_dir r.new_name gone_tree (find_kept one (keeps f.cookie) s.entries e at_e e_stays)
      (dir_there r.new_dir t s.nodes at_t dir) climb (never_then never) name_ok free room in
      let s2 = placed r.new_dir r.new_name e.child (without_entry e.cookie s1) in
      let s3 = touch f.dir r.now s2 in
      let s4 = mark f.child r.now s3 in
      let s5 = mark e.child r.now s4 in
      tree_touched (touch d.number r.now s5) r.new_dir r.now
      (tree_touched s5 d.number r.now (tree_marked s4 e.child r.now (tree_marked s3 f.child r.now (tree_touched s2 f.dir r.now moved))))
