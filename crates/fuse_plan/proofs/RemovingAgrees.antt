-- The plans of an entry gone agree with what is done.
use Rattle.std.proofs.Common.{◌≡◌, ◌≢◌, ◌&&◌, ◌==◌, ℕ, Bool, not, List, [], map, Option, Some, None, refl, sym, ap, subst, ◌∙◌}
use Rattle.std.specs.Option.{option_map}
use Rattle.std.specs.List.{AllByRecursion}
use Rattle.std.proofs.lemmas.Bool.{eqb-true}
use Rattle.fuse_wire.specs.Errnos.{enoent}
use Rattle.fuse_wire.specs.declared.moment.Moment.{Moment}
use Rattle.fuse_plan.specs.declared.planning.finding.Link.{Link}
use Rattle.fuse_rows.specs.declared.rows.EntryRow.{EntryRow}
use Rattle.fuse_rows.specs.declared.rows.NodeRow.{NodeRow}
use Rattle.fuse_rows.specs.Rows.{is_entry, Rows, entry_at}
use Rattle.fuse_tree.specs.Checks.{Check, first_error}
use Rattle.fuse_tree.specs.State.{State, Node, Shape, IsEntry, profile_of, terms_of, node_at, is_used, is_kept, NodesAreKept}
use Rattle.fuse_tree.specs.Rowed.{row_of, rows_of_state, counters_of}
use Rattle.fuse_tree.specs.Removal.{tidied}
use Rattle.fuse_tree.specs.Done.{answer, touched, name_checks}
use Rattle.fuse_tree.specs.Removing.{marked, entry_gone, remove_child, remove_entry, remove, unlink_checks, unlink, rmdir_checks, rmdir}
use Rattle.fuse_plan.specs.inner.PlanRemoving.{link_of, gone_changes, plan_gone, plan_remove_link, plan_remove, row_unlink_checks, plan_unlink, row_rmdir_checks, plan_rmdir}
use Rattle.fuse_plan.proofs.Agrees.{Agrees, refused_agrees, both_for, checked}
use Rattle.fuse_plan.proofs.Checks.{passed}
use Rattle.fuse_plan.proofs.Lists.{found, and_true}
use Rattle.fuse_plan.proofs.Puts.{row_found, node_found}
use Rattle.fuse_plan.specs.inner.PlanRemoval.{goes_unnamed}
use Rattle.fuse_plan.proofs.EntryGone.{standing, up_gone, left_others}
use Rattle.fuse_plan.proofs.KeptStates.{all_kept_in, kept_gone}
use Rattle.fuse_plan.proofs.RemovalAgrees.{tidied_rows, found_mapped, tree_tidied, same_tidied, kept_tidied, unnamed_goes}
use Rattle.fuse_plan.proofs.GoneRows.{gone_rows, gone_tree, none_in_file, none_in_empty}

-- the entry of this cookie, with its child's row
abbrev linked : EntryRow → Option NodeRow → Option Link
linked e row = option_map (λ child. record { cookie = e.cookie; child = child }) row

-- an entry gone from directory d, where no entry stands in its child c
gone_agrees : (s : State) (name : List ℕ) (now : Moment) (d : Node) (e : EntryRow) (c : Node) → Shape s → NodesAreKept s → node_at s d.number ≡ Some d
    → entry_at s.entries d.number name ≡ Some e → node_at s e.child ≡ Some c → AllByRecursion (λ x. x.dir ≢ e.child) s.entries
    → Agrees s (plan_gone (profile_of s) now (record { cookie = e.cookie; child = row_of s c }) (row_of s d) (rows_of_state s))
    (answer (tidied (entry_gone e now s)) [])
gone_agrees s name now d e c tree kept at_d at_e at_c empty =
    let stands = standing s (is_entry d.number name) e tree at_e in
    let test = (found (IsEntry s.nodes s.entries s.next_cookie) (is_entry d.number name) s.entries e tree.entries at_e).1 in
    let dir : e.dir ≡ d.number = eqb-true e.dir d.number (and_true _ _ test).0 in
    let there : node_at s e.dir ≡ Some d = subst (λ (k : ℕ). node_at s k ≡ Some d) (sym dir) at_d in
    let t = entry_gone e now s in
    let after : Shape t = gone_tree s e d c now tree stands there at_c empty in
    let rows = gone_rows s e d c now tree stands there at_c empty in
    let c_is : c.number ≡ e.child = (node_found s e.child c tree at_c).0 in
    let lost : is_kept t e.child ≡ is_used s.handles e.child =
    unnamed_goes t e.child stands.entry.not_root (up_gone (λ x. not (x.cookie == e.cookie)) s.entries e.child (left_others e s.entries stands.only)) in
    let goes : goes_unnamed (profile_of s) c.number (rows_of_state s) ≡ ((terms_of s).removes && not (is_kept t e.child)) =
    ap (λ (k : ℕ). (terms_of s).removes && not (is_used s.handles k)) c_is ∙ ap (λ (b : Bool). (terms_of s).removes && not b) (sym lost) in
    record {
      answer = refl;
      rows =
          tidied_rows s t e.child (marked e.child now (touched e.dir now c)) (row_of s c) (goes_unnamed (profile_of s) c.number (rows_of_state s))
          (counters_of s) (gone_changes now (record { cookie = e.cookie; child = row_of s c }) (row_of s d)) after rows (ap (λ (r : Rows). r.counters) rows)
          (found_mapped (marked e.child now) e.child (touched e.dir now c) (map (touched e.dir now) s.nodes) (λ n. refl)
          (found_mapped (touched e.dir now) e.child c s.nodes (λ n. refl) at_c)) c_is refl
          (λ removes. kept_gone s e now stands.only (all_kept_in s kept removes)) goes;
      tree = tree_tidied t after;
      same = same_tidied t;
      kept = λ _. kept_tidied t;
    }

-- ---- in directory d, where no entry stands in a child on which no check applies

module _ (s : State) (name : List ℕ) (now : Moment) (d : Node) (tree : Shape s) (kept : NodesAreKept s) (at_d : node_at s d.number ≡ Some d)
    (checks : Node → List Check) (row_checks : NodeRow → List Check) (same : (child : Node) → row_checks (row_of s child) ≡ checks child)
    (empty : (child : Node) → node_at s child.number ≡ Some child → first_error (checks child) ≡ None → AllByRecursion (λ x. x.dir ≢ child.number) s.entries) where
  remove_child_agrees : (e : EntryRow) (o : Option Node) → entry_at s.entries d.number name ≡ Some e → node_at s e.child ≡ o
      → Agrees s (plan_remove_link (profile_of s) row_checks now (row_of s d) (linked e (option_map (row_of s) o)) (rows_of_state s))
      (remove_child s checks e now o)
  remove_child_agrees e None at_e at_c = refused_agrees s tree enoent
  remove_child_agrees e (Some c) at_e at_c =
      let number : c.number ≡ e.child = (node_found s e.child c tree at_c).0 in
      rw (same c)
      (both_for s (first_error (checks c)) _ _ tree (λ none.
      gone_agrees s name now d e c tree kept at_d at_e at_c (subst (λ (k : ℕ). AllByRecursion (λ x. x.dir ≢ k) s.entries) number
      (empty c (subst (λ (k : ℕ). node_at s k ≡ Some c) (sym number) at_c) none))))

  remove_entry_agrees : (o : Option EntryRow) → entry_at s.entries d.number name ≡ o
      → Agrees s (plan_remove_link (profile_of s) row_checks now (row_of s d) (link_of (rows_of_state s) o) (rows_of_state s)) (remove_entry s checks now o)
  remove_entry_agrees None at_e = refused_agrees s tree enoent
  remove_entry_agrees (Some e) at_e =
      subst (λ (row : Option NodeRow). Agrees s (plan_remove_link (profile_of s) row_checks now (row_of s d) (linked e row) (rows_of_state s))
      (remove_child s checks e now (node_at s e.child)))
      (sym (row_found s e.child)) (remove_child_agrees e (node_at s e.child) at_e refl)

  remove_agrees : Agrees s (plan_remove (profile_of s) row_checks name now (row_of s d) (rows_of_state s)) (remove s checks name now d)
  remove_agrees = checked s (name_checks s name d) _ _ tree (λ _ _ _. remove_entry_agrees (entry_at s.entries d.number name) refl)

pub unlink_agrees : (s : State) (name : List ℕ) (now : Moment) (d : Node) → Shape s → NodesAreKept s → node_at s d.number ≡ Some d
    → Agrees s (plan_unlink (profile_of s) name now (row_of s d) (rows_of_state s)) (unlink s name now d)
unlink_agrees s name now d tree kept at_d =
    remove_agrees s name now d tree kept at_d unlink_checks row_unlink_checks (λ _. refl)
    (λ child at none. passed (unlink_checks child) _ none (none_in_file s child.number child tree at))

pub rmdir_agrees : (s : State) (name : List ℕ) (now : Moment) (d : Node) → Shape s → NodesAreKept s → node_at s d.number ≡ Some d
    → Agrees s (plan_rmdir (profile_of s) name now (row_of s d) (rows_of_state s)) (rmdir s name now d)
rmdir_agrees s name now d tree kept at_d =
    remove_agrees s name now d tree kept at_d (rmdir_checks s) (row_rmdir_checks (rows_of_state s)) (λ _. refl)
    (λ child at none. passed (rmdir_checks s child) _ none (λ _. none_in_empty s.entries child.number))
