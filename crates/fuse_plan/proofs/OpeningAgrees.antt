-- The plans of OPEN, OPENDIR, RELEASE and RELEASEDIR agree with what is done.
use Rattle.std.proofs.Common.{◌≡◌, ◌<◌, ◌&&◌, ◌||◌, ℕ, Bool, true, false, not, cond, eqb, List, [], ◌∷◌, length, Option, Some, None, refl, sym, ap, ◌∙◌, arith}
use Rattle.std.specs.Prelude.{is_some}
use Rattle.std.specs.List.{AllByRecursion}
use Rattle.std.proofs.lemmas.Bool.{eq-eqb, eqb-true, eqb-false}
use Rattle.fuse_init.specs.declared.profile.Profile.{Profile}
use Rattle.fuse_init.specs.Profile.{terms}
use Rattle.fuse_rows.specs.declared.rows.HandleRow.{HandleRow}
use Rattle.fuse_wire.specs.declared.access_mode.AccessMode.{AccessMode}
use Rattle.fuse_wire.specs.declared.access_mode.AccessMode.TheVariants.{ReadOnly}
use Rattle.fuse_wire.specs.declared.errno.Errno.{Errno}
use Rattle.fuse_wire.specs.Errnos.{ebadf, enotdir, einval}
use Rattle.fuse_wire.specs.Flags.{access_of}
use Rattle.fuse_rows.specs.Rows.{profile_for, Rows, handle_at}
use Rattle.fuse_tree.specs.State.{State, Node, Shape, Apart, terms_of, used_of, is_dir, is_file, is_named, is_open_at, node_at, is_used, is_kept, NodesAreKept}
use Rattle.fuse_tree.specs.Rowed.{row_of, rows_of_state, counters_of}
use Rattle.fuse_tree.specs.Space.{room_of}
use Rattle.fuse_tree.specs.Removal.{tidied}
use Rattle.fuse_tree.specs.Done.{answer}
use Rattle.fuse_tree.specs.Handles.{access_in, is_open}
use Rattle.fuse_tree.specs.Opening.{open_fault, open_checks, new_handle, open_node, open_for, open_file, open_dir, with_open_node, closed, close, release, release_dir, not_for_dirs, for_dirs_alone}
use Rattle.fuse_plan.specs.inner.PlanOpening.{plan_open_node, plan_open_for, plan_open, plan_open_dir, counters_closed, closed_changes, plan_closed, plan_close, plan_release, plan_release_dir}
use Rattle.fuse_plan.proofs.Agrees.{Agrees, refused_agrees, both, both_for, checked}
use Rattle.fuse_plan.proofs.Fit.{not_false}
use Rattle.fuse_plan.specs.inner.PlanRemoval.{goes_closed, is_used_beside}
use Rattle.fuse_plan.proofs.Lists.{all_more, or_true}
use Rattle.fuse_plan.proofs.Blocks.{room_with}
use Rattle.fuse_plan.proofs.Most.{profile_mapped}
use Rattle.fuse_plan.proofs.KeptStates.{all_kept_in, kept_by, kept_open, kept_close}
use Rattle.fuse_plan.proofs.RemovalAgrees.{tidied_rows, tree_tidied, same_tidied, kept_tidied, beside_tells}
use Rattle.fuse_plan.proofs.Opening.{room, any_there, open_rows, tree_opened, tree_closed, close_rows}

open_node_agrees : (s : State) (flags : ℕ) (access : AccessMode) (d : Node) → Shape s → node_at s d.number ≡ Some d
    → is_open_at (new_handle s.next_fh d.number access) d ≡ true
    → Agrees s (plan_open_node flags access d.number (rows_of_state s)) (open_node s flags access d)
open_node_agrees s flags access d tree e opens =
    both_for s (open_fault (length s.handles) s.next_fh) _ _ tree (λ left. record {
      answer = refl;
      rows = open_rows s access d.number;
      tree = tree_opened s d.number access (any_there (is_open_at (new_handle s.next_fh d.number access)) d.number d s.nodes e opens) (room s left) tree;
      same = refl;
      kept = kept_by s (with_open_node s d.number access) refl (kept_open s d.number access);
    })

open_for_agrees : (s : State) (access : Option AccessMode) (d : Node) → Shape s → node_at s d.number ≡ Some d → is_file d.mode ≡ true
    → Agrees s (plan_open_for (terms_of s).open_flags access (row_of s d) (rows_of_state s)) (open_for s access d)
open_for_agrees s None d tree e file = refused_agrees s tree einval
open_for_agrees s (Some access) d tree e file = open_node_agrees s (terms_of s).open_flags access d tree e (rw (eq-eqb d.number d.number refl, file) refl)

pub open_agrees : (s : State) (flags : ℕ) (d : Node) → Shape s → node_at s d.number ≡ Some d
    → Agrees s (plan_open (terms_of s).open_flags flags (row_of s d) (rows_of_state s)) (open_file s flags d)
open_agrees s flags d tree e =
    checked s (open_checks d.mode) _ _ tree (λ _ file. open_for_agrees s (access_of flags) d tree e (not_false _ file))

pub open_dir_agrees : (s : State) (d : Node) → Shape s → node_at s d.number ≡ Some d → Agrees s (plan_open_dir (row_of s d) (rows_of_state s)) (open_dir s d)
open_dir_agrees s d tree e =
    both s (not (is_dir d.mode)) _ _ _ _ (λ _. refused_agrees s tree enotdir) (λ dir.
    open_node_agrees s 0 ReadOnly d tree e (rw (eq-eqb d.number d.number refl, not_false _ dir) (or_true (is_file d.mode))))

-- the fhs of this number are of the node
of_node : (fh node : ℕ) (hs : List HandleRow) → Apart (λ h later. h.fh < later.fh) hs → is_open hs fh node ≡ true → AllByRecursion (λ h. h.fh ≡ fh → h.node ≡ node) hs
of_node fh node [] rise is = tt
of_node fh node (h ∷ hs) rise is = step (of_node fh node hs rise.1) (eqb h.fh fh) refl is
  where
    rest : AllByRecursion (λ x. h.fh < x.fh) hs → h.fh ≡ fh → AllByRecursion (λ x. x.fh ≡ fh → x.node ≡ node) hs
    rest later at =
        all_more (λ x. h.fh < x.fh) (λ x. x.fh ≡ fh → x.node ≡ node) hs (λ x lt same. absurd (let lt : h.fh < x.fh = lt in omega arith)) later

    at_node : (b : Bool) → eqb h.node node ≡ b → is_some (cond b (Some h.access) None) ≡ true → h.node ≡ node
    at_node true is there = eqb-true h.node node is
    at_node false is there = absurd cc

    step : (is_open hs fh node ≡ true → AllByRecursion (λ x. x.fh ≡ fh → x.node ≡ node) hs) → (b : Bool) → eqb h.fh fh ≡ b → is_some (access_in node (cond b (Some h) (handle_at hs fh))) ≡ true
        → (h.fh ≡ fh → h.node ≡ node) × AllByRecursion (λ x. x.fh ≡ fh → x.node ≡ node) hs
    step later true at there = (λ _. at_node (eqb h.node node) refl there, rest rise.0 (eqb-true h.fh fh at))
    step later false at there = (λ same. absurd (eqb-false h.fh fh at same), later there)

closed_agrees : (s : State) (fh : ℕ) (d : Node) → Shape s → NodesAreKept s → node_at s d.number ≡ Some d → is_open s.handles fh d.number ≡ true
    → Agrees s (plan_closed (counters_of s) fh (row_of s d) (rows_of_state s)) (answer (tidied (closed s fh)) [])
closed_agrees s fh d tree kept e there =
    let rows = close_rows s fh d.number tree there in
    record {
      answer = refl;
      rows =
          tidied_rows s (closed s fh) d.number d (row_of s d) (goes_closed (profile_for (room_of s)) fh (row_of s d) (rows_of_state s))
          (counters_closed (counters_of s)) (closed_changes (counters_of s) fh) (tree_closed s fh tree) rows (ap (λ (r : Rows). r.counters) rows) e refl refl
          (λ removes. kept_close s fh d.number (of_node fh d.number s.handles tree.handles_rise there) (all_kept_in s kept removes)) goes;
      tree = tree_tidied (closed s fh) (tree_closed s fh tree);
      same = same_tidied (closed s fh);
      kept = λ _. kept_tidied (closed s fh);
    }
  where
    neither : (b c : Bool) → (not b && not c) ≡ not (b || c)
    neither true c = refl
    neither false c = refl

    goes : goes_closed (profile_for (room_of s)) fh (row_of s d) (rows_of_state s) ≡ ((terms_of s).removes && not (is_kept (closed s fh) d.number))
    goes =
        ap (λ (p : Profile). (terms p).removes && (not (is_named s d.number) && not (is_used_beside s.handles fh d.number)))
        (profile_mapped (room_with (used_of s)) s.capacity)
        ∙ ap (λ (b : Bool). (terms_of s).removes && (not (is_named s d.number) && not b)) (sym (beside_tells fh d.number s.handles tree.handles_rise))
        ∙ ap (λ (b : Bool). (terms_of s).removes && b) (neither (is_named s d.number) (is_used (closed s fh).handles d.number))

close_agrees : (s : State) (fh : ℕ) (kind_fault : Option Errno) (d : Node) → Shape s → NodesAreKept s → node_at s d.number ≡ Some d
    → Agrees s (plan_close fh kind_fault (row_of s d) (rows_of_state s)) (close s fh kind_fault d)
close_agrees s fh kind_fault d tree kept e =
    both s (not (is_open s.handles fh d.number)) _ _ _ _ (λ _. refused_agrees s tree ebadf) (λ there.
    both_for s kind_fault _ _ tree (λ _. closed_agrees s fh d tree kept e (not_false _ there)))

pub release_agrees : (s : State) (fh : ℕ) (d : Node) → Shape s → NodesAreKept s → node_at s d.number ≡ Some d
    → Agrees s (plan_release fh (row_of s d) (rows_of_state s)) (release s fh d)
release_agrees s fh d tree kept e = close_agrees s fh (not_for_dirs d.mode) d tree kept e

pub release_dir_agrees : (s : State) (fh : ℕ) (d : Node) → Shape s → NodesAreKept s → node_at s d.number ≡ Some d
    → Agrees s (plan_release_dir fh (row_of s d) (rows_of_state s)) (release_dir s fh d)
release_dir_agrees s fh d tree kept e = close_agrees s fh (for_dirs_alone d.mode) d tree kept e
