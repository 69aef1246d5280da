-- The plan of a new node agrees with what is done.
use Rattle.std.proofs.Common.{◌≡◌, ℕ, true, false, List, None, Some, refl, sym, ap, ◌∙◌}
use Rattle.fuse_tree.specs.declared.new_node.NewNode.{NewNode}
use Rattle.fuse_rows.specs.declared.rows.Full.{Full}
use Rattle.fuse_tree.specs.State.{State, Node, Shape, terms_of, HasMode, is_dir, is_link, node_at, name_fault}
use Rattle.fuse_tree.specs.Rowed.{row_of, rows_of_state, counters_of}
use Rattle.fuse_tree.specs.Making.{gives_group, of_mode, begun_in, make, place_checks, mkdir_checks, dir_mode, mkdir, mknod_checks, node_mode, typed, mknod}
use Rattle.fuse_tree.specs.Keeping.{agreement_of, valid_of}
use Rattle.fuse_plan.specs.inner.Reading.{entry_body}
use Rattle.fuse_plan.specs.inner.PlanMaking.{plan_new, plan_mkdir, plan_mknod}
use Rattle.fuse_plan.proofs.KeptStates.{node_given, kept_make}
use Rattle.fuse_plan.proofs.Agrees.{Agrees, checked}
use Rattle.fuse_plan.proofs.Checks.{Passed}
use Rattle.fuse_plan.proofs.Fit.{not_false, none_some}
use Rattle.fuse_plan.proofs.Making.{empty_full, make_rows, make_tree}
use Rattle.fuse_plan.proofs.Modes.{made_dir, made_node, mode_stays_in, dir_no_link, node_no_link, link_stays_in}

-- a new node, where no check on its place applies
make_agrees : (s : State) (fresh : NewNode) (name : List ℕ) (d : Node) → Shape s → node_at s d.number ≡ Some d → HasMode fresh.mode fresh.rdev
    → is_link fresh.mode ≡ false → is_dir d.mode ≡ true → name_fault name ≡ None
    → Passed (place_checks s name d) (Agrees s (plan_new (valid_of (agreement_of s)) (counters_of s) fresh name (row_of s d)) (make s fresh d.number name))
make_agrees s fresh name d tree e mode no_link dir name_ok named free room = record {
  answer = ap (λ (f : Full). record { errno = 0; body = entry_body (valid_of (agreement_of s)) f.row }) (sym (empty_full s fresh name d tree e));
  rows = make_rows s fresh name d tree e;
  tree = make_tree s fresh name d tree e dir name_ok (not_false _ named) (none_some _ free) room mode no_link;
  same = refl;
  kept = kept_make s fresh d.number name tree (node_given s d.number d tree e);
}

pub mkdir_agrees : (s : State) (asked : NewNode) (name : List ℕ) (d : Node) → Shape s → node_at s d.number ≡ Some d
    → Agrees s (plan_mkdir (agreement_of s) asked name (row_of s d) (rows_of_state s)) (mkdir s asked name d)
mkdir_agrees s asked name d tree e =
    checked s (mkdir_checks s name d) _ _ tree (λ dir.
    make_agrees s (begun_in s d (of_mode (dir_mode asked.mode) asked)) name d tree e
    (mode_stays_in (gives_group (terms_of s) d.mode) _ _ (made_dir asked.mode))
    (link_stays_in (gives_group (terms_of s) d.mode) (dir_mode asked.mode) ∙ dir_no_link asked.mode) (not_false _ dir))

pub mknod_agrees : (s : State) (asked : NewNode) (name : List ℕ) (d : Node) → Shape s → node_at s d.number ≡ Some d
    → Agrees s (plan_mknod (agreement_of s) asked name (row_of s d) (rows_of_state s)) (mknod s asked name d)
mknod_agrees s asked name d tree e =
    checked s (mknod_checks s asked.mode name d) _ _ tree (λ dir may.
    make_agrees s (begun_in s d (typed asked)) name d tree e
    (mode_stays_in (gives_group (terms_of s) d.mode) _ _ (made_node asked.mode asked.rdev (not_false _ may)))
    (link_stays_in (gives_group (terms_of s) d.mode) (node_mode asked.mode) ∙ node_no_link asked.mode (not_false _ may)) (not_false _ dir))
