-- The plan of SYMLINK agrees with what is done.
use Rattle.std.proofs.Common.{◌≡◌, ◌≢◌, ◌==◌, ℕ, true, List, length, Some, None, refl, sym, ap, arith}
use Rattle.std.specs.Prelude.{nat_lt}
use Rattle.std.specs.List.{AllByRecursion}
use Rattle.std.proofs.lemmas.Bool.{eqb-false, ltb-false}
use Rattle.fuse_wire.specs.Errnos.{enoent, enametoolong}
use Rattle.fuse_rows.specs.Bounds.{target_limit}
use Rattle.fuse_tree.specs.declared.new_node.NewNode.{NewNode}
use Rattle.fuse_rows.specs.declared.origin.Origin.{Origin}
use Rattle.fuse_rows.specs.declared.rows.Full.{Full}
use Rattle.fuse_tree.specs.Checks.{error_in}
use Rattle.fuse_tree.specs.State.{State, Node, Shape, IsTarget, terms_of, profile_of, node_at}
use Rattle.fuse_tree.specs.Rowed.{row_of, rows_of_state}
use Rattle.fuse_tree.specs.Keeping.{agreement_of, valid_of}
use Rattle.fuse_tree.specs.Making.{gives_group, asked_node, begun_in}
use Rattle.fuse_tree.specs.Symlinking.{link_mode, target_tests, symlink_checks, symlink}
use Rattle.fuse_plan.specs.inner.Reading.{entry_body}
use Rattle.fuse_plan.specs.inner.PlanSymlinking.{plan_symlink}
use Rattle.fuse_plan.proofs.Agrees.{Agrees, checked}
use Rattle.fuse_plan.proofs.Fit.{not_false, none_some, no_fault}
use Rattle.fuse_plan.proofs.Carried.{target_carried, target_fits}
use Rattle.fuse_plan.proofs.KeptStates.{node_given, kept_link}
use Rattle.fuse_plan.proofs.Making.{link_full, link_rows, link_tree, link_space}
use Rattle.fuse_plan.proofs.WrittenBlocks.{target_blocks, target_counts}
use Rattle.fuse_plan.proofs.Modes.{made_link, mode_stays_in, link_stays_in}

is_target : (target : List ℕ) → error_in (target_tests target) ≡ None → AllByRecursion (λ b. b ≢ 0) target → IsTarget target
is_target target none ends =
    let h = no_fault (length target == 0) (nat_lt target_limit (length target)) enoent enametoolong none in
    let some : length target ≢ 0 = eqb-false (length target) 0 h.0 in
    record { some = omega (arith, some); short = ltb-false target_limit (length target) h.1; no_nul = ends }

pub symlink_agrees : (s : State) (from : Origin) (target name : List ℕ) (d : Node) → Shape s → node_at s d.number ≡ Some d → (terms_of s).links ≡ true
    → AllByRecursion (λ b. b ≢ 0) target
    → Agrees s (plan_symlink (agreement_of s) from target name (row_of s d) (rows_of_state s)) (symlink s from target name d)
symlink_agrees s from target name d tree e links ends =
    let fresh : NewNode = begun_in s d (asked_node from link_mode 0) in
    let gives = gives_group (terms_of s) d.mode in
    checked s (symlink_checks s target name d) _ _ tree (λ dir name_ok target_ok named free full left.
    let target_is = is_target target target_ok ends in
    let one = target_blocks (length target) target_is.some target_is.short in
    record {
      answer =
          ap (λ (f : Full). record { errno = 0; body = entry_body (valid_of (agreement_of s)) f.row }) (sym (link_full s fresh target name d tree e one));
      rows = link_rows s fresh target name d tree e one;
      tree =
          link_tree s fresh target name d tree e one (not_false _ dir) name_ok (not_false _ named) (none_some _ free) full
          (mode_stays_in gives _ _ made_link) (target_carried (terms_of s) fresh.mode target (link_stays_in gives link_mode) links target_is)
          (target_fits (profile_of s) (length target) target_is.short)
          (target_counts s.capacity fresh.mode target links target_is.some target_is.short)
          (link_space s fresh target name d tree e one (not_false _ left));
      same = refl;
      kept = kept_link s fresh target d.number name tree (node_given s d.number d tree e);
    })
