-- The plans of the further opcodes agree with what is done.
use Rattle.std.proofs.Common.{◌≡◌, ℕ, true, not, List, Option, Some, is_some, length, refl, ap}
use Rattle.std.specs.Option.{unwrap_or}
use Rattle.fuse_wire.specs.Errnos.{ebadf, enosys, einval}
use Rattle.fuse_init.specs.declared.profile.Profile.{Profile}
use Rattle.fuse_init.specs.Profile.{terms}
use Rattle.fuse_request.specs.FurtherBodies.{FurtherContent, Readlink, Statfs, Fsync, FsyncDir, Symlink, Create, ReadDirPlus, further_fault, further_content_at}
use Rattle.fuse_answer.specs.FurtherAnswers.{statfs_bytes}
use Rattle.fuse_rows.specs.Bounds.{target_limit}
use Rattle.fuse_rows.specs.declared.origin.Origin.{Origin}
use Rattle.fuse_tree.specs.State.{State, Node, Shape, used_of, terms_of, profile_of, is_link, node_at}
use Rattle.fuse_tree.specs.Space.{room_of}
use Rattle.fuse_tree.specs.Rowed.{row_of, rows_of_state}
use Rattle.fuse_tree.specs.Keeping.{agreement_of}
use Rattle.fuse_tree.specs.Handles.{is_open}
use Rattle.fuse_tree.specs.Statfs.{statfs_of, statfs, no_room}
use Rattle.fuse_tree.specs.Syncing.{fsync}
use Rattle.fuse_tree.specs.Linking.{readlink}
use Rattle.fuse_tree.specs.Making.{asked_node}
use Rattle.fuse_tree.specs.Further.{do_further, further}
use Rattle.fuse_plan.specs.inner.Reading.{told}
use Rattle.fuse_plan.specs.inner.PlanStatfs.{plan_statfs}
use Rattle.fuse_plan.specs.inner.PlanSyncing.{plan_fsync}
use Rattle.fuse_plan.specs.inner.PlanLinking.{plan_readlink}
use Rattle.fuse_plan.specs.inner.PlanFurther.{plan_content, plan_further}
use Rattle.fuse_plan.proofs.Agrees.{Agrees, refused_agrees, both}
use Rattle.fuse_plan.proofs.Fit.{not_false}
use Rattle.fuse_plan.proofs.Blocks.{room_with}
use Rattle.fuse_plan.proofs.Carried.{further_links}
use Rattle.fuse_plan.proofs.Contents.{EndsTarget, target_ends}
use Rattle.fuse_plan.proofs.CreatingAgrees.{create_agrees}
use Rattle.fuse_plan.proofs.PlusAgrees.{read_dir_plus_agrees}
use Rattle.fuse_plan.proofs.SymlinkAgrees.{symlink_agrees}
use Rattle.fuse_plan.proofs.Most.{profile_mapped}
use Rattle.fuse_plan.proofs.WritingAgrees.{bytes_found}

readlink_agrees : (s : State) (d : Node) → Shape s → node_at s d.number ≡ Some d → Agrees s (plan_readlink (row_of s d) (rows_of_state s)) (readlink s d)
readlink_agrees s d tree e =
    both s (not (is_link d.mode)) _ _ _ _ (λ _. refused_agrees s tree einval) (λ _. record {
      answer = ap (λ (bytes : List ℕ). (told bytes).answer) (bytes_found s d 0 target_limit e);
      rows = refl;
      tree = tree;
      same = refl;
      kept = λ all. all;
    })

statfs_agrees : (s : State) → Shape s → Agrees s (plan_statfs (rows_of_state s)) (statfs s)
statfs_agrees s tree = record {
  answer = ap
      (λ (p : Profile). (told (statfs_bytes (statfs_of (terms p).node_limit (length s.nodes) (unwrap_or (room_of s) no_room)))).answer)
      (profile_mapped (room_with (used_of s)) s.capacity);
  rows = refl;
  tree = tree;
  same = refl;
  kept = λ all. all;
}

fsync_agrees : (s : State) (fh : ℕ) (d : Node) → Shape s → Agrees s (plan_fsync fh (row_of s d) (rows_of_state s)) (fsync s fh d)
fsync_agrees s fh d tree =
    both s (not (is_open s.handles fh d.number)) _ _ _ _ (λ _. refused_agrees s tree ebadf) (λ _. record {
      answer = refl;
      rows = refl;
      tree = tree;
      same = refl;
      kept = λ all. all;
    })

content_agrees : (s : State) (from : Origin) (o : Option FurtherContent) (d : Node) → Shape s → node_at s d.number ≡ Some d
    → (terms_of s).links ≡ true → EndsTarget o
    → Agrees s (plan_content (agreement_of s) from o (row_of s d) (rows_of_state s)) (do_further s from o d)
content_agrees s from (Some Readlink) d tree e links ends = readlink_agrees s d tree e
content_agrees s from (Some Statfs) d tree e links ends = statfs_agrees s tree
content_agrees s from (Some (Fsync fh fsync_flags)) d tree e links ends = fsync_agrees s fh d tree
content_agrees s from (Some (FsyncDir fh fsync_flags)) d tree e links ends = fsync_agrees s fh d tree
content_agrees s from (Some (Symlink name target)) d tree e links ends = symlink_agrees s from target name d tree e links ends
content_agrees s from (Some (Create flags mode umask open_flags name)) d tree e links ends = create_agrees s (asked_node from mode 0) flags name d tree e
content_agrees s from (Some (ReadDirPlus x)) d tree e links ends = read_dir_plus_agrees s x d tree
content_agrees s from _ d tree e links ends = refused_agrees s tree enosys

pub further_agrees : (s : State) (from : Origin) (opcode : ℕ) (body : List ℕ) (d : Node) → Shape s → node_at s d.number ≡ Some d
    → Agrees s (plan_further (agreement_of s) from opcode body (row_of s d) (rows_of_state s)) (further s from opcode body d)
further_agrees s from opcode body d tree e =
    both s (not ((terms_of s).further opcode)) _ _ _ _ (λ _. refused_agrees s tree enosys) (λ served.
    both s (is_some (further_fault opcode body)) _ _ _ _ (λ _. refused_agrees s tree einval) (λ _.
    content_agrees s from (further_content_at opcode body) d tree e (further_links (profile_of s) opcode (not_false _ served)) (target_ends opcode body)))
