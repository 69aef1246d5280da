-- What is answered for an entry gone fits, and is read.
use Rattle.std.proofs.Common.{◌≡◌, ℕ, true, List, [], Option, Some, None, refl, arith}
use Rattle.fuse_wire.specs.declared.moment.Moment.{Moment}
use Rattle.fuse_answer.specs.Replies.{Nothing}
use Rattle.fuse_rows.specs.Rows.{entry_at}
use Rattle.fuse_rows.specs.declared.rows.EntryRow.{EntryRow}
use Rattle.fuse_tree.specs.Checks.{Check}
use Rattle.fuse_tree.specs.State.{State, Node, node_at}
use Rattle.fuse_tree.specs.Removal.{tidied}
use Rattle.fuse_tree.specs.Done.{name_checks}
use Rattle.fuse_tree.specs.Removing.{entry_gone, remove_child, remove_entry, remove, unlink_checks, unlink, rmdir_checks, rmdir}
use Rattle.fuse_plan.proofs.Fit.{Fits, refused, answered, checked, Reads, refused_reads, answered_reads, bear_errors, checked_reads, no_body}

-- where the child has these checks
module _ (s : State) (checks : Node → List Check) where
  child_fits : (e : EntryRow) (now : Moment) (o : Option Node) → Fits (remove_child s checks e now o)
  child_fits e now None = refused s _
  child_fits e now (Some child) = checked s (checks child) _ (answered (tidied (entry_gone e now s)) [] (omega arith))

  entry_fits : (now : Moment) (o : Option EntryRow) → Fits (remove_entry s checks now o)
  entry_fits now None = refused s _
  entry_fits now (Some e) = child_fits e now (node_at s e.child)

  remove_fits : (name : List ℕ) (now : Moment) (n : Node) → Fits (remove s checks name now n)
  remove_fits name now n = checked s (name_checks s name n) _ (entry_fits now (entry_at s.entries n.number name))

  module _ (bear : (child : Node) → bear_errors (checks child) ≡ true) where
    child_reads : (e : EntryRow) (now : Moment) (o : Option Node) → Reads Nothing (remove_child s checks e now o)
    child_reads e now None = refused_reads s _ refl
    child_reads e now (Some child) = checked_reads s (checks child) _ (bear child) (answered_reads (tidied (entry_gone e now s)) [] no_body)

    entry_reads : (now : Moment) (o : Option EntryRow) → Reads Nothing (remove_entry s checks now o)
    entry_reads now None = refused_reads s _ refl
    entry_reads now (Some e) = child_reads e now (node_at s e.child)

    remove_reads : (name : List ℕ) (now : Moment) (n : Node) → Reads Nothing (remove s checks name now n)
    remove_reads name now n = checked_reads s (name_checks s name n) _ refl (entry_reads now (entry_at s.entries n.number name))

pub unlink_fits : (s : State) (name : List ℕ) (now : Moment) (n : Node) → Fits (unlink s name now n)
unlink_fits s name now n = remove_fits s unlink_checks name now n

pub rmdir_fits : (s : State) (name : List ℕ) (now : Moment) (n : Node) → Fits (rmdir s name now n)
rmdir_fits s name now n = remove_fits s (rmdir_checks s) name now n

pub unlink_reads : (s : State) (name : List ℕ) (now : Moment) (n : Node) → Reads Nothing (unlink s name now n)
unlink_reads s name now n = remove_reads s unlink_checks (λ _. refl) name now n

pub rmdir_reads : (s : State) (name : List ℕ) (now : Moment) (n : Node) → Reads Nothing (rmdir s name now n)
rmdir_reads s name now n = remove_reads s (rmdir_checks s) (λ _. refl) name now n
