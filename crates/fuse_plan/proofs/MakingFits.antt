-- What is answered for a new node fits, and is read.
use Rattle.std.proofs.Common.{ℕ, List, refl, arith}
use Rattle.fuse_answer.specs.Laws.{ReadBack, RecordSizes}
use Rattle.fuse_answer.specs.Replies.{AnEntry}
use Rattle.fuse_tree.specs.declared.new_node.NewNode.{NewNode}
use Rattle.fuse_tree.specs.State.{State, Node}
use Rattle.fuse_tree.specs.Keeping.{agreement_of, valid_of}
use Rattle.fuse_tree.specs.Done.{attr_of, entry_out_of}
use Rattle.fuse_tree.specs.Making.{new_node, with_new_node, make, mkdir_checks, mkdir, mknod_checks, mknod}
use Rattle.fuse_plan.proofs.Fit.{Fits, answered, checked, Reads, answered_reads, checked_reads}

make_fits : RecordSizes → (s : State) (fresh : NewNode) (dir : ℕ) (name : List ℕ) → Fits (make s fresh dir name)
make_fits sizes s fresh dir name =
    answered (with_new_node s fresh dir name) _ (omega (arith, sizes.0 (entry_out_of (valid_of (agreement_of s)) (attr_of (with_new_node s fresh dir name) (new_node s fresh)))))

pub mkdir_fits : RecordSizes → (s : State) (asked : NewNode) (name : List ℕ) (n : Node) → Fits (mkdir s asked name n)
mkdir_fits sizes s asked name n = checked s (mkdir_checks s name n) _ (make_fits sizes s _ n.number name)

pub mknod_fits : RecordSizes → (s : State) (asked : NewNode) (name : List ℕ) (n : Node) → Fits (mknod s asked name n)
mknod_fits sizes s asked name n = checked s (mknod_checks s asked.mode name n) _ (make_fits sizes s _ n.number name)

make_reads : ReadBack → (s : State) (fresh : NewNode) (dir : ℕ) (name : List ℕ) → Reads AnEntry (make s fresh dir name)
make_reads back s fresh dir name =
    answered_reads (with_new_node s fresh dir name) _ (back.entry (entry_out_of (valid_of (agreement_of s)) (attr_of (with_new_node s fresh dir name) (new_node s fresh))))

pub mkdir_reads : ReadBack → (s : State) (asked : NewNode) (name : List ℕ) (n : Node) → Reads AnEntry (mkdir s asked name n)
mkdir_reads back s asked name n = checked_reads s (mkdir_checks s name n) _ refl (make_reads back s _ n.number name)

pub mknod_reads : ReadBack → (s : State) (asked : NewNode) (name : List ℕ) (n : Node) → Reads AnEntry (mknod s asked name n)
mknod_reads back s asked name n = checked_reads s (mknod_checks s asked.mode name n) _ refl (make_reads back s _ n.number name)
