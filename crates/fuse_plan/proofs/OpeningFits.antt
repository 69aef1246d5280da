-- What is answered to OPEN, OPENDIR, RELEASE and RELEASEDIR fits, and is read.
use Rattle.std.proofs.Common.{ℕ, Bool, true, false, if◌then◌else◌, not, [], length, Option, Some, None, refl, arith}
use Rattle.fuse_wire.specs.declared.access_mode.AccessMode.{AccessMode}
use Rattle.fuse_wire.specs.declared.access_mode.AccessMode.TheVariants.{ReadOnly}
use Rattle.fuse_wire.specs.declared.errno.Errno.{Errno}
use Rattle.fuse_wire.specs.Errnos.{enotdir, eisdir}
use Rattle.fuse_wire.specs.Flags.{access_of}
use Rattle.fuse_answer.specs.Laws.{ReadBack, RecordSizes}
use Rattle.fuse_answer.specs.Replies.{AnOpen, Nothing}
use Rattle.fuse_tree.specs.Removal.{tidied}
use Rattle.fuse_tree.specs.State.{State, terms_of, Node, is_dir}
use Rattle.fuse_tree.specs.Handles.{is_open}
use Rattle.fuse_tree.specs.Done.{Done, refuse_for, answer}
use Rattle.fuse_tree.specs.Opening.{open_tests, open_fault, open_checks, with_open_node, open_of, open_node, open_for, open_file, open_dir, closed, close, release, release_dir, not_for_dirs, for_dirs_alone}
use Rattle.fuse_plan.proofs.Fit.{Fits, Reads, refused, answered, chosen, checked, refused_for, refused_reads, tests_error, refused_for_reads, answered_reads, chosen_reads, checked_reads, no_body}

open_node_fits : RecordSizes → (s : State) (flags : ℕ) (access : AccessMode) (n : Node) → Fits (open_node s flags access n)
open_node_fits sizes s flags access n =
    refused_for s (open_fault (length s.handles) s.next_fh) _ (answered (with_open_node s n.number access) _ (omega (arith, sizes.2 (open_of flags s.next_fh))))

open_for_fits : RecordSizes → (s : State) (access : Option AccessMode) (n : Node) → Fits (open_for s access n)
open_for_fits sizes s None n = refused s _
open_for_fits sizes s (Some access) n = open_node_fits sizes s (terms_of s).open_flags access n

pub open_fits : RecordSizes → (s : State) (flags : ℕ) (n : Node) → Fits (open_file s flags n)
open_fits sizes s flags n = checked s (open_checks n.mode) _ (open_for_fits sizes s (access_of flags) n)

pub open_dir_fits : RecordSizes → (s : State) (n : Node) → Fits (open_dir s n)
open_dir_fits sizes s n = chosen (not (is_dir n.mode)) _ _ (refused s _) (open_node_fits sizes s 0 ReadOnly n)

close_fits : (s : State) (fh : ℕ) (kind_fault : Option Errno) (n : Node) → Fits (close s fh kind_fault n)
close_fits s fh kind_fault n =
    chosen (not (is_open s.handles fh n.number)) _ _ (refused s _)
    (refused_for s kind_fault _ (answered (tidied (closed s fh)) [] (omega arith)))

pub release_fits : (s : State) (fh : ℕ) (n : Node) → Fits (release s fh n)
release_fits s fh n = close_fits s fh (not_for_dirs n.mode) n

pub release_dir_fits : (s : State) (fh : ℕ) (n : Node) → Fits (release_dir s fh n)
release_dir_fits s fh n = close_fits s fh (for_dirs_alone n.mode) n

-- ---- it is read

open_node_reads : ReadBack → (s : State) (flags : ℕ) (access : AccessMode) (n : Node) → Reads AnOpen (open_node s flags access n)
open_node_reads back s flags access n =
    refused_for_reads s (open_fault (length s.handles) s.next_fh) _ (tests_error (open_tests (length s.handles) s.next_fh) refl)
    (answered_reads (with_open_node s n.number access) _ (back.opened (open_of flags s.next_fh)))

open_for_reads : ReadBack → (s : State) (access : Option AccessMode) (n : Node) → Reads AnOpen (open_for s access n)
open_for_reads back s None n = refused_reads s _ refl
open_for_reads back s (Some access) n = open_node_reads back s (terms_of s).open_flags access n

pub open_reads : ReadBack → (s : State) (flags : ℕ) (n : Node) → Reads AnOpen (open_file s flags n)
open_reads back s flags n = checked_reads s (open_checks n.mode) _ refl (open_for_reads back s (access_of flags) n)

pub open_dir_reads : ReadBack → (s : State) (n : Node) → Reads AnOpen (open_dir s n)
open_dir_reads back s n = chosen_reads (not (is_dir n.mode)) _ _ (refused_reads s _ refl) (open_node_reads back s 0 ReadOnly n)

close_reads : (s : State) (fh : ℕ) (n : Node) (kind_fault : Option Errno) → Reads Nothing (refuse_for s kind_fault (answer (tidied (closed s fh)) []))
    → Reads Nothing (close s fh kind_fault n)
close_reads s fh n kind_fault so = chosen_reads (not (is_open s.handles fh n.number)) _ _ (refused_reads s _ refl) so

not_for_dirs_reads : (s : State) (dir : Bool) (d : Done) → Reads Nothing d → Reads Nothing (refuse_for s (if dir then Some eisdir else None) d)
not_for_dirs_reads s true d so = refused_reads s eisdir refl
not_for_dirs_reads s false d so = so

pub release_reads : (s : State) (fh : ℕ) (n : Node) → Reads Nothing (release s fh n)
release_reads s fh n = close_reads s fh n _ (not_for_dirs_reads s (is_dir n.mode) _ (answered_reads (tidied (closed s fh)) [] no_body))

for_dirs_reads : (s : State) (dir : Bool) (d : Done) → Reads Nothing d → Reads Nothing (refuse_for s (if dir then None else Some enotdir) d)
for_dirs_reads s true d so = so
for_dirs_reads s false d so = refused_reads s enotdir refl

pub release_dir_reads : (s : State) (fh : ℕ) (n : Node) → Reads Nothing (release_dir s fh n)
release_dir_reads s fh n = close_reads s fh n _ (for_dirs_reads s (is_dir n.mode) _ (answered_reads (tidied (closed s fh)) [] no_body))
