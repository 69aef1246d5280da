-- What is answered to READDIR fits, and is read.
use Rattle.std.proofs.Common.{◌≤◌, ℕ, not, List, Some, refl, arith}
use Rattle.std.specs.List.{AllByRecursion}
use Rattle.std.proofs.lemmas.Bool.{ltb-false}
use Rattle.fuse_request.specs.declared.request.ReadIn.{ReadIn}
use Rattle.fuse_answer.specs.Entries.{DirectoryEntry, IsNamed, packed_len}
use Rattle.fuse_answer.specs.Laws.{ReadBack, RecordSizes}
use Rattle.fuse_answer.specs.Replies.{Directory}
use Rattle.fuse_rows.specs.Bounds.{read_limit}
use Rattle.fuse_tree.specs.State.{State, Node, Shape}
use Rattle.fuse_tree.specs.Listing.{entries_following, first_fits, longest_prefix, list_checks, list_prefix, read_dir}
use Rattle.fuse_plan.proofs.Fit.{Fits, Reads, refused, answered, chosen, checked_then, refused_reads, answered_reads, chosen_reads, checked_reads, Short, refused_short, chosen_short, checked_short}
use Rattle.fuse_plan.proofs.Prefixes.{longest}
use Rattle.fuse_plan.proofs.Listing.{all_named}
use Rattle.fuse_plan.proofs.Shown.{all_taken}

list_fits : RecordSizes → (s : State) (es : List DirectoryEntry) (size : ℕ) → size ≤ 1048576 → Fits (list_prefix s es size)
list_fits sizes s es size few =
    chosen (not (first_fits es size)) _ _ (refused s _)
    (answered s _ (omega (arith, few, sizes.5 (longest_prefix es size), (longest packed_len es size).fits)))

pub read_dir_fits : RecordSizes → (s : State) (asked : ReadIn) (n : Node) → Fits (read_dir s asked n)
read_dir_fits sizes s asked n =
    checked_then s (list_checks s asked n) _ (λ _ _ few _.
    list_fits sizes s (entries_following s n.number asked.offset) asked.size (ltb-false read_limit asked.size few))

-- ---- it is read

list_reads : ReadBack → (s : State) (es : List DirectoryEntry) (size : ℕ) → AllByRecursion IsNamed es → Reads Directory (list_prefix s es size)
list_reads back s es size named =
    chosen_reads (not (first_fits es size)) _ _ (refused_reads s _ refl)
    (answered_reads s _ (back.listing (longest_prefix es size) (all_taken IsNamed _ es named)))

pub read_dir_reads : ReadBack → (s : State) (asked : ReadIn) (n : Node) → Shape s → Reads Directory (read_dir s asked n)
read_dir_reads back s asked n tree =
    checked_reads s (list_checks s asked n) _ refl
    (list_reads back s (entries_following s n.number asked.offset) asked.size (all_named s n.number asked.offset tree))

list_short : RecordSizes → (s : State) (es : List DirectoryEntry) (size : ℕ) → Short (Some size) (list_prefix s es size)
list_short sizes s es size =
    chosen_short _ (not (first_fits es size)) _ _ (refused_short (Some size) s _)
    (record { within = omega (arith, sizes.5 (longest_prefix es size), (longest packed_len es size).fits) })

pub read_dir_short : RecordSizes → (s : State) (asked : ReadIn) (n : Node) → Short (Some asked.size) (read_dir s asked n)
read_dir_short sizes s asked n =
    checked_short (Some asked.size) s (list_checks s asked n) _ (list_short sizes s (entries_following s n.number asked.offset) asked.size)
