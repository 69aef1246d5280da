-- What WRITE and READ answer fits, and is read.
use Rattle.std.proofs.Common.{◌+◌, ◌==◌, ℕ, not, length, take, drop, Some, refl, arith}
use Rattle.std.specs.Prelude.{nat_lt}
use Rattle.std.proofs.lemmas.Bool.{ltb-false}
use Rattle.std.proofs.lemmas.List.{length-take}
use Rattle.fuse_request.specs.declared.request.ReadIn.{ReadIn}
use Rattle.fuse_answer.specs.Laws.{ReadBack, RecordSizes}
use Rattle.fuse_answer.specs.Replies.{Data, AWrite}
use Rattle.fuse_tree.specs.State.{State, terms_of, Node}
use Rattle.fuse_tree.specs.Space.{room_of, has_room, newly_written}
use Rattle.fuse_rows.specs.Blocks.{listed_blocks}
use Rattle.fuse_tree.specs.Handles.{access_at}
use Rattle.fuse_tree.specs.Writing.{Writing, may_write, with_bytes, write, read_checks, read}
use Rattle.fuse_plan.proofs.Fit.{Fits, Reads, refused, answered, chosen, checked_then, refused_reads, answered_reads, chosen_reads, checked_reads, Short, checked_short}

pub write_fits : RecordSizes → (s : State) (fh : ℕ) (w : Writing) (n : Node) → Fits (write s fh w n)
write_fits sizes s fh w n =
    chosen (not (may_write (access_at s.handles fh n.number))) _ _ (refused s _)
    (chosen (length w.payload == 0) _ _ (answered s _ (omega (arith, sizes.3 (record { size = 0 }))))
    (chosen (nat_lt (terms_of s).file_limit (w.offset + length w.payload)) _ _ (refused s _)
    (chosen (not (has_room (room_of s) (newly_written w.offset (length w.payload) (listed_blocks n.blocks)))) _ _ (refused s _)
    (answered (with_bytes s w.offset w.payload w.now n.number) _ (omega (arith, sizes.3 (record { size = length w.payload })))))))

pub read_fits : (s : State) (asked : ReadIn) (n : Node) → Fits (read s asked n)
read_fits s asked n =
    checked_then s (read_checks s asked n) _ (λ _ _ few.
    answered s _ (omega (arith, ltb-false 1048576 asked.size few, length-take asked.size (drop asked.offset n.content))))

-- ---- it is read

pub write_reads : ReadBack → (s : State) (fh : ℕ) (w : Writing) (n : Node) → Reads AWrite (write s fh w n)
write_reads back s fh w n =
    chosen_reads (not (may_write (access_at s.handles fh n.number))) _ _ (refused_reads s _ refl)
    (chosen_reads (length w.payload == 0) _ _ (answered_reads s _ (back.written (record { size = 0 })))
    (chosen_reads (nat_lt (terms_of s).file_limit (w.offset + length w.payload)) _ _ (refused_reads s _ refl)
    (chosen_reads (not (has_room (room_of s) (newly_written w.offset (length w.payload) (listed_blocks n.blocks)))) _ _ (refused_reads s _ refl)
    (answered_reads (with_bytes s w.offset w.payload w.now n.number) _ (back.written (record { size = length w.payload }))))))

pub read_reads : ReadBack → (s : State) (asked : ReadIn) (n : Node) → Reads Data (read s asked n)
read_reads back s asked n =
    checked_reads s (read_checks s asked n) _ refl (answered_reads s _ (back.data_bytes (take asked.size (drop asked.offset n.content))))

pub read_short : (s : State) (asked : ReadIn) (n : Node) → Short (Some asked.size) (read s asked n)
read_short s asked n =
    checked_short (Some asked.size) s (read_checks s asked n) _ (record { within = omega (arith, length-take asked.size (drop asked.offset n.content)) })
