-- What RENAME and RENAME2 answer fits, and is read.
use Rattle.std.proofs.Common.{◌-◌, ◌&&◌, ◌||◌, ◌==◌, ℕ, Bool, not, [], Option, Some, None, is_some, refl, arith}
use Rattle.std.specs.Prelude.{nat_le, nat_lt}
use Rattle.fuse_answer.specs.Replies.{Nothing}
use Rattle.fuse_tree.specs.Removal.{tidied}
use Rattle.fuse_rows.specs.Bounds.{number_end}
use Rattle.fuse_rows.specs.declared.rows.EntryRow.{EntryRow}
use Rattle.fuse_tree.specs.State.{State, Node, is_dir, is_named, name_tests, node_at}
use Rattle.fuse_rows.specs.Rows.{entry_at}
use Rattle.fuse_tree.specs.Removing.{has_entries}
use Rattle.fuse_tree.specs.Renaming.{Renaming, is_exchange, is_no_replace, is_dir_at, holds, is_same, asked_fault, place_fault, renamed, exchanged, rename_with_room, rename_entry, exchange_entry, rename_by, rename_from, rename_between, rename}
use Rattle.fuse_plan.proofs.Fit.{Fits, Reads, refused, answered, chosen, refused_for, IsError, no_error, error_where, earlier_error, tests_error, refused_reads, refused_for_reads, answered_reads, chosen_reads, no_body}

-- ---- fits

room_fits : (s : State) (r : Renaming) (dir : ℕ) (e : EntryRow) (other : Option EntryRow) → Fits (rename_with_room s r dir e other)
room_fits s r dir e other = chosen (nat_le number_end s.next_cookie) _ _ (refused s _) (answered (tidied (renamed r dir e other s)) [] (omega arith))

entry_fits : (s : State) (r : Renaming) (dir : ℕ) (e : EntryRow) (other : Option EntryRow) → Fits (rename_entry s r dir e other)
entry_fits s r dir e other =
    chosen (is_same e other) _ _ (answered s [] (omega arith))
    (chosen (holds s e.child r.new_dir) _ _ (refused s _)
    (refused_for s (place_fault s e.child other) _ (room_fits s r dir e other)))

exchange_fits : (s : State) (r : Renaming) (dir : ℕ) (e : EntryRow) (other : Option EntryRow) → Fits (exchange_entry s r dir e other)
exchange_fits s r dir e None = refused s _
exchange_fits s r dir e (Some other) =
    chosen (e.cookie == other.cookie) _ _ (answered s [] (omega arith))
    (chosen (holds s e.child r.new_dir || holds s other.child dir) _ _ (refused s _)
    (chosen (nat_lt (number_end - 2) s.next_cookie) _ _ (refused s _) (answered (exchanged r dir e other s) [] (omega arith))))

by_fits : (s : State) (r : Renaming) (dir : ℕ) (e : EntryRow) (other : Option EntryRow) → Fits (rename_by s r dir e other)
by_fits s r dir e other =
    chosen (is_exchange r.mode) _ _ (exchange_fits s r dir e other)
    (chosen (is_no_replace r.mode && is_some other) _ _ (refused s _) (entry_fits s r dir e other))

from_fits : (s : State) (r : Renaming) (dir : ℕ) (o : Option EntryRow) → Fits (rename_from s r dir o)
from_fits s r dir None = refused s _
from_fits s r dir (Some e) = by_fits s r dir e (entry_at s.entries r.new_dir r.new_name)

between_fits : (s : State) (r : Renaming) (n : Node) (o : Option Node) → Fits (rename_between s r n o)
between_fits s r n None = refused s _
between_fits s r n (Some to) =
    refused_for s (asked_fault r (is_dir n.mode && is_dir to.mode) (is_named s n.number && is_named s to.number)) _
    (from_fits s r n.number (entry_at s.entries n.number r.old_name))

pub rename_fits : (s : State) (r : Renaming) (n : Node) → Fits (rename s r n)
rename_fits s r n = between_fits s r n (node_at s r.new_dir)

-- ---- and is read

asked_error : (r : Renaming) (are_dirs are_named : Bool) → IsError (asked_fault r are_dirs are_named)
asked_error r are_dirs are_named =
    error_where (not are_dirs) _ _ refl
    (earlier_error _ _ (tests_error (name_tests r.old_name) refl) (earlier_error _ _ (tests_error (name_tests r.new_name) refl)
    (error_where (not (is_some r.mode)) _ _ refl (error_where (not are_named) _ _ refl no_error))))

place_error : (s : State) (child : ℕ) (other : Option EntryRow) → IsError (place_fault s child other)
place_error s child None = no_error
place_error s child (Some other) =
    error_where (is_dir_at s child && not (is_dir_at s other.child)) _ _ refl
    (error_where (not (is_dir_at s child) && is_dir_at s other.child) _ _ refl (error_where (has_entries s.entries other.child) _ _ refl no_error))

entry_reads : (s : State) (r : Renaming) (dir : ℕ) (e : EntryRow) (other : Option EntryRow) → Reads Nothing (rename_entry s r dir e other)
entry_reads s r dir e other =
    chosen_reads (is_same e other) _ _ (answered_reads s [] no_body)
    (chosen_reads (holds s e.child r.new_dir) _ _ (refused_reads s _ refl)
    (refused_for_reads s (place_fault s e.child other) _ (place_error s e.child other)
    (chosen_reads (nat_le number_end s.next_cookie) _ _ (refused_reads s _ refl) (answered_reads (tidied (renamed r dir e other s)) [] no_body))))

exchange_reads : (s : State) (r : Renaming) (dir : ℕ) (e : EntryRow) (other : Option EntryRow) → Reads Nothing (exchange_entry s r dir e other)
exchange_reads s r dir e None = refused_reads s _ refl
exchange_reads s r dir e (Some other) =
    chosen_reads (e.cookie == other.cookie) _ _ (answered_reads s [] no_body)
    (chosen_reads (holds s e.child r.new_dir || holds s other.child dir) _ _ (refused_reads s _ refl)
    (chosen_reads (nat_lt (number_end - 2) s.next_cookie) _ _ (refused_reads s _ refl) (answered_reads (exchanged r dir e other s) [] no_body)))

from_reads : (s : State) (r : Renaming) (dir : ℕ) (o : Option EntryRow) → Reads Nothing (rename_from s r dir o)
from_reads s r dir None = refused_reads s _ refl
from_reads s r dir (Some e) = step (entry_at s.entries r.new_dir r.new_name)
  where
    step : (other : Option EntryRow) → Reads Nothing (rename_by s r dir e other)
    step other =
        chosen_reads (is_exchange r.mode) _ _ (exchange_reads s r dir e other)
        (chosen_reads (is_no_replace r.mode && is_some other) _ _ (refused_reads s _ refl) (entry_reads s r dir e other))

between_reads : (s : State) (r : Renaming) (n : Node) (o : Option Node) → Reads Nothing (rename_between s r n o)
between_reads s r n None = refused_reads s _ refl
between_reads s r n (Some to) =
    refused_for_reads s (asked_fault r (is_dir n.mode && is_dir to.mode) (is_named s n.number && is_named s to.number)) _
    (asked_error r (is_dir n.mode && is_dir to.mode) (is_named s n.number && is_named s to.number))
    (from_reads s r n.number (entry_at s.entries n.number r.old_name))

pub rename_reads : (s : State) (r : Renaming) (n : Node) → Reads Nothing (rename s r n)
rename_reads s r n = between_reads s r n (node_at s r.new_dir)
