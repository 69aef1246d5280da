-- The counts of a session's messages (defined by this project).
use Rattle.std.specs.Prelude.{ℕ, ◌+◌, ◌==◌, ◌&&◌, Bool, if◌then◌else◌, List, [], ◌∷◌, is_none}
use Rattle.fuse_request.specs.declared.class.Class.{Class}
use Rattle.fuse_request.specs.declared.class.Class.TheVariants.{Silent, Bare, Kept, Seen}
use Rattle.fuse_wire.specs.Opcodes.{fuse_interrupt}
use Rattle.fuse_request.specs.Classes.{class_for}
use Rattle.fuse_request.specs.Opcodes.{Service}
use Rattle.fuse_request.specs.Faults.{first_fault}
use Rattle.fuse_request.specs.Header.{raw_of}
use Rattle.fuse_session.specs.declared.counts.SessionCounts.{SessionCounts}
use Rattle.fuse_session.specs.Processed.{Timed, timed_entry, entries_at}
use Rattle.fuse_keeper.specs.History.{History, entry_id, has, grown}

-- a well-formed INTERRUPT
abbrev pub is_interrupt : List ℕ → Bool
is_interrupt m = (raw_of m).opcode == fuse_interrupt && is_none (first_fault m)

abbrev pub one_if : Bool → ℕ
one_if b = if b then 1 else 0

-- a message by its class, whether its id was there before, and whether it is an INTERRUPT
abbrev pub counted_one : Class → Bool → Bool → SessionCounts
counted_one Silent repeated interrupt = record { messages = 1; kept = 0; repeated = 0; seen = 0; bare = 0; silent = 1; interrupts = one_if interrupt }
counted_one (Bare errno) repeated interrupt = record { messages = 1; kept = 0; repeated = 0; seen = 0; bare = 1; silent = 0; interrupts = 0 }
counted_one Kept repeated interrupt = record { messages = 1; kept = 1; repeated = one_if repeated; seen = 0; bare = 0; silent = 0; interrupts = 0 }
counted_one Seen repeated interrupt = record { messages = 1; kept = 0; repeated = 0; seen = 1; bare = 0; silent = 0; interrupts = 0 }

abbrev pub none_counted : SessionCounts
none_counted = record { messages = 0; kept = 0; repeated = 0; seen = 0; bare = 0; silent = 0; interrupts = 0 }

abbrev pub plus : SessionCounts → SessionCounts → SessionCounts
plus a b = record {
  messages = a.messages + b.messages;
  kept = a.kept + b.kept;
  repeated = a.repeated + b.repeated;
  seen = a.seen + b.seen;
  bare = a.bare + b.bare;
  silent = a.silent + b.silent;
  interrupts = a.interrupts + b.interrupts;
}

-- the messages by class, where h was the history before
abbrev pub counted : Service → History → List Timed → SessionCounts
counted V h [] = none_counted
counted V h (t ∷ ts) =
    plus (counted_one (class_for V t.bytes) (has h (entry_id (timed_entry t))) (is_interrupt t.bytes)) (counted V (grown h (entries_at V t)) ts)
