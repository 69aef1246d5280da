-- The counts of the messages of a stream, and their line (defined by this project).
use Rattle.std.specs.Prelude.{◌≡◌, ◌&&◌, ℕ, zero, suc, Bool, true, false, List, ◌++◌, length, codes, decimal, Option, Some, None, is_some, is_none}
use Rattle.std.specs.List.{filter}
use Rattle.std.specs.Io.KnownBytes.{Appends}
use Rattle.fuse_request.specs.declared.framer.FrameFault.{FrameFault}
use Rattle.fuse_request.specs.Act.{Act, Further}
use Rattle.fuse_request.specs.Faults.{first_fault}
use Rattle.fuse_request.specs.Places.{act_in}
use Rattle.fuse_request.specs.Stream.{cut}
use Rattle.fuse_commands.specs.declared.check.MessageCounts.{MessageCounts}
use Rattle.fuse_commands.specs.declared.ending.Ending.{Ending}
use Rattle.fuse_commands.specs.declared.ending.Ending.TheVariants.{Done, Malformed}
use Rattle.fuse_commands.specs.Endings.{stream_ending}
use Rattle.fuse_commands.specs.Messages.{stream_fault}
use Rattle.fuse_commands.specs.Output.{line}

-- the message spells no request
abbrev pub is_malformed : List ℕ → Bool
is_malformed m = is_some (first_fault m)

abbrev pub asks_unsupported : Act → Bool
asks_unsupported (Further opcode body) = true
asks_unsupported _ = false

-- the message spells a request outside the profile
abbrev pub is_unsupported : List ℕ → Bool
is_unsupported m = is_none (first_fault m) && asks_unsupported (act_in m)

-- the counts of messages
abbrev pub checked : List (List ℕ) → MessageCounts
checked ms = record { messages = length ms; malformed = length (filter is_malformed ms); unsupported = length (filter is_unsupported ms) }

-- the line, without its line feed
abbrev pub check_line : MessageCounts → List ℕ
check_line c = codes "messages=" ++ (decimal c.messages ++ (codes " malformed=" ++ (decimal c.malformed ++ (codes " unsupported=" ++ decimal c.unsupported))))

-- the ending of a check: the fault of the stream, or else whether a message is malformed
abbrev pub check_ending : Option FrameFault → ℕ → Ending
check_ending (Some fault) malformed = stream_ending fault
check_ending None zero = Done
check_ending None (suc n) = Malformed

-- the counts of the messages of a stream were written, and the check ends with this
pub record Checked (old new : Option (List ℕ)) (stream : List ℕ) (ending : Ending) : Type 0 where
  pub written : Appends old new (line (check_line (checked (cut stream).0)))
  pub ends : ending ≡ check_ending (stream_fault stream) (checked (cut stream).0).malformed
