-- The fault of a stream, and how a command over it ends (defined by this project).
use Rattle.std.specs.Prelude.{ℕ, List, length, Option, Some, None}
use Rattle.fuse_request.specs.declared.framer.FrameFault.{FrameFault}
use Rattle.fuse_request.specs.Stream.{cut, joined}
use Rattle.fuse_request.specs.Framing.{end_fault}
use Rattle.fuse_commands.specs.declared.ending.Ending.{Ending}
use Rattle.fuse_commands.specs.declared.ending.Ending.TheVariants.{Done}
use Rattle.fuse_commands.specs.Endings.{stream_ending}

-- the fault of a stream
abbrev pub stream_fault : List ℕ → Option FrameFault
stream_fault stream = end_fault (length (joined (cut stream).0)) (cut stream).1

-- the ending of a command over a stream with this fault, or none
abbrev pub look_ending : Option FrameFault → Ending
look_ending (Some fault) = stream_ending fault
look_ending None = Done
