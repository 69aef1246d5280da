-- The table of endings: the exit status of each, and its line on standard error (defined by this project).
use Rattle.std.specs.Prelude.{◌≤◌, List, ℕ, ◌++◌, codes, decimal, Option, Some, None}
use Rattle.fuse_request.specs.declared.framer.FrameFault.{FrameFault}
use Rattle.fuse_request.specs.declared.framer.FrameFault.TheVariants as frame
use Rattle.fuse_keeper.specs.declared.fault.StoreFault.{StoreFault}
use Rattle.fuse_keeper.specs.declared.fault.StoreFault.TheVariants as store
use Rattle.fuse_session.specs.declared.ended.Ended.{Ended}
use Rattle.fuse_session.specs.declared.ended.Ended.TheVariants as session
use Rattle.fuse_commands.specs.Causes.{cause_of}
use Rattle.fuse_commands.specs.declared.ending.Ending.{Ending}
use Rattle.fuse_commands.specs.declared.ending.Ending.TheVariants.{Done, Short, TooLong, Cut, ZeroUnique, Malformed, ScriptLine, Usage, Sql, NotAStore, Version}
use Rattle.fuse_commands.specs.declared.ending.Ending.TheVariants.{Modes, Damaged, Busy, NotOffered, PortFailed, PortTurns, Memory, Guest}
use Rattle.fuse_commands.specs.declared.ending.Ending.TheVariants.{NoSuchPath, NotDirectory, NotFile}

abbrev pub status_of : Ending → ℕ
status_of Done = 0
status_of (Short _ _) = 1
status_of (TooLong _ _) = 1
status_of (Cut _ _ _) = 1
status_of (ZeroUnique _) = 1
status_of Malformed = 1
status_of (ScriptLine _) = 1
status_of Usage = 2
status_of Modes = 2
status_of (Sql _) = 3
status_of NotAStore = 3
status_of (Version _) = 3
status_of Damaged = 3
status_of Busy = 3
status_of NotOffered = 3
status_of NoSuchPath = 3
status_of NotDirectory = 3
status_of NotFile = 3
status_of PortFailed = 4
status_of PortTurns = 4
status_of Memory = 5
status_of Guest = 5

-- the stream was processed to its end or its first fault
abbrev pub IsOfStream : Ending → Type 0
IsOfStream ending = status_of ending ≤ 1

-- the line, without its line feed; at Usage clap prints the text, at Malformed the counts are printed, at Guest what the guest did
abbrev pub line_of : Ending → Option (List ℕ)
line_of Done = None
line_of (Short at len) = Some (codes "stream: Short at " ++ (decimal at ++ (codes ": len " ++ decimal len)))
line_of (TooLong at len) = Some (codes "stream: TooLong at " ++ (decimal at ++ (codes ": len " ++ decimal len)))
line_of (Cut at have need) =
    Some (codes "stream: Cut at " ++ (decimal at ++ (codes ": have " ++ (decimal have ++ (codes ", need " ++ decimal need)))))
line_of (ZeroUnique at) = Some (codes "stream: ZeroUnique at " ++ decimal at)
line_of Malformed = None
line_of (ScriptLine line) = Some (codes "script: line " ++ decimal line)
line_of Usage = None
line_of Modes = Some (codes "usage: one of --fresh and --resume")
line_of (Sql _) = Some (codes "store: Sql")
line_of NotAStore = Some (codes "store: NotAStore")
line_of (Version n) = Some (codes "store: Version(" ++ (decimal n ++ codes ")"))
line_of Damaged = Some (codes "store: Damaged")
line_of Busy = Some (codes "store: Busy")
line_of NotOffered = Some (codes "resume: NotOffered")
line_of NoSuchPath = Some (codes "path: NoSuchPath")
line_of NotDirectory = Some (codes "path: NotDirectory")
line_of NotFile = Some (codes "path: NotFile")
line_of PortFailed = Some (codes "port: failed")
line_of PortTurns = Some (codes "port: turns")
line_of Memory = Some (codes "memory")
line_of Guest = None

-- the ending of each fault of a stream
abbrev pub stream_ending : FrameFault → Ending
stream_ending (frame.Short at len) = Short at len
stream_ending (frame.TooLong at len) = TooLong at len
stream_ending (frame.Cut at have need) = Cut at have need
stream_ending frame.Memory = Memory

-- the ending of each fault of a store
abbrev pub store_ending : StoreFault → Ending
store_ending store.Memory = Memory
store_ending (store.Sql e) = Sql (cause_of e)
store_ending store.NotAStore = NotAStore
store_ending (store.Version n) = Version n
store_ending store.Damaged = Damaged
store_ending store.Guest = Guest

-- the ending of a command whose session ended this way
abbrev pub session_ending : Ended → Ending
session_ending session.End = Done
session_ending session.Destroyed = Done
session_ending session.Turns = PortTurns
session_ending (session.Frame fault) = stream_ending fault
session_ending (session.ZeroUnique at) = ZeroUnique at
session_ending session.PortFailed = PortFailed
session_ending (session.Store fault) = store_ending fault
session_ending session.Memory = Memory
