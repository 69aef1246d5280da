-- How a command ends whose input, output or memory failed (defined by this project).
use Rattle.std.specs.Prelude.{◌<◌}
use Rattle.fuse_commands.specs.declared.ending.Ending.{Ending}
use Rattle.fuse_commands.specs.Endings.{status_of}

-- the input, the output or memory failed
abbrev pub GaveOut : Ending → Type 0
GaveOut ending = 3 < status_of ending
