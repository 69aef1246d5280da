use Rattle.std.proofs.Common.{◌≡◌, ◌++◌, length}
use Rattle.fuse_commands.specs.Scripts.{lines_of}
use Rattle.fuse_commands.specs.inner.Scripts.{parts_in}
use Rattle.fuse_commands.proofs.script.split_lines.Given as goal

abbrev pub decreases-loop-line : goal.decreases-loop-line
decreases-loop-line l = length l.rest

abbrev pub invariant-loop-line : goal.invariant-loop-line
invariant-loop-line l = parts_in l.lines.items ++ lines_of l.rest ≡ lines_of l.script
