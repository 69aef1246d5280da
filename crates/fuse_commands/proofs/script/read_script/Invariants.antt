use Rattle.std.proofs.Common.{take}
use Rattle.fuse_commands.specs.Scripts.{WritesAll}
use Rattle.fuse_commands.specs.inner.Scripts.{parts_in}
use Rattle.fuse_commands.proofs.script.read_script.Given as goal

abbrev pub invariant-loop-index : goal.invariant-loop-index
invariant-loop-index l = WritesAll (take l.index (parts_in l.line-items)) l.events.items
