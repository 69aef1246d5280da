use Rattle.std.proofs.Common.{◌≡◌, ◌≤◌, length}
use Rattle.fuse_show.specs.Paths.{names_of}
use Rattle.fuse_show.proofs.paths.next_name.Given as goal

abbrev pub decreases-loop-part : goal.decreases-loop-part
decreases-loop-part l = length l.rest

abbrev pub invariant-loop-part : goal.invariant-loop-part
invariant-loop-part l = record { same : names_of l.path ≡ names_of l.rest; within : length l.rest ≤ length l.path }
