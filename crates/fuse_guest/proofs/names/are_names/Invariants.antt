use Rattle.std.proofs.Common.{◌≡◌, false, drop}
use Rattle.fuse_guest.specs.RightBodies.{are_names_after}
use Rattle.fuse_guest.proofs.names.are_names.Given as goal

abbrev pub invariant-loop-byte : goal.invariant-loop-byte
invariant-loop-byte l = are_names_after l.begun (drop l.byte-index l.bytes) ≡ are_names_after false l.bytes
