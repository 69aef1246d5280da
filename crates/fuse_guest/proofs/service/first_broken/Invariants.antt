use Rattle.std.proofs.Common.{◌≡◌, ◌-◌}
use Rattle.std.specs.List.{find, range_with_len}
use Rattle.fuse_guest.specs.Service.{is_broken, first_broken}
use Rattle.fuse_guest.proofs.service.first_broken.Given as goal

abbrev pub invariant-loop-opcode : goal.invariant-loop-opcode
invariant-loop-opcode l = find (is_broken l.pledged l.ready) (range_with_len l.opcode (64 - l.opcode)) ≡ first_broken l.pledged l.ready
