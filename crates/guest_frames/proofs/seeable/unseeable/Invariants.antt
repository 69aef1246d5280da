use Rattle.std.proofs.Common.{◌≡◌, ◌-◌}
use Rattle.guest_frames.specs.Seeable.{unseeable, unseeable_from}
use Rattle.guest_frames.proofs.seeable.unseeable.Given as goal

abbrev pub invariant-loop-opcode : goal.invariant-loop-opcode
invariant-loop-opcode l = unseeable_from l.opcode (64 - l.opcode) l.rest ≡ unseeable l.set
