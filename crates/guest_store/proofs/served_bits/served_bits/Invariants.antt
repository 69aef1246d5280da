use Rattle.std.proofs.Common.{◌≡◌, ◌<◌, ◌^◌}
use Rattle.fuse_guest.specs.Service.{bits_below, is_served_by}
use Rattle.guest_store.proofs.served_bits.served_bits.Given as goal

abbrev pub invariant-loop-opcode : goal.invariant-loop-opcode
invariant-loop-opcode l = record {
  bits : l.bits ≡ bits_below (is_served_by l.fn.ready) l.opcode;
  low : l.bits < 2 ^ l.opcode;
}
