use Rattle.std.proofs.Common.{arith}
use Rattle.fuse_guest.specs.Service.{is_served_by}
use Rattle.guest_store.proofs.Bits.{low_bits, more_bits, no_bits}
use Rattle.guest_store.proofs.served_bits.served_bits.Goals as goal

pub loop-opcode-init : goal.loop-opcode-init
loop-opcode-init c = record { bits = no_bits (is_served_by c.args.ready.now); low = omega arith }

pub loop-opcode-preserved : goal.loop-opcode-preserved
loop-opcode-preserved c = record {
  bits = more_bits (is_served_by c.args.ready.now) c.loop-opcode.opcode c.loop-opcode.bits c.served_bit-bits.result c.loop-opcode.invariant.bits c.served_bit-bits.ensures.bit;
  low = low_bits c.loop-opcode.opcode c.loop-opcode.bits c.served_bit-bits.result c.loop-opcode.invariant.low c.served_bit-bits.ensures.low;
}
