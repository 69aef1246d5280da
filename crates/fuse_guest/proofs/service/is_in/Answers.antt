use Rattle.fuse_guest.proofs.Places.{past_set}
use Rattle.fuse_guest.proofs.service.is_in.Goals as goal

pub returns-then-opcode-ge64 : goal.returns-then-opcode-ge64
returns-then-opcode-ge64 c = past_set c.args.set c.args.opcode c.ranges.set.fits c.if-opcode-ge64.true
