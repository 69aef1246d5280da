use Rattle.std.proofs.Common.{arith}
use Rattle.fuse_session.proofs.Turns.{joined_within}
use Rattle.fuse_session.proofs.session.place_after.Goals as goal

pub length_of-requires : goal.length_of-requires
length_of-requires c = omega (arith, joined_within c.args.messages.now c.args.count, c.requires.place)

pub overflow_add-result : goal.overflow_add-result
overflow_add-result c = omega (arith, c.length_of.ensures, joined_within c.args.messages.now c.args.count, c.requires.place)
