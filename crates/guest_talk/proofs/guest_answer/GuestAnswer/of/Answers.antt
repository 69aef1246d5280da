use Rattle.std.proofs.Common.{ap}
use Rattle.std.specs.Prelude.{is_ok}
use Rattle.guest_talk.proofs.Frames.{answer_said, is_answer}
use Rattle.guest_talk.proofs.guest_answer.GuestAnswer.of.Goals as goal

pub invariant_of-result : goal.invariant_of-result
invariant_of-result c = record {
  right = ap is_ok (is_answer c.args.came.kind c.args.came.payload.items c.requires.0 c.args.came.right c.requires.1);
}

pub returns : goal.returns
returns c = λ a is. answer_said c.args.came.kind c.args.came.payload.items a c.args.came.right is
