use Rattle.std.proofs.Common.{◌∙◌}
use Rattle.guest_frames.proofs.Starts.{head_known}
use Rattle.guest_frames.proofs.guest_head.GuestHead.read.Goals as goal

pub returns-clause-cut : goal.returns-clause-cut
returns-clause-cut c =
    λ f kind is of_kind begins long. c.head_at.ensures ∙ head_known c.numbers_read.ensures c.args.bytes.now f kind is of_kind begins long
