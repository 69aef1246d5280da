use Rattle.std.proofs.Common.{rules, ◌∙◌}
use Rattle.fuse_request.specs.Act.{asked}
use Rattle.fuse_guest.specs.Talk.{handed}
use Rattle.guest_talk.proofs.Requested.{memory_of}
use Rattle.guest_talk.proofs.requests.request_frame.Goals as goal

pub returns-clause-err : goal.returns-clause-err
returns-clause-err c =
    memory_of c.layouts_stand.ensures (handed (asked c.args.request.now)) _ c.in-Err.fault c.in-Err.ensures.err (search rules)
    (c.deref.ensures.value ∙ c.in_ok-message.ensures.ok.is) c.in_ok-message.ensures.ok.short
