-- What the engine makes of a request before it asks the guest (defined by this project).
use Rattle.std.specs.Prelude.{Bool, not, [], if◌then◌else◌, Option, Some, None}
use Rattle.fuse_wire.specs.declared.errno.Errno.{Errno}
use Rattle.fuse_wire.specs.Errnos.{einval, enosys, eproto}
use Rattle.fuse_request.specs.Act.{Act, opcode_of}
use Rattle.fuse_request.specs.Act as acts
use Rattle.fuse_answer.specs.Bodies.{init_bytes}
use Rattle.fuse_init.specs.declared.negotiation.Negotiated.{Negotiated}
use Rattle.fuse_init.specs.declared.negotiation.Negotiated.TheVariants as outcomes
use Rattle.guest_frames.specs.declared.ready.Ready.{Ready}
use Rattle.fuse_guest.specs.Agreement.{agree_for}
use Rattle.fuse_guest.specs.Service.{is_served_by}
use Rattle.fuse_guest.specs.Talk.{Ending}
use Rattle.fuse_guest.specs.GuestModel.{GuestState, GuestDone, refuse_guest, give_guest, reply_of, init_reply, has_bad_body}
use Rattle.guest_store.specs.declared.deciding.Decision.{Decision}
use Rattle.guest_store.specs.declared.deciding.Decision.TheVariants.{Refuse, Nothing, Again, Ask, Negotiate}

-- where this says whether INIT was agreed on
abbrev pub own_fault_where : Ready → Bool → Act → Option Errno
own_fault_where r agreed act =
    if not (is_served_by r (opcode_of act)) then Some enosys
    else if not agreed then Some eproto
    else if has_bad_body act then Some einval
    else None

abbrev pub decided_by : Option Errno → Decision
decided_by (Some errno) = Refuse errno
decided_by None = Ask

abbrev pub decided_init : Negotiated → Decision
decided_init (outcomes.Agreed out settings) = Negotiate out settings
decided_init (outcomes.Again out) = Again out
decided_init (outcomes.Refused errno) = Refuse errno

abbrev pub decided : Ready → Bool → Act → Decision
decided r agreed (acts.Init offer) = decided_init (agree_for r offer)
decided r agreed acts.Destroy = if agreed then Nothing else Refuse eproto
decided r agreed act = decided_by (own_fault_where r agreed act)

-- the effect of a request of which this was decided, where the talk about it ends so
abbrev pub done_as : Ready → GuestState → Ending → Decision → GuestDone
done_as r s end (Refuse errno) = refuse_guest errno s
done_as r s end Nothing = give_guest [] s
done_as r s end (Again out) = give_guest (init_bytes out) s
done_as r s end Ask = reply_of s end
done_as r s end (Negotiate out settings) = init_reply r (init_bytes out) settings (reply_of s end)
