-- The file system that a guest is (defined by this project: the guest protocol).
use Rattle.std.specs.Prelude.{ℕ, ◌==◌, Bool, false, not, if◌then◌else◌, List, [], length, Option, Some, None, is_some, Ok, Err}
use Rattle.fuse_wire.specs.declared.errno.Errno.{Errno}
use Rattle.fuse_wire.specs.declared.moment.Moment.{Moment}
use Rattle.fuse_wire.specs.Errnos.{einval, enosys, eproto}
use Rattle.fuse_request.specs.Act.{Act, Asked, opcode_of}
use Rattle.fuse_request.specs.Act as acts
use Rattle.fuse_request.specs.FurtherBodies.{further_fault}
use Rattle.fuse_answer.specs.Said.{Said}
use Rattle.fuse_answer.specs.Bodies.{init_bytes}
use Rattle.fuse_init.specs.declared.negotiation.Negotiated.{Negotiated}
use Rattle.fuse_init.specs.declared.negotiation.Negotiated.TheVariants.{Agreed, Again, Refused}
use Rattle.fuse_init.specs.declared.settings.Settings.{Settings}
use Rattle.guest_frames.specs.declared.hello.Agreed as hello
use Rattle.guest_frames.specs.declared.hello.Hello.{Hello}
use Rattle.guest_frames.specs.declared.ready.Ready.{Ready}
use Rattle.fuse_keeper.specs.Model.{Model}
use Rattle.fuse_guest.specs.Agreement.{agree_for}
use Rattle.fuse_guest.specs.Pairs.{Pairs, ArePairs, changed_pairs}
use Rattle.fuse_guest.specs.Service.{is_served_by, service_of, served_bits, handed_bits}
use Rattle.fuse_guest.specs.Talk.{Guest, Ending, talk_end}

-- all that there is of a mount: the pairs, what INIT agreed on, and the opcodes that were served then
pub record GuestState : Type 0 where
  pub pairs : Pairs
  pub settings : Option Settings
  pub pledged : ℕ

-- the state after a request, and its answer
pub record GuestDone : Type 0 where
  pub state : GuestState
  pub said : Said

abbrev pub refuse_guest : Errno → GuestState → GuestDone
refuse_guest errno s = record { state = s; said = record { errno = errno.0; body = [] } }

abbrev pub give_guest : List ℕ → GuestState → GuestDone
give_guest body s = record { state = s; said = record { errno = 0; body = body } }

-- EIO (Linux: asm-generic/errno-base.h)
abbrev pub eio : Errno
eio = record { 0 = 5 }

-- what the engine makes of a talk: at a fault nothing changes. A request whose talk failed is asked again, and EIO is its answer after the
-- third time
abbrev pub reply_of : GuestState → Ending → GuestDone
reply_of s (Err fault) = refuse_guest eio s
reply_of s (Ok a) = record {
  state = record s { pairs = changed_pairs a.changes s.pairs };
  said = record { errno = a.error; body = a.body };
}

-- ---- INIT: the guest is asked too. Its error refuses the mount, and the body is the engine's

abbrev pub init_reply : Ready → List ℕ → Settings → GuestDone → GuestDone
init_reply r body settings d =
    if d.said.errno == 0 then give_guest body (record { pairs = d.state.pairs; settings = Some settings; pledged = served_bits r })
    else d

abbrev pub init_ended : Ready → GuestState → Ending → Negotiated → GuestDone
init_ended r s end (Agreed out settings) = init_reply r (init_bytes out) settings (reply_of s end)
init_ended r s end (Again out) = give_guest (init_bytes out) s
init_ended r s end (Refused errno) = refuse_guest errno s

-- ---- all requests

-- a body of an opcode outside the profile that isn't well formed
abbrev pub has_bad_body : Act → Bool
has_bad_body (acts.Further opcode body) = is_some (further_fault opcode body)
has_bad_body _ = false

-- what the engine answers without asking: it serves no such opcode, INIT wasn't agreed on, the request is malformed
abbrev pub own_fault : Ready → GuestState → Act → Option Errno
own_fault r s act =
    if not (is_served_by r (opcode_of act)) then Some enosys
    else if not (is_some s.settings) then Some eproto
    else if has_bad_body act then Some einval
    else None

abbrev pub unless_own : Option Errno → GuestState → Ending → GuestDone
unless_own (Some errno) s end = refuse_guest errno s
unless_own None s end = reply_of s end

-- the effect of a request, where the talk about it ends so; DESTROY is the engine's own
abbrev pub act_with : Ready → GuestState → Ending → Act → GuestDone
act_with r s end (acts.Init offer) = init_ended r s end (agree_for r offer)
act_with r s end acts.Destroy = if is_some s.settings then give_guest [] s else refuse_guest eproto s
act_with r s end act = unless_own (own_fault r s act) s end

unfoldable pub done_with : Ready → GuestState → Asked → Ending → GuestDone
done_with r s asked end = act_with r s end asked.act

-- over the pairs that stand there
abbrev pub done_by : Guest → GuestState → Asked → Moment → GuestDone
done_by G s asked now = done_with G.ready s asked (talk_end G s.pairs asked now)

-- ---- the model

abbrev pub new_guest_store : GuestState
new_guest_store = record { pairs = []; settings = None; pledged = 0 }

-- the pairs stay where a mount begins
abbrev pub cleared_guest : GuestState → GuestState
cleared_guest s = record { pairs = s.pairs; settings = None; pledged = 0 }

abbrev pub guest_model : Guest → Model
guest_model G = record {
  State = GuestState;
  Rows = GuestState;
  service = service_of G.ready;
  start = λ now. new_guest_store;
  next = λ s asked now. (done_by G s asked now).state;
  answer = λ s asked now. (done_by G s asked now).said;
  IsGood = λ s. ArePairs s.pairs;
  held_for = λ s. s;
  cleared = cleared_guest;
  settings = λ rows. rows.settings;
  nodes = λ rows. length rows.pairs;
  handles = λ rows. 0;
}

-- ---- what HELLO says of a state

abbrev pub agreed_with : ℕ → Option Settings → Option hello.Agreed
agreed_with pledged None = None
agreed_with pledged (Some settings) = Some (record { minor = settings.minor; flags = settings.flags.0; pledged = pledged })

abbrev pub hello_of : GuestState → Hello
hello_of s = record { agreed = agreed_with s.pledged s.settings; opcodes = handed_bits }
