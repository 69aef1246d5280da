-- The talk with a guest about a request (defined by this project: the guest protocol, 'A life' and 'Faults').
use Rattle.std.specs.Prelude.{ℕ, zero, suc, ◌==◌, ◌&&◌, not, if◌then◌else◌, List, [], ◌∷◌, ◌++◌, length, Option, Some, None, Result, Ok, Err}
use Rattle.fuse_wire.specs.declared.moment.Moment.{Moment}
use Rattle.fuse_wire.specs.Ids.{id_of}
use Rattle.fuse_request.specs.Act.{Act, Asked, opcode_of}
use Rattle.fuse_request.specs.AskedSize.{size_asked}
use Rattle.guest_frames.specs.declared.fault.GuestFault.TheVariants.{NotDue}
use Rattle.guest_frames.specs.declared.ready.Ready.{Ready}
use Rattle.guest_frames.specs.Frames.{Frame, of_answer, AnswerContent, frame_kind, HasRightParts}
use Rattle.fuse_guest.specs.declared.fault.TalkFault.{TalkFault}
use Rattle.fuse_guest.specs.declared.fault.TalkFault.TheVariants as faults
use Rattle.fuse_guest.specs.Pairs.{Pairs}
use Rattle.fuse_guest.specs.RightBodies.{body_kind, has_right_size, is_right_content, has_right_names}
use Rattle.fuse_guest.specs.Service.{is_seen_by}
use Rattle.fuse_guest.specs.Telling.{told_for}

-- what comes where a guest owes a frame: a frame; or none, since the guest ended, or since what it wrote is none
pub data Turn : Type 0 where
  Says : Frame → Turn
  Fails : TalkFault → Turn

-- a frame is within the limits; one that isn't is a fault
abbrev pub IsRightTurn : Turn → Type 0
IsRightTurn (Says f) = HasRightParts f
IsRightTurn (Fails fault) = Unit {0}

-- A guest: its READY, and what comes of it for a request at a moment, after the VALUES and PAIRS that it got for that request. What
-- else it goes by, such as a clock or the count of REQUEST, isn't named: what it said then is what this guest says.
pub record Guest : Type 0 where
  pub ready : Ready
  pub says : Asked → Moment → List Frame → Turn
  pub right : (asked : Asked) (now : Moment) (told : List Frame) → IsRightTurn (says asked now told)

-- the request as it is handed on: bit 63 of its unique is cleared, and its extensions are cut off
abbrev pub handed : Asked → Asked
handed a = record { header = record a.header { unique = id_of a.header.unique }; act = a.act; ext = [] }

-- ---- the frames of a request

-- a request has at most so many frames of the guest
abbrev pub max_frames : ℕ
max_frames = 65536

abbrev pub Ending : Type 0
Ending = Result AnswerContent TalkFault

abbrev pub go_on_after : ℕ → (Frame → Ending) → Option Frame → Ending
go_on_after kind go_on (Some told) = go_on told
go_on_after kind go_on None = Err (faults.Frame (NotDue kind))

-- ANSWER ends the talk; GET and SCAN get a frame, and it goes on; nothing else is due
abbrev pub after_turn : Pairs → (Frame → Ending) → Turn → Ending
after_turn ps go_on (Says (of_answer a)) = Ok a
after_turn ps go_on (Says f) = go_on_after (frame_kind f) go_on (told_for ps f)
after_turn ps go_on (Fails fault) = Err fault

-- over these pairs, with n frames left, after those that it got
unfoldable pub ending : (List Frame → Turn) → Pairs → ℕ → List Frame → Ending
ending says ps zero told = Err faults.TooManyFrames
ending says ps (suc n) told = after_turn ps (λ f. ending says ps n (told ++ f ∷ [])) (says told)

-- ---- the answer

-- the fault of a body: its size, then its content
abbrev pub fault_of_body : Act → List ℕ → Option TalkFault
fault_of_body act b =
    if not (has_right_size (opcode_of act) (size_asked act) (length b)) then Some (faults.Body (length b) (opcode_of act))
    else if not (is_right_content (body_kind (opcode_of act) (size_asked act)) act b && has_right_names (opcode_of act) (size_asked act) b)
    then Some (faults.BadBody (opcode_of act))
    else None

-- the fault of a right ANSWER: changes where nothing may change, then its body
abbrev pub answer_fault : Ready → Act → AnswerContent → Option TalkFault
answer_fault r act a =
    if not (a.error == 0) then None
    else if is_seen_by r (opcode_of act) && not (length a.changes == 0) then Some (faults.ChangesOf (opcode_of act))
    else fault_of_body act a.body

abbrev pub unless_fault : Option TalkFault → AnswerContent → Ending
unless_fault None a = Ok a
unless_fault (Some fault) a = Err fault

abbrev pub checked_answer : Ready → Act → Ending → Ending
checked_answer r act (Ok a) = unless_fault (answer_fault r act a) a
checked_answer r act (Err fault) = Err fault

-- how the talk about a request ends
unfoldable pub talk_end : Guest → Pairs → Asked → Moment → Ending
talk_end G ps asked now = checked_answer G.ready asked.act (ending (G.says (handed asked) now) ps max_frames [])
