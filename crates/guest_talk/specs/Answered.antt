-- What the owned bytes of a frame and of an ANSWER say (defined by this project).
use Rattle.std.specs.Prelude.{[]}
use Rattle.std.specs.Option.{option_map_or}
use Rattle.std.specs.Result.{result_ok}
use Rattle.guest_frames.specs.Frames.{AnswerContent, Frame, of_get}
use Rattle.guest_frames.specs.Reading.{payload_in, guest_answer_in}
use Rattle.guest_talk.specs.declared.incoming.Incoming.{Incoming}
use Rattle.guest_talk.specs.declared.guest_answer.GuestAnswer.{GuestAnswer}

abbrev pub no_answer : AnswerContent
no_answer = record { error = 0; changes = []; body = [] }

-- the payload is that of a frame
abbrev pub incoming_frame : Incoming → Frame
incoming_frame came = option_map_or (λ f. f) (result_ok (payload_in came.kind came.payload.items)) (of_get [])

-- the payload is that of an ANSWER
abbrev pub said_by : GuestAnswer → AnswerContent
said_by a = option_map_or (λ x. x) (result_ok (guest_answer_in a.payload.items)) no_answer
