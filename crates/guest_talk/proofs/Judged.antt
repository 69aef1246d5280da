-- What comes of a frame.
use Rattle.std.proofs.Common.{◌≡◌, ℕ, List, Option, Some, None, refl, sym, ap}
use Rattle.fuse_request.specs.Act.{Act}
use Rattle.guest_frames.specs.declared.fault.GuestFault.TheVariants.{NotDue}
use Rattle.guest_frames.specs.declared.ready.Ready.{Ready}
use Rattle.guest_frames.specs.Frames.{Frame, of_ready, of_get, of_scan, of_answer, ScanContent, AnswerContent}
use Rattle.fuse_guest.specs.declared.fault.TalkFault.{TalkFault}
use Rattle.fuse_guest.specs.declared.fault.TalkFault.TheVariants as talks
use Rattle.fuse_guest.specs.Talk.{answer_fault, unless_fault}
use Rattle.guest_talk.specs.declared.judging.Judged.TheVariants.{Asks, Answers}
use Rattle.guest_talk.specs.inner.Turns.{IsJudged, IsJudgedWrong}

pub get_asks : (r : Ready) (act : Act) (f : Frame) (keys : List (List ℕ)) → of_get keys ≡ f → IsJudged r act f Asks
get_asks r act f keys is = rw (← is) refl

pub scan_asks : (r : Ready) (act : Act) (f : Frame) (s : ScanContent) → of_scan s ≡ f → IsJudged r act f Asks
scan_asks r act f s is = rw (← is) refl

pub ready_is_wrong : (r : Ready) (act : Act) (f : Frame) (x : Ready) (kind : ℕ) → of_ready x ≡ f → kind ≡ 2
    → IsJudgedWrong r act f (talks.Frame (NotDue kind))
ready_is_wrong r act f x kind is two = rw (← is, two) (record { over = refl; ends = refl })

pub answer_is_right : (r : Ready) (act : Act) (f : Frame) (a : AnswerContent) → of_answer a ≡ f → answer_fault r act a ≡ None → IsJudged r act f Answers
answer_is_right r act f a is none = (a, sym is, ap (λ (o : Option TalkFault). unless_fault o a) none)

pub answer_is_wrong : (r : Ready) (act : Act) (f : Frame) (a : AnswerContent) (fault : TalkFault) → of_answer a ≡ f
    → answer_fault r act a ≡ Some fault → IsJudgedWrong r act f fault
answer_is_wrong r act f a fault is some = rw (← is) (record { over = refl; ends = ap (λ (o : Option TalkFault). unless_fault o a) some })
