-- How talks end: an answer that is taken is right, and one to a seen request changes nothing.
use Rattle.std.proofs.Common.{◌≡◌, ℕ, zero, suc, Bool, true, false, List, [], ◌∷◌, ◌++◌, length, Option, Some, None, Ok, Err, refl}
use Rattle.std.specs.Prelude.{IfOk, not, ◌&&◌, ◌==◌, if◌then◌else◌}
use Rattle.std.proofs.lemmas.Bool.{eqb-true, eqb-false, not-true, not-false}
use Rattle.std.proofs.lemmas.List.{nil_from_length}
use Rattle.fuse_wire.specs.declared.moment.Moment.{Moment}
use Rattle.fuse_request.specs.Act.{Act, Asked, opcode_of}
use Rattle.guest_frames.specs.declared.ready.Ready.{Ready}
use Rattle.guest_frames.specs.Frames.{Frame, of_get, of_scan, of_answer, AnswerContent, IsRightAnswer}
use Rattle.fuse_guest.specs.declared.fault.TalkFault.{TalkFault}
use Rattle.fuse_guest.specs.Pairs.{Pairs}
use Rattle.fuse_guest.specs.Service.{is_seen_by}
use Rattle.fuse_guest.specs.Talk.{Turn, Says, Fails, IsRightTurn, Guest, handed, max_frames, Ending, after_turn, ending, unless_fault, checked_answer, talk_end}

turn_right : (ps : Pairs) (go_on : Frame → Ending) (t : Turn) → IsRightTurn t → ((f : Frame) → IfOk (go_on f) IsRightAnswer)
    → IfOk (after_turn ps go_on t) IsRightAnswer
turn_right ps go_on (Fails fault) right later = tt
turn_right ps go_on (Says (of_answer a)) right later = right
turn_right ps go_on (Says (of_get keys)) right later = later _
turn_right ps go_on (Says (of_scan s)) right later = later _
turn_right ps go_on (Says _) right later = tt

ending_right : (says : List Frame → Turn) → ((told : List Frame) → IsRightTurn (says told)) → (ps : Pairs) (n : ℕ) (told : List Frame)
    → IfOk (ending says ps n told) IsRightAnswer
unfolding ending
ending_right says right ps zero told = tt
ending_right says right ps (suc n) told = turn_right ps _ (says told) (right told) (λ f. ending_right says right ps n (told ++ f ∷ []))

-- ---- an answer that is taken

pub record IsTaken (r : Ready) (act : Act) (a : AnswerContent) : Type 0 where
  pub right : IsRightAnswer a
  pub quiet : is_seen_by r (opcode_of act) ≡ true → a.changes ≡ []

unless_taken : (r : Ready) (act : Act) (o : Option TalkFault) (a : AnswerContent) → (o ≡ None → IsTaken r act a) → IfOk (unless_fault o a) (IsTaken r act)
unless_taken r act None a so = so refl
unless_taken r act (Some fault) a so = tt

-- by whether it is an error, and whether it changes what may not change
taken_by : (r : Ready) (act : Act) (error changes : Bool) (x : TalkFault) (o : Option TalkFault) (a : AnswerContent)
    → (error ≡ true → IsTaken r act a) → (changes ≡ false → IsTaken r act a)
    → IfOk (unless_fault (if error then None else if changes then Some x else o) a) (IsTaken r act)
taken_by r act true changes x o a first second = first refl
taken_by r act false true x o a first second = tt
taken_by r act false false x o a first second = unless_taken r act o a (λ is. second refl)

none_changed : (seen : Bool) (a : AnswerContent) → (seen && not (length a.changes == 0)) ≡ false → seen ≡ true → a.changes ≡ []
none_changed true a none is = nil_from_length a.changes (eqb-true (length a.changes) 0 (not-false (length a.changes == 0) none))
none_changed false a none is = absurd cc

ok_taken : (r : Ready) (act : Act) (a : AnswerContent) → IsRightAnswer a → IfOk (checked_answer r act (Ok a)) (IsTaken r act)
ok_taken r act a right =
    taken_by r act (not (a.error == 0)) (is_seen_by r (opcode_of act) && not (length a.changes == 0)) _ _ a
    (λ error. record { right = right; quiet = λ seen. (right.alone (eqb-false a.error 0 (not-true (a.error == 0) error))).0 })
    (λ changes. record { right = right; quiet = none_changed (is_seen_by r (opcode_of act)) a changes })

all_taken : (r : Ready) (act : Act) (e : Ending) → IfOk e IsRightAnswer → IfOk (checked_answer r act e) (IsTaken r act)
all_taken r act (Ok a) right = ok_taken r act a right
all_taken r act (Err fault) right = tt

pub end_taken : (G : Guest) (ps : Pairs) (asked : Asked) (now : Moment) → IfOk (talk_end G ps asked now) (IsTaken G.ready asked.act)
unfolding talk_end
end_taken G ps asked now =
    all_taken G.ready asked.act (ending (G.says (handed asked) now) ps max_frames [])
    (ending_right (G.says (handed asked) now) (G.right (handed asked) now) ps max_frames [])
