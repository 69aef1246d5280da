-- Outcomes, one event after another.
use Rattle.std.proofs.Common.{◌≡◌, ℕ, suc, ◌+◌, ◌≤◌, ◌<◌, Bool, true, false, List, [], ◌∷◌, ◌++◌, length, map, drop, get_or, Option, Some, refl, sym, ap, subst}
use Rattle.std.proofs.Common.{◌∙◌, append_assoc, length-append, drop-cons, arith}
use Rattle.std.proofs.lemmas.List.{append-nil, map-append, length-map}
use Rattle.fuse_request.specs.Opcodes.{Service}
use Rattle.fuse_wire.specs.declared.id.Id.{Id}
use Rattle.fuse_answer.specs.Said.{Said}
use Rattle.fuse_answer.specs.Wire.{wire, wire_head}
use Rattle.fuse_request.specs.declared.class.Class.{Class}
use Rattle.fuse_request.specs.declared.class.Class.TheVariants.{Silent, Bare, Kept, Seen}
use Rattle.fuse_request.specs.Classes.{class_for}
use Rattle.fuse_keeper.specs.Group.{ids_of}
use Rattle.fuse_keeper.specs.declared.keeper.Done.{Done}
use Rattle.fuse_session.specs.Grouping.{is_performed_class}
use Rattle.fuse_session.specs.inner.Group.{left_by}
use Rattle.fuse_session.specs.Settling.{settles_if}
use Rattle.fuse_session.specs.Processed.{message_id}
use Rattle.fuse_sim.specs.declared.event.Event.{Event}
use Rattle.fuse_sim.specs.declared.event.Outcome.{Outcome}
use Rattle.fuse_sim.specs.Driving.{bytes_given, settles, settles_in, is_taken}
use Rattle.fuse_sim.specs.inner.Running.{answers_in, head_outcome, outcomes_by, HasAnswers, Adds}

-- a head and the body that it announces
pub whole_answer : (a : Said) (unique : ℕ) (head body : List ℕ) → head ≡ wire_head a.errno (length a.body) unique → body ≡ a.body
    → Some (head ++ body) ≡ Some (wire a.errno a.body unique)
unfolding wire
whole_answer a unique head body is same = ap Some (ap (λ h. h ++ body) is ∙ ap (λ (b : List ℕ). wire_head a.errno (length a.body) unique ++ b) same)

-- ---- a loop over the events of a group

next_place : (run : List Event) (i : ℕ) → drop (i + 1) run ≡ drop (suc i) run
next_place run i = let same : i + 1 ≡ suc i = omega arith in ap (λ n. drop n run) same

-- outcomes were added for the first events, and these are those of the others
pub record AddsFirst (old new : List (Option Outcome)) (others whole : List (Option (List ℕ))) : Type 0 where
  pub added : List (Option Outcome)
  pub items : new ≡ old ++ added
  pub are : map bytes_given added ++ others ≡ whole

pub adds_none : (old new : List (Option Outcome)) (whole : List (Option (List ℕ))) → new ≡ old → AddsFirst old new whole whole
adds_none old new whole is = record { added = []; items = is ∙ sym (append-nil old); are = refl }

pub adds_one : (V : Service) (old new new' : List (Option Outcome)) (one : Option Outcome) (run : List Event) (i : ℕ) (e : Event) (answers answers' : List Said)
    (whole : List (Option (List ℕ))) → i < length run → e ≡ get_or run i e
    → AddsFirst old new (outcomes_by V (drop i run) answers) whole → bytes_given one ≡ head_outcome V e answers → answers' ≡ left_by (class_for V e.bytes) answers
    → new' ≡ new ++ one ∷ []
    → AddsFirst old new' (outcomes_by V (drop (i + 1) run) answers') whole
adds_one V old new new' one run i e answers answers' whole lt at so_far is left pushed =
    let parts : drop i run ≡ e ∷ drop (suc i) run = drop-cons run i e lt ∙ ap (λ x. x ∷ drop (suc i) run) (sym at) in
    let next : drop (i + 1) run ≡ drop (suc i) run = next_place run i in
    record {
      added = so_far.added ++ one ∷ [];
      items = pushed ∙ ap (λ r. r ++ one ∷ []) so_far.items ∙ append_assoc old so_far.added (one ∷ []);
      are = ap (λ r. r ++ outcomes_by V (drop (i + 1) run) answers') (map-append bytes_given so_far.added (one ∷ []))
          ∙ append_assoc (map bytes_given so_far.added) (bytes_given one ∷ []) (outcomes_by V (drop (i + 1) run) answers')
          ∙ ap (λ o. map bytes_given so_far.added ++ o ∷ outcomes_by V (drop (i + 1) run) answers') is
          ∙ ap (λ a. map bytes_given so_far.added ++ head_outcome V e answers ∷ outcomes_by V (drop (i + 1) run) a) left
          ∙ ap (λ r. map bytes_given so_far.added ++ head_outcome V e answers ∷ outcomes_by V r (left_by (class_for V e.bytes) answers)) next
          ∙ ap (λ r. map bytes_given so_far.added ++ outcomes_by V r answers) (sym parts)
          ∙ so_far.are;
    }

pub adds_all : (V : Service) (old new : List (Option Outcome)) (run : List Event) (i : ℕ) (answers : List Said) (whole : List (Option (List ℕ))) → drop i run ≡ []
    → AddsFirst old new (outcomes_by V (drop i run) answers) whole → Adds old new whole
adds_all V old new run i answers whole end so_far = record {
  added = so_far.added;
  items = so_far.items;
  are = sym (append-nil (map bytes_given so_far.added)) ∙ ap (λ r. map bytes_given so_far.added ++ outcomes_by V r answers) (sym end) ∙ so_far.are;
}

-- the ids that the events settle
pub settled_one : (V : Service) (new new' whole : List ℕ) (run : List Event) (i : ℕ) (e : Event) → i < length run → e ≡ get_or run i e
    → new ++ settles_in V (drop i run) ≡ whole → new' ≡ new ++ settles V e → new' ++ settles_in V (drop (i + 1) run) ≡ whole
settled_one V new new' whole run i e lt at so_far is =
    let parts : drop i run ≡ e ∷ drop (suc i) run = drop-cons run i e lt ∙ ap (λ x. x ∷ drop (suc i) run) (sym at) in
    let next : drop (i + 1) run ≡ drop (suc i) run = next_place run i in
    ap (λ (n : List ℕ). n ++ settles_in V (drop (i + 1) run)) is ∙ append_assoc new (settles V e) (settles_in V (drop (i + 1) run))
    ∙ ap (λ (r : List Event). new ++ (settles V e ++ settles_in V r)) next ∙ ap (λ (r : List Event). new ++ settles_in V r) (sym parts) ∙ so_far

pub settled_all : (V : Service) (new whole : List ℕ) (run : List Event) (i : ℕ) → drop i run ≡ [] → new ++ settles_in V (drop i run) ≡ whole → new ≡ whole
settled_all V new whole run i end so_far = sym (append-nil new) ∙ ap (λ r. new ++ settles_in V r) (sym end) ∙ so_far

-- the answers that are left are enough
pub answers_here : (V : Service) (run : List Event) (i : ℕ) (e : Event) (answers : List Said) → i < length run → e ≡ get_or run i e → HasAnswers V (drop i run) answers
    → HasAnswers V (e ∷ drop (i + 1) run) answers
answers_here V run i e answers lt at has =
    let parts : drop i run ≡ e ∷ drop (suc i) run = drop-cons run i e lt ∙ ap (λ x. x ∷ drop (suc i) run) (sym at) in
    let next : drop (suc i) run ≡ drop (i + 1) run = sym (next_place run i) in
    subst (λ r. HasAnswers V r answers) (parts ∙ ap (λ r. e ∷ r) next) has

fewer_by : (taken : Bool) (class : Class) (id : ℕ) (answers : List Said) → (is_performed_class class ≡ true → 0 < length answers)
    → length (settles_if taken class id) + length (left_by class answers) ≤ length answers
fewer_by true Silent id answers has = omega arith
fewer_by true (Bare errno) id answers has = omega arith
fewer_by true Kept id [] has = has refl
fewer_by true Kept id (a ∷ answers) has = omega arith
fewer_by true Seen id [] has = omega arith
fewer_by true Seen id (a ∷ answers) has = omega arith
fewer_by false Silent id answers has = omega arith
fewer_by false (Bare errno) id answers has = omega arith
fewer_by false Kept id [] has = omega arith
fewer_by false Kept id (a ∷ answers) has = omega arith
fewer_by false Seen id [] has = omega arith
fewer_by false Seen id (a ∷ answers) has = omega arith

-- an id takes the place of its answer
pub places_left : (V : Service) (e : Event) (pending pending' : List Id) (answers answers' : List Done) (n : ℕ) → (is_performed_class (class_for V e.bytes) ≡ true → 0 < length (answers_in answers))
    → answers_in answers' ≡ left_by (class_for V e.bytes) (answers_in answers)
    → ids_of pending' ≡ ids_of pending ++ settles V e → length pending + length answers ≤ n → length pending' + length answers' ≤ n
places_left V e pending pending' answers answers' n has left is few =
    omega (
      arith,
      fewer_by (is_taken e.fate) (class_for V e.bytes) (message_id e.bytes) (answers_in answers) has,
      ap length left,
      ap length is,
      length-append (ids_of pending) (settles V e),
      length-map pending (λ (id : Id). id.0),
      length-map pending' (λ (id : Id). id.0),
      length-map answers (λ (d : Done). d.answer),
      length-map answers' (λ (d : Done). d.answer),
      few,
    )
