-- What came of a request, clause by clause.
use Rattle.std.proofs.Common.{◌≡◌, List, ◌++◌, false, Result, Ok, Err, refl, subst}
use Rattle.std.specs.Prelude.{IfOk, IfErr, IfSome, OnOk}
use Rattle.guest_frames.specs.Frames.{AnswerContent}
use Rattle.guest_talk.specs.declared.fault.AskFault.{AskFault}
use Rattle.guest_talk.specs.declared.fault.AskFault.TheVariants.{Unsayable}
use Rattle.guest_talk.specs.Asking.{EndsBy, guest_fault, store_fault, is_askable}
use Rattle.guest_talk.specs.Events.{Event}
use Rattle.guest_talk.specs.TalkState.{TalkState}
use Rattle.guest_talk.specs.inner.Writes.{IsStoreFault}
use Rattle.guest_talk.specs.inner.Turns.{LooksBy}
use Rattle.guest_talk.specs.inner.Turning.{Asking, Answered, Failed}

-- an answer as it was said, or a fault
pub record Came {A : Type 0} (old new : TalkState) (q : Asking) (said : A → AnswerContent) (r : Result A AskFault) : Type 0 where
  pub ok : IfOk r (λ a. Answered old new q (said a))
  pub err : IfErr r (Failed old new q)

pub record Clauses {A : Type 0} (old new : TalkState) (q : Asking) (said : A → AnswerContent) (r : Result A AskFault) : Type 0 where
  pub ok : IfOk r (λ a. EndsBy old new q.ask q.shown (Ok (said a)))
  pub guest : IfErr r (λ fault. IfSome (guest_fault fault) (λ e. EndsBy old new q.ask q.shown (Err e)))
  pub store : IfErr r (λ fault. IfSome (store_fault fault) (IsStoreFault q.shown q.may_answer))
  pub unsayable : r ≡ Err Unsayable → (is_askable q.ask.asked ≡ false) × (new.events ≡ old.events)
  pub looks : OnOk r q.looks
  pub fails : IfErr r (LooksBy q.looks q.fails)
  pub grows : (more : List Event) × (new.events ≡ old.events ++ more)
  pub ready : new.ready ≡ old.ready

isnt_ok : {A : Type 0} (old new : TalkState) (q : Asking) (r : Result A AskFault) → IfErr r (Failed old new q) → r ≡ Err Unsayable
    → (is_askable q.ask.asked ≡ false) × (new.events ≡ old.events)
isnt_ok old new q r err same =
    let failed : Failed old new q Unsayable = subst (λ x. IfErr x (Failed old new q)) same err in
    failed.unsayable refl

pub clauses : {A : Type 0} (old new : TalkState) (q : Asking) (said : A → AnswerContent) (r : Result A AskFault) → Came old new q said r
    → Clauses old new q said r
clauses old new q said (Ok a) came = record {
  ok = came.ok.ends;
  guest = tt;
  store = tt;
  unsayable = λ same. isnt_ok old new q (Ok a) came.err same;
  looks = came.ok.looks;
  fails = tt;
  grows = (_, came.ok.ends.noted);
  ready = came.ok.ready;
}
clauses old new q said (Err e) came = record {
  ok = tt;
  guest = came.err.guest;
  store = came.err.store;
  unsayable = λ same. isnt_ok old new q (Err e) came.err same;
  looks = tt;
  fails = came.err.looks;
  grows = came.err.grows;
  ready = came.err.ready;
}
