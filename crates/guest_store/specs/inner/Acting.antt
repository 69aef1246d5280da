-- One request, as steps of a guest's store (defined by this project).
use Rattle.std.specs.Prelude.{◌≡◌, ℕ, List, [], ◌∷◌, Option, Ok, Err, is_some}
use Rattle.fuse_wire.specs.declared.moment.Moment.{Moment}
use Rattle.fuse_request.specs.Act.{Act, Asked}
use Rattle.fuse_answer.specs.Said.{Said}
use Rattle.guest_frames.specs.Frames.{AnswerContent}
use Rattle.fuse_keeper.specs.History.{Entry, entry_id}
use Rattle.fuse_keeper.specs.declared.keeper.Done.{Done}
use Rattle.fuse_guest.specs.declared.fault.TalkFault.TheVariants.{Ended}
use Rattle.fuse_guest.specs.Talk.{Guest, Ending, talk_end}
use Rattle.fuse_guest.specs.GuestModel.{GuestState, GuestDone, reply_of}
use Rattle.fuse_keeper.specs.declared.fault.StoreFault.{StoreFault}
use Rattle.fuse_keeper.specs.declared.fault.StoreFault.TheVariants.{Guest as GuestFailed}
use Rattle.guest_talk.specs.declared.fault.AskFault.{AskFault}
use Rattle.guest_talk.specs.declared.fault.AskFault.TheVariants as talks
use Rattle.guest_talk.specs.Answered.{said_by}
use Rattle.guest_store.specs.declared.deciding.Decision.{Decision}
use Rattle.guest_store.specs.declared.deciding.Decision.TheVariants.{Refuse, Nothing, Again, Ask, Negotiate}
use Rattle.guest_store.specs.declared.store.Deaths.{Deaths}
use Rattle.guest_store.specs.declared.asking.Reply.{Reply}
use Rattle.guest_store.specs.declared.asking.Reply.TheVariants.{Answered, GivenUp}
use Rattle.guest_store.specs.Asks.{Asking, asking_of, asks_one, asks_to, asks_unless}
use Rattle.guest_store.specs.Holding.{records_of}
use Rattle.guest_store.specs.Group.{with_act, acted_on, said_of, done_newly, taken, taken_by}
use Rattle.guest_store.specs.StoreState.{HeldOf}
use Rattle.guest_store.specs.inner.Deciding.{decided, done_as}
use Rattle.guest_store.specs.inner.Stepping.{Effect, asking_by, making}

-- how a talk ended, of which this came; a request that is given up counts as one whose guest ended
abbrev pub reply_end : Reply → Ending
reply_end (Answered a) = Ok (said_by a)
reply_end GivenUp = Err Ended

-- what a talk without an answer ends the call with
abbrev pub ask_fault : AskFault → StoreFault
ask_fault (talks.Store fault) = fault
ask_fault _ = GuestFailed

abbrev pub asking : (G : Guest) → Option Deaths → Asked → Moment → Effect G Reply
asking G deaths asked now =
    asking_by G (λ y. asking_of deaths asked now y.state ∷ []) (λ y. y) (λ y reply. talk_end G y.state.pairs asked now ≡ reply_end reply)

-- a state in place of the one that is held
abbrev pub with_state : (G : Guest) → GuestState → HeldOf G → HeldOf G
with_state G s y = record y { state = s }

abbrev pub doing_by : (G : Guest) → (GuestState → List Asking) → (GuestState → GuestDone) → Effect G Said
doing_by G asks done =
    asking_by G (λ y. asks y.state) (λ y. with_state G (done y.state).state y) (λ y answer. answer ≡ (done y.state).said)

-- the changes of an ANSWER are made, and its error and body are the answer
abbrev pub answering : (G : Guest) → AnswerContent → Effect G Said
answering G a = doing_by G (λ s. []) (λ s. reply_of s (Ok a))

-- the guest is asked, and what it answers is done
abbrev pub replying : (G : Guest) → Option Deaths → Asked → Moment → Effect G Said
replying G deaths asked now = doing_by G (λ s. asking_of deaths asked now s ∷ []) (λ s. reply_of s (talk_end G s.pairs asked now))

-- a guest is asked where that was decided
abbrev pub asks_decided : Decision → List Asking → List Asking
asks_decided (Refuse errno) asks = []
asks_decided Nothing asks = []
asks_decided (Again out) asks = []
asks_decided Ask asks = asks
asks_decided (Negotiate out settings) asks = asks

-- what was decided about a request
abbrev pub planning : (G : Guest) → Act → Effect G Decision
planning G act = making G (λ y. y) (λ y d. d ≡ decided G.ready (is_some y.state.settings) act)

abbrev pub carrying : (G : Guest) → Option Deaths → Asked → Moment → Decision → Effect G Said
carrying G deaths asked now d =
    doing_by G (λ s. asks_decided d (asking_of deaths asked now s ∷ [])) (λ s. done_as G.ready s (talk_end G s.pairs asked now) d)

-- a request is done
abbrev pub acting : (G : Guest) → Option Deaths → Entry → Effect G Said
acting G deaths e = asking_by G (λ y. asks_one G.ready deaths e y.state) (λ y. with_act e y) (λ y answer. answer ≡ said_of e y)

-- it is taken: seen, or done and recorded under this lot, or answered from its record
abbrev pub taking : (G : Guest) → Option Deaths → ℕ → Entry → Effect G Done
taking G deaths lot e = asking_by G (asks_to G deaths e) (λ y. (taken lot e y).holding) (λ y done. done ≡ (taken lot e y).done)

-- it is done, and recorded under this lot
abbrev pub recording : (G : Guest) → Option Deaths → ℕ → Entry → Effect G Done
recording G deaths lot e =
    asking_by G (λ y. asks_one G.ready deaths e y.state) (λ y. acted_on lot e y) (λ y done. done ≡ done_newly (said_of e y))

-- it is answered from its record, or done and recorded
abbrev pub keeping : (G : Guest) → Option Deaths → ℕ → Entry → Effect G Done
keeping G deaths lot e =
    asking_by G (λ y. asks_unless (records_of y.kept (entry_id e)) (asks_one G.ready deaths e y.state))
    (λ y. (taken_by (records_of y.kept (entry_id e)) lot e y).holding) (λ y done. done ≡ (taken_by (records_of y.kept (entry_id e)) lot e y).done)

-- it is done alone
abbrev pub seeing : (G : Guest) → Option Deaths → Entry → Effect G Done
seeing G deaths e = asking_by G (λ y. asks_one G.ready deaths e y.state) (λ y. with_act e y) (λ y done. done ≡ done_newly (said_of e y))
