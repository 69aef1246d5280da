-- Where the guest agrees with each talk, the model does what the engine made of the talks.
use Rattle.std.proofs.Common.{◌≡◌, ℕ, false, List, [], ◌∷◌, Option, Some, None, Err, refl, sym, ap, ◌∙◌, subst}
use Rattle.std.specs.Prelude.{◌==◌, if◌then◌else◌, is_none}
use Rattle.std.specs.List.{AllByRecursion}
use Rattle.fuse_wire.specs.declared.errno.Errno.{Errno}
use Rattle.fuse_wire.specs.declared.moment.Moment.{Moment}
use Rattle.fuse_request.specs.Act.{Act}
use Rattle.fuse_request.specs.Act as acts
use Rattle.fuse_answer.specs.Said.{Said}
use Rattle.fuse_init.specs.declared.negotiation.Negotiated.{Negotiated}
use Rattle.fuse_init.specs.declared.negotiation.Negotiated.TheVariants.{Agreed, Again, Refused}
use Rattle.guest_frames.specs.declared.ready.Ready.{Ready}
use Rattle.fuse_keeper.specs.History.{entry_id, after, said}
use Rattle.fuse_guest.specs.declared.fault.TalkFault.TheVariants.{Ended}
use Rattle.fuse_guest.specs.Agreement.{agree_for}
use Rattle.fuse_guest.specs.Talk.{Guest, Ending, talk_end}
use Rattle.fuse_guest.specs.GuestModel.{GuestState, GuestDone, own_fault, unless_own, init_ended, act_with, done_with, done_by, guest_model}
use Rattle.fuse_guest.specs.Conversations.{Conversation, AgreesOn}
use Rattle.fuse_guest.specs.Replayed.{Talked, end_of_talk, talk_done, after_talks, said_in_talks, is_agreed, is_asked, IsTalkOf, IsTalkAt, AreTalksInTurn, AgreesAt, AgreesInTurn, entries_talked, with_talk, conversations_of, PremiseIsMet}
use Rattle.fuse_guest.proofs.Agreeing.{has_reply, one_guest}

-- ---- where the guest isn't asked the ending doesn't matter

init_unasked : (r : Ready) (s : GuestState) (x y : Ending) (n : Negotiated) → is_agreed n ≡ false → init_ended r s x n ≡ init_ended r s y n
init_unasked r s x y (Agreed out settings) isnt = absurd cc
init_unasked r s x y (Again out) isnt = refl
init_unasked r s x y (Refused errno) isnt = refl

own_unasked : (o : Option Errno) (s : GuestState) (x y : Ending) → is_none o ≡ false → unless_own o s x ≡ unless_own o s y
own_unasked (Some errno) s x y isnt = refl
own_unasked None s x y isnt = absurd cc

act_unasked : (r : Ready) (s : GuestState) (x y : Ending) (act : Act) → is_asked r s act ≡ false → act_with r s x act ≡ act_with r s y act
act_unasked r s x y (acts.Init offer) isnt = init_unasked r s x y (agree_for r offer) isnt
act_unasked r s x y acts.Destroy isnt = refl
act_unasked r s x y act isnt = own_unasked (own_fault r s act) s x y isnt

-- ---- one request

talk_is : (G : Guest) (s : GuestState) (t : Talked) (c : Conversation) → IsTalkOf s t.entry c × AgreesOn G c
    → talk_end G s.pairs t.entry.asked t.entry.moment ≡ end_of_talk G.ready t.entry.asked.act (Some c)
talk_is G s t c over =
    ap (λ (now : Moment). talk_end G s.pairs t.entry.asked now) (sym over.0.now)
    ∙ has_reply G s.pairs t.entry.asked c over.0.asked over.0.told over.0.completed over.1

one_by : (G : Guest) (s : GuestState) (t : Talked) (talk : Option Conversation) → AgreesAt G s t.entry talk
    → done_by G s t.entry.asked t.entry.moment ≡ done_with G.ready s t.entry.asked (end_of_talk G.ready t.entry.asked.act talk)
unfolding done_with
one_by G s t None unasked = act_unasked G.ready s (talk_end G s.pairs t.entry.asked t.entry.moment) (Err Ended) t.entry.asked.act unasked
one_by G s t (Some c) over = ap (λ (end : Ending). act_with G.ready s end t.entry.asked.act) (talk_is G s t c over)

pub one : (G : Guest) (s : GuestState) (t : Talked) → AgreesAt G s t.entry t.talk → done_by G s t.entry.asked t.entry.moment ≡ talk_done G.ready s t
one G s t agrees = one_by G s t t.talk agrees

-- ---- a history

pub state : (G : Guest) (s : GuestState) (ts : List Talked) → AgreesInTurn G s ts → after (guest_model G) s (entries_talked ts) ≡ after_talks G.ready s ts
unfolding after
state G s [] agrees = refl
state G s (t ∷ ts) agrees =
    ap (λ (d : GuestDone). after (guest_model G) d.state (entries_talked ts)) (one G s t agrees.0)
    ∙ state G (talk_done G.ready s t).state ts agrees.1

pub answers : (G : Guest) (s : GuestState) (ts : List Talked) (i : ℕ) → AgreesInTurn G s ts
    → said (guest_model G) s (entries_talked ts) i ≡ said_in_talks G.ready s ts i
unfolding said
answers G s [] i agrees = refl
answers G s (t ∷ ts) i agrees =
    ap (λ (d : GuestDone). if entry_id t.entry == i then Some d.said else said (guest_model G) d.state (entries_talked ts) i) (one G s t agrees.0)
    ∙ ap (λ (o : Option Said). if entry_id t.entry == i then Some (talk_done G.ready s t).said else o)
    (answers G (talk_done G.ready s t).state ts i agrees.1)

-- ---- one guest agrees with all

agrees_at : (G : Guest) (s : GuestState) (t : Talked) (talk : Option Conversation) (cs : List Conversation) → IsTalkAt G.ready s t.entry talk
    → AllByRecursion (AgreesOn G) (with_talk talk cs) → AgreesAt G s t.entry talk
agrees_at G s t None cs unasked agree = unasked
agrees_at G s t (Some c) cs over agree = (over, agree.0)

others_agree : (G : Guest) (talk : Option Conversation) (cs : List Conversation) → AllByRecursion (AgreesOn G) (with_talk talk cs) → AllByRecursion (AgreesOn G) cs
others_agree G None cs agree = agree
others_agree G (Some c) cs agree = agree.1

agree_in_turn : (G : Guest) (s : GuestState) (ts : List Talked) → AreTalksInTurn G.ready s ts → AllByRecursion (AgreesOn G) (conversations_of ts)
    → AgreesInTurn G s ts
agree_in_turn G s [] talks agree = tt
agree_in_turn G s (t ∷ ts) talks agree = (
  agrees_at G s t t.talk (conversations_of ts) talks.0 agree,
  agree_in_turn G (talk_done G.ready s t).state ts talks.1 (others_agree G t.talk (conversations_of ts) agree),
)

pub premise_is_met : PremiseIsMet
premise_is_met r s ts talks right separate =
    let one = one_guest r (conversations_of ts) right separate in
    (one.0, one.1, agree_in_turn one.0 s ts (subst (λ (x : Ready). AreTalksInTurn x s ts) (sym one.1) talks) one.2)
