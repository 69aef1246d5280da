-- What the committed talks make of the pairs, said without the guest (defined by this project: the guest protocol).
use Rattle.std.specs.Prelude.{◌≡◌, ◌==◌, ℕ, Bool, true, false, if◌then◌else◌, List, [], ◌∷◌, map, Option, Some, None, is_none, Err}
use Rattle.std.specs.List.{AllByRecursion}
use Rattle.fuse_request.specs.Act.{Act}
use Rattle.fuse_request.specs.Act as acts
use Rattle.fuse_answer.specs.Said.{Said}
use Rattle.fuse_init.specs.declared.negotiation.Negotiated.{Negotiated}
use Rattle.fuse_init.specs.declared.negotiation.Negotiated.TheVariants.{Agreed, Again, Refused}
use Rattle.guest_frames.specs.declared.ready.Ready.{Ready}
use Rattle.fuse_keeper.specs.History.{Entry, History, entry_id, after, said}
use Rattle.fuse_guest.specs.declared.fault.TalkFault.TheVariants.{Ended}
use Rattle.fuse_guest.specs.Agreement.{agree_for}
use Rattle.fuse_guest.specs.Talk.{Guest, Ending, handed, checked_answer}
use Rattle.fuse_guest.specs.GuestModel.{GuestState, GuestDone, own_fault, done_with, done_by, guest_model}
use Rattle.fuse_guest.specs.Conversations.{Conversation, AreToldOf, IsCompleted, AgreesOn, ending_by, IsRightConversation, AreSeparate}

-- a request, and the conversation about it if the guest was asked
pub record Talked : Type 0 where
  pub entry : Entry
  pub talk : Option Conversation

-- ---- what the engine made of them

-- how a talk ended; it doesn't matter where there was none
abbrev pub end_of_talk : Ready → Act → Option Conversation → Ending
end_of_talk r act None = Err Ended
end_of_talk r act (Some c) = checked_answer r act (ending_by c.last)

abbrev pub talk_done : Ready → GuestState → Talked → GuestDone
talk_done r s t = done_with r s t.entry.asked (end_of_talk r t.entry.asked.act t.talk)

-- the state after talks, each over what the ones before it left
abbrev pub after_talks : Ready → GuestState → List Talked → GuestState
after_talks r s [] = s
after_talks r s (t ∷ ts) = after_talks r (talk_done r s t).state ts

-- the answer to the first one of an id
abbrev pub said_in_talks : Ready → GuestState → List Talked → ℕ → Option Said
said_in_talks r s [] i = None
said_in_talks r s (t ∷ ts) i = if entry_id t.entry == i then Some (talk_done r s t).said else said_in_talks r (talk_done r s t).state ts i

-- ---- the premise

abbrev pub is_agreed : Negotiated → Bool
is_agreed (Agreed out settings) = true
is_agreed (Again out) = false
is_agreed (Refused errno) = false

-- the guest is asked
abbrev pub is_asked : Ready → GuestState → Act → Bool
is_asked r s (acts.Init offer) = is_agreed (agree_for r offer)
is_asked r s acts.Destroy = false
is_asked r s act = is_none (own_fault r s act)

-- a whole conversation about this request, which showed the pairs of this state: a duty of the engine
pub record IsTalkOf (s : GuestState) (e : Entry) (c : Conversation) : Type 0 where
  pub asked : c.asked ≡ handed e.asked
  pub now : c.now ≡ e.moment
  pub told : AreToldOf s.pairs c.trips
  pub completed : IsCompleted c

abbrev pub IsTalkAt : Ready → GuestState → Entry → Option Conversation → Type 0
IsTalkAt r s e None = is_asked r s e.asked.act ≡ false
IsTalkAt r s e (Some c) = IsTalkOf s e c

-- each in the pairs that stand there
abbrev pub AreTalksInTurn : Ready → GuestState → List Talked → Type 0
AreTalksInTurn r s [] = Unit {0}
AreTalksInTurn r s (t ∷ ts) = IsTalkAt r s t.entry t.talk × AreTalksInTurn r (talk_done r s t).state ts

-- and the guest agrees with it
abbrev pub AgreesAt : Guest → GuestState → Entry → Option Conversation → Type 0
AgreesAt G s e None = IsTalkAt G.ready s e None
AgreesAt G s e (Some c) = IsTalkAt G.ready s e (Some c) × AgreesOn G c

abbrev pub AgreesInTurn : Guest → GuestState → List Talked → Type 0
AgreesInTurn G s [] = Unit {0}
AgreesInTurn G s (t ∷ ts) = AgreesAt G s t.entry t.talk × AgreesInTurn G (talk_done G.ready s t).state ts

-- ---- then the model says no more than that

abbrev pub entries_talked : List Talked → History
entries_talked ts = map (λ t. t.entry) ts

-- the effect and the answer of one request; the pairs after a history; and the answer of each id, which a resend has too
pub record TalksAreModel : Type 0 where
  pub one : (G : Guest) (s : GuestState) (t : Talked) → AgreesAt G s t.entry t.talk
      → done_by G s t.entry.asked t.entry.moment ≡ talk_done G.ready s t
  pub state : (G : Guest) (s : GuestState) (ts : List Talked) → AgreesInTurn G s ts
      → after (guest_model G) s (entries_talked ts) ≡ after_talks G.ready s ts
  pub answers : (G : Guest) (s : GuestState) (ts : List Talked) (i : ℕ) → AgreesInTurn G s ts
      → said (guest_model G) s (entries_talked ts) i ≡ said_in_talks G.ready s ts i

-- ---- and the premise can be met

abbrev pub with_talk : Option Conversation → List Conversation → List Conversation
with_talk None cs = cs
with_talk (Some c) cs = c ∷ cs

abbrev pub conversations_of : List Talked → List Conversation
conversations_of [] = []
conversations_of (t ∷ ts) = with_talk t.talk (conversations_of ts)

-- whatever came of the talks, some guest agrees with all of them in turn
abbrev pub PremiseIsMet : Type 0
PremiseIsMet = (r : Ready) (s : GuestState) (ts : List Talked) → AreTalksInTurn r s ts → AllByRecursion IsRightConversation (conversations_of ts)
    → AreSeparate (conversations_of ts) → (G : Guest) × (G.ready ≡ r) × AgreesInTurn G s ts
