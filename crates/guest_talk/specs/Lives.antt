-- What passed in the lives of guests, and a guest that agrees with all of it (defined by this project: the guest protocol, 'Deaths').
use Rattle.std.specs.Prelude.{◌≡◌, ◌≢◌, ℕ, Bool, false, List, [], ◌∷◌, ◌++◌, map, bytes_eq}
use Rattle.std.specs.List.{flat_map, AllByRecursion}
use Rattle.guest_frames.specs.declared.ready.Ready.{Ready}
use Rattle.guest_frames.specs.Frames.{frame_kind, frame_bytes}
use Rattle.guest_frames.specs.Kinds.{request_kind}
use Rattle.fuse_guest.specs.Talk.{Guest, Turn, Says, Fails}
use Rattle.fuse_guest.specs.Conversations.{Conversation}
use Rattle.guest_talk.specs.Events.{Event, request_frame, talk_events, IsWhole, AgreesWithAll}

-- a conversation, and how often its request was asked before
pub record CountedTalk : Type 0 where
  pub count : ℕ
  pub c : Conversation

abbrev pub events_of : List CountedTalk → List Event
events_of ts = flat_map (λ t. talk_events t.count t.c) ts

-- what is noted of one life: of these conversations all, or all up to some event
pub record Life : Type 0 where
  pub events : List Event
  pub talks : List CountedTalk
  pub missing : List Event
  pub joins : events ++ missing ≡ events_of talks

abbrev pub talked_in : Life → List Conversation
talked_in l = map (λ t. t.c) l.talks

-- ---- what is known of them

-- no guest sends a REQUEST
abbrev pub IsNoRequest : Turn → Type 0
IsNoRequest (Says f) = frame_kind f ≢ request_kind
IsNoRequest (Fails fault) = Unit {0}

pub record IsTalk (t : CountedTalk) : Type 0 where
  pub whole : IsWhole t.c
  pub last : IsNoRequest t.c.last

abbrev pub AreTalks : Life → Type 0
AreTalks l = AllByRecursion IsTalk l.talks

-- both are asked by the same bytes, but for the count
abbrev pub request_bytes : Conversation → List ℕ
request_bytes c = frame_bytes (request_frame c.asked c.now 0)

abbrev pub are_alike : Conversation → Conversation → Bool
are_alike c d = bytes_eq (request_bytes c) (request_bytes d)

-- no two are: a request that is asked again is asked at another moment
abbrev pub AreApart : List Conversation → Type 0
AreApart [] = Unit {0}
AreApart (c ∷ cs) = AllByRecursion (λ d. are_alike c d ≡ false) cs × AreApart cs

-- ---- then some guest agrees with each record, whatever was said in these lives

abbrev pub SomeGuestAgrees : Type 0
SomeGuestAgrees = (r : Ready) (lives : List Life) → AllByRecursion AreTalks lives → AreApart (flat_map talked_in lives)
    → (G : Guest) × (G.ready ≡ r) × AllByRecursion (λ l. AgreesWithAll G l.events) lives
