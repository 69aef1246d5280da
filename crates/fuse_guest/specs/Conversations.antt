-- Conversations, as engines have them with guests, and the guests that agree with them (defined by this project: the guest protocol).
use Rattle.std.specs.Prelude.{◌≡◌, ◌<◌, ◌+◌, ◌==◌, ◌&&◌, ◌⊎◌, Bool, false, List, [], ◌∷◌, ◌++◌, length, Some, Err, is_some}
use Rattle.std.specs.List.{AllByRecursion}
use Rattle.fuse_wire.specs.declared.moment.Moment.{Moment}
use Rattle.fuse_request.specs.Act.{Asked}
use Rattle.guest_frames.specs.declared.ready.Ready.{Ready}
use Rattle.guest_frames.specs.Frames.{Frame, HasRightParts}
use Rattle.fuse_guest.specs.declared.fault.TalkFault.TheVariants.{TooManyFrames}
use Rattle.fuse_guest.specs.Pairs.{Pairs}
use Rattle.fuse_guest.specs.Talk.{Guest, Turn, Says, Fails, IsRightTurn, Ending, handed, max_frames, after_turn, checked_answer, talk_end}
use Rattle.fuse_guest.specs.Telling.{told_for}

-- a round trip: a GET or a SCAN, and the frame that it got
pub record Trip : Type 0 where
  pub query : Frame
  pub told : Frame

-- a request as it was handed on, its moment, the trips, and what came last
pub record Conversation : Type 0 where
  pub asked : Asked
  pub now : Moment
  pub trips : List Trip
  pub last : Turn

-- ---- the duty of an engine

-- it showed these pairs as they are
abbrev pub AreToldOf : Pairs → List Trip → Type 0
AreToldOf ps trips = AllByRecursion (λ t. told_for ps t.query ≡ Some t.told) trips

-- it went on while the guest had something to ask, and frames left
abbrev pub asks_more : Turn → Bool
asks_more (Says f) = is_some (told_for [] f)
asks_more (Fails fault) = false

pub record IsCompleted (c : Conversation) : Type 0 where
  pub few : length c.trips < max_frames
  pub over : (asks_more c.last ≡ false) ⊎ (length c.trips + 1 ≡ max_frames)

-- ---- the premise on the guest

-- after the frames that it got before
abbrev pub SaysAll : (List Frame → Turn) → List Frame → List Trip → Turn → Type 0
SaysAll says told [] last = says told ≡ last
SaysAll says told (t ∷ ts) last = (says told ≡ Says t.query) × SaysAll says (told ++ t.told ∷ []) ts last

-- this guest says what was said
abbrev pub AgreesOn : Guest → Conversation → Type 0
AgreesOn G c = SaysAll (G.says c.asked c.now) [] c.trips c.last

-- ---- then the engine has the reply of the model

-- how the last turn ends a talk
abbrev pub ending_by : Turn → Ending
ending_by last = after_turn [] (λ told. Err TooManyFrames) last

abbrev pub HasReply : Type 0
HasReply = (G : Guest) (ps : Pairs) (a : Asked) (c : Conversation) → c.asked ≡ handed a → AreToldOf ps c.trips → IsCompleted c → AgreesOn G c
    → talk_end G ps a c.now ≡ checked_answer G.ready a.act (ending_by c.last)

-- ---- and the premise can be met

-- frames that were decoded are within the limits
abbrev pub IsRightConversation : Conversation → Type 0
IsRightConversation c = AllByRecursion (λ t. HasRightParts t.query) c.trips × IsRightTurn c.last

-- its request is of this id and moment
abbrev pub is_about : Asked → Moment → Conversation → Bool
is_about asked now c =
    c.asked.header.unique == asked.header.unique && (c.now.secs == now.secs && c.now.nanos == now.nanos)

-- no two are about one id at one moment. A kept request is committed once
abbrev pub AreSeparate : List Conversation → Type 0
AreSeparate [] = Unit {0}
AreSeparate (c ∷ cs) = AllByRecursion (λ d. is_about d.asked d.now c ≡ false) cs × AreSeparate cs

-- whatever was said, and whatever decided it, some guest says it
abbrev pub OneGuest : Type 0
OneGuest = (r : Ready) (cs : List Conversation) → AllByRecursion IsRightConversation cs → AreSeparate cs
    → (G : Guest) × (G.ready ≡ r) × AllByRecursion (AgreesOn G) cs
