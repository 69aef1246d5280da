-- What a guest is asked of a group, and what passes its pipes then (defined by this project: the guest protocol, 'What the engine does by itself'
-- and 'Deaths').
use Rattle.std.specs.Prelude.{◌≡◌, ◌⊎◌, ◌<◌, ◌≤◌, ◌==◌, ℕ, if◌then◌else◌, List, [], ◌∷◌, ◌++◌, Option, Some, None, Result, Ok, Err}
use Rattle.fuse_wire.specs.Ids.{id_of}
use Rattle.fuse_wire.specs.declared.moment.Moment.{Moment}
use Rattle.fuse_request.specs.Act.{Asked}
use Rattle.fuse_answer.specs.Said.{Said}
use Rattle.guest_frames.specs.declared.ready.Ready.{Ready}
use Rattle.guest_frames.specs.Frames.{AnswerContent}
use Rattle.fuse_keeper.specs.History.{Entry, entry_id, is_seen}
use Rattle.fuse_keeper.specs.declared.fault.StoreFault.{StoreFault}
use Rattle.fuse_guest.specs.Pairs.{Pairs}
use Rattle.fuse_guest.specs.Talk.{Guest}
use Rattle.fuse_guest.specs.GuestModel.{GuestState, guest_model}
use Rattle.fuse_guest.specs.Replayed.{is_asked}
use Rattle.guest_talk.specs.Asking.{Ask, EndsBy}
use Rattle.guest_talk.specs.GivingUp.{GivesUp}
use Rattle.guest_talk.specs.TalkState.{TalkState}
use Rattle.guest_store.specs.declared.store.Deaths.{Deaths}
use Rattle.guest_store.specs.Holding.{records_of}
use Rattle.guest_store.specs.Group.{lot_for, prepared, taken}
use Rattle.guest_store.specs.StoreState.{HeldOf}

-- a request with its moment and how often it ended a guest before, and the pairs as they stand before it
pub record Asking : Type 0 where
  pub ask : Ask
  pub pairs : Pairs

-- ---- which requests are asked

-- how often a request ended a guest, by what `set_deaths` said
abbrev pub deaths_before : Option Deaths → ℕ → ℕ
deaths_before None id = 0
deaths_before (Some d) id = if d.id == id then d.count else 0

abbrev pub asking_of : Option Deaths → Asked → Moment → GuestState → Asking
asking_of deaths asked now s = record { ask = record { asked = asked; now = now; count = deaths_before deaths (id_of asked.header.unique) }; pairs = s.pairs }

-- an entry that has no record, or looks for none: what the engine answers itself isn't asked
abbrev pub asks_one : Ready → Option Deaths → Entry → GuestState → List Asking
asks_one r deaths e s = if is_asked r s e.asked.act then asking_of deaths e.asked e.moment s ∷ [] else []

-- what has a record isn't asked
abbrev pub asks_unless : Option Said → List Asking → List Asking
asks_unless (Some known) asks = []
asks_unless None asks = asks

abbrev pub asks_to : (G : Guest) → Option Deaths → Entry → HeldOf G → List Asking
asks_to G deaths e y =
    if is_seen (guest_model G).service e then asks_one G.ready deaths e y.state
    else asks_unless (records_of y.kept (entry_id e)) (asks_one G.ready deaths e y.state)

-- one entry after another, each over what is held then
abbrev pub asks_of : (G : Guest) → Option Deaths → ℕ → List Entry → HeldOf G → List Asking
asks_of G deaths lot [] y = []
asks_of G deaths lot (e ∷ es) y = asks_to G deaths e y ++ asks_of G deaths lot es (taken lot e y).holding

-- of a whole call
abbrev pub all_asks : (G : Guest) → Option Deaths → Option ℕ → List ℕ → List Entry → HeldOf G → List Asking
all_asks G deaths lot ids es y = asks_of G deaths (lot_for lot y) es (prepared lot ids y)

-- ---- what passes

-- the guest was asked, each GET and each SCAN got what these pairs show, and it gave a right ANSWER
pub record IsAsked (old new : TalkState) (a : Asking) : Type 0 where
  pub answer : AnswerContent
  pub ends : EndsBy old new a.ask (λ ps. ps ≡ a.pairs) (Ok answer)

-- it is noted as one whose guest ended, and no byte is written or read
pub record IsGivenUp (old new : TalkState) (a : Asking) : Type 0 where
  pub gives : GivesUp old new a.ask
  pub unread : new.coming ≡ old.coming
  pub unwritten : new.sent ≡ old.sent

-- it is asked, unless it ended three guests
pub record IsTalkedOf (old new : TalkState) (a : Asking) : Type 0 where
  pub asked : a.ask.count < 3 → IsAsked old new a
  pub given_up : 3 ≤ a.ask.count → IsGivenUp old new a

-- one after another, and nothing else
abbrev pub AreAsked : List Asking → TalkState → TalkState → Type 0
AreAsked [] old new = new ≡ old
AreAsked (a ∷ asks) old new = (mid : TalkState) × IsTalkedOf old mid a × AreAsked asks mid new

-- while it was asked, the call failed; where it was given up no byte is written or read
abbrev pub BreaksOff : TalkState → TalkState → Asking → Type 0
BreaksOff old new a = 3 ≤ a.ask.count → (new.coming ≡ old.coming) × (new.sent ≡ old.sent)

-- nothing more passed, or something of the next one
abbrev pub StopsAt : List Asking → TalkState → TalkState → Type 0
StopsAt [] old new = new ≡ old
StopsAt (a ∷ asks) old new = (new ≡ old) ⊎ BreaksOff old new a

-- those before were asked, and the call failed
pub record AreAskedUntil (asks : List Asking) (old new : TalkState) : Type 0 where
  pub before : List Asking
  pub later : List Asking
  pub split : asks ≡ before ++ later
  pub mid : TalkState
  pub asked : AreAsked before old mid
  pub stops : StopsAt later mid new

-- of a call that ends so
abbrev pub AskedBy : {A : Type 0} → Result A StoreFault → List Asking → TalkState → TalkState → Type 0
AskedBy (Ok x) asks old new = AreAsked asks old new
AskedBy (Err f) asks old new = AreAskedUntil asks old new
