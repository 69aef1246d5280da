-- Steps within a transaction of a guest's store, while the guest is asked (defined by this project).
use Rattle.std.specs.Prelude.{◌≡◌, ◌++◌, ℕ, ⊤, List, [], Result, IfOk, IfErr}
use Rattle.sqlite.specs.Effect.{Database}
use Rattle.sqlite.specs.State.{State}
use Rattle.fuse_keeper.specs.declared.fault.StoreFault.{StoreFault}
use Rattle.fuse_guest.specs.Talk.{Guest}
use Rattle.fuse_store_tables.specs.Moves.{InsideAs, Takes}
use Rattle.guest_talk.specs.Events.{Event}
use Rattle.guest_talk.specs.TalkState.{TalkState}
use Rattle.guest_store.specs.Asks.{Asking, AskedBy}
use Rattle.guest_store.specs.StoreState.{HeldOf, StoredFor, SaidAll, StoreState, IsHonest, IsPlain, SaysNothing}

-- what was held, and a guest that said all that was said
pub record Witness (G : Guest) (t : TalkState) : Type 0 where
  pub number : ℕ
  pub holding : HeldOf G
  pub said : SaidAll G t

-- the databases that hold what was made of it
abbrev pub StoredAs : (G : Guest) (t : TalkState) → (HeldOf G → HeldOf G) → Witness G t → Database → Type 0
StoredAs G t f w = StoredFor G w.number (f w.holding)

abbrev pub Inside : (G : Guest) → ℕ → HeldOf G → State → Type 0
Inside G n y s = InsideAs (StoredFor G n y) s

-- the tables, while nothing is said
abbrev pub with_talk : State → TalkState → StoreState
with_talk s t = record { tables = s; talk = t }

-- more was said, by a guest of the same READY
pub record Spoke (old new : TalkState) : Type 0 where
  pub ready : new.ready ≡ old.ready
  pub more : List Event
  pub grows : new.events ≡ old.events ++ more

-- what a step makes of what is held, what its value is then, where its fault says nothing of the store, and what the guest is asked
pub record Effect (G : Guest) (A : Type 0) : Type 1 where
  pub made : HeldOf G → HeldOf G
  pub told : HeldOf G → A → Type 0
  pub safe : HeldOf G → Type 0
  pub asks : HeldOf G → List Asking

-- of a step whose faults never say anything of the store
abbrev pub asking_by : {A : Type 0} → (G : Guest) → (HeldOf G → List Asking) → (HeldOf G → HeldOf G) → (HeldOf G → A → Type 0) → Effect G A
asking_by G asks made told = record { made = made; told = told; safe = λ y. ⊤; asks = asks }

-- and where the guest is asked nothing
abbrev pub making : {A : Type 0} → (G : Guest) → (HeldOf G → HeldOf G) → (HeldOf G → A → Type 0) → Effect G A
making G made told = asking_by G (λ y. []) made told

pub record Steps {A : Type 0} (G : Guest) (e : Effect G A) (old new : StoreState) (r : Result A StoreFault) : Type 0 where
  pub takes : Takes (StoredAs G new.talk (λ y. y)) (StoredAs G new.talk e.made) old.tables new.tables r
  pub spoke : Spoke old.talk new.talk
  pub value : IfOk r (λ x. IsHonest G new → (n : ℕ) (y : HeldOf G) → Inside G n y old.tables → e.told y x)
  pub fault : IfErr r (λ f. IsHonest G new → (n : ℕ) (y : HeldOf G) → Inside G n y old.tables → e.safe y → SaysNothing f)
  pub plain : IfErr r (λ f. IsHonest G new → (n : ℕ) (y : HeldOf G) → Inside G n y old.tables → IsPlain f)
  pub asked : IsHonest G new → (n : ℕ) (y : HeldOf G) → Inside G n y old.tables → AskedBy r (e.asks y) old.talk new.talk
