-- Messages that are processed, and the bytes that are sent for them (defined by this project).
use Rattle.std.specs.Prelude.{◌≡◌, ◌⊎◌, ℕ, Bool, true, false, ◌==◌, List, [], ◌∷◌, ◌++◌, map, Option, Some, None}
use Rattle.std.specs.List.{flat_map}
use Rattle.fuse_wire.specs.Ids.{id_of}
use Rattle.fuse_wire.specs.declared.moment.Moment.{Moment}
use Rattle.fuse_answer.specs.Said.{Said}
use Rattle.fuse_answer.specs.Wire.{wire}
use Rattle.fuse_request.specs.declared.class.Class.{Class}
use Rattle.fuse_request.specs.declared.class.Class.TheVariants.{Silent, Bare, Kept, Seen}
use Rattle.fuse_request.specs.Classes.{class_for, class_if, is_zero}
use Rattle.fuse_request.specs.Header.{raw_of}
use Rattle.fuse_request.specs.Opcodes.{Service}
use Rattle.fuse_request.specs.Places.{asked_at}
use Rattle.fuse_request.specs.Stream.{joined}
use Rattle.fuse_wire.specs.Opcodes.{fuse_destroy}
use Rattle.fuse_keeper.specs.Model.{Model}
use Rattle.fuse_keeper.specs.Group.{HasId}
use Rattle.fuse_keeper.specs.History.{Entry, History, answer_to, after, grown, said}

-- a message, and the moment at which it was processed (any, where it is neither kept nor seen)
pub record Timed : Type 0 where
  pub bytes : List ℕ
  pub moment : Moment

abbrev pub bytes_of : List Timed → List (List ℕ)
bytes_of ts = map (λ t. t.bytes) ts

abbrev pub unique_of : List ℕ → ℕ
unique_of bytes = (raw_of bytes).unique

abbrev pub message_id : List ℕ → ℕ
message_id bytes = id_of (unique_of bytes)

abbrev pub message_entry : List ℕ → Moment → Entry
message_entry bytes moment = record { asked = asked_at bytes; moment = moment }

abbrev pub timed_entry : Timed → Entry
timed_entry t = message_entry t.bytes t.moment

-- only a kept message adds to the history
abbrev pub entry_if : Class → Entry → List Entry
entry_if Silent e = []
entry_if (Bare errno) e = []
entry_if Kept e = e ∷ []
entry_if Seen e = []

-- `V` says which opcodes the file system serves beyond the profile, and which it sees
abbrev pub entries_at : Service → Timed → List Entry
entries_at V t = entry_if (class_for V t.bytes) (timed_entry t)

abbrev pub kept_in : Service → List Timed → List Entry
kept_in V ts = flat_map (entries_at V) ts

-- kept and seen ones are performed, in order
abbrev pub performed_if : Class → Entry → List Entry
performed_if Silent e = []
performed_if (Bare errno) e = []
performed_if Kept e = e ∷ []
performed_if Seen e = e ∷ []

abbrev pub performed_of : Service → List Timed → List Entry
performed_of V ts = flat_map (λ t. performed_if (class_for V t.bytes) (timed_entry t)) ts

-- the answer of a class, by the one said of the id, and by the one of the state
abbrev pub answer_by : Class → Option Said → Said → ℕ → List ℕ
answer_by Silent o a unique = []
answer_by (Bare errno) o a unique = wire errno.0 [] unique
answer_by Kept None a unique = []
answer_by Kept (Some known) a unique = wire known.errno known.body unique
answer_by Seen o a unique = wire a.errno a.body unique

-- the answer to a message that comes after the history h, where g is the history in the end: what g says of a kept one, and what the
-- state after h answers to a seen one
abbrev pub answered : (M : Model) → M.State → History → History → Timed → List ℕ
answered M s g h t =
    answer_by (class_for M.service t.bytes) (said M s g (message_id t.bytes)) (answer_to M (after M s h) (timed_entry t)) (unique_of t.bytes)

-- the answers to messages that come after the history h
abbrev pub answers_to : (M : Model) → M.State → History → History → List Timed → List (List ℕ)
answers_to M s g h [] = []
answers_to M s g h (t ∷ ts) = answered M s g h t ∷ answers_to M s g (grown h (entries_at M.service t)) ts

-- the answers where just these are added
abbrev pub own_answers : (M : Model) → M.State → History → List Timed → List (List ℕ)
own_answers M s h ts = answers_to M s (grown h (kept_in M.service ts)) h ts

-- the answer to a message stays when the history grows after it
abbrev pub AnswersStay : (M : Model) → Type 0
AnswersStay M = (s : M.State) (h : History) (t : Timed) (more : List Entry)
    → answered M s (grown (grown h (entries_at M.service t)) more) h t ≡ answered M s (grown h (entries_at M.service t)) h t

-- a kept or a seen message that isn't zero has an id
abbrev pub PerformedHaveIds : Type 0
PerformedHaveIds = (V : Service) (bytes : List ℕ) (moment : Moment) (seen : Bool) → class_for V bytes ≡ class_if seen → is_zero bytes ≡ false
    → HasId (message_entry bytes moment)

-- the bytes that are to be sent for messages
abbrev pub out : (M : Model) → M.State → History → List Timed → List ℕ
out M s h ts = joined (own_answers M s h ts)

-- a kept DESTROY, and one that is answered without an error
abbrev pub destroys_by : Class → ℕ → Bool
destroys_by Silent opcode = false
destroys_by (Bare errno) opcode = false
destroys_by Kept opcode = opcode == fuse_destroy
destroys_by Seen opcode = false

abbrev pub destroys : Service → List ℕ → Bool
destroys V bytes = destroys_by (class_for V bytes) (raw_of bytes).opcode

abbrev pub says_zero : Option Said → Bool
says_zero None = false
says_zero (Some a) = a.errno == 0

abbrev pub EndsSession : (M : Model) → M.State → History → Timed → Type 0
EndsSession M s g t = (destroys M.service t.bytes ≡ true) × (says_zero (said M s g (message_id t.bytes)) ≡ true)

-- processed to the end: none is zero, and none ends the session
abbrev pub GoesOn : (M : Model) → M.State → History → List Timed → Type 0
GoesOn M s h [] = Unit {0}
GoesOn M s h (t ∷ ts) = (is_zero t.bytes ≡ false) × (¬ EndsSession M s (grown h (entries_at M.service t)) t) × GoesOn M s (grown h (entries_at M.service t)) ts

-- processed: none is zero, and nothing comes after one that ends the session
abbrev pub Works : (M : Model) → M.State → History → List Timed → Type 0
Works M s h [] = Unit {0}
Works M s h (t ∷ ts) = (is_zero t.bytes ≡ false) × ((ts ≡ []) ⊎ (¬ EndsSession M s (grown h (entries_at M.service t)) t)) × Works M s (grown h (entries_at M.service t)) ts

-- the last message ends the session
pub record EndsLast (M : Model) (s : M.State) (h : History) (timed : List Timed) : Type 0 where
  pub earlier : List Timed
  pub one : Timed
  pub parts : timed ≡ earlier ++ one ∷ []
  pub ends : EndsSession M s (grown h (kept_in M.service timed)) one

-- the last message is a kept DESTROY
pub record LastDestroys (V : Service) (timed : List Timed) : Type 0 where
  pub earlier : List Timed
  pub one : Timed
  pub parts : timed ≡ earlier ++ one ∷ []
  pub destroy : destroys V one.bytes ≡ true

-- the next message is zero
abbrev pub StartsZero : List (List ℕ) → Type 0
StartsZero [] = ⊥
StartsZero (m ∷ ms) = is_zero m ≡ true

-- the moments of kept and seen messages, in order
abbrev pub moment_if : Class → Moment → List Moment
moment_if Silent t = []
moment_if (Bare errno) t = []
moment_if Kept t = t ∷ []
moment_if Seen t = t ∷ []

abbrev pub moments_in : Service → List Timed → List Moment
moments_in V ts = flat_map (λ t. moment_if (class_for V t.bytes) t.moment) ts
