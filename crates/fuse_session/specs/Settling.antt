-- The ids that the answers settle, and the records that stay (defined by this project).
use Rattle.std.specs.Prelude.{◌≡◌, ◌⊎◌, ◌≤◌, ◌||◌, ℕ, Bool, true, false, List, [], ◌∷◌, ◌++◌, length, map, Option, None, IfSome}
use Rattle.std.specs.Io.KnownBytes.{Appends, append_known}
use Rattle.fuse_request.specs.declared.class.Class.{Class}
use Rattle.fuse_request.specs.declared.class.Class.TheVariants.{Silent, Bare, Kept, Seen}
use Rattle.fuse_request.specs.Classes.{class_for}
use Rattle.fuse_request.specs.Opcodes.{Service}
use Rattle.fuse_request.specs.Stream.{joined}
use Rattle.fuse_keeper.specs.History.{is_in}
use Rattle.fuse_keeper.specs.Model.{Model, IsOfGoodState}
use Rattle.fuse_keeper.specs.Stands.{Records}
use Rattle.fuse_keeper.specs.KeeperState.{KeeperState}
use Rattle.fuse_session.specs.Port.{PortState}
use Rattle.fuse_session.specs.Processed.{message_id}

-- the whole answer that was sent for a message, and whether a slice of it was answered Gone
pub record Mark : Type 0 where
  pub reply : List ℕ
  pub gone : Bool

abbrev pub replies : List Mark → List (List ℕ)
replies marks = map (λ m. m.reply) marks

-- the id that an answer settles: that of a kept message, where the port confirms or answered that nobody waits for it
abbrev pub settles_if : Bool → Class → ℕ → List ℕ
settles_if false class i = []
settles_if true Silent i = []
settles_if true (Bare errno) i = []
settles_if true Kept i = i ∷ []
settles_if true Seen i = []

abbrev pub settles_by_mark : Service → Bool → List ℕ → Mark → List ℕ
settles_by_mark V confirms m mark = settles_if (confirms || mark.gone) (class_for V m) (message_id m)

-- the ids that are settled by the answers to the first of these messages
abbrev pub settled_in : Service → Bool → List (List ℕ) → List Mark → List ℕ
settled_in V confirms [] marks = []
settled_in V confirms (m ∷ ms) [] = []
settled_in V confirms (m ∷ ms) (mark ∷ marks) = settles_by_mark V confirms m mark ++ settled_in V confirms ms marks

-- whether a kept message comes though its id is settled
abbrev pub comes_again : List ℕ → Class → ℕ → Bool
comes_again t Silent i = false
comes_again t (Bare errno) i = false
comes_again t Kept i = is_in t i
comes_again t Seen i = false

abbrev pub MayCome : Service → List ℕ → List ℕ → Type 0
MayCome V t m = comes_again t (class_for V m) (message_id m) ≡ false

-- no kept message has an id that was settled before, or by the answer to an earlier message
abbrev pub NoneComesAgain : Service → Bool → List ℕ → List (List ℕ) → List Mark → Type 0
NoneComesAgain V confirms t [] marks = Unit {0}
NoneComesAgain V confirms t (m ∷ ms) [] = MayCome V t m × NoneComesAgain V confirms t ms []
NoneComesAgain V confirms t (m ∷ ms) (mark ∷ marks) = MayCome V t m × NoneComesAgain V confirms (t ++ settles_by_mark V confirms m mark) ms marks

-- one place for each answer that was answered Gone: where it ends in the bytes sent, if those are known
abbrev pub PlaceFirst : Bool → Option (List ℕ) → (List ℕ → Type 0) → List ℕ → Type 0
PlaceFirst true sent Later places = (place : ℕ) × (later : List ℕ) × (places ≡ place ∷ later) × IfSome sent (λ bytes. place ≡ length bytes) × Later later
PlaceFirst false sent Later places = Later places

abbrev pub Places : Option (List ℕ) → List Mark → List ℕ → Type 0
Places sent [] places = places ≡ []
Places sent (m ∷ marks) places = PlaceFirst m.gone (append_known sent m.reply) (Places (append_known sent m.reply) marks) places

-- only an answer that has bytes is answered Gone
abbrev pub GoneHaveBytes : List Mark → Type 0
GoneHaveBytes [] = Unit {0}
GoneHaveBytes (m ∷ marks) = (m.reply ≡ [] → m.gone ≡ false) × GoneHaveBytes marks

-- these answers were sent whole, and then a part of another one
pub record Replied (old new : PortState) (marks : List Mark) (part : List ℕ) : Type 0 where
  pub sent : Appends old.sent new.sent (joined (replies marks) ++ part)
  pub some : GoneHaveBytes marks
  pub places : List ℕ
  pub gone : new.gone ≡ old.gone ++ places
  pub placed : Places old.sent marks places
  pub confirms : new.confirms ≡ old.confirms

-- of these answers the first ones were sent whole, and then the next one was begun: this one, or none where it is empty
pub record SentUpTo (answers : List (List ℕ)) (marks : List Mark) (answer : List ℕ) : Type 0 where
  pub later : List (List ℕ)
  pub first : answers ≡ replies marks ++ later
  pub next : (answer ≡ []) ⊎ ((others : List (List ℕ)) × (later ≡ answer ∷ others))

-- of these ids at most 16 have a record, and those are among the second ones
pub record FewHave {M : Model} (k : KeeperState M) (ids more : List ℕ) : Type 0 where
  pub rows : M.Rows
  pub records : Records
  pub held : k.holds rows records
  pub rowed : IsOfGoodState M rows
  pub few : length more ≤ 16
  pub others : (i : ℕ) → is_in ids i ≡ true → is_in more i ≡ false → records i ≡ None

-- of these ids at most 16 have a record
abbrev pub FewRecorded : {M : Model} → KeeperState M → List ℕ → Type 0
FewRecorded k ids = (more : List ℕ) × FewHave k ids more

-- the records are some of those of before, and some of these ids
abbrev pub SomeAndMore : Records → List ℕ → Records → Type 0
SomeAndMore before more records = (i : ℕ) → is_in more i ≡ false → (records i ≡ None) ⊎ (records i ≡ before i)
