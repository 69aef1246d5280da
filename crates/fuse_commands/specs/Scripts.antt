-- Scripts: a line for each event (defined by this project).
use Rattle.std.specs.Prelude.{◌≡◌, ◌⊎◌, ◌<◌, ◌^◌, ◌==◌, ℕ, suc, false, codes, List, [], ◌∷◌, ◌++◌, length, Ok}
use Rattle.std.specs.List.{slice_split}
use Rattle.std.specs.Str.Parse.{AllDigits, digits_value}
use Rattle.hex.specs.Hex.{decode_of}
use Rattle.fuse_request.specs.Classes.{is_zero}
use Rattle.fuse_request.specs.Stream.{cut}
use Rattle.fuse_sim.specs.declared.event.Event.{Event}
use Rattle.fuse_sim.specs.declared.event.Fate.{Fate}
use Rattle.fuse_sim.specs.declared.event.Fate.TheVariants.{Answered, AnswerLost, DiedBeforeCommit, DiedAfterCommit}

-- the lines; after a last line feed there is an empty line, which is skipped
abbrev pub lines_of : List ℕ → List (List ℕ)
lines_of script = slice_split (λ b. b == 10) script

abbrev pub word_of : Fate → List ℕ
word_of Answered = codes "answered"
word_of AnswerLost = codes "lost"
word_of DiedBeforeCommit = codes "before"
word_of DiedAfterCommit = codes "after"

-- decimal digits alone, and their value
pub record IsDecimal (text : List ℕ) (number : ℕ) : Type 0 where
  pub some : 0 < length text
  pub digits : AllDigits 10 text
  pub value : number ≡ digits_value 10 text
  pub fits : number < 2 ^ 64

-- the word of a fate, a space, seconds, a space, and a text
pub record HasParts (line : List ℕ) (fate : Fate) (secs : ℕ) (text : List ℕ) : Type 0 where
  pub digits : List ℕ
  pub parts : line ≡ word_of fate ++ 32 ∷ (digits ++ 32 ∷ text)
  pub seconds : IsDecimal digits secs

-- one message with an id, in hexadecimal of either case
pub record IsHexOf (text m : List ℕ) : Type 0 where
  pub decoded : decode_of text ≡ Ok m
  pub whole : cut m ≡ (m ∷ [], [])
  pub named : is_zero m ≡ false

-- a line writes an event
pub record Writes (line : List ℕ) (e : Event) : Type 0 where
  pub text : List ℕ
  pub parts : HasParts line e.fate e.moment.secs text
  pub nanos : e.moment.nanos ≡ 0
  pub message : IsHexOf text e.bytes

-- an empty line, or a comment, which begins with #
abbrev pub IsSkipped : List ℕ → Type 0
IsSkipped [] = Unit {0}
IsSkipped (b ∷ bs) = b ≡ 35

-- the events of lines, in order
abbrev pub WritesAll : List (List ℕ) → List Event → Type 0
WritesAll [] events = events ≡ []
WritesAll (line ∷ lines) events =
    (IsSkipped line × WritesAll lines events) ⊎ ((e : Event) × (rest : List Event) × (events ≡ e ∷ rest) × Writes line e × WritesAll lines rest)

-- a malformed line
abbrev pub IsBad : List ℕ → Type 0
IsBad line = (¬ IsSkipped line) × ((e : Event) → ¬ Writes line e)

-- the number of the first bad line, counted from n
abbrev pub FirstBad : ℕ → List (List ℕ) → ℕ → Type 0
FirstBad n [] bad = ⊥
FirstBad n (line ∷ lines) bad = (IsBad line × (bad ≡ n)) ⊎ ((¬ IsBad line) × FirstBad (suc n) lines bad)
