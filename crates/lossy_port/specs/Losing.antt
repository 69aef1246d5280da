-- Answers that are sent on a line, of which some are lost (defined by this project).
use Rattle.std.specs.Prelude.{◌≡◌, ◌⊎◌, ◌<◌, ◌≤◌, ◌+◌, ℕ, ◌-◌, ◌==◌, if◌then◌else◌, List, [], ◌∷◌, ◌++◌, vec_capacity, vec_len}
use Rattle.fuse_request.specs.Stream.{joined}
use Rattle.lossy_port.specs.declared.line.Line.{Line}

-- an answer gets through, unless it is the next to be lost
abbrev pub through_of : ℕ → List ℕ → List ℕ
through_of left answer = if left == 1 then [] else answer

-- the next one to be lost after it
abbrev pub lost_then : ℕ → ℕ → ℕ
lost_then every left = if left == 1 then every else left - 1

-- the ones of several that get through, and the next one to be lost after them
abbrev pub through : ℕ → ℕ → List (List ℕ) → List ℕ
through every left [] = []
through every left (answer ∷ more) = through_of left answer ++ through every (lost_then every left) more

abbrev pub lost_after : ℕ → ℕ → List (List ℕ) → ℕ
lost_after every left [] = left
lost_after every left (answer ∷ more) = lost_after every (lost_then every left) more

-- these were, one after the other
pub record Delivers (old new : Line) (answers : List (List ℕ)) : Type 0 where
  pub sent : new.sent.items ≡ old.sent.items ++ joined answers
  pub delivered : new.delivered.items ≡ old.delivered.items ++ through old.every old.left answers
  pub every : new.every ≡ old.every
  pub left : new.left ≡ lost_after old.every old.left answers

-- so many more bytes fit what it has allocated, or don't
abbrev pub HasRoom : Line → ℕ → Type 0
HasRoom l n = (vec_len l.sent + n ≤ vec_capacity l.sent) × (vec_len l.delivered + n ≤ vec_capacity l.delivered)

abbrev pub LacksRoom : Line → ℕ → Type 0
LacksRoom l n = (vec_capacity l.sent < vec_len l.sent + n) ⊎ (vec_capacity l.delivered < vec_len l.delivered + n)
