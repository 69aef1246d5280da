-- The slices in which answers are handed to a port: each is all that is left of one answer (defined by this project).
use Rattle.std.specs.Prelude.{◌≡◌, ◌≢◌, ◌||◌, ℕ, Bool, false, List, [], ◌∷◌, ◌++◌}
use Rattle.fuse_session.specs.declared.port.Sent.{Sent}
use Rattle.fuse_session.specs.Port.{is_gone}
use Rattle.fuse_session.specs.Transcript.{RestsOf, left_of}
use Rattle.fuse_session.specs.Settling.{Mark}

-- whether one of these was answered Gone
abbrev pub gone_in : List (List ℕ × Sent) → Bool
gone_in [] = false
gone_in (h ∷ more) = is_gone h.1 || gone_in more

-- all of an answer was handed over so
abbrev pub RestsOfWhole : Mark → List (List ℕ × Sent) → Type 0
RestsOfWhole m slices = RestsOf m.reply slices × (left_of m.reply slices ≡ []) × (gone_in slices ≡ m.gone)

-- the slices of these answers, one answer after the other
abbrev pub RestsOfAll : List Mark → List (List ℕ × Sent) → Type 0
RestsOfAll [] slices = slices ≡ []
RestsOfAll (m ∷ marks) slices =
    (first : List (List ℕ × Sent)) × (later : List (List ℕ × Sent)) × (slices ≡ first ++ later) × RestsOfWhole m first × RestsOfAll marks later

-- the slices of these answers, and then those of one that was begun: this one, or none where it is empty. This part of it was sent:
-- what the port took, and maybe some of a slice that failed
pub record RestsOfSome (marks : List Mark) (answer part : List ℕ) (slices : List (List ℕ × Sent)) : Type 0 where
  pub whole : List (List ℕ × Sent)
  pub last : List (List ℕ × Sent)
  pub parts : slices ≡ whole ++ last
  pub answers : RestsOfAll marks whole
  pub begun : RestsOf answer last
  pub left : answer ≢ [] → left_of answer last ≢ []
  pub unsent : List ℕ
  pub sent : answer ≡ part ++ unsent
  pub untaken : (more : List ℕ) × (left_of answer last ≡ more ++ unsent)
