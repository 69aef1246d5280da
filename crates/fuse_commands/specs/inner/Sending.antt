-- The answers and counts of a session over a stream (defined by this project).
use Rattle.std.specs.Prelude.{◌≡◌, ℕ, List, [], ◌∷◌}
use Rattle.fuse_answer.specs.Laws.{BeginsWithLen}
use Rattle.fuse_request.specs.Stream.{joined}
use Rattle.fuse_session.specs.declared.counts.SessionCounts.{SessionCounts}

-- these answers were sent, and these are the counts
abbrev pub SendsAnswers : List ℕ → SessionCounts → List (List ℕ) → SessionCounts → Type 0
SendsAnswers sent counts answers counts' = (sent ≡ joined answers) × (counts ≡ counts')

-- nothing, or an answer that begins with its own length
abbrev pub IsAnswer : List ℕ → Type 0
IsAnswer [] = Unit {0}
IsAnswer (x ∷ xs) = BeginsWithLen (x ∷ xs)
