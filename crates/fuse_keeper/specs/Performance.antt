-- What a keeper was asked to perform (defined by this project).
use Rattle.std.specs.Prelude.{ℕ, List, [], ◌∷◌, ◌++◌}
use Rattle.fuse_keeper.specs.History.{Entry}

-- a group, and the settled ids that were handed on with it
pub record Performance : Type 0 where
  pub group : List Entry
  pub settled : List ℕ

-- an empty group isn't performed
abbrev pub performances_of : List Entry → List ℕ → List Performance
performances_of [] settled = []
performances_of (e ∷ es) settled = record { group = e ∷ es; settled = settled } ∷ []

-- `performed a b list`: b is a later state of a, which was asked to perform these on the way, and nothing else
pub record IsPerformanceLog {K : Type 0} (performed : K → K → List Performance → Type 0) : Type 0 where
  pub none : (k : K) → performed k k []
  pub onward : (a b c : K) (before after : List Performance) → performed a b before → performed b c after → performed a c (before ++ after)
