-- The lines of a script, as they are read (defined by this project).
use Rattle.std.specs.Prelude.{◌≡◌, ◌≢◌, ◌⊎◌, ℕ, List, [], ◌∷◌, ◌++◌, map, All}
use Rattle.std.specs.Borrow.{Bor}
use Rattle.fuse_sim.specs.declared.event.Event.{Event}
use Rattle.fuse_commands.specs.Scripts.{IsSkipped, Writes}

-- the byte is not among these
abbrev pub Lacks : ℕ → List ℕ → Type 0
Lacks b bytes = All (λ x. x ≢ b) bytes

-- one more line was read after these events
abbrev pub TookLine : List ℕ → List Event → List Event → Type 0
TookLine line old new = (IsSkipped line × (new ≡ old)) ⊎ ((e : Event) × Writes line e × (new ≡ old ++ e ∷ []))

abbrev pub parts_in : List (Bor (List ℕ)) → List (List ℕ)
parts_in parts = map (λ part. part.now) parts
