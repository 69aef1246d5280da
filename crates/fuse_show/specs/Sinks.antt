-- What is written to a sink (defined by this project).
use Rattle.std.specs.Prelude.{◌≡◌, ◌≢◌, ◌⊎◌, ℕ, List, [], ◌∷◌, ◌++◌, take, Result, Ok, Err}
use Rattle.std.specs.List.{flat_map}
use Rattle.std.specs.declared.io.Error.{Error}

-- one write after the other, each of a slice, with the number of its bytes that were taken
abbrev pub Wrote : {W : Type 0} → (W → W → Result ℕ Error → List ℕ → Type 0) → W → W → List (List ℕ × ℕ) → Type 0
Wrote written a b [] = b ≡ a
Wrote written a b (w ∷ ws) = (mid : _) × written a mid (Ok w.1) w.0 × Wrote written mid b ws

-- writes took just these bytes
pub record TookBytes {W : Type 0} (written : W → W → Result ℕ Error → List ℕ → Type 0) (a b : W) (bytes : List ℕ) : Type 0 where
  pub writes : List (List ℕ × ℕ)
  pub calls : Wrote written a b writes
  pub taken : flat_map (λ w. take w.1 w.0) writes ≡ bytes

-- a write took nothing
abbrev pub TookNone : Result ℕ Error → Type 0
TookNone (Ok n) = n ≡ 0
TookNone (Err e) = Unit {0}

-- a write failed: of some bytes it took none, or it answered an error
pub record WriteFails {W : Type 0} (written : W → W → Result ℕ Error → List ℕ → Type 0) (a b : W) : Type 0 where
  pub slice : List ℕ
  pub some : slice ≢ []
  pub write : Result ℕ Error
  pub was : written a b write slice
  pub none : TookNone write

-- how an output ended: with a flush, with a call that failed, or with neither
pub data Way : Type 0 where
  Flushed : Way
  Failed : Way
  Left : Way

abbrev pub LastCall : {W : Type 0} → (W → W → Result ℕ Error → List ℕ → Type 0) → (W → W → Result (Unit {0}) Error → Type 0) → W → W → Way → Type 0
LastCall written flushed a b Flushed = flushed a b (Ok tt)
LastCall written flushed a b Failed = WriteFails written a b ⊎ ((e : Error) × flushed a b (Err e))
LastCall written flushed a b Left = b ≡ a

-- bytes of which this is so were taken, by writes that went well, and the output ended so
pub record Outputs {W : Type 0} (written : W → W → Result ℕ Error → List ℕ → Type 0) (flushed : W → W → Result (Unit {0}) Error → Type 0) (a b : W)
    (way : Way) (P : List ℕ → Type 0) : Type 0 where
  pub bytes : List ℕ
  pub mid : W
  pub takes : TookBytes written a mid bytes
  pub last : LastCall written flushed mid b way
  pub so : P bytes

-- the first bytes of a text
abbrev pub IsPartOf : List ℕ → List ℕ → Type 0
IsPartOf bytes text = (rest : List ℕ) × (text ≡ bytes ++ rest)
