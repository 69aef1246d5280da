-- What one read, write or flush does (defined by this project).
use Rattle.std.specs.Prelude.{ℕ, List, Option, Result}
use Rattle.std.specs.Io.{ReadsAtMost, WritesAtMost}
use Rattle.std.specs.Io.KnownBytes.{ReadConsumes, WriteAppends, Keeps}
use Rattle.std.specs.declared.io.Error.{Error}

-- a read with this result gave what was to come, and filled the buffer so
abbrev pub GaveRead : {R : Type 0} → (R → Option (List ℕ)) → R → R → Result ℕ Error → List ℕ → Type 0
GaveRead remaining a b result buffer = ReadsAtMost result buffer × ReadConsumes (remaining a) (remaining b) result buffer

-- a write with this result added to what is held
abbrev pub TookWrite : {W : Type 0} → (W → Option (List ℕ)) → W → W → Result ℕ Error → List ℕ → Type 0
TookWrite contents a b result bytes = WritesAtMost result bytes × WriteAppends (contents a) (contents b) result bytes

-- so does each read
abbrev pub ReadsOnce : {R : Type 0} → (R → Option (List ℕ)) → (R → R → Result ℕ Error → List ℕ → Type 0) → Type 0
ReadsOnce remaining was_read = (a b : _) (result : Result ℕ Error) (buffer : List ℕ) → was_read a b result buffer → GaveRead remaining a b result buffer

-- and each write
abbrev pub WritesOnce : {W : Type 0} → (W → Option (List ℕ)) → (W → W → Result ℕ Error → List ℕ → Type 0) → Type 0
WritesOnce contents was_written = (a b : _) (result : Result ℕ Error) (bytes : List ℕ) → was_written a b result bytes → TookWrite contents a b result bytes

-- a flush keeps what is held
abbrev pub FlushesOnce : {W : Type 0} → (W → Option (List ℕ)) → (W → W → Result (Unit {0}) Error → Type 0) → Type 0
FlushesOnce contents was_flushed = (a b : _) (result : Result (Unit {0}) Error) → was_flushed a b result → Keeps (contents a) (contents b)
