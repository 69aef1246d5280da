-- What one read of a source does that cuts what another one gives (defined by this project).
use Rattle.std.specs.Prelude.{◌≡◌, ◌<◌, ℕ, zero, suc, min, List, [], ◌∷◌, length, take, Option, Result, Ok, Err}
use Rattle.std.specs.Io.{ReadsAtMost}
use Rattle.std.specs.Io.KnownBytes.{prepend_known}
use Rattle.std.specs.declared.io.Error.{Error}
use Rattle.fuse_request.specs.declared.header.TheConstants.{MAX_MESSAGE as max_message}
use Rattle.alone_source.specs.declared.source.AloneSource.{AloneSource}
use Rattle.alone_source.specs.Holding.{HeldState, HandsOn}

-- the bytes that reads will give: those that are held, and then those of the inner source
abbrev pub remaining_of : {S : Type 0} → (S → Option (List ℕ)) → AloneSource S → Option (List ℕ)
remaining_of remaining a = prepend_known a.hold.held (remaining a.inner)

-- bytes that are held were handed on
abbrev pub HandsSome : HeldState → HeldState → Result ℕ Error → List ℕ → Type 0
HandsSome old new (Ok n) buffer = HandsOn old new n buffer
HandsSome old new (Err e) buffer = ⊥

-- by a read of the inner source that filled this buffer so: its end and its errors come as they came, and its bytes are held at first
abbrev pub PassesOn : Result ℕ Error → List ℕ → HeldState → HeldState → Result ℕ Error → List ℕ → Type 0
PassesOn (Ok zero) into old new result buffer = (result ≡ Ok zero) × (new ≡ old)
PassesOn (Ok (suc n)) into old new result buffer = HandsSome (record old { held = take (suc n) into }) new result buffer
PassesOn (Err e) into old new result buffer = (result ≡ Err e) × (new ≡ old)

-- the inner source was read once, with as much room as there is, but no more than the longest message has
pub record ReadsInner {S : Type 0} (was_read : S → S → Result ℕ Error → List ℕ → Type 0) (a b : AloneSource S) (result : Result ℕ Error)
    (buffer : List ℕ) : Type 0 where
  pub read : Result ℕ Error
  pub into : List ℕ
  pub was : was_read a.inner b.inner read into
  pub room : length into ≡ min (length buffer) max_message
  pub some : 0 < length buffer → 0 < length into
  pub within : ReadsAtMost result buffer
  pub passes : PassesOn read into a.hold b.hold result buffer

-- where bytes are held, they are handed on, and the inner source is left alone; else it is read once
abbrev pub read_by : {S : Type 0} → List ℕ → (S → S → Result ℕ Error → List ℕ → Type 0) → AloneSource S → AloneSource S → Result ℕ Error → List ℕ → Type 0
read_by [] was_read a b result buffer = ReadsInner was_read a b result buffer
read_by (x ∷ xs) was_read a b result buffer = HandsSome a.hold b.hold result buffer × (b.inner ≡ a.inner)

abbrev pub ReadsAlone : {S : Type 0} → (S → S → Result ℕ Error → List ℕ → Type 0) → AloneSource S → AloneSource S → Result ℕ Error → List ℕ → Type 0
ReadsAlone was_read a b result buffer = read_by a.hold.held was_read a b result buffer
