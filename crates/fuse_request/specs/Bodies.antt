-- The fault of a body (defined by this project), by the kinds of bodies: the first one in the order of Malformed.
use Rattle.std.specs.Prelude.{◌-◌, ◌*◌, ◌==◌, ◌||◌, ℕ, nat_lt, if◌then◌else◌, List, [], ◌∷◌, length, drop, Option, Some, None}
use Rattle.fuse_wire.specs.Bytes.{number_of, after_nul}
use Rattle.fuse_request.specs.declared.decoding.Malformed.{Malformed}
use Rattle.fuse_request.specs.declared.decoding.Malformed.TheVariants.{BodyLength, NoNul, AfterNul, CountDiffers}
use Rattle.fuse_request.specs.Lengths.{compat_init_in_size, init_in_size}

-- of n bytes
abbrev pub fixed : ℕ → List ℕ → Option Malformed
fixed n b = if length b == n then None else Some BodyLength

-- of n bytes, and then of the bytes after them
abbrev pub at_least : ℕ → (List ℕ → Option Malformed) → List ℕ → Option Malformed
at_least n after b = if nat_lt (length b) n then Some BodyLength else after (drop n b)

-- by the bytes after the NUL of the last name
abbrev pub last_name_fault : Option (List ℕ) → Option Malformed
last_name_fault None = Some NoNul
last_name_fault (Some []) = None
last_name_fault (Some (x ∷ rest)) = Some AfterNul

-- a name
abbrev pub name_body_fault : List ℕ → Option Malformed
name_body_fault b = last_name_fault (after_nul b)

-- by the bytes after the NUL of the first of two names
abbrev pub second_fault : Option (List ℕ) → Option Malformed
second_fault None = Some NoNul
second_fault (Some rest) = name_body_fault rest

-- two names
abbrev pub names_fault : List ℕ → Option Malformed
names_fault b = second_fault (after_nul b)

-- n bytes, and then as many units as the number of 4 bytes at place k says
abbrev pub counted_units : ℕ → ℕ → ℕ → List ℕ → Option Malformed
counted_units n k unit b =
    if nat_lt (length b) n then Some BodyLength
    else if unit * number_of 4 (drop k b) == length b - n then None
    else Some CountDiffers

-- INIT's, of one of its two lengths
abbrev pub init_fault : List ℕ → Option Malformed
init_fault b = if length b == compat_init_in_size || length b == init_in_size then None else Some BodyLength
