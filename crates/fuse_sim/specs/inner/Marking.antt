-- The place of a pending request, and the bytes of its message as it is sent again (defined by this project).
use Rattle.std.specs.Prelude.{◌≡◌, ◌+◌, ℕ, true, List, ◌∷◌, ◌++◌, length, drop, take, Option, Some, None}
use Rattle.fuse_wire.specs.Bytes.{le, number_of}
use Rattle.fuse_wire.specs.Ids.{id_of}
use Rattle.fuse_wire.specs.Bits.{fuse_unique_resend}
use Rattle.fuse_request.specs.Act.{Asked}
use Rattle.fuse_sim.specs.Pending.{has_unique, owner}

-- the bytes of a message with bit 63 of its unique set
abbrev pub marked_as_resend : List ℕ → List ℕ
marked_as_resend m = take 8 m ++ (le 8 (id_of (number_of 8 (drop 8 m)) + fuse_unique_resend) ++ drop 16 m)

-- the first pending request of this unique stands at a place
abbrev pub StandsFirst : ℕ → List Asked → Option ℕ → Type 0
StandsFirst unique rs None = owner unique rs ≡ None
StandsFirst unique rs (Some place) =
    (before : List Asked) × (one : Asked) × (after : List Asked) × (rs ≡ before ++ one ∷ after) × (length before ≡ place) × (owner unique before ≡ None)
    × (has_unique unique one ≡ true)
