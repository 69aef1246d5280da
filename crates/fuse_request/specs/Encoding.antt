-- The request that is read from an encoded message (defined by this project).
use Rattle.std.specs.Prelude.{◌≡◌, ℕ, None, List}
use Rattle.fuse_request.specs.Act.{Asked}
use Rattle.fuse_request.specs.Faults.{first_fault}
use Rattle.fuse_request.specs.Places.{asked_at}

-- the message has no fault, and the request stands at its places: by its contract `decode` answers just that request
abbrev pub ReadsAs : List ℕ → Asked → Type 0
ReadsAs message v = (first_fault message ≡ None) × (asked_at message ≡ v)
