-- How the kernel's side keeps the messages of the requests that are pending (defined by this project).
use Rattle.std.specs.Prelude.{◌≡◌, ℕ, false, List, [], ◌∷◌, All, Vec}
use Rattle.std.specs.Global.{Global}
use Rattle.fuse_request.specs.Canon.{canon}
use Rattle.fuse_request.specs.Places.{asked_at}
use Rattle.fuse_request.specs.Spelling.{Spells}
use Rattle.fuse_keeper.specs.History.{is_in}
use Rattle.fuse_sim.specs.Pending.{is_silent, request_ids, messages_in, requests_in}

-- a message that spells a request which is answered, with zeros where a field isn't used
pub record IsOwed (m : List ℕ) : Type 0 where
  pub spells : Spells (asked_at m) m
  pub canon_is : m ≡ canon (asked_at m)
  pub loud : is_silent (asked_at m) ≡ false

-- no number stands twice
abbrev pub NoneTwice : List ℕ → Type 0
NoneTwice [] = Unit {0}
NoneTwice (x ∷ xs) = (is_in xs x ≡ false) × NoneTwice xs

pub record ArePending (pending : List (Vec ℕ Global)) : Type 0 where
  pub each : All IsOwed (messages_in pending)
  pub once : NoneTwice (request_ids (requests_in pending))
