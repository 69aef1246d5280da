-- An answer without its unique: an error number and a body (its bounds are defined by this project).
use Rattle.std.specs.Prelude.{◌≡◌, ◌≢◌, ◌≤◌, ℕ, List, [], length}
use Rattle.fuse_wire.specs.Bounds.{max_body_len}

pub record Said : Type 0 where
  pub errno : ℕ
  pub body : List ℕ

-- an error has no body, and a body is no longer than the largest READ
pub record FitsAnswer (a : Said) : Type 0 where
  pub refusal : a.errno ≢ 0 → a.body ≡ []
  pub short : length a.body ≤ max_body_len
