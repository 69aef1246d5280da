-- What a hold keeps of the bytes that wait (defined by this project).
use Rattle.std.specs.Prelude.{◌≡◌, ◌≤◌, ◌<◌, ◌*◌, ℕ, Bool, true, false, length, take, Vec, vec_capacity}
use Rattle.std.specs.Global.{Global}
use Rattle.fuse_request.specs.Stream.{is_whole}
use Rattle.fuse_request.specs.declared.header.TheConstants.{MAX_MESSAGE as max_message}

-- what is kept of the bytes that wait: so many of them were handed on
pub record IsHold (is_lost : Bool) (waiting : Vec ℕ Global) (given : ℕ) : Type 0 where
  pub within : given ≤ length waiting.items
  pub stuck : is_whole (take given waiting.items) ≡ false
  pub short : given < max_message
  pub lost : is_lost ≡ true → given ≡ 0
  pub room : 2 * max_message ≤ vec_capacity waiting
