-- What stays of the bytes that wait once some were handed on (defined by this project).
use Rattle.std.specs.Prelude.{◌≡◌, ◌≤◌, ◌<◌, ◌||◌, ℕ, Bool, true, if◌then◌else◌, [], length, take, drop, Vec, vec_capacity}
use Rattle.std.specs.Global.{Global}
use Rattle.fuse_request.specs.Stream.{cut}
use Rattle.fuse_request.specs.declared.header.TheConstants.{MAX_MESSAGE as max_message}
use Rattle.alone_source.specs.declared.hold.Passed.{Passed}
use Rattle.alone_source.specs.Holding.{is_bad}

-- bytes were passed: the last of those handed on, of which no message is whole, or none after a bad length, stay before the others
pub record Passes (old new : Vec ℕ Global) (to : ℕ) (was_lost : Bool) (passed : Passed) : Type 0 where
  pub lost : passed.is_lost ≡ (was_lost || is_bad (cut (take to old.items)).1)
  pub begun : take passed.given new.items ≡ (if passed.is_lost then [] else (cut (take to old.items)).1)
  pub held : drop passed.given new.items ≡ drop to old.items
  pub within : passed.given ≤ length new.items
  pub short : passed.given < max_message
  pub none : passed.is_lost ≡ true → passed.given ≡ 0
  pub room : vec_capacity new ≡ vec_capacity old
