-- One answer that is sent on a line, or none (defined by this project).
use Rattle.std.specs.Prelude.{◌≡◌, ℕ, List, ◌++◌}
use Rattle.lossy_port.specs.declared.line.Line.{Line}
use Rattle.lossy_port.specs.Losing.{through_of, lost_then}

-- one answer was sent
pub record Takes (old new : Line) (answer : List ℕ) : Type 0 where
  pub sent : new.sent.items ≡ old.sent.items ++ answer
  pub delivered : new.delivered.items ≡ old.delivered.items ++ through_of old.left answer
  pub every : new.every ≡ old.every
  pub left : new.left ≡ lost_then old.every old.left

-- none was
pub record Stays (old new : Line) : Type 0 where
  pub sent : new.sent.items ≡ old.sent.items
  pub delivered : new.delivered.items ≡ old.delivered.items
  pub every : new.every ≡ old.every
  pub left : new.left ≡ old.left
