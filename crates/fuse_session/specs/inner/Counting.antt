-- Counts that are added up (defined by this project).
use Rattle.std.specs.Prelude.{ℕ, ◌≤◌, Option, Some, None}
use Rattle.fuse_session.specs.declared.counts.SessionCounts.{SessionCounts}
use Rattle.fuse_session.specs.Counting.{plus}

-- with more counts, if there are some
abbrev pub plus_if : SessionCounts → Option SessionCounts → Option SessionCounts
plus_if a None = None
plus_if a (Some b) = Some (plus a b)

-- no count is above n
pub record IsBelow (c : SessionCounts) (n : ℕ) : Type 0 where
  pub messages : c.messages ≤ n
  pub kept : c.kept ≤ n
  pub repeated : c.repeated ≤ n
  pub seen : c.seen ≤ n
  pub bare : c.bare ≤ n
  pub silent : c.silent ≤ n
  pub interrupts : c.interrupts ≤ n
