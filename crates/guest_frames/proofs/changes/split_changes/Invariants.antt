use Rattle.std.proofs.Common.{◌≡◌, ◌-◌}
use Rattle.guest_frames.specs.Reading.{items_first, change_first}
use Rattle.guest_frames.proofs.Items.{rest_of}
use Rattle.guest_frames.proofs.changes.split_changes.Given as goal

abbrev pub invariant-loop : goal.invariant-loop
invariant-loop l = rest_of (items_first change_first (l.count - l.counter) l.rest) ≡ rest_of (items_first change_first l.count l.bytes)
