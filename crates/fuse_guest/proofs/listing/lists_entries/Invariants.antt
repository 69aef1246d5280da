use Rattle.std.proofs.Common.{◌≡◌, ◌-◌, length}
use Rattle.fuse_guest.specs.RightBodies.{lists_entries}
use Rattle.fuse_guest.proofs.listing.lists_entries.Given as goal

abbrev pub invariant-loop-entry : goal.invariant-loop-entry
invariant-loop-entry l = lists_entries (length l.body - l._entry) l.before l.rest ≡ lists_entries (length l.body) l.before l.body
